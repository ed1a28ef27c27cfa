-- A term that is read is spelled so, and what is spelled so is read.
use Rattle.std.proofs.Common.{◌≡◌, ℕ, zero, suc, ◌+◌, ◌-◌, ◌^◌, ◌<◌, ◌≤◌, false, cond, ltb, eqb, List, [], ◌∷◌, ◌++◌, length, min, take, drop, refl, sym, ap, subst, ◌∙◌, append_assoc, arith, inl, inr}
use Rattle.std.specs.Prelude.{Ok, Err}
use Rattle.std.specs.Int.{w32, w64, to_be_bytes, from_be_bytes}
use Rattle.std.proofs.lemmas.Bool.{eqb-true, eqb-false, ltb-false, le-ltb}
use Rattle.std.proofs.lemmas.List.{length-append, length-take, take-append-drop}
use Rattle.std.proofs.lemmas.Nat.{from_be_bytes-to_be_bytes_4}
use Rattle.std.proofs.Math.Seq.{take-append_seam, take-append-add}
use Rattle.term_values.specs.declared.Key.{Key}
use Rattle.term_values.specs.declared.Stamp.{Stamp}
use Rattle.term_values.specs.declared.Stamp.TheVariants.{Time, Seq}
use Rattle.term_values.specs.declared.Why.TheVariants as why
use Rattle.term_values.specs.Trees.{Tree, name, stamp, nonce, part, text, tag, blob, tuple, seal, check, Trees, none, item, trees, untrees, count_of, depth_of, greatest_depth}
use Rattle.term_values.proofs.Trees.{count_trees, trees_untrees}
use Rattle.tagged_codec.specs.Faults.{IsKind}
use Rattle.term_values.specs.Limits.{AllFit, Fits, IsKey}
use Rattle.tagged_codec.specs.Grammar.{IsSpelling, key_spelling, spelling, spellings}
use Rattle.tagged_codec.specs.Reading.{◌>>=◌, Read, Stop, byte_at, bytes_at, items_at, key_at, tree_under, name_at, number_at, sealed_at, sized_at, term_at, tuple_at}
use Rattle.tagged_codec.proofs.Fields.{IsBytes, IsBytes-take, bind_ok, guard_ok, chosen, ok_is, Takes, Takes-then, byte_takes, bytes_takes, bytes_again, wide32, wide64, number_takes, number_again, sized_takes, sized_again, key_takes, key_again}

-- ---- the row that a kind chooses

pub data Under (one : List ℕ → Read Tree) (below : ℕ) (start : List ℕ) (kind : ℕ) (bytes : List ℕ) (r : Read Tree) : Type 0 where
  as_name : kind ≡ 0x01 → name_at bytes ≡ r → Under one below start kind bytes r
  as_time : kind ≡ 0x02 → (number_at w64 bytes >>= λ n. Ok (stamp (Time n.0), n.1)) ≡ r → Under one below start kind bytes r
  as_seq : kind ≡ 0x03 → (number_at w64 bytes >>= λ n. Ok (stamp (Seq n.0), n.1)) ≡ r → Under one below start kind bytes r
  as_nonce : kind ≡ 0x04 → (bytes_at 16 bytes >>= λ b. Ok (nonce b.0, b.1)) ≡ r → Under one below start kind bytes r
  as_part : kind ≡ 0x05 → (bytes_at 32 bytes >>= λ p. Ok (part p.0, p.1)) ≡ r → Under one below start kind bytes r
  as_text : kind ≡ 0x06 → (sized_at 1024 why.LongText bytes >>= λ b. Ok (text b.0, b.1)) ≡ r → Under one below start kind bytes r
  as_tag : kind ≡ 0x07 → (bytes_at 4 bytes >>= λ b. Ok (tag b.0, b.1)) ≡ r → Under one below start kind bytes r
  as_tuple : kind ≡ 0x08 → (tuple_at one below bytes >>= λ b. Ok (tuple (trees b.0), b.1)) ≡ r → Under one below start kind bytes r
  as_seal : kind ≡ 0x09 → (sealed_at one below start bytes >>= λ b. Ok (seal b.0.0 b.0.1, b.1)) ≡ r → Under one below start kind bytes r
  as_check : kind ≡ 0x0a → (sealed_at one below start bytes >>= λ b. Ok (check b.0.0 b.0.1, b.1)) ≡ r → Under one below start kind bytes r
  as_blob : kind ≡ 0x0d → (sized_at 4096 why.LongBlob bytes >>= λ b. Ok (blob b.0, b.1)) ≡ r → Under one below start kind bytes r
  as_nothing : (IsKind kind → ⊥) → Err (why.Kind, start) ≡ r → Under one below start kind bytes r

none_of_ten : (k : ℕ) → 1 ≤ k → k ≤ 10 → (k ≡ 1 → ⊥) → (k ≡ 2 → ⊥) → (k ≡ 3 → ⊥) → (k ≡ 4 → ⊥) → (k ≡ 5 → ⊥) → (k ≡ 6 → ⊥) → (k ≡ 7 → ⊥) → (k ≡ 8 → ⊥) → (k ≡ 9 → ⊥) → (k ≡ 10 → ⊥) → ⊥
none_of_ten k low high a b c d e f g h i j = omega arith

pub under : (one : List ℕ → Read Tree) (below : ℕ) (start : List ℕ) (kind : ℕ) (bytes : List ℕ) (r : Read Tree) → tree_under one below start kind bytes ≡ r → Under one below start kind bytes r
unfolding tree_under
under one below start kind bytes r e =
    elim (chosen (eqb kind 1) _ _ _ e) [
      | inl a ↦ as_name (eqb-true kind 1 a.0) a.1
      | inr e1 ↦
          elim (chosen (eqb kind 2) _ _ _ e1.1) [
            | inl a ↦ as_time (eqb-true kind 2 a.0) a.1
            | inr e2 ↦
                elim (chosen (eqb kind 3) _ _ _ e2.1) [
                  | inl a ↦ as_seq (eqb-true kind 3 a.0) a.1
                  | inr e3 ↦
                      elim (chosen (eqb kind 4) _ _ _ e3.1) [
                        | inl a ↦ as_nonce (eqb-true kind 4 a.0) a.1
                        | inr e4 ↦
                            elim (chosen (eqb kind 5) _ _ _ e4.1) [
                              | inl a ↦ as_part (eqb-true kind 5 a.0) a.1
                              | inr e5 ↦
                                  elim (chosen (eqb kind 6) _ _ _ e5.1) [
                                    | inl a ↦ as_text (eqb-true kind 6 a.0) a.1
                                    | inr e6 ↦
                                        elim (chosen (eqb kind 7) _ _ _ e6.1) [
                                          | inl a ↦ as_tag (eqb-true kind 7 a.0) a.1
                                          | inr e7 ↦
                                              elim (chosen (eqb kind 8) _ _ _ e7.1) [
                                                | inl a ↦ as_tuple (eqb-true kind 8 a.0) a.1
                                                | inr e8 ↦
                                                    elim (chosen (eqb kind 9) _ _ _ e8.1) [
                                                      | inl a ↦ as_seal (eqb-true kind 9 a.0) a.1
                                                      | inr e9 ↦
                                                          elim (chosen (eqb kind 10) _ _ _ e9.1) [
                                                            | inl a ↦ as_check (eqb-true kind 10 a.0) a.1
                                                            | inr e10 ↦
                                                                elim (chosen (eqb kind 13) _ _ _ e10.1) [
                                                                  | inl a ↦ as_blob (eqb-true kind 13 a.0) a.1
                                                                  | inr e11 ↦
                                                                      as_nothing (λ h. elim h [ inl r ↦ none_of_ten kind r.0 r.1 (eqb-false kind 1 e1.0) (eqb-false kind 2 e2.0) (eqb-false kind 3 e3.0) (eqb-false kind 4 e4.0) (eqb-false kind 5 e5.0) (eqb-false kind 6 e6.0) (eqb-false kind 7 e7.0) (eqb-false kind 8 e8.0) (eqb-false kind 9 e9.0) (eqb-false kind 10 e10.0) | inr r ↦ eqb-false kind 13 e11.0 r ]) e11.1
                                                                ]
                                                          ]
                                                    ]
                                              ]
                                        ]
                                  ]
                            ]
                      ]
                ]
          ]
    ]

-- ---- what is read is spelled so

-- the front of the bytes is the spelling of a term of at most so many levels
pub record Spelt (left : ℕ) (bytes : List ℕ) (t : Tree) (rest : List ℕ) : Type 0 where
  pub taken : Takes bytes (spelling t) rest
  pub fits : Fits t
  pub depth : depth_of t ≤ left

pub record AllSpelt (left n : ℕ) (bytes : List ℕ) (ts : List Tree) (rest : List ℕ) : Type 0 where
  pub taken : Takes bytes (spellings (trees ts)) rest
  pub fits : AllFit (trees ts)
  pub depth : greatest_depth (trees ts) ≤ left
  pub count : length ts ≡ n

-- a reader of terms that takes spellings
abbrev pub IsSound : ℕ → (List ℕ → Read Tree) → Type 0
IsSound left one = (bytes : List ℕ) (x : Tree × List ℕ) → IsBytes bytes → one bytes ≡ Ok x → Spelt left bytes x.0 x.1

items_take : (left : ℕ) (one : List ℕ → Read Tree) → IsSound left one → (n : ℕ) (bytes : List ℕ) (x : List Tree × List ℕ) → IsBytes bytes → items_at one n bytes ≡ Ok x → AllSpelt left n bytes x.0 x.1
unfolding items_at
items_take left one sound zero bytes x fits e =
    subst (λ (y : List Tree × List ℕ). AllSpelt left 0 bytes y.0 y.1) (ok_is ([], bytes) x e) (record { taken = record { parts = refl; rest_fits = fits }; fits = tt; depth = omega arith; count = refl })
items_take left one sound (suc n) bytes x fits e =
    let a = bind_ok (one bytes) (λ first. items_at one n first.1 >>= λ others. Ok (first.0 ∷ others.0, others.1)) x e in
    let b = bind_ok (items_at one n a.0.1) (λ others. Ok (a.0.0 ∷ others.0, others.1)) x a.2 in
    let first = sound bytes a.0 fits a.1 in
    let others = items_take left one sound n a.0.1 b.0 first.taken.rest_fits b.1 in
    let made : List Tree × List ℕ = (a.0.0 ∷ b.0.0, b.0.1) in
    subst (λ (y : List Tree × List ℕ). AllSpelt left (suc n) bytes y.0 y.1) (ok_is made x b.2) (record {
      taken = Takes-then bytes (spelling a.0.0) a.0.1 (spellings (trees b.0.0)) b.0.1 first.taken others.taken;
      fits = (first.fits, others.fits);
      depth = omega (arith, first.depth, others.depth);
      count = ap suc others.count;
    })

-- what was read behind a kind
abbrev SpeltAs : ℕ → ℕ → List ℕ → Tree × List ℕ → Type 0
SpeltAs left kind bytes x = Spelt (suc left) (kind ∷ bytes) x.0 x.1

-- a field that is read, and the term that is made of it
made_of : {X : Type 0} (left kind : ℕ) (bytes : List ℕ) (read : Read X) (make : X → Tree) (x : Tree × List ℕ)
    → ((y : X × List ℕ) → read ≡ Ok y → SpeltAs left kind bytes (make y.0, y.1))
    → (read >>= λ y. Ok (make y.0, y.1)) ≡ Ok x → SpeltAs left kind bytes x
made_of left kind bytes read make x spells e =
    let a = bind_ok read (λ y. Ok (make y.0, y.1)) x e in
    subst (SpeltAs left kind bytes) (ok_is (make a.0.0, a.0.1) x a.2) (spells a.0 a.1)

headed : (kind number : ℕ) {bytes front rest : List ℕ} → kind ≡ number → Takes bytes front rest → Takes (kind ∷ bytes) (number ∷ front) rest
headed kind number {bytes} {front} {rest} is t = record { parts = ap (λ (k : ℕ). k ∷ bytes) is ∙ ap (λ (l : List ℕ). number ∷ l) t.parts; rest_fits = t.rest_fits }

positive : (n : ℕ) → (n ≡ 0 → ⊥) → 0 < n
positive n h = omega arith

pub not_zero : (n : ℕ) → 0 < n → eqb n 0 ≡ false
not_zero n h = grind (arith, h)

-- a term with nothing below it
atom : {left : ℕ} {bytes : List ℕ} {t : Tree} {rest : List ℕ} → Takes bytes (spelling t) rest → Fits t → depth_of t ≡ 1 → Spelt (suc left) bytes t rest
atom taken fits one = record { taken = taken; fits = fits; depth = omega (arith, one) }

IsBytes-front : (a b : List ℕ) → IsBytes (a ++ b) → IsBytes a
IsBytes-front a b h = subst IsBytes (take-append_seam a b) (IsBytes-take (length a) (a ++ b) h)

-- the four bytes of a name, as they were read
pub record NameRead (bytes high : List ℕ) (low : ℕ) (rest : List ℕ) : Type 0 where
  pub taken : Takes bytes (high ++ low ∷ []) rest
  pub spelled : to_be_bytes w32 (from_be_bytes w32 (high ++ low ∷ [])) ≡ high ++ low ∷ []
  pub small : from_be_bytes w32 (high ++ low ∷ []) < 2 ^ 32

pub name_read : (bytes : List ℕ) (h : List ℕ × List ℕ) (l : ℕ × List ℕ) → IsBytes bytes → bytes_at 3 bytes ≡ Ok h → byte_at h.1 ≡ Ok l → NameRead bytes h.0 l.0 l.1
name_read bytes h l fits e f =
    let t = bytes_takes 3 bytes h fits e in
    let u = byte_takes h.1 l t.0.rest_fits f in
    let q : List ℕ = h.0 ++ l.0 ∷ [] in
    let taken : Takes bytes q l.1 = Takes-then bytes h.0 h.1 (l.0 ∷ []) l.1 t.0 u in
    let q_fits : IsBytes q = IsBytes-front q l.1 (subst IsBytes taken.parts fits) in
    record { taken = taken; spelled = wide32.back q (omega (arith, length-append h.0 (l.0 ∷ []), t.1)) q_fits; small = wide32.below q q_fits }

name_spelt : (left kind : ℕ) (bytes : List ℕ) (x : Tree × List ℕ) → IsBytes bytes → kind ≡ 0x01 → name_at bytes ≡ Ok x → SpeltAs left kind bytes x
unfolding name_at
name_spelt left kind bytes x fits is e =
    let h = bind_ok (bytes_at 3 bytes) _ x e in
    let l = bind_ok (byte_at h.0.1) _ x h.2 in
    let read = name_read bytes h.0 l.0 fits h.1 l.1 in
    let n : ℕ = from_be_bytes w32 (h.0.0 ++ l.0.0 ∷ []) in
    let g = guard_ok (eqb n 0) _ (Ok (name n, l.0.1)) x l.2 in
    let taken : Takes bytes (to_be_bytes w32 n) l.0.1 = subst (λ (q : List ℕ). Takes bytes q l.0.1) (sym read.spelled) read.taken in
    subst (SpeltAs left kind bytes) (ok_is (name n, l.0.1) x g.1) (atom (headed kind 0x01 is taken) (positive n (eqb-false n 0 g.0), read.small) refl)

tuple_takes : (left : ℕ) (one : List ℕ → Read Tree) → IsSound left one → (bytes : List ℕ) (x : List Tree × List ℕ) → IsBytes bytes → tuple_at one left bytes ≡ Ok x
    → Takes bytes (count_of (trees x.0) ∷ spellings (trees x.0)) x.1 × (count_of (trees x.0) ≤ 32) × AllFit (trees x.0) × (greatest_depth (trees x.0) ≤ left)
unfolding tuple_at
tuple_takes left one sound bytes x fits e =
    let n = bind_ok (byte_at bytes) _ x e in
    let first = byte_takes bytes n.0 fits n.1 in
    let g = guard_ok (ltb 32 n.0.0) _ _ x n.2 in
    elim (chosen (eqb n.0.0 0) _ _ _ g.1) [
      | inl a ↦
          let nothing : List Tree × List ℕ = ([], n.0.1) in
          let zero_count : Takes bytes (0 ∷ []) n.0.1 = subst (λ (k : ℕ). Takes bytes (k ∷ []) n.0.1) (eqb-true n.0.0 0 a.0) first in
          subst (λ (y : List Tree × List ℕ). Takes bytes (count_of (trees y.0) ∷ spellings (trees y.0)) y.1 × (count_of (trees y.0) ≤ 32) × AllFit (trees y.0) × (greatest_depth (trees y.0) ≤ left)) (ok_is nothing x a.1)
          (zero_count, omega arith, tt, omega arith)
      | inr c ↦
          let d = guard_ok (eqb left 0) _ (items_at one n.0.0 n.0.1) x c.1 in
          let all = items_take left one sound n.0.0 n.0.1 x first.rest_fits d.1 in
          let count : count_of (trees x.0) ≡ n.0.0 = count_trees x.0 ∙ all.count in
          (rw count (Takes-then bytes (n.0.0 ∷ []) n.0.1 (spellings (trees x.0)) x.1 first all.taken), omega (arith, count, ltb-false _ _ g.0), all.fits, all.depth)
    ]

sealed_takes : (left : ℕ) (one : List ℕ → Read Tree) → IsSound left one → (start bytes : List ℕ) (x : (Key × Tree) × List ℕ) → IsBytes bytes → sealed_at one left start bytes ≡ Ok x
    → IsKey x.0.0 × Takes bytes (key_spelling x.0.0 ++ spelling x.0.1) x.1 × Fits x.0.1 × (depth_of x.0.1 ≤ left)
unfolding sealed_at
sealed_takes left one sound start bytes x fits e =
    let g = guard_ok (eqb left 0) _ _ x e in
    let k = bind_ok (key_at bytes) (λ key. one key.1 >>= λ body. Ok ((key.0, body.0), body.1)) x g.1 in
    let b = bind_ok (one k.0.1) (λ body. Ok ((k.0.0, body.0), body.1)) x k.2 in
    let first = key_takes bytes k.0 fits k.1 in
    let second = sound k.0.1 b.0 first.0.rest_fits b.1 in
    let made : (Key × Tree) × List ℕ = ((k.0.0, b.0.0), b.0.1) in
    subst (λ (y : (Key × Tree) × List ℕ). IsKey y.0.0 × Takes bytes (key_spelling y.0.0 ++ spelling y.0.1) y.1 × Fits y.0.1 × (depth_of y.0.1 ≤ left)) (ok_is made x b.2)
    (first.1, Takes-then bytes (key_spelling k.0.0) k.0.1 (spelling b.0.0) b.0.1 first.0 second.taken, second.fits, second.depth)

tree_takes : (left : ℕ) (one : List ℕ → Read Tree) → IsSound left one → (start : List ℕ) (kind : ℕ) (bytes : List ℕ) (x : Tree × List ℕ) → IsBytes bytes → Under one left start kind bytes (Ok x) → SpeltAs left kind bytes x
tree_takes left one sound start kind bytes x fits (as_name is e) = name_spelt left kind bytes x fits is e
tree_takes left one sound start kind bytes x fits (as_time is e) = made_of left kind bytes (number_at w64 bytes) (λ n. stamp (Time n)) x (λ y r. let t = number_takes w64 (2 ^ 64) wide64 bytes y fits r in atom (headed kind 0x02 is t.0) t.1 refl) e
tree_takes left one sound start kind bytes x fits (as_seq is e) = made_of left kind bytes (number_at w64 bytes) (λ n. stamp (Seq n)) x (λ y r. let t = number_takes w64 (2 ^ 64) wide64 bytes y fits r in atom (headed kind 0x03 is t.0) t.1 refl) e
tree_takes left one sound start kind bytes x fits (as_nonce is e) = made_of left kind bytes (bytes_at 16 bytes) (λ b. nonce b) x (λ y r. let t = bytes_takes 16 bytes y fits r in atom (headed kind 0x04 is t.0) t.1 refl) e
tree_takes left one sound start kind bytes x fits (as_part is e) = made_of left kind bytes (bytes_at 32 bytes) (λ b. part b) x (λ y r. let t = bytes_takes 32 bytes y fits r in atom (headed kind 0x05 is t.0) t.1 refl) e
tree_takes left one sound start kind bytes x fits (as_text is e) = made_of left kind bytes (sized_at 1024 why.LongText bytes) (λ b. text b) x (λ y r. let t = sized_takes 1024 why.LongText bytes y fits r in atom (headed kind 0x06 is t.0) t.1 refl) e
tree_takes left one sound start kind bytes x fits (as_tag is e) = made_of left kind bytes (bytes_at 4 bytes) (λ b. tag b) x (λ y r. let t = bytes_takes 4 bytes y fits r in atom (headed kind 0x07 is t.0) t.1 refl) e
tree_takes left one sound start kind bytes x fits (as_tuple is e) = made_of left kind bytes (tuple_at one left bytes) (λ b. tuple (trees b)) x (λ y r. let t = tuple_takes left one sound bytes y fits r in record { taken = headed kind 0x08 is t.0; fits = (t.1, t.2); depth = omega (arith, t.3) }) e
tree_takes left one sound start kind bytes x fits (as_seal is e) = made_of left kind bytes (sealed_at one left start bytes) (λ b. seal b.0 b.1) x (λ y r. let t = sealed_takes left one sound start bytes y fits r in record { taken = headed kind 0x09 is t.1; fits = (t.0, t.2); depth = omega (arith, t.3) }) e
tree_takes left one sound start kind bytes x fits (as_check is e) = made_of left kind bytes (sealed_at one left start bytes) (λ b. check b.0 b.1) x (λ y r. let t = sealed_takes left one sound start bytes y fits r in record { taken = headed kind 0x0a is t.1; fits = (t.0, t.2); depth = omega (arith, t.3) }) e
tree_takes left one sound start kind bytes x fits (as_blob is e) = made_of left kind bytes (sized_at 4096 why.LongBlob bytes) (λ b. blob b) x (λ y r. let t = sized_takes 4096 why.LongBlob bytes y fits r in atom (headed kind 0x0d is t.0) t.1 refl) e
tree_takes left one sound start kind bytes x fits (as_nothing is e) = absurd cc

pub term_takes : (left : ℕ) → IsSound left (term_at left)
unfolding term_at
term_takes zero bytes x fits e = absurd cc
term_takes (suc below) bytes x fits e =
    let k = bind_ok (byte_at bytes) (λ kind. tree_under (term_at below) below bytes kind.0 kind.1) x e in
    let first = byte_takes bytes k.0 fits k.1 in
    let made = tree_takes below (term_at below) (term_takes below) bytes k.0.0 k.0.1 x first.rest_fits (under (term_at below) below bytes k.0.0 k.0.1 (Ok x) k.2) in
    subst (λ (l : List ℕ). Spelt (suc below) l x.0 x.1) (sym first.parts) made

-- ---- what is spelled so is read

sealed_again : (one : List ℕ → Read Tree) (below : ℕ) (start : List ℕ) (key : Key) (body : Tree) (rest : List ℕ) → 0 < below → IsKey key → one (spelling body ++ rest) ≡ Ok (body, rest)
    → sealed_at one below start ((key_spelling key ++ spelling body) ++ rest) ≡ Ok ((key, body), rest)
unfolding sealed_at
sealed_again one below start key body rest low k again =
    ap (sealed_at one below start) (append_assoc (key_spelling key) (spelling body) rest) ∙ rw (not_zero below low, key_again key (spelling body ++ rest) k, again) refl

four_cells : (l : List ℕ) → length l ≡ 4 → (a b c d : ℕ) × (l ≡ a ∷ b ∷ c ∷ d ∷ [])
four_cells [] e = absurd (omega arith)
four_cells (a ∷ []) e = absurd (omega arith)
four_cells (a ∷ b ∷ []) e = absurd (omega arith)
four_cells (a ∷ b ∷ c ∷ []) e = absurd (omega arith)
four_cells (a ∷ b ∷ c ∷ d ∷ []) e = (a, b, c, d, refl)
four_cells (a ∷ b ∷ c ∷ d ∷ f ∷ l) e = absurd (omega (arith, e))

named : (m n : ℕ) (after rest : List ℕ) → m ≡ n → 0 < n → cond {A = Read Tree} (eqb m 0) (Err (why.ZeroName, after)) (Ok (name m, rest)) ≡ Ok (name n, rest)
named m n after rest e pos = rw (e, not_zero n pos) refl

name_again : (n : ℕ) (rest : List ℕ) → 0 < n → n < 2 ^ 32 → name_at (to_be_bytes w32 n ++ rest) ≡ Ok (name n, rest)
unfolding name_at byte_at
name_again n rest pos lt =
    let c = four_cells (to_be_bytes w32 n) refl in
    let v : from_be_bytes w32 (c.0 ∷ c.1 ∷ c.2 ∷ c.3 ∷ []) ≡ n = sym (ap (from_be_bytes w32) c.4) ∙ from_be_bytes-to_be_bytes_4 n lt in
    ap (λ (l : List ℕ). name_at (l ++ rest)) c.4 ∙ rw (bytes_again 3 (c.0 ∷ c.1 ∷ c.2 ∷ []) (c.3 ∷ rest) refl) (named _ n (c.3 ∷ rest) rest v pos)

pub some_depth : (t : Tree) → 1 ≤ depth_of t
some_depth (tuple ts) = omega arith
some_depth (seal k t) = omega arith
some_depth (check k t) = omega arith
some_depth (name n) = omega arith
some_depth (stamp s) = omega arith
some_depth (nonce b) = omega arith
some_depth (part b) = omega arith
some_depth (text b) = omega arith
some_depth (tag b) = omega arith
some_depth (blob b) = omega arith

stamp_again : (left : ℕ) (s : Stamp) (rest : List ℕ) → Fits (stamp s) → term_at (suc left) (spelling (stamp s) ++ rest) ≡ Ok (stamp s, rest)
unfolding term_at byte_at tree_under
stamp_again left (Time ms) rest lt = rw (number_again w64 (2 ^ 64) wide64 ms rest lt) refl
stamp_again left (Seq n) rest lt = rw (number_again w64 (2 ^ 64) wide64 n rest lt) refl

mutual
  unfolding term_at byte_at tree_under tuple_at items_at

  pub term_again : (left : ℕ) (t : Tree) (rest : List ℕ) → Fits t → depth_of t ≤ left → term_at left (spelling t ++ rest) ≡ Ok (t, rest)
  term_again zero t rest fits low = absurd (omega (arith, some_depth t))
  term_again (suc left) (name n) rest fits low = rw (name_again n rest fits.0 fits.1) refl
  term_again (suc left) (stamp s) rest fits low = stamp_again left s rest fits
  term_again (suc left) (nonce b) rest fits low = rw (bytes_again 16 b rest fits) refl
  term_again (suc left) (part b) rest fits low = rw (bytes_again 32 b rest fits) refl
  term_again (suc left) (text b) rest fits low = rw (sized_again 1024 why.LongText b rest fits (omega arith)) refl
  term_again (suc left) (tag b) rest fits low = rw (bytes_again 4 b rest fits) refl
  term_again (suc left) (blob b) rest fits low = rw (sized_again 4096 why.LongBlob b rest fits (omega arith)) refl
  term_again (suc left) (tuple none) rest fits low = refl
  term_again (suc left) (tuple (item t ts)) rest fits low =
      let few : ltb 32 (count_of (item t ts)) ≡ false = le-ltb _ _ fits.0 in
      let some : eqb (count_of (item t ts)) 0 ≡ false = not_zero _ (omega arith) in
      let deep : eqb left 0 ≡ false = not_zero _ (omega (arith, some_depth t)) in
      rw (few, some, deep, items_again left (item t ts) rest fits.1 (omega arith), trees_untrees (item t ts)) refl
  term_again (suc left) (seal k t) rest fits low = rw (sealed_again (term_at left) left _ k t rest (omega (arith, some_depth t)) fits.0 (term_again left t rest fits.1 (omega arith))) refl
  term_again (suc left) (check k t) rest fits low = rw (sealed_again (term_at left) left _ k t rest (omega (arith, some_depth t)) fits.0 (term_again left t rest fits.1 (omega arith))) refl

  items_again : (left : ℕ) (ts : Trees) (rest : List ℕ) → AllFit ts → greatest_depth ts ≤ left → items_at (term_at left) (count_of ts) (spellings ts ++ rest) ≡ Ok (untrees ts, rest)
  items_again left none rest fits low = refl
  items_again left (item t ts) rest fits low =
      let count : count_of ts + 1 ≡ suc (count_of ts) = omega arith in
      rw (count, append_assoc (spelling t) (spellings ts) rest, term_again left t (spellings ts ++ rest) fits.0 (omega arith), items_again left ts rest fits.1 (omega arith)) refl

-- ---- a whole spelling at the front of some bytes

pub is_found : (bytes front : List ℕ) (x : Tree × List ℕ) (n : ℕ) → IsBytes bytes → front ≡ take 8192 bytes → term_at 8 front ≡ Ok x → n ≡ length front - length x.1 → (n ≤ length bytes) × IsSpelling x.0 (take n bytes)
is_found bytes front x n fits is e count =
    let t = term_takes 8 front x (subst IsBytes (sym is) (IsBytes-take 8192 bytes fits)) e in
    let s : List ℕ = spelling x.0 in
    let whole : bytes ≡ s ++ (x.1 ++ drop 8192 bytes) = sym (take-append-drop 8192 bytes) ∙ ap (λ (l : List ℕ). l ++ drop 8192 bytes) (sym is ∙ t.taken.parts) ∙ append_assoc s x.1 (drop 8192 bytes) in
    let lengths : length front ≡ length s + length x.1 = ap length t.taken.parts ∙ length-append s x.1 in
    let long : length front ≡ min 8192 (length bytes) = ap length is ∙ length-take 8192 bytes in
    let used : n ≡ length s = omega arith in
    let cut : take n bytes ≡ s = ap (λ (k : ℕ). take k bytes) used ∙ ap (take (length s)) whole ∙ take-append_seam s (x.1 ++ drop 8192 bytes) in
    (omega arith, record { limits = record { fits = t.fits; levels = t.depth; length = omega arith }; spelled = cut })

pub no_longer : (front : List ℕ) (x : Tree × List ℕ) → IsBytes front → term_at 8 front ≡ Ok x → length x.1 ≤ length front
no_longer front x fits e =
    let t = term_takes 8 front x fits e in
    omega (arith, ap length t.taken.parts, length-append (spelling x.0) x.1)

pub is_absent : (bytes front : List ℕ) → front ≡ take 8192 bytes → (stop : Stop) → term_at 8 front ≡ Err stop → (t : Tree) (n : ℕ) → IsSpelling t (take n bytes) → ⊥
is_absent bytes front is stop e t n h =
    let k : ℕ = 8192 - length (take n bytes) in
    let total : 8192 ≡ length (take n bytes) + k = omega (arith, h.limits.length, ap length h.spelled) in
    let whole : front ≡ take n bytes ++ take k (drop n bytes) =
    is ∙ ap (take 8192) (sym (take-append-drop n bytes)) ∙ ap (λ (m : ℕ). take m (take n bytes ++ drop n bytes)) total ∙ take-append-add (take n bytes) (drop n bytes) k in
    let spelled : front ≡ spelling t ++ take k (drop n bytes) = whole ∙ ap (λ (l : List ℕ). l ++ take k (drop n bytes)) h.spelled in
    let read : term_at 8 front ≡ Ok (t, take k (drop n bytes)) = ap (term_at 8) spelled ∙ term_again 8 t (take k (drop n bytes)) h.limits.fits h.limits.levels in
    absurd (let both : Ok (t, take k (drop n bytes)) ≡ Err stop = sym read ∙ e in cc)

-- No spelling begins another, and each stands for one term.
pub one_form_is : (t u : Tree) (a b x y : List ℕ) → IsSpelling t a → IsSpelling u b → a ++ x ≡ b ++ y → (t ≡ u) × (a ≡ b)
one_form_is t u a b x y h k e =
    let joined : spelling t ++ x ≡ spelling u ++ y = ap (λ (l : List ℕ). l ++ x) (sym h.spelled) ∙ e ∙ ap (λ (l : List ℕ). l ++ y) k.spelled in
    let both : Ok (t, x) ≡ Ok (u, y) = sym (term_again 8 t x h.limits.fits h.limits.levels) ∙ ap (term_at 8) joined ∙ term_again 8 u y k.limits.fits k.limits.levels in
    let same : t ≡ u = ap (λ (p : Tree × List ℕ). p.0) (ok_is (t, x) (u, y) both) in
    (same, h.spelled ∙ ap spelling same ∙ sym k.spelled)
