-- Where reading stops, the bytes before begin a spelling, and the next byte is refused or there is none.
use Rattle.std.proofs.Common.{◌≡◌, ℕ, zero, suc, ◌+◌, ◌*◌, ◌<◌, ◌≤◌, ltb, eqb, List, [], ◌∷◌, ◌++◌, length, get_or, refl, sym, ap, subst, ◌∙◌, append_assoc, arith, inl, inr, length-append}
use Rattle.std.specs.Prelude.{Ok, Err}
use Rattle.std.specs.Int.{w32, w64, to_be_bytes, from_be_bytes}
use Rattle.std.proofs.lemmas.Bool.{eqb-true, eqb-false, ltb-true, ltb-false}
use Rattle.std.proofs.lemmas.List.{append-nil}
use Rattle.term_values.specs.declared.Key.{Key}
use Rattle.term_values.specs.declared.Key.TheVariants.{One, Two}
use Rattle.term_values.specs.declared.Stamp.TheVariants.{Time, Seq}
use Rattle.term_values.specs.declared.Why.{Why}
use Rattle.term_values.specs.declared.Why.TheVariants as why
use Rattle.term_values.specs.Trees.{Tree, stamp, nonce, part, text, tag, blob, tuple, seal, check, trees, depth_of}
use Rattle.tagged_codec.specs.Faults.{IsSealKind, Refused, no_kind, no_key_kind, zero_name, text_high, text_low, blob_high, blob_low, many_items, deep_seal, deep_items, in_items, in_body, RefusedIn, in_first, in_later}
use Rattle.term_values.specs.Limits.{Fits, IsKey}
use Rattle.tagged_codec.specs.Grammar.{key_spelling, spelling}
use Rattle.tagged_codec.specs.Reading.{◌>>=◌, Read, Stop, byte_at, bytes_at, items_at, key_at, key_under, tree_under, name_at, number_at, sealed_at, sized_at, term_at, tuple_at}
use Rattle.tagged_codec.proofs.Fields.{IsBytes, bind_err, chosen, stop_is, byte_takes, bytes_takes, key_takes}
use Rattle.tagged_codec.proofs.Openings.{Opening, AllOpening, Opening-front, KeyOpening, KeyOpening-front, IsFixed, IsSized, IsSealing, seals, checks, open_name, open_time, open_seq, open_fixed, open_sized, open_one, open_two, open_short_two, open_key, open_body, open_first, open_later, open_items, open_tuple}
use Rattle.tagged_codec.proofs.Relation.{spells}
use Rattle.tagged_codec.proofs.Terms.{IsSound, Under, as_name, as_time, as_seq, as_nonce, as_part, as_text, as_tag, as_tuple, as_seal, as_check, as_blob, as_nothing, under, name_read, term_takes}

-- how reading a term ended before its end, at these bytes
abbrev pub Outcome : ℕ → List ℕ → Why → List ℕ → Type 0
Outcome level front reason [] = (reason ≡ why.Short) × Opening level front
Outcome level front reason (b ∷ rest) = Refused level front b reason

abbrev pub AllOutcome : ℕ → ℕ → List ℕ → Why → List ℕ → Type 0
AllOutcome level count front reason [] = (reason ≡ why.Short) × AllOpening level count front
AllOutcome level count front reason (b ∷ rest) = RefusedIn level count front b reason

pub record StopsAt (level : ℕ) (bytes : List ℕ) (s : Stop) : Type 0 where
  pub front : List ℕ
  pub parts : bytes ≡ front ++ s.1
  pub outcome : Outcome level front s.0 s.1

pub record AllStopAt (level count : ℕ) (bytes : List ℕ) (s : Stop) : Type 0 where
  pub front : List ℕ
  pub parts : bytes ≡ front ++ s.1
  pub outcome : AllOutcome level count front s.0 s.1

abbrev end : Stop
end = (why.Short, [])

-- reading met the end of the bytes
short : {level : ℕ} (bytes : List ℕ) (s : Stop) → s ≡ end → Opening level bytes → StopsAt level bytes s
short {level} bytes s e o = subst (StopsAt level bytes) (sym e) (record { front = bytes; parts = sym (append-nil bytes); outcome = (refl, o) })

-- reading met a byte that may not stand there
refused : {level : ℕ} (bytes front : List ℕ) (b : ℕ) (rest : List ℕ) (reason : Why) (s : Stop) → s ≡ (reason, b ∷ rest) → bytes ≡ front ++ b ∷ rest → Refused level front b reason → StopsAt level bytes s
refused {level} bytes front b rest reason s e parts r = subst (StopsAt level bytes) (sym e) (record { front = front; parts = parts; outcome = r })

-- ---- fields

bytes_stop : (n : ℕ) (bytes : List ℕ) (s : Stop) → bytes_at n bytes ≡ Err s → (length bytes < n) × (s ≡ end)
unfolding bytes_at
bytes_stop n bytes s e =
    elim (chosen (ltb (length bytes) n) _ _ _ e) [
      | inl a ↦ (ltb-true _ _ a.0, sym (stop_is {A = List ℕ × List ℕ} end s a.1))
      | inr a ↦ absurd (let never = a.1 in cc)
    ]

byte_stop : (bytes : List ℕ) (s : Stop) → byte_at bytes ≡ Err s → (bytes ≡ []) × (s ≡ end)
unfolding byte_at
byte_stop [] s e = (refl, sym (stop_is {A = ℕ × List ℕ} end s e))
byte_stop (b ∷ bytes) s e = absurd cc

byte_is : (bytes : List ℕ) (x : ℕ × List ℕ) → byte_at bytes ≡ Ok x → bytes ≡ x.0 ∷ x.1
unfolding byte_at
byte_is [] x e = absurd cc
byte_is (b ∷ bytes) x e = cc

-- a field that was not read, so nothing was made of it
made_stop : {X Y : Type 0} (read : Read X) (make : X × List ℕ → Y × List ℕ) (s : Stop) → (read >>= λ y. Ok (make y)) ≡ Err s → read ≡ Err s
made_stop (Ok x) make s e = absurd cc
made_stop (Err t) make s e = cc

above_zero : (n : ℕ) → (n ≡ 0 → ⊥) → 0 < n
above_zero n h = omega arith

-- ---- terms with nothing below them

fixed_stops : (kind n : ℕ) (make : List ℕ → Tree) → IsFixed kind n make → (level : ℕ) (bytes : List ℕ) (s : Stop) → level ≤ 8 → bytes_at n bytes ≡ Err s → StopsAt level (kind ∷ bytes) s
fixed_stops kind n make fixed level bytes s low e =
    let b = bytes_stop n bytes s e in
    short (kind ∷ bytes) s b.1 (open_fixed kind n make fixed level bytes low (omega (arith, b.0)))

number_stop : (bytes : List ℕ) (s : Stop) → number_at w64 bytes ≡ Err s → (length bytes < 8) × (s ≡ end)
unfolding number_at
number_stop bytes s e = bytes_stop 8 bytes s (made_stop (bytes_at 8 bytes) (λ y. (from_be_bytes w64 y.0, y.1)) s e)

zero_cells : (high : List ℕ) (low : ℕ) → length high ≡ 3 → high ++ low ∷ [] ≡ 0 ∷ 0 ∷ 0 ∷ 0 ∷ [] → (high ≡ 0 ∷ 0 ∷ 0 ∷ []) × (low ≡ 0)
zero_cells [] low len e = absurd (omega arith)
zero_cells (a ∷ []) low len e = absurd (omega arith)
zero_cells (a ∷ b ∷ []) low len e = absurd (omega arith)
zero_cells (a ∷ b ∷ c ∷ []) low len e = (cc, cc)
zero_cells (a ∷ b ∷ c ∷ d ∷ l) low len e = absurd (omega (arith, len))

name_stops : (level : ℕ) (bytes : List ℕ) (s : Stop) → level ≤ 8 → IsBytes bytes → name_at bytes ≡ Err s → StopsAt level (0x01 ∷ bytes) s
unfolding name_at
name_stops level bytes s low fits e =
    elim (bind_err (bytes_at 3 bytes) _ s e) [
      | inl a ↦ let b = bytes_stop 3 bytes s a in short (0x01 ∷ bytes) s b.1 (open_name level bytes low fits (omega (arith, b.0)))
      | inr h ↦
          let t = bytes_takes 3 bytes h.0 fits h.1 in
          elim (bind_err (byte_at h.0.1) _ s h.2) [
            | inl a ↦
                let b = byte_stop h.0.1 s a in
                short (0x01 ∷ bytes) s b.1 (open_name level bytes low fits (omega (arith, ap length t.0.parts, length-append h.0.0 h.0.1, ap length b.0, t.1)))
            | inr l ↦
                let read = name_read bytes h.0 l.0 fits h.1 l.1 in
                let n : ℕ = from_be_bytes w32 (h.0.0 ++ l.0.0 ∷ []) in
                elim (chosen (eqb n 0) _ _ _ l.2) [
                  | inl a ↦
                      let nought : h.0.0 ++ l.0.0 ∷ [] ≡ 0 ∷ 0 ∷ 0 ∷ 0 ∷ [] = sym read.spelled ∙ ap (to_be_bytes w32) (eqb-true n 0 a.0) in
                      let cells = zero_cells h.0.0 l.0.0 t.1 nought in
                      let place : h.0.1 ≡ 0 ∷ l.0.1 = byte_is h.0.1 l.0 l.1 ∙ ap (λ (b : ℕ). b ∷ l.0.1) cells.1 in
                      let stop : s ≡ (why.ZeroName, 0 ∷ l.0.1) = sym (stop_is {A = Tree × List ℕ} (why.ZeroName, h.0.1) s a.1) ∙ ap (λ (r : List ℕ). (why.ZeroName, r)) place in
                      let parts : bytes ≡ 0 ∷ 0 ∷ 0 ∷ 0 ∷ l.0.1 = t.0.parts ∙ ap (λ (q : List ℕ). q ++ h.0.1) cells.0 ∙ ap (λ (r : List ℕ). 0 ∷ 0 ∷ 0 ∷ r) place in
                      refused (0x01 ∷ bytes) (0x01 ∷ 0 ∷ 0 ∷ 0 ∷ []) 0 l.0.1 why.ZeroName s stop (ap (λ (q : List ℕ). 0x01 ∷ q) parts) (zero_name level)
                  | inr a ↦ absurd (let never = a.1 in cc)
                ]
          ]
    ]

-- what is refused in the two bytes of a length
pub record RefusesLength (level kind most : ℕ) (reason : Why) : Type 0 where
  pub high : (h : ℕ) → most < h * 256 → Refused level (kind ∷ []) h reason
  pub low : (h l : ℕ) → h * 256 ≤ most → most < h * 256 + l → Refused level (kind ∷ h ∷ []) l reason

sized_stops : (kind most : ℕ) (make : List ℕ → Tree) (reason : Why) → IsSized kind most make → (level : ℕ) → RefusesLength level kind most reason → (bytes : List ℕ) (s : Stop) → level ≤ 8 → IsBytes bytes → sized_at most reason bytes ≡ Err s
    → StopsAt level (kind ∷ bytes) s
unfolding sized_at
sized_stops kind most make reason sized level refuses bytes s low fits e =
    elim (bind_err (byte_at bytes) _ s e) [
      | inl a ↦
          let b = byte_stop bytes s a in
          let begun : Opening level (kind ∷ []) = Opening-front (kind ∷ []) (0 ∷ 0 ∷ []) (open_sized kind most make sized level 0 0 [] low (omega arith) (omega arith) (omega arith) (omega arith)) in
          short (kind ∷ bytes) s b.1 (subst (λ (q : List ℕ). Opening level (kind ∷ q)) (sym b.0) begun)
      | inr h ↦
          let first = byte_is bytes h.0 h.1 in
          let after = (byte_takes bytes h.0 fits h.1).rest_fits in
          let big : h.0.0 < 256 = subst (λ (q : List ℕ). get_or q 0 0 < 256) first (fits 0) in
          elim (chosen (ltb most (h.0.0 * 256)) _ _ _ h.2) [
            | inl a ↦
                let stop : s ≡ (reason, h.0.0 ∷ h.0.1) = sym (stop_is {A = List ℕ × List ℕ} (reason, bytes) s a.1) ∙ ap (λ (q : List ℕ). (reason, q)) first in
                refused (kind ∷ bytes) (kind ∷ []) h.0.0 h.0.1 reason s stop (ap (λ (q : List ℕ). kind ∷ q) first) (refuses.high h.0.0 (ltb-true _ _ a.0))
            | inr g ↦
                let fitting : h.0.0 * 256 ≤ most = ltb-false _ _ g.0 in
                elim (bind_err (byte_at h.0.1) _ s g.1) [
                  | inl a ↦
                      let b = byte_stop h.0.1 s a in
                      let begun : Opening level (kind ∷ h.0.0 ∷ []) = Opening-front (kind ∷ h.0.0 ∷ []) (0 ∷ []) (open_sized kind most make sized level h.0.0 0 [] low big (omega arith) (omega (arith, fitting)) (omega arith)) in
                      let all : bytes ≡ h.0.0 ∷ [] = first ∙ ap (λ (q : List ℕ). h.0.0 ∷ q) b.0 in
                      short (kind ∷ bytes) s b.1 (subst (λ (q : List ℕ). Opening level (kind ∷ q)) (sym all) begun)
                  | inr l ↦
                      let second = byte_is h.0.1 l.0 l.1 in
                      let small : l.0.0 < 256 = subst (λ (q : List ℕ). get_or q 0 0 < 256) second (after 0) in
                      let all : bytes ≡ h.0.0 ∷ l.0.0 ∷ l.0.1 = first ∙ ap (λ (q : List ℕ). h.0.0 ∷ q) second in
                      elim (chosen (ltb most (h.0.0 * 256 + l.0.0)) _ _ _ l.2) [
                        | inl a ↦
                            let stop : s ≡ (reason, l.0.0 ∷ l.0.1) = sym (stop_is {A = List ℕ × List ℕ} (reason, h.0.1) s a.1) ∙ ap (λ (q : List ℕ). (reason, q)) second in
                            refused (kind ∷ bytes) (kind ∷ h.0.0 ∷ []) l.0.0 l.0.1 reason s stop (ap (λ (q : List ℕ). kind ∷ q) all) (refuses.low h.0.0 l.0.0 fitting (ltb-true _ _ a.0))
                        | inr k ↦
                            let b = bytes_stop (h.0.0 * 256 + l.0.0) l.0.1 s k.1 in
                            let begun = open_sized kind most make sized level h.0.0 l.0.0 l.0.1 low big small (ltb-false _ _ k.0) (omega (arith, b.0)) in
                            short (kind ∷ bytes) s b.1 (subst (λ (q : List ℕ). Opening level (kind ∷ q)) (sym all) begun)
                      ]
                ]
          ]
    ]

-- ---- keys

data KeyStop (bytes : List ℕ) (s : Stop) : Type 0 where
  cut : KeyOpening bytes → s ≡ end → KeyStop bytes s
  other : (b : ℕ) (rest : List ℕ) → bytes ≡ b ∷ rest → (b ≡ 0x0b → ⊥) → (b ≡ 0x0c → ⊥) → s ≡ (why.Kind, bytes) → KeyStop bytes s

key_stop : (bytes : List ℕ) (s : Stop) → IsBytes bytes → key_at bytes ≡ Err s → KeyStop bytes s
unfolding key_at key_under
key_stop bytes s fits e =
    elim (bind_err (byte_at bytes) _ s e) [
      | inl a ↦ let b = byte_stop bytes s a in cut (subst KeyOpening (sym b.0) (KeyOpening-front [] (0x0b ∷ []) (open_one [] (omega arith)))) b.1
      | inr k ↦
          let first = byte_is bytes k.0 k.1 in
          let after = (byte_takes bytes k.0 fits k.1).rest_fits in
          elim (chosen (eqb k.0.0 0x0b) _ _ _ k.2) [
            | inl a ↦
                let b = bytes_stop 32 k.0.1 s (made_stop (bytes_at 32 k.0.1) (λ p. (One p.0, p.1)) s a.1) in
                let all : bytes ≡ 0x0b ∷ k.0.1 = first ∙ ap (λ (n : ℕ). n ∷ k.0.1) (eqb-true k.0.0 0x0b a.0) in
                cut (subst KeyOpening (sym all) (open_one k.0.1 (omega (arith, b.0)))) b.1
            | inr n ↦ elim (chosen (eqb k.0.0 0x0c) _ _ _ n.1) [
              | inl a ↦
                  let all : bytes ≡ 0x0c ∷ k.0.1 = first ∙ ap (λ (n : ℕ). n ∷ k.0.1) (eqb-true k.0.0 0x0c a.0) in
                  elim (bind_err (bytes_at 32 k.0.1) _ s a.1) [
                    | inl c ↦
                        let b = bytes_stop 32 k.0.1 s c in
                        let begun = open_short_two k.0.1 (omega (arith, b.0)) in
                        cut (subst KeyOpening (sym all) begun) b.1
                    | inr p ↦
                        let t = bytes_takes 32 k.0.1 p.0 after p.1 in
                        let b = bytes_stop 32 p.0.1 s (made_stop (bytes_at 32 p.0.1) (λ q. (Two p.0.0 q.0, q.1)) s p.2) in
                        let whole : bytes ≡ 0x0c ∷ p.0.0 ++ p.0.1 = all ∙ ap (λ (q : List ℕ). 0x0c ∷ q) t.0.parts in
                        cut (subst KeyOpening (sym whole) (open_two p.0.0 p.0.1 t.1 (omega (arith, b.0)))) b.1
                  ]
              | inr m ↦ other k.0.0 k.0.1 first (eqb-false _ _ n.0) (eqb-false _ _ m.0) (sym (stop_is {A = Key × List ℕ} (why.Kind, bytes) s m.1))
            ]
          ]
    ]

-- ---- what stands below

-- a reader of terms that stops where it should
abbrev StopsWell : ℕ → (List ℕ → Read Tree) → Type 0
StopsWell level one = (bytes : List ℕ) (s : Stop) → IsBytes bytes → one bytes ≡ Err s → StopsAt level bytes s

body_outcome : (kind : ℕ) (make : Key → Tree → Tree) → IsSealing kind make → IsSealKind kind → (level : ℕ) (key : Key) (front : List ℕ) (reason : Why) (rest : List ℕ) → level < 8 → IsKey key → Outcome (suc level) front reason rest
    → Outcome level (kind ∷ key_spelling key ++ front) reason rest
body_outcome kind make sealing is level key front reason [] low fits o = (o.0, open_body kind make sealing level key front fits o.1)
body_outcome kind make sealing is level key front reason (b ∷ rest) low fits o = in_body level kind key front b reason low is fits o

sealed_stops : (kind : ℕ) (make : Key → Tree → Tree) → IsSealing kind make → IsSealKind kind → (level below : ℕ) (one : List ℕ → Read Tree) → level + below ≡ 8 → (0 < below → StopsWell (suc level) one) → (bytes : List ℕ) (s : Stop) → IsBytes bytes
    → sealed_at one below (kind ∷ bytes) bytes ≡ Err s → StopsAt level (kind ∷ bytes) s
unfolding sealed_at
sealed_stops kind make sealing is level below one total stops bytes s fits e =
    elim (chosen (eqb below 0) _ _ _ e) [
      | inl a ↦
          let deep : level ≡ 8 = omega (arith, total, eqb-true below 0 a.0) in
          refused (kind ∷ bytes) [] kind bytes why.Deep s (sym (stop_is {A = (Key × Tree) × List ℕ} (why.Deep, kind ∷ bytes) s a.1)) refl (deep_seal level kind deep is)
      | inr a ↦
          let some : 0 < below = above_zero below (eqb-false below 0 a.0) in
          let low : level < 8 = omega (arith, total, some) in
          elim (bind_err (key_at bytes) _ s a.1) [
            | inl k ↦ elim (key_stop bytes s fits k) [
              | cut o stop ↦ short (kind ∷ bytes) s stop (open_key kind make sealing level bytes low o)
              | other b rest first no_one no_two stop ↦ refused (kind ∷ bytes) (kind ∷ []) b rest why.Kind s (stop ∙ ap (λ (q : List ℕ). (why.Kind, q)) first) (ap (λ (q : List ℕ). kind ∷ q) first) (no_key_kind level kind b low is no_one no_two)
            ]
            | inr k ↦
                let t = key_takes bytes k.0 fits k.1 in
                let r = stops some k.0.1 s t.0.rest_fits (made_stop (one k.0.1) (λ body. ((k.0.0, body.0), body.1)) s k.2) in
                record {
                  front = kind ∷ key_spelling k.0.0 ++ r.front;
                  parts = ap (λ (q : List ℕ). kind ∷ q) (t.0.parts ∙ ap (λ (q : List ℕ). key_spelling k.0.0 ++ q) r.parts ∙ sym (append_assoc (key_spelling k.0.0) r.front s.1));
                  outcome = body_outcome kind make sealing is level k.0.0 r.front s.0 s.1 low t.1 r.outcome;
                }
          ]
    ]

first_outcome : (level count : ℕ) (front : List ℕ) (reason : Why) (rest : List ℕ) → Outcome level front reason rest → AllOutcome level (suc count) front reason rest
first_outcome level count front reason [] o = (o.0, open_first level count front o.1)
first_outcome level count front reason (b ∷ rest) o = in_first level count front b reason o

later_outcome : (level count : ℕ) (t : Tree) (front : List ℕ) (reason : Why) (rest : List ℕ) → Fits t → depth_of t + level ≤ 9 → AllOutcome level count front reason rest → AllOutcome level (suc count) (spelling t ++ front) reason rest
later_outcome level count t front reason [] fits depth o = (o.0, open_later level count t front fits depth o.1)
later_outcome level count t front reason (b ∷ rest) fits depth o = in_later level count t (spelling t) front b reason (spells level t (spelling t) fits depth refl) o

items_stop : (level left : ℕ) (one : List ℕ → Read Tree) → level + left ≡ 9 → IsSound left one → StopsWell level one → (count : ℕ) (bytes : List ℕ) (s : Stop) → IsBytes bytes → items_at one count bytes ≡ Err s → AllStopAt level count bytes s
unfolding items_at
items_stop level left one total sound stops zero bytes s fits e = absurd cc
items_stop level left one total sound stops (suc count) bytes s fits e =
    elim (bind_err (one bytes) _ s e) [
      | inl a ↦
          let r = stops bytes s fits a in
          record { front = r.front; parts = r.parts; outcome = first_outcome level count r.front s.0 s.1 r.outcome }
      | inr x ↦
          let t = sound bytes x.0 fits x.1 in
          let r = items_stop level left one total sound stops count x.0.1 s t.taken.rest_fits (made_stop (items_at one count x.0.1) (λ others. (x.0.0 ∷ others.0, others.1)) s x.2) in
          record {
            front = spelling x.0.0 ++ r.front;
            parts = t.taken.parts ∙ ap (λ (q : List ℕ). spelling x.0.0 ++ q) r.parts ∙ sym (append_assoc (spelling x.0.0) r.front s.1);
            outcome = later_outcome level count x.0.0 r.front s.0 s.1 t.fits (omega (arith, t.depth, total)) r.outcome;
          }
    ]

items_outcome : (level count : ℕ) (front : List ℕ) (reason : Why) (rest : List ℕ) → level < 8 → count ≤ 32 → AllOutcome (suc level) count front reason rest → Outcome level (0x08 ∷ count ∷ front) reason rest
items_outcome level count front reason [] low few o = (o.0, open_items level count front few o.1)
items_outcome level count front reason (b ∷ rest) low few o = in_items level count front b reason low few o

tuple_stops : (level below : ℕ) (one : List ℕ → Read Tree) → level + below ≡ 8 → IsSound below one → (0 < below → StopsWell (suc level) one) → (bytes : List ℕ) (s : Stop) → level ≤ 8 → IsBytes bytes
    → tuple_at one below bytes ≡ Err s → StopsAt level (0x08 ∷ bytes) s
unfolding tuple_at
tuple_stops level below one total sound stops bytes s low fits e =
    elim (bind_err (byte_at bytes) _ s e) [
      | inl a ↦ let b = byte_stop bytes s a in short (0x08 ∷ bytes) s b.1 (subst (λ (q : List ℕ). Opening level (0x08 ∷ q)) (sym b.0) (open_tuple level low))
      | inr n ↦
          let first = byte_is bytes n.0 n.1 in
          let after = (byte_takes bytes n.0 fits n.1).rest_fits in
          elim (chosen (ltb 32 n.0.0) _ _ _ n.2) [
            | inl a ↦
                let stop : s ≡ (why.ManyItems, n.0.0 ∷ n.0.1) = sym (stop_is {A = List Tree × List ℕ} (why.ManyItems, bytes) s a.1) ∙ ap (λ (q : List ℕ). (why.ManyItems, q)) first in
                refused (0x08 ∷ bytes) (0x08 ∷ []) n.0.0 n.0.1 why.ManyItems s stop (ap (λ (q : List ℕ). 0x08 ∷ q) first) (many_items level n.0.0 (ltb-true _ _ a.0))
            | inr few ↦ elim (chosen (eqb n.0.0 0) _ _ _ few.1) [
              | inl a ↦ absurd (let never = a.1 in cc)
              | inr c ↦
                  let positive : 0 < n.0.0 = above_zero n.0.0 (eqb-false n.0.0 0 c.0) in
                  let at_most : n.0.0 ≤ 32 = ltb-false _ _ few.0 in
                  elim (chosen (eqb below 0) _ _ _ c.1) [
                    | inl a ↦
                        let deep : level ≡ 8 = omega (arith, total, eqb-true below 0 a.0) in
                        let stop : s ≡ (why.Deep, n.0.0 ∷ n.0.1) = sym (stop_is {A = List Tree × List ℕ} (why.Deep, bytes) s a.1) ∙ ap (λ (q : List ℕ). (why.Deep, q)) first in
                        refused (0x08 ∷ bytes) (0x08 ∷ []) n.0.0 n.0.1 why.Deep s stop (ap (λ (q : List ℕ). 0x08 ∷ q) first) (deep_items level n.0.0 deep positive at_most)
                    | inr d ↦
                        let some : 0 < below = above_zero below (eqb-false below 0 d.0) in
                        let r = items_stop (suc level) below one (omega (arith, total)) sound (stops some) n.0.0 n.0.1 s after d.1 in
                        record {
                          front = 0x08 ∷ n.0.0 ∷ r.front;
                          parts = ap (λ (q : List ℕ). 0x08 ∷ q) (first ∙ ap (λ (q : List ℕ). n.0.0 ∷ q) r.parts);
                          outcome = items_outcome level n.0.0 r.front s.0 s.1 (omega (arith, total, some)) at_most r.outcome;
                        }
                  ]
            ]
          ]
    ]

-- ---- terms

fixed_nonce : IsFixed 0x04 16 (λ b. nonce b)
fixed_nonce = record { spelled = λ b. refl; fits = λ b h. h; one = λ b. refl }

fixed_part : IsFixed 0x05 32 (λ b. part b)
fixed_part = record { spelled = λ b. refl; fits = λ b h. h; one = λ b. refl }

fixed_tag : IsFixed 0x07 4 (λ b. tag b)
fixed_tag = record { spelled = λ b. refl; fits = λ b h. h; one = λ b. refl }

pub sized_text : IsSized 0x06 1024 (λ b. text b)
sized_text = record { spelled = λ b. refl; fits = λ b h. h; one = λ b. refl }

pub sized_blob : IsSized 0x0d 4096 (λ b. blob b)
sized_blob = record { spelled = λ b. refl; fits = λ b h. h; one = λ b. refl }

headed : (level kind number : ℕ) (bytes : List ℕ) (s : Stop) → kind ≡ number → StopsAt level (number ∷ bytes) s → StopsAt level (kind ∷ bytes) s
headed level kind number bytes s e r = subst (λ (k : ℕ). StopsAt level (k ∷ bytes) s) (sym e) r

tree_stops : (level below : ℕ) (one : List ℕ → Read Tree) → level + below ≡ 8 → IsSound below one → (0 < below → StopsWell (suc level) one) → (kind : ℕ) (bytes : List ℕ) (s : Stop) → level ≤ 8 → IsBytes bytes
    → Under one below (kind ∷ bytes) kind bytes (Err s) → StopsAt level (kind ∷ bytes) s
tree_stops level below one total sound stops kind bytes s low fits (as_name is e) = headed level kind 0x01 bytes s is (name_stops level bytes s low fits e)
tree_stops level below one total sound stops kind bytes s low fits (as_time is e) =
    let b = number_stop bytes s (made_stop (number_at w64 bytes) (λ n. (stamp (Time n.0), n.1)) s e) in
    headed level kind 0x02 bytes s is (short (0x02 ∷ bytes) s b.1 (open_time level bytes low fits b.0))
tree_stops level below one total sound stops kind bytes s low fits (as_seq is e) =
    let b = number_stop bytes s (made_stop (number_at w64 bytes) (λ n. (stamp (Seq n.0), n.1)) s e) in
    headed level kind 0x03 bytes s is (short (0x03 ∷ bytes) s b.1 (open_seq level bytes low fits b.0))
tree_stops level below one total sound stops kind bytes s low fits (as_nonce is e) = headed level kind 0x04 bytes s is (fixed_stops 0x04 16 (λ b. nonce b) fixed_nonce level bytes s low (made_stop (bytes_at 16 bytes) (λ b. (nonce b.0, b.1)) s e))
tree_stops level below one total sound stops kind bytes s low fits (as_part is e) = headed level kind 0x05 bytes s is (fixed_stops 0x05 32 (λ b. part b) fixed_part level bytes s low (made_stop (bytes_at 32 bytes) (λ b. (part b.0, b.1)) s e))
tree_stops level below one total sound stops kind bytes s low fits (as_text is e) =
    headed level kind 0x06 bytes s is (sized_stops 0x06 1024 (λ b. text b) why.LongText sized_text level (record { high = λ h g. text_high level h g; low = λ h l f g. text_low level h l f g }) bytes s low fits
    (made_stop (sized_at 1024 why.LongText bytes) (λ b. (text b.0, b.1)) s e))
tree_stops level below one total sound stops kind bytes s low fits (as_tag is e) = headed level kind 0x07 bytes s is (fixed_stops 0x07 4 (λ b. tag b) fixed_tag level bytes s low (made_stop (bytes_at 4 bytes) (λ b. (tag b.0, b.1)) s e))
tree_stops level below one total sound stops kind bytes s low fits (as_tuple is e) = headed level kind 0x08 bytes s is (tuple_stops level below one total sound stops bytes s low fits (made_stop (tuple_at one below bytes) (λ b. (tuple (trees b.0), b.1)) s e))
tree_stops level below one total sound stops kind bytes s low fits (as_seal is e) =
    sealed_stops kind seal (subst (λ (k : ℕ). IsSealing k seal) (sym is) seals) (inl is) level below one total stops bytes s fits (made_stop (sealed_at one below (kind ∷ bytes) bytes) (λ b. (seal b.0.0 b.0.1, b.1)) s e)
tree_stops level below one total sound stops kind bytes s low fits (as_check is e) =
    sealed_stops kind check (subst (λ (k : ℕ). IsSealing k check) (sym is) checks) (inr is) level below one total stops bytes s fits (made_stop (sealed_at one below (kind ∷ bytes) bytes) (λ b. (check b.0.0 b.0.1, b.1)) s e)
tree_stops level below one total sound stops kind bytes s low fits (as_blob is e) =
    headed level kind 0x0d bytes s is (sized_stops 0x0d 4096 (λ b. blob b) why.LongBlob sized_blob level (record { high = λ h g. blob_high level h g; low = λ h l f g. blob_low level h l f g }) bytes s low fits
    (made_stop (sized_at 4096 why.LongBlob bytes) (λ b. (blob b.0, b.1)) s e))
tree_stops level below one total sound stops kind bytes s low fits (as_nothing is e) = refused (kind ∷ bytes) [] kind bytes why.Kind s (sym (stop_is {A = Tree × List ℕ} (why.Kind, kind ∷ bytes) s e)) refl (no_kind level kind is)

pub term_stops : (left level : ℕ) → level + left ≡ 9 → 0 < left → StopsWell level (term_at left)
unfolding term_at
term_stops zero level total low bytes s fits e = absurd (omega arith)
term_stops (suc below) level total low bytes s fits e =
    elim (bind_err (byte_at bytes) _ s e) [
      | inl a ↦
          let b = byte_stop bytes s a in
          short bytes s b.1 (subst (Opening level) (sym b.0) (Opening-front [] (0x08 ∷ []) (open_tuple level (omega (arith, total)))))
      | inr k ↦
          let first = byte_takes bytes k.0 fits k.1 in
          let is = byte_is bytes k.0 k.1 in
          let at_start = subst (λ (q : List ℕ). tree_under (term_at below) below q k.0.0 k.0.1 ≡ Err s) is k.2 in
          let r = tree_stops level below (term_at below) (omega (arith, total)) (term_takes below) (λ some. term_stops below (suc level) (omega (arith, total)) some) k.0.0 k.0.1 s (omega (arith, total)) first.rest_fits
          (under (term_at below) below (k.0.0 ∷ k.0.1) k.0.0 k.0.1 (Err s) at_start) in
          subst (λ (q : List ℕ). StopsAt level q s) (sym is) r
    ]
