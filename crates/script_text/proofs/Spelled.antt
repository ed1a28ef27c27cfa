-- What is read from the words of a line is what they say.
use Rattle.std.proofs.Common.{◌≡◌, ℕ, ◌*◌, ◌^◌, ◌<◌, ◌≤◌, Bool, true, false, not, ◌&&◌, cond, ltb, eqb, List, [], ◌∷◌, ◌++◌, length, map, refl, sym, ap, subst, ◌∙◌, append_assoc, arith, rules, inl, inr}
use Rattle.std.specs.Prelude.{Some, None, codes, is_some}
use Rattle.std.specs.Str.{bytes_eq}
use Rattle.std.specs.Fmt.{decimal}
use Rattle.std.proofs.lemmas.Bool.{eqb-true, ltb-true}
use Rattle.std.proofs.lemmas.Bool.Decides.{nat_tests}
use Rattle.std.proofs.lemmas.List.{append-nil}
use Rattle.std.proofs.lemmas.Slice.Eq.{bytes_eq-Decides}
use Rattle.hex.specs.Hex.{encode_lower, encode_with}
use Rattle.mech_rows.specs.declared.kinds.Mech.{Mech}
use Rattle.mech_rows.specs.declared.kinds.Mech.TheVariants.{E1, E2, E3, E4, C1, C2, C3, C4}
use Rattle.mech_rows.specs.declared.kinds.Role.{Role}
use Rattle.mech_rows.specs.declared.kinds.Role.TheVariants.{A, B}
use Rattle.mech_rows.specs.declared.kinds.Slot.{Slot}
use Rattle.mech_rows.specs.declared.kinds.Slot.TheVariants.{X1, X2, X3, X4, X5, X6, X7, X8, X9}
use Rattle.mech_rows.specs.Found.{found, Once}
use Rattle.script_text.specs.Notation.{AreBytes}
use Rattle.script_text.specs.Lines.{SlotTexts, AreSentTexts, IsNameNumber, IsTextBytes, is_end, is_offered, is_text, mech_name, prefix_word, role_name, sends_text, text_word}
use Rattle.script_text.specs.LineReading.{mech_in, name_in, number_below, number_in, part_in, prefix_in, role_in, slot_at, slot_in, slot_of_digit, text_at, text_in, texts_from, whole}
use Rattle.script_text.specs.Reading.{Read, byte_at, bytes_at, just, mark_at, number_at, upto}
use Rattle.script_text.specs.Refusals.{slot_name}
use Rattle.script_text.proofs.Readings.{is_nil}
use Rattle.script_text.proofs.Slots.{once_more}
use Rattle.script_text.proofs.Words.{bind_some, bytes_takes, byte_takes, chosen, guard_some, held_some, mark_takes, number_takes, some_is}

whole_some : {X : Type 0} (r : Read X) (y : X) → whole r ≡ Some y → r ≡ Some (y, [])
whole_some {X} (Some x) y e =
    let h = held_some (eqb (length x.1) 0) (Some x.0) y e in
    let same : x.0 ≡ y = some_is x.0 y h.1 in
    let ends : x.1 ≡ [] = is_nil x.1 (eqb (length x.1) 0) refl h.0 in
    subst (λ (z : X). Some x ≡ Some (z, [])) same (ap (λ (l : List ℕ). Some (x.0, l)) ends)
whole_some None y e = absurd cc

pub same_text : (xs ys : List ℕ) → bytes_eq xs ys ≡ true → xs ≡ ys
same_text xs ys e = search (rules, bytes_eq-Decides)

-- ---- numbers and parts

pub number_in_some : (limit : ℕ) (word : List ℕ) (n : ℕ) → limit ≤ 2 ^ 64 → number_in limit word ≡ Some n → (word ≡ decimal n) × (n < limit)
number_in_some limit word n small e =
    let t = number_takes limit word (n, []) small (whole_some (number_at limit word) n e) in
    (t.0 ∙ append-nil (decimal n), t.1)

positive : (n : ℕ) → eqb n 0 ≡ false → 0 < n
positive n h = grind (arith, nat_tests)

pub name_in_some : (word : List ℕ) (n : ℕ) → name_in word ≡ Some n → (word ≡ decimal n) × IsNameNumber n
name_in_some word n e =
    let b = bind_some (number_in (2 ^ 32) word) (λ k. cond (eqb k 0) None (Some k)) n e in
    let g = guard_some (eqb b.0 0) (Some b.0) n b.2 in
    let t = number_in_some (2 ^ 32) word b.0 (omega arith) b.1 in
    subst (λ (k : ℕ). (word ≡ decimal k) × IsNameNumber k) (some_is b.0 n g.1) (t.0, (positive b.0 g.0, t.1))

pub number_below_some : (limit : ℕ) (word : List ℕ) (n : ℕ) → number_below limit word ≡ Some n → (word ≡ decimal n) × (n < limit)
number_below_some limit word n e =
    let b = bind_some (number_in (2 ^ 32) word) (λ k. cond (ltb k limit) (Some k) None) n e in
    let h = held_some (ltb b.0 limit) (Some b.0) n b.2 in
    let t = number_in_some (2 ^ 32) word b.0 (omega arith) b.1 in
    subst (λ (k : ℕ). (word ≡ decimal k) × (k < limit)) (some_is b.0 n h.1) (t.0, ltb-true _ _ h.0)

pub part_in_some : (word p : List ℕ) → part_in word ≡ Some p → (word ≡ encode_lower p) × AreBytes 32 p
part_in_some word p e =
    let d = bytes_takes (just 64) word (p, []) (whole_some (bytes_at (just 64) word) p e) in
    (d.parts ∙ append-nil (encode_lower p), (omega (arith, eqb-true _ _ d.count), d.fits))

at_most : (k : ℕ) → upto 2048 (2 * k) ≡ true → k ≤ 1024
at_most k h = grind (arith, nat_tests)

digits_some : (word p : List ℕ) → whole (bytes_at (upto 2048) word) ≡ Some p → (word ≡ encode_lower p) × IsTextBytes p
digits_some word p e =
    let d = bytes_takes (upto 2048) word (p, []) (whole_some (bytes_at (upto 2048) word) p e) in
    (d.parts ∙ append-nil (encode_lower p), (at_most (length p) d.count, d.fits))

-- ---- names

-- a name was read as that mechanism
abbrev IsMechWord : List ℕ → Mech → Type 0
IsMechWord word m = (word ≡ mech_name m) × (is_offered m ≡ true)

is_mech : (word : List ℕ) (m n : Mech) → bytes_eq word (mech_name m) ≡ true → is_offered m ≡ true → Some m ≡ Some n → IsMechWord word n
is_mech word m n same offered e = subst (IsMechWord word) (some_is m n e) (same_text word (mech_name m) same, offered)

pub mech_in_some : (word : List ℕ) (m : Mech) → mech_in word ≡ Some m → IsMechWord word m
mech_in_some word m e =
    elim (chosen (bytes_eq word (codes "E1")) _ _ _ e) [
      | inl a ↦ is_mech word E1 m a.0 refl a.1
      | inr e ↦ elim (chosen (bytes_eq word (codes "E2")) _ _ _ e.1) [
        | inl a ↦ is_mech word E2 m a.0 refl a.1
        | inr e ↦ elim (chosen (bytes_eq word (codes "E3")) _ _ _ e.1) [
          | inl a ↦ is_mech word E3 m a.0 refl a.1
          | inr e ↦ elim (chosen (bytes_eq word (codes "E4")) _ _ _ e.1) [
            | inl a ↦ is_mech word E4 m a.0 refl a.1
            | inr e ↦ elim (chosen (bytes_eq word (codes "C1")) _ _ _ e.1) [
              | inl a ↦ is_mech word C1 m a.0 refl a.1
              | inr e ↦ elim (chosen (bytes_eq word (codes "C2")) _ _ _ e.1) [
                | inl a ↦ is_mech word C2 m a.0 refl a.1
                | inr e ↦ elim (chosen (bytes_eq word (codes "C3")) _ _ _ e.1) [
                  | inl a ↦ is_mech word C3 m a.0 refl a.1
                  | inr e ↦ elim (chosen (bytes_eq word (codes "C4")) _ _ _ e.1) [
                    | inl a ↦ is_mech word C4 m a.0 refl a.1
                    | inr e ↦ absurd (let never = e.1 in cc)
                  ]
                ]
              ]
            ]
          ]
        ]
      ]
    ]

abbrev IsRoleWord : List ℕ → Role → Type 0
IsRoleWord word r = (word ≡ role_name r) × (is_end r ≡ true)

is_role : (word : List ℕ) (r q : Role) → bytes_eq word (role_name r) ≡ true → is_end r ≡ true → Some r ≡ Some q → IsRoleWord word q
is_role word r q same end e = subst (IsRoleWord word) (some_is r q e) (same_text word (role_name r) same, end)

pub role_in_some : (word : List ℕ) (r : Role) → role_in word ≡ Some r → IsRoleWord word r
role_in_some word r e =
    elim (chosen (bytes_eq word (codes "A")) _ _ _ e) [
      | inl a ↦ is_role word A r a.0 refl a.1
      | inr e ↦ elim (chosen (bytes_eq word (codes "B")) _ _ _ e.1) [
        | inl a ↦ is_role word B r a.0 refl a.1
        | inr e ↦ absurd (let never = e.1 in cc)
      ]
    ]

-- ---- slots and texts

abbrev IsDigitOf : ℕ → Slot → Type 0
IsDigitOf c s = (88 ∷ c ∷ [] ≡ slot_name s) × (is_text s ≡ true)

is_digit : (c d : ℕ) (s t : Slot) → eqb c d ≡ true → 88 ∷ d ∷ [] ≡ slot_name s → is_text s ≡ true → Some s ≡ Some t → IsDigitOf c t
is_digit c d s t same name text e = subst (IsDigitOf c) (some_is s t e) (ap (λ (k : ℕ). 88 ∷ k ∷ []) (eqb-true c d same) ∙ name, text)

digit_some : (c : ℕ) (s : Slot) → slot_of_digit c ≡ Some s → IsDigitOf c s
digit_some c s e =
    elim (chosen (eqb c 49) _ _ _ e) [
      | inl a ↦ is_digit c 49 X1 s a.0 refl refl a.1
      | inr e ↦ elim (chosen (eqb c 50) _ _ _ e.1) [
        | inl a ↦ is_digit c 50 X2 s a.0 refl refl a.1
        | inr e ↦ elim (chosen (eqb c 51) _ _ _ e.1) [
          | inl a ↦ is_digit c 51 X3 s a.0 refl refl a.1
          | inr e ↦ elim (chosen (eqb c 52) _ _ _ e.1) [
            | inl a ↦ is_digit c 52 X4 s a.0 refl refl a.1
            | inr e ↦ elim (chosen (eqb c 53) _ _ _ e.1) [
              | inl a ↦ is_digit c 53 X5 s a.0 refl refl a.1
              | inr e ↦ elim (chosen (eqb c 54) _ _ _ e.1) [
                | inl a ↦ is_digit c 54 X6 s a.0 refl refl a.1
                | inr e ↦ elim (chosen (eqb c 55) _ _ _ e.1) [
                  | inl a ↦ is_digit c 55 X7 s a.0 refl refl a.1
                  | inr e ↦ elim (chosen (eqb c 56) _ _ _ e.1) [
                    | inl a ↦ is_digit c 56 X8 s a.0 refl refl a.1
                    | inr e ↦ elim (chosen (eqb c 57) _ _ _ e.1) [
                      | inl a ↦ is_digit c 57 X9 s a.0 refl refl a.1
                      | inr e ↦ absurd (let never = e.1 in cc)
                    ]
                  ]
                ]
              ]
            ]
          ]
        ]
      ]
    ]

-- a slot stood in front
record SlotTaken (bytes : List ℕ) (x : Slot × List ℕ) : Type 0 where
  parts : bytes ≡ slot_name x.0 ++ x.1
  text : is_text x.0 ≡ true

slot_takes : (bytes : List ℕ) (x : Slot × List ℕ) → slot_at bytes ≡ Some x → SlotTaken bytes x
unfolding slot_at
slot_takes bytes x e =
    let m = bind_some (mark_at 88 bytes) _ x e in
    let d = bind_some (byte_at m.0.1) _ x m.2 in
    let s = bind_some (slot_of_digit d.0.0) (λ slot. Some (slot, d.0.1)) x d.2 in
    let is = digit_some d.0.0 s.0 s.1 in
    let made : Slot × List ℕ = (s.0, d.0.1) in
    let front : bytes ≡ 88 ∷ d.0.0 ∷ d.0.1 = mark_takes 88 bytes m.0 m.1 ∙ ap (λ (l : List ℕ). 88 ∷ l) (byte_takes m.0.1 d.0 d.1) in
    subst (SlotTaken bytes) (some_is made x s.2) (record { parts = front ∙ ap (λ (l : List ℕ). l ++ d.0.1) is.0; text = is.1 })

pub slot_in_some : (word : List ℕ) (s : Slot) → slot_in word ≡ Some s → (word ≡ slot_name s) × (is_text s ≡ true)
slot_in_some word s e =
    let t = slot_takes word (s, []) (whole_some (slot_at word) s e) in
    (t.parts ∙ append-nil (slot_name s), t.text)

pub text_in_some : (word : List ℕ) (t : Slot × List ℕ) → text_in word ≡ Some t → (word ≡ text_word t) × (is_text t.0 ≡ true) × IsTextBytes t.1
unfolding text_at
text_in_some word t e =
    let x : (Slot × List ℕ) × List ℕ = (t, []) in
    let s = bind_some (slot_at word) _ x (whole_some (text_at word) t e) in
    let q = bind_some (mark_at 61 s.0.1) _ x s.2 in
    let b = bind_some (bytes_at (upto 2048) q.0.1) (λ text. Some ((s.0.0, text.0), text.1)) x q.2 in
    let slot = slot_takes word s.0 s.1 in
    let digits = bytes_takes (upto 2048) q.0.1 b.0 b.1 in
    let made : (Slot × List ℕ) × List ℕ = ((s.0.0, b.0.0), b.0.1) in
    let same : made ≡ x = some_is made x b.2 in
    let front : word ≡ slot_name s.0.0 ++ 61 ∷ (encode_lower b.0.0 ++ b.0.1) =
    slot.parts ∙ ap (λ (l : List ℕ). slot_name s.0.0 ++ l) (mark_takes 61 s.0.1 q.0 q.1 ∙ ap (λ (l : List ℕ). 61 ∷ l) digits.parts) in
    let whole_word : (word ≡ slot_name t.0 ++ 61 ∷ (encode_lower t.1 ++ [])) × (is_text t.0 ≡ true) × IsTextBytes t.1 =
    subst (λ (y : (Slot × List ℕ) × List ℕ). (word ≡ slot_name y.0.0 ++ 61 ∷ (encode_lower y.0.1 ++ y.1)) × (is_text y.0.0 ≡ true) × IsTextBytes y.0.1) same
    (front, slot.text, (at_most (length b.0.0) digits.count, digits.fits)) in
    (whole_word.0 ∙ ap (λ (l : List ℕ). slot_name t.0 ++ 61 ∷ l) (append-nil (encode_lower t.1)), whole_word.1, whole_word.2)

no_length : (word : List ℕ) → eqb (length word) 0 ≡ false → word ≡ [] → ⊥
no_length [] e nil = absurd cc
no_length (c ∷ cs) e nil = absurd cc

some_prefix : (word p : List ℕ) → (word ≡ [] → ⊥) → word ≡ encode_lower p → word ≡ prefix_word p
unfolding encode_with
some_prefix word [] some e = absurd (some e)
some_prefix word (b ∷ bs) some e = e

pub prefix_in_some : (word p : List ℕ) → prefix_in word ≡ Some p → (word ≡ prefix_word p) × IsTextBytes p
prefix_in_some word p e =
    elim (chosen (bytes_eq word (codes "-")) _ _ _ e) [
      | inl a ↦ subst (λ (q : List ℕ). (word ≡ prefix_word q) × IsTextBytes q) (some_is [] p a.1) (same_text word (codes "-") a.0, (omega arith, λ i. omega arith))
      | inr e ↦
          let g = guard_some (eqb (length word) 0) (whole (bytes_at (upto 2048) word)) p e.1 in
          let d = digits_some word p g.1 in
          (some_prefix word p (no_length word g.0) d.0, d.1)
    ]

-- texts that were read behind others
pub record TextsTaken (m : Mech) (r : Role) (so_far : SlotTexts) (words : List (List ℕ)) (all : SlotTexts) : Type 0 where
  pub them : SlotTexts
  pub spelled : words ≡ map text_word them
  pub sent : AreSentTexts m r them
  pub once : Once so_far → Once all
  pub made : all ≡ so_far ++ them

pub and_left : (a b : Bool) → (a && b) ≡ true → a ≡ true
and_left true b e = refl
and_left false b e = absurd cc

pub and_right : (a b : Bool) → (a && b) ≡ true → b ≡ true
and_right true b e = e
and_right false b e = absurd cc

not_true : (b : Bool) → not b ≡ true → b ≡ false
not_true true e = absurd cc
not_true false e = refl

pub texts_from_some : (m : Mech) (r : Role) (so_far : SlotTexts) (words : List (List ℕ)) (all : SlotTexts) → texts_from m r so_far words ≡ Some all → TextsTaken m r so_far words all
unfolding texts_from
texts_from_some m r so_far [] all e =
    let same : so_far ≡ all = some_is so_far all e in
    record { them = []; spelled = refl; sent = tt; once = λ h. subst (λ (l : SlotTexts). Once l) same h; made = sym same ∙ sym (append-nil so_far) }
texts_from_some m r so_far (word ∷ words) all e =
    let t = bind_some (text_in word) _ all e in
    let h = held_some (sends_text m r t.0.0 && not (is_some (found so_far t.0.0))) _ all t.2 in
    let is = text_in_some word t.0 t.1 in
    let sent : sends_text m r t.0.0 ≡ true = and_left (sends_text m r t.0.0) _ h.0 in
    let fresh : is_some (found so_far t.0.0) ≡ false = not_true _ (and_right (sends_text m r t.0.0) _ h.0) in
    let rest = texts_from_some m r (so_far ++ t.0 ∷ []) words all h.1 in
    record {
      them = t.0 ∷ rest.them;
      spelled = ap (λ (w : List ℕ). w ∷ words) is.0 ∙ ap (λ (ws : List (List ℕ)). text_word t.0 ∷ ws) rest.spelled;
      sent = (sent, is.2, rest.sent);
      once = λ h. rest.once (once_more so_far t.0.0 t.0.1 h fresh);
      made = rest.made ∙ append_assoc so_far (t.0 ∷ []) rest.them;
    }
