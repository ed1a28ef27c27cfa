-- The place and the reason of a fault, by the whole input.
use Rattle.std.proofs.Common.{◌≡◌, ◌⊎◌, ℕ, suc, ◌-◌, ◌≤◌, true, false, cond, ltb, lt-ltb, List, [], ◌∷◌, ◌++◌, length, take, drop, refl, sym, ap, subst, ◌∙◌, append_assoc, arith, inl, inr, length-append}
use Rattle.std.specs.Prelude.{Ok, Err}
use Rattle.std.proofs.lemmas.Bool.{cases_lt, le-ltb}
use Rattle.std.proofs.lemmas.List.{append-nil, take_at, drop_at, length-drop, length-take, take-append-drop}
use Rattle.term_values.specs.declared.Why.{Why}
use Rattle.term_values.specs.declared.Why.TheVariants as why
use Rattle.term_values.specs.Trees.{Tree}
use Rattle.tagged_codec.specs.Faults.{Begins, IsFault, IsRefused, IsWholeFault, IsWhy, looked_at, reason_of, Refused, no_kind, no_key_kind, zero_name, text_high, text_low, blob_high, blob_low, many_items, deep_seal, deep_items, in_items, in_body, RefusedIn, in_first, in_later}
use Rattle.tagged_codec.specs.Grammar.{IsSpelling, spelling}
use Rattle.tagged_codec.specs.Relation.{Spells}
use Rattle.tagged_codec.specs.Reading.{Read, Stop, term_at}
use Rattle.tagged_codec.proofs.Fields.{IsBytes, IsBytes-take, stop_is}
use Rattle.tagged_codec.proofs.Openings.{Opening}
use Rattle.tagged_codec.proofs.Refusals.{refused_opens, refused_reads}
use Rattle.tagged_codec.proofs.Relation.{spelled, spells}
use Rattle.tagged_codec.proofs.Stops.{Outcome, term_stops}
use Rattle.tagged_codec.proofs.Terms.{is_absent, is_found, one_form_is, term_again}

-- a refused byte has no reason but its own
mutual
  reason_at : (level : ℕ) (front : List ℕ) (byte : ℕ) (reason : Why) → Refused level front byte reason → (bytes : List ℕ) (place n : ℕ) → IsRefused bytes place reason → IsWhy bytes place (reason_of reason n)
  reason_at level front byte reason (no_kind _ _ _) bytes place n h = h
  reason_at level front byte reason (no_key_kind _ _ _ _ _ _ _) bytes place n h = h
  reason_at level front byte reason (zero_name _) bytes place n h = h
  reason_at level front byte reason (text_high _ _ _) bytes place n h = h
  reason_at level front byte reason (text_low _ _ _ _ _) bytes place n h = h
  reason_at level front byte reason (blob_high _ _ _) bytes place n h = h
  reason_at level front byte reason (blob_low _ _ _ _ _) bytes place n h = h
  reason_at level front byte reason (many_items _ _ _) bytes place n h = h
  reason_at level front byte reason (deep_seal _ _ _ _) bytes place n h = h
  reason_at level front byte reason (deep_items _ _ _ _ _) bytes place n h = h
  reason_at level front byte reason (in_items _ count items _ _ _ _ r) bytes place n h = reason_in (suc level) count items byte reason r bytes place n h
  reason_at level front byte reason (in_body _ _ _ body _ _ _ _ _ r) bytes place n h = reason_at (suc level) body byte reason r bytes place n h

  reason_in : (level count : ℕ) (front : List ℕ) (byte : ℕ) (reason : Why) → RefusedIn level count front byte reason → (bytes : List ℕ) (place n : ℕ) → IsRefused bytes place reason → IsWhy bytes place (reason_of reason n)
  reason_in level count front byte reason (in_first _ _ _ _ _ r) bytes place n h = reason_at level front byte reason r bytes place n h
  reason_in level count front byte reason (in_later _ more _ _ items _ _ _ r) bytes place n h = reason_in level more items byte reason r bytes place n h

-- where what is looked at ends
end_reason : (bytes : List ℕ) (place : ℕ) → place ≡ length (looked_at bytes) → IsWhy bytes place (reason_of why.Short (length bytes))
end_reason bytes place e =
    elim (cases_lt 8192 (length bytes)) [
      | inl lt ↦ let b : ltb 8192 (length bytes) ≡ true = lt-ltb _ _ lt in subst (λ (w : Why). IsWhy bytes place w) (sym (ap (λ v. cond v why.LongMessage why.Short) b)) (omega (arith, e, length-take 8192 bytes), lt)
      | inr le ↦ let b : ltb 8192 (length bytes) ≡ false = le-ltb _ _ le in subst (λ (w : Why). IsWhy bytes place w) (sym (ap (λ v. cond v why.LongMessage why.Short) b)) (omega (arith, e, length-take 8192 bytes), le)
    ]

opening_begins : (front : List ℕ) → Opening 1 front → Begins front
opening_begins front o = (o.t, o.rest, spells 1 o.t (front ++ o.rest) o.stands.fits o.stands.depth o.stands.is)

-- a spelling has no refused byte
never_begins : (front : List ℕ) (byte : ℕ) (reason : Why) (rest more : List ℕ) (t : Tree) → Refused 1 front byte reason → Spells 1 t ((front ++ byte ∷ rest) ++ more) → ⊥
never_begins front byte reason rest more t r h =
    let s = spelled 1 t ((front ++ byte ∷ rest) ++ more) h in
    let is : spelling t ++ [] ≡ front ++ byte ∷ (rest ++ more) = append-nil (spelling t) ∙ sym s.is ∙ append_assoc front (byte ∷ rest) more in
    let read : term_at 8 (spelling t ++ []) ≡ Ok (t, []) = term_again 8 t [] s.fits (omega (arith, s.depth)) in
    let stopped : term_at 8 (front ++ byte ∷ (rest ++ more)) ≡ Err (reason, byte ∷ (rest ++ more)) = refused_reads 1 7 front byte reason r refl (rest ++ more) in
    absurd (let both : Ok (t, []) ≡ Err (reason, byte ∷ (rest ++ more)) = sym read ∙ ap (term_at 8) is ∙ stopped in cc)

at_stop : (bytes front : List ℕ) (reason : Why) (rest : List ℕ) → looked_at bytes ≡ front ++ rest → ((t : Tree) (n : ℕ) → IsSpelling t (take n bytes) → ⊥) → Outcome 1 front reason rest → IsFault bytes (length front) (reason_of reason (length bytes))
at_stop bytes front reason [] is none o =
    let whole : bytes ≡ front ++ drop 8192 bytes = sym (take-append-drop 8192 bytes) ∙ ap (λ (q : List ℕ). q ++ drop 8192 bytes) (is ∙ append-nil front) in
    let cut : take (length front) bytes ≡ front = ap (take (length front)) whole ∙ take_at front (drop 8192 bytes) (length front) refl in
    let at_end : length front ≡ length (looked_at bytes) = sym (ap length (is ∙ append-nil front)) in
    record {
      none = none;
      begins = subst Begins (sym cut) (opening_begins front o.1);
      end = inl at_end;
      reason = subst (λ (w : Why). IsWhy bytes (length front) (reason_of w (length bytes))) (sym o.0) (end_reason bytes (length front) at_end);
    }
at_stop bytes front reason (b ∷ rest) is none o =
    let whole : bytes ≡ front ++ (b ∷ rest ++ drop 8192 bytes) = sym (take-append-drop 8192 bytes) ∙ ap (λ (q : List ℕ). q ++ drop 8192 bytes) is ∙ append_assoc front (b ∷ rest) (drop 8192 bytes) in
    let cut : take (length front) bytes ≡ front = ap (take (length front)) whole ∙ take_at front (b ∷ rest ++ drop 8192 bytes) (length front) refl in
    let longer : bytes ≡ (front ++ b ∷ []) ++ (rest ++ drop 8192 bytes) = whole ∙ sym (append_assoc front (b ∷ []) (rest ++ drop 8192 bytes)) in
    let next : take (suc (length front)) bytes ≡ front ++ b ∷ [] = ap (take (suc (length front))) longer ∙ take_at (front ++ b ∷ []) (rest ++ drop 8192 bytes) (suc (length front)) (omega (arith, length-append front (b ∷ []))) in
    let here : IsRefused bytes (length front) reason = (b, rest, is ∙ ap (λ (q : List ℕ). q ++ b ∷ rest) (sym cut), subst (λ (q : List ℕ). Refused 1 q b reason) (sym cut) o) in
    record {
      none = none;
      begins = subst Begins (sym cut) (opening_begins front (refused_opens 1 front b reason o (omega arith)));
      end = inr (omega (arith, ap length is, length-append front (b ∷ rest)), λ h. let more = subst Begins next h in never_begins front b reason [] more.1 more.0 o more.2);
      reason = reason_at 1 front b reason o bytes (length front) (length bytes) here;
    }

pub fault_of : (bytes front : List ℕ) (s : Stop) (place : ℕ) → IsBytes bytes → front ≡ take 8192 bytes → term_at 8 front ≡ Err s → place ≡ length front - length s.1 → IsFault bytes place (reason_of s.0 (length bytes))
fault_of bytes front s place fits is e count =
    let r = term_stops 8 1 refl (omega arith) front s (subst IsBytes (sym is) (IsBytes-take 8192 bytes fits)) e in
    let here : place ≡ length r.front = omega (arith, count, ap length r.parts, length-append r.front s.1) in
    subst (λ (n : ℕ). IsFault bytes n (reason_of s.0 (length bytes))) (sym here) (at_stop bytes r.front s.0 s.1 (sym is ∙ r.parts) (is_absent bytes front is s e) r.outcome)

pub no_further : (bytes front : List ℕ) (s : Stop) → IsBytes bytes → front ≡ take 8192 bytes → term_at 8 front ≡ Err s → length s.1 ≤ length front
no_further bytes front s fits is e =
    let r = term_stops 8 1 refl (omega arith) front s (subst IsBytes (sym is) (IsBytes-take 8192 bytes fits)) e in
    omega (arith, ap length r.parts, length-append r.front s.1)

-- ---- what was encoded is read again

pub again_found : (bytes : List ℕ) (t : Tree) (words rest : List ℕ) (u : Tree) (n : ℕ) → IsSpelling t words → bytes ≡ words ++ rest → n ≤ length bytes → IsSpelling u (take n bytes) → (u ≡ t) × (n ≡ length words)
again_found bytes t words rest u n h e le k =
    let one = one_form_is u t (take n bytes) words (drop n bytes) rest k h (take-append-drop n bytes ∙ e) in
    (one.0, omega (arith, ap length one.1, length-take n bytes, le))

pub again_absent : (bytes : List ℕ) (t : Tree) (words rest : List ℕ) (place : ℕ) (reason : Why) → IsSpelling t words → bytes ≡ words ++ rest → IsFault bytes place reason → ⊥
again_absent bytes t words rest place reason h e f =
    f.none t (length words) (subst (IsSpelling t) (sym (ap (take (length words)) e ∙ take_at words rest (length words) refl)) h)

-- ---- the whole of the bytes

pub whole_fault : (bytes : List ℕ) (place : ℕ) (reason : Why) → IsFault bytes place reason → IsWholeFault bytes place reason
whole_fault bytes place why.Kind f = f
whole_fault bytes place why.Short f = f
whole_fault bytes place why.ZeroName f = f
whole_fault bytes place why.LongText f = f
whole_fault bytes place why.LongBlob f = f
whole_fault bytes place why.ManyItems f = f
whole_fault bytes place why.Deep f = f
whole_fault bytes place why.LongMessage f = f
whole_fault bytes place why.Extra f = absurd f.reason

pub same_fault : (bytes : List ℕ) (p q : ℕ) (w v : Why) → p ≡ q → w ≡ v → IsFault bytes p w → IsFault bytes q v
same_fault bytes p q w v e f h = subst (λ (n : ℕ). IsFault bytes n v) e (subst (IsFault bytes p) f h)

-- ---- a fault is one alone, and there is one wherever there is no spelling

answer : {A : Type 0} (r : Read A) → ((x : A × List ℕ) × (r ≡ Ok x)) ⊎ ((s : Stop) × (r ≡ Err s))
answer (Ok x) = inl (x, refl)
answer (Err s) = inr (s, refl)

within_looked : (bytes : List ℕ) (place : ℕ) (reason : Why) → IsFault bytes place reason → place ≤ length (looked_at bytes)
within_looked bytes place reason f = elim f.end [ inl e ↦ omega (arith, e) | inr e ↦ omega (arith, e.0) ]

ended : (looked front : List ℕ) (reason : Why) (rest : List ℕ) → looked ≡ front ++ rest → Outcome 1 front reason rest → Begins looked → (reason ≡ why.Short) × (rest ≡ [])
ended looked front reason [] is o h = (o.0, refl)
ended looked front reason (b ∷ rest) is o h = absurd (never_begins front b reason rest h.1 h.0 o (subst (λ (q : List ℕ). Spells 1 h.0 (q ++ h.1)) is h.2))

-- what reading answers where the reason is this one
record Answers (bytes : List ℕ) (place : ℕ) (reason : Why) : Type 0 where
  why : Why
  stop : term_at 8 (looked_at bytes) ≡ Err (why, drop place (looked_at bytes))
  is : reason ≡ reason_of why (length bytes)

at_byte : (bytes : List ℕ) (place : ℕ) (reason : Why) → reason ≡ reason_of reason (length bytes) → IsRefused bytes place reason → Answers bytes place reason
at_byte bytes place reason same (byte, rest, is, r) =
    let front : List ℕ = take place bytes in
    let here : length front ≡ place = omega (arith, ap length is, length-append front (byte ∷ rest), length-take place bytes, length-take 8192 bytes) in
    let left : drop place (looked_at bytes) ≡ byte ∷ rest = ap (drop place) is ∙ drop_at front (byte ∷ rest) place here in
    record { why = reason; stop = ap (term_at 8) is ∙ refused_reads 1 7 front byte reason r refl rest ∙ ap (λ (q : List ℕ). Err (reason, q)) (sym left); is = same }

at_end : (bytes : List ℕ) (place : ℕ) (reason : Why) → IsBytes bytes → IsFault bytes place reason → place ≡ length (looked_at bytes) → reason ≡ reason_of why.Short (length bytes) → Answers bytes place reason
at_end bytes place reason fits f e same =
    let looked : List ℕ = looked_at bytes in
    let cut : take place bytes ≡ looked = ap (take place) (sym (take-append-drop 8192 bytes)) ∙ take_at looked (drop 8192 bytes) place (sym e) in
    let nothing : drop place looked ≡ [] = ap (drop place) (sym (append-nil looked)) ∙ drop_at looked [] place (sym e) in
    elim (answer (term_at 8 looked)) [
      | inl x ↦ absurd (let found = is_found bytes looked x.0 _ fits refl x.1 refl in f.none x.0.0 _ found.1)
      | inr s ↦
          let r = term_stops 8 1 refl (omega arith) looked s.0 (IsBytes-take 8192 bytes fits) s.1 in
          let o = ended looked r.front s.0.0 s.0.1 r.parts r.outcome (subst Begins cut f.begins) in
          record { why = why.Short; stop = s.1 ∙ ap (λ (w : Why). Err (w, s.0.1)) o.0 ∙ ap (λ (q : List ℕ). Err (why.Short, q)) (o.1 ∙ sym nothing); is = same }
    ]

answers_at : (bytes : List ℕ) (place : ℕ) (reason : Why) → IsBytes bytes → IsFault bytes place reason → Answers bytes place reason
answers_at bytes place why.Kind fits f = at_byte bytes place why.Kind refl f.reason
answers_at bytes place why.ZeroName fits f = at_byte bytes place why.ZeroName refl f.reason
answers_at bytes place why.LongText fits f = at_byte bytes place why.LongText refl f.reason
answers_at bytes place why.LongBlob fits f = at_byte bytes place why.LongBlob refl f.reason
answers_at bytes place why.ManyItems fits f = at_byte bytes place why.ManyItems refl f.reason
answers_at bytes place why.Deep fits f = at_byte bytes place why.Deep refl f.reason
answers_at bytes place why.Extra fits f = absurd f.reason
answers_at bytes place why.Short fits f =
    let b : ltb 8192 (length bytes) ≡ false = le-ltb _ _ f.reason.1 in
    at_end bytes place why.Short fits f (omega (arith, f.reason.0, f.reason.1, length-take 8192 bytes)) (sym (ap (λ v. cond v why.LongMessage why.Short) b))
answers_at bytes place why.LongMessage fits f =
    let b : ltb 8192 (length bytes) ≡ true = lt-ltb _ _ f.reason.1 in
    at_end bytes place why.LongMessage fits f (omega (arith, f.reason.0, f.reason.1, length-take 8192 bytes)) (sym (ap (λ v. cond v why.LongMessage why.Short) b))

pub one_fault_is : (bytes : List ℕ) (p q : ℕ) (w v : Why) → IsBytes bytes → IsFault bytes p w → IsFault bytes q v → (p ≡ q) × (w ≡ v)
one_fault_is bytes p q w v fits f g =
    let looked : List ℕ = looked_at bytes in
    let a = answers_at bytes p w fits f in
    let b = answers_at bytes q v fits g in
    let first : Stop = (a.why, drop p looked) in
    let second : Stop = (b.why, drop q looked) in
    let same : first ≡ second = stop_is {A = Tree × List ℕ} first second (sym a.stop ∙ b.stop) in
    let lengths : length (drop p looked) ≡ length (drop q looked) = ap (λ (s : Stop). length s.1) same in (
      omega (arith, lengths, length-drop p looked, length-drop q looked, within_looked bytes p w f, within_looked bytes q v g),
      a.is ∙ ap (λ (s : Stop). reason_of s.0 (length bytes)) same ∙ sym b.is,
    )

pub some_fault_is : (bytes : List ℕ) → IsBytes bytes → ((t : Tree) × (n : ℕ) × IsSpelling t (take n bytes)) ⊎ ((place : ℕ) × (w : Why) × IsFault bytes place w)
some_fault_is bytes fits =
    elim (answer (term_at 8 (looked_at bytes))) [
      | inl x ↦ let found = is_found bytes (looked_at bytes) x.0 _ fits refl x.1 refl in inl (x.0.0, _, found.1)
      | inr s ↦ inr (_, _, fault_of bytes (looked_at bytes) s.0 _ fits refl s.1 refl)
    ]
