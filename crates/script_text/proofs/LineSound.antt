-- What the words of a line were read as is what they say.
use Rattle.std.proofs.Common.{◌≡◌, ℕ, ◌^◌, Bool, true, false, ◌&&◌, List, [], ◌∷◌, refl, sym, ap, subst, ◌∙◌, arith, inl, inr}
use Rattle.std.specs.Prelude.{Some, None, codes}
use Rattle.std.specs.Str.{bytes_eq}
use Rattle.std.specs.Fmt.{decimal}
use Rattle.hex.specs.Hex.{encode_lower}
use Rattle.term_values.specs.Trees.{Tree}
use Rattle.term_values.specs.declared.small.StampKind.TheVariants.{Time, Seq}
use Rattle.mech_rows.specs.Found.{Once}
use Rattle.script_text.specs.declared.line.Line.{Line}
use Rattle.script_text.specs.declared.line.Line.TheVariants as line
use Rattle.script_text.specs.Notation.{AreBytes}
use Rattle.script_text.specs.Lines.{WrittenLine, AreLineValues, IsNameNumber, is_line_named, line_words, mech_name, role_name, said, silent, time_party, seq_party, secret_pair, revealed_pair, own, allow, clock, opening, drop}
use Rattle.script_text.specs.LineReading.{allow_words, five_at_most, five_words, four_words, mech_in, name_in, number_below, number_in, open_words, pair_words, part_in, plain_words, prefix_in, role_in, slot_in, texts_from, three_words, two_words}
use Rattle.script_text.specs.Refusals.{slot_name}
use Rattle.script_text.proofs.Spelled.{and_left, and_right, mech_in_some, name_in_some, number_below_some, number_in_some, part_in_some, prefix_in_some, role_in_some, same_text, slot_in_some, texts_from_some}
use Rattle.script_text.proofs.Words.{bind_some, chosen, held_some, some_is}

-- a line with words says something
abbrev pub is_loud : WrittenLine → Bool
is_loud silent = false
is_loud _ = true

-- these words are a line, which says this
pub record Says (words : List (List ℕ)) (l : Line) : Type 0 where
  pub it : WrittenLine
  pub loud : is_loud it ≡ true
  pub spelled : words ≡ line_words it
  pub values : (sent : List Tree) → AreLineValues sent it
  pub named : (sent : List Tree) → is_line_named sent it ≡ true
  pub made : (sent : List Tree) → l ≡ said sent it

two_say : (verb x : List ℕ) (l : Line) → two_words verb x ≡ Some l → Says (verb ∷ x ∷ []) l
two_say verb x l e =
    elim (chosen (bytes_eq verb (codes "own")) _ _ _ e) [
      | inl a ↦
          let p = bind_some (part_in x) (λ part. Some (line.Own part)) l a.1 in
          let is = part_in_some x p.0 p.1 in
          subst (Says (verb ∷ x ∷ [])) (some_is (line.Own p.0) l p.2) (record {
            it = own p.0;
            loud = refl;
            spelled = ap (λ (v : List ℕ). v ∷ x ∷ []) (same_text verb (codes "own") a.0) ∙ ap (λ (v : List ℕ). codes "own" ∷ v ∷ []) is.0;
            values = λ sent. is.1;
            named = λ sent. refl;
            made = λ sent. refl;
          })
      | inr a ↦
          let h = held_some (bytes_eq verb (codes "drop")) _ l a.1 in
          let n = bind_some (number_in (2 ^ 32) x) (λ run. Some (line.Drop run)) l h.1 in
          let is = number_in_some (2 ^ 32) x n.0 (omega arith) n.1 in
          subst (Says (verb ∷ x ∷ [])) (some_is (line.Drop n.0) l n.2) (record {
            it = drop n.0;
            loud = refl;
            spelled = ap (λ (v : List ℕ). v ∷ x ∷ []) (same_text verb (codes "drop") h.0) ∙ ap (λ (v : List ℕ). codes "drop" ∷ v ∷ []) is.0;
            values = λ sent. is.1;
            named = λ sent. refl;
            made = λ sent. refl;
          })
    ]

three_say : (verb x y : List ℕ) (l : Line) → three_words verb x y ≡ Some l → Says (verb ∷ x ∷ y ∷ []) l
three_say verb x y l e =
    elim (chosen (bytes_eq verb (codes "party") && bytes_eq y (codes "seq")) _ _ _ e) [
      | inl a ↦
          let n = bind_some (name_in x) (λ name. Some (line.Party name Seq 5000)) l a.1 in
          let is = name_in_some x n.0 n.1 in
          let first = same_text verb (codes "party") (and_left _ _ a.0) in
          let last = same_text y (codes "seq") (and_right (bytes_eq verb (codes "party")) _ a.0) in
          subst (Says (verb ∷ x ∷ y ∷ [])) (some_is (line.Party n.0 Seq 5000) l n.2) (record {
            it = seq_party n.0;
            loud = refl;
            spelled = ap (λ (v : List ℕ). v ∷ x ∷ y ∷ []) first ∙ ap (λ (v : List ℕ). codes "party" ∷ v ∷ y ∷ []) is.0 ∙ ap (λ (v : List ℕ). codes "party" ∷ decimal n.0 ∷ v ∷ []) last;
            values = λ sent. is.1;
            named = λ sent. refl;
            made = λ sent. refl;
          })
      | inr a ↦
          let h = held_some (bytes_eq verb (codes "clock")) _ l a.1 in
          let n = bind_some (name_in x) _ l h.1 in
          let ms = bind_some (number_in (2 ^ 64) y) (λ ms. Some (line.Clock n.0 ms)) l n.2 in
          let is = name_in_some x n.0 n.1 in
          let at = number_in_some (2 ^ 64) y ms.0 (omega arith) ms.1 in
          subst (Says (verb ∷ x ∷ y ∷ [])) (some_is (line.Clock n.0 ms.0) l ms.2) (record {
            it = clock n.0 ms.0;
            loud = refl;
            spelled = ap (λ (v : List ℕ). v ∷ x ∷ y ∷ []) (same_text verb (codes "clock") h.0) ∙ ap (λ (v : List ℕ). codes "clock" ∷ v ∷ y ∷ []) is.0 ∙ ap (λ (v : List ℕ). codes "clock" ∷ decimal n.0 ∷ v ∷ []) at.0;
            values = λ sent. (is.1, at.1);
            named = λ sent. refl;
            made = λ sent. refl;
          })
    ]

-- two names and a part
record PairSaid (x y z : List ℕ) (revealed : Bool) (l : Line) : Type 0 where
  a : ℕ
  b : ℕ
  part : List ℕ
  first : x ≡ decimal a
  second : y ≡ decimal b
  third : z ≡ encode_lower part
  values : IsNameNumber a × IsNameNumber b × AreBytes 32 part
  made : l ≡ line.Pair a b part revealed

pair_say : (x y z : List ℕ) (revealed : Bool) (l : Line) → pair_words x y z revealed ≡ Some l → PairSaid x y z revealed l
pair_say x y z revealed l e =
    let a = bind_some (name_in x) _ l e in
    let b = bind_some (name_in y) _ l a.2 in
    let p = bind_some (part_in z) (λ part. Some (line.Pair a.0 b.0 part revealed)) l b.2 in
    let is_a = name_in_some x a.0 a.1 in
    let is_b = name_in_some y b.0 b.1 in
    let is_p = part_in_some z p.0 p.1 in
    record {
      a = a.0;
      b = b.0;
      part = p.0;
      first = is_a.0;
      second = is_b.0;
      third = is_p.0;
      values = (is_a.1, is_b.1, is_p.1);
      made = sym (some_is (line.Pair a.0 b.0 p.0 revealed) l p.2);
    }

four_say : (verb x y z : List ℕ) (l : Line) → four_words verb x y z ≡ Some l → Says (verb ∷ x ∷ y ∷ z ∷ []) l
four_say verb x y z l e =
    elim (chosen (bytes_eq verb (codes "party") && bytes_eq y (codes "time")) _ _ _ e) [
      | inl a ↦
          let n = bind_some (name_in x) _ l a.1 in
          let w = bind_some (number_below 600001 z) (λ window. Some (line.Party n.0 Time window)) l n.2 in
          let is = name_in_some x n.0 n.1 in
          let wide = number_below_some 600001 z w.0 w.1 in
          let first = same_text verb (codes "party") (and_left _ _ a.0) in
          let third = same_text y (codes "time") (and_right (bytes_eq verb (codes "party")) _ a.0) in
          subst (Says (verb ∷ x ∷ y ∷ z ∷ [])) (some_is (line.Party n.0 Time w.0) l w.2) (record {
            it = time_party n.0 w.0;
            loud = refl;
            spelled = ap (λ (v : List ℕ). v ∷ x ∷ y ∷ z ∷ []) first ∙ ap (λ (v : List ℕ). codes "party" ∷ v ∷ y ∷ z ∷ []) is.0 ∙ ap (λ (v : List ℕ). codes "party" ∷ decimal n.0 ∷ v ∷ z ∷ []) third ∙ ap (λ (v : List ℕ). codes "party" ∷ decimal n.0 ∷ codes "time" ∷ v ∷ []) wide.0;
            values = λ sent. (is.1, omega (arith, wide.1));
            named = λ sent. refl;
            made = λ sent. refl;
          })
      | inr a ↦
          let h = held_some (bytes_eq verb (codes "pair")) _ l a.1 in
          let p = pair_say x y z false l h.1 in
          record {
            it = secret_pair p.a p.b p.part;
            loud = refl;
            spelled = ap (λ (v : List ℕ). v ∷ x ∷ y ∷ z ∷ []) (same_text verb (codes "pair") h.0) ∙ ap (λ (v : List ℕ). codes "pair" ∷ v ∷ y ∷ z ∷ []) p.first ∙ ap (λ (v : List ℕ). codes "pair" ∷ decimal p.a ∷ v ∷ z ∷ []) p.second ∙ ap (λ (v : List ℕ). codes "pair" ∷ decimal p.a ∷ decimal p.b ∷ v ∷ []) p.third;
            values = λ sent. p.values;
            named = λ sent. refl;
            made = λ sent. p.made;
          }
    ]

allow_say : (verb w x y z : List ℕ) (l : Line) → verb ≡ codes "allow" → allow_words w x y z ≡ Some l → Says (verb ∷ w ∷ x ∷ y ∷ z ∷ []) l
allow_say verb w x y z l is e =
    let m = bind_some (mech_in w) _ l e in
    let s = bind_some (slot_in x) _ l m.2 in
    let n = bind_some (number_below 1025 y) _ l s.2 in
    let p = bind_some (prefix_in z) (λ start. Some (line.Allow (record { mech = m.0; slot = s.0; longest = n.0; «prefix» = start }))) l n.2 in
    let is_m = mech_in_some w m.0 m.1 in
    let is_s = slot_in_some x s.0 s.1 in
    let is_n = number_below_some 1025 y n.0 n.1 in
    let is_p = prefix_in_some z p.0 p.1 in
    subst (Says (verb ∷ w ∷ x ∷ y ∷ z ∷ [])) (some_is (line.Allow (record { mech = m.0; slot = s.0; longest = n.0; «prefix» = p.0 })) l p.2) (record {
      it = allow m.0 s.0 n.0 p.0;
      loud = refl;
      spelled = ap (λ (v : List ℕ). v ∷ w ∷ x ∷ y ∷ z ∷ []) is ∙ ap (λ (v : List ℕ). codes "allow" ∷ v ∷ x ∷ y ∷ z ∷ []) is_m.0 ∙ ap (λ (v : List ℕ). codes "allow" ∷ mech_name m.0 ∷ v ∷ y ∷ z ∷ []) is_s.0 ∙ ap (λ (v : List ℕ). codes "allow" ∷ mech_name m.0 ∷ slot_name s.0 ∷ v ∷ z ∷ []) is_n.0 ∙ ap (λ (v : List ℕ). codes "allow" ∷ mech_name m.0 ∷ slot_name s.0 ∷ decimal n.0 ∷ v ∷ []) is_p.0;
      values = λ sent. (is_m.1, is_s.1, omega (arith, is_n.1), is_p.1);
      named = λ sent. refl;
      made = λ sent. refl;
    })

five_say : (verb w x y z : List ℕ) (l : Line) → five_words verb w x y z ≡ Some l → Says (verb ∷ w ∷ x ∷ y ∷ z ∷ []) l
five_say verb w x y z l e =
    elim (chosen (bytes_eq verb (codes "pair") && bytes_eq z (codes "revealed")) _ _ _ e) [
      | inl a ↦
          let p = pair_say w x y true l a.1 in
          let first = same_text verb (codes "pair") (and_left _ _ a.0) in
          let last = same_text z (codes "revealed") (and_right (bytes_eq verb (codes "pair")) _ a.0) in
          record {
            it = revealed_pair p.a p.b p.part;
            loud = refl;
            spelled = ap (λ (v : List ℕ). v ∷ w ∷ x ∷ y ∷ z ∷ []) first ∙ ap (λ (v : List ℕ). codes "pair" ∷ v ∷ x ∷ y ∷ z ∷ []) p.first ∙ ap (λ (v : List ℕ). codes "pair" ∷ decimal p.a ∷ v ∷ y ∷ z ∷ []) p.second ∙ ap (λ (v : List ℕ). codes "pair" ∷ decimal p.a ∷ decimal p.b ∷ v ∷ z ∷ []) p.third ∙ ap (λ (v : List ℕ). codes "pair" ∷ decimal p.a ∷ decimal p.b ∷ encode_lower p.part ∷ v ∷ []) last;
            values = λ sent. p.values;
            named = λ sent. refl;
            made = λ sent. p.made;
          }
      | inr a ↦
          let h = held_some (bytes_eq verb (codes "allow")) _ l a.1 in
          allow_say verb w x y z l (same_text verb (codes "allow") h.0) h.1
    ]

open_say : (verb m r x y : List ℕ) (texts : List (List ℕ)) (l : Line) → verb ≡ codes "open" → open_words m r x y texts ≡ Some l → Says (verb ∷ m ∷ r ∷ x ∷ y ∷ texts) l
open_say verb m r x y texts l is e =
    let mech = bind_some (mech_in m) _ l e in
    let role = bind_some (role_in r) _ l mech.2 in
    let a = bind_some (name_in x) _ l role.2 in
    let b = bind_some (name_in y) _ l a.2 in
    let ts = bind_some (texts_from mech.0 role.0 [] texts) (λ ts. Some (line.Open (record { mech = mech.0; role = role.0; a = a.0; b = b.0; p = None }) ts)) l b.2 in
    let is_mech = mech_in_some m mech.0 mech.1 in
    let is_role = role_in_some r role.0 role.1 in
    let is_a = name_in_some x a.0 a.1 in
    let is_b = name_in_some y b.0 b.1 in
    let them = texts_from_some mech.0 role.0 [] texts ts.0 ts.1 in
    let same : l ≡ line.Open (record { mech = mech.0; role = role.0; a = a.0; b = b.0; p = None }) them.them = sym (some_is _ l ts.2) ∙ ap (line.Open (record { mech = mech.0; role = role.0; a = a.0; b = b.0; p = None })) them.made in
    record {
      it = opening mech.0 role.0 a.0 b.0 them.them;
      loud = refl;
      spelled = ap (λ (v : List ℕ). v ∷ m ∷ r ∷ x ∷ y ∷ texts) is ∙ ap (λ (v : List ℕ). codes "open" ∷ v ∷ r ∷ x ∷ y ∷ texts) is_mech.0 ∙ ap (λ (v : List ℕ). codes "open" ∷ mech_name mech.0 ∷ v ∷ x ∷ y ∷ texts) is_role.0 ∙ ap (λ (v : List ℕ). codes "open" ∷ mech_name mech.0 ∷ role_name role.0 ∷ v ∷ y ∷ texts) is_a.0 ∙ ap (λ (v : List ℕ). codes "open" ∷ mech_name mech.0 ∷ role_name role.0 ∷ decimal a.0 ∷ v ∷ texts) is_b.0 ∙ ap (λ (v : List (List ℕ)). codes "open" ∷ mech_name mech.0 ∷ role_name role.0 ∷ decimal a.0 ∷ decimal b.0 ∷ v) them.spelled;
      values = λ sent. (is_mech.1, is_role.1, is_a.1, is_b.1, them.sent, subst Once them.made (them.once tt));
      named = λ sent. refl;
      made = λ sent. same;
    }

at_most_five : (verb w x y z : List ℕ) (texts : List (List ℕ)) (l : Line) → five_at_most texts (five_words verb w x y z) ≡ Some l → Says (verb ∷ w ∷ x ∷ y ∷ z ∷ texts) l
at_most_five verb w x y z [] l e = five_say verb w x y z l e
at_most_five verb w x y z (t ∷ ts) l e = absurd cc

pub words_say : (words : List (List ℕ)) (l : Line) → plain_words words ≡ Some l → Says words l
words_say [] l e = absurd cc
words_say (verb ∷ []) l e = absurd cc
words_say (verb ∷ x ∷ []) l e = two_say verb x l e
words_say (verb ∷ x ∷ y ∷ []) l e = three_say verb x y l e
words_say (verb ∷ x ∷ y ∷ z ∷ []) l e = four_say verb x y z l e
words_say (verb ∷ w ∷ x ∷ y ∷ z ∷ texts) l e =
    elim (chosen (bytes_eq verb (codes "open")) _ _ _ e) [
      | inl a ↦ open_say verb w x y z texts l (same_text verb (codes "open") a.0) a.1
      | inr a ↦ at_most_five verb w x y z texts l a.1
    ]
