-- The tests decide the conditions of a configuration.
use Rattle.std.proofs.Common.{◌≡◌, ◌≢◌, inl, inr, ℕ, ◌≤◌, Bool, true, false, not, List, [], ◌∷◌, ◌++◌, map, nat_le, nat_eq, ◌==◌, ◌&&◌, ◌||◌, refl, sym, ap, subst, ◌∙◌, eqb-true, eq-eqb}
use Rattle.std.specs.List.{list_all}
use Rattle.std.proofs.lemmas.Bool.{leb-true, le-leb}
use Rattle.std.specs.Cmp.Lexicographic.{pointwise}
use Rattle.term_values.specs.Trees.{Among, Bytes}
use Rattle.term_values.specs.SameBytes.{same_bytes}
use Rattle.term_values.proofs.SameBytes.{same_bytes_refl, same_start}
use Rattle.term_values.proofs.Lists.{among_map, map_among, among_append, among_left, among_right, and_left, and_right, and_both, not_true, all_among, none_among, some_among, any_among, or_cases}
use Rattle.outside.specs.Told.{nonce_draw, part_draw}
use Rattle.agreement_laws.specs.Configs.{Party, LongTerm, Config, is_of, AllDiffer, IsLawful}
use Rattle.world_run.specs.Conditions.{IsUndrawn, PairsDiffer, KeepsConditions}
use Rattle.world_run.specs.Tested.{has_party, have_new_names, has_window, is_declared, are_new_pairs, has_part, pairs_have_part, are_new_parts, have_new_parts, begins_apart, are_fit_parties, are_fit_pairs, are_fit_parts, are_kept}

le_is : (a b : ℕ) → nat_le a b ≡ true → a ≤ b
le_is a b h = leb-true a b h

is_le : (a b : ℕ) → a ≤ b → nat_le a b ≡ true
is_le a b h = le-leb a b h

is_of_each : (l m : LongTerm) → is_of l.x l.y m ≡ true → is_of m.x m.y l ≡ true
is_of_each l m e =
    elim (or_cases ((m.x == l.x) && (m.y == l.y)) ((m.x == l.y) && (m.y == l.x)) e) [
      | inl h ↦
          let p : m.x ≡ l.x = eqb-true m.x l.x (and_left _ _ h) in
          let q : m.y ≡ l.y = eqb-true m.y l.y (and_right _ _ h) in
          or_first _ _ (and_both _ _ (eq-eqb l.x m.x (sym p)) (eq-eqb l.y m.y (sym q)))
      | inr h ↦
          let p : m.x ≡ l.y = eqb-true m.x l.y (and_left _ _ h) in
          let q : m.y ≡ l.x = eqb-true m.y l.x (and_right _ _ h) in
          or_second _ _ (and_both _ _ (eq-eqb l.x m.y (sym q)) (eq-eqb l.y m.x (sym p)))
    ]
  where
    or_first : (a b : Bool) → a ≡ true → (a || b) ≡ true
    or_first a b h = rw h refl

    or_second : (a b : Bool) → b ≡ true → (a || b) ≡ true
    or_second true b h = refl
    or_second false b h = h

pub pointwise_is : (xs ys : Bytes) → pointwise nat_eq xs ys ≡ same_bytes xs ys
pointwise_is [] [] = refl
pointwise_is [] (y ∷ ys) = refl
pointwise_is (x ∷ xs) [] = refl
pointwise_is (x ∷ xs) (y ∷ ys) = ap (λ r. (x == y) && r) (pointwise_is xs ys)

-- ---- names

name_in : Party → ℕ
name_in p = p.name

no_such_name : (ps : List Party) (n : ℕ) → has_party ps n ≡ false → Among n (map (λ (p : Party). p.name) ps) → ⊥
no_such_name ps n none i =
    let r = among_map (λ (p : Party). p.name) ps n i in
    let f : (r.0.name == n) ≡ false = none_among (λ (p : Party). p.name == n) ps none r.0 r.1 in
    let t : (r.0.name == n) ≡ true = eq-eqb r.0.name n (sym r.2) in
    absurd (cc)

such_name : (ps : List Party) (n : ℕ) → has_party ps n ≡ true → Among n (map (λ (p : Party). p.name) ps)
such_name ps n there =
    let r = some_among (λ (p : Party). p.name == n) ps there in
    subst (λ m. Among m (map (λ (p : Party). p.name) ps)) (eqb-true r.0.name n r.2) (map_among (λ (p : Party). p.name) ps r.0 r.1)

has_it : (ps : List Party) (n : ℕ) → Among n (map (λ (p : Party). p.name) ps) → has_party ps n ≡ true
has_it ps n i =
    let r = among_map (λ (p : Party). p.name) ps n i in
    any_among (λ (p : Party). p.name == n) ps r.0 r.1 (eq-eqb r.0.name n (sym r.2))

absent_is : (b : Bool) → (b ≡ true → ⊥) → b ≡ false
absent_is b never = go b refl
  where
    go : (c : Bool) → b ≡ c → b ≡ false
    go true e = absurd (never e)
    go false e = e

not_false : (b : Bool) → b ≡ false → not b ≡ true
not_false b e = rw e refl

names : (ps : List Party) → have_new_names ps ≡ true → AllDiffer (map (λ (p : Party). p.name) ps)
names [] h = tt
names (p ∷ ps) h = (no_such_name ps p.name (not_true _ (and_left _ _ h)), names ps (and_right _ _ h))

new_names : (ps : List Party) → AllDiffer (map (λ (p : Party). p.name) ps) → have_new_names ps ≡ true
new_names [] d = refl
new_names (p ∷ ps) d = and_both _ _ (not_false _ (absent_is _ (λ there. d.0 (such_name ps p.name there)))) (new_names ps d.1)

-- ---- pairs

pairs : (ls : List LongTerm) → are_new_pairs ls ≡ true → PairsDiffer ls
pairs [] h = tt
pairs (l ∷ ls) h = (none_among (is_of l.x l.y) ls (not_true _ (and_left _ _ h)), pairs ls (and_right _ _ h))

new_pairs : (ls : List LongTerm) → PairsDiffer ls → are_new_pairs ls ≡ true
new_pairs [] d = refl
new_pairs (l ∷ ls) d = and_both _ _ (not_false _ (absent_is _ (λ some. let r = some_among (is_of l.x l.y) ls some in let f = d.0 r.0 r.1 in absurd (cc)))) (new_pairs ls d.1)

declared_pair : (ps : List Party) (l : LongTerm) → is_declared ps l ≡ true → Among l.x (map (λ (p : Party). p.name) ps) × Among l.y (map (λ (p : Party). p.name) ps) × (l.x ≢ l.y)
declared_pair ps l h = (
  such_name ps l.x (and_left _ _ (and_left _ _ h)),
  such_name ps l.y (and_right _ _ (and_left _ _ h)),
  λ e. let f : (l.x == l.y) ≡ false = not_true _ (and_right _ _ h) in let t : (l.x == l.y) ≡ true = eq-eqb l.x l.y e in absurd (cc),
)

pair_is_declared : (ps : List Party) (l : LongTerm) → Among l.x (map (λ (p : Party). p.name) ps) × Among l.y (map (λ (p : Party). p.name) ps) × (l.x ≢ l.y) → is_declared ps l ≡ true
pair_is_declared ps l d = and_both _ _ (and_both _ _ (has_it ps l.x d.0) (has_it ps l.y d.1)) (not_false _ (absent_is _ (λ e. d.2 (eqb-true l.x l.y e))))

all_hold : {X : Type 0} (f : X → Bool) (xs : List X) → ((x : X) → Among x xs → f x ≡ true) → list_all f xs ≡ true
all_hold f [] h = refl
all_hold f (x ∷ xs) h = and_both _ _ (h x (inl refl)) (all_hold f xs (λ y i. h y (inr i)))

-- ---- parts

part_in : LongTerm → Bytes
part_in l = l.part

part_there : (ps : List Bytes) (p : Bytes) → has_part ps p ≡ true → Among p ps
part_there ps p h = let r = some_among (λ (q : Bytes). same_bytes q p) ps h in subst (λ q. Among q ps) (same_start r.0 p r.2) r.1

there_has : (ps : List Bytes) (p : Bytes) → Among p ps → has_part ps p ≡ true
there_has ps p i = any_among (λ (q : Bytes). same_bytes q p) ps p i (same_bytes_refl p)

part_of_pair : (ls : List LongTerm) (p : Bytes) → pairs_have_part ls p ≡ true → Among p (map (λ (l : LongTerm). l.part) ls)
part_of_pair ls p h =
    let r = some_among (λ (l : LongTerm). same_bytes l.part p) ls h in
    subst (λ q. Among q (map (λ (l : LongTerm). l.part) ls)) (same_start r.0.part p r.2) (map_among (λ (l : LongTerm). l.part) ls r.0 r.1)

pair_has : (ls : List LongTerm) (p : Bytes) → Among p (map (λ (l : LongTerm). l.part) ls) → pairs_have_part ls p ≡ true
pair_has ls p i =
    let r = among_map (λ (l : LongTerm). l.part) ls p i in
    any_among (λ (l : LongTerm). same_bytes l.part p) ls r.0 r.1 (subst (λ q. same_bytes q p ≡ true) r.2 (same_bytes_refl p))

own_parts : (own : List Bytes) → are_new_parts own ≡ true → AllDiffer own
own_parts [] h = tt
own_parts (p ∷ ps) h = (
  λ i. let f : has_part ps p ≡ false = not_true _ (and_left (not (has_part ps p)) (are_new_parts ps) h) in let t : has_part ps p ≡ true = there_has ps p i in absurd (cc),
  own_parts ps (and_right (not (has_part ps p)) (are_new_parts ps) h),
)

new_own : (own : List Bytes) → AllDiffer own → are_new_parts own ≡ true
new_own [] d = refl
new_own (p ∷ ps) d = and_both _ _ (not_false _ (absent_is _ (λ t. d.0 (part_there ps p t)))) (new_own ps d.1)

neither : (a b : Bool) → (a || b) ≡ false → (a ≡ false) × (b ≡ false)
neither false false h = (refl, refl)
neither false true h = absurd (cc)
neither true b h = absurd (cc)

both_absent : (a b : Bool) → a ≡ false → b ≡ false → (a || b) ≡ false
both_absent a b e f = rw (e, f) refl

all_parts : (ls : List LongTerm) (own : List Bytes) → have_new_parts own ls ≡ true → are_new_parts own ≡ true → AllDiffer (map (λ (l : LongTerm). l.part) ls ++ own)
all_parts [] own h k = own_parts own k
all_parts (l ∷ ls) own h k =
    let f = neither (pairs_have_part ls l.part) (has_part own l.part) (not_true _ (and_left _ _ h)) in (
      λ i. elim (among_append (map (λ (m : LongTerm). m.part) ls) own l.part i) [
        | inl j ↦ let t = pair_has ls l.part j in let g = f.0 in absurd (cc)
        | inr j ↦ let t = there_has own l.part j in let g = f.1 in absurd (cc)
      ],
      all_parts ls own (and_right _ _ h) k,
    )

new_all : (ls : List LongTerm) (own : List Bytes) → AllDiffer (map (λ (l : LongTerm). l.part) ls ++ own) → (have_new_parts own ls ≡ true) × (are_new_parts own ≡ true)
new_all [] own d = (refl, new_own own d)
new_all (l ∷ ls) own d =
    let rest = new_all ls own d.1 in
    let a : pairs_have_part ls l.part ≡ false = absent_is _ (λ t. d.0 (among_left (map (λ (m : LongTerm). m.part) ls) own l.part (part_of_pair ls l.part t))) in
    let b : has_part own l.part ≡ false = absent_is _ (λ t. d.0 (among_right (map (λ (m : LongTerm). m.part) ls) own l.part (part_there own l.part t))) in
    (and_both _ _ (not_false _ (both_absent _ _ a b)) rest.0, rest.1)

undrawn : (p : Bytes) → begins_apart p ≡ true → IsUndrawn p
undrawn [] h kind i = i
undrawn (b ∷ bs) h nonce_draw e = let f : (b == 0xd0) ≡ false = not_true _ (and_left _ _ h) in let t : (b == 0xd0) ≡ true = eq-eqb b 0xd0 e in absurd (cc)
undrawn (b ∷ bs) h part_draw e = let f : (b == 0xd1) ≡ false = not_true _ (and_right _ _ h) in let t : (b == 0xd1) ≡ true = eq-eqb b 0xd1 e in absurd (cc)

begins : (p : Bytes) → IsUndrawn p → begins_apart p ≡ true
begins [] d = refl
begins (b ∷ bs) d = and_both _ _ (not_false _ (absent_is _ (λ e. d nonce_draw (eqb-true b 0xd0 e)))) (not_false _ (absent_is _ (λ e. d part_draw (eqb-true b 0xd1 e))))

-- ---- all of them

pub holds : (c : Config) → are_kept c ≡ true → KeepsConditions c
holds c h =
    let ps : are_fit_parties c.parties ≡ true = and_left _ _ (and_left _ _ h) in
    let ls : are_fit_pairs c.parties c.pairs ≡ true = and_right _ _ (and_left _ _ h) in
    let qs : are_fit_parts c.pairs c.own ≡ true = and_right _ _ h in
    record {
      names_differ = names c.parties (and_right _ _ ps);
      few = le_is _ _ (and_left _ _ (and_left _ _ ps));
      windows = λ p i. le_is _ _ (all_among has_window c.parties (and_right _ _ (and_left _ _ ps)) p i);
      declared = λ l i. declared_pair c.parties l (all_among (is_declared c.parties) c.pairs (and_left _ _ ls) l i);
      pairs_differ = pairs c.pairs (and_right _ _ ls);
      parts_differ = all_parts c.pairs c.own (and_left _ _ (and_left _ _ (and_left _ _ qs))) (and_right _ _ (and_left _ _ (and_left _ _ qs)));
      undrawn = λ p i. elim (among_append (map (λ (l : LongTerm). l.part) c.pairs) c.own p i) [
        | inl j ↦
            let r = among_map (λ (l : LongTerm). l.part) c.pairs p j in
            subst IsUndrawn (sym r.2) (undrawn r.0.part (all_among (λ (l : LongTerm). begins_apart l.part) c.pairs (and_right _ _ (and_left _ _ qs)) r.0 r.1))
        | inr j ↦ undrawn p (all_among begins_apart c.own (and_right _ _ qs) p j)
      ];
    }

pub passes : (c : Config) → KeepsConditions c → are_kept c ≡ true
passes c k =
    let parts = new_all c.pairs c.own k.parts_differ in
    and_both _ _
    (and_both _ _
    (and_both _ _
    (and_both _ _ (is_le _ _ k.few) (all_hold has_window c.parties (λ p i. is_le _ _ (k.windows p i))))
    (new_names c.parties k.names_differ))
    (and_both _ _ (all_hold (is_declared c.parties) c.pairs (λ l i. pair_is_declared c.parties l (k.declared l i))) (new_pairs c.pairs k.pairs_differ)))
    (and_both _ _
    (and_both _ _
    (and_both _ _ parts.0 parts.1)
    (all_hold (λ (l : LongTerm). begins_apart l.part) c.pairs (λ l i. begins l.part (k.undrawn l.part (among_left _ c.own l.part (map_among (λ (m : LongTerm). m.part) c.pairs l i))))))
    (all_hold begins_apart c.own (λ p i. begins p (k.undrawn p (among_right (map (λ (m : LongTerm). m.part) c.pairs) c.own p i)))))

-- ---- the conditions of the laws

one_pair : (ls : List LongTerm) → PairsDiffer ls → (l m : LongTerm) → Among l ls → Among m ls → is_of l.x l.y m ≡ true → l ≡ m
one_pair [] d l m i j e = absurd i
one_pair (k ∷ ls) d l m (inl i) (inl j) e = i ∙ sym j
one_pair (k ∷ ls) d l m (inl i) (inr j) e = let f = d.0 m j in let g : is_of k.x k.y m ≡ true = subst (λ (z : LongTerm). is_of z.x z.y m ≡ true) i e in absurd (cc)
one_pair (k ∷ ls) d l m (inr i) (inl j) e = let f = d.0 l i in let g : is_of k.x k.y l ≡ true = subst (λ (z : LongTerm). is_of z.x z.y l ≡ true) j (is_of_each l m e) in absurd (cc)
one_pair (k ∷ ls) d l m (inr i) (inr j) e = one_pair ls d.1 l m i j e

one_part : (ls : List LongTerm) (own : List Bytes) → AllDiffer (map (λ (l : LongTerm). l.part) ls ++ own) → (l m : LongTerm) → Among l ls → Among m ls → l.part ≡ m.part → l ≡ m
unfolding part_in
one_part [] own d l m i j e = absurd i
one_part (k ∷ ls) own d l m (inl i) (inl j) e = i ∙ sym j
one_part (k ∷ ls) own d l m (inl i) (inr j) e =
    absurd (d.0 (among_left (map (λ (z : LongTerm). z.part) ls) own k.part (subst (λ p. Among p (map (λ (z : LongTerm). z.part) ls)) (sym e ∙ ap part_in i) (map_among (λ (z : LongTerm). z.part) ls m j))))
one_part (k ∷ ls) own d l m (inr i) (inl j) e =
    absurd (d.0 (among_left (map (λ (z : LongTerm). z.part) ls) own k.part (subst (λ p. Among p (map (λ (z : LongTerm). z.part) ls)) (e ∙ ap part_in j) (map_among (λ (z : LongTerm). z.part) ls l i))))
one_part (k ∷ ls) own d l m (inr i) (inr j) e = one_part ls own d.1 l m i j e

own_is_apart : (ls : List LongTerm) (own : List Bytes) → AllDiffer (map (λ (l : LongTerm). l.part) ls ++ own) → (l : LongTerm) → Among l ls → Among l.part own → ⊥
unfolding part_in
own_is_apart [] own d l i j = i
own_is_apart (k ∷ ls) own d l (inl i) j = d.0 (among_right (map (λ (z : LongTerm). z.part) ls) own k.part (subst (λ p. Among p own) (ap part_in i) j))
own_is_apart (k ∷ ls) own d l (inr i) j = own_is_apart ls own d.1 l i j

-- a configuration that meets these conditions is one of those that the laws speak of
pub lawful : (c : Config) → KeepsConditions c → IsLawful c
lawful c k = record {
  names_differ = k.names_differ;
  few = k.few;
  windows = k.windows;
  declared = k.declared;
  one_part = one_pair c.pairs k.pairs_differ;
  apart = one_part c.pairs c.own k.parts_differ;
  own_apart = own_is_apart c.pairs c.own k.parts_differ;
}
