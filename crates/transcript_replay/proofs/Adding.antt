-- A further line keeps the conditions of a configuration exactly where it passes its tests.
use Rattle.std.proofs.Common.{◌≡◌, ◌≢◌, inl, inr, ◌⊎◌, ℕ, ◌≤◌, ◌<◌, Bool, true, false, not, List, [], ◌∷◌, ◌++◌, map, length, nat_le, ltb, ◌==◌, ◌&&◌, ◌||◌, refl, sym, ap, subst, ◌∙◌, eqb-true, eq-eqb, append_assoc, arith}
use Rattle.std.specs.List.{list_any}
use Rattle.std.proofs.lemmas.Bool.{leb-true, le-leb, lt-ltb, ltb-true}
use Rattle.std.proofs.lemmas.List.{append-nil, length-append}
use Rattle.term_values.specs.Trees.{Among, Bytes}
use Rattle.term_values.specs.SameBytes.{same_bytes}
use Rattle.term_values.specs.declared.small.StampKind.{StampKind}
use Rattle.term_values.proofs.SameBytes.{same_bytes_refl, same_start}
use Rattle.term_values.proofs.Lists.{among_map, map_among, among_append, among_left, among_right, and_left, and_right, and_both, not_true, none_among, some_among, any_among, or_cases}
use Rattle.outside.specs.Told.{nonce_draw, part_draw}
use Rattle.agreement_laws.specs.Configs.{Party, LongTerm, Config, is_of, AllDiffer, names_in}
use Rattle.world_run.specs.Conditions.{IsUndrawn, PairsDiffer, KeepsConditions, parts_in}
use Rattle.world_run.specs.Tested.{has_party, is_declared, has_part, pairs_have_part, begins_apart}
use Rattle.transcript_replay.specs.Fitting.{fits_pair, fits_part, fits_party}
use Rattle.transcript_replay.specs.Players.{nobody, with_own, with_pair, with_party}

-- ---- lists

map_more : {X Y : Type 0} (f : X → Y) (xs ys : List X) → map f (xs ++ ys) ≡ map f xs ++ map f ys
map_more f [] ys = refl
map_more f (x ∷ xs) ys = ap (λ zs. f x ∷ zs) (map_more f xs ys)

among_inserted : {X : Type 0} (xs ys : List X) (x z : X) → Among z ((xs ++ x ∷ []) ++ ys) → (z ≡ x) ⊎ Among z (xs ++ ys)
among_inserted [] ys x z i = i
among_inserted (w ∷ xs) ys x z (inl e) = inr (inl e)
among_inserted (w ∷ xs) ys x z (inr i) = elim (among_inserted xs ys x z i) [ inl e ↦ inl e | inr j ↦ inr (inr j) ]

inserted : {X : Type 0} (xs ys : List X) (x : X) → Among x ((xs ++ x ∷ []) ++ ys)
inserted [] ys x = inl refl
inserted (w ∷ xs) ys x = inr (inserted xs ys x)

among_more : {X : Type 0} (xs ys : List X) (x z : X) → Among z (xs ++ ys) → Among z ((xs ++ x ∷ []) ++ ys)
among_more [] ys x z i = inr i
among_more (w ∷ xs) ys x z (inl e) = inl e
among_more (w ∷ xs) ys x z (inr i) = inr (among_more xs ys x z i)

differ_inserted : {X : Type 0} (xs ys : List X) (x : X) → AllDiffer (xs ++ ys) → (Among x (xs ++ ys) → ⊥) → AllDiffer ((xs ++ x ∷ []) ++ ys)
differ_inserted [] ys x d new = (new, d)
differ_inserted (w ∷ xs) ys x d new = (
  λ i. elim (among_inserted xs ys x w i) [ inl e ↦ new (inl (sym e)) | inr j ↦ d.0 j ],
  differ_inserted xs ys x d.1 (λ j. new (inr j)),
)

new_inserted : {X : Type 0} (xs ys : List X) (x : X) → AllDiffer ((xs ++ x ∷ []) ++ ys) → Among x (xs ++ ys) → ⊥
new_inserted [] ys x d i = d.0 i
new_inserted (w ∷ xs) ys x d (inl e) = d.0 (subst (λ z. Among z ((xs ++ x ∷ []) ++ ys)) e (inserted xs ys x))
new_inserted (w ∷ xs) ys x d (inr i) = new_inserted xs ys x d.1 i

false_by : (b : Bool) → (b ≡ true → ⊥) → b ≡ false
false_by true never = absurd (never refl)
false_by false never = refl

not_by : (b : Bool) → (b ≡ true → ⊥) → not b ≡ true
not_by b never = rw (false_by b never) refl

never_by : (b : Bool) → not b ≡ true → b ≡ true → ⊥
never_by true e there = cc
never_by false e there = cc

-- ---- a party

has_name : (ps : List Party) (n : ℕ) → Among n (map (λ (p : Party). p.name) ps) → has_party ps n ≡ true
has_name ps n i =
    let r = among_map (λ (p : Party). p.name) ps n i in
    any_among (λ (p : Party). p.name == n) ps r.0 r.1 (eq-eqb r.0.name n (sym r.2))

name_there : (ps : List Party) (n : ℕ) → has_party ps n ≡ true → Among n (map (λ (p : Party). p.name) ps)
name_there ps n there =
    let r = some_among (λ (p : Party). p.name == n) ps there in
    subst (λ m. Among m (map (λ (p : Party). p.name) ps)) (eqb-true r.0.name n r.2) (map_among (λ (p : Party). p.name) ps r.0 r.1)

module _ (c : Config) (name : ℕ) (kind : StampKind) (window : ℕ) where
  names_more : names_in (with_party c name kind window) ≡ names_in c ++ name ∷ []
  names_more = map_more (λ (p : Party). p.name) c.parties (record { name = name; is_server = false; kind = kind; window = window } ∷ [])

  is_few : fits_party c name window ≡ true → length c.parties < 64
  is_few t =
      ltb-true (length c.parties) 64 (and_left (ltb (length c.parties) 64) (not (has_party c.parties name)) (and_left (ltb (length c.parties) 64 && not (has_party c.parties name)) (nat_le window 600_000) t))

  pub party_kept : KeepsConditions c → fits_party c name window ≡ true → KeepsConditions (with_party c name kind window)
  party_kept k t = record {
    names_differ = subst AllDiffer (append-nil (names_in c ++ name ∷ []) ∙ sym names_more)
        (differ_inserted (names_in c) [] name (subst AllDiffer (sym (append-nil (names_in c))) k.names_differ)
        (λ i. never_by _ (and_right _ _ (and_left _ _ t)) (has_name c.parties name (subst (Among name) (append-nil (names_in c)) i))));
    few = omega (arith, is_few t, length-append c.parties (record { name = name; is_server = false; kind = kind; window = window } ∷ []));
    windows = λ p i. elim (among_append c.parties (record { name = name; is_server = false; kind = kind; window = window } ∷ []) p i) [
      | inl j ↦ k.windows p j
      | inr (inl e) ↦ subst (λ (q : Party). q.window ≤ 600_000) (sym e) (leb-true _ _ (and_right _ _ t))
      | inr (inr j) ↦ absurd j
    ];
    declared = λ l i. let d = k.declared l i in (
      subst (Among l.x) (sym names_more) (among_left (names_in c) (name ∷ []) l.x d.0),
      subst (Among l.y) (sym names_more) (among_left (names_in c) (name ∷ []) l.y d.1),
      d.2,
    );
    pairs_differ = k.pairs_differ;
    parts_differ = k.parts_differ;
    undrawn = k.undrawn;
  }

  pub party_fits : KeepsConditions (with_party c name kind window) → fits_party c name window ≡ true
  party_fits k = and_both _ _
      (and_both _ _
      (lt-ltb _ _ (omega (arith, k.few, length-append c.parties (record { name = name; is_server = false; kind = kind; window = window } ∷ []))))
      (not_by _ (λ there. new_inserted (names_in c) [] name (subst AllDiffer (names_more ∙ sym (append-nil (names_in c ++ name ∷ []))) k.names_differ)
      (subst (Among name) (sym (append-nil (names_in c))) (name_there c.parties name there)))))
      (le-leb _ _ (k.windows (record { name = name; is_server = false; kind = kind; window = window }) (among_right c.parties (record { name = name; is_server = false; kind = kind; window = window } ∷ []) (record { name = name; is_server = false; kind = kind; window = window }) (inl refl))))

-- ---- a part

apart_is : (p : Bytes) → begins_apart p ≡ true → IsUndrawn p
apart_is [] h kind i = i
apart_is (b ∷ bs) h nonce_draw e = never_by _ (and_left _ _ h) (eq-eqb b 0xd0 e)
apart_is (b ∷ bs) h part_draw e = never_by _ (and_right _ _ h) (eq-eqb b 0xd1 e)

is_apart : (p : Bytes) → IsUndrawn p → begins_apart p ≡ true
is_apart [] d = refl
is_apart (b ∷ bs) d = and_both _ _ (not_by _ (λ e. d nonce_draw (eqb-true b 0xd0 e))) (not_by _ (λ e. d part_draw (eqb-true b 0xd1 e)))

or_left : (a b : Bool) → a ≡ true → (a || b) ≡ true
or_left a b e = rw e refl

or_right : (a b : Bool) → b ≡ true → (a || b) ≡ true
or_right true b e = refl
or_right false b e = e

module _ (c : Config) (part : Bytes) where
  -- the part stands among those that are there
  part_there : pairs_have_part c.pairs part || has_part c.own part ≡ true → Among part (parts_in c)
  part_there t = elim (or_cases (pairs_have_part c.pairs part) (has_part c.own part) t) [
    | inl h ↦
        let r = some_among (λ (l : LongTerm). same_bytes l.part part) c.pairs h in
        among_left (map (λ (l : LongTerm). l.part) c.pairs) c.own part
        (subst (λ q. Among q (map (λ (l : LongTerm). l.part) c.pairs)) (same_start r.0.part part r.2) (map_among (λ (l : LongTerm). l.part) c.pairs r.0 r.1))
    | inr h ↦
        let r = some_among (λ (q : Bytes). same_bytes q part) c.own h in
        among_right (map (λ (l : LongTerm). l.part) c.pairs) c.own part (subst (λ q. Among q c.own) (same_start r.0 part r.2) r.1)
  ]

  there_part : Among part (parts_in c) → pairs_have_part c.pairs part || has_part c.own part ≡ true
  there_part i = elim (among_append (map (λ (l : LongTerm). l.part) c.pairs) c.own part i) [
    | inl j ↦
        let r = among_map (λ (l : LongTerm). l.part) c.pairs part j in
        or_left _ _ (any_among (λ (l : LongTerm). same_bytes l.part part) c.pairs r.0 r.1 (subst (λ q. same_bytes q part ≡ true) r.2 (same_bytes_refl part)))
    | inr j ↦ or_right (pairs_have_part c.pairs part) _ (any_among (λ (q : Bytes). same_bytes q part) c.own part j (same_bytes_refl part))
  ]

  new_part : fits_part c part ≡ true → Among part (parts_in c) → ⊥
  new_part t i = never_by _ (and_right _ _ t) (there_part i)

  own_parts : parts_in (with_own c part) ≡ parts_in c ++ part ∷ []
  own_parts = sym (append_assoc (map (λ (l : LongTerm). l.part) c.pairs) c.own (part ∷ []))

  pub own_kept : KeepsConditions c → fits_part c part ≡ true → KeepsConditions (with_own c part)
  own_kept k t = record {
    names_differ = k.names_differ;
    few = k.few;
    windows = k.windows;
    declared = k.declared;
    pairs_differ = k.pairs_differ;
    parts_differ = subst AllDiffer (append-nil (parts_in c ++ part ∷ []) ∙ sym own_parts)
        (differ_inserted (parts_in c) [] part (subst AllDiffer (sym (append-nil (parts_in c))) k.parts_differ) (λ i. new_part t (subst (Among part) (append-nil (parts_in c)) i)));
    undrawn = λ p i. elim (among_append (parts_in c) (part ∷ []) p (subst (Among p) own_parts i)) [
      | inl j ↦ k.undrawn p j
      | inr (inl e) ↦ subst IsUndrawn (sym e) (apart_is part (and_left _ _ t))
      | inr (inr j) ↦ absurd j
    ];
  }

  pub own_fits : KeepsConditions (with_own c part) → fits_part c part ≡ true
  own_fits k = and_both _ _
      (is_apart part (k.undrawn part (subst (Among part) (sym own_parts) (among_right (parts_in c) (part ∷ []) part (inl refl)))))
      (not_by _ (λ there. new_inserted (parts_in c) [] part (subst AllDiffer (own_parts ∙ sym (append-nil (parts_in c ++ part ∷ []))) k.parts_differ)
      (subst (Among part) (sym (append-nil (parts_in c))) (part_there there))))

-- ---- a pair

of_each : (l m : LongTerm) → is_of l.x l.y m ≡ true → is_of m.x m.y l ≡ true
of_each l m e =
    elim (or_cases ((m.x == l.x) && (m.y == l.y)) ((m.x == l.y) && (m.y == l.x)) e) [
      | inl h ↦
          or_left _ _ (and_both _ _ (eq-eqb l.x m.x (sym (eqb-true m.x l.x (and_left _ _ h)))) (eq-eqb l.y m.y (sym (eqb-true m.y l.y (and_right _ _ h)))))
      | inr h ↦
          or_right ((l.x == m.x) && (l.y == m.y)) _ (and_both _ _ (eq-eqb l.x m.y (sym (eqb-true m.y l.x (and_right _ _ h)))) (eq-eqb l.y m.x (sym (eqb-true m.x l.y (and_left _ _ h)))))
    ]

pairs_more : (ls : List LongTerm) (l : LongTerm) → PairsDiffer ls → list_any (is_of l.x l.y) ls ≡ false → PairsDiffer (ls ++ l ∷ [])
pairs_more [] l d none = (λ m i. absurd i, tt)
pairs_more (k ∷ ls) l d none = (
  λ m i. elim (among_append ls (l ∷ []) m i) [
    | inl j ↦ d.0 m j
    | inr (inl e) ↦ subst (λ (z : LongTerm). is_of k.x k.y z ≡ false) (sym e)
        (false_by _ (λ t. let f : is_of l.x l.y k ≡ false = none_among (is_of l.x l.y) (k ∷ ls) none k (inl refl) in let g = of_each k l t in cc))
    | inr (inr j) ↦ absurd j
  ],
  pairs_more ls l d.1 (rest_none (is_of l.x l.y k) _ none),
)
  where
    rest_none : (a b : Bool) → (a || b) ≡ false → b ≡ false
    rest_none true b e = cc
    rest_none false b e = e

more_pairs : (ls : List LongTerm) (l : LongTerm) → PairsDiffer (ls ++ l ∷ []) → list_any (is_of l.x l.y) ls ≡ true → ⊥
more_pairs ls l d some =
    let r = some_among (is_of l.x l.y) ls some in go ls d r.0 r.1 (of_each l r.0 r.2)
  where
    go : (ks : List LongTerm) → PairsDiffer (ks ++ l ∷ []) → (m : LongTerm) → Among m ks → is_of m.x m.y l ≡ true → ⊥
    go [] d m i t = i
    go (k ∷ ks) d m (inl e) t =
        let f : is_of k.x k.y l ≡ false = d.0 l (among_right ks (l ∷ []) l (inl refl)) in
        let g : is_of k.x k.y l ≡ true = subst (λ (z : LongTerm). is_of z.x z.y l ≡ true) e t in cc
    go (k ∷ ks) d m (inr i) t = go ks d.1 m i t

module _ (c : Config) (a b : ℕ) (part : Bytes) (revealed : Bool) where
  pair_parts : parts_in (with_pair c a b part revealed) ≡ (map (λ (l : LongTerm). l.part) c.pairs ++ part ∷ []) ++ c.own
  pair_parts = ap (λ (ps : List Bytes). ps ++ c.own) (map_more (λ (l : LongTerm). l.part) c.pairs (record { x = a; y = b; part = part; revealed = revealed } ∷ []))

  pub pair_kept : KeepsConditions c → fits_pair c (record { x = a; y = b; part = part; revealed = revealed }) ≡ true → KeepsConditions (with_pair c a b part revealed)
  pair_kept k t =
      let is : is_declared c.parties (record { x = a; y = b; part = part; revealed = revealed }) ≡ true = and_left _ _ (and_left _ _ t) in
      let new : fits_part c part ≡ true = and_right _ _ t in
      record {
        names_differ = k.names_differ;
        few = k.few;
        windows = k.windows;
        declared = λ l i. elim (among_append c.pairs (record { x = a; y = b; part = part; revealed = revealed } ∷ []) l i) [
          | inl j ↦ k.declared l j
          | inr (inl e) ↦ subst (λ (z : LongTerm). Among z.x (names_in c) × Among z.y (names_in c) × (z.x ≢ z.y)) (sym e)
              (name_there c.parties a (and_left _ _ (and_left _ _ is)), name_there c.parties b (and_right _ _ (and_left _ _ is)), λ same. never_by _ (and_right _ _ is) (eq-eqb a b same))
          | inr (inr j) ↦ absurd j
        ];
        pairs_differ = pairs_more c.pairs (record { x = a; y = b; part = part; revealed = revealed }) k.pairs_differ (not_true _ (and_right _ _ (and_left _ _ t)));
        parts_differ = subst AllDiffer (sym pair_parts) (differ_inserted (map (λ (l : LongTerm). l.part) c.pairs) c.own part k.parts_differ (new_part c part new));
        undrawn = λ p i. elim (among_inserted (map (λ (l : LongTerm). l.part) c.pairs) c.own part p (subst (Among p) pair_parts i)) [
          | inl e ↦ subst IsUndrawn (sym e) (apart_is part (and_left _ _ new))
          | inr j ↦ k.undrawn p j
        ];
      }

  pub pair_fits : KeepsConditions (with_pair c a b part revealed) → fits_pair c (record { x = a; y = b; part = part; revealed = revealed }) ≡ true
  pair_fits k =
      let d = k.declared (record { x = a; y = b; part = part; revealed = revealed }) (among_right c.pairs (record { x = a; y = b; part = part; revealed = revealed } ∷ []) (record { x = a; y = b; part = part; revealed = revealed }) (inl refl)) in
      and_both _ _
      (and_both _ _
      (and_both _ _ (and_both _ _ (has_name c.parties a d.0) (has_name c.parties b d.1)) (not_by _ (λ e. d.2 (eqb-true a b e))))
      (not_by _ (more_pairs c.pairs (record { x = a; y = b; part = part; revealed = revealed }) k.pairs_differ)))
      (and_both _ _
      (is_apart part (k.undrawn part (subst (Among part) (sym pair_parts) (inserted (map (λ (l : LongTerm). l.part) c.pairs) c.own part))))
      (not_by _ (λ there. new_inserted (map (λ (l : LongTerm). l.part) c.pairs) c.own part (subst AllDiffer pair_parts k.parts_differ) (part_there c part there))))

-- nobody meets the conditions
pub nobody_kept : KeepsConditions nobody
nobody_kept = record {
  names_differ = tt;
  few = omega arith;
  windows = λ p i. absurd i;
  declared = λ l i. absurd i;
  pairs_differ = tt;
  parts_differ = tt;
  undrawn = λ p i. absurd i;
}
