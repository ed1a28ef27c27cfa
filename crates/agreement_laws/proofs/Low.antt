-- No key of a done run has a long-term part of a pair that isn't revealed.
use Rattle.std.proofs.Common.{◌≡◌, ℕ, ◌<◌, ◌⊎◌, List, [], ◌∷◌, ◌++◌, map, Bool, true, false, not, ◌&&◌, ◌||◌, if◌then◌else◌, refl, sym, ap, subst, ◌∙◌, inl, inr, Option, Some, None}
use Rattle.std.specs.List.{list_any, list_all}
use Rattle.term_values.specs.Trees.{Among, Bytes, Tree, part, tag, seal, check}
use Rattle.attacker_model.specs.Derivation.{Derivable, IsGoodKey}
use Rattle.mech_rows.specs.declared.kinds.Mech.{Mech}
use Rattle.mech_rows.specs.declared.kinds.Role.{Role}
use Rattle.mech_rows.specs.declared.kinds.Role.TheVariants.{A, B, P}
use Rattle.mech_rows.specs.declared.kinds.Slot.{Slot}
use Rattle.mech_rows.specs.Rows.{Cover, Pass, row_of, key_slots}
use Rattle.mech_rows.specs.Facts.{is_part, same_role}
use Rattle.mech_rows.specs.Runs.{Run, Notes, value, noted_or_empty, names, key_under, body, protected, nth, IsDone, one_key, two_keys, key_by, reply_pass}
use Rattle.agreement_laws.specs.Configs.{Config, keys_of, IsGoodLong}
use Rattle.agreement_laws.specs.Traces.{RunId, Happening, current, known_before, parts_of, key_of_run, WasSealed}
use Rattle.mech_rows.specs.Rounds.{stands, is_own, gets, key_part_is_got}
use Rattle.mech_rows.proofs.Facts.{key_parts_are_got_holds, checks_show_no_parts_holds}
use Rattle.agreement_laws.proofs.Traces.{IsTrace, IsDoneAt}
use Rattle.term_values.proofs.Lists.{all_among, some_among, or_cases, and_left, and_right, not_true, none_among, among_right, map_among}
use Rattle.mech_rows.proofs.RowUse.{nth_of, done_after, nth_among, among_covers, same_role_is}
use Rattle.attacker_model.proofs.Safe.{Safe, among_is_safe, derivable_is_safe}
use Rattle.agreement_laws.proofs.Worlds.{Kept}
use Rattle.agreement_laws.proofs.Fresh.{drawn_outside, long_in_config}
use Rattle.agreement_laws.proofs.Held.{held}
use Rattle.mech_rows.proofs.Items.{one_body, same_item, same_parts}
use Rattle.agreement_laws.proofs.Own.{own_draw, stands_among}
use Rattle.agreement_laws.proofs.Later.{part_drawn}

-- a part of the key is that of a slot of the key
pub key_part : (ss : List Slot) (notes : Notes) (p : Bytes) → Among p (parts_of (key_by ss notes)) → (s : Slot) × Among s ss × (notes s ≡ Some (part p))
key_part [] notes p i = elim i [ ]
key_part (s ∷ []) notes p i = go (notes s) refl i
  where
    go : (o : Option Tree) → notes s ≡ o → Among p (parts_of (one_key o)) → (u : Slot) × Among u (s ∷ []) × (notes u ≡ Some (part p))
    go (Some (part q)) e (inl f) = (s, inl refl, e ∙ ap (λ (x : Bytes). Some (part x)) (sym f))
    go (Some (part q)) e (inr j) = elim j [ ]
    go None e j = elim j [ ]
    go _ e j = elim j [ ]
key_part (s ∷ u ∷ []) notes p i = go (notes s) (notes u) refl refl i
  where
    go : (o r : Option Tree) → notes s ≡ o → notes u ≡ r → Among p (parts_of (two_keys o r)) → (x : Slot) × Among x (s ∷ u ∷ []) × (notes x ≡ Some (part p))
    go (Some (part q)) (Some (part r)) e f (inl g) = (s, inl refl, e ∙ ap (λ (x : Bytes). Some (part x)) (sym g))
    go (Some (part q)) (Some (part r)) e f (inr (inl g)) = (u, inr (inl refl), f ∙ ap (λ (x : Bytes). Some (part x)) (sym g))
    go (Some (part q)) (Some (part r)) e f (inr (inr j)) = elim j [ ]
    go _ _ e f j = elim j [ ]
key_part (s ∷ u ∷ v ∷ ss) notes p i = elim i [ ]

-- by the fact checks_show_no_parts
no_check : (m : Mech) (j : ℕ) (p : Pass) (d : Cover) (s : Slot) → nth (row_of m) j ≡ Some p → Among d p.covers → Among s d.slots → is_part s ≡ true → d.is_check ≡ false
no_check m j p d s at i k e = go (or_cases (not d.is_check) (not (list_any is_part d.slots)) test)
  where
    test : (not d.is_check || not (list_any is_part d.slots)) ≡ true
    test = all_among (λ c. not c.is_check || not (list_any is_part c.slots)) p.covers (all_among (λ (p : Pass). list_all (λ (c : Cover). not c.is_check || not (list_any is_part c.slots)) p.covers) (row_of m) (checks_show_no_parts_holds m) p (nth_among (row_of m) j p at)) d i

    go : (not d.is_check ≡ true) ⊎ (not (list_any is_part d.slots) ≡ true) → d.is_check ≡ false
    go (inl f) = not_true d.is_check f
    go (inr f) = let no = none_among is_part d.slots (not_true (list_any is_part d.slots) f) s k in absurd (cc)

-- how a done run got a part of its key
pub record GotPart (run : Run) (s : Slot) : Type 0 where
  pub place : ℕ
  pub behind : place < run.next
  pub pass : Pass
  pub at : nth (row_of run.head.mech) place ≡ Some pass
  pub to : pass.to ≡ run.head.role
  pub cover : Cover
  pub there : Among cover pass.covers
  pub seen : cover.seen ≡ true
  pub inside : Among s cover.slots

-- by the fact key_parts_are_got
pub key_slot_got : (run : Run) (s : Slot) → IsDone run → Among s (key_slots run.head.mech run.head.role) → (is_part s ≡ true) × ((is_own run.head.role s (row_of run.head.mech) ≡ true) ⊎ GotPart run s)
key_slot_got run s done i = (and_left (is_part s) (gets run.head.role (row_of run.head.mech) s) tests, go (or_cases (is_own run.head.role s (row_of run.head.mech)) (list_any (λ p. same_role p.to run.head.role && list_any (λ d. d.seen && stands s d.slots) p.covers) (row_of run.head.mech)) (and_right (is_part s) (gets run.head.role (row_of run.head.mech) s) tests)))
  where
    at_role : (r : Role) → key_part_is_got run.head.mech r ≡ true
    at_role A = and_left (key_part_is_got run.head.mech A) (key_part_is_got run.head.mech B && key_part_is_got run.head.mech P) (key_parts_are_got_holds run.head.mech)
    at_role B = and_left (key_part_is_got run.head.mech B) (key_part_is_got run.head.mech P) (and_right (key_part_is_got run.head.mech A) (key_part_is_got run.head.mech B && key_part_is_got run.head.mech P) (key_parts_are_got_holds run.head.mech))
    at_role P = and_right (key_part_is_got run.head.mech B) (key_part_is_got run.head.mech P) (and_right (key_part_is_got run.head.mech A) (key_part_is_got run.head.mech B && key_part_is_got run.head.mech P) (key_parts_are_got_holds run.head.mech))

    tests : (is_part s && gets run.head.role (row_of run.head.mech) s) ≡ true
    tests = all_among (λ s. is_part s && gets run.head.role (row_of run.head.mech) s) (key_slots run.head.mech run.head.role) (at_role run.head.role) s i

    go : (is_own run.head.role s (row_of run.head.mech) ≡ true) ⊎ (list_any (λ p. same_role p.to run.head.role && list_any (λ d. d.seen && stands s d.slots) p.covers) (row_of run.head.mech) ≡ true) → (is_own run.head.role s (row_of run.head.mech) ≡ true) ⊎ GotPart run s
    go (inl own) = inl own
    go (inr f) =
        let q = some_among (λ (x : Pass). same_role x.to run.head.role && list_any (λ d. d.seen && stands s d.slots) x.covers) (row_of run.head.mech) f in
        let d = some_among (λ (d : Cover). d.seen && stands s d.slots) q.0.covers (and_right (same_role q.0.to run.head.role) (list_any (λ (d : Cover). d.seen && stands s d.slots) q.0.covers) q.2) in
        let j = nth_of (row_of run.head.mech) q.0 q.1 in
        inr (record {
          place = j.0;
          behind = done_after (row_of run.head.mech) j.0 run.next q.0 done j.1;
          pass = q.0;
          at = j.1;
          to = same_role_is q.0.to run.head.role (and_left (same_role q.0.to run.head.role) (list_any (λ (d : Cover). d.seen && stands s d.slots) q.0.covers) q.2);
          cover = d.0;
          there = d.1;
          seen = and_left d.0.seen (stands s d.0.slots) d.2;
          inside = stands_among s d.0.slots (and_right d.0.seen (stands s d.0.slots) d.2);
        })

noted_part : (o : Option Tree) (p : Bytes) → part p ≡ noted_or_empty o → o ≡ Some (part p)
noted_part (Some t) p e = ap Some (sym e)
noted_part None p e = absurd (cc)

module _ (c : Config) (Good : Bytes → Type 0) (h : List Happening) (w : IsTrace c h) (k : Kept c Good h) where
  not_long : (id : RunId) (run : Run) → current h id ≡ Some run → (s : Slot) (p : Bytes) → is_part s ≡ true → run.notes s ≡ Some (part p) → (is_own run.head.role s (row_of run.head.mech) ≡ true) ⊎ GotPart run s → Good p → IsGoodLong c p → ⊥
  not_long id run is s p e n (inl own) good g =
      let o = own_draw c h w id run is s (part p) own n in
      drawn_outside c h w id o.step s p o.there e o.draws (long_in_config c p g)
  not_long id run is s p e n (inr got) good g = among_is_safe Good (WasSealed c h) (part p) (tag got.cover.tagged ∷ (names run.head ++ map (value run.notes) got.cover.slots)) (inr (among_right (names run.head) (map (value run.notes) got.cover.slots) (part p) shown)) (safe.1 bad) good
    where
      no : got.cover.is_check ≡ false
      no = no_check run.head.mech got.place got.pass got.cover s got.at got.there got.inside e

      is_seal : protected (keys_of c) run.head run.notes got.cover ≡ seal (key_under (keys_of c) run.head run.notes got.cover.under) (body run.head run.notes got.cover)
      is_seal = ap (λ (b : Bool). if b then check (key_under (keys_of c) run.head run.notes got.cover.under) (body run.head run.notes got.cover) else seal (key_under (keys_of c) run.head run.notes got.cover.under) (body run.head run.notes got.cover)) no

      safe : Safe Good (WasSealed c h) (seal (key_under (keys_of c) run.head run.notes got.cover.under) (body run.head run.notes got.cover))
      safe = derivable_is_safe Good (WasSealed c h) (known_before c h) k.known _ (subst (Derivable (known_before c h)) is_seal ((held c h w id run is).got got.place got.pass got.cover got.behind got.at got.to got.there got.seen))

      shown : Among (part p) (map (value run.notes) got.cover.slots)
      shown = subst (λ (t : Tree). Among t (map (value run.notes) got.cover.slots)) (ap noted_or_empty n) (map_among (value run.notes) got.cover.slots s got.inside)

      bad : IsGoodKey Good (key_under (keys_of c) run.head run.notes got.cover.under) → ⊥
      bad good_key =
          let made = safe.0 good_key in
          let same = same_item (keys_of c) run.head made.step.before.head run.notes made.step.after.notes got.cover made.seals.cover (is_seal ∙ made.seals.is) in
          let one = one_body run.head.mech made.step.before.head.mech got.cover made.seals.cover (among_covers (row_of run.head.mech) got.pass got.cover (nth_among (row_of run.head.mech) got.place got.pass got.at) got.there) (among_covers (row_of made.step.before.head.mech) made.seals.pass made.seals.cover (nth_among (row_of made.step.before.head.mech) (reply_pass made.step) made.seals.pass made.seals.at) made.seals.there) same.tags in
          let parts = same_parts run.head made.step.before.head run.notes made.step.after.notes got.cover.slots one.mech (subst (λ ss. names run.head ++ map (value run.notes) got.cover.slots ≡ names made.step.before.head ++ map (value made.step.after.notes) ss) (sym one.slots) same.rest) in
          let theirs : made.step.after.notes s ≡ Some (part p) = noted_part (made.step.after.notes s) p (sym (ap noted_or_empty n) ∙ parts.values s got.inside) in
          drawn_outside c h w made.id made.step s p made.there e
          (record { is_new = part_drawn c h w made.id made.step made.there made.seals.pass made.seals.at made.seals.sent made.seals.cover made.seals.there made.seals.is_made s (subst (Among s) one.slots got.inside) e; is = theirs })
          (long_in_config c p g)

pub keys_are_high : (c : Config) (Good : Bytes → Type 0) (h : List Happening) (id : RunId) (p : Bytes) → IsTrace c h → IsDoneAt h id → Kept c Good h → Among p (parts_of (key_of_run (current h id))) → Good p → IsGoodLong c p → ⊥
keys_are_high c Good h id p w at k i good g =
    let s = key_part (key_slots at.run.head.mech at.run.head.role) at.run.notes p (subst (λ (o : Option Run). Among p (parts_of (key_of_run o))) at.runs i) in
    let got = key_slot_got at.run s.0 at.done s.1 in
    not_long c Good h w k id at.run at.runs s.0 p got.0 s.2 got.1 good g
