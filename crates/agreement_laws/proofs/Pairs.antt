-- A completed run of A or B has the long-term parts of all pairs of its row in the configuration, where none of them is revealed:
-- those that it uses itself since its node had them at the opening, and the other one since the third party made an item for it.
use Rattle.std.proofs.Common.{◌≡◌, ◌⊎◌, ℕ, List, [], ◌∷◌, Bool, true, false, ◌&&◌, ◌||◌, ◌==◌, if◌then◌else◌, refl, sym, ap, subst, subst₂, ◌∙◌, inl, inr, Option, Some, None, eqb-true}
use Rattle.std.specs.List.{list_any}
use Rattle.term_values.specs.Trees.{Among, Bytes}
use Rattle.attacker_model.specs.Derivation.{IsGoodKey}
use Rattle.mech_rows.specs.declared.kinds.Mech.{Mech}
use Rattle.mech_rows.specs.declared.kinds.Role.{Role}
use Rattle.mech_rows.specs.declared.kinds.Role.TheVariants.{A, B, P}
use Rattle.mech_rows.specs.declared.kinds.Slot.TheVariants.{Fa}
use Rattle.mech_rows.specs.declared.kinds.Under.{Under}
use Rattle.mech_rows.specs.declared.kinds.Under.TheVariants.{Pair, Drawn}
use Rattle.mech_rows.specs.Rows.{Cover, Pass, row_of, has_third, pairs_of}
use Rattle.mech_rows.specs.Facts.{same_role, maker, in_one_row, in_one_item, is_party}
use Rattle.mech_rows.specs.Heads.{Head, name_of}
use Rattle.mech_rows.specs.Runs.{Run, nth, IsDone, key_under, bytes_or_empty}
use Rattle.mech_rows.specs.Steps.{symbolic}
use Rattle.mech_rows.specs.Rings.{Ring, part_by, keys_in}
use Rattle.agreement_laws.specs.Configs.{LongTerm, Config, IsLawful, keys_of, part_among, is_of, IsGoodLong, IsGoodHead, IsUnrevealed}
use Rattle.agreement_laws.specs.Nodes.{new_node, Standing}
use Rattle.mech_rows.specs.Openings.{uses}
use Rattle.agreement_laws.specs.Traces.{RunId, current, IsGoodPart}
use Rattle.agreement_laws.specs.Worlds.{Entry, IsWorld, ring_of, log_of, node_of, trace}
use Rattle.agreement_laws.specs.Sound.{Completion}
use Rattle.mech_rows.proofs.Facts.{servers_show_fa_holds}
use Rattle.mech_rows.proofs.RowUse.{same_role_is, done_after, nth_of, pair_is_of_row}
use Rattle.term_values.proofs.Lists.{some_among, and_left, and_right, implied}
use Rattle.agreement_laws.proofs.Traces.{IsTrace}
use Rattle.agreement_laws.proofs.Later.{StillRuns, still_runs}
use Rattle.agreement_laws.proofs.Origins.{PeerMade, peer_made, same_names}
use Rattle.agreement_laws.proofs.Rounds.{third_pair}
use Rattle.agreement_laws.proofs.Rings.{ring_key, party_from}
use Rattle.agreement_laws.proofs.Keyed.{IsKeyed, runs_are_keyed}
use Rattle.agreement_laws.proofs.Reduction.{run_of, run_at, logs_are_legal, world_trace}
use Rattle.agreement_laws.proofs.Sound.{end_runs}

-- the pairs of the head's row have parts
abbrev pub HasPairs : Config → Head → Type 0
HasPairs c h = (x y : Role) → Among {X = Role × Role} (x, y) (pairs_of h.mech) → (p : Bytes) × (keys_of c (name_of h x) (name_of h y) ≡ Some p)

found_part : (ls : List LongTerm) (x y : ℕ) (p : Bytes) → part_among ls x y ≡ Some p → (l : LongTerm) × Among l ls × (is_of x y l ≡ true) × (p ≡ l.part)
found_part [] x y p e = absurd (cc)
found_part (l ∷ ls) x y p e = go (is_of x y l) refl e (λ f. found_part ls x y p f)
  where
    go : (b : Bool) → is_of x y l ≡ b → (if b then Some l.part else part_among ls x y) ≡ Some p → (part_among ls x y ≡ Some p → (m : LongTerm) × Among m ls × (is_of x y m ≡ true) × (p ≡ m.part)) → (m : LongTerm) × Among m (l ∷ ls) × (is_of x y m ≡ true) × (p ≡ m.part)
    go true f g rest = let is : l.part ≡ p = cc in (l, inl refl, f, sym is)
    go false f g rest = let r = rest g in (r.0, inr r.1, r.2, r.3)

pub good_pairs : (c : Config) (h : Head) → HasPairs c h → IsUnrevealed c h → IsGoodHead c h
good_pairs c h has unrevealed x y i =
    let k = has x y i in
    let l = found_part c.pairs (name_of h x) (name_of h y) k.0 k.1 in
    (k.0, k.1, record { pair = l.0; there = l.1; hidden = unrevealed x y i l.0 l.1 l.2; is = l.3 })

of_ring : (c : Config) → IsLawful c → (n x y : ℕ) (p : Bytes) → keys_in (ring_of c n) x y ≡ Some p → keys_of c x y ≡ Some p
of_ring c lawful n x y p e = go (x == n) refl (y == n) refl e
  where
    go : (a : Bool) → (x == n) ≡ a → (b : Bool) → (y == n) ≡ b → keys_in (ring_of c n) x y ≡ Some p → keys_of c x y ≡ Some p
    go true f b g h = sym (ring_key c lawful n x y (inl (eqb-true x n f))) ∙ h
    go false f true g h = sym (ring_key c lawful n x y (inr (eqb-true y n g))) ∙ h
    go false f false g h = let bad : None ≡ Some p = sym (neither (x == n) (y == n) (part_by (ring_of c n).peers y) (part_by (ring_of c n).peers x) f g) ∙ h in absurd (cc)
      where
        neither : (a b : Bool) (u v : Option Bytes) → a ≡ false → b ≡ false → (if a then u else if b then v else None) ≡ None
        neither true b u v f g = absurd (cc)
        neither false true u v f g = absurd (cc)
        neither false false u v f g = refl

uses_two : (m : Mech) (r : Role) → (r ≡ P → ⊥) → has_third m ≡ false → (x y : Role) → Among {X = Role × Role} (x, y) (pairs_of m) → uses r (x, y) ≡ true
uses_two m r not_p t x y i = go (subst (λ (b : Bool). Among {X = Role × Role} (x, y) (if b then (A, P) ∷ (B, P) ∷ [] else (A, B) ∷ [])) t i)
  where
    ends : (q : Role) → (q ≡ P → ⊥) → uses q (A, B) ≡ true
    ends A n = refl
    ends B n = refl
    ends P n = absurd (n refl)

    go : Among {X = Role × Role} (x, y) ((A, B) ∷ []) → uses r (x, y) ≡ true
    go (inl e) = subst (λ (q : Role × Role). uses r q ≡ true) (sym e) (ends r not_p)
    go (inr j) = elim j [ ]

server_uses : (x y : Role) → y ≡ P → uses P (x, y) ≡ true
server_uses x y e = subst (λ (z : Role). uses P (x, z) ≡ true) (sym e) (last x)
  where
    last : (z : Role) → uses P (z, P) ≡ true
    last A = refl
    last B = refl
    last P = refl

no_server : (r : Role) → (r ≡ P → ⊥) → maker r Drawn ≡ P → ⊥
no_server A n e = cc
no_server B n e = cc
no_server P n e = n refl

item_seen : (r : Role) (d : Cover) → in_one_item P r (Fa ∷ []) d ≡ true → d.seen ≡ true
item_seen r d h = and_left _ _ h

item_maker : (r : Role) (d : Cover) → in_one_item P r (Fa ∷ []) d ≡ true → maker r d.under ≡ P
item_maker r d h = same_role_is (maker r d.under) P (and_left _ _ (and_right _ _ h))

fa_for_a : (m : Mech) → has_third m ≡ true → in_one_row P A (Fa ∷ []) (row_of m) ≡ true
fa_for_a m t = and_left _ _ (implied _ _ (servers_show_fa_holds m) t)

fa_for_b : (m : Mech) → has_third m ≡ true → in_one_row P B (Fa ∷ []) (row_of m) ≡ true
fa_for_b m t = and_right _ _ (implied _ _ (servers_show_fa_holds m) t)

module _ (c : Config) (lawful : IsLawful c) (h : List Entry) (w : IsWorld c h) where
  -- a run's node had the keys that the run uses
  keyed : (id : RunId) (r : Run) → current (trace h) id ≡ Some r → (x y : Role) → Among {X = Role × Role} (x, y) (pairs_of r.head.mech) → uses r.head.role (x, y) ≡ true → (p : Bytes) × (keys_of c (name_of r.head x) (name_of r.head y) ≡ Some p)
  keyed id r e x y i u = go ((node_of c id.party h).runs id.number) refl (run_at c id.party id.number h ∙ e)
    where
      go : (o : Option Standing) → (node_of c id.party h).runs id.number ≡ o → run_of o ≡ Some r → (p : Bytes) × (keys_of c (name_of r.head x) (name_of r.head y) ≡ Some p)
      go None f g = absurd (cc)
      go (Some s) f g =
          let is : s.run ≡ r = cc in
          let all = runs_are_keyed symbolic (new_node (ring_of c id.party) 0) (λ m t k. absurd (cc)) (log_of id.party h) (logs_are_legal c h w id.party) in
          let k : (p : Bytes) × (keys_in (ring_of c id.party) (name_of r.head x) (name_of r.head y) ≡ Some p) = subst (λ (z : Run). IsKeyed (ring_of c id.party) z.head) is (all id.number s f) x y i u in
          (k.0, of_ring c lawful id.party (name_of r.head x) (name_of r.head y) k.0 k.1)

  pub completed_has_pairs : (k : Completion (trace h)) → (k.step.after.head.role ≡ P → ⊥) → IsUnrevealed c k.step.after.head → HasPairs c k.step.after.head
  completed_has_pairs k not_p unrevealed = go (has_third run.head.mech) refl run.head.role refl
    where
      run : Run
      run = k.step.after

      runs : current (trace h) k.id ≡ Some run
      runs = end_runs c lawful (trace h) (world_trace c lawful h w) k

      t : IsTrace c (trace h)
      t = world_trace c lawful h w

      -- the run of the third party that made an item for this one has both
      by_server : (r : Role) → run.head.role ≡ r → has_third run.head.mech ≡ true → in_one_row P r (Fa ∷ []) (row_of run.head.mech) ≡ true → HasPairs c run.head
      by_server r is third test = under d.0.under refl
        where
          p : (q : Pass) × Among q (row_of run.head.mech) × ((same_role q.to r && list_any (in_one_item P r (Fa ∷ [])) q.covers) ≡ true)
          p = some_among (λ (q : Pass). same_role q.to r && list_any (in_one_item P r (Fa ∷ [])) q.covers) (row_of run.head.mech) test

          d : (q : Cover) × Among q p.0.covers × (in_one_item P r (Fa ∷ []) q ≡ true)
          d = some_among (in_one_item P r (Fa ∷ [])) p.0.covers (and_right (same_role p.0.to r) (list_any (in_one_item P r (Fa ∷ [])) p.0.covers) p.2)

          place : (j : ℕ) × (nth (row_of run.head.mech) j ≡ Some p.0)
          place = nth_of (row_of run.head.mech) p.0 p.1

          to : p.0.to ≡ run.head.role
          to = same_role_is p.0.to r (and_left (same_role p.0.to r) (list_any (in_one_item P r (Fa ∷ [])) p.0.covers) p.2) ∙ sym is

          seen : d.0.seen ≡ true
          seen = item_seen r d.0 d.2

          by_p : maker run.head.role d.0.under ≡ P
          by_p = ap (λ (x : Role). maker x d.0.under) is ∙ item_maker r d.0 d.2

          under : (u : Under) → d.0.under ≡ u → HasPairs c run.head
          under Drawn e = absurd (no_server run.head.role not_p (ap (maker run.head.role) (sym e) ∙ by_p))
          under (Pair x y) e = of_server
            where
              among : Among {X = Role × Role} (x, y) (pairs_of run.head.mech)
              among = pair_is_of_row run.head.mech place.0 p.0 place.1 d.0 d.1 x y e

              party : uses run.head.role (x, y) ≡ true
              party = subst (λ (u : Under). is_party run.head.role u ≡ true) e (subst (λ (q : Role). is_party q d.0.under ≡ true) to ((party_from run.head.mech place.0 p.0 d.0 place.1 d.1).1 seen))

              own : (q : Bytes) × (keys_of c (name_of run.head x) (name_of run.head y) ≡ Some q)
              own = keyed k.id run runs x y among party

              own_good : IsGoodLong c own.0
              own_good = let l = found_part c.pairs (name_of run.head x) (name_of run.head y) own.0 own.1 in record { pair = l.0; there = l.1; hidden = unrevealed x y among l.0 l.1 l.2; is = l.3 }

              good_key : IsGoodKey (IsGoodPart c (trace h)) (key_under (keys_of c) run.head run.notes d.0.under)
              good_key =
                  subst (λ (u : Under). IsGoodKey (IsGoodPart c (trace h)) (key_under (keys_of c) run.head run.notes u)) (sym e)
                  (subst (λ (o : Option Bytes). IsGoodPart c (trace h) (bytes_or_empty o)) (sym own.1) (inl own_good))

              made : PeerMade c (trace h) run run.head.role d.0
              made = peer_made c lawful (trace h) t k.id run runs place.0 p.0 d.0 (done_after (row_of run.head.mech) place.0 run.next p.0 k.done place.1) place.1 to d.1 seen good_key

              s : StillRuns (trace h) made.id made.step.before.head made.step.after.next made.step.after.notes
              s = still_runs c (trace h) t made.id made.step made.there

              server_role : s.run.head.role ≡ P
              server_role = ap (λ (z : Head). z.role) s.head_is ∙ (made.role ∙ by_p)

              mech_is : run.head.mech ≡ s.run.head.mech
              mech_is = made.mech ∙ sym (ap (λ (z : Head). z.mech) s.head_is)

              of_server : HasPairs c run.head
              of_server a b i =
                  let j = subst (λ (m : Mech). Among {X = Role × Role} (a, b) (pairs_of m)) mech_is i in
                  let third_there = subst (λ (m : Mech). has_third m ≡ true) mech_is third in
                  let n = same_names run.head made.step.before.head made.parts.a_is made.parts.b_is made.parts.p_is (has_third run.head.mech) refl a b i in
                  subst₂ (λ (u v : ℕ). (q : Bytes) × (keys_of c u v ≡ Some q)) (ap (λ (z : Head). name_of z a) s.head_is ∙ sym n.0) (ap (λ (z : Head). name_of z b) s.head_is ∙ sym n.1)
                  (keyed made.id s.run s.runs a b j (subst (λ (z : Role). uses z (a, b) ≡ true) (sym server_role) (server_uses a b (third_pair s.run.head.mech a b third_there j))))

      of_two : has_third run.head.mech ≡ false → HasPairs c run.head
      of_two third x y i = keyed k.id run runs x y i (uses_two run.head.mech run.head.role not_p third x y i)

      go : (third : Bool) → has_third run.head.mech ≡ third → (r : Role) → run.head.role ≡ r → HasPairs c run.head
      go false third r is = of_two third
      go true third P is = absurd (not_p is)
      go true third A is = by_server A is third (fa_for_a run.head.mech third)
      go true third B is = by_server B is third (fa_for_b run.head.mech third)

  -- so they are good
  pub completed_is_good : (k : Completion (trace h)) → (k.step.after.head.role ≡ P → ⊥) → IsUnrevealed c k.step.after.head → IsGoodHead c k.step.after.head
  completed_is_good k not_p unrevealed = good_pairs c k.step.after.head (completed_has_pairs k not_p unrevealed) unrevealed
