-- The partner, for the claims of A that rest on two items.
use Rattle.std.proofs.Common.{◌≡◌, ℕ, zero, suc, ◌+◌, ◌<◌, ◌⊎◌, List, [], ◌∷◌, Bool, true, false, if◌then◌else◌, not, ◌&&◌, ◌||◌, refl, sym, ap, subst, ◌∙◌, inl, inr, Option, Some, arith, get_or, take, nat_lt, ltb-true, lt_of_lt_of_le, add-zero}
use Rattle.std.specs.List.{list_all, list_any}
use Rattle.term_values.specs.Trees.{Among, Bytes, Tree, part}
use Rattle.term_values.specs.SameBytes.{same_bytes}
use Rattle.mech_rows.specs.Rows.{pairs_of, Cover, Pass, family, number, row_of, has_third, agreed_of}
use Rattle.mech_rows.specs.declared.kinds.Mech.{Mech}
use Rattle.mech_rows.specs.declared.kinds.Mech.TheVariants.{E1}
use Rattle.mech_rows.specs.declared.kinds.Role.{Role}
use Rattle.mech_rows.specs.declared.kinds.Role.TheVariants.{A, B, P}
use Rattle.mech_rows.specs.declared.kinds.Slot.{Slot}
use Rattle.mech_rows.specs.declared.kinds.Slot.TheVariants.{Fa, Ra, Ra2}
use Rattle.mech_rows.specs.declared.kinds.Under.{Under}
use Rattle.mech_rows.specs.declared.kinds.Under.TheVariants.{Pair, Drawn}
use Rattle.mech_rows.specs.Facts.{is_pair, same_role, same_slot, is_drawn_under, maker, peer_of, is_one_item, all_made}
use Rattle.mech_rows.specs.Heads.{Head, name_of, me}
use Rattle.mech_rows.specs.Runs.{Run, names, nth, Step, Draws, reply_pass, IsDone}
use Rattle.agreement_laws.specs.Configs.{Config, keys_of, IsGoodHead, IsLawful}
use Rattle.agreement_laws.specs.Traces.{Happening, Steps, current, known_before, RunId, given}
use Rattle.agreement_laws.specs.Sound.{NotedAlike}
use Rattle.mech_rows.specs.Rounds.{stands, is_own, pass_number, fa_comes_with, linked, in_two, two_items, two_rows, two_test}
use Rattle.mech_rows.proofs.Facts.{tags_name_passes_holds, claims_stand_in_two_items_holds}
use Rattle.agreement_laws.proofs.Traces.{IsTrace}
use Rattle.agreement_laws.proofs.Agreement.{drawn_third, HasPartner, kinds, peer_noted, peer_fa, opened_key_good, partner_by_one_item, ClaimsAt, FaKept}
use Rattle.mech_rows.proofs.RowUse.{parts_under_pairs, pair_is_of_row, nth_among, same_role_refl, same_role_is, same_slot_is, no_fwd_inside, done_after, nth_of}
use Rattle.term_values.proofs.Lists.{all_among, some_among, implied, and_left, and_right, or_cases}
use Rattle.agreement_laws.proofs.Fresh.{one_event}
use Rattle.agreement_laws.proofs.Held.{held, IsNoted, HasFa, fa_by_then, fa_among, has_later, opened_fa, seen_slot}
use Rattle.agreement_laws.proofs.Origins.{PeerMade, peer_made, same_good}
use Rattle.term_values.proofs.SameBytes.{same_start}
use Rattle.agreement_laws.proofs.Own.{stands_among, own_run}
use Rattle.agreement_laws.proofs.Later.{StillRuns, still_runs, made_at, sent_is_behind, part_drawn}

-- the tag of an item says in which pass it was made
third_of : (t : Bytes) → get_or (take 3 t) 2 0 ≡ get_or t 2 0
third_of [] = refl
third_of (x ∷ []) = refl
third_of (x ∷ y ∷ []) = refl
third_of (x ∷ y ∷ z ∷ t) = refl

made_place : (m : Mech) (n : ℕ) (ps : List Pass) → all_made m n ps ≡ true → (k : ℕ) (p : Pass) (d : Cover) → nth ps k ≡ Some p → Among d p.covers → d.made ≡ true → pass_number d.tagged ≡ n + k
made_place m n [] h k p d e i made = absurd (cc)
made_place m n (q ∷ ps) h zero p d e i made =
    let f : Some q ≡ Some p = e in
    let g : q ≡ p = cc in
    let test = implied _ _ (all_among (λ (c : Cover). not c.made || (same_bytes (take 3 c.tagged) (family m ∷ number m ∷ n ∷ []))) q.covers (and_left _ _ h) d (subst (λ (x : Pass). Among d x.covers) (sym g) i)) made in
    sym (third_of d.tagged) ∙ (ap (λ (t : Bytes). get_or t 2 0) {x = take 3 d.tagged} {y = family m ∷ number m ∷ n ∷ []} (same_start (take 3 d.tagged) (family m ∷ number m ∷ n ∷ []) test) ∙ sym (add-zero n))
made_place m n (q ∷ ps) h (suc k) p d e i made = let r = made_place m (suc n) ps (and_right _ _ h) k p d e i made in omega (arith, r)

pub made_number : (m : Mech) (k : ℕ) (p : Pass) (d : Cover) → nth (row_of m) k ≡ Some p → Among d p.covers → d.made ≡ true → pass_number d.tagged ≡ suc k
made_number m k p d e i made = let r = made_place m 1 (row_of m) (tags_name_passes_holds m) k p d e i made in omega (arith, r)

-- the other run, as the item that it made shows it
pub record PeerRuns (c : Config) (h : List Happening) (run : Run) (r : Role) (d : Cover) : Type 0 where
  pub made : PeerMade c h run r d
  pub still : StillRuns h made.id made.step.before.head made.step.after.next made.step.after.notes
  pub mech : still.run.head.mech ≡ run.head.mech
  pub role : still.run.head.role ≡ maker r d.under
  pub names_are : names still.run.head ≡ names run.head
  pub a_is : run.head.a ≡ still.run.head.a
  pub b_is : run.head.b ≡ still.run.head.b
  pub p_is : has_third run.head.mech ≡ true → name_of run.head P ≡ name_of still.run.head P
  pub good : IsGoodHead c still.run.head
  pub behind : reply_pass made.step < still.run.next

some_inj : {X : Type 0} (x y : X) → Some x ≡ Some y → x ≡ y
some_inj x y e = cc

-- the step that drew the run's Fa, and the slot that came with it
record Came (h : List Happening) (u : Slot) (b : Bytes) (r : Run) : Type 0 where
  id : RunId
  step : Step
  there : Among (Steps id step) h
  draws : Draws step Fa (part b)
  tree : Tree
  noted : r.notes u ≡ Some tree
  by_maker : step.after.notes u ≡ Some tree

not_drawn : (u : Under) → u ≡ Drawn → is_pair u ≡ true → ⊥
not_drawn Drawn e h = cc
not_drawn (Pair x y) e h = cc

-- in a row with a third party each pair has P's name as its second
pub third_pair : (m : Mech) (x y : Role) → has_third m ≡ true → Among {X = Role × Role} (x, y) (pairs_of m) → y ≡ P
third_pair m x y t i = go (subst (λ (b : Bool). Among {X = Role × Role} (x, y) (if b then (A, P) ∷ (B, P) ∷ [] else (A, B) ∷ [])) t i)
  where
    go : Among {X = Role × Role} (x, y) ((A, P) ∷ (B, P) ∷ []) → y ≡ P
    go (inl e) = ap (λ (q : Role × Role). q.1) e
    go (inr (inl e)) = ap (λ (q : Role × Role). q.1) e
    go (inr (inr i)) = elim i [ ]

-- in such a row an item of the peer is under Fa
peers_are_drawn : (m : Mech) (r : Role) (k : ℕ) (p : Pass) (d : Cover) → (r ≡ P → ⊥) → has_third m ≡ true → nth (row_of m) k ≡ Some p → Among d p.covers → maker r d.under ≡ peer_of r → d.under ≡ Drawn
peers_are_drawn m r k p d not_p t at i e = go d.under refl
  where
    peer_is_no_p : (x : Role) → (x ≡ P → ⊥) → P ≡ peer_of x → ⊥
    peer_is_no_p A f g = cc
    peer_is_no_p B f g = cc
    peer_is_no_p P f g = f refl

    go : (u : Under) → d.under ≡ u → d.under ≡ Drawn
    go Drawn f = f
    go (Pair x y) f =
        let y_is : y ≡ P = third_pair m x y t (pair_is_of_row m k p at d i x y f) in
        let by_p : maker r d.under ≡ P = ap (maker r) (f ∙ ap (Pair x) y_is) in
        absurd (peer_is_no_p r not_p (sym by_p ∙ e))

module _ (c : Config) (lawful : IsLawful c) (h : List Happening) (w : IsTrace c h) where
  peer_runs : (id : RunId) (run : Run) → current h id ≡ Some run → IsGoodHead c run.head → (j : ℕ) (p : Pass) (d : Cover) → (d.under ≡ Drawn → FaKept h run) → j < run.next → nth (row_of run.head.mech) j ≡ Some p → p.to ≡ run.head.role → Among d p.covers → d.seen ≡ true → PeerRuns c h run run.head.role d
  peer_runs id run is good j p d kept l at to i seen =
      let m = peer_made c lawful h w id run is j p d l at to i seen (opened_key_good c lawful h w id run is good j p d kept l at to i seen) in
      let s = still_runs c h w m.id m.step m.there in
      let made = made_at c h w m.id m.step m.there in
      let behind : reply_pass m.step < m.step.after.next = sent_is_behind (keys_of c) m.step made.happens.is_step m.pass m.at m.sent in
      record {
        made = m;
        still = s;
        mech = ap (λ (x : Head). x.mech) s.head_is ∙ sym m.mech;
        role = ap (λ (x : Head). x.role) s.head_is ∙ m.role;
        names_are = ap names s.head_is ∙ sym m.parts.names_are;
        a_is = m.parts.a_is ∙ sym (ap (λ (x : Head). x.a) s.head_is);
        b_is = m.parts.b_is ∙ sym (ap (λ (x : Head). x.b) s.head_is);
        p_is = λ t. m.parts.p_is t ∙ sym (ap (λ (x : Head). name_of x P) s.head_is);
        good = subst (λ (x : Head). IsGoodHead c x) (sym s.head_is) (same_good c run.head m.step.before.head m.mech m.parts.a_is m.parts.b_is m.parts.p_is good);
        behind = lt_of_lt_of_le behind s.later;
      }

  -- what the peer noted of an item's slot
  peer_has : (id : RunId) (run : Run) → current h id ≡ Some run → (j : ℕ) (p : Pass) (d : Cover) → nth (row_of run.head.mech) j ≡ Some p → Among d p.covers → (q : PeerRuns c h run run.head.role d) → (s : Slot) (t : Tree) → Among s d.slots → run.notes s ≡ Some t → q.still.run.notes s ≡ Some t
  peer_has id run is j p d at i q s t k e = q.still.keeps s t (peer_noted c lawful h w id run is d q.made s t k (no_fwd_inside run.head.mech j p at d s i k) e q.made)

  peer_has_fa : (id : RunId) (run : Run) → current h id ≡ Some run → (d : Cover) → (q : PeerRuns c h run run.head.role d) → d.under ≡ Drawn → (b : Bytes) → run.notes Fa ≡ Some (part b) → q.still.run.notes Fa ≡ Some (part b)
  peer_has_fa id run is d q e b noted = q.still.keeps Fa (part b) (peer_fa c lawful h w id run is d q.made e b noted)

  -- whoever made an item under Fa got Fa before
  maker_has : (run : Run) (d : Cover) → (q : PeerRuns c h run run.head.role d) → d.under ≡ Drawn → HasFa (row_of q.still.run.head.mech) q.still.run.next q.still.run.head.role
  maker_has run d q e =
      let has = (fa_by_then q.made.step.before.head.mech (reply_pass q.made.step) q.made.pass q.made.cover q.made.at q.made.inside (sym q.made.under ∙ e)).0 q.made.is_made in
      let has_role = subst (HasFa (row_of q.made.step.before.head.mech) (suc (reply_pass q.made.step))) q.made.sent has in
      subst (λ (x : Head). HasFa (row_of x.mech) q.still.run.next x.role) (sym q.still.head_is) (has_later (row_of q.made.step.before.head.mech) (reply_pass q.made.step) q.still.run.next q.made.step.before.head.role q.behind has_role)

  pub same_me : (x y : Head) → (x.role ≡ P → ⊥) → x.role ≡ y.role → x.a ≡ y.a → x.b ≡ y.b → me x ≡ me y
  same_me x y not_p e ea eb = go x.role refl ∙ ap (name_of y) e
    where
      go : (r : Role) → x.role ≡ r → name_of x x.role ≡ name_of y x.role
      go A f = subst (λ (z : Role). name_of x z ≡ name_of y z) (sym f) ea
      go B f = subst (λ (z : Role). name_of x z ≡ name_of y z) (sym f) eb
      go P f = absurd (not_p f)

  -- two runs of one role and party with one Fa, which comes with a slot that the role owns, are one run
  one_fa : (id n : RunId) (run other : Run) → current h id ≡ Some run → current h n ≡ Some other → IsGoodHead c run.head → IsGoodHead c other.head → run.head.mech ≡ other.head.mech → run.head.role ≡ other.head.role → me run.head ≡ me other.head → (u : Slot) → fa_comes_with run.head.role (row_of run.head.mech) u ≡ true → HasFa (row_of run.head.mech) run.next run.head.role → HasFa (row_of other.head.mech) other.next other.head.role → (b : Bytes) → run.notes Fa ≡ Some (part b) → other.notes Fa ≡ Some (part b) → id ≡ n
  one_fa id n run other is js good fine em er eme u comes has_run has_other b x y =
      let mine = came run id is good comes has_run x in
      let comes_too : fa_comes_with other.head.role (row_of other.head.mech) u ≡ true = subst (λ (r : Role). fa_comes_with r (row_of other.head.mech) u ≡ true) er (subst (λ (m : Mech). fa_comes_with run.head.role (row_of m) u ≡ true) em comes) in
      let theirs = came other n js fine comes_too has_other y in
      let one : Steps mine.id mine.step ≡ Steps theirs.id theirs.step = one_event c h w mine.id theirs.id mine.step theirs.step Fa Fa (part b) mine.there theirs.there refl refl mine.draws theirs.draws in
      let steps : mine.step ≡ theirs.step = cc in
      let seen_both : Some mine.tree ≡ Some theirs.tree = sym mine.by_maker ∙ (ap (λ (z : Step). z.after.notes u) steps ∙ theirs.by_maker) in
      own_run c h w id n run other is js u mine.tree (and_left _ _ comes) (and_left _ _ comes_too) eme mine.noted (theirs.noted ∙ sym seen_both)
    where
      came : (r : Run) (k : RunId) → current h k ≡ Some r → IsGoodHead c r.head → fa_comes_with r.head.role (row_of r.head.mech) u ≡ true → HasFa (row_of r.head.mech) r.next r.head.role → r.notes Fa ≡ Some (part b) → Came h u b r
      came r k runs fair with has e =
          let g = some_among (λ (x : Cover). x.seen && list_any (same_slot Fa) x.slots) has.pass.covers (and_right (same_role r.head.role has.pass.to) (list_any (λ (x : Cover). x.seen && list_any (same_slot Fa) x.slots) has.pass.covers) has.shows) in
          let seen = and_left g.0.seen (list_any (same_slot Fa) g.0.slots) g.2 in
          let fa_there = fa_among g.0.slots (and_right g.0.seen (list_any (same_slot Fa) g.0.slots) g.2) in
          let to : has.pass.to ≡ r.head.role = sym (same_role_is r.head.role has.pass.to (and_left (same_role r.head.role has.pass.to) (list_any (λ (x : Cover). x.seen && list_any (same_slot Fa) x.slots) has.pass.covers) has.shows)) in
          let q = peer_runs k r runs fair has.place has.pass g.0 (λ x. absurd (not_drawn g.0.under x (parts_under_pairs r.head.mech has.place has.pass has.at g.0 Fa g.1 fa_there refl))) has.earlier has.at to g.1 seen in
          let passes = implied (same_role has.pass.to r.head.role) (list_all (λ (g : Cover). not (g.seen && stands Fa g.slots) || stands u g.slots) has.pass.covers) (all_among (λ (x : Pass). not (same_role x.to r.head.role) || list_all (λ g. not (g.seen && stands Fa g.slots) || stands u g.slots) x.covers) (row_of r.head.mech) (and_right (is_own r.head.role u (row_of r.head.mech)) (list_all (λ (x : Pass). not (same_role x.to r.head.role) || list_all (λ g. not (g.seen && stands Fa g.slots) || stands u g.slots) x.covers) (row_of r.head.mech)) with) has.pass (nth_among (row_of r.head.mech) has.place has.pass has.at)) (subst (λ (z : Role). same_role has.pass.to z ≡ true) to (same_role_refl has.pass.to)) in
          let u_there = stands_among u g.0.slots (implied (g.0.seen && stands Fa g.0.slots) (stands u g.0.slots) (all_among (λ (g : Cover). not (g.seen && stands Fa g.slots) || stands u g.slots) has.pass.covers passes g.0 g.1) g.2) in
          let n = (held c h w k r runs).saw has.place has.pass u has.earlier has.at to (seen_slot has.pass g.0 u g.1 seen u_there) in
          record {
            id = q.made.id;
            step = q.made.step;
            there = q.made.there;
            draws = record {
              is_new = part_drawn c h w q.made.id q.made.step q.made.there q.made.pass q.made.at q.made.sent q.made.cover q.made.inside q.made.is_made Fa (subst (Among Fa) q.made.slots fa_there) refl;
              is = peer_noted c lawful h w k r runs g.0 q.made Fa (part b) fa_there refl e q.made;
            };
            tree = n.tree;
            noted = n.is;
            by_maker = peer_noted c lawful h w k r runs g.0 q.made u n.tree u_there (no_fwd_inside r.head.mech has.place has.pass has.at g.0 u g.1 u_there) n.is q.made;
          }

  pub two_agree : (id : RunId) (run : Run) (slots : List Slot) → current h id ≡ Some run → IsDone run → IsGoodHead c run.head → (has_third run.head.mech ≡ true → FaKept h run) → (run.head.role ≡ P → ⊥) → (p : Pass) (d : Cover) (q : Pass) (e : Cover) → Among p (row_of run.head.mech) → p.to ≡ run.head.role → Among d p.covers → Among q (row_of run.head.mech) → q.from ≡ run.head.role → q.to ≡ peer_of run.head.role → Among e q.covers → two_items run.head.role slots (row_of run.head.mech) d e ≡ true → HasPartner h (peer_of run.head.role) slots run
  two_agree id run slots runs done good kept no_p p d q e in_p to in_d in_q from to_peer in_e test =
      record {
        id = one.made.id;
        other = one.still.run;
        runs = one.still.runs;
        agrees = record { mech = one.mech; names = one.names_are; role_is = one_role; alike = λ s i. alike s (or_cases (stands s d.slots) (stands s e.slots || (is_drawn_under d.under && same_slot s Fa)) (all_among (λ s. stands s d.slots || (stands s e.slots || (is_drawn_under d.under && same_slot s Fa))) slots in_both s i)) };
      }
    where
      first : ((d.seen && same_role (maker run.head.role d.under) (peer_of run.head.role)) && (e.made && e.seen)) ≡ true
      first = and_left ((d.seen && same_role (maker run.head.role d.under) (peer_of run.head.role)) && (e.made && e.seen)) ((same_role (maker (peer_of run.head.role) e.under) run.head.role && nat_lt (pass_number e.tagged) (pass_number d.tagged)) && (linked run.head.role (row_of run.head.mech) d e && in_two slots d e)) test

      second : ((same_role (maker (peer_of run.head.role) e.under) run.head.role && nat_lt (pass_number e.tagged) (pass_number d.tagged)) && (linked run.head.role (row_of run.head.mech) d e && in_two slots d e)) ≡ true
      second = and_right ((d.seen && same_role (maker run.head.role d.under) (peer_of run.head.role)) && (e.made && e.seen)) ((same_role (maker (peer_of run.head.role) e.under) run.head.role && nat_lt (pass_number e.tagged) (pass_number d.tagged)) && (linked run.head.role (row_of run.head.mech) d e && in_two slots d e)) test

      d_seen : d.seen ≡ true
      d_seen = and_left d.seen (same_role (maker run.head.role d.under) (peer_of run.head.role)) (and_left (d.seen && same_role (maker run.head.role d.under) (peer_of run.head.role)) (e.made && e.seen) first)

      e_made : e.made ≡ true
      e_made = and_left e.made e.seen (and_right (d.seen && same_role (maker run.head.role d.under) (peer_of run.head.role)) (e.made && e.seen) first)

      e_seen : e.seen ≡ true
      e_seen = and_right e.made e.seen (and_right (d.seen && same_role (maker run.head.role d.under) (peer_of run.head.role)) (e.made && e.seen) first)

      in_both : in_two slots d e ≡ true
      in_both = and_right (linked run.head.role (row_of run.head.mech) d e) (in_two slots d e) (and_right (same_role (maker (peer_of run.head.role) e.under) run.head.role && nat_lt (pass_number e.tagged) (pass_number d.tagged)) (linked run.head.role (row_of run.head.mech) d e && in_two slots d e) second)

      links : linked run.head.role (row_of run.head.mech) d e ≡ true
      links = and_left (linked run.head.role (row_of run.head.mech) d e) (in_two slots d e) (and_right (same_role (maker (peer_of run.head.role) e.under) run.head.role && nat_lt (pass_number e.tagged) (pass_number d.tagged)) (linked run.head.role (row_of run.head.mech) d e && in_two slots d e) second)

      earlier : pass_number e.tagged < pass_number d.tagged
      earlier = ltb-true (pass_number e.tagged) (pass_number d.tagged) (and_right (same_role (maker (peer_of run.head.role) e.under) run.head.role) (nat_lt (pass_number e.tagged) (pass_number d.tagged)) (and_left (same_role (maker (peer_of run.head.role) e.under) run.head.role && nat_lt (pass_number e.tagged) (pass_number d.tagged)) (linked run.head.role (row_of run.head.mech) d e && in_two slots d e) second))

      place : (j : ℕ) × (nth (row_of run.head.mech) j ≡ Some p)
      place = nth_of (row_of run.head.mech) p in_p

      behind : place.0 < run.next
      behind = done_after (row_of run.head.mech) place.0 run.next p done place.1

      one : PeerRuns c h run run.head.role d
      one = peer_runs id run runs good place.0 p d (λ u. kept (drawn_third run.head.mech place.0 p d place.1 in_d u)) behind place.1 to in_d d_seen

      one_role : one.still.run.head.role ≡ peer_of run.head.role
      one_role = one.role ∙ same_role_is (maker run.head.role d.under) (peer_of run.head.role) (and_right d.seen (same_role (maker run.head.role d.under) (peer_of run.head.role)) (and_left (d.seen && same_role (maker run.head.role d.under) (peer_of run.head.role)) (e.made && e.seen) first))

      place_e : (j : ℕ) × (nth (row_of run.head.mech) j ≡ Some q)
      place_e = nth_of (row_of run.head.mech) q in_q

      at_e : nth (row_of one.still.run.head.mech) place_e.0 ≡ Some q
      at_e = subst (λ (m : Mech). nth (row_of m) place_e.0 ≡ Some q) (sym one.mech) place_e.1

      behind_e : place_e.0 < one.still.run.next
      behind_e =
          let x : pass_number e.tagged ≡ suc place_e.0 = made_number run.head.mech place_e.0 q e place_e.1 in_e e_made in
          let y : pass_number one.made.cover.tagged ≡ suc (reply_pass one.made.step) = made_number one.made.step.before.head.mech (reply_pass one.made.step) one.made.pass one.made.cover one.made.at one.made.inside one.made.is_made in
          let z : pass_number d.tagged ≡ pass_number one.made.cover.tagged = ap pass_number one.made.tags in
          let b : reply_pass one.made.step < one.still.run.next = one.behind in
          let l : pass_number e.tagged < pass_number d.tagged = earlier in
          omega arith

      fa_of : d.under ≡ Drawn → (b : Bytes) × (run.notes Fa ≡ Some (part b))
      fa_of u =
          let fa = opened_fa (known_before c h) (keys_of c) run.head run.next place.0 run.notes p d (held c h w id run runs) behind place.1 to in_d d_seen u in
          let b : (b : Bytes) × (fa.tree ≡ part b) = kinds c lawful h w id run runs Fa fa.tree fa.is in
          (b.0, fa.is ∙ ap Some b.1)

      -- the peer's Fa is that of the run
      one_kept : e.under ≡ Drawn → FaKept h one.still.run
      one_kept u b noted given_away =
          let third : has_third run.head.mech ≡ true = drawn_third run.head.mech place_e.0 q e place_e.1 in_e u in
          let under_d : d.under ≡ Drawn = peers_are_drawn run.head.mech run.head.role place.0 p d no_p third place.1 in_d (same_role_is (maker run.head.role d.under) (peer_of run.head.role) (and_right d.seen (same_role (maker run.head.role d.under) (peer_of run.head.role)) (and_left (d.seen && same_role (maker run.head.role d.under) (peer_of run.head.role)) (e.made && e.seen) first))) in
          let mine = fa_of under_d in
          let theirs : one.still.run.notes Fa ≡ Some (part mine.0) = peer_has_fa id run runs d one under_d mine.0 mine.1 in
          let same : Some (part mine.0) ≡ Some (part b) = sym theirs ∙ noted in
          kept third mine.0 mine.1 (subst (λ (x : Bytes). Among x (given h)) (part_inj mine.0 b same) given_away)
        where
          part_inj : (x y : Bytes) → Some (part x) ≡ Some (part y) → y ≡ x
          part_inj x y e = cc

      two : PeerRuns c h one.still.run one.still.run.head.role e
      two = peer_runs one.made.id one.still.run one.still.runs one.good place_e.0 q e one_kept behind_e at_e (to_peer ∙ sym one_role) in_e e_seen

      two_role : two.still.run.head.role ≡ run.head.role
      two_role = two.role ∙ (ap (λ (r : Role). maker r e.under) one_role ∙ same_role_is (maker (peer_of run.head.role) e.under) run.head.role (and_left (same_role (maker (peer_of run.head.role) e.under) run.head.role) (nat_lt (pass_number e.tagged) (pass_number d.tagged)) (and_left (same_role (maker (peer_of run.head.role) e.under) run.head.role && nat_lt (pass_number e.tagged) (pass_number d.tagged)) (linked run.head.role (row_of run.head.mech) d e && in_two slots d e) second)))

      two_mech : run.head.mech ≡ two.still.run.head.mech
      two_mech = sym (two.mech ∙ one.mech)

      two_me : me run.head ≡ me two.still.run.head
      two_me = same_me run.head two.still.run.head no_p (sym two_role) (one.a_is ∙ two.a_is) (one.b_is ∙ two.b_is)

      note_d : (s : Slot) → Among s d.slots → IsNoted run.notes s
      note_d s i = (held c h w id run runs).saw place.0 p s behind place.1 to (seen_slot p d s in_d d_seen i)

      other_d : (s : Slot) (t : Tree) → Among s d.slots → run.notes s ≡ Some t → one.still.run.notes s ≡ Some t
      other_d = peer_has id run runs place.0 p d place.1 in_d one

      note_e : (s : Slot) → Among s e.slots → IsNoted one.still.run.notes s
      note_e s i = (held c h w one.made.id one.still.run one.still.runs).saw place_e.0 q s behind_e at_e (to_peer ∙ sym one_role) (seen_slot q e s in_e e_seen i)

      other_e : (s : Slot) (t : Tree) → Among s e.slots → one.still.run.notes s ≡ Some t → two.still.run.notes s ≡ Some t
      other_e = peer_has one.made.id one.still.run one.still.runs place_e.0 q e at_e in_e two

      by_slot : (x : Slot) × Among x e.slots × ((stands x d.slots && is_own run.head.role x (row_of run.head.mech)) ≡ true) → id ≡ two.made.id
      by_slot (x, i, f) =
          let j = stands_among x d.slots (and_left (stands x d.slots) (is_own run.head.role x (row_of run.head.mech)) f) in
          let n = note_d x j in
          let own : is_own run.head.role x (row_of run.head.mech) ≡ true = and_right (stands x d.slots) (is_own run.head.role x (row_of run.head.mech)) f in
          let own_too : is_own two.still.run.head.role x (row_of two.still.run.head.mech) ≡ true = subst (λ (r : Role). is_own r x (row_of two.still.run.head.mech) ≡ true) (sym two_role) (subst (λ (m : Mech). is_own run.head.role x (row_of m) ≡ true) two_mech own) in
          own_run c h w id two.made.id run two.still.run runs two.still.runs x n.tree own own_too two_me n.is (other_e x n.tree i (other_d x n.tree j n.is))

      drawn_is : (v : Under) → is_drawn_under v ≡ true → v ≡ Drawn
      drawn_is Drawn g = refl
      drawn_is (Pair x y) g = absurd (cc)

      by_fa : (is_drawn_under d.under && (is_drawn_under e.under && list_any (fa_comes_with run.head.role (row_of run.head.mech)) (Ra ∷ Ra2 ∷ []))) ≡ true → id ≡ two.made.id
      by_fa f =
          let under_d = drawn_is d.under (and_left (is_drawn_under d.under) ((is_drawn_under e.under) && (list_any (fa_comes_with run.head.role (row_of run.head.mech)) (Ra ∷ Ra2 ∷ []))) f) in
          let under_e = drawn_is e.under (and_left (is_drawn_under e.under) (list_any (fa_comes_with run.head.role (row_of run.head.mech)) (Ra ∷ Ra2 ∷ [])) (and_right (is_drawn_under d.under) ((is_drawn_under e.under) && (list_any (fa_comes_with run.head.role (row_of run.head.mech)) (Ra ∷ Ra2 ∷ []))) f)) in
          let u = some_among (fa_comes_with run.head.role (row_of run.head.mech)) (Ra ∷ Ra2 ∷ []) (and_right (is_drawn_under e.under) (list_any (fa_comes_with run.head.role (row_of run.head.mech)) (Ra ∷ Ra2 ∷ [])) (and_right (is_drawn_under d.under) ((is_drawn_under e.under) && (list_any (fa_comes_with run.head.role (row_of run.head.mech)) (Ra ∷ Ra2 ∷ []))) f)) in
          let b = fa_of under_d in
          let others : one.still.run.notes Fa ≡ Some (part b.0) = peer_has_fa id run runs d one under_d b.0 b.1 in
          let twos : two.still.run.notes Fa ≡ Some (part b.0) = peer_has_fa one.made.id one.still.run one.still.runs e two under_e b.0 others in
          let has_run = has_later (row_of run.head.mech) place.0 run.next run.head.role behind (subst (HasFa (row_of run.head.mech) (suc place.0)) to ((fa_by_then run.head.mech place.0 p d place.1 in_d under_d).1 d_seen)) in
          one_fa id two.made.id run two.still.run runs two.still.runs good two.good two_mech (sym two_role) two_me u.0 u.2 has_run has_two b.0 b.1 twos
        where
          has_two : HasFa (row_of two.still.run.head.mech) two.still.run.next two.still.run.head.role
          has_two = maker_has one.still.run e two (drawn_is e.under (and_left (is_drawn_under e.under) (list_any (fa_comes_with run.head.role (row_of run.head.mech)) (Ra ∷ Ra2 ∷ [])) (and_right (is_drawn_under d.under) (is_drawn_under e.under && list_any (fa_comes_with run.head.role (row_of run.head.mech)) (Ra ∷ Ra2 ∷ [])) f)))

      same_id : id ≡ two.made.id
      same_id = go (or_cases (list_any (λ u. stands u d.slots && is_own run.head.role u (row_of run.head.mech)) e.slots) ((is_drawn_under d.under) && ((is_drawn_under e.under) && (list_any (fa_comes_with run.head.role (row_of run.head.mech)) (Ra ∷ Ra2 ∷ [])))) links)
        where
          go : (list_any (λ u. stands u d.slots && is_own run.head.role u (row_of run.head.mech)) e.slots ≡ true) ⊎ ((is_drawn_under d.under && (is_drawn_under e.under && list_any (fa_comes_with run.head.role (row_of run.head.mech)) (Ra ∷ Ra2 ∷ []))) ≡ true) → id ≡ two.made.id
          go (inl f) = by_slot (some_among (λ u. stands u d.slots && is_own run.head.role u (row_of run.head.mech)) e.slots f)
          go (inr f) = by_fa f

      same_run : Some two.still.run ≡ Some run
      same_run = sym two.still.runs ∙ (ap (current h) (sym same_id) ∙ runs)

      alike : (s : Slot) → (stands s d.slots ≡ true) ⊎ ((stands s e.slots || (is_drawn_under d.under && same_slot s Fa)) ≡ true) → NotedAlike s one.still.run.notes run.notes
      alike s (inl f) =
          let i = stands_among s d.slots f in
          let n = note_d s i in
          record { tree = n.tree; left = other_d s n.tree i n.is; right = n.is }
      alike s (inr f) = go (or_cases (stands s e.slots) (is_drawn_under d.under && same_slot s Fa) f)
        where
          go : (stands s e.slots ≡ true) ⊎ ((is_drawn_under d.under && same_slot s Fa) ≡ true) → NotedAlike s one.still.run.notes run.notes
          go (inl g) =
              let i = stands_among s e.slots g in
              let n = note_e s i in
              let runs_same : two.still.run ≡ run = some_inj two.still.run run same_run in
              record { tree = n.tree; left = n.is; right = subst (λ (r : Run). r.notes s ≡ Some n.tree) runs_same (other_e s n.tree i n.is) }
          go (inr g) =
              let under = drawn_is d.under (and_left (is_drawn_under d.under) (same_slot s Fa) g) in
              let b = fa_of under in
              subst (λ (x : Slot). NotedAlike x one.still.run.notes run.notes) (sym (same_slot_is s Fa (and_right (is_drawn_under d.under) (same_slot s Fa) g)))
              (record { tree = part b.0; left = peer_has_fa id run runs d one under b.0 b.1; right = b.1 })

  two_row_test : (m : Mech) (r : Role) (slots : List Slot) → agreed_of m r ≡ Some slots → is_one_item m r ≡ false → two_rows r slots (row_of m) ≡ true
  two_row_test m r slots e one = go (or_cases (is_one_item m r) (two_rows r slots (row_of m)) (subst (λ (o : Option (List Slot)). two_test m r o ≡ true) e (by_role r)))
    where
      by_role : (x : Role) → two_test m x (agreed_of m x) ≡ true
      by_role A = and_left (two_test m A (agreed_of m A)) (two_test m B (agreed_of m B) && two_test m P (agreed_of m P)) (claims_stand_in_two_items_holds m)
      by_role B = and_left (two_test m B (agreed_of m B)) (two_test m P (agreed_of m P)) (and_right (two_test m A (agreed_of m A)) (two_test m B (agreed_of m B) && two_test m P (agreed_of m P)) (claims_stand_in_two_items_holds m))
      by_role P = and_right (two_test m B (agreed_of m B)) (two_test m P (agreed_of m P)) (and_right (two_test m A (agreed_of m A)) (two_test m B (agreed_of m B) && two_test m P (agreed_of m P)) (claims_stand_in_two_items_holds m))

      go : (is_one_item m r ≡ true) ⊎ (two_rows r slots (row_of m) ≡ true) → two_rows r slots (row_of m) ≡ true
      go (inl f) = absurd (cc)
      go (inr f) = f

  pub no_claim_of_p : (m : Mech) (slots : List Slot) → agreed_of m P ≡ Some slots → ⊥
  no_claim_of_p E1 slots e = cc
  no_claim_of_p _ slots e = cc

  pub partner_by_two_items : (id : RunId) (run : Run) (slots : List Slot) → ClaimsAt c h id run slots → is_one_item run.head.mech run.head.role ≡ false → HasPartner h (peer_of run.head.role) slots run
  partner_by_two_items id run slots cl one =
      let r = run.head.role in
      let ps = row_of run.head.mech in
      let p = some_among (λ (p : Pass). same_role p.to r && list_any (λ d. list_any (λ q. (same_role q.from r && same_role q.to (peer_of r)) && list_any (two_items r slots ps d) q.covers) ps) p.covers) ps (two_row_test run.head.mech r slots cl.claimed one) in
      let d = some_among (λ (d : Cover). list_any (λ q. (same_role q.from r && same_role q.to (peer_of r)) && list_any (two_items r slots ps d) q.covers) ps) p.0.covers (and_right _ _ p.2) in
      let q = some_among (λ (q : Pass). (same_role q.from r && same_role q.to (peer_of r)) && list_any (two_items r slots ps d.0) q.covers) ps d.2 in
      let roles = and_left (same_role q.0.from r && same_role q.0.to (peer_of r)) (list_any (two_items r slots ps d.0) q.0.covers) q.2 in
      let e = some_among (two_items r slots ps d.0) q.0.covers (and_right (same_role q.0.from r && same_role q.0.to (peer_of r)) (list_any (two_items r slots ps d.0) q.0.covers) q.2) in
      two_agree id run slots cl.runs cl.done cl.good cl.kept (λ is. no_claim_of_p run.head.mech slots (subst (λ (x : Role). agreed_of run.head.mech x ≡ Some slots) is cl.claimed))
      p.0 d.0 q.0 e.0 p.1 (same_role_is p.0.to r (and_left _ _ p.2)) d.1 q.1 (same_role_is q.0.from r (and_left _ _ roles)) (same_role_is q.0.to (peer_of r) (and_right _ _ roles)) e.1 e.2

  -- the partner
  pub partner : (id : RunId) (run : Run) (slots : List Slot) → ClaimsAt c h id run slots → HasPartner h (peer_of run.head.role) slots run
  partner id run slots cl = go (is_one_item run.head.mech run.head.role) refl
    where
      go : (b : Bool) → is_one_item run.head.mech run.head.role ≡ b → HasPartner h (peer_of run.head.role) slots run
      go true e = partner_by_one_item c lawful h w id run slots cl e
      go false e = partner_by_two_items id run slots cl e
