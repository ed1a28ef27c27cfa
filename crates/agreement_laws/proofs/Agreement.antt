-- The partner, for the claims that rest on one item, and the secrecy of keys.
use Rattle.std.proofs.Common.{◌≡◌, ℕ, suc, ◌<◌, ◌⊎◌, List, [], ◌∷◌, Bool, true, false, ◌&&◌, ◌||◌, refl, sym, ap, subst, ◌∙◌, inl, inr, Option, Some, None, arith}
use Rattle.std.specs.List.{list_any}
use Rattle.term_values.specs.Trees.{Among, Bytes, Tree, nonce, stamp, text, part, tuple, none}
use Rattle.term_values.specs.declared.small.Key.TheVariants.{One}
use Rattle.attacker_model.specs.Derivation.{IsGoodKey}
use Rattle.mech_rows.specs.declared.kinds.Mech.{Mech}
use Rattle.mech_rows.specs.declared.kinds.Mech.TheVariants.{E1}
use Rattle.mech_rows.specs.declared.kinds.Role.{Role}
use Rattle.mech_rows.specs.declared.kinds.Role.TheVariants.{A, B, P}
use Rattle.mech_rows.specs.declared.kinds.Slot.{Slot}
use Rattle.mech_rows.specs.declared.kinds.Slot.TheVariants.{Fa, Fwd}
use Rattle.mech_rows.specs.declared.kinds.Kind.{Kind}
use Rattle.mech_rows.specs.declared.kinds.Kind.TheVariants.{Nonce as a_nonce, Stamp as a_stamp, Part as a_part, Text as a_text, Item as an_item}
use Rattle.mech_rows.specs.Rows.{kind_of, Cover, Pass, row_of, has_third, agreed_of}
use Rattle.mech_rows.specs.declared.kinds.Under.{Under}
use Rattle.mech_rows.specs.declared.kinds.Under.TheVariants.{Pair, Drawn}
use Rattle.mech_rows.specs.Facts.{covers_of, lawful_under, is_part, is_fwd, same_slot, same_role, is_drawn_under, peer_of, in_one_item, in_one_row, is_one_item, agreed_test}
use Rattle.mech_rows.specs.Heads.{Head}
use Rattle.mech_rows.specs.Runs.{Run, noted_or_empty, bytes_or_empty, part_bytes, key_under, names, HasKind, nth, Step, reply_pass, IsDone}
use Rattle.agreement_laws.specs.Configs.{Config, keys_of, IsGoodHead, IsLawful}
use Rattle.agreement_laws.specs.Traces.{Happening, Steps, current, known_before, IsGoodPart, RunId, given}
use Rattle.agreement_laws.specs.Sound.{NotedAlike, AgreesOn}
use Rattle.mech_rows.proofs.Facts.{lawful_keys_holds, claims_stand_in_one_item_holds, servers_show_fa_holds}
use Rattle.agreement_laws.proofs.Steps.{pair_case}
use Rattle.agreement_laws.proofs.Traces.{IsTrace}
use Rattle.mech_rows.proofs.RowUse.{nth_among, among_covers, same_role_is, same_slot_is, pair_is_of_row, parts_under_pairs, no_fwd_inside, done_after, nth_of}
use Rattle.term_values.proofs.Lists.{all_among, some_among, implied, and_left, and_right, or_cases}
use Rattle.agreement_laws.proofs.Secrecy.{kept_good}
use Rattle.agreement_laws.proofs.Held.{held, held_step, IsNoted, HasFa, fa_by_then, fa_noted, fa_among, has_later, opened_fa, seen_slot}
use Rattle.agreement_laws.proofs.Origins.{PeerMade, peer_made, same_good}
use Rattle.agreement_laws.proofs.Later.{sent_is_behind, StillRuns, still_runs, made_at, part_drawn}

-- a run with that role, and with mechanism, names and slots alike
pub record HasPartner (h : List Happening) (role : Role) (slots : List Slot) (run : Run) : Type 0 where
  pub id : RunId
  pub other : Run
  pub runs : current h id ≡ Some other
  pub agrees : AgreesOn role slots other run

-- its Fa wasn't given away
abbrev pub FaKept : List Happening → Run → Type 0
FaKept h run = (q : Bytes) → run.notes Fa ≡ Some (part q) → Among q (given h) → ⊥

-- the run is done and claims agreement on the slots
pub record ClaimsAt (c : Config) (h : List Happening) (id : RunId) (run : Run) (slots : List Slot) : Type 0 where
  pub runs : current h id ≡ Some run
  pub done : IsDone run
  pub claimed : agreed_of run.head.mech run.head.role ≡ Some slots
  pub good : IsGoodHead c run.head
  pub kept : has_third run.head.mech ≡ true → FaKept h run

-- by the fact lawful_keys
pub drawn_third : (m : Mech) (k : ℕ) (p : Pass) (d : Cover) → nth (row_of m) k ≡ Some p → Among d p.covers → d.under ≡ Drawn → has_third m ≡ true
drawn_third m k p d at i e = subst (λ (u : Under). lawful_under m u ≡ true) e (all_among (λ (d : Cover). lawful_under m d.under) (covers_of (row_of m)) (lawful_keys_holds m) d (among_covers (row_of m) p d (nth_among (row_of m) k p at) i))

-- a value of a plain kind or a part is no empty tuple, so what shows it was noted
is_item : Kind → Bool
is_item an_item = true
is_item _ = false

kind_is_no_item : (s : Slot) → is_fwd s ≡ false → is_item (kind_of s) ≡ false
unfolding is_item
kind_is_no_item Fwd h = absurd (cc)
kind_is_no_item _ h = refl

noted_back : (k : Kind) (t : Tree) → is_item k ≡ false → HasKind k t → (o : Option Tree) → t ≡ noted_or_empty o → o ≡ Some t
unfolding is_item
noted_back k t h e (Some u) f = ap Some (sym f)
noted_back a_nonce t h e None f = let g : nonce e.0 ≡ tuple none = sym e.1 ∙ f in absurd (cc)
noted_back a_stamp t h e None f = let g : stamp e.0 ≡ tuple none = sym e.1 ∙ f in absurd (cc)
noted_back a_part t h e None f = let g : part e.0 ≡ tuple none = sym e.1 ∙ f in absurd (cc)
noted_back a_text t h e None f = let g : text e.0 ≡ tuple none = sym e.1 ∙ f in absurd (cc)
noted_back an_item t h e None f = absurd (cc)

module _ (c : Config) (lawful : IsLawful c) (h : List Happening) (w : IsTrace c h) where
  pub kinds : (id : RunId) (run : Run) → current h id ≡ Some run → (s : Slot) (t : Tree) → run.notes s ≡ Some t → HasKind (kind_of s) t
  kinds id run is s t e = ((kept_good c lawful h w).runs id run is).kinds s t e

  -- what the maker of an opened item noted for a slot of it
  pub peer_noted : (id : RunId) (run : Run) → current h id ≡ Some run → (d : Cover) → PeerMade c h run run.head.role d → (s : Slot) (t : Tree) → Among s d.slots → is_fwd s ≡ false → run.notes s ≡ Some t → (m : PeerMade c h run run.head.role d) → m.step.after.notes s ≡ Some t
  peer_noted id run is d _ s t i no_fwd e m =
      noted_back (kind_of s) t (kind_is_no_item s no_fwd) (kinds id run is s t e) (m.step.after.notes s) (sym (ap noted_or_empty e) ∙ m.parts.values s i)

  long_key_good : (run : Run) → IsGoodHead c run.head → (j : ℕ) (p : Pass) (d : Cover) → nth (row_of run.head.mech) j ≡ Some p → Among d p.covers → (x y : Role) → d.under ≡ Pair x y → IsGoodKey (IsGoodPart c h) (key_under (keys_of c) run.head run.notes d.under)
  long_key_good run good j p d at i x y e =
      let q = good x y (pair_is_of_row run.head.mech j p at d i x y e) in
      subst (λ (u : Under). IsGoodKey (IsGoodPart c h) (key_under (keys_of c) run.head run.notes u)) (sym e)
      (subst (λ (o : Option Bytes). IsGoodPart c h (bytes_or_empty o)) (sym q.1) (inl q.2))

  -- a part that a run of unrevealed pairs opened is good
  pub opened_part_good : (id : RunId) (run : Run) → current h id ≡ Some run → IsGoodHead c run.head → (j : ℕ) (p : Pass) (d : Cover) → j < run.next → nth (row_of run.head.mech) j ≡ Some p → p.to ≡ run.head.role → Among d p.covers → d.seen ≡ true → (s : Slot) (q : Bytes) → Among s d.slots → is_part s ≡ true → run.notes s ≡ Some (part q) → (Among q (given h) → ⊥) → IsGoodPart c h q
  opened_part_good id run is good j p d l at to i seen s q k e noted kept =
      let u = pair_case d.under (parts_under_pairs run.head.mech j p at d s i k e) in
      let m = peer_made c lawful h w id run is j p d l at to i seen (long_key_good run good j p d at i u.0 u.1 u.2) in
      inr (record {
        id = m.id;
        step = m.step;
        there = m.there;
        slot = s;
        is_part_slot = e;
        draws = record {
          is_new = part_drawn c h w m.id m.step m.there m.pass m.at m.sent m.cover m.inside m.is_made s (subst (Among s) m.slots k) e;
          is = peer_noted id run is d m s (part q) k (no_fwd_inside run.head.mech j p at d s i k) noted m;
        };
        good = same_good c run.head m.step.before.head m.mech m.parts.a_is m.parts.b_is m.parts.p_is good;
        kept = kept;
      })

  -- the key of an item that a run of unrevealed pairs opened is good
  pub opened_key_good : (id : RunId) (run : Run) → current h id ≡ Some run → IsGoodHead c run.head → (j : ℕ) (p : Pass) (d : Cover) → (d.under ≡ Drawn → FaKept h run) → j < run.next → nth (row_of run.head.mech) j ≡ Some p → p.to ≡ run.head.role → Among d p.covers → d.seen ≡ true → IsGoodKey (IsGoodPart c h) (key_under (keys_of c) run.head run.notes d.under)
  opened_key_good id run is good j p d kept l at to i seen = go d.under refl
    where
      go : (u : Under) → d.under ≡ u → IsGoodKey (IsGoodPart c h) (key_under (keys_of c) run.head run.notes d.under)
      go (Pair x y) e = long_key_good run good j p d at i x y e
      go Drawn e =
          let fa = opened_fa (known_before c h) (keys_of c) run.head run.next j run.notes p d (held c h w id run is) l at to i seen e in
          let q : (b : Bytes) × (fa.tree ≡ part b) = kinds id run is Fa fa.tree fa.is in
          let has = subst (HasFa (row_of run.head.mech) (suc j)) to ((fa_by_then run.head.mech j p d at i e).1 seen) in
          let d2 = some_among (λ (x : Cover). x.seen && list_any (same_slot Fa) x.slots) has.pass.covers (and_right _ _ has.shows) in
          let noted : run.notes Fa ≡ Some (part q.0) = fa.is ∙ ap Some q.1 in
          let good_fa : IsGoodPart c h q.0 =
          opened_part_good id run is good has.place has.pass d2.0 (omega (arith, has.earlier)) has.at (sym (same_role_is run.head.role has.pass.to (and_left _ _ has.shows))) d2.1 (and_left _ _ d2.2) Fa q.0 (fa_among d2.0.slots (and_right _ _ d2.2)) refl noted (kept e q.0 noted) in
          subst (λ (u : Under). IsGoodKey (IsGoodPart c h) (key_under (keys_of c) run.head run.notes u)) (sym e)
          (subst (λ (o : Option Tree). IsGoodPart c h (part_bytes (noted_or_empty o))) (sym noted) good_fa)

  -- Fa is noted where a step made an item under it
  pub maker_fa : (id : RunId) (step : Step) → Among (Steps id step) h → (p : Pass) → nth (row_of step.before.head.mech) (reply_pass step) ≡ Some p → p.from ≡ step.before.head.role → (d : Cover) → Among d p.covers → d.made ≡ true → d.under ≡ Drawn → IsNoted step.after.notes Fa
  maker_fa id step there p at from d i made e =
      let m = made_at c h w id step there in
      let is = m.happens.is_step in
      let before = held c m.before m.world id step.before m.happens.runs in
      let after = held_step c m.before step is m.happens.delivered before in
      let behind : reply_pass step < step.after.next = sent_is_behind (keys_of c) step is p at from in
      let has = subst (HasFa (row_of step.before.head.mech) (suc (reply_pass step))) from ((fa_by_then step.before.head.mech (reply_pass step) p d at i e).0 made) in
      let moved_head : HasFa (row_of step.after.head.mech) (suc (reply_pass step)) step.after.head.role = subst (λ (x : Head). HasFa (row_of x.mech) (suc (reply_pass step)) x.role) (sym is.same_head) has in
      fa_noted (known_before c m.before) (keys_of c) step.after.head step.after.next step.after.notes after (has_later (row_of step.after.head.mech) (reply_pass step) step.after.next step.after.head.role behind moved_head)

  -- what a run that made an item noted for the key's Fa
  pub peer_fa : (id : RunId) (run : Run) → current h id ≡ Some run → (d : Cover) → (m : PeerMade c h run run.head.role d) → d.under ≡ Drawn → (q : Bytes) → run.notes Fa ≡ Some (part q) → m.step.after.notes Fa ≡ Some (part q)
  peer_fa id run is d m e q noted =
      let made_under : m.cover.under ≡ Drawn = sym m.under ∙ e in
      let fa = maker_fa m.id m.step m.there m.pass m.at m.sent m.cover m.inside m.is_made made_under in
      let s = still_runs c h w m.id m.step m.there in
      let kind : (b : Bytes) × (fa.tree ≡ part b) = kinds m.id s.run s.runs Fa fa.tree (s.keeps Fa fa.tree fa.is) in
      let theirs : m.step.after.notes Fa ≡ Some (part kind.0) = fa.is ∙ ap Some kind.1 in
      let one : key_under (keys_of c) run.head run.notes Drawn ≡ key_under (keys_of c) m.step.before.head m.step.after.notes Drawn =
      subst (λ (u : Under). key_under (keys_of c) run.head run.notes u ≡ key_under (keys_of c) m.step.before.head m.step.after.notes Drawn) e
      (subst (λ (u : Under). key_under (keys_of c) run.head run.notes d.under ≡ key_under (keys_of c) m.step.before.head m.step.after.notes u) made_under m.one_key) in
      let keys : One q ≡ One kind.0 =
      ap (λ (o : Option Tree). One (part_bytes (noted_or_empty o))) (sym noted) ∙ (one ∙ ap (λ (o : Option Tree). One (part_bytes (noted_or_empty o))) theirs) in
      let same : q ≡ kind.0 = cc in
      theirs ∙ ap (λ (b : Bytes). Some (part b)) (sym same)

  -- the slots of one item of a peer, and the Fa of its key
  item_agrees : (x : Role) (id : RunId) (run : Run) (slots : List Slot) → current h id ≡ Some run → IsDone run → IsGoodHead c run.head → (has_third run.head.mech ≡ true → FaKept h run) → (p : Pass) → Among p (row_of run.head.mech) → p.to ≡ run.head.role → (d : Cover) → Among d p.covers → in_one_item x run.head.role slots d ≡ true → HasPartner h x slots run
  item_agrees x id run slots runs done good kept p there to d i test =
      record {
        id = made.id;
        other = s.run;
        runs = s.runs;
        agrees = record {
          mech = ap (λ (x : Head). x.mech) s.head_is ∙ sym made.mech;
          names = ap names s.head_is ∙ sym made.parts.names_are;
          role_is = ap (λ (x : Head). x.role) s.head_is ∙ (made.role ∙ same_role_is _ _ (and_left _ _ (and_right _ _ test)));
          alike = λ u k. alike u (or_cases _ _ (all_among (λ (x : Slot). list_any (same_slot x) d.slots || (is_drawn_under d.under && same_slot x Fa)) slots (and_right _ _ (and_right _ _ test)) u k));
        };
      }
    where
      place : (j : ℕ) × (nth (row_of run.head.mech) j ≡ Some p)
      place = nth_of (row_of run.head.mech) p there

      behind : place.0 < run.next
      behind = done_after (row_of run.head.mech) place.0 run.next p done place.1

      seen_d : d.seen ≡ true
      seen_d = and_left _ _ test

      made : PeerMade c h run run.head.role d
      made = peer_made c lawful h w id run runs place.0 p d behind place.1 to i seen_d (opened_key_good id run runs good place.0 p d (λ e. kept (drawn_third run.head.mech place.0 p d place.1 i e)) behind place.1 to i seen_d)

      s : StillRuns h made.id made.step.before.head made.step.after.next made.step.after.notes
      s = still_runs c h w made.id made.step made.there

      in_item : (u : Slot) → Among u d.slots → NotedAlike u s.run.notes run.notes
      in_item u k =
          let n = (held c h w id run runs).saw place.0 p u behind place.1 to (seen_slot p d u i seen_d k) in
          record { tree = n.tree; left = s.keeps u n.tree (peer_noted id run runs d made u n.tree k (no_fwd_inside run.head.mech place.0 p place.1 d u i k) n.is made); right = n.is }

      in_key : (u : Slot) → is_drawn_under d.under ≡ true → u ≡ Fa → NotedAlike u s.run.notes run.notes
      in_key u e f =
          let under = drawn_case d.under e in
          let fa = opened_fa (known_before c h) (keys_of c) run.head run.next place.0 run.notes p d (held c h w id run runs) behind place.1 to i seen_d under in
          let q : (b : Bytes) × (fa.tree ≡ part b) = kinds id run runs Fa fa.tree fa.is in
          let noted : run.notes Fa ≡ Some (part q.0) = fa.is ∙ ap Some q.1 in
          subst (λ (x : Slot). NotedAlike x s.run.notes run.notes) (sym f)
          (record { tree = part q.0; left = s.keeps Fa (part q.0) (peer_fa id run runs d made under q.0 noted); right = noted })
        where
          drawn_case : (v : Under) → is_drawn_under v ≡ true → v ≡ Drawn
          drawn_case Drawn g = refl
          drawn_case (Pair x y) g = absurd (cc)

      alike : (u : Slot) → (list_any (same_slot u) d.slots ≡ true) ⊎ ((is_drawn_under d.under && same_slot u Fa) ≡ true) → NotedAlike u s.run.notes run.notes
      alike u (inl e) = let f = some_among (same_slot u) d.slots e in in_item u (subst (λ (x : Slot). Among x d.slots) (sym (same_slot_is u f.0 f.2)) f.1)
      alike u (inr e) = in_key u (and_left _ _ e) (same_slot_is u Fa (and_right _ _ e))

  one_item_test : (m : Mech) (r : Role) (slots : List Slot) → agreed_of m r ≡ Some slots → is_one_item m r ≡ true → in_one_row (peer_of r) r slots (row_of m) ≡ true
  one_item_test m r slots e one = implied _ _ (subst (λ (o : Option (List Slot)). agreed_test m r o ≡ true) e (by_role r)) one
    where
      by_role : (x : Role) → agreed_test m x (agreed_of m x) ≡ true
      by_role A = and_left _ _ (claims_stand_in_one_item_holds m)
      by_role B = and_left _ _ (and_right _ _ (claims_stand_in_one_item_holds m))
      by_role P = and_right _ _ (and_right _ _ (claims_stand_in_one_item_holds m))

  row_agrees : (x : Role) (id : RunId) (run : Run) (slots : List Slot) → current h id ≡ Some run → IsDone run → IsGoodHead c run.head → (has_third run.head.mech ≡ true → FaKept h run) → in_one_row x run.head.role slots (row_of run.head.mech) ≡ true → HasPartner h x slots run
  row_agrees x id run slots runs done good kept test =
      let p = some_among (λ (p : Pass). same_role p.to run.head.role && list_any (in_one_item x run.head.role slots) p.covers) (row_of run.head.mech) test in
      let d = some_among (in_one_item x run.head.role slots) p.0.covers (and_right _ _ p.2) in
      item_agrees x id run slots runs done good kept p.0 p.1 (same_role_is p.0.to run.head.role (and_left _ _ p.2)) d.0 d.1 d.2

  -- the partner, for each claim that rests on one item: all of B, and of A in E3 and C3
  pub partner_by_one_item : (id : RunId) (run : Run) (slots : List Slot) → ClaimsAt c h id run slots → is_one_item run.head.mech run.head.role ≡ true → HasPartner h (peer_of run.head.role) slots run
  partner_by_one_item id run slots cl one = row_agrees (peer_of run.head.role) id run slots cl.runs cl.done cl.good cl.kept (one_item_test run.head.mech run.head.role slots cl.claimed one)

  -- the server
  pub server : (id : RunId) (run : Run) (slots : List Slot) → ClaimsAt c h id run slots → has_third run.head.mech ≡ true → HasPartner h P (Fa ∷ []) run
  server id run slots cl third = row_agrees P id run (Fa ∷ []) cl.runs cl.done cl.good cl.kept (by_role run.head.role cl.claimed)
    where
      both : (in_one_row P A (Fa ∷ []) (row_of run.head.mech) && in_one_row P B (Fa ∷ []) (row_of run.head.mech)) ≡ true
      both = implied _ _ (servers_show_fa_holds run.head.mech) third

      no_claim : (m : Mech) → agreed_of m P ≡ Some slots → ⊥
      no_claim E1 e = cc
      no_claim _ e = cc

      by_role : (r : Role) → agreed_of run.head.mech r ≡ Some slots → in_one_row P r (Fa ∷ []) (row_of run.head.mech) ≡ true
      by_role A e = and_left _ _ both
      by_role B e = and_right _ _ both
      by_role P e = absurd (no_claim run.head.mech e)
