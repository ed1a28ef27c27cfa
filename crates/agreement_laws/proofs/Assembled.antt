-- After the replacement, what several nodes did over a working sealing is a world.
use Rattle.std.proofs.Common.{◌≡◌, ℕ, zero, suc, ◌+◌, ◌<◌, ◌≤◌, ◌==◌, ◌⊎◌, List, [], ◌∷◌, ◌++◌, map, Bool, true, false, ◌&&◌, if◌then◌else◌, option_map, refl, sym, ap, ap₂, subst, subst₂, ◌∙◌, inl, inr, Option, Some, None, eqb-true}
use Rattle.term_values.specs.Trees.{blob, tag, trees, Trees, item, tuple, Among, Bytes, Tree, text}
use Rattle.term_values.specs.declared.small.Stamp.{Stamp}
use Rattle.term_values.specs.declared.small.Key.{Key}
use Rattle.mech_rows.specs.declared.kinds.Kind.TheVariants.{Item as an_item, Nonce as a_nonce, Part as a_part, Stamp as a_stamp, Text as a_text}
use Rattle.mech_rows.specs.declared.kinds.Slot.{Slot}
use Rattle.mech_rows.specs.Rows.{kind_of, row_of, Cover, Pass}
use Rattle.mech_rows.specs.declared.kinds.Role.TheVariants.{P, A, B}
use Rattle.mech_rows.specs.declared.kinds.Slot.TheVariants.{Fwd, Ra}
use Rattle.mech_rows.specs.declared.kinds.Kind.{Kind}
use Rattle.mech_rows.specs.declared.kinds.Mech.{Mech}
use Rattle.mech_rows.specs.Facts.{is_fwd}
use Rattle.mech_rows.specs.Runs.{names, made, seen, nth, body, value, Step, Extends, Got, HasKind, Keys, Notes, Opening, key_under, noted_or_empty, reply_pass, seen_slots, sent_slots}
use Rattle.mech_rows.specs.Heads.{Head, name_of}
use Rattle.mech_rows.specs.Steps.{openings, symbolic, IsStep, ItemBy, ItemsAre, Replies, Sealer, Takes, symbolic_item}
use Rattle.agreement_laws.specs.Configs.{Config, names_in, IsLawful}
use Rattle.agreement_laws.specs.Worlds.{trace, Entry, At, Reveal, ring_of, log_of, node_of, HappensAt, IsWorld, NetworkAllows}
use Rattle.agreement_laws.specs.Replacement.{checks, replaced, replaced_notes, replaced_run, replaced_step, IsIdealFor, BecomesSymbolic, or_blob, ForwardsStill}
use Rattle.agreement_laws.specs.Assembled.{listed, replaced_event, replaced_entries, IsAssembled, AllowsReplaced, IsNetworkWorld, Listed, SealsIdeally, OpensBlobs, is_blob, items_in, items_of, look_up, AreRings, node_with}
use Rattle.replay_store.specs.Stamps.{Accepted, next_stamp, stamp_verdict}
use Rattle.term_values.specs.declared.small.StampKind.{StampKind}
use Rattle.agreement_laws.specs.Nodes.{Event, Open, Issue, Commit, Drop, Restart, Log, Standing, Runs, Node, new_node, opens_in, if_open, open_among, MayOpen, WasIssued, WasUsed, put, ended, is_going, accepted_of, changed, node_after, now_of, IsLegal, knows, Needs, NeedsCommit}
use Rattle.mech_rows.specs.Openings.{Texts, text_for, is_text, sends_slot, opening_notes, opened_run}
use Rattle.mech_rows.specs.Rings.{keys_in, Ring}
use Rattle.mech_rows.proofs.RowUse.{nth_among, among_covers, no_fwd_inside}
use Rattle.mech_rows.proofs.Items.{one_body}
use Rattle.term_values.proofs.SameBytes.{same_start, same_bytes_refl}
use Rattle.term_values.proofs.Lists.{among_append, among_left, among_right, among_map, map_among, and_left}
use Rattle.agreement_laws.proofs.Replaced.{of_body, of_value, of_step}
use Rattle.agreement_laws.proofs.Keyed.{RingLike, ring_like, IsKeyed, runs_are_keyed, step_more}
use Rattle.agreement_laws.proofs.Nodes.{rings_stay}

module _ (f : Bytes → Option Tree) where
  abbrev replaced_standing : Option Standing → Option Standing
  replaced_standing None = None
  replaced_standing (Some s) = Some (record { run = replaced_run f s.run; is_open = s.is_open })

  -- a node, and the same with replaced runs and steps
  pub record NodeLike (node new : Node) : Type 0 where
    pub last : new.last ≡ node.last
    pub now : new.now ≡ node.now
    pub accepted : new.accepted ≡ node.accepted
    pub runs : (m : ℕ) → new.runs m ≡ replaced_standing (node.runs m)
    pub log : new.log ≡ map (replaced_event f) node.log

  opening_same : (h : Head) (ts : Texts) → replaced_notes f (opening_notes h ts) ≡ opening_notes h ts
  opening_same h ts = λ i s. at s (is_text (kind_of s) && sends_slot h.role s (row_of h.mech)) i
    where
      at : (s : Slot) (b : Bool) → option_map (replaced f) (if b then Some (text (text_for ts s)) else None) ≡ (if b then Some (text (text_for ts s)) else None)
      at s true = refl
      at s false = refl

  put_like : (k m : ℕ) (s t : Standing) (old new : Runs) → Some t ≡ replaced_standing (Some s) → ((m : ℕ) → new m ≡ replaced_standing (old m)) → put k t new m ≡ replaced_standing (put k s old m)
  put_like k m s t old new e all = go (k == m)
    where
      go : (b : Bool) → (if b then Some t else new m) ≡ replaced_standing (if b then Some s else old m)
      go true = e
      go false = all m

  ended_like : (o r : Option Standing) → r ≡ replaced_standing o → ended r ≡ replaced_standing (ended o)
  ended_like o r e = ap ended e ∙ go o
    where
      go : (x : Option Standing) → ended (replaced_standing x) ≡ replaced_standing (ended x)
      go None = refl
      go (Some s) = refl

  changed_like : (node new : Node) (e : Event) → NodeLike node new → NodeLike (changed node e) (changed new (replaced_event f e))
  changed_like node new (Open run head texts) like =
      record {
        last = like.last;
        now = like.now;
        accepted = like.accepted;
        runs = λ m. put_like run m (record { run = opened_run head texts; is_open = true }) (record { run = opened_run head texts; is_open = true }) node.runs new.runs (λ i. Some (record { run = record { head = head; next = (opened_run head texts).next; notes = sym (opening_same head texts) i }; is_open = true })) like.runs;
        log = ap (λ (l : Log). Open run head texts ∷ l) like.log;
      }
  changed_like node new (Issue now x) like = record { last = refl; now = refl; accepted = like.accepted; runs = like.runs; log = ap (λ (l : Log). Issue now x ∷ l) like.log }
  changed_like node new (Commit run now step) like =
      record {
        last = like.last;
        now = refl;
        accepted = ap (λ (a : List Accepted). map accepted_of step.got ++ a) like.accepted;
        runs = λ m. put_like run m (record { run = step.after; is_open = is_going step.outcome }) (record { run = replaced_run f step.after; is_open = is_going step.outcome }) node.runs new.runs refl like.runs;
        log = ap (λ (l : Log). Commit run now (replaced_step f step) ∷ l) like.log;
      }
  changed_like node new (Drop run) like = record { last = like.last; now = like.now; accepted = like.accepted; runs = λ m. go m (run == m); log = ap (λ (l : Log). Drop run ∷ l) like.log }
    where
      go : (m : ℕ) (b : Bool) → (if b then ended (new.runs m) else new.runs m) ≡ replaced_standing (if b then ended (node.runs m) else node.runs m)
      go m true = ended_like (node.runs m) (new.runs m) (like.runs m)
      go m false = like.runs m
  changed_like node new (Restart now last more) like = record { last = refl; now = refl; accepted = ap (λ (a : List Accepted). map accepted_of more ++ a) like.accepted; runs = λ m. ended_like (node.runs m) (new.runs m) (like.runs m); log = ap (λ (l : Log). Restart now last more ∷ l) like.log }

  after_like : (ring other : Ring) (last : ℕ) (log : Log) → NodeLike (node_after (new_node ring last) log) (node_after (new_node other last) (map (replaced_event f) log))
  after_like ring other last [] = record { last = refl; now = refl; accepted = refl; runs = λ m. refl; log = refl }
  after_like ring other last (e ∷ log) = changed_like (node_after (new_node ring last) log) (node_after (new_node other last) (map (replaced_event f) log)) e (after_like ring other last log)

  log_like : (n : ℕ) (h : List Entry) → log_of n (replaced_entries f h) ≡ map (replaced_event f) (log_of n h)
  log_like n [] = refl
  log_like n (Reveal id ∷ h) = log_like n h
  log_like n (At m e ∷ h) = go (m == n) (log_like n h)
    where
      go : (b : Bool) → log_of n (replaced_entries f h) ≡ map (replaced_event f) (log_of n h) → (if b then replaced_event f e ∷ log_of n (replaced_entries f h) else log_of n (replaced_entries f h)) ≡ map (replaced_event f) (if b then e ∷ log_of n h else log_of n h)
      go true r = ap (λ (l : Log). replaced_event f e ∷ l) r
      go false r = r

  pub node_like : (c : Config) (rings : ℕ → Ring) (n : ℕ) (h : List Entry) → NodeLike (node_with rings n h) (node_of c n (replaced_entries f h))
  node_like c rings n h = subst (λ (l : Log). NodeLike (node_with rings n h) (node_after (new_node (ring_of c n) 0) l)) (sym (log_like n h)) (after_like (rings n) (ring_of c n) 0 (log_of n h))

  opens_like : (log : Log) → opens_in (map (replaced_event f) log) ≡ opens_in log
  opens_like [] = refl
  opens_like (Open run head texts ∷ log) = ap suc (opens_like log)
  opens_like (Issue now x ∷ log) = opens_like log
  opens_like (Commit run now step ∷ log) = opens_like log
  opens_like (Drop run ∷ log) = opens_like log
  opens_like (Restart now last more ∷ log) = opens_like log

  open_like : (old new : Runs) → ((m : ℕ) → new m ≡ replaced_standing (old m)) → (n : ℕ) → open_among new n ≡ open_among old n
  open_like old new all zero = refl
  open_like old new all (suc n) = ap₂ (λ (x y : ℕ). x + y) (ap if_open (all (suc n)) ∙ go (old (suc n))) (open_like old new all n)
    where
      go : (o : Option Standing) → if_open (replaced_standing o) ≡ if_open o
      go None = refl
      go (Some s) = refl

  issued_like : (x : Stamp) (log : Log) → WasIssued x log → WasIssued x (map (replaced_event f) log)
  issued_like x log w = (w.0, map_among (replaced_event f) log (Issue w.0 x) w.1)

  used_event : (log : Log) (x : Stamp) (r n : ℕ) (s : Step) → s.issued ≡ Some x → (e : Event) → Among e log → Commit r n s ≡ replaced_event f e → WasUsed x log
  used_event log x r n s i (Commit run now step) j e = record { run = run; now = now; step = step; there = j; issued = ap (λ (z : Step). z.issued) (steps_are (replaced_step f step) e) ∙ i }
    where
      steps_are : (z : Step) → Commit r n s ≡ Commit run now z → z ≡ s
      steps_are z g = cc
  used_event log x r n s i (Open run head texts) j e = absurd (cc)
  used_event log x r n s i (Issue now y) j e = absurd (cc)
  used_event log x r n s i (Drop run) j e = absurd (cc)
  used_event log x r n s i (Restart now last more) j e = absurd (cc)

  used_like : (x : Stamp) (log : Log) → WasUsed x (map (replaced_event f) log) → WasUsed x log
  used_like x log u = let e = among_map (replaced_event f) log (Commit u.run u.now u.step) u.there in used_event log x u.run u.now u.step u.issued e.0 e.1 e.2

  now_like : (e : Event) → now_of (replaced_event f e) ≡ now_of e
  now_like (Open run head texts) = refl
  now_like (Issue now x) = refl
  now_like (Commit run now step) = refl
  now_like (Drop run) = refl
  now_like (Restart now last more) = refl

  -- what each event needs, after the replacement
  may_open_like : (node new : Node) (h : Head) → RingLike node.ring new.ring → NodeLike node new → MayOpen node h → MayOpen new h
  may_open_like node new h rings like may =
      record {
        known = λ r g. rings.known (name_of h r) (may.known r g);
        parties = (rings.serving h.a (may.known A (λ e. absurd (a_is_no_p e))) ∙ may.parties.0, rings.serving h.b (may.known B (λ e. absurd (b_is_no_p e))) ∙ may.parties.1);
        server = λ e. rings.serving (name_of h P) (may.known P (λ g. e)) ∙ may.server e;
        peers = may.peers;
        keyed = λ x y i u. let q = may.keyed x y i u in (q.0, rings.keys (name_of h x) (name_of h y) q.0 q.1);
        few_open = subst (λ (n : ℕ). n < 1024) open_count may.few_open;
        few_opened = subst (λ (n : ℕ). n < 4_294_967_295) count may.few_opened;
      }
    where
      a_is_no_p : A ≡ P → ⊥
      a_is_no_p e = cc

      b_is_no_p : B ≡ P → ⊥
      b_is_no_p e = cc

      count : opens_in node.log ≡ opens_in new.log
      count = sym (ap opens_in like.log ∙ opens_like node.log)

      open_count : open_among node.runs (opens_in node.log) ≡ open_among new.runs (opens_in new.log)
      open_count = ap (open_among node.runs) count ∙ sym (open_like node.runs new.runs like.runs (opens_in new.log))

  same_verdict : (node new : Node) → RingLike node.ring new.ring → NodeLike node new → (now : ℕ) (g : Got) → stamp_verdict new.ring.window now new.accepted new.ring.kind g.sender g.tagged g.stamp ≡ stamp_verdict node.ring.window now node.accepted node.ring.kind g.sender g.tagged g.stamp
  same_verdict node new rings like now g = λ i. stamp_verdict (rings.window i) now (like.accepted i) (rings.kind i) g.sender g.tagged g.stamp

  pub needs_like : (opens : Sealer) (node new : Node) (e : Event) → RingLike node.ring new.ring → NodeLike node new → ((run now : ℕ) (step : Step) → e ≡ Commit run now step → IsIdealFor f step × IsKeyed node.ring step.before.head) → Needs opens node e → Needs symbolic new (replaced_event f e)
  needs_like opens node new (Open run head texts) rings like ideal needs =
      record { number = needs.number ∙ ap suc (sym (ap opens_in like.log ∙ opens_like node.log)); is_head = needs.is_head; own = needs.own ∙ sym rings.me; may = may_open_like node new head rings like needs.may }
  needs_like opens node new (Issue now x) rings like ideal needs =
      record {
        later = subst (λ (n : ℕ). n ≤ now) (sym like.now) needs.later;
        is_next = ap₂ (λ (k : StampKind) (n : ℕ). next_stamp k n now) rings.kind like.last ∙ needs.is_next;
      }
  needs_like opens node new (Commit run now step) rings like ideal needs =
      let i = ideal run now step refl in
      record {
        later = subst (λ (n : ℕ). n ≤ now) (sym like.now) needs.later;
        is_open = like.runs run ∙ ap replaced_standing needs.is_open;
        is_step = of_step opens f (keys_in new.ring) step i.0 (step_more opens node.ring new.ring rings step i.1 needs.is_step);
        fit = λ g j. same_verdict node new rings like now g ∙ needs.fit g j;
        issued = λ x e. let u = needs.issued x e in (subst (WasIssued x) (sym like.log) (issued_like x node.log u.0), λ v. u.1 (used_like x node.log (subst (WasUsed x) like.log v)));
      }
  needs_like opens node new (Drop run) rings like ideal needs = record { last = replaced_run f needs.last; is_open = like.runs run ∙ ap replaced_standing needs.is_open }
  needs_like opens node new (Restart now last more) rings like ideal needs =
      record {
        later = λ e n i g. let d = among_map (replaced_event f) node.log e (subst (Among e) like.log i) in needs.later d.0 n d.1 (sym (now_like d.0) ∙ (ap now_of (sym d.2) ∙ g));
        no_less = subst (λ (n : ℕ). n ≤ last) (sym like.last) needs.no_less;
      }

-- notes have values of their slots' kinds
abbrev pub KindsOk : Notes → Type 0
KindsOk notes = (s : Slot) (t : Tree) → notes s ≡ Some t → HasKind (kind_of s) t

more_kinds : (old new : Notes) (ss : List Slot) → Extends old ss new → KindsOk old → KindsOk new
more_kinds old new ss ext ok s t e = go (ext.only s t e)
  where
    go : (old s ≡ Some t) ⊎ Among s ss → HasKind (kind_of s) t
    go (inl f) = ok s t f
    go (inr i) = ext.kinds s t i e

middle_kinds : (opens : Sealer) (keys : Keys) (step : Step) → IsStep opens keys step → KindsOk step.before.notes → KindsOk step.middle
middle_kinds opens keys step is ok = go step.taken is.takes
  where
    go : (o : Option Tree) → Takes opens keys step.before o step.middle step.opened step.got → KindsOk step.middle
    go None r = subst KindsOk (sym r.0) ok
    go (Some t) fits = more_kinds step.before.notes step.middle (seen_slots fits.pass) fits.extends ok

after_kinds : (opens : Sealer) (keys : Keys) (step : Step) → IsStep opens keys step → KindsOk step.before.notes → KindsOk step.after.notes
after_kinds opens keys step is ok = go step.reply is.replies
  where
    go : (o : Option Tree) → Replies opens keys step.before.head (reply_pass step) step.middle step.after.notes o step.sealed → KindsOk step.after.notes
    go None r = subst KindsOk (sym r.0) (middle_kinds opens keys step is ok)
    go (Some t) sends = more_kinds step.middle step.after.notes (sent_slots sends.pass) sends.extends (middle_kinds opens keys step is ok)

opening_kinds : (h : Head) (ts : Texts) → KindsOk (opening_notes h ts)
opening_kinds h ts s t e = go (is_text (kind_of s) && sends_slot h.role s (row_of h.mech)) refl e
  where
    text_kind : (k : Kind) → is_text k ≡ true → k ≡ a_text
    text_kind a_text e = refl
    text_kind _ e = absurd (cc)

    go : (b : Bool) → (is_text (kind_of s) && sends_slot h.role s (row_of h.mech)) ≡ b → (if b then Some (text (text_for ts s)) else None) ≡ Some t → HasKind (kind_of s) t
    go true f g = subst (λ (k : Kind). HasKind k t) (sym (text_kind (kind_of s) (and_left (is_text (kind_of s)) (sends_slot h.role s (row_of h.mech)) f))) (text_for ts s, some_inj t (text (text_for ts s)) g)
      where
        some_inj : (x y : Tree) → Some y ≡ Some x → x ≡ y
        some_inj x y e = cc
    go false f g = absurd (cc)

abbrev AllKinds : Runs → Type 0
AllKinds runs = (m : ℕ) (s : Standing) → runs m ≡ Some s → KindsOk s.run.notes

put_kinds : (k : ℕ) (s : Standing) (runs : Runs) → KindsOk s.run.notes → AllKinds runs → AllKinds (put k s runs)
put_kinds k s runs ok all m t e = go (k == m) e
  where
    go : (b : Bool) → (if b then Some s else runs m) ≡ Some t → KindsOk t.run.notes
    go true f = let same : s ≡ t = cc in subst (λ (x : Standing). KindsOk x.run.notes) same ok
    go false f = all m t f

ended_kinds : (o : Option Standing) → ((s : Standing) → o ≡ Some s → KindsOk s.run.notes) → (t : Standing) → ended o ≡ Some t → KindsOk t.run.notes
ended_kinds None all t e = absurd (cc)
ended_kinds (Some s) all t e = let same : record s { is_open = false } ≡ t = cc in subst (λ (x : Standing). KindsOk x.run.notes) same (all s refl)

runs_have_kinds : (opens : Sealer) (first : Node) → AllKinds first.runs → (log : Log) → IsLegal opens first log → AllKinds (node_after first log).runs
runs_have_kinds opens first start [] legal = start
runs_have_kinds opens first start (Open run head texts ∷ log) legal = put_kinds run (record { run = opened_run head texts; is_open = true }) (node_after first log).runs (opening_kinds head texts) (runs_have_kinds opens first start log legal.0)
runs_have_kinds opens first start (Issue now x ∷ log) legal = runs_have_kinds opens first start log legal.0
runs_have_kinds opens first start (Commit run now step ∷ log) legal =
    put_kinds run (record { run = step.after; is_open = is_going step.outcome }) (node_after first log).runs
    (after_kinds opens (keys_in (node_after first log).ring) step legal.1.0.is_step (runs_have_kinds opens first start log legal.0 run (record { run = step.before; is_open = true }) legal.1.0.is_open))
    (runs_have_kinds opens first start log legal.0)
runs_have_kinds opens first start (Drop run ∷ log) legal = λ m t e. go (run == m) m t (runs_have_kinds opens first start log legal.0) e
  where
    go : (b : Bool) (m : ℕ) (t : Standing) → AllKinds (node_after first log).runs → (if b then ended ((node_after first log).runs m) else (node_after first log).runs m) ≡ Some t → KindsOk t.run.notes
    go true m t all e = ended_kinds ((node_after first log).runs m) (λ s f. all m s f) t e
    go false m t all e = all m t e
runs_have_kinds opens first start (Restart now last more ∷ log) legal = λ m t e. ended_kinds ((node_after first log).runs m) (λ s f. runs_have_kinds opens first start log legal.0 m s f) t e

assembled_legal : (opens : Sealer) (c : Config) (rings : ℕ → Ring) (h : List Entry) → IsAssembled opens c rings h → (n : ℕ) → IsLegal opens (new_node (rings n) 0) (log_of n h)
assembled_legal opens c rings [] w n = tt
assembled_legal opens c rings (Reveal id ∷ h) w n = absurd w
assembled_legal opens c rings (At k e ∷ h) w n = go (k == n) refl (assembled_legal opens c rings h w.0 n)
  where
    go : (b : Bool) → (k == n) ≡ b → IsLegal opens (new_node (rings n) 0) (log_of n h) → IsLegal opens (new_node (rings n) 0) (if b then e ∷ log_of n h else log_of n h)
    go true f legal = (legal, (subst (λ (x : ℕ). Needs opens (node_with rings x h) e) (eqb-true k n f) w.2, refl))
    go false f legal = legal

-- bodies hold no blob, so they stay
value_stays : (f : Bytes → Option Tree) (notes : Notes) → KindsOk notes → (s : Slot) → is_fwd s ≡ false → replaced f (value notes s) ≡ value notes s
value_stays f notes ok s plain = go (notes s) refl
  where
    by_kind : (k : Kind) (t : Tree) → k ≡ kind_of s → HasKind k t → replaced f t ≡ t
    by_kind a_nonce t e h = ap (replaced f) h.1 ∙ sym h.1
    by_kind a_stamp t e h = ap (replaced f) h.1 ∙ sym h.1
    by_kind a_part t e h = ap (replaced f) h.1 ∙ sym h.1
    by_kind a_text t e h = ap (replaced f) h.1 ∙ sym h.1
    by_kind an_item t e h = absurd (is_no_item s plain e)
      where
        is_no_item : (u : Slot) → is_fwd u ≡ false → an_item ≡ kind_of u → ⊥
        is_no_item Fwd g e = cc
        is_no_item Ra g e = cc
        is_no_item _ g e = cc

    go : (o : Option Tree) → notes s ≡ o → replaced f (noted_or_empty o) ≡ noted_or_empty o
    go None e = refl
    go (Some t) e = by_kind (kind_of s) t refl (ok s t e)

body_stays : (f : Bytes → Option Tree) (h : Head) (notes : Notes) (c : Cover) → KindsOk notes → ((s : Slot) → Among s c.slots → is_fwd s ≡ false) → replaced f (body h notes c) ≡ body h notes c
body_stays f h notes c ok plain =
    of_body f h notes c ∙ ap (λ (vs : List Tree). tuple (trees (tag c.tagged ∷ (names h ++ vs)))) (values c.slots plain)
  where
    values : (ss : List Slot) → ((s : Slot) → Among s ss → is_fwd s ≡ false) → map (value (replaced_notes f notes)) ss ≡ map (value notes) ss
    values [] p = refl
    values (s ∷ ss) p = ap₂ (λ (x : Tree) (xs : List Tree). x ∷ xs) (sym (of_value f notes s) ∙ value_stays f notes ok s (p s (inl refl))) (values ss (λ u i. p u (inr i)))

-- where an item of a step's lists comes from
pub record ItemOrigin (opens : Sealer) (m : Mech) (o : Opening) : Type 0 where
  pub head : Head
  pub mech : head.mech ≡ m
  pub notes : Notes
  pub kinds : KindsOk notes
  pub place : ℕ
  pub pass : Pass
  pub at : nth (row_of m) place ≡ Some pass
  pub cover : Cover
  pub there : Among cover pass.covers
  pub body_is : o.body ≡ body head notes cover
  pub opens_to : opens cover.is_check o.key o.item o.body

opening_origin : (opens : Sealer) (keys : Keys) (h : Head) (notes : Notes) → KindsOk notes → (knows : Cover → Bool) (k : ℕ) (p : Pass) → nth (row_of h.mech) k ≡ Some p → (cs : List Cover) → ((c : Cover) → Among c cs → Among c p.covers) → (us : List Tree) → ItemsAre opens keys h notes knows cs us → (o : Opening) → Among o (openings keys h notes knows cs us) → ItemOrigin opens h.mech o
opening_origin opens keys h notes ok knows k p at [] sub us e o i = elim i [ ]
opening_origin opens keys h notes ok knows k p at (c ∷ cs) sub [] e o i = elim e [ ]
opening_origin opens keys h notes ok knows k p at (c ∷ cs) sub (u ∷ us) e o i = go (knows c) e.0 i (opening_origin opens keys h notes ok knows k p at cs (λ d j. sub d (inr j)) us e.1 o)
  where
    here : opens c.is_check (key_under keys h notes c.under) u (body h notes c) → o ≡ record { key = key_under keys h notes c.under; item = u; body = body h notes c } → ItemOrigin opens h.mech o
    here is f = subst (ItemOrigin opens h.mech) (sym f) (record { head = h; mech = refl; notes = notes; kinds = ok; place = k; pass = p; at = at; cover = c; there = sub c (inl refl); body_is = refl; opens_to = is })

    go : (b : Bool) → ItemBy b opens keys h notes c u → Among o (if b then record { key = key_under keys h notes c.under; item = u; body = body h notes c } ∷ openings keys h notes knows cs us else openings keys h notes knows cs us) → (Among o (openings keys h notes knows cs us) → ItemOrigin opens h.mech o) → ItemOrigin opens h.mech o
    go true is (inl f) rest = here is f
    go true is (inr j) rest = rest j
    go false is j rest = rest j

step_origin : (opens : Sealer) (keys : Keys) (step : Step) → KindsOk step.before.notes → IsStep opens keys step → (o : Opening) → Among o step.opened ⊎ Among o step.sealed → ItemOrigin opens step.before.head.mech o
step_origin opens keys step ok is o (inl i) = go step.taken is.takes
  where
    go : (x : Option Tree) → Takes opens keys step.before x step.middle step.opened step.got → ItemOrigin opens step.before.head.mech o
    go None r = absurd (subst (Among o) r.1 i)
    go (Some t) fits = opening_origin opens keys step.before.head step.middle (middle_kinds opens keys step is ok) seen step.before.next fits.pass fits.at fits.pass.covers (λ c j. j) fits.shows.items fits.shows.each o (subst (Among o) fits.opens_are i)
step_origin opens keys step ok is o (inr i) = go step.reply is.replies
  where
    go : (x : Option Tree) → Replies opens keys step.before.head (reply_pass step) step.middle step.after.notes x step.sealed → ItemOrigin opens step.before.head.mech o
    go None r = absurd (subst (Among o) r.1 i)
    go (Some t) sends = opening_origin opens keys step.before.head step.after.notes (after_kinds opens keys step is ok) made (reply_pass step) sends.pass sends.at sends.pass.covers (λ c j. j) sends.shows.items sends.shows.each o (subst (Among o) sends.seals_are i)

-- the origin of each listed item
pub record ListedOrigin (opens : Sealer) (s : Listed) : Type 0 where
  pub mech : Mech
  pub flag : s.is_check ≡ checks mech
  pub origin : ItemOrigin opens mech s.opening

own_kinds : (opens : Sealer) (c : Config) (rings : ℕ → Ring) (h : List Entry) → IsAssembled opens c rings h → (n : ℕ) → AllKinds (node_with rings n h).runs
own_kinds opens c rings h w n = runs_have_kinds opens (new_node (rings n) 0) (λ m s e. absurd (cc)) (log_of n h) (assembled_legal opens c rings h w n)

commit_origin : (opens : Sealer) (c : Config) (rings : ℕ → Ring) (h : List Entry) → IsAssembled opens c rings h → (n run now : ℕ) (step : Step) → NeedsCommit opens (node_with rings n h) run now step → (o : Opening) → Among o step.opened ⊎ Among o step.sealed → ItemOrigin opens step.before.head.mech o
commit_origin opens c rings h w n run now step needs o i = step_origin opens (keys_in (node_with rings n h).ring) step (own_kinds opens c rings h w n run (record { run = step.before; is_open = true }) needs.is_open) needs.is_step o i

listed_origin : (opens : Sealer) (c : Config) (rings : ℕ → Ring) (h : List Entry) → IsAssembled opens c rings h → (n run now : ℕ) (step : Step) → NeedsCommit opens (node_with rings n h) run now step → (s : Listed) → Among s (items_of step) → ListedOrigin opens s
listed_origin opens c rings h w n run now step needs s i = go (among_map (listed step) (step.sealed ++ step.opened) s i)
  where
    side : (o : Opening) → Among o step.sealed ⊎ Among o step.opened → ItemOrigin opens step.before.head.mech o
    side o (inl j) = commit_origin opens c rings h w n run now step needs o (inr j)
    side o (inr j) = commit_origin opens c rings h w n run now step needs o (inl j)

    go : (o : Opening) × Among o (step.sealed ++ step.opened) × (s ≡ listed step o) → ListedOrigin opens s
    go (o, j, e) = subst (ListedOrigin opens) (sym e) (record { mech = step.before.head.mech; flag = refl; origin = side o (among_append step.sealed step.opened o j) })

all_origins : (opens : Sealer) (c : Config) (rings : ℕ → Ring) (h : List Entry) → IsAssembled opens c rings h → (s : Listed) → Among s (items_in h) → ListedOrigin opens s
all_origins opens c rings [] w s i = elim i [ ]
all_origins opens c rings (Reveal id ∷ h) w s i = absurd w
all_origins opens c rings (At n (Open run head texts) ∷ h) w s i = all_origins opens c rings h w.0 s i
all_origins opens c rings (At n (Issue now x) ∷ h) w s i = all_origins opens c rings h w.0 s i
all_origins opens c rings (At n (Commit run now step) ∷ h) w s i = go (among_append (items_of step) (items_in h) s i) (all_origins opens c rings h w.0 s)
  where
    go : Among s (items_of step) ⊎ Among s (items_in h) → (Among s (items_in h) → ListedOrigin opens s) → ListedOrigin opens s
    go (inl j) rest = listed_origin opens c rings h w.0 n run now step w.2 s j
    go (inr j) rest = rest j
all_origins opens c rings (At n (Drop run) ∷ h) w s i = all_origins opens c rings h w.0 s i
all_origins opens c rings (At n (Restart now last more) ∷ h) w s i = all_origins opens c rings h w.0 s i

-- items with one body are of one mechanism
tag_inj : (x y : Bytes) (us vs : Trees) → tuple (item (tag x) us) ≡ tuple (item (tag y) vs) → x ≡ y
tag_inj x y us vs e = cc

one_mech : (opens : Sealer) (m k : Mech) (o p : Opening) → ItemOrigin opens m o → ItemOrigin opens k p → o.body ≡ p.body → m ≡ k
one_mech opens m k o p a b e =
    (one_body m k a.cover b.cover (among_covers (row_of m) a.pass a.cover (nth_among (row_of m) a.place a.pass a.at) a.there) (among_covers (row_of k) b.pass b.cover (nth_among (row_of k) b.place b.pass b.at) b.there)
    (tag_inj a.cover.tagged b.cover.tagged (trees (names a.head ++ map (value a.notes) a.cover.slots)) (trees (names b.head ++ map (value b.notes) b.cover.slots)) (sym a.body_is ∙ (e ∙ b.body_is)))).mech

-- what the look-up gives
is_blob_is : (t : Tree) (x : Bytes) → is_blob t x ≡ true → t ≡ blob x
is_blob_is (blob y) x e = ap blob (same_start y x e)
is_blob_is (tuple ts) x e = absurd (cc)
is_blob_is _ x e = absurd (cc)

look_up_is : (ss : List Listed) (s : Listed) (x : Bytes) (t : Tree) → Among s ss → s.opening.item ≡ blob x → ((u : Listed) → Among u ss → u.opening.item ≡ blob x → symbolic_item u.is_check u.opening.key u.opening.body ≡ t) → look_up ss x ≡ Some t
look_up_is [] s x t i e all = elim i [ ]
look_up_is (u ∷ ss) s x t i e all = go (is_blob u.opening.item x) refl i (λ j. look_up_is ss s x t j e (λ v k. all v (inr k)))
  where
    go : (b : Bool) → is_blob u.opening.item x ≡ b → (s ≡ u) ⊎ Among s ss → (Among s ss → look_up ss x ≡ Some t) → (if b then Some (symbolic_item u.is_check u.opening.key u.opening.body) else look_up ss x) ≡ Some t
    go true f j rest = ap Some (all u (inl refl) (is_blob_is u.opening.item x f))
    go false f (inr j) rest = rest j
    go false f (inl g) rest =
        let here : is_blob u.opening.item x ≡ true = ap (λ (y : Tree). is_blob y x) (sym (ap (λ (v : Listed). v.opening.item) g) ∙ e) ∙ same_bytes_refl x in
        absurd (cc)

look_up_alone : (ss : List Listed) (x : Bytes) (t : Tree) → look_up ss x ≡ Some t → (b : Bool) × (k : Key) × (u : Tree) × (t ≡ symbolic_item b k u)
look_up_alone [] x t e = absurd (cc)
look_up_alone (s ∷ ss) x t e = go (is_blob s.opening.item x) e (look_up_alone ss x t)
  where
    some_inj : (x y : Tree) → Some y ≡ Some x → x ≡ y
    some_inj x y e = cc

    go : (d : Bool) → (if d then Some (symbolic_item s.is_check s.opening.key s.opening.body) else look_up ss x) ≡ Some t → (look_up ss x ≡ Some t → (b : Bool) × (k : Key) × (u : Tree) × (t ≡ symbolic_item b k u)) → (b : Bool) × (k : Key) × (u : Tree) × (t ≡ symbolic_item b k u)
    go true f rest = (s.is_check, s.opening.key, s.opening.body, some_inj t (symbolic_item s.is_check s.opening.key s.opening.body) f)
    go false f rest = rest f

module _ (opens : Sealer) (blobs : OpensBlobs opens) (c : Config) (lawful : IsLawful c) (rings : ℕ → Ring) (from : AreRings c rings) (all : List Entry) (whole : IsAssembled opens c rings all) (no_two : SealsIdeally (items_in all)) where
  becomes : (m : Mech) (o : Opening) → ItemOrigin opens m o → Among (record { is_check = checks m; opening = o }) (items_in all) → BecomesSymbolic (look_up (items_in all)) m o
  becomes m o origin i =
      let x = blobs origin.cover.is_check o.key o.item o.body origin.opens_to in
      let found : look_up (items_in all) x.0 ≡ Some (symbolic_item (checks m) o.key o.body) = look_up_is (items_in all) (record { is_check = checks m; opening = o }) x.0 (symbolic_item (checks m) o.key o.body) i x.1 (λ u j e. same u j (e ∙ sym x.1)) in
      let stays : replaced (look_up (items_in all)) o.body ≡ o.body =
      ap (replaced (look_up (items_in all))) origin.body_is ∙ (body_stays (look_up (items_in all)) origin.head origin.notes origin.cover origin.kinds (λ s j. no_fwd_inside m origin.place origin.pass origin.at origin.cover s origin.there j) ∙ sym origin.body_is) in
      ap (replaced (look_up (items_in all))) x.1 ∙ (ap (or_blob x.0) found ∙ ap (symbolic_item (checks m) o.key) (sym stays))
    where
      same : (u : Listed) → Among u (items_in all) → u.opening.item ≡ o.item → symbolic_item u.is_check u.opening.key u.opening.body ≡ symbolic_item (checks m) o.key o.body
      same u j e =
          let both = no_two u (record { is_check = checks m; opening = o }) j i e in
          let theirs = all_origins opens c rings all whole u j in
          let mechs_are : theirs.mech ≡ m = one_mech opens theirs.mech m u.opening o theirs.origin origin both.1 in
          ap (λ (b : Bool). symbolic_item b u.opening.key u.opening.body) (theirs.flag ∙ ap checks mechs_are)
          ∙ ap₂ (λ (k : Key) (t : Tree). symbolic_item (checks m) k t) both.0 both.1

  ideal_step : (h : List Entry) → IsAssembled opens c rings h → (n run now : ℕ) (step : Step) → NeedsCommit opens (node_with rings n h) run now step → ((s : Listed) → Among s (items_of step) → Among s (items_in all)) → ForwardsStill (look_up (items_in all)) step.after.notes → IsIdealFor (look_up (items_in all)) step
  ideal_step h w n run now step needs sub still =
      record {
        opened = λ o i. becomes step.before.head.mech o (commit_origin opens c rings h w n run now step needs o (inl i)) (sub (listed step o) (map_among (listed step) (step.sealed ++ step.opened) o (among_right step.sealed step.opened o i)));
        sealed = λ o i. becomes step.before.head.mech o (commit_origin opens c rings h w n run now step needs o (inr i)) (sub (listed step o) (map_among (listed step) (step.sealed ++ step.opened) o (among_left step.sealed step.opened o i)));
        forwards = still;
        items_alone = look_up_alone (items_in all);
      }

  happens : (h : List Entry) (n : ℕ) (e : Event) → Among n (names_in c) → IsAssembled opens c rings h → Needs opens (node_with rings n h) e → ((run now : ℕ) (step : Step) → e ≡ Commit run now step → IsIdealFor (look_up (items_in all)) step × IsKeyed (node_with rings n h).ring step.before.head) → AllowsReplaced (look_up (items_in all)) c h e → HappensAt c (replaced_entries (look_up (items_in all)) h) n (replaced_event (look_up (items_in all)) e)
  happens h n e there w needs ideal network =
      record {
        declared = there;
        needs = needs_like (look_up (items_in all)) opens (node_with rings n h) (node_of c n (replaced_entries (look_up (items_in all)) h)) e like (node_like (look_up (items_in all)) c rings n h) ideal needs;
        network = on_wires e network;
      }
    where
      like : RingLike (node_with rings n h).ring (node_of c n (replaced_entries (look_up (items_in all)) h)).ring
      like = subst₂ RingLike (sym (rings_stay (new_node (rings n) 0) (log_of n h))) (sym (rings_stay (new_node (ring_of c n) 0) (log_of n (replaced_entries (look_up (items_in all)) h)))) (ring_like c lawful n (rings n) (from n there))

      on_wires : (e : Event) → AllowsReplaced (look_up (items_in all)) c h e → NetworkAllows c (trace (replaced_entries (look_up (items_in all)) h)) (replaced_event (look_up (items_in all)) e)
      on_wires (Commit run now step) w = (w.0, w.1)
      on_wires (Open run head texts) w = tt
      on_wires (Issue now x) w = tt
      on_wires (Drop run) w = tt
      on_wires (Restart now last more) w = tt

  no_ideal : (ring : Ring) (e : Event) → ((run now : ℕ) (step : Step) → e ≡ Commit run now step → ⊥) → (run now : ℕ) (step : Step) → e ≡ Commit run now step → IsIdealFor (look_up (items_in all)) step × IsKeyed ring step.before.head
  no_ideal ring e g run now step is = absurd (g run now step is)

  part_is_world : (h : List Entry) → IsAssembled opens c rings h → IsNetworkWorld (look_up (items_in all)) c h → ((s : Listed) → Among s (items_in h) → Among s (items_in all)) → IsWorld c (replaced_entries (look_up (items_in all)) h)
  part_is_world [] w net sub = tt
  part_is_world (Reveal id ∷ h) w net sub = absurd w
  part_is_world (At n (Open run head texts) ∷ h) w net sub = (part_is_world h w.0 net.0 sub, happens h n (Open run head texts) w.1 w.0 w.2 (no_ideal (node_with rings n h).ring (Open run head texts) (λ r k s e. cc)) net.1)
  part_is_world (At n (Issue now x) ∷ h) w net sub = (part_is_world h w.0 net.0 sub, happens h n (Issue now x) w.1 w.0 w.2 (no_ideal (node_with rings n h).ring (Issue now x) (λ r k s e. cc)) net.1)
  part_is_world (At n (Drop run) ∷ h) w net sub = (part_is_world h w.0 net.0 sub, happens h n (Drop run) w.1 w.0 w.2 (no_ideal (node_with rings n h).ring (Drop run) (λ r k s e. cc)) net.1)
  part_is_world (At n (Restart now last more) ∷ h) w net sub = (part_is_world h w.0 net.0 sub, happens h n (Restart now last more) w.1 w.0 w.2 (no_ideal (node_with rings n h).ring (Restart now last more) (λ r k s e. cc)) net.1)
  part_is_world (At n (Commit run now step) ∷ h) w net sub =
      (part_is_world h w.0 net.0 (λ s i. sub s (among_right (items_of step) (items_in h) s i)), happens h n (Commit run now step) w.1 w.0 w.2 ideal net.1)
    where
      mine : IsIdealFor (look_up (items_in all)) step
      mine = ideal_step h w.0 n run now step w.2 (λ s i. sub s (among_left (items_of step) (items_in h) s i)) net.1.2

      step_is : (r k : ℕ) (s : Step) → Commit run now step ≡ Commit r k s → step ≡ s
      step_is r k s e = cc

      keyed : IsKeyed (node_with rings n h).ring step.before.head
      keyed = subst (λ (r : Ring). IsKeyed r step.before.head) (sym (rings_stay (new_node (rings n) 0) (log_of n h))) (runs_are_keyed opens (new_node (rings n) 0) (λ m s e. absurd (cc)) (log_of n h) (assembled_legal opens c rings h w.0 n) run (record { run = step.before; is_open = true }) w.2.is_open)

      ideal : (r k : ℕ) (s : Step) → Commit run now step ≡ Commit r k s → IsIdealFor (look_up (items_in all)) s × IsKeyed (node_with rings n h).ring s.before.head
      ideal r k s e = subst (λ (x : Step). IsIdealFor (look_up (items_in all)) x × IsKeyed (node_with rings n h).ring x.before.head) (step_is r k s e) (mine, keyed)

  pub assembled_is_world : IsNetworkWorld (look_up (items_in all)) c all → IsWorld c (replaced_entries (look_up (items_in all)) all)
  assembled_is_world net = part_is_world all whole net (λ s i. i)
