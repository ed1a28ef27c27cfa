-- A step that a party may enter leaves a genuine world: it is a step of its node, its message was derivable, and what it draws is new.
use Rattle.std.proofs.Common.{◌≡◌, ◌≢◌, ◌⊎◌, ◌==◌, ◌<◌, ◌≤◌, ◌+◌, ◌^◌, ℕ, suc, max, Bool, true, false, if◌then◌else◌, List, [], ◌∷◌, ◌++◌, Option, Some, None, refl, sym, ap, subst, ◌∙◌, inl, inr, arith, eqb-true}
use Rattle.term_values.specs.Trees.{Among, Bytes, Tree, nonce, part, Occurs}
use Rattle.term_values.specs.declared.small.Stamp.{Stamp}
use Rattle.term_values.proofs.Lists.{among_left, among_right, map_among}
use Rattle.replay_store.specs.Stamps.{stamp_verdict}
use Rattle.replay_store.specs.declared.verdict.Verdict.TheVariants as verdicts
use Rattle.attacker_model.specs.Derivation.{Derivable}
use Rattle.outside.specs.Told.{part_draw}
use Rattle.fresh_values.specs.Counts.{first_byte}
use Rattle.mech_rows.specs.declared.kinds.Slot.{Slot}
use Rattle.mech_rows.specs.Found.{found}
use Rattle.mech_rows.specs.Heads.{Head}
use Rattle.mech_rows.specs.Moves.{Move, step_of}
use Rattle.mech_rows.specs.Replies.{sends, new_slots}
use Rattle.mech_rows.specs.Rings.{Ring, keys_in, part_by}
use Rattle.mech_rows.specs.Rows.{kind_of, Pass}
use Rattle.mech_rows.specs.Runs.{Got, Keys, Notes, Opening, Run, Step, Draws, made, reply_pass, seen, seen_slots, sent_slots}
use Rattle.mech_rows.specs.Steps.{symbolic, Fits, IsStep, Replies, Sends, Takes}
use Rattle.mech_rows.specs.Verdict.{State, run_of}
use Rattle.mech_rows.proofs.Unique.{said}
use Rattle.text_hooks.specs.Drawn.{drawn_values}
use Rattle.agreement_laws.specs.Configs.{Config, LongTerm, keys_of, is_of, names_in, part_among}
use Rattle.agreement_laws.specs.Nodes.{Log, Needs, NeedsCommit, Node, Standing, WasIssued, WasUsed}
use Rattle.agreement_laws.specs.Nodes as node
use Rattle.agreement_laws.specs.Traces.{RunId, Happening, Steps, current, Delivered, IsFresh, is_drawn_kind, known_before, OccursIn, OccursInConfig, OccursInMessage, OccursInNotes}
use Rattle.agreement_laws.specs.Worlds.{At, peers_by, ring_of, run_id, trace}
use Rattle.agreement_laws.proofs.Rings.{peer_key}
use Rattle.node_desk.specs.declared.event.Event.TheVariants.{Commit}
use Rattle.node_desk.specs.Deliveries.{open_in}
use Rattle.node_desk.specs.Desks.{node_at, IsUnused}
use Rattle.node_desk.specs.Events.{log_of}
use Rattle.node_desk.specs.Refusals.{got_refusal}
use Rattle.node_desk.proofs.Logs.{node_log, node_ring, runs_are, standing}
use Rattle.node_desk.proofs.Stamped.{each-fit}
use Rattle.world_run.specs.Born.{HasUnborn, IsUnborn, BeginsLater}
use Rattle.world_run.specs.Clocks.{clock_in}
use Rattle.world_run.specs.Conditions.{BeginsWith, KeepsConditions, parts_in}
use Rattle.world_run.specs.Kept.{AreBorn, IsDue, IsGenuine, IsReady}
use Rattle.world_run.specs.Turns.{desk_in, did, draws_for, draws_from, drawn_count, keys_at, moment, notes_after}
use Rattle.world_run.specs.Views.{acts_of, entries, held_in, known_in, WorldView}
use Rattle.world_run.proofs.Decided.{lawful}
use Rattle.world_run.proofs.Acts.{current_is, derivable_is, run_shown}
use Rattle.world_run.proofs.Counted.{DrawnBetween, drawn_apart, drawn_at, drawn_begins, drawn_born, drawn_later}
use Rattle.world_run.proofs.Legal.{born_and, genuine_and, needs_here, unborn_less}
use Rattle.world_run.proofs.Showing.{AreAllBorn, born_message, notes_happened, seen_occurs}
use Rattle.world_run.proofs.Verdicts.{found_two}

-- ---- parts of the configuration were never drawn

undrawn_part : (k : ℕ) (p : Bytes) → (BeginsWith (first_byte part_draw) p → ⊥) → IsUnborn k (part p) → ⊥
undrawn_part k [] not u = u
undrawn_part k (b ∷ bs) not u = not u.0

pub in_parts : (c : Config) (l : LongTerm) → Among l c.pairs → Among l.part (parts_in c)
in_parts c l i = among_left _ c.own l.part (map_among (λ (x : LongTerm). x.part) c.pairs l i)

pair_among : (ls : List LongTerm) (x y : ℕ) (p : Bytes) → part_among ls x y ≡ Some p → (l : LongTerm) × Among l ls × (p ≡ l.part)
pair_among [] x y p e = absurd (cc)
pair_among (l ∷ ls) x y p e = go (is_of x y l) e (pair_among ls x y p)
  where
    go : (b : Bool) → (if b then Some l.part else part_among ls x y) ≡ Some p → (part_among ls x y ≡ Some p → (m : LongTerm) × Among m ls × (p ≡ m.part)) → (m : LongTerm) × Among m (l ∷ ls) × (p ≡ m.part)
    go true f rest = (l, inl refl, cc)
    go false f rest = let r = rest f in (r.0, inr r.1, r.2)

ring_key_among : (c : Config) → KeepsConditions c → (n x y : ℕ) (p : Bytes) → keys_in (ring_of c n) x y ≡ Some p → (l : LongTerm) × Among l c.pairs × (p ≡ l.part)
ring_key_among c k n x y p e = go (x == n) (y == n) e
  where
    by_peer : (z : ℕ) → part_by (peers_by c n c.parties) z ≡ Some p → (l : LongTerm) × Among l c.pairs × (p ≡ l.part)
    by_peer z f = pair_among c.pairs n z p (sym (peer_key c (lawful c k) n z) ∙ f)

    go : (a b : Bool) → (if a then part_by (peers_by c n c.parties) y else if b then part_by (peers_by c n c.parties) x else None) ≡ Some p → (l : LongTerm) × Among l c.pairs × (p ≡ l.part)
    go true b f = by_peer y f
    go false true f = by_peer x f
    go false false f = absurd (cc)

pub key_is_born : (c : Config) → KeepsConditions c → (k n x y : ℕ) (p : Bytes) → keys_in (ring_of c n) x y ≡ Some p → IsUnborn k (part p) → ⊥
key_is_born c conditions k n x y p e u =
    let l = ring_key_among c conditions n x y p e in
    undrawn_part k p (λ b. conditions.undrawn l.0.part (in_parts c l.0 l.1) part_draw (subst (BeginsWith (first_byte part_draw)) l.2 b)) u

-- ---- a step that may be entered

module _ (w : WorldView) (g : IsGenuine w) (id : RunId) (step : Move) (declared : Among id.party (names_in w.config)) (r : IsReady w id.party step) (current_run : held_in w.acts id ≡ open_in step.before) (unused : IsUnused step.issued (log_of (acts_of id.party w.acts))) where
  abbrev n : ℕ
  n = id.party

  abbrev after : Notes
  after = found step.after.notes

  abbrev middle : Notes
  middle = (step_of step).middle

  needs_commit : got_refusal (node_at (desk_in w n)) (clock_in w n) step.got ≡ None → NeedsCommit symbolic (node_at (desk_in w n)) id.number (moment w n) (step_of step)
  needs_commit fit = record {
    later = omega arith;
    is_open = runs_are (ring_of w.config n) 0 (acts_of n w.acts) id.number ∙ ap standing current_run;
    is_step = subst (λ (x : Ring). IsStep symbolic (keys_in x) (step_of step)) (sym (node_ring (ring_of w.config n) 0 (acts_of n w.acts))) r.is_step;
    fit = let x : Node = node_at (desk_in w n) in each-fit x.ring.window (moment w n) x.accepted x.ring.kind step.got fit;
    issued = subst (λ (l : Log). IsUnused step.issued l) (sym (node_log (ring_of w.config n) 0 (acts_of n w.acts))) unused;
  }

  -- what the step draws

  value_drawn : (s : Slot) (t : Tree) → middle s ≡ None → after s ≡ Some t → DrawnBetween r.before w.draws step.issued (kind_of s) t
  value_drawn s t new is =
      subst (λ (m : ℕ). DrawnBetween r.before m step.issued (kind_of s) t) (sym r.draws)
      (go (sends r.state) (subst (λ (ns : _). found ns s ≡ Some t) r.notes is))
    where
      old : found r.state.notes s ≡ Some t → ⊥
      old e = r.middle s t e new

      drawn : (found r.state.notes s ≡ Some t) ⊎ (found (drawn_values (draws_from r.before) step.issued (new_slots r.state)) s ≡ Some t) → DrawnBetween r.before (r.before + drawn_count (new_slots r.state)) step.issued (kind_of s) t
      drawn (inl e) = absurd (old e)
      drawn (inr e) = drawn_at r.before step.issued (new_slots r.state) s t e

      go : (b : Bool) → found (if b then r.state.notes ++ drawn_values (draws_from r.before) step.issued (new_slots r.state) else r.state.notes) s ≡ Some t → DrawnBetween r.before (r.before + (if b then drawn_count (new_slots r.state) else 0)) step.issued (kind_of s) t
      go true e = drawn (found_two r.state.notes (drawn_values (draws_from r.before) step.issued (new_slots r.state)) s t e)
      go false e = absurd (old e)

  few : w.draws ≤ 2 ^ 64
  few = let f = r.few in omega (arith, f)

  looks_drawn : (s : Slot) (t : Tree) → is_drawn_kind (kind_of s) ≡ true → Draws (step_of step) s t → IsUnborn r.before t
  looks_drawn s t kind d = drawn_later r.before w.draws step.issued (kind_of s) t few kind (value_drawn s t d.is_new d.is)

  not_in_config : (s : Slot) (t : Tree) → is_drawn_kind (kind_of s) ≡ true → Draws (step_of step) s t → OccursInConfig t w.config → ⊥
  not_in_config s t kind d o = go o
    where
      begins : (p : Bytes) → t ≡ part p → BeginsWith (first_byte part_draw) p
      begins p e = drawn_begins r.before w.draws step.issued (kind_of s) p kind (subst (DrawnBetween r.before w.draws step.issued (kind_of s)) e (value_drawn s t d.is_new d.is))

      go : OccursInConfig t w.config → ⊥
      go (inl (p, i, e)) = g.conditions.undrawn p (own_part p i) part_draw (begins p e)
        where
          own_part : (p : Bytes) → Among p w.config.own → Among p (parts_in w.config)
          own_part p i = among_right _ w.config.own p i
      go (inr (l, i, e)) = g.conditions.undrawn l.part (in_parts w.config l i) part_draw (begins l.part e)

  not_in_taken : (v : Tree) → OccursInMessage v step.taken → IsUnborn r.before v → ⊥
  not_in_taken v o u = go step.taken r.due o
    where
      go : (m : Option Tree) → IsDue w r.before m → OccursInMessage v m → ⊥
      go None d p = p
      go (Some m) d p = d.1 (v, p, u)

  each_once : (s u : Slot) (t : Tree) → is_drawn_kind (kind_of s) ≡ true → Draws (step_of step) s t → Draws (step_of step) u t → s ≡ u
  each_once s u t kind d e = go (sends r.state) r.draws (subst (λ (ns : _). found ns s ≡ Some t) r.notes d.is) (subst (λ (ns : _). found ns u ≡ Some t) r.notes e.is)
    where
      old : (x : Slot) → middle x ≡ None → found r.state.notes x ≡ Some t → ⊥
      old x new f = r.middle x t f new

      in_drawn : (x : Slot) → middle x ≡ None → (found r.state.notes x ≡ Some t) ⊎ (found (drawn_values (draws_from r.before) step.issued (new_slots r.state)) x ≡ Some t) → found (drawn_values (draws_from r.before) step.issued (new_slots r.state)) x ≡ Some t
      in_drawn x new (inl f) = absurd (old x new f)
      in_drawn x new (inr f) = f

      go : (b : Bool) → w.draws ≡ r.before + (if b then drawn_count (new_slots r.state) else 0) → found (if b then r.state.notes ++ drawn_values (draws_from r.before) step.issued (new_slots r.state) else r.state.notes) s ≡ Some t → found (if b then r.state.notes ++ drawn_values (draws_from r.before) step.issued (new_slots r.state) else r.state.notes) u ≡ Some t → s ≡ u
      go true count f h =
          drawn_apart r.before step.issued (new_slots r.state) s u t (omega (arith, few, count)) kind
          (in_drawn s d.is_new (found_two r.state.notes (drawn_values (draws_from r.before) step.issued (new_slots r.state)) s t f))
          (in_drawn u e.is_new (found_two r.state.notes (drawn_values (draws_from r.before) step.issued (new_slots r.state)) u t h))
      go false count f h = absurd (old s d.is_new f)

  fresh : IsFresh w.config (trace (entries w.acts)) (step_of step)
  fresh = record {
    in_config = not_in_config;
    in_earlier = λ s t e kind d i o. r.born e t i o (looks_drawn s t kind d);
    in_taken = λ s t kind d o. not_in_taken t o (looks_drawn s t kind d);
    apart = each_once;
  }

  delivered : Delivered w.config (trace (entries w.acts)) step.taken
  delivered = go step.taken r.due
    where
      go : (m : Option Tree) → IsDue w r.before m → Delivered w.config (trace (entries w.acts)) m
      go None d = tt
      go (Some m) d = derivable_is w m d.0

  -- what the step shows

  less : r.before ≤ w.draws
  less = let d = r.draws in omega (arith, d)

  before_born : (s : Slot) (t v : Tree) → found step.before.notes s ≡ Some t → Occurs v t → IsUnborn r.before v → ⊥
  before_born s t v e o u =
      let is : current (trace (entries w.acts)) id ≡ Some (run_of step.before) = current_is w id ∙ ap run_shown current_run in
      let h = notes_happened (trace (entries w.acts)) id (run_of step.before) v is (s, t, e, o) in
      r.born h.0 v h.1 h.2 u

  middle_born : (s : Slot) (t v : Tree) → middle s ≡ Some t → Occurs v t → IsUnborn r.before v → ⊥
  middle_born s t v e o u = go step.taken r.is_step.takes (λ p. not_in_taken v p u)
    where
      go : (m : Option Tree) → Takes symbolic (keys_at w n) (run_of step.before) m middle step.opened step.got → (OccursInMessage v m → ⊥) → ⊥
      go None takes not = before_born s t v (subst (λ (ns : Notes). ns s ≡ Some t) takes.0 e) o u
      go (Some m) fits not = at (fits.extends.only s t e)
        where
          at : (found step.before.notes s ≡ Some t) ⊎ Among s (seen_slots fits.pass) → ⊥
          at (inl f) = before_born s t v f o u
          at (inr i) = not (subst (Occurs v) (sym (said (keys_at w n) step.before.head middle seen step.before.next fits.pass m fits.shows)) (seen_occurs v (keys_at w n) step.before.head middle step.before.next fits.pass s t i e o))

  after_born : (s : Slot) (t v : Tree) → after s ≡ Some t → Occurs v t → IsUnborn w.draws v → ⊥
  after_born s t v e o u = go (middle s) refl
    where
      kept : (x : Tree) → middle s ≡ Some x → x ≡ t
      kept x f = by step.reply r.is_step.replies
        where
          same : after s ≡ Some x → x ≡ t
          same h = let z : Some x ≡ Some t = sym h ∙ e in cc

          by : (y : Option Tree) → Replies symbolic (keys_at w n) step.before.head (reply_pass (step_of step)) middle after y step.sealed → x ≡ t
          by None replies = same (subst (λ (ns : Notes). ns s ≡ Some x) (sym replies.0) f)
          by (Some y) sends = same (sends.extends.kept s x f)

      go : (x : Option Tree) → middle s ≡ x → ⊥
      go (Some x) f = middle_born s t v (f ∙ ap Some (kept x f)) o (unborn_less r.before w.draws v less u)
      go None f = drawn_born r.before w.draws step.issued (kind_of s) t v few (value_drawn s t f e) o u

  all_born : AreAllBorn w.draws (keys_at w n) after
  all_born = record { values = after_born; keyed = key_is_born w.config g.conditions w.draws n }

  reply_born : (v : Tree) → OccursInMessage v step.reply → IsUnborn w.draws v → ⊥
  reply_born v o u = go step.reply r.is_step.replies o
    where
      go : (y : Option Tree) → Replies symbolic (keys_at w n) step.before.head (reply_pass (step_of step)) middle after y step.sealed → OccursInMessage v y → ⊥
      go None replies p = p
      go (Some y) sends p = born_message w.draws (keys_at w n) after all_born step.before.head made (reply_pass (step_of step)) sends.pass v (subst (Occurs v) (said (keys_at w n) step.before.head after made (reply_pass (step_of step)) sends.pass y sends.shows) p) u

  shown_born : (v : Tree) → OccursIn v (Steps id (step_of step)) → IsUnborn w.draws v → ⊥
  shown_born v (inl (s, t, e, o)) u = after_born s t v e o u
  shown_born v (inr (inl o)) u = not_in_taken v o (unborn_less r.before w.draws v less u)
  shown_born v (inr (inr o)) u = reply_born v o u

  pub genuine_commit : Among id w.runs → got_refusal (node_at (desk_in w n)) (clock_in w n) step.got ≡ None → IsGenuine (did w n (Commit id.number (moment w n) step))
  genuine_commit numbered fit =
      genuine_and w g n (Commit id.number (moment w n) step) w.draws (λ m is. subst (λ (k : ℕ). Among (record { party = id.party; number = k }) w.runs) is numbered)
      (record { declared = declared; needs = needs_here w n (node.Commit id.number (moment w n) (step_of step)) (needs_commit fit); network = (delivered, fresh) })
      (born_and w.draws (Steps id (step_of step)) (trace (entries w.acts)) g.born shown_born)
