-- A desk keeps its facts by one more event.
use Rattle.std.proofs.Common.{◌≡◌, ◌+◌, ◌<◌, ◌≤◌, ℕ, suc, max, List, [], ◌∷◌, ◌++◌, length, map, true, false, Some, None, refl, sym, subst, ◌∙◌, arith}
use Rattle.std.specs.Prelude.{count_by, slice_get, slice_set}
use Rattle.term_values.specs.declared.small.Stamp.{Stamp}
use Rattle.replay_store.specs.Stamps.{Accepted, next_stamp, number_of}
use Rattle.fresh_values.specs.Issued.{Issued}
use Rattle.mech_rows.specs.Heads.{Head, me, IsHead}
use Rattle.mech_rows.specs.Rings.{Ring, keys_in}
use Rattle.mech_rows.specs.Lawful.{tested_by}
use Rattle.mech_rows.specs.Moves.{Move, step_of}
use Rattle.mech_rows.specs.Openings.{Texts, opened_state}
use Rattle.agreement_laws.specs.Nodes.{Node, accepted_of, is_going, Log}
use Rattle.node_desk.specs.declared.live.Live.{Live}
use Rattle.node_desk.specs.declared.event.Event.{Event}
use Rattle.node_desk.specs.declared.event.Event.TheVariants.{Open, Issue, Commit, Drop}
use Rattle.node_desk.specs.declared.run_slot.RunSlot.{RunSlot}
use Rattle.node_desk.specs.Lives.{live_state}
use Rattle.node_desk.specs.Events.{log_of}
use Rattle.node_desk.specs.Helds.{table_at, is_open_slot}
use Rattle.node_desk.specs.Openings.{head_refusal, opening_by}
use Rattle.node_desk.specs.Refusals.{stamps_refusal, IsCurrent}
use Rattle.node_desk.specs.Desks.{any_sealing, IsMadeWith, IsUnused, AreStamps, IsNode, IsKept}
use Rattle.node_desk.proofs.Alikes.{alike-more}
use Rattle.node_desk.proofs.Logs.{log_of-snoc, node_of-snoc, whole-snoc, made-snoc}
use Rattle.node_desk.proofs.Tables.{held-issue, held-open, held-commit, held-drop}
use Rattle.node_desk.proofs.Counts.{count-more, count-set, one-open, one-closed}
use Rattle.node_desk.proofs.Mays.{has-parts, no-first}
use Rattle.node_desk.proofs.Parts.{parts-issue, parts-open, parts-commit, parts-drop}
use Rattle.node_desk.proofs.Used.{stamps-open, stamps-drop, stamps-issue, stamps-commit}
use Rattle.node_desk.proofs.Sealings.{step-any}
use Rattle.node_desk.proofs.Needed.{needs-open, needs-issue, needs-commit, needs-drop}

-- a desk that issues a stamp
pub kept-issue : (ring : Ring) (first : ℕ) (log log' : List Event) (issued issued' : Issued) (now now' window window' : ℕ) (stands stands' : List Accepted → Type 0) (run_slots : List RunSlot) (open_count room room' clock moment : ℕ) (stamp : Stamp) → IsKept ring first log issued now window stands run_slots open_count room
    → log' ≡ log ++ Issue moment stamp ∷ [] → moment ≡ max now clock → next_stamp issued.kind issued.last moment ≡ Some stamp → issued.last < number_of stamp → issued' ≡ record issued { last = number_of stamp } → now' ≡ moment → window' ≡ window → ((accepted : List Accepted) → stands accepted → stands' accepted) → open_count ≤ room'
    → IsKept ring first log' issued' now' window' stands' run_slots open_count room'
kept-issue ring first log log' issued issued' now now' window window' stands stands' run_slots open_count room room' clock moment stamp kept l m s rises i n w stays r =
    let node = kept.node in
    rw l (record {
      whole = whole-snoc ring first log (Issue moment stamp) kept.whole (needs-issue ring first log issued now window clock moment stands stamp node m s);
      made = made-snoc (keys_in ring) log (Issue moment stamp) kept.made (λ r n x e. absurd (cc));
      node = subst (λ (x : Node). IsNode x issued' now' window' stands') (sym (node_of-snoc ring first log (Issue moment stamp))) (record {
        kind = rw i node.kind;
        last = rw i refl;
        moment = sym n;
        window_is = w ∙ node.window_is;
        accepted = node.accepted;
        stands = stays node.accepted node.stands;
        alike = node.alike;
      });
      stamps = rw i (subst (λ (x : Log). AreStamps x (number_of stamp)) (sym (log_of-snoc log (Issue moment stamp))) (stamps-issue (log_of log) issued.last moment stamp rises kept.stamps));
      parts = parts-issue ring log moment stamp kept.parts;
      held = held-issue log run_slots moment stamp kept.held;
      open_is = kept.open_is;
      room_is = r;
    })

-- a desk that opens a run
pub kept-open : (ring : Ring) (first : ℕ) (log log' : List Event) (issued : Issued) (now window : ℕ) (stands : List Accepted → Type 0) (run_slots run_slots' : List RunSlot) (open_count open_count' room room' run : ℕ) (head : Head) (texts : Texts) (start : Live) → IsKept ring first log issued now window stands run_slots open_count room
    → log' ≡ log ++ Open run head texts ∷ [] → IsHead head → me head ≡ ring.me → opening_by ring open_count (length run_slots) head ≡ None → run ≡ length run_slots + 1 → live_state start ≡ opened_state head texts
    → run_slots' ≡ run_slots ++ record { start = start; at = None; «open» = true } ∷ [] → open_count' ≡ open_count + 1 → open_count' ≤ room'
    → IsKept ring first log' issued now window stands run_slots' open_count' room'
kept-open ring first log log' issued now window stands run_slots run_slots' open_count open_count' room room' run head texts start kept l is own none r begun p o more =
    let node = kept.node in
    let number : run ≡ suc (length run_slots) = omega (arith, r) in
    rw l (record {
      whole = whole-snoc ring first log (Open run head texts) kept.whole (needs-open ring first log run_slots open_count run head kept.held kept.open_is is own none r);
      made = made-snoc (keys_in ring) log (Open run head texts) kept.made (λ r n x e. absurd (cc));
      node = subst (λ (x : Node). IsNode x issued now window stands) (sym (node_of-snoc ring first log (Open run head texts))) (record {
        kind = node.kind;
        last = node.last;
        moment = node.moment;
        window_is = node.window_is;
        accepted = node.accepted;
        stands = node.stands;
        alike = node.alike;
      });
      stamps = subst (λ (x : Log). AreStamps x issued.last) (sym (log_of-snoc log (Open run head texts))) (stamps-open (log_of log) issued.last run head texts kept.stamps);
      parts = parts-open ring log run head texts (has-parts ring head (no-first (head_refusal ring head) _ none).0) kept.parts;
      held = rw p (held-open log run_slots run head texts start kept.held number begun);
      open_is = rw p (let all = count-more run_slots (record { start = start; at = None; «open» = true }) refl in let c = kept.open_is in omega (arith, all, c, o));
      room_is = more;
    })

-- a desk that commits a step
pub kept-commit : (ring : Ring) (first : ℕ) (log log' : List Event) (issued : Issued) (now now' window window' : ℕ) (stands stands' : List Accepted → Type 0) (run_slots run_slots' : List RunSlot) (open_count open_count' room room' run clock moment at : ℕ) (old : RunSlot) (step : Move) → IsKept ring first log issued now window stands run_slots open_count room
    → log' ≡ log ++ Commit run moment step ∷ [] → IsMadeWith (keys_in ring) step → IsUnused step.issued (log_of log) → IsCurrent (table_at log run_slots run) step → at + 1 ≡ run → at < length run_slots → slice_get run_slots at ≡ Some old
    → ((accepted : List Accepted) → stands accepted → stamps_refusal window (max now clock) accepted ring.kind step.got ≡ None) → moment ≡ max now clock → now' ≡ moment → window' ≡ window
    → ((accepted : List Accepted) → stands accepted → stands' (accepted ++ map accepted_of step.got)) → run_slots' ≡ slice_set run_slots at (record { start = old.start; at = Some (length log); «open» = is_going step.outcome })
    → open_count' ≡ count_by is_open_slot run_slots' → open_count' ≤ room'
    → IsKept ring first log' issued now' window' stands' run_slots' open_count' room'
kept-commit ring first log log' issued now now' window window' stands stands' run_slots run_slots' open_count open_count' room room' run clock moment at old step kept l made unused current a inside there fit m n w recorded p o more =
    let node = kept.node in
    let number : suc at ≡ run = omega (arith, a) in
    rw l (record {
      whole = whole-snoc ring first log (Commit run moment step) kept.whole (needs-commit any_sealing ring first log issued now window stands run_slots run clock moment step node kept.held unused current fit m (step-any (tested_by made.opens made.checks) (keys_in ring) (step_of step) made.is_step));
      made = made-snoc (keys_in ring) log (Commit run moment step) kept.made (λ r n x e. let same : step ≡ x = cc in subst (IsMadeWith (keys_in ring)) same made);
      node = subst (λ (x : Node). IsNode x issued now' window' stands') (sym (node_of-snoc ring first log (Commit run moment step))) (record {
        kind = node.kind;
        last = node.last;
        moment = sym n;
        window_is = w ∙ node.window_is;
        accepted = node.accepted ++ map accepted_of step.got;
        stands = recorded node.accepted node.stands;
        alike = alike-more node.accepted _ (map accepted_of step.got) node.alike;
      });
      stamps = subst (λ (x : Log). AreStamps x issued.last) (sym (log_of-snoc log (Commit run moment step))) (stamps-commit (log_of log) issued.last run moment (step_of step) unused kept.stamps);
      parts = parts-commit ring log run moment step (record { opens = made.opens; checks = made.checks; keys = keys_in ring; is_step = made.is_step }) (kept.held.each run ∙ current) kept.parts;
      held = rw p (held-commit log run_slots run moment at step old.start kept.held number inside);
      open_is = o;
      room_is = more;
    })

-- a desk that ends a run
pub kept-drop : (ring : Ring) (first : ℕ) (log log' : List Event) (issued : Issued) (now window : ℕ) (stands : List Accepted → Type 0) (run_slots run_slots' : List RunSlot) (open_count open_count' room room' run at : ℕ) (old : RunSlot) → IsKept ring first log issued now window stands run_slots open_count room
    → log' ≡ log ++ Drop run ∷ [] → at + 1 ≡ run → at < length run_slots → slice_get run_slots at ≡ Some old → old.«open» ≡ true → run_slots' ≡ slice_set run_slots at (record { start = old.start; at = old.at; «open» = false })
    → open_count ≡ open_count' + 1 → room ≡ room' + 1
    → IsKept ring first log' issued now window stands run_slots' open_count' room'
kept-drop ring first log log' issued now window stands run_slots run_slots' open_count open_count' room room' run at old kept l a inside there o p c r =
    let node = kept.node in
    let number : suc at ≡ run = omega (arith, a) in
    let new : RunSlot = record { start = old.start; at = old.at; «open» = false } in
    rw l (record {
      whole = whole-snoc ring first log (Drop run) kept.whole (needs-drop ring first log run_slots run at old kept.held a there o);
      made = made-snoc (keys_in ring) log (Drop run) kept.made (λ r n x e. absurd (cc));
      node = subst (λ (x : Node). IsNode x issued now window stands) (sym (node_of-snoc ring first log (Drop run))) (record {
        kind = node.kind;
        last = node.last;
        moment = node.moment;
        window_is = node.window_is;
        accepted = node.accepted;
        stands = node.stands;
        alike = node.alike;
      });
      stamps = subst (λ (x : Log). AreStamps x issued.last) (sym (log_of-snoc log (Drop run))) (stamps-drop (log_of log) issued.last run kept.stamps);
      parts = parts-drop ring log run kept.parts;
      held = rw p (held-drop log run_slots run at old kept.held number inside there);
      open_is = rw p (let all = count-set run_slots at old new inside there in let one = one-open old o in let zero = one-closed new refl in let was = kept.open_is in omega (arith, all, one, zero, was, c));
      room_is = let was = kept.room_is in omega (arith, was, c, r);
    })

-- a desk that only takes memory
pub kept-more : (ring : Ring) (first : ℕ) (log log' : List Event) (issued : Issued) (now now' window window' : ℕ) (stands stands' : List Accepted → Type 0) (run_slots : List RunSlot) (open_count room room' : ℕ) → IsKept ring first log issued now window stands run_slots open_count room
    → log' ≡ log → now' ≡ now → window' ≡ window → ((accepted : List Accepted) → stands accepted → stands' accepted) → open_count ≤ room'
    → IsKept ring first log' issued now' window' stands' run_slots open_count room'
kept-more ring first log log' issued now now' window window' stands stands' run_slots open_count room room' kept l n w stays more =
    let node = kept.node in
    rw l (record {
      whole = kept.whole;
      made = kept.made;
      node = record {
        kind = node.kind;
        last = node.last;
        moment = node.moment ∙ sym n;
        window_is = w ∙ node.window_is;
        accepted = node.accepted;
        stands = stays node.accepted node.stands;
        alike = node.alike;
      };
      stamps = kept.stamps;
      parts = kept.parts;
      held = kept.held;
      open_is = kept.open_is;
      room_is = more;
    })
