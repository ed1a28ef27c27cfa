-- Which refusals no call of a world answers: that of a step that the run has moved past, and that of a draw that failed.
use Rattle.std.proofs.Common.{◌≡◌, ◌≢◌, ◌==◌, ℕ, max, Bool, true, false, not, if◌then◌else◌, List, Option, Some, None, Result, Err, refl, sym, ap, subst, ◌∙◌, inl, inr}
use Rattle.std.specs.Prelude.{IfErr, IfSome}
use Rattle.term_values.specs.Trees.{Bytes, Tree}
use Rattle.replay_store.specs.Stamps.{last_number}
use Rattle.mech_rows.specs.declared.kinds.Mech.{Mech}
use Rattle.mech_rows.specs.declared.kinds.Slot.{Slot}
use Rattle.mech_rows.specs.declared.refusal.Refusal.{Refusal}
use Rattle.mech_rows.specs.declared.refusal.Refusal.TheVariants.{DrawFault, EndedRun, Moved, NoKey, SelfPeer, StampsSpent, TableFull, UnknownParty, WrongKind}
use Rattle.mech_rows.specs.Heads.{Head, me}
use Rattle.mech_rows.specs.Openings.{Texts, has_parts, opened_state}
use Rattle.mech_rows.specs.Replies.{needs_stamp, sends_first}
use Rattle.mech_rows.specs.Verdict.{State, Taken}
use Rattle.seal_symbolic.specs.Symbolic.{body_of, is_check}
use Rattle.agreement_laws.specs.Nodes.{Node, open_among, opens_in}
use Rattle.agreement_laws.specs.Traces.{RunId}
use Rattle.node_desk.specs.Deliveries.{after_message, is_of_stamp, spent_refusal}
use Rattle.node_desk.specs.Desks.{DeskView, node_at}
use Rattle.node_desk.specs.Helds.{Held}
use Rattle.node_desk.specs.Openings.{are_known, first_of, have_wrong_kinds, head_refusal, is_full, opening_refusal}
use Rattle.node_desk.specs.Refusals.{run_refusal}
use Rattle.node_desk.proofs.Causes.{run-err, some-of, stamps-late}
use Rattle.world_run.specs.Clocks.{clock_in}
use Rattle.world_run.specs.Gives.{Gives, IsJudged, IsRefusedBy, stamps_refusal_in, verdict_in}
use Rattle.world_run.specs.Opens.{begin_refusal, open_refusal, opened_by, Opens}
use Rattle.world_run.specs.Turns.{desk_in, has_name, keys_at}
use Rattle.world_run.specs.Views.{Act, held_in, number_refusal, run_in, standing_refusal, WorldView}

-- the refusal of a step that the run has moved past, or of a draw
abbrev is_foreign : Refusal → Bool
is_foreign DrawFault = true
is_foreign (Moved made held) = true
is_foreign _ = false

abbrev IsOurs : Refusal → Type 0
IsOurs e = is_foreign e ≡ false

-- ---- runs, messages and stamps

run_ours : (o : Option Held) → IfSome (run_refusal o) IsOurs
run_ours None = refl
run_ours (Some h) = go h.is_open
  where
    go : (b : Bool) → IfSome (if b then None else Some EndedRun) IsOurs
    go true = tt
    go false = refl

standing_ours : (acts : List Act) (o : Option RunId) → IfSome (standing_refusal acts o) IsOurs
standing_ours acts None = refl
standing_ours acts (Some id) = run_ours (held_in acts id)

spent_ours : (d : DeskView) (s : State) → IfSome (spent_refusal d s) IsOurs
spent_ours d s = go (needs_stamp s) ((node_at d).last == last_number)
  where
    go : (a b : Bool) → IfSome (if a then (if b then Some StampsSpent else None) else None) IsOurs
    go true true = refl
    go true false = tt
    go false b = tt

stamp_ours : (e : Refusal) → is_of_stamp e ≡ true → IsOurs e
stamp_ours DrawFault f = absurd cc
stamp_ours (Moved made held) f = absurd cc
stamp_ours _ f = refl

got_ours : (w : WorldView) (n : ℕ) (t : Taken) (e : Refusal) → stamps_refusal_in w n t ≡ Some e → IsOurs e
got_ours w n t e is =
    let node : Node = node_at (desk_in w n) in
    stamp_ours e (stamps-late node.ring.window (max node.now (clock_in w n)) node.accepted node.ring.kind t.got e is)

-- ---- openings

heads_ours : (a b c d : Bool) → IfSome (if a then Some UnknownParty else if b then Some WrongKind else if c then Some SelfPeer else if d then Some NoKey else None) IsOurs
heads_ours true b c d = refl
heads_ours false true c d = refl
heads_ours false false true d = refl
heads_ours false false false true = refl
heads_ours false false false false = tt

first_ours : (o other : Option Refusal) → IfSome o IsOurs → IfSome other IsOurs → IfSome (first_of o other) IsOurs
first_ours None other h k = k
first_ours (Some e) other h k = h

full_ours : (b : Bool) → IfSome (if b then Some TableFull else None) IsOurs
full_ours true = refl
full_ours false = tt

opening_ours : (node : Node) (h : Head) → IfSome (opening_refusal node h) IsOurs
opening_ours node h =
    let full : Bool = is_full (open_among node.runs (opens_in node.log)) (opens_in node.log) in
    first_ours (head_refusal node.ring h) (if full then Some TableFull else None) (heads_ours (not (are_known node.ring h)) (have_wrong_kinds node.ring h) (h.a == h.b) (not (has_parts node.ring h))) (full_ours full)

named_ours : (b : Bool) (o : Option Refusal) → IfSome o IsOurs → IfSome (if b then o else Some UnknownParty) IsOurs
named_ours true o h = h
named_ours false o h = refl

begins_ours : (b : Bool) (o : Option Refusal) → IfSome o IsOurs → IfSome (if b then o else None) IsOurs
begins_ours true o h = h
begins_ours false o h = tt

open_ours : (w : WorldView) (h : Head) → IfSome (open_refusal w h) IsOurs
open_ours w h = let node : Node = node_at (desk_in w (me h)) in named_ours (has_name w (me h)) (opening_refusal node h) (opening_ours node h)

begin_ours : (w : WorldView) (h : Head) (texts : Texts) → IfSome (begin_refusal w h texts) IsOurs
begin_ours w h texts =
    let d : DeskView = desk_in (opened_by w h texts) (me h) in
    begins_ours (sends_first (opened_state h texts)) (spent_refusal d (opened_state h texts)) (spent_ours d (opened_state h texts))

opens_ours : (w v : WorldView) (h : Head) (texts : Texts) (e : Refusal) → Opens w h texts (Err e) v → IsOurs e
opens_ours w v h texts e (inl x) = some-of IsOurs (open_refusal w h) e (open_ours w h) x.0
opens_ours w v h texts e (inr x) = some-of IsOurs (begin_refusal w h texts) e (begin_ours w h texts) x.1

-- ---- deliveries

err_ours : (r : Result Taken Refusal) (e : Refusal) → IfErr r IsOurs → r ≡ Err e → IsOurs e
err_ours r e h is = subst (λ (x : Result Taken Refusal). IfErr x IsOurs) is h

module _ (allowed : Mech → Slot → Bytes → Bool) (w v : WorldView) (m : Tree) (e : Refusal) where
  judged_ours : (id : RunId) (s : State) → IsJudged allowed w id s m e v → IsOurs e
  judged_ours id s (inl x) =
      err_ours (verdict_in allowed w id.party s m) e
      (run-err IsOurs refl (λ k. refl) (λ k. refl) (λ k. refl) (λ k u. refl) (λ u. refl) body_of is_check (keys_at w id.party) allowed s m) x.0
  judged_ours id s (inr (t, fits, inl x)) = some-of IsOurs (spent_refusal (desk_in w id.party) (after_message s t)) e (spent_ours (desk_in w id.party) (after_message s t)) x.0
  judged_ours id s (inr (t, fits, inr x)) = got_ours w id.party t e x.1

  refused_ours : (run : ℕ) → IsRefusedBy allowed w run m e v → IsOurs e
  refused_ours run (inl x) = some-of IsOurs (number_refusal w run) e (standing_ours w.acts (run_in w.runs run)) x.0
  refused_ours run (inr (id, s, is, held, x)) = judged_ours id s x

  gives_ours : (run : ℕ) → Gives allowed w run m (Err e) v → IsOurs e
  gives_ours run (inl x) = ap is_foreign x.1
  gives_ours run (inr (derivable, inl x)) = ap is_foreign x.1
  gives_ours run (inr (derivable, inr x)) = refused_ours run x.1

-- ---- neither of the two

not_drawn : (e : Refusal) → IsOurs e → e ≢ DrawFault
not_drawn e h is = let bad : true ≡ false = ap is_foreign (sym is) ∙ h in cc

not_moved : (e : Refusal) (made held : ℕ) → IsOurs e → e ≢ Moved made held
not_moved e made held h is = let bad : true ≡ false = ap is_foreign (sym is) ∙ h in cc

pub gives_neither : (allowed : Mech → Slot → Bytes → Bool) (w v : WorldView) (run : ℕ) (m : Tree) (e : Refusal) (made held : ℕ) → Gives allowed w run m (Err e) v → (e ≢ DrawFault) × (e ≢ Moved made held)
gives_neither allowed w v run m e made held x = let ours = gives_ours allowed w v m e run x in (not_drawn e ours, not_moved e made held ours)

pub opens_neither : (w v : WorldView) (h : Head) (texts : Texts) (e : Refusal) (made held : ℕ) → Opens w h texts (Err e) v → (e ≢ DrawFault) × (e ≢ Moved made held)
opens_neither w v h texts e made held x = let ours = opens_ours w v h texts e x in (not_drawn e ours, not_moved e made held ours)
