-- What the runs of a genuine world have noted.
use Rattle.std.proofs.Common.{◌≡◌, inl, inr, Some, ap, ◌∙◌}
use Rattle.term_values.specs.Trees.{Tree}
use Rattle.mech_rows.specs.declared.kinds.Slot.{Slot}
use Rattle.mech_rows.specs.Found.{found}
use Rattle.mech_rows.specs.Lawful.{HasActed}
use Rattle.mech_rows.specs.Rows.{kind_of, row_of}
use Rattle.mech_rows.specs.Runs.{HasKind}
use Rattle.mech_rows.specs.Verdict.{run_of}
use Rattle.agreement_laws.specs.Traces.{RunId, current}
use Rattle.agreement_laws.specs.Worlds.{trace}
use Rattle.agreement_laws.proofs.Agreement.{kinds}
use Rattle.agreement_laws.proofs.Held.{HeldBy, IsNoted, held}
use Rattle.agreement_laws.proofs.Reduction.{world_trace}
use Rattle.agreement_laws.proofs.Traces.{IsTrace}
use Rattle.node_desk.specs.Helds.{Held}
use Rattle.world_run.specs.Kept.{IsGenuine}
use Rattle.world_run.specs.Views.{WorldView, entries, held_in}
use Rattle.world_run.proofs.Acts.{current_is, run_shown}
use Rattle.world_run.proofs.Completed.{played}
use Rattle.world_run.proofs.Decided.{lawful}
use Rattle.world_run.proofs.Replying.{ActsIn, CanSay, acts_in}

module _ (w : WorldView) (g : IsGenuine w) (id : RunId) (h : Held) (is : held_in w.acts id ≡ Some h) where
  is_trace : IsTrace w.config (trace (entries w.acts))
  is_trace = world_trace w.config (lawful w.config g.conditions) (entries w.acts) g.world

  pub shown_now : current (trace (entries w.acts)) id ≡ Some (run_of h.state)
  shown_now = current_is w id ∙ ap run_shown is

  pub kinds_now : (s : Slot) (t : Tree) → (run_of h.state).notes s ≡ Some t → HasKind (kind_of s) t
  kinds_now s t e = kinds w.config (lawful w.config g.conditions) (trace (entries w.acts)) is_trace id (run_of h.state) shown_now s t e

  held_now : HeldBy w.config (trace (entries w.acts)) (run_of h.state)
  held_now = held w.config (trace (entries w.acts)) is_trace id (run_of h.state) shown_now

  -- a run of a genuine world has noted what its role has sent and seen
  noted_now : (s : Slot) → ActsIn h.state.head.role h.state.next (row_of h.state.head.mech) s → (t : Tree) × (found h.state.notes s ≡ Some t)
  noted_now s x = there (elim x.shows [ inl y ↦ held_now.said x.place x.pass s x.earlier x.at y.0 y.1 | inr y ↦ held_now.saw x.place x.pass s x.earlier x.at y.0 y.1 ])
    where
      there : IsNoted (found h.state.notes) s → (t : Tree) × (found h.state.notes s ≡ Some t)
      there n = (n.tree, n.is)

  pub acted_now : HasActed (run_of h.state)
  acted_now s i = let x = noted_now s (acts_in h.state.head.role h.state.next (row_of h.state.head.mech) s i) in (x.0, x.1, kinds_now s x.0 x.1)

  -- so it can say what it says next
  pub can_say : CanSay h.state
  can_say = record {
    kinds = kinds_now;
    texts = (played w.config (lawful w.config g.conditions) (entries w.acts) g.world id (run_of h.state) shown_now).texts;
    acted = noted_now;
  }
