-- Issued stamps and used ones, where the log has one more event.
use Rattle.std.proofs.Common.{◌≡◌, ◌<◌, ◌≤◌, ℕ, ◌∷◌, Some, refl, sym, ap, subst, ◌∙◌, inl, inr, arith}
use Rattle.term_values.specs.Trees.{Among}
use Rattle.term_values.specs.declared.small.Stamp.{Stamp}
use Rattle.replay_store.specs.Stamps.{number_of}
use Rattle.mech_rows.specs.Heads.{Head}
use Rattle.mech_rows.specs.Openings.{Texts}
use Rattle.mech_rows.specs.Runs.{Step}
use Rattle.agreement_laws.specs.Nodes.{Event, Open, Issue, Commit, Drop, Log, WasIssued, WasUsed}
use Rattle.node_desk.specs.Desks.{AreStamps, IsUnused}

-- the event is no Commit
abbrev IsNoCommit : Event → Type 0
IsNoCommit (Commit run now step) = ⊥
IsNoCommit _ = Unit {0}

-- the event is no Issue
abbrev IsNoIssue : Event → Type 0
IsNoIssue (Issue now stamp) = ⊥
IsNoIssue _ = Unit {0}

used-before : (log : Log) (event : Event) (stamp : Stamp) → IsNoCommit event → WasUsed stamp (event ∷ log) → WasUsed stamp log
used-before log event stamp none u = go u.there
  where
    go : Among (Commit u.run u.now u.step) (event ∷ log) → WasUsed stamp log
    go (inl e) = absurd (subst IsNoCommit (sym e) none)
    go (inr i) = record { run = u.run; now = u.now; step = u.step; there = i; issued = u.issued }

issued-before : (log : Log) (event : Event) (stamp : Stamp) → IsNoIssue event → WasIssued stamp (event ∷ log) → WasIssued stamp log
issued-before log event stamp none (now, inl e) = absurd (subst IsNoIssue (sym e) none)
issued-before log event stamp none (now, inr i) = (now, i)

issued-later : (log : Log) (event : Event) (stamp : Stamp) → WasIssued stamp log → WasIssued stamp (event ∷ log)
issued-later log event stamp (now, i) = (now, inr i)

-- an event that is neither
stamps-other : (log : Log) (last : ℕ) (event : Event) → IsNoCommit event → IsNoIssue event → AreStamps log last → AreStamps (event ∷ log) last
stamps-other log last event none neither s =
    record {
      used = λ stamp u. issued-later log event stamp (s.used stamp (used-before log event stamp none u));
      below = λ stamp i. s.below stamp (issued-before log event stamp neither i);
    }

pub stamps-open : (log : Log) (last run : ℕ) (head : Head) (texts : Texts) → AreStamps log last → AreStamps (Open run head texts ∷ log) last
stamps-open log last run head texts s = stamps-other log last (Open run head texts) tt tt s

pub stamps-drop : (log : Log) (last run : ℕ) → AreStamps log last → AreStamps (Drop run ∷ log) last
stamps-drop log last run s = stamps-other log last (Drop run) tt tt s

pub stamps-issue : (log : Log) (last now : ℕ) (stamp : Stamp) → last < number_of stamp → AreStamps log last → AreStamps (Issue now stamp ∷ log) (number_of stamp)
stamps-issue log last now stamp rises s =
    record {
      used = λ x u. issued-later log (Issue now stamp) x (s.used x (used-before log (Issue now stamp) x tt u));
      below = below;
    }
  where
    below : (x : Stamp) → WasIssued x (Issue now stamp ∷ log) → number_of x ≤ number_of stamp
    below x (at, inl e) = let same : x ≡ stamp = cc in subst (λ (y : Stamp). number_of y ≤ number_of stamp) (sym same) (omega arith)
    below x (at, inr i) = let l = s.below x (at, i) in omega (arith, l, rises)

pub stamps-commit : (log : Log) (last run now : ℕ) (step : Step) → IsUnused step.issued log → AreStamps log last → AreStamps (Commit run now step ∷ log) last
stamps-commit log last run now step unused s =
    record {
      used = λ x u. go x u u.there;
      below = λ x i. s.below x (issued-before log (Commit run now step) x tt i);
    }
  where
    go : (x : Stamp) (u : WasUsed x (Commit run now step ∷ log)) → Among (Commit u.run u.now u.step) (Commit run now step ∷ log) → WasIssued x (Commit run now step ∷ log)
    go x u (inl e) = let same : u.step ≡ step = cc in issued-later log (Commit run now step) x (unused x (ap (λ (y : Step). y.issued) (sym same) ∙ u.issued)).0
    go x u (inr i) = issued-later log (Commit run now step) x (s.used x (record { run = u.run; now = u.now; step = u.step; there = i; issued = u.issued }))

-- a stamp above the last is unused
pub fresh-unused : (log : Log) (last now : ℕ) (stamp : Stamp) → last < number_of stamp → AreStamps log last → IsUnused (Some stamp) (Issue now stamp ∷ log)
fresh-unused log last now stamp rises s x e =
    let same : stamp ≡ x = cc in
    subst (λ (y : Stamp). WasIssued y (Issue now stamp ∷ log) × (WasUsed y (Issue now stamp ∷ log) → ⊥)) same
    ((now, inl refl), λ u. let l = s.below stamp (s.used stamp (used-before log (Issue now stamp) stamp tt u)) in absurd (omega (arith, l, rises)))
