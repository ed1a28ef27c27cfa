-- The ring has the parts that each run uses, where the log has one more event.
use Rattle.std.proofs.Common.{◌≡◌, ◌==◌, ℕ, List, [], ◌∷◌, ◌++◌, reverse, Bool, true, false, if◌then◌else◌, Option, Some, None, sym, ap, subst, ◌∙◌}
use Rattle.term_values.specs.declared.small.Stamp.{Stamp}
use Rattle.mech_rows.specs.Heads.{Head}
use Rattle.mech_rows.specs.Rings.{Ring}
use Rattle.mech_rows.specs.Moves.{Move, IsMove}
use Rattle.mech_rows.specs.Openings.{Texts, opened_state, has_parts}
use Rattle.agreement_laws.specs.Nodes.{is_going}
use Rattle.node_desk.specs.declared.event.Event.{Event}
use Rattle.node_desk.specs.declared.event.Event.TheVariants.{Open, Issue, Commit, Drop}
use Rattle.node_desk.specs.Helds.{Held, no_longer, held_by, held_at}
use Rattle.node_desk.specs.Refusals.{IsCurrent}
use Rattle.node_desk.specs.Desks.{HavePart, HaveParts}
use Rattle.node_desk.proofs.Logs.{held_at-snoc}

-- by the run in its place
have-if : (ring : Ring) (b : Bool) (x y : Option Held) → HavePart ring x → HavePart ring y → HavePart ring (if b then x else y)
have-if ring true x y hx hy = hx
have-if ring false x y hx hy = hy

have-ended : (ring : Ring) (o : Option Held) → HavePart ring o → HavePart ring (no_longer o)
have-ended ring None h = tt
have-ended ring (Some x) h = h

have-snoc : (ring : Ring) (log : List Event) (event : Event) → ((n : ℕ) → HavePart ring (held_by (event ∷ reverse log) n)) → HaveParts ring (log ++ event ∷ [])
have-snoc ring log event all n = subst (HavePart ring) (sym (held_at-snoc log event n)) (all n)

pub parts-issue : (ring : Ring) (log : List Event) (now : ℕ) (stamp : Stamp) → HaveParts ring log → HaveParts ring (log ++ Issue now stamp ∷ [])
parts-issue ring log now stamp all = have-snoc ring log (Issue now stamp) all

pub parts-open : (ring : Ring) (log : List Event) (run : ℕ) (head : Head) (texts : Texts) → has_parts ring head ≡ true → HaveParts ring log → HaveParts ring (log ++ Open run head texts ∷ [])
parts-open ring log run head texts has all = have-snoc ring log (Open run head texts) (λ n. have-if ring (run == n) (Some (record { state = opened_state head texts; is_open = true })) (held_at log n) has (all n))

pub parts-commit : (ring : Ring) (log : List Event) (run now : ℕ) (step : Move) → IsMove step → IsCurrent (held_at log run) step → HaveParts ring log → HaveParts ring (log ++ Commit run now step ∷ [])
parts-commit ring log run now step move current all =
    let before : has_parts ring step.before.head ≡ true = subst (HavePart ring) current (all run) in
    have-snoc ring log (Commit run now step) (λ n. have-if ring (run == n) (Some (record { state = step.after; is_open = is_going step.outcome })) (held_at log n)
    (ap (has_parts ring) move.is_step.same_head ∙ before) (all n))

pub parts-drop : (ring : Ring) (log : List Event) (run : ℕ) → HaveParts ring log → HaveParts ring (log ++ Drop run ∷ [])
parts-drop ring log run all = have-snoc ring log (Drop run) (λ n. have-if ring (run == n) (no_longer (held_at log n)) (held_at log n) (have-ended ring (held_at log n) (all n)) (all n))
