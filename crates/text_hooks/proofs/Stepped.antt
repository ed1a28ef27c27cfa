-- Steps, by their parts.
use Rattle.std.proofs.Common.{◌≡◌, true, false, Option, Some, None, List, [], Bool, sym, subst}
use Rattle.term_values.specs.Trees.{Tree}
use Rattle.term_values.specs.declared.small.Key.{Key}
use Rattle.term_values.specs.declared.small.Stamp.{Stamp}
use Rattle.mech_rows.specs.declared.outcome.Outcome.{Outcome}
use Rattle.mech_rows.specs.Runs.{Keys, Opening, Got, outcome_of}
use Rattle.mech_rows.specs.Steps.{IsStep}
use Rattle.mech_rows.specs.Verdict.{State, run_of}
use Rattle.mech_rows.specs.Lawful.{tested_by}
use Rattle.mech_rows.specs.Replies.{sends, sends_first, Says}
use Rattle.mech_rows.specs.Moves.{Ready, Fitted, step_of}
use Rattle.mech_rows.proofs.Stepping.{began, answered, ended}

module _ (opens : Key → Tree → Option Tree) (checks : Key → Tree → Tree → Bool) (keys : Keys) where
  pub begun_is : (before after : State) (opened : List Opening) (got : List Got) (issued : Option Stamp) (sealed : List Opening) (reply : Tree) (outcome : Outcome) → opened ≡ [] → got ≡ [] → outcome ≡ outcome_of (run_of after) → sends_first before ≡ true → Says opens checks keys before after reply sealed issued → IsStep (tested_by opens checks) keys (step_of (record { before = before; after = after; taken = None; opened = opened; got = got; issued = issued; sealed = sealed; reply = Some reply; outcome = outcome }))
  begun_is before after opened got issued sealed reply outcome o g c e s =
      subst (λ (os : List Opening). IsStep (tested_by opens checks) keys (step_of (record { before = before; after = after; taken = None; opened = os; got = got; issued = issued; sealed = sealed; reply = Some reply; outcome = outcome }))) (sym o)
      (subst (λ (gs : List Got). IsStep (tested_by opens checks) keys (step_of (record { before = before; after = after; taken = None; opened = []; got = gs; issued = issued; sealed = sealed; reply = Some reply; outcome = outcome }))) (sym g)
      (subst (λ (x : Outcome). IsStep (tested_by opens checks) keys (step_of (record { before = before; after = after; taken = None; opened = []; got = []; issued = issued; sealed = sealed; reply = Some reply; outcome = x }))) (sym c)
      (began opens checks keys before after issued sealed reply e s)))

  pub answered_is : (r q : Ready) (after : State) (issued : Option Stamp) (sealed : List Opening) (reply : Tree) (outcome : Outcome) → r ≡ q → outcome ≡ outcome_of (run_of after) → Fitted opens checks keys r → sends r.after ≡ true → Says opens checks keys r.after after reply sealed issued → IsStep (tested_by opens checks) keys (step_of (record { before = q.before; after = after; taken = Some q.taken; opened = q.opened; got = q.got; issued = issued; sealed = sealed; reply = Some reply; outcome = outcome }))
  answered_is r q after issued sealed reply outcome v c f e s =
      subst (λ (x : Ready). IsStep (tested_by opens checks) keys (step_of (record { before = x.before; after = after; taken = Some x.taken; opened = x.opened; got = x.got; issued = issued; sealed = sealed; reply = Some reply; outcome = outcome }))) v
      (subst (λ (x : Outcome). IsStep (tested_by opens checks) keys (step_of (record { before = r.before; after = after; taken = Some r.taken; opened = r.opened; got = r.got; issued = issued; sealed = sealed; reply = Some reply; outcome = x }))) (sym c)
      (answered opens checks keys r after issued sealed reply f e s))

  pub ended_is : (r q : Ready) (sealed : List Opening) (outcome : Outcome) → r ≡ q → sealed ≡ [] → outcome ≡ outcome_of (run_of q.after) → Fitted opens checks keys r → sends r.after ≡ false → IsStep (tested_by opens checks) keys (step_of (record { before = q.before; after = q.after; taken = Some q.taken; opened = q.opened; got = q.got; issued = None; sealed = sealed; reply = None; outcome = outcome }))
  ended_is r q sealed outcome v n c f e =
      subst (λ (os : List Opening). IsStep (tested_by opens checks) keys (step_of (record { before = q.before; after = q.after; taken = Some q.taken; opened = q.opened; got = q.got; issued = None; sealed = os; reply = None; outcome = outcome }))) (sym n)
      (subst (λ (x : Outcome). IsStep (tested_by opens checks) keys (step_of (record { before = q.before; after = q.after; taken = Some q.taken; opened = q.opened; got = q.got; issued = None; sealed = []; reply = None; outcome = x }))) (sym c)
      (subst (λ (x : Ready). IsStep (tested_by opens checks) keys (step_of (record { before = x.before; after = x.after; taken = Some x.taken; opened = x.opened; got = x.got; issued = None; sealed = []; reply = None; outcome = outcome_of (run_of x.after) }))) v
      (ended opens checks keys r f e)))
