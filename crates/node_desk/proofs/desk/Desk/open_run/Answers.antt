use Rattle.std.proofs.Common.{◌+◌, ◌<◌, ◌≡◌, ℕ, Some, length, refl, sym, ap, ◌∙◌, arith}
use Rattle.node_desk.proofs.Needed.{opening-is, steps-open}
use Rattle.node_desk.proofs.Kept.{kept-open, kept-more}
use Rattle.node_desk.proofs.Mays.{few-opened, opening-other}
use Rattle.node_desk.proofs.Causes.{err-all}
use Rattle.node_desk.proofs.desk.Desk.open_run.Goals as goal

pub overflow_cast-run : goal.overflow_cast-run
overflow_cast-run g c = let few : length c.as_slice-opened.result.now < 4_294_967_295 = few-opened c.self.inside.ring c.self.inside.running (length c.as_slice-opened.result.now) c.args.head.now (sym c.in_default.ensures) in omega arith

pub overflow_add-run : goal.overflow_add-run
overflow_add-run g c = let few : length c.as_slice-opened.result.now < 4_294_967_295 = few-opened c.self.inside.ring c.self.inside.running (length c.as_slice-opened.result.now) c.args.head.now (sym c.in_default.ensures) in omega arith

pub returns-in-Some-clause-refused : goal.returns-in-Some-clause-refused
returns-in-Some-clause-refused g c other =
    rw (← c.self.view_is) (sym (opening-is c.self.inside.ring c.self.inside.first c.self.inside.log.events c.self.inside.run_slots.items c.self.inside.running c.args.head.now c.self.invariant.held c.self.invariant.open_is) ∙ (rw c.as_slice-opened.ensures.value at (sym c.in-Some.ensures)))

pub returns-in-Some-clause-memory : goal.returns-in-Some-clause-memory
returns-in-Some-clause-memory g c is = absurd (opening-other c.self.inside.ring c.self.inside.running (length c.as_slice-opened.result.now) c.args.head.now (sym c.in-Some.ensures ∙ ap Some is))

pub invariant_of-self-in_err-begin : goal.invariant_of-self-in_err-begin
invariant_of-self-in_err-begin g c =
    rw c.reserve.ensures.items (kept-more _ _ _ _ _ _ _ _ _ _ _ _ _ _ _ c.self.invariant c.reserve-2.ensures.kept refl refl (λ a h. h)
    (let room = c.self.invariant.room_is in let grows = c.reserve-2.ensures.grows in omega (arith, room, grows)))

pub invariant_of-self-2 : goal.invariant_of-self-2
invariant_of-self-2 g c =
    kept-open c.self.inside.ring c.self.inside.first c.self.inside.log.events _ c.self.inside.issuer _ _ _ c.self.inside.run_slots.items _ c.self.inside.running _ _ _ _ c.args.head.now c.args.texts.now c.in_ok-begin.field-0 c.self.invariant
    (rw (c.reserve-2.ensures.kept, c.copied-own.ensures.value, c.in_ok-sent.ensures.equal) at c.push.ensures.added)
    (rw c.copied-own.ensures.value at c.copied-own.ensures.is_head)
    (rw (← c.self.view_is) at c.requires.own)
    (rw c.as_slice-opened.ensures.value at (sym c.in_default.ensures))
    (rw c.as_slice-opened.ensures.value refl)
    c.in_ok-begin.ensures.opened
    (rw c.reserve.ensures.items at c.push_reserved.ensures.items)
    refl
    (let room = c.in_ok-reserve-2.ensures.room in let after = c.push.ensures.room in omega (arith, room, after))

pub returns-clause-fit : goal.returns-clause-fit
returns-clause-fit g c =
    rw (← c.self.view_is) (sym (opening-is c.self.inside.ring c.self.inside.first c.self.inside.log.events c.self.inside.run_slots.items c.self.inside.running c.args.head.now c.self.invariant.held c.self.invariant.open_is) ∙ (rw c.as_slice-opened.ensures.value at (sym c.in_default.ensures)))

pub returns-clause-number : goal.returns-clause-number
returns-clause-number g c =
    rw (← c.self.view_is, c.as_slice-opened.ensures.value) (ap (λ (n : ℕ). n + 1) (sym c.self.invariant.held.count))

pub returns-clause-steps : goal.returns-clause-steps
returns-clause-steps g c =
    rw (← c.self.view_is) (steps-open c.self.inside.ring c.self.inside.first c.self.inside.log.events _ c.self.inside.run_slots.items c.self.inside.running _ c.args.head.now c.args.texts.now c.self.invariant.held c.self.invariant.open_is
    (rw (c.reserve-2.ensures.kept, c.copied-own.ensures.value, c.in_ok-sent.ensures.equal) at c.push.ensures.added)
    (rw c.copied-own.ensures.value at c.copied-own.ensures.is_head)
    (rw (← c.self.view_is) at c.requires.own)
    (rw c.as_slice-opened.ensures.value at (sym c.in_default.ensures))
    (rw c.as_slice-opened.ensures.value refl))

pub returns-in_err-sent-clause-memory : goal.returns-in_err-sent-clause-memory
returns-in_err-sent-clause-memory g c =
    err-all _ c.from_residual.result (λ e is. rw (← c.self.view_is) (sym (opening-is c.self.inside.ring c.self.inside.first c.self.inside.log.events c.self.inside.run_slots.items c.self.inside.running c.args.head.now c.self.invariant.held c.self.invariant.open_is) ∙ (rw c.as_slice-opened.ensures.value at (sym c.in_default.ensures))))

pub returns-in_err-reserve-clause-memory : goal.returns-in_err-reserve-clause-memory
returns-in_err-reserve-clause-memory g c =
    err-all _ c.from_residual-in_err-reserve.result (λ e is. rw (← c.self.view_is) (sym (opening-is c.self.inside.ring c.self.inside.first c.self.inside.log.events c.self.inside.run_slots.items c.self.inside.running c.args.head.now c.self.invariant.held c.self.invariant.open_is) ∙ (rw c.as_slice-opened.ensures.value at (sym c.in_default.ensures))))

pub returns-in_err-reserve-2-clause-memory : goal.returns-in_err-reserve-2-clause-memory
returns-in_err-reserve-2-clause-memory g c =
    err-all _ c.from_residual-in_err-reserve-2.result (λ e is. rw (← c.self.view_is) (sym (opening-is c.self.inside.ring c.self.inside.first c.self.inside.log.events c.self.inside.run_slots.items c.self.inside.running c.args.head.now c.self.invariant.held c.self.invariant.open_is) ∙ (rw c.as_slice-opened.ensures.value at (sym c.in_default.ensures))))

pub returns-in_err-begin-clause-memory : goal.returns-in_err-begin-clause-memory
returns-in_err-begin-clause-memory g c =
    err-all _ c.from_residual-in_err-begin.result (λ e is. rw (← c.self.view_is) (sym (opening-is c.self.inside.ring c.self.inside.first c.self.inside.log.events c.self.inside.run_slots.items c.self.inside.running c.args.head.now c.self.invariant.held c.self.invariant.open_is) ∙ (rw c.as_slice-opened.ensures.value at (sym c.in_default.ensures))))
