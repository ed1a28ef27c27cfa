use Rattle.std.proofs.Common.{arith, rules, sym, ◌∙◌}
use Rattle.std.proofs.lemmas.Result.{err_from_is_err_and}
use Rattle.script_text.proofs.Again.{at}
use Rattle.script_text.proofs.Commas.{many_commas}
use Rattle.script_text.proofs.Readings.{Found, err_is, fails_reading, found_reading, is_nil, not_both, not_nil, not_small, not_whole}
use Rattle.script_text.proofs.terms.read_term.Goals as goal

pub returns-then-count_commas-clause-grammar : goal.returns-then-count_commas-clause-grammar
returns-then-count_commas-clause-grammar c =
    λ _ w r. many_commas c.args.sent.now c.args.text.now (omega (arith, c.if-count_commas.true, c.count_commas.ensures)) w r

pub returns-in_err-term-clause-grammar : goal.returns-in_err-term-clause-grammar
returns-in_err-term-clause-grammar c =
    let p = err_from_is_err_and c.from_residual.result c.from_residual.ensures.1 in
    λ is w r. fails_reading c.in_err-term.field-0.0 c.args.sent.now c.args.text.now (at c.term.new.self.rest.now c.term.new.marks) c.in_err-term.ensures (sym p.2 ∙ err_is p.0 _ c.from_residual.result p.1 is) w r

pub returns-then-not-is_empty-clause-grammar : goal.returns-then-not-is_empty-clause-grammar
returns-then-not-is_empty-clause-grammar c =
    λ _ w r. not_whole c.args.sent.now c.args.text.now c.in_ok-term.term (at c.term.new.self.rest.now c.term.new.marks) c.in_ok-term.ensures (not_nil c.term.new.self.rest.now c.is_empty.result c.is_empty.ensures (search rules)) w r

pub returns-then-not-branch-clause-grammar : goal.returns-then-not-branch-clause-grammar
returns-then-not-branch-clause-grammar c =
    λ _ w r. not_small c.args.sent.now c.args.text.now c.in_ok-term.term (at c.term.new.self.rest.now c.term.new.marks) c.in_ok-term.ensures (λ small. not_both c.in_ok-in_limits.field-0 (search rules) (c.in_ok-in_limits.ensures.answer.1 small)) w r

pub returns-then-not-marks-clause-reference : goal.returns-then-not-marks-clause-reference
returns-then-not-marks-clause-reference c =
    λ _. let f : Found c.args.sent.now c.args.text.now c.in_ok-term.term c.term.new.marks.named = found_reading c.args.sent.now c.args.text.now c.in_ok-term.term (at c.term.new.self.rest.now c.term.new.marks) c.in_ok-term.ensures (is_nil c.term.new.self.rest.now c.is_empty.result c.is_empty.ensures (search rules)) (c.in_ok-in_limits.ensures.answer.0 (search rules)) in
    (f.it, f.reading, f.named ∙ search rules)

pub returns-clause-ok : goal.returns-clause-ok
returns-clause-ok c =
    let f : Found c.args.sent.now c.args.text.now c.in_ok-term.term c.term.new.marks.named = found_reading c.args.sent.now c.args.text.now c.in_ok-term.term (at c.term.new.self.rest.now c.term.new.marks) c.in_ok-term.ensures (is_nil c.term.new.self.rest.now c.is_empty.result c.is_empty.ensures (search rules)) (c.in_ok-in_limits.ensures.answer.0 (search rules)) in
    (f.it, f.reading, f.named ∙ search rules, f.made)
