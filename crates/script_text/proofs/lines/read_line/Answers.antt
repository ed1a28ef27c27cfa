use Rattle.std.proofs.Common.{arith, ◌≡◌, ℕ, List, Bor, false, map, refl, sym, ap, ◌∙◌}
use Rattle.std.proofs.lemmas.Result.{err_from_is_err_and}
use Rattle.script_text.specs.LineReading.{IsGiveWords, plain_words}
use Rattle.script_text.specs.Lines.{is_silent, give, silent, words_of}
use Rattle.script_text.proofs.FewWords.{few_blanks}
use Rattle.script_text.proofs.LineTexts.{fails_plain, given_line, given_said, no_given, no_line, plain_said}
use Rattle.script_text.proofs.Readings.{err_is}
use Rattle.script_text.proofs.lines.read_line.Goals as goal

abbrev seen : List (Bor (List ℕ)) → List (List ℕ)
seen words = map (λ w. w.now) words

pub returns-then-is_silent-clause-ok : goal.returns-then-is_silent-clause-ok
returns-then-is_silent-clause-ok c = (silent, record { written = sym c.is_silent.ensures ∙ c.if-is_silent.true; values = tt }, refl, refl)

pub returns-then-count_blanks-gt-BLANKS_MAX-clause-grammar : goal.returns-then-count_blanks-gt-BLANKS_MAX-clause-grammar
returns-then-count_blanks-gt-BLANKS_MAX-clause-grammar c =
    let loud : is_silent c.args.text.now ≡ false = sym c.is_silent.ensures ∙ c.if-is_silent.false in
    λ _ w line. absurd (omega (arith, c.if-count_blanks-gt-BLANKS_MAX.true, c.count_blanks.ensures, few_blanks c.args.sent.now c.args.text.now w loud line))

pub returns-in-Some-clause-ok : goal.returns-in-Some-clause-ok
returns-in-Some-clause-ok c =
    let words : IsGiveWords (words_of c.args.text.now) c.in-Some.run'.now c.in-Some.term.now = sym c.in_ok-words.ensures ∙ ap seen (sym c.deref.ensures.value) ∙ c.in-Some.ensures.some in
    given_said c.args.sent.now c.args.text.now c.in-Some.run'.now c.in-Some.term.now c.give.result words c.give.ensures.ok

pub returns-in-Some-clause-reference : goal.returns-in-Some-clause-reference
returns-in-Some-clause-reference c =
    let words : IsGiveWords (words_of c.args.text.now) c.in-Some.run'.now c.in-Some.term.now = sym c.in_ok-words.ensures ∙ ap seen (sym c.deref.ensures.value) ∙ c.in-Some.ensures.some in
    λ bad. let g = c.give.ensures.reference bad in (give g.0 g.1, given_line c.args.sent.now c.args.text.now c.in-Some.run'.now c.in-Some.term.now g.0 g.1 words g.2 g.3, g.4)

pub returns-in-Some-clause-grammar : goal.returns-in-Some-clause-grammar
returns-in-Some-clause-grammar c =
    let words : IsGiveWords (words_of c.args.text.now) c.in-Some.run'.now c.in-Some.term.now = sym c.in_ok-words.ensures ∙ ap seen (sym c.deref.ensures.value) ∙ c.in-Some.ensures.some in
    let loud : is_silent c.args.text.now ≡ false = sym c.is_silent.ensures ∙ c.if-is_silent.false in
    λ bad. no_given c.args.sent.now c.args.text.now c.in-Some.run'.now c.in-Some.term.now loud words (c.give.ensures.grammar bad)

pub returns-in_err-plain-in-None-clause-grammar : goal.returns-in_err-plain-in-None-clause-grammar
returns-in_err-plain-in-None-clause-grammar c =
    let p = err_from_is_err_and c.from_residual-in_err-plain-in-None.result c.from_residual-in_err-plain-in-None.ensures.1 in
    let same : seen c.deref.result.now ≡ words_of c.args.text.now = ap seen c.deref.ensures.value ∙ c.in_ok-words.ensures in
    let again : seen c.deref-in-None.result.now ≡ words_of c.args.text.now = ap seen c.deref-in-None.ensures.value ∙ c.in_ok-words.ensures in
    let loud : is_silent c.args.text.now ≡ false = sym c.is_silent.ensures ∙ c.if-is_silent.false in
    λ is. no_line c.args.sent.now c.args.text.now loud (λ run term words. c.in-None.ensures.none refl run term (same ∙ words))
    (ap plain_words (sym again) ∙ fails_plain c.in_err-plain-in-None.field-0.0 (seen c.deref-in-None.result.now) c.in_err-plain-in-None.ensures.says (sym p.2 ∙ err_is p.0 _ c.from_residual-in_err-plain-in-None.result p.1 is))

pub returns-clause-ok : goal.returns-clause-ok
returns-clause-ok c =
    let again : seen c.deref-in-None.result.now ≡ words_of c.args.text.now = ap seen c.deref-in-None.ensures.value ∙ c.in_ok-words.ensures in
    plain_said c.args.sent.now c.args.text.now (seen c.deref-in-None.result.now) c.in_ok-plain-in-None.field-0 again c.in_ok-plain-in-None.ensures.says
