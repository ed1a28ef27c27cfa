use Rattle.std.proofs.Common.{arith, rules}
use Rattle.tagged_codec.proofs.Grammar.{length_of_spelling}
use Rattle.tagged_codec.proofs.writing.encode.Goals as goal

pub returns-then-depth-gt-LEVELS_MAX-clause-large : goal.returns-then-depth-gt-LEVELS_MAX-clause-large
returns-then-depth-gt-LEVELS_MAX-clause-large c = λ e h. omega (arith, h.levels, c.depth.ensures, c.if-depth-gt-LEVELS_MAX.true)

pub returns-then-not-within-clause-large : goal.returns-then-not-within-clause-large
returns-then-not-within-clause-large c =
    λ e h. absurd (let fits = c.within.ensures.length.1 (omega (arith, h.length, length_of_spelling c.args.term.now h.fits)) in search rules)

pub returns-clause-ok : goal.returns-clause-ok
returns-clause-ok c =
    let put = c.in_ok-put.ensures.ok in
    record {
      limits = record {
        fits = put.0;
        levels = omega (arith, c.depth.ensures, c.if-depth-gt-LEVELS_MAX.false);
        length = omega (arith, c.within.ensures.length.0 c.if-not-within.false, length_of_spelling c.args.term.now put.0);
      };
      spelled = rw c.new-out.ensures.items at put.1;
    }
