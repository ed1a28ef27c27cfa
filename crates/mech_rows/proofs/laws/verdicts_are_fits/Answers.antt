use Rattle.mech_rows.proofs.VerdictFits.{verdict_fits}
use Rattle.mech_rows.proofs.Welcomed.{verdict_taken, one_welcome}
use Rattle.mech_rows.proofs.laws.verdicts_are_fits.Goals as goal

pub returns : goal.returns
returns c = record {
  taken = λ j s p r m t. verdict_fits j.opens j.checks j.allowed j.keys s p m t r;
  fit = λ j s p r m n o g. verdict_taken j.opens j.checks j.allowed j.keys s p m n o g r;
  one = λ j s p r m n k o q g i. one_welcome j.opens j.checks j.allowed j.keys s p m n k o q g i r;
}
