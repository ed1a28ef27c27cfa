use Rattle.std.proofs.Common.{◌∷◌, []}
use Rattle.mech_rows.specs.declared.kinds.Role.TheVariants.{P}
use Rattle.mech_rows.specs.declared.kinds.Slot.TheVariants.{Fa}
use Rattle.mech_rows.specs.Facts.{peer_of}
use Rattle.agreement_laws.specs.Sound.{AgreesAt, opened}
use Rattle.agreement_laws.proofs.First.{first_is_one}
use Rattle.agreement_laws.proofs.laws.partners_are_determined.Goals as goal

pub returns : goal.returns
returns c =
    record {
      one = λ t slots run. record {
        partner = first_is_one (AgreesAt t (peer_of run.head.role) slots run) (opened t);
        server = first_is_one (AgreesAt t P (Fa ∷ []) run) (opened t);
      };
    }
