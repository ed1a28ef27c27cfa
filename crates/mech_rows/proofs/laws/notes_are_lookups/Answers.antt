use Rattle.mech_rows.proofs.Lookups.{lookups_are, states_are}
use Rattle.mech_rows.proofs.laws.notes_are_lookups.Goals as goal

pub returns : goal.returns
returns c = record {
  notes = lookups_are;
  states = λ s t r. states_are s t r.head r.next r.one r.other r.values;
}
