use Rattle.text_hooks.proofs.laws.states_are_runs.Goals as goal

pub returns : goal.returns
returns g c = record { runs = λ same. c.notes_are_lookups.ensures.states _ _ (record { head = same.head; next = same.next; one = c.phase-one.ensures.slots; other = c.phase-two.ensures.slots; values = same.values }) }
