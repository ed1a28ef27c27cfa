-- Where a run may stand.
use Rattle.std.specs.Prelude.{ℕ, true, false}
use Rattle.text_hooks.specs.declared.phase.Phase.{Phase}

-- before a pass that its role sends, without a stamp
abbrev pub before_sending : ℕ → Phase
before_sending k = record { next = k; sends = true; receives = false; done = false; stamps = false }

-- before a pass that its role receives, with no stamp to issue later
abbrev pub before_receiving : ℕ → Phase
before_receiving k = record { next = k; sends = false; receives = true; done = false; stamps = false }

-- after the last pass
abbrev pub after_last : ℕ → Phase
after_last k = record { next = k; sends = false; receives = false; done = true; stamps = false }
