-- What a reader of values answers. Private calls alone cite this; what a ring says stands in KeyRings.
use Rattle.std.specs.Prelude.{◌≡◌, Option, Some, None, Result, Ok, Err}
use Rattle.ring_text.specs.declared.fault.RingFault.{RingFault}
use Rattle.ring_text.specs.declared.fault.RingFault.TheVariants as fault

-- what a reader returned, seen by view, is what the value says, unless memory ran out
abbrev pub Gives : {X Y : Type 0} → (X → Y) → Result X RingFault → Option Y → Type 0
Gives view (Ok x) said = said ≡ Some (view x)
Gives view (Err fault.Bad) said = said ≡ None
Gives view (Err fault.Memory) said = Unit {0}
