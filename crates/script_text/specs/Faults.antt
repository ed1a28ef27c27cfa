-- The reason of a line that a reader refused.
use Rattle.script_text.specs.declared.reading.ReadFault.{ReadFault}
use Rattle.script_text.specs.declared.reading.ReadFault.TheVariants as fault
use Rattle.script_text.specs.declared.bad.BadLine.{BadLine}
use Rattle.script_text.specs.declared.bad.BadLine.TheVariants.{Grammar, Memory}

-- what is malformed is a fault of grammar
abbrev pub bad_of : ReadFault → BadLine
bad_of fault.Malformed = Grammar
bad_of fault.Memory = Memory
