-- Which texts a list of rules lets through.
use Rattle.std.specs.Prelude.{ℕ, Bool, not, ◌&&◌, ◌||◌, ◌==◌, nat_le, List, length}
use Rattle.std.specs.List.{list_any, starts_with}
use denote.Enum.Bare.{sameb}
use Rattle.mech_rows.specs.declared.Mech.{Mech}
use Rattle.mech_rows.specs.declared.Slot.{Slot}
use Rattle.mech_rows.specs.contracts.Mech as mechs
use Rattle.mech_rows.specs.contracts.Slot as slots
use Rattle.text_hooks.specs.declared.rule.Rule.{Rule}

-- the rule speaks of this slot of this mechanism
unfoldable pub names : Rule → Mech → Slot → Bool
names rule m s = sameb mechs.the_type rule.mech m && sameb slots.the_type rule.slot s

-- the text is no longer than the rule says and begins with its prefix
unfoldable pub admits : Rule → List ℕ → Bool
admits rule text = nat_le (length text) rule.longest && starts_with (λ a b. a == b) text rule.prefix

-- no rule speaks of the slot, or one that does admits the text
abbrev pub allowed : List Rule → Mech → Slot → List ℕ → Bool
allowed rules m s text = not (list_any (λ r. names r m s) rules) || list_any (λ r. names r m s && admits r text) rules
