-- Why bytes are no message.
use Rattle.std.specs.Prelude.{◌≡◌, ◌⊎◌, ℕ, Bool, List, Option, Err}
use Rattle.term_values.specs.Trees.{Tree}
use Rattle.term_values.specs.declared.small.Key.{Key}
use Rattle.mech_rows.specs.declared.refusal.Refusal.{Refusal}
use Rattle.mech_rows.specs.declared.refusal.Refusal.TheVariants.{Malformed}
use Rattle.mech_rows.specs.Rings.{Ring, keys_in}
use Rattle.mech_rows.specs.Verdict.{State, verdict}
use Rattle.tagged_codec.specs.Faults.{IsWholeFault}
use Rattle.tagged_codec.specs.Grammar.{IsSpelling}
use Rattle.text_hooks.specs.Rules.{allowed}
use Rattle.text_hooks.specs.declared.rule.Rule.{Rule}

-- the refusal says where and why the bytes are no spelling
abbrev pub IsNoSpelling : List ℕ → Refusal → Type 0
IsNoSpelling bytes (Malformed place why) = IsWholeFault bytes place why
IsNoSpelling bytes _ = ⊥

-- the bytes are no spelling, or the verdict with this ring and these rules refuses the term that they spell
abbrev pub IsRefused : (Key → Tree → Option Tree) → (Key → Tree → Tree → Bool) → Ring → List Rule → State → List ℕ → Refusal → Type 0
IsRefused opens checks ring rules s bytes e = IsNoSpelling bytes e ⊎ ((t : Tree) × IsSpelling t bytes × (verdict opens checks (keys_in ring) (allowed rules) s t ≡ Err e))
