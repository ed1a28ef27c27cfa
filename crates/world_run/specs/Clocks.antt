-- The clocks of a world's parties.
use Rattle.std.specs.Prelude.{◌≡◌, ℕ, max, ◌==◌, List, [], ◌∷◌, Result, Ok, Err, if◌then◌else◌}
use Rattle.term_values.specs.Trees.{Among}
use Rattle.mech_rows.specs.declared.refusal.Refusal.{Refusal}
use Rattle.mech_rows.specs.declared.refusal.Refusal.TheVariants.{UnknownParty}
use Rattle.agreement_laws.specs.Configs.{names_in}
use Rattle.world_run.specs.Views.{WorldView}

-- the clock of the first party of that name, 0 where there is none
abbrev pub clock_by : List ℕ → List ℕ → ℕ → ℕ
clock_by (m ∷ ms) (t ∷ ts) n = if m == n then t else clock_by ms ts n
clock_by _ _ n = 0

-- the clocks, with that of the first party of that name raised to the time
abbrev pub raised_by : List ℕ → List ℕ → ℕ → ℕ → List ℕ
raised_by (m ∷ ms) (t ∷ ts) n time = if m == n then max t time ∷ ts else t ∷ raised_by ms ts n time
raised_by _ ts n time = ts

-- the clock of a party
abbrev pub clock_in : WorldView → ℕ → ℕ
clock_in w n = clock_by (names_in w.config) w.clocks n

-- the world with that clock raised
abbrev pub raised : WorldView → ℕ → ℕ → WorldView
raised w n time = record w { clocks = raised_by (names_in w.config) w.clocks n time }

-- the clock of that party is raised and answered; else there is no such party, and nothing has changed
abbrev pub Raises : WorldView → ℕ → ℕ → Result ℕ Refusal → WorldView → Type 0
Raises w n time (Ok now) v = Among n (names_in w.config) × (v ≡ raised w n time) × (now ≡ clock_in v n)
Raises w n time (Err e) v = (Among n (names_in w.config) → ⊥) × (e ≡ UnknownParty) × (v ≡ w)
