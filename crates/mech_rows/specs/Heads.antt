-- Who takes part in a run, and as what.
use Rattle.std.specs.Prelude.{◌≡◌, ℕ, Bool, true, false, Option, Some, None, MatchOption}
use Rattle.mech_rows.specs.declared.kinds.Mech.{Mech}
use Rattle.mech_rows.specs.declared.kinds.Role.{Role}
use Rattle.mech_rows.specs.declared.kinds.Role.TheVariants.{A, B, P}
use Rattle.mech_rows.specs.Rows.{has_third}

-- the mechanism of a run, its role, and the names of A, B and, where there is one, the third party
pub record Head : Type 0 where
  pub mech : Mech
  pub role : Role
  pub a : ℕ
  pub b : ℕ
  pub p : Option ℕ

-- the head of these fields
abbrev pub head_with : Mech → Role → ℕ → ℕ → Option ℕ → Head
head_with mech role a b p = record { mech = mech; role = role; a = a; b = b; p = p }

-- a name that is given; names are not 0
abbrev pub name_or_none : Option ℕ → ℕ
name_or_none (Some n) = n
name_or_none None = 0

-- the name of a role
abbrev pub name_of : Head → Role → ℕ
name_of h A = h.a
name_of h B = h.b
name_of h P = name_or_none h.p

-- the name of its own role
abbrev pub me : Head → ℕ
me h = name_of h h.role

-- a name is given
abbrev pub is_given : Option ℕ → Bool
is_given (Some _) = true
is_given None = false

-- role P only where a third party is given
abbrev pub RoleGiven : Role → Bool → Type 0
RoleGiven P given = given ≡ true
RoleGiven _ _ = Unit {0}

-- a third party is given exactly to a mechanism that has one, and role P only there
abbrev pub IsHead : Head → Type 0
IsHead h = (is_given h.p ≡ has_third h.mech) × RoleGiven h.role (is_given h.p)

-- that head, and none exactly where it is no head of its mechanism
abbrev pub IsHeadOrNone : Head → Option Head → Type 0
IsHeadOrNone h result = MatchOption result (¬ IsHead h) (λ head. head ≡ h)
