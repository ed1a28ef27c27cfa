-- The partner of a completed run, computed from the runs of a history.
use Rattle.std.specs.Prelude.{ℕ, ◌==◌, Bool, true, false, ◌&&◌, List, [], ◌∷◌, Option, Some, None, if◌then◌else◌}
use Rattle.term_values.specs.Trees.{Tree}
use Rattle.mech_rows.specs.declared.kinds.Role.{Role}
use Rattle.mech_rows.specs.declared.kinds.Slot.{Slot}
use Rattle.mech_rows.specs.Rows.{agreed_of}
use Rattle.mech_rows.specs.Facts.{same_mech, same_role, peer_of}
use Rattle.mech_rows.specs.Heads.{Head}
use Rattle.mech_rows.specs.Notes.{noted}
use Rattle.mech_rows.specs.Runs.{Notes, Run}
use Rattle.term_values.specs.Same.{same}
use Rattle.agreement_laws.specs.declared.history.Happened.{Happened}

-- the two values are there and equal
abbrev pub same_noted : Option Tree → Option Tree → Bool
same_noted (Some t) (Some u) = same t u
same_noted _ _ = false

-- each of these slots is noted in both, with equal values
abbrev pub alike : Notes → Notes → List Slot → Bool
alike n m [] = true
alike n m (s ∷ ss) = same_noted (n s) (m s) && alike n m ss

-- that, where the slots stand in places of which some are empty
abbrev pub alike_filled : Notes → Notes → List (Option Slot) → Bool
alike_filled n m [] = true
alike_filled n m (None ∷ ss) = alike_filled n m ss
alike_filled n m (Some s ∷ ss) = same_noted (n s) (m s) && alike_filled n m ss

-- the same third party, or none in both
abbrev pub same_third : Option ℕ → Option ℕ → Bool
same_third None None = true
same_third (Some n) (Some m) = n == m
same_third _ _ = false

-- the two heads have the same names
abbrev pub same_names : Head → Head → Bool
same_names h g = (h.a == g.a) && ((h.b == g.b) && same_third h.p g.p)

-- the run has that role, and has mechanism and names alike with the completed one
abbrev pub is_peer : Role → Happened → Happened → Bool
is_peer role r c = (same_mech r.head.mech c.head.mech && same_role r.head.role role) && same_names r.head c.head

-- and these slots too
abbrev pub agrees : Role → List Slot → Happened → Happened → Bool
agrees role slots r c = is_peer role r c && alike (noted r.notes) (noted c.notes) slots

-- that, where the slots stand in places of which some are empty
abbrev pub agrees_filled : Role → List (Option Slot) → Happened → Happened → Bool
agrees_filled role slots r c = is_peer role r c && alike_filled (noted r.notes) (noted c.notes) slots

-- the number of the first run that passes the test
abbrev pub first_where : (Happened → Bool) → List Happened → Option ℕ
first_where test [] = None
first_where test (r ∷ rs) = if test r then Some r.run else first_where test rs

-- the first run that agrees with the completed one on these slots; none where it claims no agreement
abbrev pub partner_on : List Happened → Happened → Option (List Slot) → Option ℕ
partner_on runs c None = None
partner_on runs c (Some slots) = first_where (λ r. agrees (peer_of c.head.role) slots r c) runs

-- the partner of the completed run among these runs, which stand in the order of opening
abbrev pub partner_of : List Happened → Happened → Option ℕ
partner_of runs c = partner_on runs c (agreed_of c.head.mech c.head.role)

-- the run that an entry of a history shows; its next pass plays no part in agreement
abbrev pub run_of : Happened → Run
run_of r = record { head = r.head; next = 0; notes = noted r.notes }
