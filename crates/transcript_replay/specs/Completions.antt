-- What is printed of a run that is done: what it may rely on, by the history.
use Rattle.std.specs.Prelude.{ℕ, zero, suc, ◌+◌, ◌==◌, Bool, not, ◌&&◌, ◌||◌, List, [], ◌∷◌, ◌++◌, length, slice_get, Option, Some, None, is_some, if◌then◌else◌}
use Rattle.std.specs.List.{list_any}
use Rattle.term_values.specs.Trees.{Tree}
use Rattle.mech_rows.specs.declared.kinds.Role.{Role}
use Rattle.mech_rows.specs.declared.kinds.Slot.{Slot}
use Rattle.mech_rows.specs.Facts.{same_mech, same_role, peer_of}
use Rattle.mech_rows.specs.Found.{found}
use Rattle.mech_rows.specs.Heads.{Head, name_of}
use Rattle.mech_rows.specs.Rows.{agreed_of, pairs_of}
use Rattle.agreement_laws.specs.Partners.{alike, same_names}
use Rattle.world_run.specs.Views.{Shown, Told, WorldView, sent_in, told_of}
use Rattle.transcript_replay.specs.Printed.{done_line, sent_line}

-- number n of these, from 1
abbrev pub numbered : {X : Type 0} → List X → ℕ → Option X
numbered xs zero = None
numbered xs (suc n) = slice_get xs n

-- the run has the other of the roles A and B, and mechanism, names and these slots alike with the completed one
abbrev pub agrees : List Slot → Shown → Shown → Bool
agrees slots c r = ((same_mech r.head.mech c.head.mech && same_role r.head.role (peer_of c.head.role)) && same_names r.head c.head) && alike (found r.notes) (found c.notes) slots

-- the number of the first run that agrees so
abbrev pub first_agreeing : List Slot → Shown → List Shown → Option ℕ
first_agreeing slots c [] = None
first_agreeing slots c (r ∷ rs) = if agrees slots c r then Some r.run else first_agreeing slots c rs

-- one of these pairs is of the two names, in either order
abbrev pub is_pair_of : ℕ → ℕ → ℕ × ℕ → Bool
is_pair_of x y p = (p.0 == x && p.1 == y) || (p.0 == y && p.1 == x)

-- a long-term pair of the run's row is among the revealed ones
abbrev pub is_revealed : List (ℕ × ℕ) → Head → Bool
is_revealed revealed h = list_any (λ (r : Role × Role). list_any (is_pair_of (name_of h r.0) (name_of h r.1)) revealed) (pairs_of h.mech)

-- the first run that agrees with the completed one on these slots
abbrev pub agreeing_on : Told → Shown → Option (List Slot) → Option ℕ
agreeing_on t c None = None
agreeing_on t c (Some slots) = first_agreeing slots c t.happened

-- that, on the slots of its row
abbrev pub agreeing_with : Told → Shown → Option ℕ
agreeing_with t c = agreeing_on t c (agreed_of c.head.mech c.head.role)

-- the completed run has a claim: its role agrees on something, and no long-term pair of its row is revealed
abbrev pub has_claim : Told → Head → Bool
has_claim t h = is_some (agreed_of h.mech h.role) && not (is_revealed t.revealed h)

-- what a completed run claims: nothing; or that the first run that agrees is its partner, where there is one
abbrev pub claim_of : Told → Shown → Option (Option ℕ)
claim_of t c = if has_claim t c.head then Some (agreeing_with t c) else None

-- the line of a run that is done; none of another
abbrev pub done_text : Told → Option Shown → List ℕ
done_text t None = []
done_text t (Some c) = if c.done then done_line c.run c.head (claim_of t c) else []

-- the line of a message, where there is one
abbrev pub message_text : ℕ → ℕ → Option Tree → List ℕ
message_text number run None = []
message_text number run (Some t) = sent_line number run t

-- the line of the message that was sent behind these, where one was
abbrev pub sent_text : List Tree → List Tree → ℕ → List ℕ
sent_text old new run = message_text (length old + 1) run (numbered new (length old + 1))

-- what a run did by an opening or a delivery: what it sent, and that it is done
abbrev pub doings_text : WorldView → WorldView → ℕ → List ℕ
doings_text old new run = sent_text (sent_in old.acts) (sent_in new.acts) run ++ done_text (told_of new) (numbered (told_of new).happened run)
