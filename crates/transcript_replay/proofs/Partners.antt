-- The partner that a history tells is that of its runs with notes as terms.
use Rattle.std.proofs.Common.{◌≡◌, ℕ, Bool, true, false, ◌&&◌, List, [], ◌∷◌, map, Option, Some, None, option_map, if◌then◌else◌, refl, ap₂}
use Rattle.std.specs.Prelude.{is_some, slice_get, zero, suc}
use Rattle.mech_rows.specs.declared.kinds.Mech.{Mech}
use Rattle.mech_rows.specs.declared.kinds.Role.{Role}
use Rattle.mech_rows.specs.declared.kinds.Slot.{Slot}
use Rattle.mech_rows.specs.declared.notes.Value.{Value}
use Rattle.mech_rows.specs.Facts.{peer_of, same_slot, same_mech, same_role}
use Rattle.mech_rows.specs.Found.{found}
use Rattle.mech_rows.specs.Notes.{noted, terms_of}
use Rattle.mech_rows.specs.Rows.{agreed_of}
use Rattle.mech_rows.specs.Runs.{Notes}
use Rattle.mech_rows.specs.Table.{fill, filled_agreed}
use Rattle.agreement_laws.specs.declared.history.Happened.{Happened}
use Rattle.agreement_laws.specs.Histories.{HistoryOf}
use Rattle.agreement_laws.specs.Partners.{agrees as agrees_by, alike, first_where, partner_of, partner_on, same_names}
use Rattle.world_run.specs.Views.{shown_of, told_by}
use Rattle.transcript_replay.specs.Completions.{agreeing_on, agreeing_with, agrees, first_agreeing, numbered}

found_term : (ns : List (Slot × Value)) (s : Slot) → noted ns s ≡ found (terms_of ns) s
found_term [] s = refl
found_term (n ∷ ns) s = go (found_term ns s) (same_slot n.0 s) refl
  where
    go : noted ns s ≡ found (terms_of ns) s → (b : Bool) → same_slot n.0 s ≡ b → noted (n ∷ ns) s ≡ found (terms_of (n ∷ ns)) s
    go more true e = rw e refl
    go more false e = rw e more

same_notes : (ns : List (Slot × Value)) → noted ns ≡ found (terms_of ns)
same_notes ns = λ i s. found_term ns s i

agrees_is : (slots : List Slot) (c r : Happened) → agrees_by (peer_of c.head.role) slots r c ≡ agrees slots (shown_of c) (shown_of r)
agrees_is slots c r =
    ap₂ (λ (n m : Notes). ((same_mech r.head.mech c.head.mech && same_role r.head.role (peer_of c.head.role)) && same_names r.head c.head) && alike n m slots) (same_notes r.notes) (same_notes c.notes)

first_is : (slots : List Slot) (c : Happened) (runs : List Happened) → first_where (λ r. agrees_by (peer_of c.head.role) slots r c) runs ≡ first_agreeing slots (shown_of c) (map shown_of runs)
first_is slots c [] = refl
first_is slots c (r ∷ rs) = ap₂ (λ (b : Bool) (o : Option ℕ). if b then Some r.run else o) (agrees_is slots c r) (first_is slots c rs)

pub partner_is : (h : HistoryOf) (c : Happened) → partner_of h.happened c ≡ agreeing_with (told_by h) (shown_of c)
partner_is h c =
    elim (agreed_of c.head.mech c.head.role) as (λ (o : Option (List Slot)). partner_on h.happened c o ≡ agreeing_on (told_by h) (shown_of c) o) [
      | None ↦ refl
      | Some slots ↦ first_is slots c h.happened
    ]

pub some_filled : (m : Mech) (r : Role) → is_some (filled_agreed m r) ≡ is_some (agreed_of m r)
some_filled m r = go (agreed_of m r)
  where
    go : (o : Option (List Slot)) → is_some (option_map (fill 6) o) ≡ is_some o
    go None = refl
    go (Some slots) = refl

-- a run by its number, with its notes as terms
slice_shown : (runs : List Happened) (n : ℕ) → slice_get (map shown_of runs) n ≡ option_map shown_of (slice_get runs n)
slice_shown [] n = refl
slice_shown (r ∷ rs) zero = refl
slice_shown (r ∷ rs) (suc n) = slice_shown rs n

pub numbered_shown : (runs : List Happened) (n : ℕ) → numbered (map shown_of runs) n ≡ option_map shown_of (numbered runs n)
numbered_shown runs zero = refl
numbered_shown runs (suc n) = slice_shown runs n
