-- A run as it is opened, with its notes as a list or as a function.
use Rattle.std.proofs.Common.{◌≡◌, List, [], ◌∷◌, Bool, true, false, if◌then◌else◌, Option, Some, None, refl, sym, ap, subst, ◌∙◌}
use Rattle.term_values.specs.Trees.{Tree, text}
use Rattle.mech_rows.specs.declared.kinds.Role.{Role}
use Rattle.mech_rows.specs.declared.kinds.Slot.{Slot}
use Rattle.mech_rows.specs.declared.kinds.Slot.TheVariants.{Ra, Rb, Ra2, Ta, Tb, Tp, Fa, Fb, X1, X2, X3, X4, X5, X6, X7, X8, X9, Fwd}
use Rattle.mech_rows.specs.Rows.{Pass, row_of}
use Rattle.mech_rows.specs.Facts.{same_slot}
use Rattle.mech_rows.specs.Heads.{Head}
use Rattle.mech_rows.specs.Found.{found}
use Rattle.mech_rows.specs.Openings.{Texts, text_for, sends_slot, opening_notes, opened_run, text_slots, sent_texts, opened_state}
use Rattle.mech_rows.specs.Verdict.{Noted, run_of}
use Rattle.mech_rows.proofs.RowUse.{same_slot_is}

-- what is noted of a text that is sent
abbrev own_text : Role → List Pass → Texts → Slot → Option Tree
own_text r ps texts s = if sends_slot r s ps then Some (text (text_for texts s)) else None

-- the slot is one of these
abbrev is_one : List Slot → Slot → Bool
is_one [] s = false
is_one (u ∷ us) s = if same_slot u s then true else is_one us s

abbrev noted : Bool → Option Tree → Option Tree
noted b o = if b then o else None

noted-none : (b : Bool) → noted b None ≡ None
noted-none true = refl
noted-none false = refl

sent-found : (r : Role) (ps : List Pass) (texts : Texts) (ss : List Slot) (s : Slot) → found (sent_texts r ps texts ss) s ≡ noted (is_one ss s) (own_text r ps texts s)
sent-found r ps texts [] s = refl
sent-found r ps texts (u ∷ us) s = go (sends_slot r u ps) refl (same_slot u s) refl (sent-found r ps texts us s)
  where
    rest : Noted
    rest = sent_texts r ps texts us

    value : Slot → Option Tree
    value x = Some (text (text_for texts x))

    here : same_slot u s ≡ true → (b : Bool) → sends_slot r u ps ≡ b → own_text r ps texts s ≡ (if b then value u else None)
    here is b sent = subst (λ (x : Slot). own_text r ps texts x ≡ (if b then value u else None)) (same_slot_is u s is) (ap (λ (c : Bool). if c then value u else None) sent)

    go : (b : Bool) → sends_slot r u ps ≡ b → (same : Bool) → same_slot u s ≡ same → found rest s ≡ noted (is_one us s) (own_text r ps texts s)
        → found (if b then (u, text (text_for texts u)) ∷ rest else rest) s ≡ noted (if same then true else is_one us s) (own_text r ps texts s)
    go true sent true is all = ap (λ (c : Bool). if c then value u else found rest s) is ∙ sym (here is true sent)
    go true sent false is all = ap (λ (c : Bool). if c then value u else found rest s) is ∙ all
    go false sent true is all = all ∙ (ap (noted (is_one us s)) (here is false sent) ∙ (noted-none (is_one us s) ∙ sym (here is false sent)))
    go false sent false is all = all

notes_at : (h : Head) (texts : Texts) (s : Slot) → found (opened_state h texts).notes s ≡ opening_notes h texts s
notes_at h texts Ra = sent-found h.role (row_of h.mech) texts text_slots Ra
notes_at h texts Rb = sent-found h.role (row_of h.mech) texts text_slots Rb
notes_at h texts Ra2 = sent-found h.role (row_of h.mech) texts text_slots Ra2
notes_at h texts Ta = sent-found h.role (row_of h.mech) texts text_slots Ta
notes_at h texts Tb = sent-found h.role (row_of h.mech) texts text_slots Tb
notes_at h texts Tp = sent-found h.role (row_of h.mech) texts text_slots Tp
notes_at h texts Fa = sent-found h.role (row_of h.mech) texts text_slots Fa
notes_at h texts Fb = sent-found h.role (row_of h.mech) texts text_slots Fb
notes_at h texts X1 = sent-found h.role (row_of h.mech) texts text_slots X1
notes_at h texts X2 = sent-found h.role (row_of h.mech) texts text_slots X2
notes_at h texts X3 = sent-found h.role (row_of h.mech) texts text_slots X3
notes_at h texts X4 = sent-found h.role (row_of h.mech) texts text_slots X4
notes_at h texts X5 = sent-found h.role (row_of h.mech) texts text_slots X5
notes_at h texts X6 = sent-found h.role (row_of h.mech) texts text_slots X6
notes_at h texts X7 = sent-found h.role (row_of h.mech) texts text_slots X7
notes_at h texts X8 = sent-found h.role (row_of h.mech) texts text_slots X8
notes_at h texts X9 = sent-found h.role (row_of h.mech) texts text_slots X9
notes_at h texts Fwd = sent-found h.role (row_of h.mech) texts text_slots Fwd

-- both are one run
pub opened_is : (h : Head) (texts : Texts) → run_of (opened_state h texts) ≡ opened_run h texts
opened_is h texts = λ i. record { head = h; next = (opened_run h texts).next; notes = λ s. notes_at h texts s i }
