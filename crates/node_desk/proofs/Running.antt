-- A run that is open, and one that says its first message now.
use Rattle.std.proofs.Common.{◌≡◌, ◌⊎◌, ℕ, Bool, true, false, if◌then◌else◌, Option, Some, None, Result, Ok, Err, refl, sym, ap, ◌∙◌, inl, inr}
use Rattle.std.specs.Prelude.{IfOk}
use Rattle.mech_rows.specs.declared.refusal.Refusal.{Refusal}
use Rattle.mech_rows.specs.declared.refusal.Refusal.TheVariants.{UnknownRun, EndedRun, WrongPass}
use Rattle.mech_rows.specs.Replies.{sends_first}
use Rattle.mech_rows.specs.Verdict.{State}
use Rattle.node_desk.specs.Helds.{Held}
use Rattle.node_desk.specs.Openings.{first_of}
use Rattle.node_desk.specs.Refusals.{first_refusal, run_refusal}
use Rattle.node_desk.specs.Desks.{DeskView, run_at}
use Rattle.node_desk.specs.Deliveries.{open_in, IsFirstRefused}
use Rattle.node_desk.proofs.Causes.{is_late}

-- why a run in that state, which is open or not, does not say its first message now
abbrev first_of_held : Bool → Bool → Option Refusal
first_of_held is_open first = first_of (if is_open then None else Some EndedRun) (if first then None else Some WrongPass)

-- what holds of each value of that kind holds of that of a result
pub ok-all : {X : Type 0} {P Q : X → Type 0} → (r : Result X Refusal) → IfOk r P → ((x : X) → P x → Q x) → IfOk r Q
ok-all (Ok x) h f = f x h
ok-all (Err e) h f = tt

-- an open run isn't refused
pub open-unrefused : (o : Option Held) (s : State) → o ≡ open_in s → run_refusal o ≡ None
open-unrefused o s is = ap run_refusal is

-- nor is an open run that says its first message now
pub first-unrefused : (o : Option Held) (s : State) → o ≡ open_in s → sends_first s ≡ true → first_refusal o ≡ None
first-unrefused o s is sends = ap first_refusal is ∙ ap (first_of_held true) sends

-- an open run that says another message, or none, is refused for that
pub first-wrong : (o : Option Held) (s : State) → o ≡ open_in s → sends_first s ≡ false → first_refusal o ≡ Some WrongPass
first-wrong o s is sends = ap first_refusal is ∙ ap (first_of_held true) sends

-- a run that says its first message now is open
pub first-open : (o : Option Held) → first_refusal o ≡ None → run_refusal o ≡ None
first-open None is = is
first-open (Some h) is = go h.is_open (sends_first h.state) is
  where
    go : (b c : Bool) → first_of_held b c ≡ None → ◌≡◌ {A = Option Refusal} (if b then None else Some EndedRun) None
    go true c e = refl
    go false c e = e

-- it says its first message now
pub first-sends : (o : Option Held) (s : State) → o ≡ open_in s → first_refusal o ≡ None → sends_first s ≡ true
first-sends o s is none = go (sends_first s) (sym (ap first_refusal is) ∙ none)
  where
    go : (b : Bool) → first_of_held true b ≡ None → b ≡ true
    go true e = refl
    go false e = absurd (cc)

-- why it isn't said, as a delivery has it
pub first-refused : (d : DeskView) (run : ℕ) (rose : Type 0) (e : Refusal) → first_refusal (run_at d run) ≡ Some e → IsFirstRefused d run rose e
first-refused d run rose e is = go (run_at d run) refl is
  where
    held : (h : Held) (b c : Bool) → h.is_open ≡ b → sends_first h.state ≡ c → run_at d run ≡ Some h → first_of_held b c ≡ Some e → IsFirstRefused d run rose e
    held h true false opened sends at x =
        let current : run_at d run ≡ open_in h.state = at ∙ (λ i. Some (record { state = h.state; is_open = opened i })) in
        let wrong : e ≡ WrongPass = cc in
        inr (h.state, current, inl (sends, wrong))
    held h true true opened sends at x = absurd (cc)
    held h false c opened sends at x =
        inl (ap run_refusal at ∙ (ap (λ (b : Bool). if b then None else Some EndedRun) opened ∙ x))

    go : (o : Option Held) → run_at d run ≡ o → first_refusal o ≡ Some e → IsFirstRefused d run rose e
    go None at x = inl (ap run_refusal at ∙ x)
    go (Some h) at x = held h h.is_open (sends_first h.state) refl refl at x

-- what is refused for the run is neither a draw nor a stamp
pub first-early : (o : Option Held) (e : Refusal) → first_refusal o ≡ Some e → is_late e ≡ false
first-early None e is = let unknown : e ≡ UnknownRun = cc in ap is_late unknown
first-early (Some h) e is = go h.is_open (sends_first h.state) is
  where
    go : (b c : Bool) → first_of_held b c ≡ Some e → is_late e ≡ false
    go true true x = absurd (cc)
    go true false x = let wrong : e ≡ WrongPass = cc in ap is_late wrong
    go false c x = let ended : e ≡ EndedRun = cc in ap is_late ended
