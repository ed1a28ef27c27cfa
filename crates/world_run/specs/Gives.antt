-- What a delivery does to a world, and what it answers; and what the drop of a run does.
use Rattle.std.specs.Prelude.{◌≡◌, ◌⊎◌, ℕ, suc, ◌≤◌, ◌+◌, Bool, Option, Some, None, option_map, Result, Ok, Err}
use Rattle.term_values.specs.Trees.{Bytes, Tree}
use Rattle.attacker_model.specs.Derivation.{Derivable}
use Rattle.mech_rows.specs.declared.kinds.Mech.{Mech}
use Rattle.mech_rows.specs.declared.kinds.Slot.{Slot}
use Rattle.mech_rows.specs.declared.refusal.Refusal.{Refusal}
use Rattle.mech_rows.specs.declared.refusal.Refusal.TheVariants.{NotDerivable, Unborn}
use Rattle.mech_rows.specs.Moves.{Move}
use Rattle.mech_rows.specs.Replies.{run_verdict}
use Rattle.mech_rows.specs.Verdict.{State, Taken}
use Rattle.seal_symbolic.specs.Symbolic.{body_of, is_check}
use Rattle.agreement_laws.specs.Traces.{RunId}
use Rattle.node_desk.specs.declared.event.Event.TheVariants.{Drop}
use Rattle.node_desk.specs.Deliveries.{after_message, open_in, spent_refusal}
use Rattle.node_desk.specs.Desks.{node_at}
use Rattle.node_desk.specs.Refusals.{got_refusal}
use Rattle.world_run.specs.declared.given.Given.{Given}
use Rattle.world_run.specs.Born.{HasUnborn}
use Rattle.world_run.specs.Clocks.{clock_in}
use Rattle.world_run.specs.Turns.{desk_in, did, keys_at, made_by, next_message, IsPartMade, SaysNext, stepped}
use Rattle.world_run.specs.Views.{held_in, is_over, known_in, number_refusal, run_in, WorldView}

-- the stamps that a message gives are judged at the moment of the party
abbrev pub stamps_refusal_in : WorldView → ℕ → Taken → Option Refusal
stamps_refusal_in w n t = got_refusal (node_at (desk_in w n)) (clock_in w n) t.got

module _ (allowed : Mech → Slot → Bytes → Bool) where
  -- what a run of a party says of a message
  abbrev pub verdict_in : WorldView → ℕ → State → Tree → Result Taken Refusal
  verdict_in w n s m = run_verdict body_of is_check allowed (keys_at w n) s m

  -- the open run takes the message, and stands so then
  abbrev pub HasTaken : WorldView → RunId → Tree → State → Type 0
  HasTaken w id m s = (before : State) × (t : Taken) × (held_in w.acts id ≡ open_in before) × (verdict_in w id.party before m ≡ Ok t) × (s ≡ after_message before t)

  -- what a run that is open says against a message: it is unfit, or there is no stamp for the answer, and nothing has changed; or
  -- the answer was made, and a received stamp is refused
  abbrev pub IsJudged : WorldView → RunId → State → Tree → Refusal → WorldView → Type 0
  IsJudged w id s m e v =
      ((verdict_in w id.party s m ≡ Err e) × (v ≡ w))
      ⊎ ((t : Taken) × (verdict_in w id.party s m ≡ Ok t) × (
      ((spent_refusal (desk_in w id.party) (after_message s t) ≡ Some e) × (v ≡ w))
      ⊎ ((spent_refusal (desk_in w id.party) (after_message s t) ≡ None) × (stamps_refusal_in w id.party t ≡ Some e) × (v ≡ made_by w id.party (after_message s t)))
      ))

  -- what is said against a term that may be delivered: there is no such open run, or the run says so
  abbrev pub IsRefusedBy : WorldView → ℕ → Tree → Refusal → WorldView → Type 0
  IsRefusedBy w run m e v =
      ((number_refusal w run ≡ Some e) × (v ≡ w))
      ⊎ ((id : RunId) × (s : State) × (run_in w.runs run ≡ Some id) × (held_in w.acts id ≡ open_in s) × IsJudged w id s m e v)

  -- the first refusal of a delivery that holds, and what it leaves
  abbrev pub IsGiveRefused : WorldView → ℕ → Tree → Refusal → WorldView → Type 0
  IsGiveRefused w run m e v =
      ((Derivable (known_in w) m → ⊥) × (e ≡ NotDerivable) × (v ≡ w))
      ⊎ (Derivable (known_in w) m × ((HasUnborn w.draws m × (e ≡ Unborn) × (v ≡ w)) ⊎ ((HasUnborn w.draws m → ⊥) × IsRefusedBy w run m e v)))

  -- the run took the term and answered where its row has an answer: nothing was refused
  pub record IsGiven (w : WorldView) (run : ℕ) (m : Tree) (g : Given) (v : WorldView) : Type 0 where
    pub derivable : Derivable (known_in w) m
    pub is_born : HasUnborn w.draws m → ⊥
    pub id : RunId
    pub is_run : run_in w.runs run ≡ Some id
    pub step : Move
    pub current : held_in w.acts id ≡ open_in step.before
    pub taken : Taken
    pub fits : verdict_in w id.party step.before m ≡ Ok taken
    pub not_spent : spent_refusal (desk_in w id.party) (after_message step.before taken) ≡ None
    pub fit : stamps_refusal_in w id.party taken ≡ None
    pub takes : step.taken ≡ Some m
    pub opened : step.opened ≡ taken.opened
    pub got : step.got ≡ taken.got
    pub says : SaysNext w id.party (after_message step.before taken) step
    pub pass : g.pass ≡ suc step.before.next
    pub sent : g.sent ≡ option_map (λ _. next_message w) step.reply
    pub done : g.done ≡ is_over step.after
    pub leaves : v ≡ stepped w id (after_message step.before taken) step

  -- what a delivery answers and does, want of memory aside
  abbrev pub Gives : WorldView → ℕ → Tree → Result Given Refusal → WorldView → Type 0
  Gives w run m (Ok g) v = IsGiven w run m g v
  Gives w run m (Err e) v = IsGiveRefused w run m e v

  -- the term may be delivered to the open run of that number, which takes it; and a part was made of what the run says next
  pub record IsPartGiven (w : WorldView) (run : ℕ) (m : Tree) (v : WorldView) : Type 0 where
    pub derivable : Derivable (known_in w) m
    pub is_born : HasUnborn w.draws m → ⊥
    pub id : RunId
    pub is_run : run_in w.runs run ≡ Some id
    pub state : State
    pub takes : HasTaken w id m state
    pub part : IsPartMade w id.party state v.acts v.draws
    pub config : v.config ≡ w.config
    pub clocks : v.clocks ≡ w.clocks
    pub runs : v.runs ≡ w.runs

  -- what a delivery leaves that ended for want of memory: nothing has changed, or the answer was made in part
  abbrev pub IsGiveLeft : WorldView → ℕ → Tree → WorldView → Type 0
  IsGiveLeft w run m v = (v ≡ w) ⊎ IsPartGiven w run m v

-- nothing is said against a delivery that takes no memory to find: the term may be delivered, and there is a run of that number
pub record MayBeGiven (w : WorldView) (run : ℕ) (m : Tree) : Type 0 where
  pub derivable : Derivable (known_in w) m
  pub is_born : HasUnborn w.draws m → ⊥
  pub id : RunId
  pub is_run : run_in w.runs run ≡ Some id

-- the open run of that number was dropped
pub record IsDropped (w : WorldView) (run : ℕ) (v : WorldView) : Type 0 where
  pub running : number_refusal w run ≡ None
  pub id : RunId
  pub is_run : run_in w.runs run ≡ Some id
  pub leaves : v ≡ did w id.party (Drop id.number)

-- what a drop answers and does
abbrev pub Drops : WorldView → ℕ → Result (Unit {0}) Refusal → WorldView → Type 0
Drops w run (Ok _) v = IsDropped w run v
Drops w run (Err e) v = (number_refusal w run ≡ Some e) × (v ≡ w)
