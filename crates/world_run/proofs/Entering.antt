-- A step that its party has entered: what the history tells then, what the attacker knows, and that the world is kept.
use Rattle.std.proofs.Common.{◌≡◌, ◌≢◌, ◌⊎◌, ◌==◌, ◌<◌, ◌≤◌, ◌+◌, ◌-◌, ℕ, zero, suc, max, Bool, true, false, if◌then◌else◌, List, [], ◌∷◌, ◌++◌, map, reverse, length, get_or, set, slice_get, Option, Some, None, option_map, refl, sym, ap, subst, ◌∙◌, inl, inr, arith, eqb-true, eq-eqb, append_assoc}
use Rattle.std.specs.Option.{option_to_list}
use Rattle.term_values.specs.Trees.{Among, Tree, part}
use Rattle.attacker_model.specs.Knowledge.{Learnt}
use Rattle.mech_rows.specs.declared.kinds.Slot.{Slot}
use Rattle.mech_rows.specs.declared.notes.Value.{Value}
use Rattle.mech_rows.specs.declared.refusal.Refusal.{Refusal}
use Rattle.mech_rows.specs.Moves.{Move, step_of}
use Rattle.mech_rows.specs.Notes.{terms_of}
use Rattle.mech_rows.specs.Replies.{in_order}
use Rattle.agreement_laws.specs.declared.history.Happened.{Happened}
use Rattle.agreement_laws.specs.Configs.{AllDiffer, names_in, revealed_parts}
use Rattle.agreement_laws.specs.Histories.{HistoryOf}
use Rattle.agreement_laws.specs.Nodes.{is_going}
use Rattle.agreement_laws.specs.Traces.{RunId}
use Rattle.node_desk.specs.declared.event.Event.TheVariants.{Commit}
use Rattle.node_desk.specs.Deliveries.{open_in, MayCommit}
use Rattle.node_desk.specs.Desks.{node_at}
use Rattle.node_desk.specs.Helds.{Held, held_by}
use Rattle.node_desk.specs.Refusals.{got_refusal}
use Rattle.world_run.specs.declared.given.Given.{Given}
use Rattle.world_run.specs.declared.scene.Scene.{Scene}
use Rattle.world_run.specs.Clocks.{clock_in}
use Rattle.world_run.specs.Kept.{IsEntered, IsGenuine, IsKept, IsReady, running_in, view_of}
use Rattle.world_run.specs.Parties.{HasActed, PartiesView}
use Rattle.world_run.specs.Turns.{desk_in, did, moment, next_message}
use Rattle.world_run.specs.Views.{Act, act, acts_of, held_in, is_over, known_in, revealed_names, run_in, sent_in, shown_as, shown_from, shown_of, Shown, told_by, told_of, WorldView}
use Rattle.world_run.proofs.Acts.{held_other, held_own, sent_snoc}
use Rattle.world_run.proofs.Commits.{genuine_commit}
use Rattle.world_run.proofs.Unmoved.{running_less}

-- ---- lists

pub got_within : {X : Type 0} (xs : List X) (k : ℕ) (x : X) → slice_get xs k ≡ Some x → k < length xs
got_within [] k x e = absurd (cc)
got_within (y ∷ xs) zero x e = omega arith
got_within (y ∷ xs) (suc k) x e = let r = got_within xs k x e in omega (arith, r)

pub got_among : {X : Type 0} (xs : List X) (k : ℕ) (x : X) → slice_get xs k ≡ Some x → Among x xs
got_among [] k x e = absurd (cc)
got_among (y ∷ xs) zero x e = inl (cc)
got_among (y ∷ xs) (suc k) x e = inr (got_among xs k x e)

-- the run of a number has a place
pub run_place : (ids : List RunId) (run : ℕ) (id : RunId) → run_in ids run ≡ Some id → slice_get ids (run - 1) ≡ Some id
run_place ids zero id e = absurd (cc)
run_place ids (suc k) id e = let same : k ≡ suc k - 1 = omega arith in subst (λ (n : ℕ). slice_get ids n ≡ Some id) same e

pub run_among : (ids : List RunId) (run : ℕ) (id : RunId) → run_in ids run ≡ Some id → Among id ids
run_among ids run id e = got_among ids (run - 1) id (run_place ids run id e)

some_is : {X : Type 0} (x y : X) → Some x ≡ Some y → x ≡ y
some_is x y e = cc

no_item : {X : Type 0} (y : X) (ys : List X) → [] ≡ y ∷ ys → ⊥
no_item y ys e = cc

first_is : {X : Type 0} (x y : X) (xs ys : List X) → x ∷ xs ≡ y ∷ ys → x ≡ y
first_is x y xs ys e = cc

rest_is : {X : Type 0} (x y : X) (xs ys : List X) → x ∷ xs ≡ y ∷ ys → xs ≡ ys
rest_is x y xs ys e = cc

-- ---- runs after a step

-- the run that made the step
pub held_step : (acts : List Act) (id : RunId) (now : ℕ) (step : Move) → held_in (acts ++ act id.party (Commit id.number now step) ∷ []) id ≡ Some (record { state = step.after; is_open = is_going step.outcome })
held_step acts id now step =
    held_own acts id.party id.number (Commit id.number now step)
    ∙ ap (λ (b : Bool). if b then Some (record { state = step.after; is_open = is_going step.outcome }) else held_by (reverse (acts_of id.party acts)) id.number) (eq-eqb id.number id.number refl)

-- any other one
pub held_apart : (acts : List Act) (id other : RunId) (now : ℕ) (step : Move) → (id ≡ other → ⊥) → held_in (acts ++ act id.party (Commit id.number now step) ∷ []) other ≡ held_in acts other
held_apart acts id other now step not = go (id.party == other.party) refl
  where
    here : id.party ≡ other.party → (b : Bool) → (id.number == other.number) ≡ b → held_in (acts ++ act id.party (Commit id.number now step) ∷ []) other ≡ held_in acts other
    here e true f = let g : id.number ≡ other.number = eqb-true id.number other.number f in absurd (not (λ i. record { party = e i; number = g i }))
    here e false f =
        subst (λ (n : ℕ). held_in (acts ++ act n (Commit id.number now step) ∷ []) other ≡ held_in acts other) (sym e)
        (held_own acts other.party other.number (Commit id.number now step)
        ∙ ap (λ (b : Bool). if b then Some (record { state = step.after; is_open = is_going step.outcome }) else held_by (reverse (acts_of other.party acts)) other.number) f)

    go : (b : Bool) → (id.party == other.party) ≡ b → held_in (acts ++ act id.party (Commit id.number now step) ∷ []) other ≡ held_in acts other
    go true f = here (eqb-true id.party other.party f) (id.number == other.number) refl
    go false f = held_other acts id.party (Commit id.number now step) other f

-- ---- what the history tells

-- a run that is there, as it is shown
abbrev shown_held : ℕ → Held → Shown
shown_held k h = record { run = k; head = h.state.head; notes = in_order h.state.notes; done = is_over h.state; exposed = false }

pub shown_one : (acts : List Act) (k : ℕ) (id : RunId) (ids : List RunId) (h : Held) → held_in acts id ≡ Some h → shown_from acts k (id ∷ ids) ≡ shown_held k h ∷ shown_from acts (suc k) ids
shown_one acts k id ids h e = ap (λ (o : Option Held). shown_as k o ++ shown_from acts (suc k) ids) e

-- as many runs are shown as have a number
pub shown_length : (acts : List Act) (ids : List RunId) → ((id : RunId) → Among id ids → (h : Held) × (held_in acts id ≡ Some h)) → (k : ℕ) → length (shown_from acts k ids) ≡ length ids
shown_length acts [] there k = refl
shown_length acts (id ∷ ids) there k =
    let t = there id (inl refl) in
    ap length (shown_one acts k id ids t.0 t.1) ∙ ap suc (shown_length acts ids (λ x i. there x (inr i)) (suc k))

map_length : {X Y : Type 0} (f : X → Y) (xs : List X) → length (map f xs) ≡ length xs
map_length f [] = refl
map_length f (x ∷ xs) = ap suc (map_length f xs)

-- where others were shown, they are shown alike
shown_others : (acts : List Act) (id : RunId) (now : ℕ) (step : Move) (k : ℕ) (ids : List RunId) → (Among id ids → ⊥) → shown_from (acts ++ act id.party (Commit id.number now step) ∷ []) k ids ≡ shown_from acts k ids
shown_others acts id now step k [] not = refl
shown_others acts id now step k (x ∷ ids) not =
    let here : held_in (acts ++ act id.party (Commit id.number now step) ∷ []) x ≡ held_in acts x = held_apart acts id x now step (λ e. not (inl e)) in
    let rest : shown_from (acts ++ act id.party (Commit id.number now step) ∷ []) (suc k) ids ≡ shown_from acts (suc k) ids = shown_others acts id now step (suc k) ids (λ i. not (inr i)) in
    λ i. shown_as k (here i) ++ rest i

-- a run as it is told, with other notes
abbrev pub renoted : Happened → List (Slot × Value) → Bool → Happened
renoted h notes done = record h { notes = notes; done = done }

module _ (acts : List Act) (id : RunId) (now : ℕ) (step : Move) (notes : List (Slot × Value)) (done : Bool) (current : held_in acts id ≡ open_in step.before) (same_head : step.after.head ≡ step.before.head) (noted : terms_of notes ≡ in_order step.after.notes) (over : done ≡ is_over step.after) where
  abbrev later : List Act
  later = acts ++ act id.party (Commit id.number now step) ∷ []

  -- the run that made the step is told anew
  told_anew : (k : ℕ) (h : Happened) → shown_of h ≡ shown_held k (record { state = step.before; is_open = true }) → shown_of (renoted h notes done) ≡ shown_held k (record { state = step.after; is_open = is_going step.outcome })
  told_anew k h e = λ i. record {
    run = (e i).run;
    head = (ap (λ (x : Shown). x.head) e ∙ sym same_head) i;
    notes = noted i;
    done = over i;
    exposed = (e i).exposed;
  }

  pub shown_entered : (ids : List RunId) → AllDiffer ids → ((x : RunId) → Among x ids → (h : Held) × (held_in acts x ≡ Some h)) → (k place : ℕ) → slice_get ids place ≡ Some id → (hs : List Happened) → map shown_of hs ≡ shown_from acts k ids
      → (d : Happened) → map shown_of (set hs place (renoted (get_or hs place d) notes done)) ≡ shown_from later k ids
  shown_entered [] apart there k place at hs told d = absurd (cc)
  shown_entered (x ∷ ids) apart there k zero at [] told d =
      let is : id ≡ x = sym (some_is x id at) in
      let both : shown_from acts k (x ∷ ids) ≡ shown_held k (record { state = step.before; is_open = true }) ∷ shown_from acts (suc k) ids = shown_one acts k x ids _ (ap (held_in acts) (sym is) ∙ current) in
      absurd (no_item _ _ (told ∙ both))
  shown_entered (x ∷ ids) apart there k zero at (h ∷ hs) told d =
      let is : id ≡ x = sym (some_is x id at) in
      let both : shown_from acts k (x ∷ ids) ≡ shown_held k (record { state = step.before; is_open = true }) ∷ shown_from acts (suc k) ids = shown_one acts k x ids (record { state = step.before; is_open = true }) (ap (held_in acts) (sym is) ∙ current) in
      let all : shown_of h ∷ map shown_of hs ≡ shown_held k (record { state = step.before; is_open = true }) ∷ shown_from acts (suc k) ids = told ∙ both in
      let first : shown_of (renoted h notes done) ≡ shown_held k (record { state = step.after; is_open = is_going step.outcome }) = told_anew k h (first_is _ _ _ _ all) in
      let rest : map shown_of hs ≡ shown_from later (suc k) ids = rest_is _ _ _ _ all ∙ sym (shown_others acts id now step (suc k) ids (λ i. apart.0 (subst (λ (y : RunId). Among y ids) is i))) in
      let last : shown_from later k (x ∷ ids) ≡ shown_held k (record { state = step.after; is_open = is_going step.outcome }) ∷ shown_from later (suc k) ids = shown_one later k x ids (record { state = step.after; is_open = is_going step.outcome }) (ap (held_in later) (sym is) ∙ held_step acts id now step) in
      (λ i. first i ∷ rest i) ∙ sym last
  shown_entered (x ∷ ids) apart there k (suc place) at [] told d = let t = there x (inl refl) in absurd (no_item _ _ (told ∙ shown_one acts k x ids t.0 t.1))
  shown_entered (x ∷ ids) apart there k (suc place) at (h ∷ hs) told d =
      let t = there x (inl refl) in
      let all : shown_of h ∷ map shown_of hs ≡ shown_held k t.0 ∷ shown_from acts (suc k) ids = told ∙ shown_one acts k x ids t.0 t.1 in
      let other : id ≡ x → ⊥ = λ e. apart.0 (subst (λ (y : RunId). Among y ids) e (got_among ids place id at)) in
      let last : shown_from later k (x ∷ ids) ≡ shown_held k t.0 ∷ shown_from later (suc k) ids = shown_one later k x ids t.0 (held_apart acts id x now step other ∙ t.1) in
      let rest : map shown_of (set hs place (renoted (get_or hs place d) notes done)) ≡ shown_from later (suc k) ids = shown_entered ids apart.1 (λ y i. there y (inr i)) (suc k) place at hs (rest_is _ _ _ _ all) d in
      let first : shown_of h ≡ shown_held k t.0 = first_is _ _ _ _ all in
      (λ i. first i ∷ rest i) ∙ sym last

-- ---- what is kept

module _ (s : Scene) (k : IsKept s) where
  abbrev w : WorldView
  w = view_of s

  -- as many messages were sent as the history tells, and as many runs
  pub sent_is : s.history.sent ≡ sent_in s.parties.acts
  sent_is = λ i. (k.told i).sent

  pub happened_is : map shown_of s.history.happened ≡ shown_from s.parties.acts 1 s.runs.items
  happened_is = λ i. (k.told i).happened

  pub happened_length : length s.history.happened ≡ length s.runs.items
  happened_length = sym (map_length shown_of s.history.happened) ∙ (ap length happened_is ∙ shown_length s.parties.acts s.runs.items k.genuine.runs.there 1)

  -- what is told and what is known have not changed
  pub kept_alike : (l : Learnt) (h : HistoryOf) → l.given ≡ s.knowledge.given → h ≡ s.history → IsKept (record s { knowledge = l; history = h })
  kept_alike l h given history = record {
    genuine = k.genuine;
    learnt = given ∙ k.learnt;
    told = ap told_by history ∙ k.told;
    room = k.room;
  }

  module _ (place : ℕ) (id : RunId) (at : slice_get s.runs.items place ≡ Some id) (step : Move) (may : MayCommit (desk_in w id.party) id.number step) (ready : IsReady w id.party step) where
    numbered : Among id s.runs.items
    numbered = got_among s.runs.items place id at

    pub declared_here : Among id.party (names_in s.parties.config)
    declared_here = k.genuine.runs.declared id numbered

    genuine_here : got_refusal (node_at (desk_in w id.party)) (clock_in w id.party) step.got ≡ None → IsGenuine (did w id.party (Commit id.number (moment w id.party) step))
    genuine_here fit = genuine_commit w k.genuine id step declared_here ready may.current may.unused numbered fit

    -- the world after the step
    pub view_entered : (p : PartiesView) (l : Learnt) (h : HistoryOf) → HasActed s.parties p id.party (Commit id.number (moment w id.party) step) → view_of (record s { parties = p; knowledge = l; history = h }) ≡ did w id.party (Commit id.number (moment w id.party) step)
    view_entered p l h acted = λ i. record { config = acted.config i; acts = acted.acts i; clocks = acted.clocks i; draws = s.draws.place; runs = s.runs.items }

    -- the party entered the step, and the world was told
    pub kept_entered : (p : PartiesView) (l : Learnt) (h : HistoryOf) (notes : List (Slot × Value)) (done : Bool) → HasActed s.parties p id.party (Commit id.number (moment w id.party) step) → got_refusal (node_at (desk_in w id.party)) (clock_in w id.party) step.got ≡ None
        → l.given ≡ s.knowledge.given ++ option_to_list step.reply → h.revealed ≡ s.history.revealed → ((d : Happened) → h.happened ≡ set s.history.happened place (renoted (get_or s.history.happened place d) notes done)) → h.sent ≡ s.history.sent ++ option_to_list step.reply → h.given ≡ s.history.given
        → terms_of notes ≡ in_order step.after.notes → done ≡ is_over step.after → length s.runs.items < s.parties.room → IsKept (record s { parties = p; knowledge = l; history = h })
    kept_entered p l h notes done acted fit given revealed happened sent parts noted over room =
        let same : view_of (record s { parties = p; knowledge = l; history = h }) ≡ did w id.party (Commit id.number (moment w id.party) step) = view_entered p l h acted in
        record {
          genuine = subst IsGenuine (sym same) (genuine_here fit);
          learnt = subst (λ (v : WorldView). l.given ≡ known_in v) (sym same) (given ∙ known);
          told = subst (λ (v : WorldView). told_by h ≡ told_of v) (sym same) tells;
          room = let r = running_less (view_of (record s { parties = p; knowledge = l; history = h })) in let left = acted.room in omega (arith, r, left, room);
        }
      where
        initial : List Tree
        initial = map part s.parties.config.own ++ revealed_parts s.parties.config.pairs

        sent_later : sent_in (s.parties.acts ++ act id.party (Commit id.number (moment w id.party) step) ∷ []) ≡ sent_in s.parties.acts ++ option_to_list step.reply
        sent_later = sent_snoc s.parties.acts id.party (Commit id.number (moment w id.party) step)

        known : s.knowledge.given ++ option_to_list step.reply ≡ known_in (did w id.party (Commit id.number (moment w id.party) step))
        known = ap (λ (ts : List Tree). ts ++ option_to_list step.reply) k.learnt ∙ (append_assoc initial (sent_in s.parties.acts) (option_to_list step.reply) ∙ ap (λ (ts : List Tree). initial ++ ts) (sym sent_later))

        runs_told : map shown_of h.happened ≡ shown_from (s.parties.acts ++ act id.party (Commit id.number (moment w id.party) step) ∷ []) 1 s.runs.items
        runs_told = with_runs s.history.happened happened_is happened
          where
            with_runs : (hs : List Happened) → map shown_of hs ≡ shown_from s.parties.acts 1 s.runs.items → ((d : Happened) → h.happened ≡ set hs place (renoted (get_or hs place d) notes done)) → map shown_of h.happened ≡ shown_from (s.parties.acts ++ act id.party (Commit id.number (moment w id.party) step) ∷ []) 1 s.runs.items
            with_runs [] is all =
                let len = ap length is in
                let there = shown_length s.parties.acts s.runs.items k.genuine.runs.there 1 in
                let within = got_within s.runs.items place id at in
                absurd (omega (arith, len, there, within))
            with_runs (x ∷ hs) is all = ap (map shown_of) (all x) ∙ shown_entered s.parties.acts id (moment w id.party) step notes done may.current ready.is_step.same_head noted over s.runs.items k.genuine.runs.apart k.genuine.runs.there 1 place at (x ∷ hs) is x

        tells : told_by h ≡ told_of (did w id.party (Commit id.number (moment w id.party) step))
        tells = λ i. record {
          revealed = (revealed ∙ (λ j. (k.told j).revealed)) i;
          happened = runs_told i;
          sent = (sent ∙ (ap (λ (ts : List Tree). ts ++ option_to_list step.reply) sent_is ∙ sym sent_later)) i;
          given = (parts ∙ (λ j. (k.told j).given)) i;
        }

    -- what the answer says of it
    pub is_entered : (p : PartiesView) (l : Learnt) (h : HistoryOf) (g : Given) → HasActed s.parties p id.party (Commit id.number (moment w id.party) step) → got_refusal (node_at (desk_in w id.party)) (clock_in w id.party) step.got ≡ None → g.pass ≡ suc step.before.next → (n : ℕ) → n ≡ length s.history.sent → g.sent ≡ option_map (λ _. n + 1) step.reply → g.done ≡ is_over step.after → IsEntered w id step g (view_of (record s { parties = p; knowledge = l; history = h }))
    is_entered p l h g acted fit pass n count sent over = record {
      fit = fit;
      pass = pass;
      sent = sent ∙ ap (λ (m : ℕ). option_map (λ _. m) step.reply) (number n count);
      done = over;
      leaves = view_entered p l h acted;
    }
      where
        number : (m : ℕ) → m ≡ length s.history.sent → m + 1 ≡ next_message w
        number m e = let x = ap length sent_is in omega (arith, e, x)
