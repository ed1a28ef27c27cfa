-- A party opens a run, which begins or is given up.
use Rattle.std.proofs.Common.{◌≡◌, ◌≢◌, ◌⊎◌, ◌==◌, ◌<◌, ◌≤◌, ◌+◌, ℕ, suc, Bool, true, false, if◌then◌else◌, List, [], ◌∷◌, ◌++◌, length, reverse, Option, Some, None, refl, sym, ap, subst, ◌∙◌, inl, inr, arith, eq-eqb}
use Rattle.std.specs.Option.{option_to_list}
use Rattle.std.proofs.lemmas.List.{append-nil, length-append}
use Rattle.term_values.specs.Trees.{Among, Tree}
use Rattle.term_values.specs.declared.small.Stamp.{Stamp}
use Rattle.mech_rows.specs.declared.refusal.Refusal.{Refusal}
use Rattle.mech_rows.specs.declared.refusal.Refusal.TheVariants.{UnknownParty}
use Rattle.mech_rows.specs.Heads.{Head, IsHead, me}
use Rattle.mech_rows.specs.Moves.{Move}
use Rattle.mech_rows.specs.Openings.{Texts, opened_state}
use Rattle.mech_rows.specs.Replies.{needs_stamp, sends_first}
use Rattle.mech_rows.specs.Verdict.{State}
use Rattle.agreement_laws.specs.Configs.{names_in}
use Rattle.agreement_laws.specs.Traces.{RunId}
use Rattle.node_desk.specs.declared.event.Event.{Event}
use Rattle.node_desk.specs.declared.event.Event.TheVariants.{Open, Commit, Drop}
use Rattle.node_desk.specs.Deliveries.{open_in, spent_refusal}
use Rattle.node_desk.specs.Desks.{node_at}
use Rattle.node_desk.specs.Helds.{Held, held_by}
use Rattle.node_desk.specs.Openings.{opening_refusal}
use Rattle.world_run.specs.declared.opened.Opened.{Opened}
use Rattle.world_run.specs.declared.scene.Scene.{Scene}
use Rattle.world_run.specs.Kept.{IsGenuine, IsKept, view_of}
use Rattle.world_run.specs.Makings.{IsBrokenOff, SaysFirst}
use Rattle.world_run.specs.Opens.{IsOpened, IsOpenLeft, IsOpenRefused, begin_refusal, enlisted, given_up, id_of, next_run, open_refusal, opened_by}
use Rattle.world_run.specs.Parties.{HasActed, as_world}
use Rattle.world_run.specs.Starts.{HasBegun, HasSpoken, HasWaited, IsUnbegun, IsUnlisted, listed}
use Rattle.world_run.specs.Turns.{HasGrown, IsPartAtMost, SaysNext, desk_in, did, draws_for, has_name, issued_by, made_by, moment, next_stamp_of, stamp_due, stepped, with_issue}
use Rattle.world_run.specs.Views.{Act, act, acts_of, held_in, sent_by, sent_in, WorldView}
use Rattle.world_run.proofs.Acts.{held_own, sent_snoc}
use Rattle.world_run.proofs.Legal.{genuine_drop, genuine_open, has_name_is, is_has_name, may_open_in, not_there}
use Rattle.world_run.proofs.Quiet.{issue_sent, kept_quiet, others_stand}
use Rattle.world_run.proofs.Saying.{draws_few, most_few}
use Rattle.world_run.proofs.Starting.{same_state}

-- ---- a run is opened

-- no party has the name
pub refused_unknown : (w : WorldView) (h : Head) → (Among (me h) (names_in w.config) → ⊥) → open_refusal w h ≡ Some UnknownParty
refused_unknown w h not = go (has_name w (me h)) refl
  where
    go : (b : Bool) → has_name w (me h) ≡ b → (if b then opening_refusal (node_at (desk_in w (me h))) h else Some UnknownParty) ≡ Some UnknownParty
    go true f = absurd (not (has_name_is w (me h) f))
    go false f = refl

-- a party has it, and its node answers so
pub refused_so : (w : WorldView) (h : Head) (answer : Option Refusal) → Among (me h) (names_in w.config) → opening_refusal (node_at (desk_in w (me h))) h ≡ answer → open_refusal w h ≡ answer
refused_so w h answer there e = ap (λ (b : Bool). if b then opening_refusal (node_at (desk_in w (me h))) h else Some UnknownParty) (is_has_name w (me h) there) ∙ e

pub id_is : (w : WorldView) (h : Head) (run : ℕ) → run ≡ next_run w (me h) → ◌≡◌ {A = RunId} (record { party = me h; number = run }) (id_of w h)
id_is w h run e = λ i. record { party = me h; number = e i }

pub opened_view : (s t : Scene) (h : Head) (texts : Texts) (run : ℕ) → HasActed s.parties t.parties (me h) (Open run h texts) → run ≡ next_run (as_world s.parties 0) (me h) → t.draws.place ≡ s.draws.place → t.runs.items ≡ s.runs.items → view_of t ≡ opened_by (view_of s) h texts
opened_view s t h texts run a number draws runs = λ i. record {
  config = a.config i;
  acts = (a.acts ∙ ap (λ (m : ℕ). s.parties.acts ++ act (me h) (Open m h texts) ∷ []) number) i;
  clocks = a.clocks i;
  draws = draws i;
  runs = runs i;
}

new_id : (w : WorldView) → IsGenuine w → (h : Head) (texts : Texts) → IsHead h → open_refusal w h ≡ None → Among (id_of w h) w.runs → ⊥
new_id w g h texts is none i =
    let t = g.runs.there (id_of w h) i in
    let z : None ≡ Some t.0 = sym (not_there w g h texts is none) ∙ t.1 in cc

pub kept_opened : (s t : Scene) (h : Head) (texts : Texts) → IsKept s → IsHead h → open_refusal (view_of s) h ≡ None → view_of t ≡ opened_by (view_of s) h texts → t.knowledge.given ≡ s.knowledge.given → t.history ≡ s.history → length s.runs.items ≤ t.parties.room → IsKept t
kept_opened s t h texts k is none view given history room =
    kept_quiet s t k (subst IsGenuine (sym view) (genuine_open (view_of s) k.genuine h texts is none)) (ap (λ (v : WorldView). v.config) view) (ap (λ (v : WorldView). v.runs) view)
    (ap (λ (v : WorldView). sent_in v.acts) view ∙ (sent_snoc s.parties.acts (me h) (Open number h texts) ∙ append-nil (sent_in s.parties.acts)))
    (λ x i. ap (λ (v : WorldView). held_in v.acts x) view ∙ others_stand s.parties.acts (me h) number (Open number h texts) s.runs.items (λ m e. e) (new_id (view_of s) k.genuine h texts is none) x i)
    given history room
  where
    number : ℕ
    number = next_run (view_of s) (me h)

opened_current : (w : WorldView) (h : Head) (texts : Texts) → held_in (opened_by w h texts).acts (id_of w h) ≡ open_in (opened_state h texts)
opened_current w h texts = held_own w.acts (me h) (next_run w (me h)) (Open (next_run w (me h)) h texts) ∙ own (next_run w (me h))
  where
    own : (m : ℕ) → held_by (Open m h texts ∷ reverse (acts_of (me h) w.acts)) m ≡ open_in (opened_state h texts)
    own m = ap (λ (b : Bool). if b then Some (record { state = opened_state h texts; is_open = true }) else held_by (reverse (acts_of (me h) w.acts)) m) (eq-eqb m m refl)

-- the run that was opened has no number yet
pub unlisted_now : (w v : WorldView) → IsGenuine w → (h : Head) (texts : Texts) (id : RunId) → IsHead h → open_refusal w h ≡ None → v ≡ opened_by w h texts → id ≡ id_of w h → IsUnlisted v h id
unlisted_now w v g h texts id is none e named = subst (λ (x : RunId). IsUnlisted v h x) (sym named) (subst (λ (x : WorldView). IsUnlisted x h (id_of w h)) (sym e) (record {
  declared = (may_open_in w h none).declared;
  state = opened_state h texts;
  current = opened_current w h texts;
  head = refl;
  unlisted = new_id w g h texts is none;
}))

-- ---- a run is given up

pub kept_dropped : (s t : Scene) (id : RunId) (st : State) → IsKept s → Among id.party (names_in s.parties.config) → held_in s.parties.acts id ≡ open_in st → (Among id s.runs.items → ⊥) → view_of t ≡ did (view_of s) id.party (Drop id.number) → t.knowledge.given ≡ s.knowledge.given → t.history ≡ s.history → length s.runs.items ≤ t.parties.room → IsKept t
kept_dropped s t id st k declared current not view given history room =
    kept_quiet s t k (subst IsGenuine (sym view) (genuine_drop (view_of s) k.genuine id declared st current)) (ap (λ (v : WorldView). v.config) view) (ap (λ (v : WorldView). v.runs) view)
    (ap (λ (v : WorldView). sent_in v.acts) view ∙ (sent_snoc s.parties.acts id.party (Drop id.number) ∙ append-nil (sent_in s.parties.acts)))
    (λ x i. ap (λ (v : WorldView). held_in v.acts x) view ∙ others_stand s.parties.acts id.party id.number (Drop id.number) s.runs.items (λ m e. e) not x i)
    given history room

-- ---- what an opening answers

module _ (w : WorldView) (h : Head) (texts : Texts) where
  abbrev mid : WorldView
  mid = opened_by w h texts

  abbrev st : State
  st = opened_state h texts

  abbrev id : RunId
  id = id_of w h

  same_opened : (s : State) → held_in mid.acts id ≡ open_in s → s ≡ st
  same_opened s current = same_state s st (sym current ∙ opened_current w h texts)

  open_sent : length (sent_in mid.acts) ≡ length (sent_in w.acts)
  open_sent = ap length (sent_snoc w.acts (me h) (Open (next_run w (me h)) h texts) ∙ append-nil (sent_in w.acts))

  begins_by : (first : Bool) (answer : Option Refusal) → sends_first st ≡ first → (if first then spent_refusal (desk_in mid (me h)) st else None) ≡ answer → begin_refusal w h texts ≡ answer
  begins_by first answer is e = ap (λ (b : Bool). if b then spent_refusal (desk_in mid (me h)) st else None) is ∙ e

  opened_waits : (o : Opened) (v : WorldView) → open_refusal w h ≡ None → HasWaited mid id o v → IsOpened w h texts o v
  opened_waits o v may x =
      let same : x.state ≡ st = same_opened x.state x.current in
      let silent : sends_first st ≡ false = ap sends_first (sym same) ∙ x.silent in
      record { may = may; begins = begins_by false None silent refl; run = x.run; goes = inl (record { silent = silent; sent = x.sent; done = x.done; leaves = x.leaves }) }

  opened_speaks : (o : Opened) (v : WorldView) → open_refusal w h ≡ None → HasSpoken (listed mid id) id o v → IsOpened w h texts o v
  opened_speaks o v may x =
      let same : x.step.before ≡ st = same_opened x.step.before x.current in
      let first : sends_first st ≡ true = ap sends_first (sym same) ∙ x.first in
      let spent : spent_refusal (desk_in mid (me h)) st ≡ None = ap (spent_refusal (desk_in mid (me h))) (sym same) ∙ x.not_spent in
      record {
        may = may;
        begins = begins_by true None first spent;
        run = x.run ∙ (length-append w.runs (id ∷ []) ∙ omega arith);
        goes = inr (record {
          first = first;
          step = x.step;
          before = same;
          takes = x.takes;
          says = subst (λ (s : State). SaysNext (enlisted w h texts) (me h) s x.step) same x.says;
          sent = x.sent ∙ ap (λ (m : ℕ). Some (suc m)) open_sent;
          done = x.done;
          leaves = x.leaves ∙ ap (λ (s : State). stepped (enlisted w h texts) id s x.step) same;
        });
      }

  pub opened_begun : (o : Opened) (v u : WorldView) (j : RunId) → open_refusal w h ≡ None → u ≡ mid → j ≡ id → HasBegun u j o v → IsOpened w h texts o v
  opened_begun o v u j may e named b = go (subst (λ (x : RunId). HasBegun mid x o v) named (subst (λ (x : WorldView). HasBegun x j o v) e b))
    where
      go : HasBegun mid id o v → IsOpened w h texts o v
      go (inl x) = opened_waits o v may x
      go (inr x) = opened_speaks o v may x

  -- it has no stamp for its first message, and is given up
  pub refused_unbegun : (e : Refusal) (u y v : WorldView) (j : RunId) → open_refusal w h ≡ None → u ≡ mid → j ≡ id → IsUnbegun u j e → y ≡ u → v ≡ did y j.party (Drop j.number) → IsOpenRefused w h texts e v
  refused_unbegun e u y v j may is named x stays leaves =
      let z : IsUnbegun mid id e = subst (λ (k : RunId). IsUnbegun mid k e) named (subst (λ (k : WorldView). IsUnbegun k j e) is x) in
      let same : z.state ≡ st = same_opened z.state z.current in
      inr (may, begins_by true (Some e) (ap sends_first (sym same) ∙ z.first) (ap (spent_refusal (desk_in mid (me h))) (sym same) ∙ z.spent), leaves ∙ (λ i. did ((stays ∙ is) i) (named i).party (Drop (named i).number)))

  -- want of memory: it is given up
  pub left_given_up : (u y v : WorldView) (j : RunId) → open_refusal w h ≡ None → u ≡ mid → j ≡ id → IsBrokenOff (SaysFirst u j) u y j.party → v ≡ did y j.party (Drop j.number) → IsOpenLeft w h texts v
  left_given_up u y v j may is named l leaves =
      let z : IsBrokenOff (SaysFirst mid id) mid y (me h) = subst (λ (k : RunId). IsBrokenOff (SaysFirst mid k) mid y k.party) named (subst (λ (k : WorldView). IsBrokenOff (SaysFirst k j) k y j.party) is l) in
      inr (record {
        may = may;
        acts = y.acts;
        part = subst (λ (m : ℕ). IsPartAtMost (λ s. (s ≡ st) × (sends_first s ≡ true)) mid (me h) y.acts m) (sym (ap (λ (x : WorldView). x.draws) leaves)) (first z.part);
        gives_up = ap (λ (x : WorldView). x.acts) leaves ∙ (λ i. y.acts ++ act (named i).party (Drop (named i).number) ∷ []);
        config = ap (λ (x : WorldView). x.config) leaves ∙ z.config;
        clocks = ap (λ (x : WorldView). x.clocks) leaves ∙ z.clocks;
        runs = ap (λ (x : WorldView). x.runs) leaves ∙ z.runs;
      })
    where
      first : IsPartAtMost (SaysFirst mid id) mid (me h) y.acts y.draws → IsPartAtMost (λ s. (s ≡ st) × (sends_first s ≡ true)) mid (me h) y.acts y.draws
      first (inl x) = inl x
      first (inr (s, (current, says), made)) = inr (s, (same_opened s current, says), made)

  -- nothing has changed
  pub left_same : (v : WorldView) → v ≡ w → IsOpenLeft w h texts v
  left_same v e = inl e

  -- ---- what is added

  one_sent : (o : Option Tree) → length (option_to_list o) ≤ 1
  one_sent None = omega arith
  one_sent (Some t) = omega arith

  pub grown_begun : (o : Opened) (v : WorldView) → IsOpened w h texts o v → HasGrown w v
  grown_begun o v x = elim x.goes [ inl y ↦ waits y.leaves | inr y ↦ speaks y.step y.leaves ]
    where
      runs_one : length (w.runs ++ id ∷ []) ≤ length w.runs + 1
      runs_one = let e = length-append w.runs (id ∷ []) in omega (arith, e)

      waits : v ≡ enlisted w h texts → HasGrown w v
      waits e = subst (HasGrown w) (sym e) (record { runs = runs_one; messages = let s = open_sent in omega (arith, s); draws = omega arith })

      speaks : (step : Move) → v ≡ stepped (enlisted w h texts) id st step → HasGrown w v
      speaks step e = subst (HasGrown w) (sym e) (record {
        runs = runs_one;
        messages =
            let a = ap length (sent_snoc (made_by (enlisted w h texts) (me h) st).acts (me h) (Commit (next_run w (me h)) (moment (enlisted w h texts) (me h)) step)) in
            let b = length-append (sent_in (made_by (enlisted w h texts) (me h) st).acts) (option_to_list step.reply) in
            let c = ap length (issue_sent mid.acts (me h) (moment (enlisted w h texts) (me h)) (stamp_due (enlisted w h texts) (me h) st)) in
            let d = open_sent in let o = one_sent step.reply in omega (arith, a, b, c, d, o);
        draws = let f = draws_few st in omega (arith, f);
      })

  pub grown_left : (v : WorldView) → IsOpenLeft w h texts v → HasGrown w v
  grown_left v (inl e) = record {
    runs = let f = ap (λ (x : WorldView). length x.runs) e in omega (arith, f);
    messages = let f = ap (λ (x : WorldView). length (sent_in x.acts)) e in omega (arith, f);
    draws = let f = ap (λ (x : WorldView). x.draws) e in omega (arith, f);
  }
  grown_left v (inr l) = record {
    runs = let e = ap length l.runs in omega (arith, e);
    messages =
        let a = ap (λ (acts : List Act). length (sent_in acts)) l.gives_up in
        let b = ap length (sent_snoc l.acts (me h) (Drop (next_run w (me h))) ∙ append-nil (sent_in l.acts)) in
        let c = sent l.part in
        let d = open_sent in omega (arith, a, b, c, d);
    draws = few l.part;
  }
    where
      Due : State → Type 0
      Due s = (s ≡ st) × (sends_first s ≡ true)

      sent : IsPartAtMost Due mid (me h) l.acts v.draws → length (sent_in l.acts) ≡ length (sent_in mid.acts)
      sent (inl (a, d)) = ap (λ (acts : List Act). length (sent_in acts)) a
      sent (inr (s, due, (inl a, less, more))) = ap (λ (acts : List Act). length (sent_in acts)) a
      sent (inr (s, due, (inr a, less, more))) = ap (λ (acts : List Act). length (sent_in acts)) a ∙ ap length (issue_sent mid.acts (me h) (moment mid (me h)) (stamp_due mid (me h) s))

      few : IsPartAtMost Due mid (me h) l.acts v.draws → v.draws ≤ w.draws + 15
      few (inl (a, d)) = omega (arith, d)
      few (inr (s, due, (a, less, more))) = let m = most_few s in omega (arith, more, m)
