-- What a legal log tells of its last event; and a party that may have issued a stamp.
use Rattle.std.proofs.Common.{◌≡◌, ◌⊎◌, ◌==◌, ◌<◌, ◌≤◌, ◌+◌, ℕ, suc, max, Bool, true, false, if◌then◌else◌, nat_lt, List, [], ◌∷◌, ◌++◌, length, get_or, set, map, reverse, Option, Some, None, is_some, refl, sym, ap, ap₂, subst, ◌∙◌, inl, inr, arith, eqb-true}
use Rattle.std.proofs.lemmas.Bool.{lt-ltb, ltb-true}
use Rattle.std.proofs.lemmas.List.{append-nil, length-append, reverse-append, reverse-reverse}
use Rattle.term_values.specs.Trees.{Among, Tree}
use Rattle.term_values.specs.declared.small.Key.{Key}
use Rattle.term_values.specs.declared.small.Stamp.{Stamp}
use Rattle.term_values.proofs.Lists.{among_append, among_left, among_right}
use Rattle.replay_store.specs.Stamps.{next_stamp}
use Rattle.mech_rows.specs.Lawful.{tested_by}
use Rattle.mech_rows.specs.Rings.{Ring, keys_in}
use Rattle.mech_rows.specs.Runs.{Keys}
use Rattle.mech_rows.specs.Steps.{Sealer}
use Rattle.seal_symbolic.specs.Symbolic.{body_of, is_check}
use Rattle.agreement_laws.specs.Configs.{Config}
use Rattle.agreement_laws.specs.Nodes.{Log, Needs, IsLegal, new_node}
use Rattle.agreement_laws.specs.Worlds.{ring_of}
use Rattle.node_desk.specs.declared.event.Event.{Event}
use Rattle.node_desk.specs.declared.event.Event.TheVariants.{Issue}
use Rattle.node_desk.specs.Deliveries.{IssuedIs, MayHaveIssued}
use Rattle.node_desk.specs.Desks.{AreSteps, DeskView, Entered, IsLegalLog, IsStepEvent, Untouched, node_at, node_of}
use Rattle.node_desk.specs.Events.{event_of, log_of}
use Rattle.node_desk.proofs.Logs.{log_of-snoc, node_ring, reverse-snoc}
use Rattle.world_run.specs.declared.seat.Seat.{Seat}
use Rattle.world_run.specs.Clocks.{clock_by, clock_in}
use Rattle.world_run.specs.Parties.{AreParties, AreTheirSteps, log_in, merged, seat_clock, seat_name}
use Rattle.world_run.specs.Turns.{desk_in, moment, next_stamp_of, with_issue}
use Rattle.world_run.specs.Views.{Act, act, acts_of, WorldView}
use Rattle.world_run.proofs.Seats.{IsSeatOf, seat_is, wrote_more, wrote_acts, wrote_same, acts_stay}

-- ---- the last event of a legal log

are_steps : (opens : Sealer) (keys : Keys) (past : List Event) → ((e : Event) → Among e past → IsStepEvent opens keys e) → AreSteps opens keys past
are_steps opens keys [] each = tt
are_steps opens keys (e ∷ past) each = (each e (inl refl), are_steps opens keys past (λ x i. each x (inr i)))

among_reverse : {X : Type 0} (xs : List X) (x : X) → Among x xs → Among x (reverse xs)
among_reverse [] x i = i
among_reverse (y ∷ xs) x (inl e) = subst (Among x) (sym (reverse-append (y ∷ []) xs)) (among_right (reverse xs) (y ∷ []) x (inl e))
among_reverse (y ∷ xs) x (inr i) = subst (Among x) (sym (reverse-append (y ∷ []) xs)) (among_left (reverse xs) (y ∷ []) x (among_reverse xs x i))

reverse_among : {X : Type 0} (xs : List X) (x : X) → Among x (reverse xs) → Among x xs
reverse_among xs x i = subst (Among x) (reverse-reverse xs) (among_reverse (reverse xs) x i)

acts_among : (n : ℕ) (acts : List Act) (e : Event) → Among e (acts_of n acts) → Among (act n e) acts
acts_among n [] e i = i
acts_among n (a ∷ acts) e i = go (a.party == n) refl i (acts_among n acts e)
  where
    go : (b : Bool) → (a.party == n) ≡ b → Among e (if b then a.event ∷ acts_of n acts else acts_of n acts) → (Among e (acts_of n acts) → Among (act n e) acts) → Among (act n e) (a ∷ acts)
    go true f (inl is) rest = inl (λ j. record { party = sym (eqb-true a.party n f) j; event = is j })
    go true f (inr j) rest = inr (rest j)
    go false f j rest = inr (rest j)

-- the commits of a party are of steps over the two tests
pub party_steps : (c : Config) (acts : List Act) (n : ℕ) → AreTheirSteps c acts → (e : Event) → Among e (acts_of n acts) → IsStepEvent (tested_by body_of is_check) (keys_in (ring_of c n)) e
party_steps c acts n steps e i = steps (act n e) (acts_among n acts e i)

-- the last event of a legal log has what it needs
pub needs_last : (ring : Ring) (first : ℕ) (log : List Event) (e : Event) → IsLegalLog ring first (log ++ e ∷ []) → ((x : Event) → Among x log → IsStepEvent (tested_by body_of is_check) (keys_in ring) x) → IsStepEvent (tested_by body_of is_check) (keys_in ring) e → Needs (tested_by body_of is_check) (node_of ring first log) (event_of e)
needs_last ring first log e legal steps step =
    let all : AreSteps (tested_by body_of is_check) (keys_in ring) (reverse (log ++ e ∷ [])) =
    subst (AreSteps (tested_by body_of is_check) (keys_in ring)) (sym (reverse-snoc log e)) (step, are_steps (tested_by body_of is_check) (keys_in ring) (reverse log) (λ x i. steps x (reverse_among log x i))) in
    let l : IsLegal (tested_by body_of is_check) (new_node ring first) (event_of e ∷ log_of log) = subst (IsLegal (tested_by body_of is_check) (new_node ring first)) (log_of-snoc log e) (legal body_of is_check all) in
    l.1.0

-- ---- a stamp

-- the order after the party had its events noted
noted_one : (xs : List ℕ) (n before : ℕ) (more : List ℕ) → more ≡ (if nat_lt before (before + 1) then xs ++ n ∷ [] else xs) → more ≡ xs ++ n ∷ []
noted_one xs n before more e = e ∙ ap (λ (b : Bool). if b then xs ++ n ∷ [] else xs) (lt-ltb before (before + 1) (omega arith))

noted_none : (xs : List ℕ) (n before : ℕ) (more : List ℕ) → more ≡ (if nat_lt before before then xs ++ n ∷ [] else xs) → more ≡ xs
noted_none xs n before more e = e ∙ go (nat_lt before before) refl
  where
    go : (b : Bool) → nat_lt before before ≡ b → (if b then xs ++ n ∷ [] else xs) ≡ xs
    go false f = refl
    go true f = absurd (never before f)
      where
        never : (k : ℕ) → nat_lt k k ≡ true → ⊥
        never k g = let l = ltb-true k k g in omega (arith, l)

-- what is so of the parties after a call that may have issued a stamp
pub record HasNoted (c : Config) (ss : List Seat) (order : List ℕ) (i n : ℕ) (s : Seat) (now : ℕ) (more : List ℕ) (issued : Option Stamp) : Type 0 where
  pub parties : AreParties c (set ss i s) more
  pub acts : merged (log_in (set ss i s)) more ≡ with_issue (merged (log_in ss) order) n now issued
  pub next : (x : Stamp) → issued ≡ Some x → next_stamp (ring_of c n).kind (node_at (record { ring = ring_of c n; first = 0; log = acts_of n (merged (log_in ss) order); spare = 0 })).last now ≡ Some x
  pub longer : length more ≤ length order + 1

module _ (c : Config) (ss : List Seat) (order : List ℕ) (a : AreParties c ss order) (places : List Seat) (same : places ≡ ss) (i n : ℕ) (x : Seat) (within : i < length places) (named : (d : Seat) → seat_name (get_or places i d) ≡ n) (at : x ≡ get_or ss i x) (d : DeskView) (legal : IsLegalLog d.ring d.first d.log) (more : List ℕ) where
  abbrev acts : List Act
  acts = merged (log_in ss) order

  abbrev seat : Seat
  seat = record { desk = d; clock = x.clock }

  is_x : IsSeatOf c acts x n
  is_x = seat_is c ss order a places same i n x within named at

  pub untouched_noted : (now : ℕ) → Untouched x.desk d → more ≡ order → HasNoted c ss order i n seat now more None
  untouched_noted now u o = record {
    parties = wrote_same c ss order a places same i n x within named at seat u.ring u.first more u.log o;
    acts = acts_stay c ss order a places same i n x within named at seat u.ring u.first more u.log o;
    next = λ y e. absurd (cc);
    longer = let e = ap length o in omega (arith, e);
  }

  issue_noted : (now : ℕ) (y : Stamp) → Entered x.desk d (Issue now y) → more ≡ order ++ n ∷ [] → HasNoted c ss order i n seat now more (Some y)
  issue_noted now y u o = record {
    parties = wrote_more c ss order a places same i n x within named at seat u.ring u.first (Issue now y) more u.log o tt;
    acts = wrote_acts c ss order a places same i n x within named at seat u.ring u.first (Issue now y) more u.log o;
    next = λ z e. subst (λ (o : Option Stamp). next_stamp (ring_of c n).kind (node_of (ring_of c n) 0 (acts_of n acts)).last now ≡ o) e needed;
    longer = let e = ap length o in let f = length-append order (n ∷ []) in omega (arith, e, f);
  }
    where
      ring_now : d.ring ≡ ring_of c n
      ring_now = u.ring ∙ is_x.ring

      log_now : d.log ≡ acts_of n acts ++ Issue now y ∷ []
      log_now = u.log ∙ ap (λ (es : List Event). es ++ Issue now y ∷ []) is_x.log

      legal_now : IsLegalLog (ring_of c n) 0 (acts_of n acts ++ Issue now y ∷ [])
      legal_now =
          subst (λ (es : List Event). IsLegalLog (ring_of c n) 0 es) log_now
          (subst (λ (k : ℕ). IsLegalLog (ring_of c n) k d.log) (u.first ∙ is_x.first)
          (subst (λ (r : Ring). IsLegalLog r d.first d.log) ring_now legal))

      needs : Needs (tested_by body_of is_check) (node_of (ring_of c n) 0 (acts_of n acts)) (event_of (Issue now y))
      needs = needs_last (ring_of c n) 0 (acts_of n acts) (Issue now y) legal_now (party_steps c acts n a.steps) tt

      needed : next_stamp (ring_of c n).kind (node_of (ring_of c n) 0 (acts_of n acts)).last now ≡ Some y
      needed = subst (λ (r : Ring). next_stamp r.kind (node_of (ring_of c n) 0 (acts_of n acts)).last now ≡ Some y) (node_ring (ring_of c n) 0 (acts_of n acts)) needs.is_next

  -- the names noted are as many as the events
  more_names : (e : Event) → d.log ≡ x.desk.log ++ e ∷ [] → more ≡ (if nat_lt (length x.desk.log) (length d.log) then order ++ n ∷ [] else order) → more ≡ order ++ n ∷ []
  more_names e l o = noted_one order n (length x.desk.log) more (o ∙ ap (λ (k : ℕ). if nat_lt (length x.desk.log) k then order ++ n ∷ [] else order) (ap length l ∙ length-append x.desk.log (e ∷ [])))

  same_names : d.log ≡ x.desk.log → more ≡ (if nat_lt (length x.desk.log) (length d.log) then order ++ n ∷ [] else order) → more ≡ order
  same_names l o = noted_none order n (length x.desk.log) more (o ∙ ap (λ (k : ℕ). if nat_lt (length x.desk.log) k then order ++ n ∷ [] else order) (ap length l))

  pub issued_noted : (clock : ℕ) (issued : Option Stamp) → IssuedIs x.desk d clock issued → more ≡ (if nat_lt (length x.desk.log) (length d.log) then order ++ n ∷ [] else order) → HasNoted c ss order i n seat (max (node_at x.desk).now clock) more issued
  issued_noted clock None u o = untouched_noted (max (node_at x.desk).now clock) u (same_names u.log o)
  issued_noted clock (Some y) u o = issue_noted (max (node_at x.desk).now clock) y u (more_names (Issue (max (node_at x.desk).now clock) y) u.log o)
