-- What parties did, as entries of a world, as logs, and as what the attacker knows.
use Rattle.std.proofs.Common.{◌≡◌, ◌⊎◌, ◌↔◌, ◌==◌, ℕ, Bool, true, false, if◌then◌else◌, List, [], ◌∷◌, ◌++◌, map, reverse, Option, Some, None, refl, sym, ap, subst, ◌∙◌, inl, inr, eq-eqb}
use Rattle.std.specs.Option.{option_to_list}
use Rattle.std.proofs.lemmas.List.{append-nil, append_assoc, reverse-append, reverse-reverse}
use Rattle.term_values.specs.Trees.{Among, Tree, part}
use Rattle.term_values.proofs.Lists.{among_append, among_left, among_right}
use Rattle.attacker_model.specs.Derivation.{Derivable}
use Rattle.attacker_model.proofs.Derivations.{more_known}
use Rattle.mech_rows.specs.Runs.{Run}
use Rattle.mech_rows.specs.Verdict.{run_of}
use Rattle.agreement_laws.specs.Configs.{Config, revealed_parts}
use Rattle.agreement_laws.specs.Nodes.{Node, Standing, new_node, node_after}
use Rattle.agreement_laws.specs.Nodes as node
use Rattle.agreement_laws.specs.Traces.{RunId, current, with_reply, known_before}
use Rattle.agreement_laws.specs.Worlds.{Entry, At, ring_of, run_id, trace}
use Rattle.agreement_laws.specs.Worlds as world
use Rattle.agreement_laws.proofs.Reduction.{run_at}
use Rattle.agreement_laws.proofs.Reduction as reduction
use Rattle.node_desk.specs.declared.event.Event.{Event}
use Rattle.node_desk.specs.declared.event.Event.TheVariants.{Open, Issue, Commit, Drop, Restart}
use Rattle.node_desk.specs.Desks.{node_at}
use Rattle.node_desk.specs.Events.{event_of, log_of}
use Rattle.node_desk.specs.Helds.{Held, held_at, held_by}
use Rattle.node_desk.proofs.Logs.{standing, runs_are, held_at-snoc}
use Rattle.world_run.specs.Turns.{desk_in}
use Rattle.world_run.specs.Views.{Act, act, acts_of, entries, held_in, sent_by, sent_in, known_in, WorldView}

-- ---- one more act

pub entry_of : Act → Entry
entry_of a = At a.party (event_of a.event)

pub entries_snoc : (acts : List Act) (n : ℕ) (e : Event) → entries (acts ++ act n e ∷ []) ≡ At n (event_of e) ∷ entries acts
entries_snoc acts n e = ap (map (λ (a : Act). At a.party (event_of a.event))) (reverse-append acts (act n e ∷ []))

pub acts_of_append : (n : ℕ) (acts more : List Act) → acts_of n (acts ++ more) ≡ acts_of n acts ++ acts_of n more
acts_of_append n [] more = refl
acts_of_append n (a ∷ acts) more = go (a.party == n) (acts_of_append n acts more)
  where
    go : (b : Bool) → acts_of n (acts ++ more) ≡ acts_of n acts ++ acts_of n more → (if b then a.event ∷ acts_of n (acts ++ more) else acts_of n (acts ++ more)) ≡ (if b then a.event ∷ acts_of n acts else acts_of n acts) ++ acts_of n more
    go true e = ap (λ (es : List Event). a.event ∷ es) e
    go false e = e

pub acts_of_own : (n : ℕ) (acts : List Act) (e : Event) → acts_of n (acts ++ act n e ∷ []) ≡ acts_of n acts ++ e ∷ []
acts_of_own n acts e = acts_of_append n acts (act n e ∷ []) ∙ ap (λ (b : Bool). acts_of n acts ++ (if b then e ∷ [] else [])) (eq-eqb n n refl)

pub acts_of_other : (n m : ℕ) (acts : List Act) (e : Event) → (m == n) ≡ false → acts_of n (acts ++ act m e ∷ []) ≡ acts_of n acts
acts_of_other n m acts e f = acts_of_append n acts (act m e ∷ []) ∙ (ap (λ (b : Bool). acts_of n acts ++ (if b then e ∷ [] else [])) f ∙ append-nil (acts_of n acts))

pub sent_append : (acts more : List Act) → sent_in (acts ++ more) ≡ sent_in acts ++ sent_in more
sent_append [] more = refl
sent_append (a ∷ acts) more = ap (λ (ts : List Tree). sent_by a.event ++ ts) (sent_append acts more) ∙ sym (append_assoc (sent_by a.event) (sent_in acts) (sent_in more))

pub sent_snoc : (acts : List Act) (n : ℕ) (e : Event) → sent_in (acts ++ act n e ∷ []) ≡ sent_in acts ++ sent_by e
sent_snoc acts n e = sent_append acts (act n e ∷ []) ∙ ap (λ (ts : List Tree). sent_in acts ++ ts) (append-nil (sent_by e))

-- ---- logs

acts_of_reverse : (n : ℕ) (acts : List Act) → acts_of n (reverse acts) ≡ reverse (acts_of n acts)
acts_of_reverse n [] = refl
acts_of_reverse n (a ∷ acts) =
    ap (acts_of n) (reverse-append (a ∷ []) acts)
    ∙ (acts_of_append n (reverse acts) (a ∷ [])
    ∙ go (a.party == n) (acts_of_reverse n acts))
  where
    go : (b : Bool) → acts_of n (reverse acts) ≡ reverse (acts_of n acts) → acts_of n (reverse acts) ++ (if b then a.event ∷ [] else []) ≡ reverse (if b then a.event ∷ acts_of n acts else acts_of n acts)
    go true e = ap (λ (es : List Event). es ++ a.event ∷ []) e ∙ sym (reverse-append (a.event ∷ []) (acts_of n acts))
    go false e = append-nil (acts_of n (reverse acts)) ∙ e

log_by : (n : ℕ) (past : List Act) → world.log_of n (map (λ (a : Act). At a.party (event_of a.event)) past) ≡ map event_of (acts_of n past)
log_by n [] = refl
log_by n (a ∷ past) = go (a.party == n) (log_by n past)
  where
    go : (b : Bool) → world.log_of n (map (λ (x : Act). At x.party (event_of x.event)) past) ≡ map event_of (acts_of n past) → (if b then event_of a.event ∷ world.log_of n (map (λ (x : Act). At x.party (event_of x.event)) past) else world.log_of n (map (λ (x : Act). At x.party (event_of x.event)) past)) ≡ map event_of (if b then a.event ∷ acts_of n past else acts_of n past)
    go true e = ap (λ (es : List node.Event). event_of a.event ∷ es) e
    go false e = e

-- the log of a party, in the eyes of the laws
pub log_is : (n : ℕ) (acts : List Act) → world.log_of n (entries acts) ≡ log_of (acts_of n acts)
log_is n acts = log_by n (reverse acts) ∙ ap (map event_of) (acts_of_reverse n acts)

pub node_is : (w : WorldView) (n : ℕ) → world.node_of w.config n (entries w.acts) ≡ node_at (desk_in w n)
node_is w n = ap (node_after (new_node (ring_of w.config n) 0)) (log_is n w.acts)

-- ---- runs

-- the run that is held
abbrev pub run_shown : Option Held → Option Run
run_shown None = None
run_shown (Some h) = Some (run_of h.state)

run_standing : (o : Option Held) → reduction.run_of (standing o) ≡ run_shown o
run_standing None = refl
run_standing (Some h) = refl

-- a run, in the eyes of the laws
pub current_is : (w : WorldView) (id : RunId) → current (trace (entries w.acts)) id ≡ run_shown (held_in w.acts id)
current_is w id =
    sym (run_at w.config id.party id.number (entries w.acts))
    ∙ (ap (λ (x : Node). reduction.run_of (x.runs id.number)) (node_is w id.party)
    ∙ (ap reduction.run_of (runs_are (ring_of w.config id.party) 0 (acts_of id.party w.acts) id.number)
    ∙ run_standing (held_in w.acts id)))

pub held_own : (acts : List Act) (n m : ℕ) (e : Event) → held_in (acts ++ act n e ∷ []) (run_id n m) ≡ held_by (e ∷ reverse (acts_of n acts)) m
held_own acts n m e = ap (λ (es : List Event). held_at es m) (acts_of_own n acts e) ∙ held_at-snoc (acts_of n acts) e m

pub held_other : (acts : List Act) (n : ℕ) (e : Event) (id : RunId) → (n == id.party) ≡ false → held_in (acts ++ act n e ∷ []) id ≡ held_in acts id
held_other acts n e id f = ap (λ (es : List Event). held_at es id.number) (acts_of_other id.party n acts e f)

-- ---- what is known

event_known : (c : Config) (n : ℕ) (e : Event) (h : List Entry) (t : Tree) → Among t (sent_by e) ⊎ Among t (known_before c (trace h)) → Among t (known_before c (trace (At n (event_of e) ∷ h)))
event_known c n (Open run head texts) h t (inl i) = absurd i
event_known c n (Open run head texts) h t (inr i) = i
event_known c n (Issue now stamp) h t (inl i) = absurd i
event_known c n (Issue now stamp) h t (inr i) = i
event_known c n (Drop run) h t (inl i) = absurd i
event_known c n (Drop run) h t (inr i) = i
event_known c n (Restart now last more) h t (inl i) = absurd i
event_known c n (Restart now last more) h t (inr i) = i
event_known c n (Commit run now step) h t i = go step.reply i
  where
    go : (o : Option Tree) → Among t (option_to_list o) ⊎ Among t (known_before c (trace h)) → Among t (with_reply o (known_before c (trace h)))
    go None (inl j) = absurd j
    go None (inr j) = j
    go (Some u) (inl (inl e)) = inl e
    go (Some u) (inl (inr j)) = absurd j
    go (Some u) (inr j) = inr j

known_event : (c : Config) (n : ℕ) (e : Event) (h : List Entry) (t : Tree) → Among t (known_before c (trace (At n (event_of e) ∷ h))) → Among t (sent_by e) ⊎ Among t (known_before c (trace h))
known_event c n (Open run head texts) h t i = inr i
known_event c n (Issue now stamp) h t i = inr i
known_event c n (Drop run) h t i = inr i
known_event c n (Restart now last more) h t i = inr i
known_event c n (Commit run now step) h t i = go step.reply i
  where
    go : (o : Option Tree) → Among t (with_reply o (known_before c (trace h))) → Among t (option_to_list o) ⊎ Among t (known_before c (trace h))
    go None j = inr j
    go (Some u) (inl e) = inl (inl e)
    go (Some u) (inr j) = inr j

known_past : (c : Config) (past : List Act) (t : Tree) → Among t (sent_in past) ⊎ Among t (map part c.own ++ revealed_parts c.pairs) → Among t (known_before c (trace (map (λ (a : Act). At a.party (event_of a.event)) past)))
known_past c [] t (inl i) = absurd i
known_past c [] t (inr i) = i
known_past c (a ∷ past) t (inr i) = event_known c a.party a.event (map (λ (x : Act). At x.party (event_of x.event)) past) t (inr (known_past c past t (inr i)))
known_past c (a ∷ past) t (inl i) = go (among_append (sent_by a.event) (sent_in past) t i) (λ j. known_past c past t (inl j))
  where
    go : Among t (sent_by a.event) ⊎ Among t (sent_in past) → (Among t (sent_in past) → Among t (known_before c (trace (map (λ (x : Act). At x.party (event_of x.event)) past)))) → Among t (known_before c (trace (map (λ (x : Act). At x.party (event_of x.event)) (a ∷ past))))
    go (inl j) rest = event_known c a.party a.event (map (λ (x : Act). At x.party (event_of x.event)) past) t (inl j)
    go (inr j) rest = event_known c a.party a.event (map (λ (x : Act). At x.party (event_of x.event)) past) t (inr (rest j))

past_known : (c : Config) (past : List Act) (t : Tree) → Among t (known_before c (trace (map (λ (a : Act). At a.party (event_of a.event)) past))) → Among t (sent_in past) ⊎ Among t (map part c.own ++ revealed_parts c.pairs)
past_known c [] t i = inr i
past_known c (a ∷ past) t i = go (known_event c a.party a.event (map (λ (x : Act). At x.party (event_of x.event)) past) t i) (past_known c past t)
  where
    go : Among t (sent_by a.event) ⊎ Among t (known_before c (trace (map (λ (x : Act). At x.party (event_of x.event)) past))) → (Among t (known_before c (trace (map (λ (x : Act). At x.party (event_of x.event)) past))) → Among t (sent_in past) ⊎ Among t (map part c.own ++ revealed_parts c.pairs)) → Among t (sent_by a.event ++ sent_in past) ⊎ Among t (map part c.own ++ revealed_parts c.pairs)
    go (inl j) rest = inl (among_left (sent_by a.event) (sent_in past) t j)
    go (inr j) rest = elim (rest j) [ inl k ↦ inl (among_right (sent_by a.event) (sent_in past) t k) | inr k ↦ inr k ]

sent_reverse : (acts : List Act) (t : Tree) → Among t (sent_in acts) → Among t (sent_in (reverse acts))
sent_reverse [] t i = i
sent_reverse (a ∷ acts) t i =
    subst (λ (ts : List Tree). Among t ts) (sym (ap sent_in (reverse-append (a ∷ []) acts) ∙ sent_append (reverse acts) (a ∷ [])))
    (go (among_append (sent_by a.event) (sent_in acts) t i) (sent_reverse acts t))
  where
    go : Among t (sent_by a.event) ⊎ Among t (sent_in acts) → (Among t (sent_in acts) → Among t (sent_in (reverse acts))) → Among t (sent_in (reverse acts) ++ (sent_by a.event ++ []))
    go (inl j) rest = among_right (sent_in (reverse acts)) (sent_by a.event ++ []) t (among_left (sent_by a.event) [] t j)
    go (inr j) rest = among_left (sent_in (reverse acts)) (sent_by a.event ++ []) t (rest j)

reverse_sent : (acts : List Act) (t : Tree) → Among t (sent_in (reverse acts)) → Among t (sent_in acts)
reverse_sent acts t i = subst (λ (as_ : List Act). Among t (sent_in as_)) (reverse-reverse acts) (sent_reverse (reverse acts) t i)

swap : {X Y : Type 0} → X ⊎ Y → Y ⊎ X
swap (inl x) = inr x
swap (inr y) = inl y

pub known_is : (w : WorldView) (t : Tree) → Among t (known_in w) → Among t (known_before w.config (trace (entries w.acts)))
known_is w t i = known_past w.config (reverse w.acts) t (elim (swap (among_append (map part w.config.own ++ revealed_parts w.config.pairs) (sent_in w.acts) t i)) [ inl j ↦ inl (sent_reverse w.acts t j) | inr j ↦ inr j ])

pub is_known : (w : WorldView) (t : Tree) → Among t (known_before w.config (trace (entries w.acts))) → Among t (known_in w)
is_known w t i = elim (past_known w.config (reverse w.acts) t i) [ inl j ↦ among_right (map part w.config.own ++ revealed_parts w.config.pairs) (sent_in w.acts) t (reverse_sent w.acts t j) | inr j ↦ among_left (map part w.config.own ++ revealed_parts w.config.pairs) (sent_in w.acts) t j ]

-- what is derivable from what the attacker was given is derivable in the eyes of the laws
pub derivable_is : (w : WorldView) (t : Tree) → Derivable (known_in w) t → Derivable (known_before w.config (trace (entries w.acts))) t
derivable_is w t d = more_known (known_in w) (known_before w.config (trace (entries w.acts))) (known_is w) t d

-- and the other way round
pub theory_derives : (w : WorldView) (known : List Tree) → known ≡ known_in w → (t : Tree) → Derivable known t ↔ Derivable (known_before w.config (trace (entries w.acts))) t
theory_derives w known e t = (
  λ d. derivable_is w t (subst (λ (ts : List Tree). Derivable ts t) e d),
  λ d. subst (λ (ts : List Tree). Derivable ts t) (sym e) (more_known (known_before w.config (trace (entries w.acts))) (known_in w) (is_known w) t d),
)
