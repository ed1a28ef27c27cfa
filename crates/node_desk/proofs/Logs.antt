-- One more event at the end of a log.
use Rattle.std.proofs.Common.{◌≡◌, ◌==◌, ◌⊎◌, ℕ, List, [], ◌∷◌, ◌++◌, map, reverse, Bool, true, false, if◌then◌else◌, Option, Some, None, refl, sym, ap, subst, ◌∙◌, inl, inr}
use Rattle.std.proofs.lemmas.List.{reverse-append}
use Rattle.term_values.specs.Trees.{Among}
use Rattle.term_values.proofs.Lists.{among_append}
use Rattle.mech_rows.specs.Heads.{Head}
use Rattle.mech_rows.specs.Rings.{Ring}
use Rattle.mech_rows.specs.Runs.{Keys}
use Rattle.mech_rows.specs.Moves.{Move}
use Rattle.mech_rows.specs.Openings.{Texts, opened_run, opened_state}
use Rattle.mech_rows.specs.Verdict.{run_of}
use Rattle.agreement_laws.specs.Nodes.{Standing, new_node, node_after, changed, Needs, IsLegal, ended}
use Rattle.agreement_laws.proofs.Nodes.{rings_stay, log_is}
use Rattle.node_desk.specs.declared.event.Event.{Event}
use Rattle.node_desk.specs.declared.event.Event.TheVariants.{Open, Issue, Commit, Drop, Restart}
use Rattle.node_desk.specs.Events.{event_of, log_of}
use Rattle.node_desk.specs.Helds.{Held, no_longer, held_by, held_at}
use Rattle.node_desk.specs.Desks.{node_of, any_sealing, IsWholeLog, IsMadeWith, AreMadeWith}
use Rattle.node_desk.proofs.Opened.{opened_is}

pub reverse-snoc : (log : List Event) (event : Event) → reverse (log ++ event ∷ []) ≡ event ∷ reverse log
reverse-snoc log event = reverse-append log (event ∷ [])

pub log_of-snoc : (log : List Event) (event : Event) → log_of (log ++ event ∷ []) ≡ event_of event ∷ log_of log
log_of-snoc log event = ap (map event_of) (reverse-snoc log event)

pub held_at-snoc : (log : List Event) (event : Event) (n : ℕ) → held_at (log ++ event ∷ []) n ≡ held_by (event ∷ reverse log) n
held_at-snoc log event n = ap (λ (l : List Event). held_by l n) (reverse-snoc log event)

pub node_of-snoc : (ring : Ring) (first : ℕ) (log : List Event) (event : Event) → node_of ring first (log ++ event ∷ []) ≡ changed (node_of ring first log) (event_of event)
node_of-snoc ring first log event = ap (node_after (new_node ring first)) (log_of-snoc log event)

pub node_ring : (ring : Ring) (first : ℕ) (log : List Event) → (node_of ring first log).ring ≡ ring
node_ring ring first log = rings_stay (new_node ring first) (log_of log)

pub node_log : (ring : Ring) (first : ℕ) (log : List Event) → (node_of ring first log).log ≡ log_of log
node_log ring first log = log_is (new_node ring first) refl (log_of log)

-- a legal log stays legal by an event that has what it needs
pub whole-snoc : (ring : Ring) (first : ℕ) (log : List Event) (event : Event) → IsWholeLog ring first log → Needs any_sealing (node_of ring first log) (event_of event) → IsWholeLog ring first (log ++ event ∷ [])
whole-snoc ring first log event whole needs = subst (IsLegal any_sealing (new_node ring first)) (sym (log_of-snoc log event)) (whole, (needs, refl))

-- the steps of commits stay made with the keys by an event that is no other commit
pub made-snoc : (keys : Keys) (log : List Event) (event : Event) → AreMadeWith keys log → ((run now : ℕ) (step : Move) → Commit run now step ≡ event → IsMadeWith keys step) → AreMadeWith keys (log ++ event ∷ [])
made-snoc keys log event all last run now step i = go (among_append log (event ∷ []) (Commit run now step) i)
  where
    go : Among (Commit run now step) log ⊎ Among (Commit run now step) (event ∷ []) → IsMadeWith keys step
    go (inl j) = all run now step j
    go (inr (inl e)) = last run now step e
    go (inr (inr j)) = elim j [ ]

-- a run that is held, as it stands at the node
abbrev pub standing : Option Held → Option Standing
standing None = None
standing (Some h) = Some (record { run = run_of h.state; is_open = h.is_open })

standing-if : (b : Bool) (h : Option Held) (s : Option Standing) (others : Option Held) (rest : Option Standing) → s ≡ standing h → rest ≡ standing others → (if b then s else rest) ≡ standing (if b then h else others)
standing-if true h s others rest is all = is
standing-if false h s others rest is all = all

standing-ended : (o : Option Held) → ended (standing o) ≡ standing (no_longer o)
standing-ended None = refl
standing-ended (Some h) = refl

opened-standing : (h : Head) (texts : Texts) → Some (record { run = opened_run h texts; is_open = true }) ≡ standing (Some (record { state = opened_state h texts; is_open = true }))
opened-standing h texts = λ i. Some (record { run = sym (opened_is h texts) i; is_open = true })

runs_by : (ring : Ring) (first : ℕ) (past : List Event) (n : ℕ) → (node_after (new_node ring first) (map event_of past)).runs n ≡ standing (held_by past n)
runs_by ring first [] n = refl
runs_by ring first (Open run head texts ∷ past) n = standing-if (run == n) (Some (record { state = opened_state head texts; is_open = true })) _ (held_by past n) _ (opened-standing head texts) (runs_by ring first past n)
runs_by ring first (Issue now stamp ∷ past) n = runs_by ring first past n
runs_by ring first (Commit run now step ∷ past) n = standing-if (run == n) (Some (record { state = step.after; is_open = _ })) _ (held_by past n) _ refl (runs_by ring first past n)
runs_by ring first (Drop run ∷ past) n = standing-if (run == n) (no_longer (held_by past n)) _ (held_by past n) _ (ap ended (runs_by ring first past n) ∙ standing-ended (held_by past n)) (runs_by ring first past n)
runs_by ring first (Restart now last more ∷ past) n = ap ended (runs_by ring first past n) ∙ standing-ended (held_by past n)

-- the runs of the node are those that are held
pub runs_are : (ring : Ring) (first : ℕ) (log : List Event) (n : ℕ) → (node_of ring first log).runs n ≡ standing (held_at log n)
runs_are ring first log n = runs_by ring first (reverse log) n
