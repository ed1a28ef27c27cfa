-- Steps that suit a desk: their keys, and their stamps.
use Rattle.std.proofs.Common.{◌≡◌, ◌↔◌, ◌==◌, ℕ, zero, suc, List, [], ◌∷◌, ◌++◌, ◌⊎◌, map, reverse, Bool, true, false, not, ◌&&◌, if◌then◌else◌, Option, Some, None, IsTrue, refl, sym, ap, subst, ◌∙◌, inl, inr, eqb-true, eq-eqb}
use Rattle.std.specs.List.{list_all, list_any}
use Rattle.std.proofs.lemmas.List.{reverse-append}
use Rattle.term_values.specs.Trees.{Among}
use Rattle.term_values.specs.declared.small.Stamp.{Stamp}
use Rattle.term_values.specs.declared.small.Stamp.TheVariants.{Time, Seq}
use Rattle.term_values.proofs.Lists.{among_map, map_among, among_append, among_left, among_right, some_among, any_among}
use Rattle.replay_store.specs.Stores.{same_stamp}
use Rattle.mech_rows.specs.Moves.{step_of}
use Rattle.mech_rows.specs.Runs.{Step}
use Rattle.agreement_laws.specs.Nodes.{Event as Happens, WasIssued, WasUsed}
use Rattle.agreement_laws.specs.Nodes as node
use Rattle.node_desk.specs.declared.event.Event.{Event}
use Rattle.node_desk.specs.declared.event.Event.TheVariants.{Open, Issue, Commit, Drop, Restart}
use Rattle.node_desk.specs.Events.{event_of, log_of}
use Rattle.node_desk.specs.Desks.{IsUnused}
use Rattle.node_desk.specs.Suits.{issues, uses, is_that}

same-is : (a b : Stamp) → same_stamp a b ≡ true → a ≡ b
same-is (Time m) (Time n) e = ap Time (sym (eqb-true n m e))
same-is (Time m) (Seq n) e = absurd (cc)
same-is (Seq m) (Time n) e = absurd (cc)
same-is (Seq m) (Seq n) e = ap Seq (sym (eqb-true n m e))

same-refl : (a : Stamp) → same_stamp a a ≡ true
same-refl (Time n) = eq-eqb n n refl
same-refl (Seq n) = eq-eqb n n refl

to-reverse : {X : Type 0} (xs : List X) (x : X) → Among x xs → Among x (reverse xs)
to-reverse [] x i = elim i [ ]
to-reverse (y ∷ ys) x (inl e) = subst (Among x) (sym (reverse-append (y ∷ []) ys)) (among_right (reverse ys) (y ∷ []) x (inl e))
to-reverse (y ∷ ys) x (inr i) = subst (Among x) (sym (reverse-append (y ∷ []) ys)) (among_left (reverse ys) (y ∷ []) x (to-reverse ys x i))

from-reverse : {X : Type 0} (xs : List X) (x : X) → Among x (reverse xs) → Among x xs
from-reverse [] x i = i
from-reverse (y ∷ ys) x i = go (among_append (reverse ys) (y ∷ []) x (subst (Among x) (reverse-append (y ∷ []) ys) i)) (from-reverse ys x)
  where
    go : Among x (reverse ys) ⊎ Among x (y ∷ []) → (Among x (reverse ys) → Among x ys) → Among x (y ∷ ys)
    go (inl j) rest = inr (rest j)
    go (inr (inl e)) rest = inl e
    go (inr (inr j)) rest = elim j [ ]

-- an event of the log happened
to-log : (log : List Event) (event : Event) → Among event log → Among (event_of event) (log_of log)
to-log log event i = map_among event_of (reverse log) event (to-reverse log event i)

-- what happened is an event of the log
from-log : (log : List Event) (happens : Happens) → Among happens (log_of log) → (event : Event) × Among event log × (happens ≡ event_of event)
from-log log happens i = let r = among_map event_of (reverse log) happens i in (r.0, from-reverse log r.0 r.1, r.2)

issue-of : (stamp : Stamp) (event : Event) → issues stamp event ≡ true → (now : ℕ) × (event_of event ≡ node.Issue now stamp)
issue-of stamp (Issue now own) e = (now, ap (node.Issue now) (same-is own stamp e))
issue-of stamp (Open run head texts) e = absurd (cc)
issue-of stamp (Commit run now step) e = absurd (cc)
issue-of stamp (Drop run) e = absurd (cc)
issue-of stamp (Restart now last more) e = absurd (cc)

of-issue : (stamp : Stamp) (event : Event) (now : ℕ) → node.Issue now stamp ≡ event_of event → issues stamp event ≡ true
of-issue stamp (Issue at own) now e = let same : stamp ≡ own = cc in subst (λ (x : Stamp). same_stamp own x ≡ true) (sym same) (same-refl own)
of-issue stamp (Open run head texts) now e = absurd (cc)
of-issue stamp (Commit run at step) now e = absurd (cc)
of-issue stamp (Drop run) now e = absurd (cc)
of-issue stamp (Restart at last more) now e = absurd (cc)

that-is : (o : Option Stamp) (stamp : Stamp) → is_that o stamp ≡ true → o ≡ Some stamp
that-is None stamp e = absurd (cc)
that-is (Some own) stamp e = ap Some (same-is own stamp e)

is-that : (o : Option Stamp) (stamp : Stamp) → o ≡ Some stamp → is_that o stamp ≡ true
is-that o stamp e = subst (λ (x : Option Stamp). is_that x stamp ≡ true) (sym e) (same-refl stamp)

use-of : (log : List Event) (stamp : Stamp) (event : Event) → Among event log → uses stamp event ≡ true → WasUsed stamp (log_of log)
use-of log stamp (Commit run now step) i e = record { run = run; now = now; step = step_of step; there = to-log log (Commit run now step) i; issued = that-is step.issued stamp e }
use-of log stamp (Issue now own) i e = absurd (cc)
use-of log stamp (Open run head texts) i e = absurd (cc)
use-of log stamp (Drop run) i e = absurd (cc)
use-of log stamp (Restart now last more) i e = absurd (cc)

of-use : (stamp : Stamp) (event : Event) (u : Step) (run now : ℕ) → node.Commit run now u ≡ event_of event → u.issued ≡ Some stamp → uses stamp event ≡ true
of-use stamp (Commit at when step) u run now e is = let same : u ≡ step_of step = cc in is-that step.issued stamp (ap (λ (x : Step). x.issued) (sym same) ∙ is)
of-use stamp (Issue when own) u run now e is = absurd (cc)
of-use stamp (Open at head texts) u run now e is = absurd (cc)
of-use stamp (Drop at) u run now e is = absurd (cc)
of-use stamp (Restart when last more) u run now e is = absurd (cc)

was-issued : (log : List Event) (stamp : Stamp) → list_any (issues stamp) log ≡ true → WasIssued stamp (log_of log)
was-issued log stamp e =
    let found = some_among (issues stamp) log e in
    let at = issue-of stamp found.0 found.2 in
    (at.0, subst (λ (x : Happens). Among x (log_of log)) at.1 (to-log log found.0 found.1))

issued-is : (log : List Event) (stamp : Stamp) → WasIssued stamp (log_of log) → list_any (issues stamp) log ≡ true
issued-is log stamp (now, i) =
    let found = from-log log (node.Issue now stamp) i in
    any_among (issues stamp) log found.0 found.1 (of-issue stamp found.0 now found.2)

was-used : (log : List Event) (stamp : Stamp) → list_any (uses stamp) log ≡ true → WasUsed stamp (log_of log)
was-used log stamp e = let found = some_among (uses stamp) log e in use-of log stamp found.0 found.1 found.2

used-is : (log : List Event) (stamp : Stamp) → WasUsed stamp (log_of log) → list_any (uses stamp) log ≡ true
used-is log stamp u =
    let found = from-log log (node.Commit u.run u.now u.step) u.there in
    any_among (uses stamp) log found.0 found.1 (of-use stamp found.0 u.step u.run u.now found.2 u.issued)

-- a stamp that was issued is unused exactly where no commit used it
pub unused-then : (log : List Event) (stamp : Stamp) (issued : Option Stamp) (used : Bool) → issued ≡ Some stamp → list_any (issues stamp) log ≡ true → used ≡ list_any (uses stamp) log → IsTrue (not used) ↔ IsUnused issued (log_of log)
unused-then log stamp issued used is there e = (to used e, from used e)
  where
    to : (b : Bool) → b ≡ list_any (uses stamp) log → IsTrue (not b) → IsUnused issued (log_of log)
    to true used_is h x at = absurd (cc)
    to false used_is h x at =
        let same : stamp ≡ x = cc in
        subst (λ (y : Stamp). WasIssued y (log_of log) × (WasUsed y (log_of log) → ⊥)) same
        (was-issued log stamp there, λ u. let bad : false ≡ true = used_is ∙ used-is log stamp u in cc)

    from : (b : Bool) → b ≡ list_any (uses stamp) log → IsUnused issued (log_of log) → IsTrue (not b)
    from false used_is h = refl
    from true used_is h = absurd ((h stamp is).1 (was-used log stamp (sym used_is)))

-- a stamp that was not issued is none that is unused
pub unused-else : (log : List Event) (stamp : Stamp) (issued : Option Stamp) (there : Bool) → issued ≡ Some stamp → there ≡ list_any (issues stamp) log → there ≡ false → IsTrue there ↔ IsUnused issued (log_of log)
unused-else log stamp issued there is e none =
    (λ h. absurd (let bad : false ≡ true = sym none ∙ h in cc), λ h. e ∙ issued-is log stamp (h stamp is).0)
