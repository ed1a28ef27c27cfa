-- A world before its first event.
use Rattle.std.proofs.Common.{◌≡◌, inl, inr, ℕ, zero, suc, ◌==◌, Bool, true, false, if◌then◌else◌, List, [], ◌∷◌, ◌++◌, map, refl, sym, ap, subst, ◌∙◌, eqb-true, eq-eqb, arith, drop, get_or, length, ◌<◌, ◌≤◌, ◌+◌}
use Rattle.std.proofs.lemmas.List.{at_drop_more, at_drop_all}
use Rattle.term_values.specs.Trees.{Among}
use Rattle.term_values.proofs.Lists.{map_among}
use Rattle.mech_rows.specs.Rings.{Ring}
use Rattle.agreement_laws.specs.Configs.{Config, Party, AllDiffer, names_in}
use Rattle.agreement_laws.specs.Worlds.{party_by, ring_of}
use Rattle.term_values.specs.Trees.{part}
use Rattle.agreement_laws.specs.Configs.{revealed_parts}
use Rattle.world_run.specs.Conditions.{KeepsConditions}
use Rattle.world_run.specs.Views.{known_in, revealed_names, told_by, told_of, WorldView}
use Rattle.world_run.specs.declared.scene.Scene.{Scene}
use Rattle.world_run.specs.declared.seat.Seat.{Seat}
use Rattle.world_run.specs.Kept.{IsKept, running_in, view_of}
use Rattle.world_run.specs.Parties.{PartiesView, seat_name, seat_clock, AreSeats, AreParties, log_in, merged}
use Rattle.world_run.specs.Beginnings.{ring_for, IsNewSeat, AreNewSeats}

-- where names differ, a party is the first of its name
pub found_party : (ps : List Party) → AllDiffer (map (λ (p : Party). p.name) ps) → (p : Party) → Among p ps → party_by ps p.name ≡ p
found_party [] d p i = absurd i
found_party (q ∷ ps) d p (inl e) = let f : (q.name == p.name) ≡ true = eq-eqb q.name p.name (ap (λ (x : Party). x.name) (sym e)) in rw f (sym e)
found_party (q ∷ ps) d p (inr i) = go (found_party ps d.1 p i) (q.name == p.name) refl
  where
    go : party_by ps p.name ≡ p → (b : Bool) → (q.name == p.name) ≡ b → party_by (q ∷ ps) p.name ≡ p
    go more true f = absurd (d.0 (subst (λ n. Among n (map (λ (x : Party). x.name) ps)) (sym (eqb-true q.name p.name f)) (map_among (λ (x : Party). x.name) ps p i)))
    go more false f = rw f more

ring_is : (c : Config) → AllDiffer (names_in c) → (p : Party) → Among p c.parties → ring_for c p ≡ ring_of c p.name
ring_is c d p i = rw (found_party c.parties d p i) refl

pub new_names : (c : Config) (ps : List Party) (ss : List Seat) → AreNewSeats c ps ss → map seat_name ss ≡ map (λ (p : Party). p.name) ps
new_names c [] [] a = refl
new_names c [] (s ∷ ss) a = absurd a
new_names c (p ∷ ps) [] a = absurd a
new_names c (p ∷ ps) (s ∷ ss) a = let e : seat_name s ≡ p.name = ap (λ (r : Ring). r.me) a.0.ring in rw e (ap (λ (l : List ℕ). p.name ∷ l) (new_names c ps ss a.1))

pub new_clocks : (c : Config) (ps : List Party) (ss : List Seat) → AreNewSeats c ps ss → map seat_clock ss ≡ map (λ (p : Party). 0) ps
new_clocks c [] [] a = refl
new_clocks c [] (s ∷ ss) a = absurd a
new_clocks c (p ∷ ps) [] a = absurd a
new_clocks c (p ∷ ps) (s ∷ ss) a = rw (a.0.clock) (ap (λ (l : List ℕ). 0 ∷ l) (new_clocks c ps ss a.1))

pub new_seats : (c : Config) → AllDiffer (names_in c) → (ps : List Party) (ss : List Seat) → ((p : Party) → Among p ps → Among p c.parties) → AreNewSeats c ps ss → AreSeats c ss
new_seats c d [] [] sub a = tt
new_seats c d [] (s ∷ ss) sub a = absurd a
new_seats c d (p ∷ ps) [] sub a = absurd a
new_seats c d (p ∷ ps) (s ∷ ss) sub a = (
  record {
    ring = let e : seat_name s ≡ p.name = ap (λ (r : Ring). r.me) a.0.ring in a.0.ring ∙ ring_is c d p (sub p (inl refl)) ∙ ap (ring_of c) (sym e);
    first = a.0.first;
  },
  new_seats c d ps ss (λ q i. sub q (inr i)) a.1,
)

new_logs : (c : Config) (ps : List Party) (ss : List Seat) → AreNewSeats c ps ss → (n : ℕ) → log_in ss n ≡ []
new_logs c [] [] a n = refl
new_logs c [] (s ∷ ss) a n = absurd a
new_logs c (p ∷ ps) [] a n = absurd a
new_logs c (p ∷ ps) (s ∷ ss) a n = go (seat_name s == n) (new_logs c ps ss a.1 n)
  where
    go : (b : Bool) → log_in ss n ≡ [] → (if b then s.desk.log else log_in ss n) ≡ []
    go true rest = a.0.log
    go false rest = rest

-- parties that did nothing yet
pub parties_new : (c : Config) (ss : List Seat) (order : List ℕ) → KeepsConditions c → AreNewSeats c c.parties ss → order ≡ [] → AreParties c ss order
parties_new c ss order k a o = rw o (record {
  conditions = k;
  named = new_names c c.parties ss a;
  seated = new_seats c k.names_differ c.parties ss (λ p i. i) a;
  logs = new_logs c c.parties ss a;
  ordered = refl;
  steps = λ x i. absurd i;
})

pub acts_new : (ss : List Seat) (order : List ℕ) → order ≡ [] → merged (log_in ss) order ≡ []
acts_new ss order o = ap (merged (log_in ss)) o

append_none : {X : Type 0} (xs : List X) → xs ++ [] ≡ xs
append_none [] = refl
append_none (x ∷ xs) = ap (λ ys. x ∷ ys) (append_none xs)

-- a world that begins
pub kept_new : (c : Config) (s : Scene) → s.parties.config ≡ c → s.parties.acts ≡ [] → s.draws.place ≡ 0 → s.runs.items ≡ [] → KeepsConditions c → s.knowledge.given ≡ map part c.own ++ revealed_parts c.pairs
    → s.history ≡ record { revealed = revealed_names c.pairs; happened = []; sent = []; given = [] } → IsKept s
kept_new c s config acts draws runs k given history =
    let all : view_of s ≡ record { config = c; acts = []; clocks = s.parties.clocks; draws = 0; runs = [] } = λ i. record { config = config i; acts = acts i; clocks = s.parties.clocks; draws = draws i; runs = runs i } in
    record {
      genuine = rw all (record { conditions = k; world = tt; born = λ e v i u b. i; runs = record { there = λ id i. absurd i; declared = λ id i. absurd i; apart = tt; stepped = λ id x. absurd x.1 } });
      learnt = subst (λ (v : WorldView). s.knowledge.given ≡ known_in v) (sym all) (given ∙ sym (append_none (map part c.own ++ revealed_parts c.pairs)));
      told = subst (λ (v : WorldView). told_by s.history ≡ told_of v) (sym all) (ap told_by history);
      room = subst (λ (v : WorldView). running_in v ≤ s.parties.room) (sym all) (omega arith);
    }

pub among_at : (ps : List Party) (i : ℕ) (p d : Party) → i < length ps → p ≡ get_or ps i d → Among p ps
among_at [] i p d lt e = absurd (omega arith)
among_at (q ∷ ps) zero p d lt e = inl e
among_at (q ∷ ps) (suc i) p d lt e = inr (among_at ps i p d (omega arith) e)

-- ---- lists that are made one by one

joined : {X : Type 0} (xs : List X) (x : X) (ys : List X) → (xs ++ x ∷ []) ++ ys ≡ xs ++ x ∷ ys
joined [] x ys = refl
joined (z ∷ xs) x ys = ap (λ zs. z ∷ zs) (joined xs x ys)

map_joined : {X Y : Type 0} (f : X → Y) (xs : List X) (x : X) (ys : List Y) → map f (xs ++ x ∷ []) ++ ys ≡ map f xs ++ f x ∷ ys
map_joined f [] x ys = refl
map_joined f (z ∷ xs) x ys = ap (λ zs. f z ∷ zs) (map_joined f xs x ys)

-- one more was made
pub made_on : {X : Type 0} (xs ys : List X) (x : X) (rest all : List X) → ys ≡ xs ++ x ∷ [] → xs ++ x ∷ rest ≡ all → ys ++ rest ≡ all
made_on xs ys x rest all e h = ap (λ zs. zs ++ rest) e ∙ joined xs x rest ∙ h

pub mapped_on : {X Y : Type 0} (f : X → Y) (xs ys : List X) (x : X) (rest all : List Y) → ys ≡ xs ++ x ∷ [] → map f xs ++ f x ∷ rest ≡ all → map f ys ++ rest ≡ all
mapped_on f xs ys x rest all e h = ap (λ zs. map f zs ++ rest) e ∙ map_joined f xs x rest ∙ h

pub seats_on : (c : Config) (all : List Party) (ps : List Party) (i : ℕ) (p d : Party) (ss us : List Seat) (s : Seat) → i < length ps → p ≡ get_or ps i d → us ≡ ss ++ s ∷ [] → IsNewSeat c p s →
    ((more : List Seat) → AreNewSeats c (drop i ps) more → AreNewSeats c all (ss ++ more)) → (more : List Seat) → AreNewSeats c (drop (i + 1) ps) more → AreNewSeats c all (us ++ more)
seats_on c all ps i p d ss us s lt at e new kept more a =
    let both : AreNewSeats c (p ∷ drop (i + 1) ps) (s ∷ more) = (new, a) in
    let here : AreNewSeats c (drop i ps) (s ∷ more) = subst (λ (qs : List Party). AreNewSeats c qs (s ∷ more)) (sym (at_drop_more (λ (qs : List Party). qs) ps i d lt ∙ ap (λ (q : Party). q ∷ drop (i + 1) ps) (sym at))) both in
    subst (AreNewSeats c all) (sym (ap (λ (zs : List Seat). zs ++ more) e ∙ joined ss s more)) (kept (s ∷ more) here)

pub seats_made : (c : Config) (all ps : List Party) (i : ℕ) (ss : List Seat) → length ps ≤ i → ((more : List Seat) → AreNewSeats c (drop i ps) more → AreNewSeats c all (ss ++ more)) → AreNewSeats c all ss
seats_made c all ps i ss le kept =
    subst (AreNewSeats c all) (append_none ss) (kept [] (subst (λ (qs : List Party). AreNewSeats c qs []) (sym (at_drop_all (λ (qs : List Party). qs) ps i le)) tt))
