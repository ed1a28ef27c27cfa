-- The seats of parties, where one of them has one more event.
use Rattle.std.proofs.Common.{◌≡◌, ◌⊎◌, ◌==◌, ◌<◌, ◌≤◌, ◌+◌, ℕ, zero, suc, max, Bool, true, false, if◌then◌else◌, List, [], ◌∷◌, ◌++◌, map, length, get_or, set, drop, reverse, refl, sym, ap, subst, ◌∙◌, inl, inr, arith, eqb-true, eq-eqb}
use Rattle.std.specs.List.{list_any}
use Rattle.std.proofs.lemmas.List.{drop_more, drop_all, append-nil, map-append}
use Rattle.term_values.specs.Trees.{Among}
use Rattle.term_values.proofs.Lists.{among_append, among_map, any_among, map_among, some_among}
use Rattle.mech_rows.specs.Lawful.{tested_by}
use Rattle.mech_rows.specs.Rings.{Ring, keys_in}
use Rattle.seal_symbolic.specs.Symbolic.{body_of, is_check}
use Rattle.agreement_laws.specs.Configs.{Config, Party, AllDiffer, names_in}
use Rattle.agreement_laws.specs.Worlds.{ring_of}
use Rattle.node_desk.specs.declared.event.Event.{Event}
use Rattle.node_desk.specs.Desks.{DeskView, IsStepEvent}
use Rattle.world_run.specs.declared.seat.Seat.{Seat}
use Rattle.world_run.specs.Clocks.{clock_by, raised_by}
use Rattle.world_run.specs.Conditions.{KeepsConditions}
use Rattle.world_run.specs.Parties.{seat_name, seat_clock, log_in, merged, IsSeat, AreSeats, AreParties, AreTheirSteps}
use Rattle.world_run.specs.Views.{Act, act, acts_of}
use Rattle.world_run.proofs.Acts.{acts_of_own, acts_of_other}
use Rattle.world_run.proofs.Merges.{merged_is}

-- ---- finding a seat

pub named_on : (n : ℕ) (ss : List Seat) (i : ℕ) (s : Seat) → i < length ss → s ≡ get_or ss i s → ((seat_name s ≡ n) → ⊥) → Among n (map seat_name (drop i ss)) → Among n (map seat_name (drop (i + 1) ss))
named_on n ss i s lt at other there = go (subst (λ (us : List Seat). Among n (map seat_name us)) (drop_more ss i s lt) there)
  where
    go : Among n (seat_name (get_or ss i s) ∷ map seat_name (drop (i + 1) ss)) → Among n (map seat_name (drop (i + 1) ss))
    go (inl e) = absurd (other (ap seat_name at ∙ sym e))
    go (inr j) = j

pub named_none : (n : ℕ) (ss : List Seat) (i : ℕ) → length ss ≤ i → Among n (map seat_name (drop i ss)) → ⊥
named_none n ss i le there = subst (λ (us : List Seat). Among n (map seat_name us)) (drop_all i ss le) there

-- the test on names tells who is there
pub has_is : (ss : List Seat) (n : ℕ) → list_any (λ (s : Seat). seat_name s == n) ss ≡ true → Among n (map seat_name ss)
has_is ss n e = let r = some_among (λ (s : Seat). seat_name s == n) ss e in subst (λ (m : ℕ). Among m (map seat_name ss)) (eqb-true (seat_name r.0) n r.2) (map_among seat_name ss r.0 r.1)

pub is_has : (ss : List Seat) (n : ℕ) → Among n (map seat_name ss) → list_any (λ (s : Seat). seat_name s == n) ss ≡ true
is_has ss n i = let r = among_map seat_name ss n i in any_among (λ (s : Seat). seat_name s == n) ss r.0 r.1 (eq-eqb (seat_name r.0) n (sym r.2))

name_at : (ss : List Seat) (i : ℕ) (d : Seat) → i < length ss → Among (seat_name (get_or ss i d)) (map seat_name ss)
name_at [] i d lt = absurd (omega arith)
name_at (s ∷ ss) zero d lt = inl refl
name_at (s ∷ ss) (suc i) d lt = inr (name_at ss i d (omega arith))

seat_at : (c : Config) (ss : List Seat) (i : ℕ) (d : Seat) → i < length ss → AreSeats c ss → IsSeat c (get_or ss i d)
seat_at c [] i d lt a = absurd (omega arith)
seat_at c (s ∷ ss) zero d lt a = a.0
seat_at c (s ∷ ss) (suc i) d lt a = seat_at c ss i d (omega arith) a.1

log_here : (ss : List Seat) (i : ℕ) (d : Seat) → AllDiffer (map seat_name ss) → i < length ss → log_in ss (seat_name (get_or ss i d)) ≡ (get_or ss i d).desk.log
log_here [] i d differ lt = absurd (omega arith)
log_here (s ∷ ss) zero d differ lt = ap (λ (b : Bool). if b then s.desk.log else log_in ss (seat_name s)) (eq-eqb (seat_name s) (seat_name s) refl)
log_here (s ∷ ss) (suc i) d differ lt = go (seat_name s == seat_name (get_or ss i d)) refl (log_here ss i d differ.1 (omega arith))
  where
    go : (b : Bool) → (seat_name s == seat_name (get_or ss i d)) ≡ b → log_in ss (seat_name (get_or ss i d)) ≡ (get_or ss i d).desk.log → (if b then s.desk.log else log_in ss (seat_name (get_or ss i d))) ≡ (get_or ss i d).desk.log
    go true f rest = absurd (differ.0 (subst (λ (n : ℕ). Among n (map seat_name ss)) (sym (eqb-true (seat_name s) (seat_name (get_or ss i d)) f)) (name_at ss i d (omega arith))))
    go false f rest = rest

-- ---- writing a seat

names_set : (ss : List Seat) (i : ℕ) (s d : Seat) → seat_name s ≡ seat_name (get_or ss i d) → map seat_name (set ss i s) ≡ map seat_name ss
names_set [] i s d e = refl
names_set (x ∷ ss) zero s d e = ap (λ (n : ℕ). n ∷ map seat_name ss) e
names_set (x ∷ ss) (suc i) s d e = ap (λ (ns : List ℕ). seat_name x ∷ ns) (names_set ss i s d e)

clocks_set : (ss : List Seat) (i : ℕ) (s d : Seat) → s.clock ≡ (get_or ss i d).clock → map seat_clock (set ss i s) ≡ map seat_clock ss
clocks_set [] i s d e = refl
clocks_set (x ∷ ss) zero s d e = ap (λ (n : ℕ). n ∷ map seat_clock ss) e
clocks_set (x ∷ ss) (suc i) s d e = ap (λ (ns : List ℕ). seat_clock x ∷ ns) (clocks_set ss i s d e)

seats_set : (c : Config) (ss : List Seat) (i : ℕ) (s : Seat) → AreSeats c ss → IsSeat c s → AreSeats c (set ss i s)
seats_set c [] i s a is = tt
seats_set c (x ∷ ss) zero s a is = (is, a.1)
seats_set c (x ∷ ss) (suc i) s a is = (a.0, seats_set c ss i s a.1 is)

log_set : (ss : List Seat) (i : ℕ) (s d : Seat) → AllDiffer (map seat_name ss) → i < length ss → seat_name s ≡ seat_name (get_or ss i d) → (n : ℕ) → log_in (set ss i s) n ≡ (if seat_name s == n then s.desk.log else log_in ss n)
log_set [] i s d differ lt e n = absurd (omega arith)
log_set (x ∷ ss) zero s d differ lt e n = go (seat_name s == n) refl (seat_name x == n) refl
  where
    go : (a : Bool) → (seat_name s == n) ≡ a → (b : Bool) → (seat_name x == n) ≡ b → (if a then s.desk.log else log_in ss n) ≡ (if a then s.desk.log else (if b then x.desk.log else log_in ss n))
    go true f b g = refl
    go false f false g = refl
    go false f true g = let h : (seat_name s == n) ≡ true = ap (λ (m : ℕ). m == n) e ∙ g in absurd (cc)
log_set (x ∷ ss) (suc i) s d differ lt e n = go (seat_name x == n) refl (seat_name s == n) refl (log_set ss i s d differ.1 (omega arith) e n)
  where
    go : (a : Bool) → (seat_name x == n) ≡ a → (b : Bool) → (seat_name s == n) ≡ b → log_in (set ss i s) n ≡ (if b then s.desk.log else log_in ss n) → (if a then x.desk.log else log_in (set ss i s) n) ≡ (if b then s.desk.log else (if a then x.desk.log else log_in ss n))
    go false f b g h = h
    go true f false g h = refl
    go true f true g h =
        let same : seat_name x ≡ seat_name (get_or ss i d) = eqb-true (seat_name x) n f ∙ (sym (eqb-true (seat_name s) n g) ∙ e) in
        absurd (differ.0 (subst (λ (m : ℕ). Among m (map seat_name ss)) (sym same) (name_at ss i d (omega arith))))

pub length_set : (xs : List Seat) (k : ℕ) (x : Seat) → length (set xs k x) ≡ length xs
length_set [] k x = refl
length_set (y ∷ xs) zero x = refl
length_set (y ∷ xs) (suc k) x = ap suc (length_set xs k x)

pub set_here : (xs : List Seat) (k : ℕ) (x z : Seat) → k < length xs → get_or (set xs k x) k z ≡ x
set_here [] k x z l = absurd (omega arith)
set_here (y ∷ xs) zero x z l = refl
set_here (y ∷ xs) (suc k) x z l = set_here xs k x z (omega arith)

-- ---- the seat of a party

-- what the seat at a place is, where it is that of the name
pub record IsSeatOf (c : Config) (acts : List Act) (s : Seat) (n : ℕ) : Type 0 where
  pub name : seat_name s ≡ n
  pub ring : s.desk.ring ≡ ring_of c n
  pub first : s.desk.first ≡ 0
  pub log : s.desk.log ≡ acts_of n acts

differ_names : (c : Config) (ss : List Seat) (order : List ℕ) → AreParties c ss order → AllDiffer (map seat_name ss)
differ_names c ss order a = subst AllDiffer (sym a.named) a.conditions.names_differ

pub seat_of : (c : Config) (ss : List Seat) (order : List ℕ) → AreParties c ss order → (i n : ℕ) (d : Seat) → i < length ss → seat_name (get_or ss i d) ≡ n → IsSeatOf c (merged (log_in ss) order) (get_or ss i d) n
seat_of c ss order a i n d lt e =
    let s = seat_at c ss i d lt a.seated in
    record {
      name = e;
      ring = s.ring ∙ ap (ring_of c) e;
      first = s.first;
      log = sym (log_here ss i d (differ_names c ss order a) lt) ∙ (ap (log_in ss) e ∙ a.logs n);
    }

-- ---- one more event

module _ (c : Config) (ss : List Seat) (order : List ℕ) (a : AreParties c ss order) (i n : ℕ) (s d : Seat) (lt : i < length ss) (named : seat_name (get_or ss i d) ≡ n) (ring : s.desk.ring ≡ (get_or ss i d).desk.ring) (first : s.desk.first ≡ (get_or ss i d).desk.first) where
  abbrev acts : List Act
  acts = merged (log_in ss) order

  same_name : seat_name s ≡ seat_name (get_or ss i d)
  same_name = ap (λ (r : Ring). r.me) ring

  is_n : seat_name s ≡ n
  is_n = same_name ∙ named

  is_seat : IsSeat c s
  is_seat =
      let old = seat_at c ss i d lt a.seated in
      record { ring = ring ∙ (old.ring ∙ ap (ring_of c) (sym same_name)); first = first ∙ old.first }

  -- the logs, where this seat's is another one
  logs_set : (m : ℕ) → log_in (set ss i s) m ≡ (if n == m then s.desk.log else log_in ss m)
  logs_set m = log_set ss i s d (differ_names c ss order a) lt same_name m ∙ ap (λ (k : ℕ). if k == m then s.desk.log else log_in ss m) is_n

  logs_more : (e : Event) → s.desk.log ≡ (get_or ss i d).desk.log ++ e ∷ [] → (m : ℕ) → log_in (set ss i s) m ≡ acts_of m (acts ++ act n e ∷ [])
  logs_more e l m = go (n == m) refl
    where
      at : IsSeatOf c acts (get_or ss i d) n
      at = seat_of c ss order a i n d lt named

      go : (b : Bool) → (n == m) ≡ b → log_in (set ss i s) m ≡ acts_of m (acts ++ act n e ∷ [])
      go true f =
          let is : n ≡ m = eqb-true n m f in
          logs_set m ∙ (ap (λ (b : Bool). if b then s.desk.log else log_in ss m) f ∙ (l ∙ (ap (λ (es : List Event). es ++ e ∷ []) at.log
          ∙ subst (λ (k : ℕ). acts_of n acts ++ e ∷ [] ≡ acts_of k (acts ++ act n e ∷ [])) is (sym (acts_of_own n acts e)))))
      go false f = logs_set m ∙ (ap (λ (b : Bool). if b then s.desk.log else log_in ss m) f ∙ (a.logs m ∙ sym (acts_of_other m n acts e f)))

  ordered_more : (e : Event) → map (λ (x : Act). x.party) (acts ++ act n e ∷ []) ≡ order ++ n ∷ []
  ordered_more e = map-append (λ (x : Act). x.party) acts (act n e ∷ []) ∙ ap (λ (ns : List ℕ). ns ++ n ∷ []) a.ordered

  pub acts_more : (e : Event) (order' : List ℕ) → s.desk.log ≡ (get_or ss i d).desk.log ++ e ∷ [] → order' ≡ order ++ n ∷ [] → merged (log_in (set ss i s)) order' ≡ acts ++ act n e ∷ []
  acts_more e order' l o = merged_is (log_in (set ss i s)) order' (acts ++ act n e ∷ []) (ordered_more e ∙ sym o) (logs_more e l)

  pub parties_more : (e : Event) (order' : List ℕ) → s.desk.log ≡ (get_or ss i d).desk.log ++ e ∷ [] → order' ≡ order ++ n ∷ [] → IsStepEvent (tested_by body_of is_check) (keys_in (ring_of c n)) e → AreParties c (set ss i s) order'
  parties_more e order' l o is_step =
      let all : merged (log_in (set ss i s)) order' ≡ acts ++ act n e ∷ [] = acts_more e order' l o in
      record {
        conditions = a.conditions;
        named = names_set ss i s d same_name ∙ a.named;
        seated = seats_set c ss i s a.seated is_seat;
        logs = λ m. logs_more e l m ∙ ap (acts_of m) (sym all);
        ordered = ap (map (λ (x : Act). x.party)) all ∙ (ordered_more e ∙ sym o);
        steps = subst (AreTheirSteps c) (sym all) steps;
      }
    where
      steps : AreTheirSteps c (acts ++ act n e ∷ [])
      steps x j = go (among_append acts (act n e ∷ []) x j)
        where
          go : Among x acts ⊎ Among x (act n e ∷ []) → IsStepEvent (tested_by body_of is_check) (keys_in (ring_of c x.party)) x.event
          go (inl k) = a.steps x k
          go (inr (inl is)) = subst (λ (y : Act). IsStepEvent (tested_by body_of is_check) (keys_in (ring_of c y.party)) y.event) (sym is) is_step
          go (inr (inr k)) = absurd k

  logs_same : s.desk.log ≡ (get_or ss i d).desk.log → (m : ℕ) → log_in (set ss i s) m ≡ acts_of m acts
  logs_same l m = go (n == m) refl
    where
      at : IsSeatOf c acts (get_or ss i d) n
      at = seat_of c ss order a i n d lt named

      go : (b : Bool) → (n == m) ≡ b → log_in (set ss i s) m ≡ acts_of m acts
      go true f = logs_set m ∙ (ap (λ (b : Bool). if b then s.desk.log else log_in ss m) f ∙ (l ∙ (at.log ∙ ap (λ (k : ℕ). acts_of k acts) (eqb-true n m f))))
      go false f = logs_set m ∙ (ap (λ (b : Bool). if b then s.desk.log else log_in ss m) f ∙ a.logs m)

  pub acts_same : (order' : List ℕ) → s.desk.log ≡ (get_or ss i d).desk.log → order' ≡ order → merged (log_in (set ss i s)) order' ≡ acts
  acts_same order' l o = merged_is (log_in (set ss i s)) order' acts (a.ordered ∙ sym o) (logs_same l)

  pub parties_same : (order' : List ℕ) → s.desk.log ≡ (get_or ss i d).desk.log → order' ≡ order → AreParties c (set ss i s) order'
  parties_same order' l o =
      let all : merged (log_in (set ss i s)) order' ≡ acts = acts_same order' l o in
      record {
        conditions = a.conditions;
        named = names_set ss i s d same_name ∙ a.named;
        seated = seats_set c ss i s a.seated is_seat;
        logs = λ m. logs_same l m ∙ ap (acts_of m) (sym all);
        ordered = ap (map (λ (x : Act). x.party)) all ∙ (a.ordered ∙ sym o);
        steps = subst (AreTheirSteps c) (sym all) a.steps;
      }

  pub clocks_same : s.clock ≡ (get_or ss i d).clock → map seat_clock (set ss i s) ≡ map seat_clock ss
  clocks_same e = clocks_set ss i s d e

-- ---- clocks

pub clock_here : (c : Config) (ss : List Seat) (i n : ℕ) (d : Seat) → AllDiffer (map seat_name ss) → i < length ss → seat_name (get_or ss i d) ≡ n → clock_by (map seat_name ss) (map seat_clock ss) n ≡ (get_or ss i d).clock
clock_here c [] i n d differ lt e = absurd (omega arith)
clock_here c (s ∷ ss) zero n d differ lt e = ap (λ (b : Bool). if b then s.clock else clock_by (map seat_name ss) (map seat_clock ss) n) (eq-eqb (seat_name s) n e)
clock_here c (s ∷ ss) (suc i) n d differ lt e = go (seat_name s == n) refl (clock_here c ss i n d differ.1 (omega arith) e)
  where
    go : (b : Bool) → (seat_name s == n) ≡ b → clock_by (map seat_name ss) (map seat_clock ss) n ≡ (get_or ss i d).clock → (if b then s.clock else clock_by (map seat_name ss) (map seat_clock ss) n) ≡ (get_or ss i d).clock
    go true f rest = absurd (differ.0 (subst (λ (m : ℕ). Among m (map seat_name ss)) (e ∙ sym (eqb-true (seat_name s) n f)) (name_at ss i d (omega arith))))
    go false f rest = rest

pub clock_is : (c : Config) (ss : List Seat) (order : List ℕ) → AreParties c ss order → (i n : ℕ) (d : Seat) → i < length ss → seat_name (get_or ss i d) ≡ n → clock_by (names_in c) (map seat_clock ss) n ≡ (get_or ss i d).clock
clock_is c ss order a i n d lt e = ap (λ (ns : List ℕ). clock_by ns (map seat_clock ss) n) (sym a.named) ∙ clock_here c ss i n d (differ_names c ss order a) lt e

raised_here : (ss : List Seat) (i n time : ℕ) (s d : Seat) → AllDiffer (map seat_name ss) → i < length ss → seat_name (get_or ss i d) ≡ n → s.clock ≡ max (get_or ss i d).clock time → map seat_clock (set ss i s) ≡ raised_by (map seat_name ss) (map seat_clock ss) n time
raised_here [] i n time s d differ lt e c = absurd (omega arith)
raised_here (x ∷ ss) zero n time s d differ lt e c =
    ap (λ (t : ℕ). t ∷ map seat_clock ss) c ∙ sym (ap (λ (b : Bool). if b then max x.clock time ∷ map seat_clock ss else x.clock ∷ raised_by (map seat_name ss) (map seat_clock ss) n time) (eq-eqb (seat_name x) n e))
raised_here (x ∷ ss) (suc i) n time s d differ lt e c = go (seat_name x == n) refl (raised_here ss i n time s d differ.1 (omega arith) e c)
  where
    go : (b : Bool) → (seat_name x == n) ≡ b → map seat_clock (set ss i s) ≡ raised_by (map seat_name ss) (map seat_clock ss) n time → x.clock ∷ map seat_clock (set ss i s) ≡ (if b then max x.clock time ∷ map seat_clock ss else x.clock ∷ raised_by (map seat_name ss) (map seat_clock ss) n time)
    go true f rest = absurd (differ.0 (subst (λ (m : ℕ). Among m (map seat_name ss)) (e ∙ sym (eqb-true (seat_name x) n f)) (name_at ss i d (omega arith))))
    go false f rest = ap (λ (ts : List ℕ). x.clock ∷ ts) rest

pub raised_is : (c : Config) (ss : List Seat) (order : List ℕ) → AreParties c ss order → (i n time : ℕ) (s d : Seat) → i < length ss → seat_name (get_or ss i d) ≡ n → s.clock ≡ max (get_or ss i d).clock time → map seat_clock (set ss i s) ≡ raised_by (names_in c) (map seat_clock ss) n time
raised_is c ss order a i n time s d lt e k = raised_here ss i n time s d (differ_names c ss order a) lt e k ∙ ap (λ (ns : List ℕ). raised_by ns (map seat_clock ss) n time) a.named

pub clock_after : (c : Config) (ss : List Seat) (order order' : List ℕ) → AreParties c ss order → (i n time : ℕ) (s d : Seat) → i < length ss → seat_name (get_or ss i d) ≡ n → seat_name s ≡ seat_name (get_or ss i d) → clock_by (names_in c) (map seat_clock (set ss i s)) n ≡ s.clock
clock_after c ss order order' a i n time s d lt e same =
    ap (λ (ns : List ℕ). clock_by ns (map seat_clock (set ss i s)) n) (sym (names_set ss i s d same ∙ a.named))
    ∙ (clock_here c (set ss i s) i n d (subst AllDiffer (sym (names_set ss i s d same)) (differ_names c ss order a)) (omega (arith, lt, length_set ss i s)) (ap seat_name (set_here ss i s d lt) ∙ (same ∙ e)) ∙ ap (λ (x : Seat). x.clock) (set_here ss i s d lt))

-- ---- a seat that was read at a place, and is written there

module _ (c : Config) (ss : List Seat) (order : List ℕ) (a : AreParties c ss order) (places : List Seat) (same : places ≡ ss) (i n : ℕ) (x : Seat) (within : i < length places) (named : (d : Seat) → seat_name (get_or places i d) ≡ n) (at : x ≡ get_or ss i x) where
  in_seats : i < length ss
  in_seats = subst (λ (us : List Seat). i < length us) same within

  pub is_named : seat_name (get_or ss i x) ≡ n
  is_named = subst (λ (us : List Seat). seat_name (get_or us i x) ≡ n) same (named x)

  -- what the seat is
  pub seat_is : IsSeatOf c (merged (log_in ss) order) x n
  seat_is = subst (λ (y : Seat). IsSeatOf c (merged (log_in ss) order) y n) (sym at) (seat_of c ss order a i n x in_seats is_named)

  pub clock_at : clock_by (names_in c) (map seat_clock ss) n ≡ x.clock
  clock_at = clock_is c ss order a i n x in_seats is_named ∙ ap seat_clock (sym at)

  -- a seat that was written there is that of the name
  pub written_is : (s : Seat) (more : List ℕ) → seat_name s ≡ n → AreParties c (set ss i s) more → IsSeatOf c (merged (log_in (set ss i s)) more) s n
  written_is s more name new =
      let here : get_or (set ss i s) i s ≡ s = set_here ss i s s in_seats in
      subst (λ (y : Seat). IsSeatOf c (merged (log_in (set ss i s)) more) y n) here
      (seat_of c (set ss i s) more new i n s (let l = length_set ss i s in let lt = in_seats in omega (arith, l, lt)) (ap seat_name here ∙ name))

  module _ (s : Seat) (ring : s.desk.ring ≡ x.desk.ring) (first : s.desk.first ≡ x.desk.first) where
    ring_at : s.desk.ring ≡ (get_or ss i x).desk.ring
    ring_at = ring ∙ ap (λ (y : Seat). y.desk.ring) at

    first_at : s.desk.first ≡ (get_or ss i x).desk.first
    first_at = first ∙ ap (λ (y : Seat). y.desk.first) at

    pub wrote_more : (e : Event) (order' : List ℕ) → s.desk.log ≡ x.desk.log ++ e ∷ [] → order' ≡ order ++ n ∷ [] → IsStepEvent (tested_by body_of is_check) (keys_in (ring_of c n)) e → AreParties c (set ss i s) order'
    wrote_more e order' l o st = parties_more c ss order a i n s x in_seats is_named ring_at first_at e order' (l ∙ ap (λ (y : Seat). y.desk.log ++ e ∷ []) at) o st

    pub wrote_acts : (e : Event) (order' : List ℕ) → s.desk.log ≡ x.desk.log ++ e ∷ [] → order' ≡ order ++ n ∷ [] → merged (log_in (set ss i s)) order' ≡ merged (log_in ss) order ++ act n e ∷ []
    wrote_acts e order' l o = acts_more c ss order a i n s x in_seats is_named ring_at first_at e order' (l ∙ ap (λ (y : Seat). y.desk.log ++ e ∷ []) at) o

    pub wrote_same : (order' : List ℕ) → s.desk.log ≡ x.desk.log → order' ≡ order → AreParties c (set ss i s) order'
    wrote_same order' l o = parties_same c ss order a i n s x in_seats is_named ring_at first_at order' (l ∙ ap (λ (y : Seat). y.desk.log) at) o

    pub acts_stay : (order' : List ℕ) → s.desk.log ≡ x.desk.log → order' ≡ order → merged (log_in (set ss i s)) order' ≡ merged (log_in ss) order
    acts_stay order' l o = acts_same c ss order a i n s x in_seats is_named ring_at first_at order' (l ∙ ap (λ (y : Seat). y.desk.log) at) o

    pub clocks_stay : s.clock ≡ x.clock → map seat_clock (set ss i s) ≡ map seat_clock ss
    clocks_stay e = clocks_same c ss order a i n s x in_seats is_named ring_at first_at (e ∙ ap seat_clock at)

    pub clocks_raised : (time : ℕ) → s.clock ≡ max x.clock time → map seat_clock (set ss i s) ≡ raised_by (names_in c) (map seat_clock ss) n time
    clocks_raised time e = raised_is c ss order a i n time s x in_seats is_named (e ∙ ap (λ (y : Seat). max y.clock time) at)

    pub clock_now : clock_by (names_in c) (map seat_clock (set ss i s)) n ≡ s.clock
    clock_now = clock_after c ss order order a i n 0 s x in_seats is_named (ap (λ (r : Ring). r.me) ring_at)
