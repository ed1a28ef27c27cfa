-- A run that is dropped: it is no longer open, and nothing else has changed.
use Rattle.std.proofs.Common.{◌≡◌, ◌≢◌, ◌⊎◌, ◌==◌, ◌<◌, ◌≤◌, ◌+◌, ℕ, zero, suc, Bool, true, false, cond, if◌then◌else◌, List, [], ◌∷◌, ◌++◌, map, reverse, length, Option, Some, None, refl, sym, ap, subst, ◌∙◌, inl, inr, arith, eqb-true, eq-eqb, append-nil}
use Rattle.std.specs.Prelude.{count_by}
use Rattle.std.proofs.lemmas.List.Sums.{sum_by-cons}
use Rattle.term_values.specs.Trees.{Among, Tree, part}
use Rattle.mech_rows.specs.declared.refusal.Refusal.{Refusal}
use Rattle.mech_rows.specs.declared.refusal.Refusal.TheVariants.{EndedRun, UnknownRun}
use Rattle.mech_rows.specs.Verdict.{State}
use Rattle.agreement_laws.specs.Configs.{AllDiffer, names_in, revealed_parts}
use Rattle.agreement_laws.specs.Traces.{RunId}
use Rattle.node_desk.specs.declared.event.Event.TheVariants.{Drop}
use Rattle.node_desk.specs.Deliveries.{open_in}
use Rattle.node_desk.specs.Helds.{Held, held_by, no_longer}
use Rattle.node_desk.specs.Refusals.{run_refusal}
use Rattle.world_run.specs.declared.scene.Scene.{Scene}
use Rattle.world_run.specs.Gives.{IsDropped}
use Rattle.world_run.specs.Kept.{IsGenuine, IsKept, is_running, running_in, view_of}
use Rattle.world_run.specs.Parties.{HasActed, PartiesView}
use Rattle.world_run.specs.Turns.{did}
use Rattle.world_run.specs.Views.{Act, act, acts_of, held_in, known_in, number_refusal, revealed_names, run_in, sent_in, shown_as, shown_from, standing_refusal, told_by, told_of, WorldView}
use Rattle.world_run.proofs.Acts.{held_other, held_own, sent_snoc}
use Rattle.world_run.proofs.Entering.{run_among}
use Rattle.world_run.proofs.Legal.{genuine_drop}
use Rattle.world_run.proofs.Unmoved.{shown_alike}

-- ---- open runs

pub open_of : (o : Option Held) → run_refusal o ≡ None → (s : State) × (o ≡ open_in s)
open_of None e = absurd (cc)
open_of (Some h) e = go h.is_open refl e
  where
    go : (b : Bool) → h.is_open ≡ b → ◌≡◌ {A = Option Refusal} (if b then None else Some EndedRun) None → (s : State) × (Some h ≡ open_in s)
    go true f e = (h.state, λ i. Some (record { state = h.state; is_open = f i }))
    go false f e = absurd (cc)

ended_of : (o : Option Held) (h : Held) → o ≡ Some h → run_refusal o ≢ None → run_refusal o ≡ Some EndedRun
ended_of o h is not = ap run_refusal is ∙ go h.is_open (λ e. not (ap run_refusal is ∙ e))
  where
    go : (b : Bool) → ((if b then None else Some EndedRun) ≡ None → ⊥) → (if b then None else Some EndedRun) ≡ Some EndedRun
    go true n = absurd (n refl)
    go false n = refl

running_so : (o : Option Held) → run_refusal o ≡ None → is_running o ≡ true
running_so o e = let s = open_of o e in ap is_running s.1

-- ---- counts

counted : (f : RunId → Bool) (x : RunId) (ids : List RunId) → count_by f (x ∷ ids) ≡ cond (f x) 1 0 + count_by f ids
counted f x ids = sum_by-cons (λ (y : RunId). cond (f y) 1 0) x ids

one_of : (b c : Bool) → b ≡ c → ◌≡◌ {A = ℕ} (cond b 1 0) (cond c 1 0)
one_of b c e = ap (λ (d : Bool). cond d 1 0) e

count_same : (f g : RunId → Bool) (ids : List RunId) → ((x : RunId) → Among x ids → g x ≡ f x) → count_by g ids ≡ count_by f ids
count_same f g [] same = refl
count_same f g (x ∷ ids) same =
    let here = one_of (g x) (f x) (same x (inl refl)) in
    let rest : count_by g ids ≡ count_by f ids = count_same f g ids (λ y j. same y (inr j)) in
    counted g x ids ∙ ((λ i. here i + rest i) ∙ sym (counted f x ids))

-- one run no longer counts
count_one_less : (f g : RunId → Bool) (ids : List RunId) (id : RunId) → AllDiffer ids → Among id ids → ((x : RunId) → Among x ids → (id ≡ x → ⊥) → g x ≡ f x) → f id ≡ true → g id ≡ false → count_by g ids + 1 ≡ count_by f ids
count_one_less f g [] id d i same a b = absurd i
count_one_less f g (x ∷ ids) id d (inl e) same a b =
    let rest : count_by g ids ≡ count_by f ids = count_same f g ids (λ y j. same y (inr j) (λ h. d.0 (subst (λ (z : RunId). Among z ids) (sym h ∙ e) j))) in
    less (cond (g x) 1 0) (cond (f x) 1 0) (count_by g ids) (count_by f ids) _ _ (counted g x ids) (counted f x ids) (one_of (g x) false (subst (λ (y : RunId). g y ≡ false) e b)) (one_of (f x) true (subst (λ (y : RunId). f y ≡ true) e a)) rest
  where
    less : (u v m n all one : ℕ) → all ≡ u + m → one ≡ v + n → u ≡ 0 → v ≡ 1 → m ≡ n → all + 1 ≡ one
    less u v m n all one p q r s t = omega (arith, p, q, r, s, t)
count_one_less f g (x ∷ ids) id d (inr i) same a b =
    less (cond (g x) 1 0) (cond (f x) 1 0) (count_by g ids) (count_by f ids) _ _ (counted g x ids) (counted f x ids) (one_of (g x) (f x) (same x (inl refl) (λ h. d.0 (subst (λ (z : RunId). Among z ids) h i)))) (count_one_less f g ids id d.1 i (λ y j. same y (inr j)) a b)
  where
    less : (u v m n all one : ℕ) → all ≡ u + m → one ≡ v + n → u ≡ v → m + 1 ≡ n → all + 1 ≡ one
    less u v m n all one p q r s = omega (arith, p, q, r, s)

count_some : (f : RunId → Bool) (ids : List RunId) (id : RunId) → Among id ids → f id ≡ true → 0 < count_by f ids
count_some f [] id i a = absurd i
count_some f (x ∷ ids) id (inl e) a = more (cond (f x) 1 0) (count_by f ids) _ (counted f x ids) (one_of (f x) true (subst (λ (y : RunId). f y ≡ true) e a))
  where
    more : (v n all : ℕ) → all ≡ v + n → v ≡ 1 → 0 < all
    more v n all p q = omega (arith, p, q)
count_some f (x ∷ ids) id (inr i) a = more (cond (f x) 1 0) (count_by f ids) _ (counted f x ids) (count_some f ids id i a)
  where
    more : (v n all : ℕ) → all ≡ v + n → 0 < n → 0 < all
    more v n all p q = omega (arith, p, q)

-- ---- a run that is dropped

no_longer_shown : (k : ℕ) (o : Option Held) → shown_as k (no_longer o) ≡ shown_as k o
no_longer_shown k None = refl
no_longer_shown k (Some h) = refl

no_longer_runs : (o : Option Held) → is_running (no_longer o) ≡ false
no_longer_runs None = refl
no_longer_runs (Some h) = refl

-- a run after the drop of one
dropped : (acts : List Act) (id x : RunId) → ((id ≡ x → ⊥) × (held_in (acts ++ act id.party (Drop id.number) ∷ []) x ≡ held_in acts x)) ⊎ ((id ≡ x) × (held_in (acts ++ act id.party (Drop id.number) ∷ []) x ≡ no_longer (held_in acts x)))
dropped acts id x = go (id.party == x.party) refl
  where
    same : id.party ≡ x.party → held_in (acts ++ act id.party (Drop id.number) ∷ []) x ≡ (if id.number == x.number then no_longer (held_in acts x) else held_in acts x)
    same e = subst (λ (n : ℕ). held_in (acts ++ act n (Drop id.number) ∷ []) x ≡ (if id.number == x.number then no_longer (held_in acts x) else held_in acts x)) (sym e) (held_own acts x.party x.number (Drop id.number))

    here : id.party ≡ x.party → (b : Bool) → (id.number == x.number) ≡ b → ((id ≡ x → ⊥) × (held_in (acts ++ act id.party (Drop id.number) ∷ []) x ≡ held_in acts x)) ⊎ ((id ≡ x) × (held_in (acts ++ act id.party (Drop id.number) ∷ []) x ≡ no_longer (held_in acts x)))
    here e true f = let g : id.number ≡ x.number = eqb-true id.number x.number f in inr ((λ i. record { party = e i; number = g i }), same e ∙ ap (λ (b : Bool). if b then no_longer (held_in acts x) else held_in acts x) f)
    here e false f = inl ((λ h. let t : (id.number == x.number) ≡ true = eq-eqb id.number x.number (ap (λ (y : RunId). y.number) h) in absurd (cc)), same e ∙ ap (λ (b : Bool). if b then no_longer (held_in acts x) else held_in acts x) f)

    go : (b : Bool) → (id.party == x.party) ≡ b → ((id ≡ x → ⊥) × (held_in (acts ++ act id.party (Drop id.number) ∷ []) x ≡ held_in acts x)) ⊎ ((id ≡ x) × (held_in (acts ++ act id.party (Drop id.number) ∷ []) x ≡ no_longer (held_in acts x)))
    go true f = here (eqb-true id.party x.party f) (id.number == x.number) refl
    go false f = inl ((λ h. let t : (id.party == x.party) ≡ true = eq-eqb id.party x.party (ap (λ (y : RunId). y.party) h) in absurd (cc)), held_other acts id.party (Drop id.number) x f)

shown_dropped : (acts : List Act) (id : RunId) (k : ℕ) (x : RunId) → shown_as k (held_in (acts ++ act id.party (Drop id.number) ∷ []) x) ≡ shown_as k (held_in acts x)
shown_dropped acts id k x = elim (dropped acts id x) [ inl p ↦ ap (shown_as k) p.1 | inr p ↦ ap (shown_as k) p.1 ∙ no_longer_shown k (held_in acts x) ]

module _ (s : Scene) (k : IsKept s) (run : ℕ) (id : RunId) (is_run : run_in s.runs.items run ≡ Some id) where
  abbrev w : WorldView
  w = view_of s

  numbered : Among id s.runs.items
  numbered = run_among s.runs.items run id is_run

  pub declared_there : Among id.party (names_in s.parties.config)
  declared_there = k.genuine.runs.declared id numbered

  -- an open run has room for its end
  pub room_there : run_refusal (held_in s.parties.acts id) ≡ None → 0 < s.parties.room
  room_there e =
      let some = count_some (λ (x : RunId). is_running (held_in s.parties.acts x)) s.runs.items id numbered (running_so (held_in s.parties.acts id) e) in
      let room = k.room in
      omega (arith, some, room)

  pub ended_there : run_refusal (held_in s.parties.acts id) ≢ None → number_refusal w run ≡ Some EndedRun
  ended_there not = let t = k.genuine.runs.there id numbered in ap (standing_refusal s.parties.acts) is_run ∙ ended_of (held_in s.parties.acts id) t.0 t.1 not

  module _ (p : PartiesView) (acted : HasActed s.parties p id.party (Drop id.number)) (running : run_refusal (held_in s.parties.acts id) ≡ None) where
    view_dropped : view_of (record s { parties = p }) ≡ did w id.party (Drop id.number)
    view_dropped = λ i. record { config = acted.config i; acts = acted.acts i; clocks = acted.clocks i; draws = s.draws.place; runs = s.runs.items }

    sent_same : sent_in (s.parties.acts ++ act id.party (Drop id.number) ∷ []) ≡ sent_in s.parties.acts
    sent_same = sent_snoc s.parties.acts id.party (Drop id.number) ∙ append-nil (sent_in s.parties.acts)

    told_same : told_of w ≡ told_of (did w id.party (Drop id.number))
    told_same = λ i. record {
      revealed = revealed_names s.parties.config.pairs;
      happened = sym (shown_alike s.parties.acts (s.parties.acts ++ act id.party (Drop id.number) ∷ []) (shown_dropped s.parties.acts id) 1 s.runs.items) i;
      sent = sym sent_same i;
      given = [];
    }

    one_less : running_in (did w id.party (Drop id.number)) + 1 ≡ running_in w
    one_less =
        count_one_less (λ (x : RunId). is_running (held_in s.parties.acts x)) (λ (x : RunId). is_running (held_in (s.parties.acts ++ act id.party (Drop id.number) ∷ []) x)) s.runs.items id k.genuine.runs.apart numbered
        (λ x i other. elim (dropped s.parties.acts id x) [ inl q ↦ ap is_running q.1 | inr q ↦ absurd (other q.0) ])
        (running_so (held_in s.parties.acts id) running)
        (elim (dropped s.parties.acts id id) [ inl q ↦ absurd (q.0 refl) | inr q ↦ ap is_running q.1 ∙ no_longer_runs (held_in s.parties.acts id) ])

    pub kept_dropped : IsKept (record s { parties = p })
    kept_dropped =
        let o = open_of (held_in s.parties.acts id) running in
        record {
          genuine = subst IsGenuine (sym view_dropped) (genuine_drop w k.genuine id declared_there o.0 o.1);
          learnt = subst (λ (v : WorldView). s.knowledge.given ≡ known_in v) (sym view_dropped) (k.learnt ∙ ap (λ (ts : List Tree). (map part s.parties.config.own ++ revealed_parts s.parties.config.pairs) ++ ts) (sym sent_same));
          told = subst (λ (v : WorldView). told_by s.history ≡ told_of v) (sym view_dropped) (k.told ∙ told_same);
          room = subst (λ (v : WorldView). running_in v ≤ p.room) (sym view_dropped) (let r = k.room in let e = one_less in let l = acted.room in omega (arith, r, e, l));
        }

    pub is_dropped : IsDropped w run (view_of (record s { parties = p }))
    is_dropped = record {
      running = ap (standing_refusal s.parties.acts) is_run ∙ running;
      id = id;
      is_run = is_run;
      leaves = view_dropped;
    }
