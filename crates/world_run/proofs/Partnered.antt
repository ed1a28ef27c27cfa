-- The partners that a history tells are those of the theory.
use Rattle.std.proofs.Common.{◌≡◌, ◌≢◌, ◌⊎◌, ◌==◌, ◌+◌, ◌≤◌, ℕ, zero, suc, Bool, true, false, ◌&&◌, ◌||◌, if◌then◌else◌, List, [], ◌∷◌, ◌++◌, map, reverse, Option, Some, None, is_none, refl, sym, ap, ap₂, subst, ◌∙◌, inl, inr, arith, eqb-true, eq-eqb}
use Rattle.std.proofs.lemmas.List.{reverse-append, reverse-reverse}
use Rattle.std.specs.Prelude.{slice_get}
use Rattle.term_values.specs.Trees.{Among, Tree}
use Rattle.term_values.proofs.Lists.{among_append, among_left, among_map, among_right, and_both, and_left, and_right, map_among}
use Rattle.mech_rows.specs.declared.kinds.Mech.{Mech}
use Rattle.mech_rows.specs.declared.kinds.Role.{Role}
use Rattle.mech_rows.specs.declared.kinds.Role.TheVariants.{P}
use Rattle.mech_rows.specs.declared.kinds.Slot.{Slot}
use Rattle.mech_rows.specs.declared.kinds.Slot.TheVariants.{Ra}
use Rattle.mech_rows.specs.declared.notes.Value.{Value}
use Rattle.mech_rows.specs.Facts.{peer_of, same_mech, same_role, same_slot}
use Rattle.mech_rows.specs.Found.{found}
use Rattle.mech_rows.specs.Heads.{Head, IsHead, is_given, name_or_none}
use Rattle.mech_rows.specs.Lawful.{stands_in}
use Rattle.mech_rows.specs.Notes.{noted, terms_of}
use Rattle.mech_rows.specs.Openings.{is_text}
use Rattle.mech_rows.specs.Replies.{all_slots, in_order, noted_among, with_slot}
use Rattle.mech_rows.specs.Rows.{Pass, agreed_of, family, has_third, kind_of, number, row_of}
use Rattle.mech_rows.specs.Runs.{IsDone, Notes, Run, Step, names, nth}
use Rattle.term_values.specs.Same.{same}
use Rattle.mech_rows.specs.Verdict.{Noted, State}
use Rattle.mech_rows.specs.Verdict as verdict
use Rattle.mech_rows.proofs.Items.{SameParts, same_mech_is, same_parts}
use Rattle.mech_rows.proofs.RowUse.{same_role_is, same_role_refl, same_slot_is}
use Rattle.term_values.proofs.SameTrees.{same_is, same_refl}
use Rattle.agreement_laws.specs.declared.history.Happened.{Happened}
use Rattle.agreement_laws.specs.Configs.{AllDiffer, IsLawful, IsUnrevealed}
use Rattle.agreement_laws.specs.Histories.{HistoryOf}
use Rattle.agreement_laws.specs.Partners.{agrees, alike, first_where, is_peer, partner_of, partner_on, run_of, same_names, same_noted, same_third}
use Rattle.agreement_laws.specs.Sound.{AgreesAt, AgreesOn, Completion, HasClaim, IsFirst, NotedAlike, opened}
use Rattle.agreement_laws.specs.Traces.{Happening, RunId, Steps, current, given}
use Rattle.agreement_laws.specs.Worlds.{At, Entry, run_id, trace}
use Rattle.agreement_laws.proofs.Conclusions.{world_injective, world_partnered}
use Rattle.agreement_laws.proofs.Pairs.{completed_is_good}
use Rattle.agreement_laws.proofs.Reduction.{world_trace}
use Rattle.agreement_laws.proofs.Traces.{IsTrace}
use Rattle.node_desk.specs.declared.event.Event.{Event}
use Rattle.node_desk.specs.declared.event.Event.TheVariants.{Commit, Drop, Issue, Open, Restart}
use Rattle.node_desk.specs.Events.{event_of}
use Rattle.node_desk.specs.Helds.{Held}
use Rattle.world_run.specs.Claims.{Claims, Tells}
use Rattle.world_run.specs.Kept.{HasStepped, IsGenuine, IsStepOf}
use Rattle.world_run.specs.Views.{Act, Shown, Told, WorldView, entries, held_in, is_over, run_in, shown_as, shown_from, shown_of}
use Rattle.world_run.proofs.Acts.{current_is, run_shown}
use Rattle.world_run.proofs.Completed.{completed, has_stepped, not_p, once_given, plain_slot, played}
use Rattle.world_run.proofs.Decided.{lawful}

-- ---- notes of a history

noted_is : (ns : List (Slot × Value)) (s : Slot) → noted ns s ≡ found (terms_of ns) s
noted_is [] s = refl
noted_is (n ∷ ns) s = go (noted_is ns s) (same_slot n.0 s) refl
  where
    go : noted ns s ≡ found (terms_of ns) s → (b : Bool) → same_slot n.0 s ≡ b → noted (n ∷ ns) s ≡ found (terms_of (n ∷ ns)) s
    go more true e = rw e refl
    go more false e = rw e more

among_noted : (ns : Noted) (ss : List Slot) (s : Slot) → found (noted_among ns ss) s ≡ (if stands_in ss s then found ns s else None)
among_noted ns [] s = refl
among_noted ns (u ∷ ss) s = go (found ns u) refl (same_slot u s) refl (among_noted ns ss s)
  where
    go : (o : Option Tree) → found ns u ≡ o → (b : Bool) → same_slot u s ≡ b → found (noted_among ns ss) s ≡ (if stands_in ss s then found ns s else None)
        → found (with_slot u o (noted_among ns ss)) s ≡ (if b || stands_in ss s then found ns s else None)
    go None e true f rest = rest ∙ late (stands_in ss s)
      where
        none : found ns s ≡ None
        none = ap (found ns) (sym (same_slot_is u s f)) ∙ e

        late : (d : Bool) → (if d then found ns s else None) ≡ found ns s
        late true = refl
        late false = sym none
    go None e false f rest = rest
    go (Some t) e true f rest = ap (λ (d : Bool). if d then Some t else found (noted_among ns ss) s) f ∙ sym e ∙ ap (found ns) (same_slot_is u s f)
    go (Some t) e false f rest = ap (λ (d : Bool). if d then Some t else found (noted_among ns ss) s) f ∙ rest

each_slot : (s : Slot) → stands_in all_slots s ≡ true
each_slot Ra = refl
each_slot _ = refl

order_found : (ns : Noted) (s : Slot) → found (in_order ns) s ≡ found ns s
order_found ns s = among_noted ns all_slots s ∙ ap (λ (b : Bool). if b then found ns s else None) (each_slot s)

-- ---- agreement, as a test

same_mech_refl : (m : Mech) → same_mech m m ≡ true
same_mech_refl m = and_both (family m == family m) (number m == number m) (eq-eqb (family m) (family m) refl) (eq-eqb (number m) (number m) refl)

third_is : (o q : Option ℕ) → same_third o q ≡ true → o ≡ q
third_is None None e = refl
third_is (Some n) (Some m) e = ap Some (eqb-true n m e)
third_is None (Some m) e = absurd cc
third_is (Some n) None e = absurd cc

third_same : (o q : Option ℕ) (third : Bool) → is_given o ≡ third → is_given q ≡ third → (third ≡ true → name_or_none o ≡ name_or_none q) → same_third o q ≡ true
third_same None None third e f same = refl
third_same (Some n) (Some m) third e f same = eq-eqb n m (same (sym e))
third_same None (Some m) third e f same = absurd cc
third_same (Some n) None third e f same = absurd cc

names_same : (h g : Head) → h.mech ≡ g.mech → same_names h g ≡ true → names h ≡ names g
names_same h g mech e =
    let a = eqb-true h.a g.a (and_left (h.a == g.a) ((h.b == g.b) && same_third h.p g.p) e) in
    let rest = and_right (h.a == g.a) ((h.b == g.b) && same_third h.p g.p) e in
    let b = eqb-true h.b g.b (and_left (h.b == g.b) (same_third h.p g.p) rest) in
    let p = third_is h.p g.p (and_right (h.b == g.b) (same_third h.p g.p) rest) in
    λ i. names (record { mech = mech i; role = h.role; a = a i; b = b i; p = p i })

noted_both : (o q : Option Tree) → same_noted o q ≡ true → (t : Tree) × (o ≡ Some t) × (q ≡ Some t)
noted_both (Some t) (Some u) e = (t, refl, ap Some (sym (same_is t u e)))
noted_both None q e = absurd cc
noted_both (Some t) None e = absurd cc

alike_noted : (n m : Notes) (ss : List Slot) → alike n m ss ≡ true → (s : Slot) → Among s ss → NotedAlike s n m
alike_noted n m [] e s i = absurd i
alike_noted n m (u ∷ ss) e s (inl is) =
    let x = noted_both (n u) (m u) (and_left (same_noted (n u) (m u)) (alike n m ss) e) in
    subst (λ (v : Slot). NotedAlike v n m) (sym is) (record { tree = x.0; left = x.1; right = x.2 })
alike_noted n m (u ∷ ss) e s (inr i) = alike_noted n m ss (and_right (same_noted (n u) (m u)) (alike n m ss) e) s i

noted_alike : (n m : Notes) (ss : List Slot) → ((s : Slot) → Among s ss → NotedAlike s n m) → alike n m ss ≡ true
noted_alike n m [] each = refl
noted_alike n m (s ∷ ss) each =
    let x = each s (inl refl) in
    and_both (same_noted (n s) (m s)) (alike n m ss) (ap₂ same_noted x.left x.right ∙ same_refl x.tree x.tree refl) (noted_alike n m ss (λ u i. each u (inr i)))

module _ (role : Role) (slots : List Slot) (r c : Happened) where
  abbrev kind : Bool
  kind = same_mech r.head.mech c.head.mech && same_role r.head.role role

  agreeing : agrees role slots r c ≡ true → AgreesOn role slots (run_of r) (run_of c)
  agreeing e = record {
    mech = mech;
    names = names_same r.head c.head mech (and_right kind (same_names r.head c.head) peer);
    role_is = same_role_is r.head.role role (and_right (same_mech r.head.mech c.head.mech) (same_role r.head.role role) of_kind);
    alike = alike_noted (noted r.notes) (noted c.notes) slots (and_right (is_peer role r c) (alike (noted r.notes) (noted c.notes) slots) e);
  }
    where
      peer : is_peer role r c ≡ true
      peer = and_left (is_peer role r c) (alike (noted r.notes) (noted c.notes) slots) e

      of_kind : kind ≡ true
      of_kind = and_left kind (same_names r.head c.head) peer

      mech : r.head.mech ≡ c.head.mech
      mech = same_mech_is r.head.mech c.head.mech (and_left (same_mech r.head.mech c.head.mech) (same_role r.head.role role) of_kind)

  agreed : IsHead r.head → IsHead c.head → AgreesOn role slots (run_of r) (run_of c) → agrees role slots r c ≡ true
  agreed h g a = and_both (is_peer role r c) (alike (noted r.notes) (noted c.notes) slots) peer (noted_alike (noted r.notes) (noted c.notes) slots a.alike)
    where
      parts : SameParts r.head c.head (noted r.notes) (noted c.notes) []
      parts = same_parts r.head c.head (noted r.notes) (noted c.notes) [] a.mech (ap (λ (x : List Tree). x ++ []) a.names)

      given_too : is_given c.head.p ≡ has_third r.head.mech
      given_too = g.0 ∙ ap has_third (sym a.mech)

      named : same_names r.head c.head ≡ true
      named =
          and_both (r.head.a == c.head.a) ((r.head.b == c.head.b) && same_third r.head.p c.head.p) (eq-eqb r.head.a c.head.a parts.a_is)
          (and_both (r.head.b == c.head.b) (same_third r.head.p c.head.p) (eq-eqb r.head.b c.head.b parts.b_is) (third_same r.head.p c.head.p (has_third r.head.mech) h.0 given_too parts.p_is))

      peer : is_peer role r c ≡ true
      peer = and_both kind (same_names r.head c.head) (and_both (same_mech r.head.mech c.head.mech) (same_role r.head.role role) (mech_refl a.mech) (ap (same_role r.head.role) (sym a.role_is) ∙ same_role_refl r.head.role)) named
        where
          mech_refl : r.head.mech ≡ c.head.mech → same_mech r.head.mech c.head.mech ≡ true
          mech_refl e = ap (same_mech r.head.mech) (sym e) ∙ same_mech_refl r.head.mech

found_first : (test : Happened → Bool) (rs : List Happened) (r : Happened) → Among r rs → test r ≡ true → (n : ℕ) × (first_where test rs ≡ Some n)
found_first test [] r i e = absurd i
found_first test (x ∷ rs) r i e = go (test x) refl i (λ j. found_first test rs r j e)
  where
    go : (b : Bool) → test x ≡ b → (r ≡ x) ⊎ Among r rs → (Among r rs → (n : ℕ) × (first_where test rs ≡ Some n)) → (n : ℕ) × ((if b then Some x.run else first_where test rs) ≡ Some n)
    go true f j rest = (x.run, refl)
    go false f (inl is) rest = let g : test r ≡ false = ap test is ∙ f in absurd cc
    go false f (inr j) rest = rest j

first_found : (test : Happened → Bool) (rs : List Happened) (n : ℕ) → first_where test rs ≡ Some n → (r : Happened) × Among r rs × (r.run ≡ n) × (test r ≡ true)
first_found test [] n e = absurd cc
first_found test (x ∷ rs) n e = go (test x) refl e (first_found test rs n)
  where
    go : (b : Bool) → test x ≡ b → (if b then Some x.run else first_where test rs) ≡ Some n → (first_where test rs ≡ Some n → (r : Happened) × Among r rs × (r.run ≡ n) × (test r ≡ true)) → (r : Happened) × Among r (x ∷ rs) × (r.run ≡ n) × (test r ≡ true)
    go true f g rest = (x, inl refl, cc, f)
    go false f g rest = let y = rest g in (y.0, inr y.1, y.2, y.3)

-- the first that passes the test has the least number of those that pass
first_least : (test : Happened → Bool) (rs : List Happened) (k : ℕ) → ((i : ℕ) (c : Happened) → slice_get rs i ≡ Some c → c.run ≡ i + k) → (n i : ℕ) (r : Happened) → first_where test rs ≡ Some n → slice_get rs i ≡ Some r → test r ≡ true → n ≤ r.run
first_least test [] k numbered n i r e at is = absurd cc
first_least test (x ∷ rs) k numbered n i r e at is = go (test x) refl e i at (first_least test rs (suc k) later n)
  where
    later : (i : ℕ) (c : Happened) → slice_get rs i ≡ Some c → c.run ≡ i + suc k
    later i c f = numbered (suc i) c f ∙ omega arith

    go : (b : Bool) → test x ≡ b → (if b then Some x.run else first_where test rs) ≡ Some n → (i : ℕ) → slice_get (x ∷ rs) i ≡ Some r → ((i : ℕ) (r : Happened) → first_where test rs ≡ Some n → slice_get rs i ≡ Some r → test r ≡ true → n ≤ r.run) → n ≤ r.run
    go true t f i at rest =
        let here : x.run ≡ n = cc in
        let a = numbered zero x refl in
        let b = numbered i r at in
        omega (arith, here, a, b)
    go false t f zero at rest = let same : x ≡ r = cc in let bad : false ≡ true = sym t ∙ ap test same ∙ is in absurd cc
    go false t f (suc i) at rest = rest i r f at is

-- ---- places of runs

slice_among : {X : Type 0} (xs : List X) (k : ℕ) (x : X) → slice_get xs k ≡ Some x → Among x xs
slice_among [] k x e = absurd cc
slice_among (y ∷ xs) zero x e = inl cc
slice_among (y ∷ xs) (suc k) x e = inr (slice_among xs k x e)

among_slice : {X : Type 0} (xs : List X) (x : X) → Among x xs → (k : ℕ) × (slice_get xs k ≡ Some x)
among_slice [] x i = absurd i
among_slice (y ∷ xs) x (inl e) = (zero, ap Some (sym e))
among_slice (y ∷ xs) x (inr i) = let r = among_slice xs x i in (suc r.0, r.1)

one_place : {X : Type 0} (xs : List X) (j k : ℕ) (x : X) → AllDiffer xs → slice_get xs j ≡ Some x → slice_get xs k ≡ Some x → j ≡ k
one_place [] j k x d e f = absurd cc
one_place (y ∷ xs) zero zero x d e f = refl
one_place (y ∷ xs) zero (suc k) x d e f = let is : x ≡ y = cc in absurd (d.0 (subst (λ z. Among z xs) is (slice_among xs k x f)))
one_place (y ∷ xs) (suc j) zero x d e f = let is : x ≡ y = cc in absurd (d.0 (subst (λ z. Among z xs) is (slice_among xs j x e)))
one_place (y ∷ xs) (suc j) (suc k) x d e f = ap suc (one_place xs j k x d.1 e f)

one_number : (ids : List RunId) (n m : ℕ) (id : RunId) → AllDiffer ids → run_in ids n ≡ Some id → run_in ids m ≡ Some id → n ≡ m
one_number ids zero m id d e f = absurd cc
one_number ids (suc n) zero id d e f = absurd cc
one_number ids (suc n) (suc m) id d e f = ap suc (one_place ids n m id d e f)

-- the run of a place, as it is shown
abbrev shown_run : ℕ → Held → Shown
shown_run n h = record { run = n; head = h.state.head; notes = in_order h.state.notes; done = is_over h.state; exposed = false }

record ShownAt (acts : List Act) (first : ℕ) (ids : List RunId) (x : Shown) : Type 0 where
  place : ℕ
  id : RunId
  at : slice_get ids place ≡ Some id
  stands : Held
  is : held_in acts id ≡ Some stands
  shows : x ≡ shown_run (place + first) stands

shown_at : (acts : List Act) (first : ℕ) (ids : List RunId) (x : Shown) → Among x (shown_from acts first ids) → ShownAt acts first ids x
shown_at acts first [] x i = absurd i
shown_at acts first (id ∷ ids) x i = go (held_in acts id) refl (among_append (shown_as first (held_in acts id)) (shown_from acts (suc first) ids) x i) (shown_at acts (suc first) ids x)
  where
    go : (o : Option Held) → held_in acts id ≡ o → Among x (shown_as first (held_in acts id)) ⊎ Among x (shown_from acts (suc first) ids) → (Among x (shown_from acts (suc first) ids) → ShownAt acts (suc first) ids x) → ShownAt acts first (id ∷ ids) x
    go o e (inr j) rest =
        let r = rest j in
        let moved : r.place + suc first ≡ suc r.place + first = omega arith in
        record { place = suc r.place; id = r.id; at = r.at; stands = r.stands; is = r.is; shows = r.shows ∙ ap (λ (n : ℕ). shown_run n r.stands) moved }
    go None e (inl j) rest = absurd (subst (λ (o : Option Held). Among x (shown_as first o)) e j)
    go (Some h) e (inl j) rest = here (subst (λ (o : Option Held). Among x (shown_as first o)) e j)
      where
        from_first : first ≡ 0 + first
        from_first = omega arith

        here : (x ≡ shown_run first h) ⊎ ⊥ → ShownAt acts first (id ∷ ids) x
        here (inl is) = record { place = zero; id = id; at = refl; stands = h; is = e; shows = is ∙ ap (λ (n : ℕ). shown_run n h) from_first }
        here (inr none) = absurd none

at_shown : (acts : List Act) (first : ℕ) (ids : List RunId) (place : ℕ) (id : RunId) (h : Held) → slice_get ids place ≡ Some id → held_in acts id ≡ Some h → Among (shown_run (place + first) h) (shown_from acts first ids)
at_shown acts first [] place id h e is = absurd cc
at_shown acts first (i ∷ ids) zero id h e is =
    let same : i ≡ id = cc in
    let from_first : first ≡ 0 + first = omega arith in
    subst (λ (n : ℕ). Among (shown_run n h) (shown_from acts first (i ∷ ids))) from_first
    (among_left (shown_as first (held_in acts i)) (shown_from acts (suc first) ids) (shown_run first h) (subst (λ (o : Option Held). Among (shown_run first h) (shown_as first o)) (sym (ap (held_in acts) same ∙ is)) (inl refl)))
at_shown acts first (i ∷ ids) (suc place) id h e is =
    let moved : place + suc first ≡ suc place + first = omega arith in
    among_right (shown_as first (held_in acts i)) (shown_from acts (suc first) ids) (shown_run (suc place + first) h)
    (subst (λ (n : ℕ). Among (shown_run n h) (shown_from acts (suc first) ids)) moved (at_shown acts (suc first) ids place id h e is))

-- each run of the history has the number of its place, from the first on
shown_number : (acts : List Act) (first : ℕ) (ids : List RunId) → ((id : RunId) → Among id ids → (h : Held) × (held_in acts id ≡ Some h)) → (i : ℕ) (x : Shown) → slice_get (shown_from acts first ids) i ≡ Some x → x.run ≡ i + first
shown_number acts first [] there i x e = absurd cc
shown_number acts first (id ∷ ids) there i x e =
    let h = there id (inl refl) in
    go h.0 i (shown_number acts (suc first) ids (λ j k. there j (inr k))) (subst (λ (o : Option Held). slice_get (shown_as first o ++ shown_from acts (suc first) ids) i ≡ Some x) h.1 e)
  where
    go : (h : Held) (i : ℕ) → ((k : ℕ) (y : Shown) → slice_get (shown_from acts (suc first) ids) k ≡ Some y → y.run ≡ k + suc first) → slice_get (shown_run first h ∷ shown_from acts (suc first) ids) i ≡ Some x → x.run ≡ i + first
    go h zero rest f = let is : shown_run first h ≡ x = cc in sym (ap (λ (y : Shown). y.run) is) ∙ omega arith
    go h (suc k) rest f = rest k x f ∙ omega arith

map_place : {X Y : Type 0} (f : X → Y) (xs : List X) (i : ℕ) (x : X) → slice_get xs i ≡ Some x → slice_get (map f xs) i ≡ Some (f x)
map_place f [] i x e = absurd cc
map_place f (y ∷ xs) zero x e = let is : y ≡ x = cc in ap (λ z. Some (f z)) is
map_place f (y ∷ xs) (suc i) x e = map_place f xs i x e

-- ---- steps

among_reverse : {X : Type 0} (xs : List X) (x : X) → Among x xs → Among x (reverse xs)
among_reverse [] x i = i
among_reverse (y ∷ xs) x (inl e) = subst (Among x) (sym (reverse-append (y ∷ []) xs)) (among_right (reverse xs) (y ∷ []) x (inl e))
among_reverse (y ∷ xs) x (inr i) = subst (Among x) (sym (reverse-append (y ∷ []) xs)) (among_left (reverse xs) (y ∷ []) x (among_reverse xs x i))

abbrev id_in : RunId → Happening → RunId
id_in id (Steps i step) = i
id_in id _ = id

stepped_past : (past : List Act) (id : RunId) (step : Step) → Among (Steps id step) (trace (map (λ (a : Act). At a.party (event_of a.event)) past)) → HasStepped past id
stepped_past [] id step i = absurd i
stepped_past (a ∷ past) id step i = go a.event refl i (stepped_past past id step)
  where
    later : HasStepped past id → HasStepped (a ∷ past) id
    later x = (x.0, inr x.1, x.2, x.3)

    go : (e : Event) → a.event ≡ e → Among (Steps id step) (trace (At a.party (event_of e) ∷ map (λ (b : Act). At b.party (event_of b.event)) past)) → (Among (Steps id step) (trace (map (λ (b : Act). At b.party (event_of b.event)) past)) → HasStepped past id) → HasStepped (a ∷ past) id
    go (Open run head texts) is (inl e) rest = absurd cc
    go (Open run head texts) is (inr j) rest = later (rest j)
    go (Commit run now move) is (inl e) rest =
        let same : id ≡ run_id a.party run = ap (id_in id) e in
        (a, inl refl, sym (ap (λ (x : RunId). x.party) same), subst (λ (x : Event). IsStepOf x id.number) (sym is) (sym (ap (λ (x : RunId). x.number) same)))
    go (Commit run now move) is (inr j) rest = later (rest j)
    go (Issue now stamp) is j rest = later (rest j)
    go (Drop run) is j rest = later (rest j)
    go (Restart now last more) is j rest = later (rest j)

stepped_in : (acts : List Act) (id : RunId) (step : Step) → Among (Steps id step) (trace (entries acts)) → HasStepped acts id
stepped_in acts id step i =
    let x = stepped_past (reverse acts) id step i in
    (x.0, subst (Among x.0) (reverse-reverse acts) (among_reverse (reverse acts) x.0 x.1), x.2, x.3)

-- the acts of a world give no key away
none_given : (past : List Act) → given (trace (map (λ (a : Act). At a.party (event_of a.event)) past)) ≡ []
none_given [] = refl
none_given (a ∷ past) = go a.event (map (λ (b : Act). At b.party (event_of b.event)) past) (none_given past)
  where
    go : (e : Event) (h : List Entry) → given (trace h) ≡ [] → given (trace (At a.party (event_of e) ∷ h)) ≡ []
    go (Open run head texts) h none = none
    go (Commit run now move) h none = none
    go (Issue now stamp) h none = none
    go (Drop run) h none = none
    go (Restart now last more) h none = none

-- ---- the runs that a history tells

agrees_like : (role : Role) (slots : List Slot) (r s c d : Run) → r.head ≡ s.head → c.head ≡ d.head → ((u : Slot) → r.notes u ≡ s.notes u) → ((u : Slot) → c.notes u ≡ d.notes u) → AgreesOn role slots r c → AgreesOn role slots s d
agrees_like role slots r s c d e f n m a = record {
  mech = sym (ap (λ (h : Head). h.mech) e) ∙ a.mech ∙ ap (λ (h : Head). h.mech) f;
  names = sym (ap names e) ∙ a.names ∙ ap names f;
  role_is = sym (ap (λ (h : Head). h.role) e) ∙ a.role_is;
  alike = λ u i. let x = a.alike u i in record { tree = x.tree; left = sym (n u) ∙ x.left; right = sym (m u) ∙ x.right };
}

module _ (w : WorldView) (g : IsGenuine w) (h : HistoryOf) (tells : Tells h w) where
  abbrev t : List Happening
  t = trace (entries w.acts)

  is_lawful : IsLawful w.config
  is_lawful = lawful w.config g.conditions

  is_trace : IsTrace w.config t
  is_trace = world_trace w.config is_lawful (entries w.acts) g.world

  runs_told : map shown_of h.happened ≡ shown_from w.acts 1 w.runs
  runs_told = ap (λ (x : Told). x.happened) tells

  pub numbered_so : (i : ℕ) (c : Happened) → slice_get h.happened i ≡ Some c → c.run ≡ i + 1
  numbered_so i c e = shown_number w.acts 1 w.runs g.runs.there i (shown_of c) (subst (λ (xs : List Shown). slice_get xs i ≡ Some (shown_of c)) runs_told (map_place shown_of h.happened i c e))

  -- a run of the history, as it stands in the world
  record Stands (c : Happened) : Type 0 where
    id : RunId
    numbered : run_in w.runs c.run ≡ Some id
    stands : Held
    is : held_in w.acts id ≡ Some stands
    head : c.head ≡ stands.state.head
    notes : (s : Slot) → noted c.notes s ≡ found stands.state.notes s
    done : c.done ≡ is_over stands.state

  stands_so : (c : Happened) → Among c h.happened → Stands c
  stands_so c i =
      let x = shown_at w.acts 1 w.runs (shown_of c) (subst (Among (shown_of c)) runs_told (map_among shown_of h.happened c i)) in
      let place : c.run ≡ suc x.place = ap (λ (y : Shown). y.run) x.shows ∙ omega arith in
      record {
        id = x.id;
        numbered = ap (run_in w.runs) place ∙ x.at;
        stands = x.stands;
        is = x.is;
        head = ap (λ (y : Shown). y.head) x.shows;
        notes = λ s. noted_is c.notes s ∙ ap (λ (y : Shown). found y.notes s) x.shows ∙ order_found x.stands.state.notes s;
        done = ap (λ (y : Shown). y.done) x.shows;
      }

  shown_now : (id : RunId) (s : Held) → held_in w.acts id ≡ Some s → current t id ≡ Some (verdict.run_of s.state)
  shown_now id s is = current_is w id ∙ ap run_shown is

  head_now : (id : RunId) (s : Held) → held_in w.acts id ≡ Some s → IsHead s.state.head
  head_now id s is = (played w.config is_lawful (entries w.acts) g.world id (verdict.run_of s.state) (shown_now id s is)).is_head

  -- a run with a number stands in the history
  record Listed (id : RunId) : Type 0 where
    run : Happened
    there : Among run h.happened
    stands : Held
    is : held_in w.acts id ≡ Some stands
    head : run.head ≡ stands.state.head
    notes : (s : Slot) → noted run.notes s ≡ found stands.state.notes s

  listed_so : (id : RunId) → Among id w.runs → Listed id
  listed_so id i =
      let stands = g.runs.there id i in
      let place = among_slice w.runs id i in
      let shown = at_shown w.acts 1 w.runs place.0 id stands.0 place.1 stands.1 in
      let x = among_map shown_of h.happened (shown_run (place.0 + 1) stands.0) (subst (Among (shown_run (place.0 + 1) stands.0)) (sym runs_told) shown) in
      record {
        run = x.0;
        there = x.1;
        stands = stands.0;
        is = stands.1;
        head = sym (ap (λ (y : Shown). y.head) x.2);
        notes = λ s. noted_is x.0.notes s ∙ ap (λ (y : Shown). found y.notes s) (sym x.2) ∙ order_found stands.0.state.notes s;
      }

  -- ---- claims

  over_none : (o : Option Pass) → is_none o ≡ true → o ≡ None
  over_none None e = refl
  over_none (Some p) e = absurd cc

  record Claimed (c : Happened) (slots : List Slot) : Type 0 where
    id : RunId
    numbered : run_in w.runs c.run ≡ Some id
    completion : Completion t
    of_run : completion.id ≡ id
    claim : HasClaim w.config t completion slots
    is_head : IsHead c.head
    head : c.head ≡ completion.step.after.head
    notes : (s : Slot) → noted c.notes s ≡ completion.step.after.notes s

  claimed : (c : Happened) (slots : List Slot) → Among c h.happened → Claims w.config c slots → Claimed c slots
  claimed c slots i x = record {
    id = s.id;
    numbered = s.numbered;
    completion = k.0;
    of_run = k.1;
    claim = record {
      claimed = subst (λ (y : Head). agreed_of y.mech y.role ≡ Some slots) head x.agreed;
      good = completed_is_good w.config is_lawful (entries w.acts) g.world k.0 (subst (λ (y : Head). y.role ≢ P) head no_p) (subst (IsUnrevealed w.config) head x.unrevealed);
      kept = λ third p e j. absurd (subst (Among p) (once_given (Steps k.0.id k.0.step ∷ k.0.before) t k.0.moment (none_given (reverse w.acts))) j);
    };
    is_head = subst IsHead (sym s.head) (head_now s.id s.stands s.is);
    head = head;
    notes = λ u. s.notes u ∙ ap (λ (r : Run). r.notes u) (sym k.2);
  }
    where
      s : Stands c
      s = stands_so c i

      no_p : c.head.role ≢ P
      no_p = not_p c.head.mech c.head.role slots x.agreed

      done : IsDone (verdict.run_of s.stands.state)
      done = over_none (nth (row_of s.stands.state.head.mech) s.stands.state.next) (sym s.done ∙ x.done)

      k : (y : Completion t) × (y.id ≡ s.id) × (y.step.after ≡ verdict.run_of s.stands.state)
      k = completed w.config t is_trace s.id (verdict.run_of s.stands.state) (shown_now s.id s.stands s.is) done (subst (λ (y : Head). y.role ≢ P) s.head no_p)

      head : c.head ≡ k.0.step.after.head
      head = s.head ∙ ap (λ (r : Run). r.head) (sym k.2)

  first_agrees : (Is : RunId → Type 0) (ids : List RunId) (id : RunId) → IsFirst Is ids id → Is id
  first_agrees Is [] id f = absurd f
  first_agrees Is (i ∷ ids) id (inl f) = subst Is (sym f.0) f.1
  first_agrees Is (i ∷ ids) id (inr f) = first_agrees Is ids id f.1

  role_like : (c : Happened) (slots : List Slot) (x : Claimed c slots) → peer_of x.completion.step.after.head.role ≡ peer_of c.head.role
  role_like c slots x = ap (λ (y : Head). peer_of y.role) (sym x.head)

  pub some_partner : (c : Happened) (slots : List Slot) → Among c h.happened → Claims w.config c slots → (n : ℕ) × (partner_of h.happened c ≡ Some n)
  some_partner c slots i claims = (first.0, ap (partner_on h.happened c) claims.agreed ∙ first.1)
    where
      x : Claimed c slots
      x = claimed c slots i claims

      after : Run
      after = x.completion.step.after

      partner : (id : RunId) × IsFirst (AgreesAt t (peer_of after.head.role) slots after) (opened t) id
      partner = (world_partnered w.config is_lawful (entries w.acts) g.world).partner x.completion slots x.claim

      agreeing_run : AgreesAt t (peer_of after.head.role) slots after partner.0
      agreeing_run = first_agrees (AgreesAt t (peer_of after.head.role) slots after) (opened t) partner.0 partner.1

      plain : (s : Slot) × Among s slots × (is_text (kind_of s) ≡ false)
      plain = plain_slot c.head.mech c.head.role slots claims.agreed

      stepped : (step : Step) × Among (Steps partner.0 step) t
      stepped = let a = agreeing_run.2.alike plain.0 plain.1 in has_stepped w.config t is_trace partner.0 agreeing_run.0 plain.0 a.tree agreeing_run.1 a.left plain.2

      listed : Listed partner.0
      listed = listed_so partner.0 (g.runs.stepped partner.0 (stepped_in w.acts partner.0 stepped.0 stepped.1))

      same_run : agreeing_run.0 ≡ verdict.run_of listed.stands.state
      same_run = some_is (sym agreeing_run.1 ∙ shown_now partner.0 listed.stands listed.is)
        where
          some_is : {r s : Run} → Some r ≡ Some s → r ≡ s
          some_is e = cc

      on : AgreesOn (peer_of c.head.role) slots (run_of listed.run) (run_of c)
      on =
          subst (λ (r : Role). AgreesOn r slots (run_of listed.run) (run_of c)) (role_like c slots x)
          (agrees_like (peer_of after.head.role) slots agreeing_run.0 (run_of listed.run) after (run_of c) (ap (λ (r : Run). r.head) same_run ∙ sym listed.head) (sym x.head)
          (λ u. ap (λ (r : Run). r.notes u) same_run ∙ sym (listed.notes u)) (λ u. sym (x.notes u)) agreeing_run.2)

      first : (n : ℕ) × (first_where (λ r. agrees (peer_of c.head.role) slots r c) h.happened ≡ Some n)
      first =
          found_first (λ r. agrees (peer_of c.head.role) slots r c) h.happened listed.run listed.there
          (agreed (peer_of c.head.role) slots listed.run c (subst IsHead (sym listed.head) (head_now partner.0 listed.stands listed.is)) x.is_head on)

  -- ---- the partner that is told

  pub partner_agrees : (c : Happened) (slots : List Slot) (n : ℕ) → agreed_of c.head.mech c.head.role ≡ Some slots → partner_of h.happened c ≡ Some n → (id : RunId) × (run_in w.runs n ≡ Some id) × AgreesAt t (peer_of c.head.role) slots (run_of c) id
  partner_agrees c slots n is e =
      let f = first_found (λ r. agrees (peer_of c.head.role) slots r c) h.happened n (sym (ap (partner_on h.happened c) is) ∙ e) in
      let s = stands_so f.0 f.1 in
      let on = agreeing (peer_of c.head.role) slots f.0 c f.3 in
      let now : AgreesAt t (peer_of c.head.role) slots (run_of c) s.id = (
        verdict.run_of s.stands.state,
        shown_now s.id s.stands s.is,
        agrees_like (peer_of c.head.role) slots (run_of f.0) (verdict.run_of s.stands.state) (run_of c) (run_of c) s.head refl s.notes (λ u. refl) on,
      ) in
      (s.id, ap (run_in w.runs) (sym f.2) ∙ s.numbered, now)

  -- ---- no run agrees with two

  of_theory : (c : Happened) (slots : List Slot) (x : Claimed c slots) (id : RunId) → AgreesAt t (peer_of c.head.role) slots (run_of c) id → AgreesAt t (peer_of x.completion.step.after.head.role) slots x.completion.step.after id
  of_theory c slots x id a = (
    a.0,
    a.1,
    subst (λ (r : Role). AgreesOn r slots a.0 x.completion.step.after) (sym (role_like c slots x))
        (agrees_like (peer_of c.head.role) slots a.0 a.0 (run_of c) x.completion.step.after refl x.head (λ u. refl) x.notes a.2),
  )

  some_same : (o : Option Run) (r s : Run) → o ≡ Some r → o ≡ Some s → s ≡ r
  some_same o r s e f = cc

  pub one_completion : (c d : Happened) (slots more : List Slot) (id : RunId) → Among c h.happened → Among d h.happened → Claims w.config c slots → Claims w.config d more
      → AgreesAt t (peer_of c.head.role) slots (run_of c) id → AgreesAt t (peer_of d.head.role) more (run_of d) id → c.run ≡ d.run
  one_completion c d slots more id i j p q a b =
      let x = claimed c slots i p in
      let y = claimed d more j q in
      let k = of_theory c slots x id a in
      let l = of_theory d more y id b in
      let same = world_injective w.config is_lawful (entries w.acts) g.world x.completion y.completion slots more x.claim y.claim id k.0 k.1 k.2
      (subst (λ (r : Run). AgreesOn (peer_of y.completion.step.after.head.role) more r y.completion.step.after) (some_same (current t id) k.0 l.0 k.1 l.1) l.2) in
      let ids : x.id ≡ y.id = sym x.of_run ∙ same.0 ∙ y.of_run in
      one_number w.runs c.run d.run y.id g.runs.apart (x.numbered ∙ ap Some ids) y.numbered

  pub one_partnered : (c d : Happened) (slots more : List Slot) (n : ℕ) → Among c h.happened → Among d h.happened → Claims w.config c slots → Claims w.config d more
      → partner_of h.happened c ≡ Some n → partner_of h.happened d ≡ Some n → c.run ≡ d.run
  one_partnered c d slots more n i j p q e f =
      let a = partner_agrees c slots n p.agreed e in
      let b = partner_agrees d more n q.agreed f in
      let ids : b.0 ≡ a.0 = same_run (run_in w.runs n) b.0 a.0 b.1 a.1 in
      one_completion c d slots more a.0 i j p q a.2 (subst (AgreesAt t (peer_of d.head.role) more (run_of d)) ids b.2)
    where
      same_run : (o : Option RunId) (k l : RunId) → o ≡ Some k → o ≡ Some l → k ≡ l
      same_run o k l u v = cc

  -- ---- each run that agrees is found

  -- the run of a place of the world, as it stands in the history
  record Placed (place : ℕ) (id : RunId) : Type 0 where
    run : Happened
    there : Among run h.happened
    number : run.run ≡ place + 1
    stands : Held
    is : held_in w.acts id ≡ Some stands
    head : run.head ≡ stands.state.head
    notes : (s : Slot) → noted run.notes s ≡ found stands.state.notes s

  placed : (place : ℕ) (id : RunId) → slice_get w.runs place ≡ Some id → Placed place id
  placed place id at =
      let stands = g.runs.there id (slice_among w.runs place id at) in
      let shown = at_shown w.acts 1 w.runs place id stands.0 at stands.1 in
      let x = among_map shown_of h.happened (shown_run (place + 1) stands.0) (subst (Among (shown_run (place + 1) stands.0)) (sym runs_told) shown) in
      record {
        run = x.0;
        there = x.1;
        number = sym (ap (λ (y : Shown). y.run) x.2);
        stands = stands.0;
        is = stands.1;
        head = sym (ap (λ (y : Shown). y.head) x.2);
        notes = λ s. noted_is x.0.notes s ∙ ap (λ (y : Shown). found y.notes s) (sym x.2) ∙ order_found stands.0.state.notes s;
      }

  module _ (c : Happened) (slots : List Slot) (id : RunId) (i : Among c h.happened) (a : AgreesAt (trace (entries w.acts)) (peer_of c.head.role) slots (run_of c) id) where
    head_of_run : IsHead c.head
    head_of_run = let s = stands_so c i in subst IsHead (sym s.head) (head_now s.id s.stands s.is)

    passes : (place : ℕ) (x : Placed place id) → agrees (peer_of c.head.role) slots x.run c ≡ true
    passes place x =
        agreed (peer_of c.head.role) slots x.run c (subst IsHead (sym x.head) (head_now id x.stands x.is)) head_of_run
        (agrees_like (peer_of c.head.role) slots a.0 (run_of x.run) (run_of c) (run_of c) (ap (λ (r : Run). r.head) same_run ∙ sym x.head) refl (λ u. ap (λ (r : Run). r.notes u) same_run ∙ sym (x.notes u)) (λ u. refl) a.2)
      where
        some_is : {r s : Run} → Some r ≡ Some s → r ≡ s
        some_is e = cc

        same_run : a.0 ≡ verdict.run_of x.stands.state
        same_run = some_is (sym a.1 ∙ shown_now id x.stands x.is)

    -- it has stepped, so it has a number
    has_number : agreed_of c.head.mech c.head.role ≡ Some slots → Among id w.runs
    has_number is =
        let plain = plain_slot c.head.mech c.head.role slots is in
        let value = a.2.alike plain.0 plain.1 in
        let stepped = has_stepped w.config (trace (entries w.acts)) is_trace id a.0 plain.0 value.tree a.1 value.left plain.2 in
        g.runs.stepped id (stepped_in w.acts id stepped.0 stepped.1)

    pub agreeing_found : agreed_of c.head.mech c.head.role ≡ Some slots → (n : ℕ) × (partner_of h.happened c ≡ Some n)
    agreeing_found is =
        let place = among_slice w.runs id (has_number is) in
        let x = placed place.0 id place.1 in
        let first = found_first (λ r. agrees (peer_of c.head.role) slots r c) h.happened x.run x.there (passes place.0 x) in
        (first.0, ap (partner_on h.happened c) is ∙ first.1)

    pub agreeing_first : (n m : ℕ) → agreed_of c.head.mech c.head.role ≡ Some slots → partner_of h.happened c ≡ Some n → run_in w.runs m ≡ Some id → n ≤ m
    agreeing_first n zero is e at = absurd cc
    agreeing_first n (suc place) is e at =
        let x = placed place id at in
        let k = among_slice h.happened x.run x.there in
        let least = first_least (λ r. agrees (peer_of c.head.role) slots r c) h.happened 1 numbered_so n k.0 x.run (sym (ap (partner_on h.happened c) is) ∙ e) k.1 (passes place x) in
        let number = x.number in
        omega (arith, least, number)
