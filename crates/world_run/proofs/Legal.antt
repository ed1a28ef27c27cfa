-- Each event of a genuine world's party has what it needs, and leaves a genuine world.
use Rattle.std.proofs.Common.{◌≡◌, ◌⊎◌, ◌==◌, ◌≤◌, ◌&&◌, ℕ, suc, max, Bool, true, false, if◌then◌else◌, List, [], ◌∷◌, ◌++◌, reverse, Option, Some, None, refl, sym, ap, subst, ◌∙◌, inl, inr, arith, eqb-true, eq-eqb}
use Rattle.std.specs.List.{list_any}
use Rattle.term_values.specs.Trees.{Among, Bytes, Tree, name, stamp, nonce, part, text, tag, blob, tuple, seal, check, Occurs}
use Rattle.term_values.specs.declared.small.Stamp.{Stamp}
use Rattle.term_values.proofs.Lists.{among_left, some_among, any_among}
use Rattle.replay_store.specs.Stamps.{next_stamp}
use Rattle.mech_rows.specs.declared.kinds.Slot.{Slot}
use Rattle.mech_rows.specs.declared.refusal.Refusal.{Refusal}
use Rattle.mech_rows.specs.declared.refusal.Refusal.TheVariants.{UnknownParty}
use Rattle.mech_rows.specs.Heads.{Head, me, IsHead}
use Rattle.mech_rows.specs.Openings.{Texts, is_text, opened_run, opened_state, sends_slot, text_for}
use Rattle.mech_rows.specs.Replies.{needs_stamp}
use Rattle.mech_rows.specs.Rings.{Ring}
use Rattle.mech_rows.specs.Rows.{kind_of, row_of}
use Rattle.mech_rows.specs.Runs.{Run}
use Rattle.mech_rows.specs.Steps.{symbolic}
use Rattle.mech_rows.specs.Verdict.{State}
use Rattle.agreement_laws.specs.Configs.{Config, AllDiffer, names_in}
use Rattle.agreement_laws.specs.Nodes.{Log, Node, Needs, NeedsDrop, NeedsIssue, NeedsOpen, Standing, opens_in}
use Rattle.agreement_laws.specs.Nodes as node
use Rattle.agreement_laws.specs.Traces.{RunId, Happening, Opens, current, OccursIn}
use Rattle.agreement_laws.specs.Worlds.{Entry, At, IsWorld, HappensAt, NetworkAllows, ring_of, run_id, trace}
use Rattle.agreement_laws.specs.Worlds as world
use Rattle.agreement_laws.proofs.Reduction.{world_trace}
use Rattle.node_desk.specs.declared.event.Event.{Event}
use Rattle.node_desk.specs.declared.event.Event.TheVariants.{Open, Issue, Commit, Drop, Restart}
use Rattle.node_desk.specs.Desks.{node_at}
use Rattle.node_desk.specs.Events.{event_of, log_of}
use Rattle.node_desk.specs.Helds.{Held, no_longer, held_at, held_by}
use Rattle.node_desk.specs.Openings.{opening_refusal}
use Rattle.node_desk.proofs.Logs.{node_log, node_ring, runs_are, standing}
use Rattle.node_desk.proofs.Mays.{may-open}
use Rattle.world_run.specs.Born.{BeginsLater, IsUnborn}
use Rattle.world_run.specs.Kept.{AreBorn, AreRuns, HasStepped, IsGenuine, IsStepOf}
use Rattle.world_run.specs.Opens.{enlisted, id_of, next_run, open_refusal, opened_by}
use Rattle.world_run.specs.Turns.{desk_in, did, has_name, moment, next_stamp_of, stamp_due, with_issue}
use Rattle.world_run.specs.Views.{Act, act, acts_of, entries, held_in, WorldView}
use Rattle.world_run.proofs.Decided.{lawful}
use Rattle.world_run.proofs.Acts.{entries_snoc, node_is, current_is, run_shown, held_own, held_other}

-- ---- values that look drawn

later_less : (lead n k : ℕ) (bytes : Bytes) → n ≤ k → BeginsLater lead k bytes → BeginsLater lead n bytes
later_less lead n k [] le h = h
later_less lead n k (b ∷ bs) le h = let x = h.1 in (h.0, omega (arith, le, x))

pub unborn_less : (n k : ℕ) (v : Tree) → n ≤ k → IsUnborn k v → IsUnborn n v
unborn_less n k (nonce b) le u = later_less _ n k b le u
unborn_less n k (part p) le u = later_less _ n k p le u
unborn_less n k (name m) le u = u
unborn_less n k (stamp m) le u = u
unborn_less n k (text m) le u = u
unborn_less n k (tag m) le u = u
unborn_less n k (blob m) le u = u
unborn_less n k (tuple m) le u = u
unborn_less n k (seal key t) le u = u
unborn_less n k (check key t) le u = u

pub born_more : (n k : ℕ) (h : List Happening) → n ≤ k → AreBorn n h → AreBorn k h
born_more n k h le b e v i o u = b e v i o (unborn_less n k v le u)

pub born_and : (n : ℕ) (e : Happening) (h : List Happening) → AreBorn n h → ((v : Tree) → OccursIn v e → IsUnborn n v → ⊥) → AreBorn n (e ∷ h)
born_and n e h b own x v (inl is) o u = own v (subst (OccursIn v) is o) u
born_and n e h b own x v (inr i) o u = b x v i o u

-- ---- runs

still : (e : Event) (past : List Event) (m : ℕ) (h : Held) → held_by past m ≡ Some h → (k : Held) × (held_by (e ∷ past) m ≡ Some k)
still (Open run head texts) past m h is = go (run == m)
  where
    go : (b : Bool) → (k : Held) × ((if b then Some (record { state = opened_state head texts; is_open = true }) else held_by past m) ≡ Some k)
    go true = (_, refl)
    go false = (h, is)
still (Issue now x) past m h is = (h, is)
still (Commit run now step) past m h is = go (run == m)
  where
    go : (b : Bool) → (k : Held) × ((if b then Some (record { state = step.after; is_open = node.is_going step.outcome }) else held_by past m) ≡ Some k)
    go true = (_, refl)
    go false = (h, is)
still (Drop run) past m h is = go (run == m)
  where
    go : (b : Bool) → (k : Held) × ((if b then no_longer (held_by past m) else held_by past m) ≡ Some k)
    go true = (_, ap no_longer is)
    go false = (h, is)
still (Restart now last more) past m h is = (_, ap no_longer is)

-- a run that is there stays there
pub held_more : (acts : List Act) (n : ℕ) (e : Event) (id : RunId) (h : Held) → held_in acts id ≡ Some h → (k : Held) × (held_in (acts ++ act n e ∷ []) id ≡ Some k)
held_more acts n e id h is = go (n == id.party) refl
  where
    go : (b : Bool) → (n == id.party) ≡ b → (k : Held) × (held_in (acts ++ act n e ∷ []) id ≡ Some k)
    go true f =
        let s : id.party ≡ n = sym (eqb-true n id.party f) in
        let k = still e (reverse (acts_of id.party acts)) id.number h is in
        subst (λ (m : ℕ). (x : Held) × (held_in (acts ++ act m e ∷ []) id ≡ Some x)) s (k.0, held_own acts id.party id.number e ∙ k.1)
    go false f = (h, held_other acts n e id f ∙ is)

pub among_and : {X : Type 0} (xs : List X) (x y : X) → Among y (xs ++ x ∷ []) → Among y xs ⊎ (y ≡ x)
among_and [] x y (inl e) = inr e
among_and [] x y (inr i) = absurd i
among_and (z ∷ xs) x y (inl e) = inl (inl e)
among_and (z ∷ xs) x y (inr i) = elim (among_and xs x y i) [ inl j ↦ inl (inr j) | inr e ↦ inr e ]

-- a run that the event steps has a number
abbrev pub StepsNumbered : List RunId → ℕ → Event → Type 0
StepsNumbered ids n e = (m : ℕ) → IsStepOf e m → Among (record { party = n; number = m }) ids

stepped_more : (acts : List Act) (ids : List RunId) (n : ℕ) (e : Event) → StepsNumbered ids n e → ((id : RunId) → HasStepped acts id → Among id ids) → (id : RunId) → HasStepped (acts ++ act n e ∷ []) id → Among id ids
stepped_more acts ids n e own before id (a, i, p, q) = elim (among_and acts (act n e) a i) [ inl j ↦ before id (a, j, p, q) | inr x ↦ here x ]
  where
    here : a ≡ act n e → Among id ids
    here x =
        let party : n ≡ id.party = sym (ap (λ (b : Act). b.party) x) ∙ p in
        let same : ◌≡◌ {A = RunId} (record { party = n; number = id.number }) id = λ k. record { party = party k; number = id.number } in
        subst (λ (y : RunId). Among y ids) same (own id.number (subst (λ (b : Act). IsStepOf b.event id.number) x q))

pub runs_more : (c : Config) (acts : List Act) (ids : List RunId) (n : ℕ) (e : Event) → StepsNumbered ids n e → AreRuns c acts ids → AreRuns c (acts ++ act n e ∷ []) ids
runs_more c acts ids n e own r = record { there = λ id i. let t = r.there id i in held_more acts n e id t.0 t.1; declared = r.declared; apart = r.apart; stepped = stepped_more acts ids n e own r.stepped }

-- ---- one more event

pub genuine_and : (w : WorldView) → IsGenuine w → (n : ℕ) (e : Event) (k : ℕ) → StepsNumbered w.runs n e → HappensAt w.config (entries w.acts) n (event_of e) → AreBorn k (trace (At n (event_of e) ∷ entries w.acts)) → IsGenuine (record w { acts = w.acts ++ act n e ∷ []; draws = k })
genuine_and w g n e k own happens born = record {
  conditions = g.conditions;
  world = subst (IsWorld w.config) (sym (entries_snoc w.acts n e)) (g.world, happens);
  born = subst (λ (h : List Entry). AreBorn k (trace h)) (sym (entries_snoc w.acts n e)) born;
  runs = runs_more w.config w.acts w.runs n e own g.runs;
}

pub needs_here : (w : WorldView) (n : ℕ) (e : node.Event) → Needs symbolic (node_at (desk_in w n)) e → Needs symbolic (world.node_of w.config n (entries w.acts)) e
needs_here w n e needs = subst (λ (x : Node). Needs symbolic x e) (sym (node_is w n)) needs

pub genuine_more : (w : WorldView) → IsGenuine w → (k : ℕ) → w.draws ≤ k → IsGenuine (record w { draws = k })
genuine_more w g k le = record { conditions = g.conditions; world = g.world; born = born_more w.draws k (trace (entries w.acts)) le g.born; runs = g.runs }

-- a stamp is issued

pub needs_issue : (w : WorldView) (n : ℕ) (x : Stamp) → next_stamp_of w n ≡ Some x → NeedsIssue (node_at (desk_in w n)) (moment w n) x
needs_issue w n x next = record {
  later = omega arith;
  is_next = subst (λ (r : Ring). next_stamp r.kind (node_at (desk_in w n)).last (moment w n) ≡ Some x) (sym (node_ring (ring_of w.config n) 0 (acts_of n w.acts))) next;
}

pub genuine_issue : (w : WorldView) → IsGenuine w → (n : ℕ) → Among n (names_in w.config) → (x : Stamp) → next_stamp_of w n ≡ Some x → (k : ℕ) → w.draws ≤ k → IsGenuine (record w { acts = w.acts ++ act n (Issue (moment w n) x) ∷ []; draws = k })
genuine_issue w g n declared x next k le =
    genuine_and w g n (Issue (moment w n) x) k (λ m i. absurd i)
    (record { declared = declared; needs = needs_here w n (node.Issue (moment w n) x) (needs_issue w n x next); network = tt })
    (born_more w.draws k (trace (entries w.acts)) le g.born)

pub genuine_issued : (w : WorldView) → IsGenuine w → (n : ℕ) → Among n (names_in w.config) → (issued : Option Stamp) → ((x : Stamp) → issued ≡ Some x → next_stamp_of w n ≡ Some x) → (k : ℕ) → w.draws ≤ k → IsGenuine (record w { acts = with_issue w.acts n (moment w n) issued; draws = k })
genuine_issued w g n declared None next k le = genuine_more w g k le
genuine_issued w g n declared (Some x) next k le = genuine_issue w g n declared x (next x refl) k le

pub due_is_next : (w : WorldView) (n : ℕ) (s : State) (x : Stamp) → stamp_due w n s ≡ Some x → next_stamp_of w n ≡ Some x
due_is_next w n s x e = go (needs_stamp s) e
  where
    go : (b : Bool) → (if b then next_stamp_of w n else None) ≡ Some x → next_stamp_of w n ≡ Some x
    go true f = f
    go false f = absurd (cc)

-- a run is opened

pub record MayOpenIn (w : WorldView) (h : Head) : Type 0 where
  pub declared : Among (me h) (names_in w.config)
  pub may : opening_refusal (node_at (desk_in w (me h))) h ≡ None

pub has_name_is : (w : WorldView) (n : ℕ) → has_name w n ≡ true → Among n (names_in w.config)
has_name_is w n e = let r = some_among (λ m. m == n) (names_in w.config) e in subst (λ (m : ℕ). Among m (names_in w.config)) (eqb-true r.0 n r.2) r.1

pub is_has_name : (w : WorldView) (n : ℕ) → Among n (names_in w.config) → has_name w n ≡ true
is_has_name w n i = any_among (λ m. m == n) (names_in w.config) n i (eq-eqb n n refl)

pub may_open_in : (w : WorldView) (h : Head) → open_refusal w h ≡ None → MayOpenIn w h
may_open_in w h e = go (has_name w (me h)) refl e
  where
    go : (b : Bool) → has_name w (me h) ≡ b → (if b then opening_refusal (node_at (desk_in w (me h))) h else Some UnknownParty) ≡ None → MayOpenIn w h
    go true f none = record { declared = has_name_is w (me h) f; may = none }
    go false f none = absurd (cc)

pub needs_open : (w : WorldView) (h : Head) (texts : Texts) → IsHead h → MayOpenIn w h → NeedsOpen (node_at (desk_in w (me h))) (next_run w (me h)) h
needs_open w h texts is may = record {
  number = ap (λ (l : Log). suc (opens_in l)) (sym (node_log (ring_of w.config (me h)) 0 (acts_of (me h) w.acts)));
  is_head = is;
  own = ap (λ (r : Ring). r.me) (sym (node_ring (ring_of w.config (me h)) 0 (acts_of (me h) w.acts)));
  may = may-open (node_at (desk_in w (me h))) h may.may;
}

-- a run shows texts alone when it is opened
opened_shows : (n : ℕ) (id : RunId) (h : Head) (texts : Texts) (v : Tree) → OccursIn v (Opens id (opened_run h texts)) → IsUnborn n v → ⊥
opened_shows n id h texts v (s, t, e, o) u = go (is_text (kind_of s) && sends_slot h.role s (row_of h.mech)) e
  where
    of_text : (b : Bytes) → t ≡ text b → ⊥
    of_text b is = let x : v ≡ text b = subst (Occurs v) is o in let y : IsUnborn n (text b) = subst (IsUnborn n) x u in y

    go : (b : Bool) → (if b then Some (text (text_for texts s)) else None) ≡ Some t → ⊥
    go true f = of_text (text_for texts s) (cc)
    go false f = cc

pub genuine_open : (w : WorldView) → IsGenuine w → (h : Head) (texts : Texts) → IsHead h → open_refusal w h ≡ None → IsGenuine (opened_by w h texts)
genuine_open w g h texts is none =
    let may : MayOpenIn w h = may_open_in w h none in
    genuine_and w g (me h) (Open (next_run w (me h)) h texts) w.draws (λ m i. absurd i)
    (record { declared = may.declared; needs = needs_here w (me h) (node.Open (next_run w (me h)) h texts) (needs_open w h texts is may); network = tt })
    (born_and w.draws (Opens (id_of w h) (opened_run h texts)) (trace (entries w.acts)) g.born (opened_shows w.draws (id_of w h) h texts))

-- the run that is opened was not there
shown_none : (o : Option Held) → run_shown o ≡ None → o ≡ None
shown_none None e = refl
shown_none (Some h) e = absurd (cc)

pub not_there : (w : WorldView) → IsGenuine w → (h : Head) (texts : Texts) → IsHead h → open_refusal w h ≡ None → held_in w.acts (id_of w h) ≡ None
not_there w g h texts is none =
    let v : IsGenuine (opened_by w h texts) = genuine_open w g h texts is none in
    let all : IsWorld w.config (At (me h) (node.Open (next_run w (me h)) h texts) ∷ entries w.acts) = subst (IsWorld w.config) (entries_snoc w.acts (me h) (Open (next_run w (me h)) h texts)) v.world in
    let t = world_trace w.config (lawful w.config g.conditions) (At (me h) (node.Open (next_run w (me h)) h texts) ∷ entries w.acts) all in
    shown_none (held_in w.acts (id_of w h)) (sym (current_is w (id_of w h)) ∙ t.1.0)

pub all_differ_and : {X : Type 0} (xs : List X) (x : X) → AllDiffer xs → (Among x xs → ⊥) → AllDiffer (xs ++ x ∷ [])
all_differ_and [] x d new = ((λ i. i), tt)
all_differ_and {X = X} (y ∷ xs) x d new = (after xs d.0 (λ e. new (inl (sym e))), all_differ_and xs x d.1 (λ i. new (inr i)))
  where
    after : (ys : List X) → (Among y ys → ⊥) → (y ≡ x → ⊥) → Among y (ys ++ x ∷ []) → ⊥
    after [] not other (inl e) = other e
    after [] not other (inr i) = i
    after (z ∷ ys) not other (inl e) = not (inl e)
    after (z ∷ ys) not other (inr i) = after ys (λ j. not (inr j)) other i

opened_there : (w : WorldView) (h : Head) (texts : Texts) → (k : Held) × (held_in (opened_by w h texts).acts (id_of w h) ≡ Some k)
opened_there w h texts = (record { state = opened_state h texts; is_open = true }, held_own w.acts (me h) (next_run w (me h)) (Open (next_run w (me h)) h texts) ∙ own (next_run w (me h)))
  where
    own : (m : ℕ) → held_by (Open m h texts ∷ reverse (acts_of (me h) w.acts)) m ≡ Some (record { state = opened_state h texts; is_open = true })
    own m = ap (λ (b : Bool). if b then Some (record { state = opened_state h texts; is_open = true }) else held_by (reverse (acts_of (me h) w.acts)) m) (eq-eqb m m refl)

pub genuine_list : (w : WorldView) → IsGenuine w → (h : Head) (texts : Texts) → IsHead h → open_refusal w h ≡ None → IsGenuine (enlisted w h texts)
genuine_list w g h texts is none =
    let v : IsGenuine (opened_by w h texts) = genuine_open w g h texts is none in
    record {
      conditions = v.conditions;
      world = v.world;
      born = v.born;
      runs = record {
        there = λ id i. elim (among_and w.runs (id_of w h) id i) [ inl j ↦ v.runs.there id j | inr e ↦ subst (λ (x : RunId). (k : Held) × (held_in (opened_by w h texts).acts x ≡ Some k)) (sym e) (opened_there w h texts) ];
        declared = λ id i. elim (among_and w.runs (id_of w h) id i) [ inl j ↦ g.runs.declared id j | inr e ↦ subst (λ (x : RunId). Among x.party (names_in w.config)) (sym e) (may_open_in w h none).declared ];
        apart = all_differ_and w.runs (id_of w h) g.runs.apart (λ i. let t = g.runs.there (id_of w h) i in let no : None ≡ Some t.0 = sym (not_there w g h texts is none) ∙ t.1 in absurd (cc));
        stepped = λ id x. among_left w.runs (id_of w h ∷ []) id (v.runs.stepped id x);
      };
    }

-- a run is dropped

pub genuine_drop : (w : WorldView) → IsGenuine w → (id : RunId) → Among id.party (names_in w.config) → (s : State) → held_in w.acts id ≡ Some (record { state = s; is_open = true }) → IsGenuine (did w id.party (Drop id.number))
genuine_drop w g id declared s is =
    genuine_and w g id.party (Drop id.number) w.draws (λ m i. absurd i)
    (record { declared = declared; needs = needs_here w id.party (node.Drop id.number) (record { last = _; is_open = runs_are (ring_of w.config id.party) 0 (acts_of id.party w.acts) id.number ∙ ap standing is }); network = tt })
    g.born
