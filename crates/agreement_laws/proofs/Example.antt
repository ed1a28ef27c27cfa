-- Worlds are there: one exchange of K3, in which B's completion has a claim and A's has a secret; then a key is given away and B restarts.
use Rattle.std.proofs.Common.{◌≡◌, ◌≢◌, ◌≤◌, ◌<◌, ℕ, ◌⊎◌, List, [], ◌∷◌, Bool, true, false, if◌then◌else◌, refl, sym, ap, subst, ◌∙◌, inl, inr, Some, None, arith}
use Rattle.term_values.specs.Trees.{Among, Bytes, Tree, stamp, nonce, part, text, Occurs, seal}
use Rattle.term_values.specs.declared.small.Key.{Key}
use Rattle.term_values.specs.declared.small.Key.TheVariants.{One}
use Rattle.term_values.specs.declared.small.Stamp.{Stamp}
use Rattle.term_values.specs.declared.small.Stamp.TheVariants.{Time}
use Rattle.attacker_model.specs.Derivation.{known}
use Rattle.mech_rows.specs.declared.kinds.Mech.TheVariants.{K3}
use Rattle.mech_rows.specs.declared.kinds.Role.{Role}
use Rattle.mech_rows.specs.declared.kinds.Role.TheVariants.{A, B, P}
use Rattle.mech_rows.specs.declared.kinds.Slot.{Slot}
use Rattle.mech_rows.specs.declared.kinds.Slot.TheVariants.{Ra, Rb, Ra2, Ta, Tb, Tp, Fa, Fb, X1, Fwd}
use Rattle.mech_rows.specs.declared.kinds.Kind.TheVariants.{Stamp as a_stamp}
use Rattle.mech_rows.specs.Rows.{kind_of, Pass, Cover, pass_from, S, tag_of}
use Rattle.mech_rows.specs.declared.kinds.Under.TheVariants.{Pair}
use Rattle.mech_rows.specs.Heads.{Head, name_of, IsHead}
use Rattle.mech_rows.specs.Runs.{Notes, Run, HasKind, Extends, Opening, Got, Step, Draws, made, body}
use Rattle.mech_rows.specs.declared.outcome.Outcome.TheVariants.{Done}
use Rattle.mech_rows.specs.Steps.{symbolic, IsStep}
use Rattle.agreement_laws.specs.Configs.{Party, LongTerm, Config, IsLawful, keys_of, IsGoodLong, IsGoodHead}
use Rattle.agreement_laws.specs.Traces.{Happening, Opens, OccursInConfig, OccursIn, is_drawn_kind, IsFresh}
use Rattle.term_values.specs.declared.small.StampKind.TheVariants.{Time as by_time}
use Rattle.replay_store.specs.declared.verdict.Verdict.TheVariants.{Fit}
use Rattle.replay_store.specs.Stamps.{stamp_verdict}
use Rattle.agreement_laws.specs.Nodes.{Event, Open, Issue, Commit, Restart, Node, MayOpen, NeedsOpen, NeedsCommit, WasIssued, WasUsed, knows, serves, now_of, open_among, opens_in}
use Rattle.mech_rows.specs.Openings.{opening_notes, opened_run}
use Rattle.mech_rows.specs.Rings.{keys_in}
use Rattle.agreement_laws.specs.Worlds.{Entry, At, Reveal, ring_of, node_of, run_id, trace, IsWorld}
use Rattle.mech_rows.specs.Rounds.{stands}
use Rattle.agreement_laws.specs.Examples.{ShowsClaim, ShowsSecret, ShowsLosses}
use Rattle.agreement_laws.specs.Sound.{Completion, HasClaim, HasSecret}
use Rattle.mech_rows.specs.Says.{message}
use Rattle.agreement_laws.proofs.Own.{stands_among, among_stands}

-- a value for each slot
abbrev pub vals : Slot → Tree
vals Ra = nonce (1 ∷ [])
vals Rb = nonce (2 ∷ [])
vals Ra2 = nonce (3 ∷ [])
vals Ta = stamp (Time 5)
vals Tb = stamp (Time 6)
vals Tp = stamp (Time 7)
vals Fa = part (9 ∷ [])
vals Fb = part (8 ∷ [])
vals _ = text []

kind_is : (s : Slot) → HasKind (kind_of s) (vals s)
kind_is Ra = (_, refl)
kind_is Rb = (_, refl)
kind_is Ra2 = (_, refl)
kind_is Ta = (_, refl)
kind_is Tb = (_, refl)
kind_is Tp = (_, refl)
kind_is Fa = (_, refl)
kind_is Fb = (_, refl)
kind_is Fwd = omega arith
kind_is _ = (_, refl)

abbrev pub noted : List Slot → Notes
noted ss s = if stands s ss then Some (vals s) else None

is_there : (b : Bool) (s : Slot) (t : Tree) → (if b then Some (vals s) else None) ≡ Some t → (b ≡ true) × (t ≡ vals s)
is_there true s t e = (refl, cc)
is_there false s t e = absurd (cc)

in_notes : (ss : List Slot) (s : Slot) (t : Tree) → noted ss s ≡ Some t → Among s ss × (t ≡ vals s)
in_notes ss s t e = let r = is_there (stands s ss) s t e in (stands_among s ss r.0, r.1)

to_notes : (ss : List Slot) (s : Slot) → Among s ss → noted ss s ≡ Some (vals s)
to_notes ss s i = ap (λ (b : Bool). if b then Some (vals s) else None) (among_stands s ss i)

pub grows : (old new slots : List Slot) → ((s : Slot) → Among s old → Among s new) → ((s : Slot) → Among s slots → Among s new) → ((s : Slot) → Among s new → Among s old ⊎ Among s slots) → Extends (noted old) slots (noted new)
grows old new slots f g k =
    record {
      kept = λ s t e. let i = in_notes old s t e in to_notes new s (f s i.0) ∙ ap Some (sym i.1);
      noted = λ s i. (vals s, to_notes new s (g s i));
      only = λ s t e. back s t (in_notes new s t e);
      kinds = λ s t i e. subst (HasKind (kind_of s)) (sym (in_notes new s t e).1) (kind_is s);
    }
  where
    back : (s : Slot) (t : Tree) → Among s new × (t ≡ vals s) → (noted old s ≡ Some t) ⊎ Among s slots
    back s t (i, e) = elim (k s i) [ inl j ↦ inl (to_notes old s j ∙ ap Some (sym e)) | inr j ↦ inr j ]

abbrev open_few : Node → Type 0
open_few node = open_among node.runs (opens_in node.log) < 1024

abbrev opens_few : Node → Type 0
opens_few node = opens_in node.log < 4_294_967_295

abbrev pub pair : LongTerm
pair = record { x = 1; y = 2; part = 7 ∷ []; revealed = false }

abbrev pub party : ℕ → Party
party n = record { name = n; is_server = false; kind = by_time; window = 5000 }

abbrev pub config : Config
config = record { parties = party 1 ∷ party 2 ∷ []; pairs = pair ∷ []; own = [] }

one_is_two : (x y : ℕ) → x ≡ y → x ≡ 1 → y ≡ 2 → ⊥
one_is_two x y e f g = omega arith

differ : (x y : ℕ) → x ≡ 1 → y ≡ 2 → x ≢ y
differ x y f g e = one_is_two x y e f g

pub lawful : IsLawful config
lawful =
    record {
      names_differ = (first, ((λ i. i), tt));
      few = omega arith;
      windows = λ p i. window p i;
      declared = λ l i. declared l i;
      one_part = λ l m i j e. same l m i j;
      apart = λ l m i j e. same l m i j;
      own_apart = λ l i j. j;
    }
  where
    first : Among {X = ℕ} 1 (2 ∷ []) → ⊥
    first (inl e) = one_is_two 1 2 e refl refl
    first (inr i) = i

    window : (p : Party) → Among p (party 1 ∷ party 2 ∷ []) → p.window ≤ 600_000
    window p (inl e) = subst (λ (q : Party). q.window ≤ 600_000) (sym e) (omega arith)
    window p (inr (inl e)) = subst (λ (q : Party). q.window ≤ 600_000) (sym e) (omega arith)
    window p (inr (inr i)) = absurd i

    declared : (l : LongTerm) → Among l (pair ∷ []) → Among {X = ℕ} l.x (1 ∷ 2 ∷ []) × Among {X = ℕ} l.y (1 ∷ 2 ∷ []) × (l.x ≢ l.y)
    declared l (inl e) = subst (λ (m : LongTerm). Among {X = ℕ} m.x (1 ∷ 2 ∷ []) × Among {X = ℕ} m.y (1 ∷ 2 ∷ []) × (m.x ≢ m.y)) (sym e) (inl refl, inr (inl refl), differ 1 2 refl refl)
    declared l (inr i) = absurd i

    same : (l m : LongTerm) → Among l (pair ∷ []) → Among m (pair ∷ []) → l ≡ m
    same l m (inl e) (inl f) = e ∙ sym f
    same l m (inr i) j = elim i [ ]
    same l m (inl e) (inr j) = elim j [ ]

abbrev pub head : Role → Head
head r = record { mech = K3; role = r; a = 1; b = 2; p = None }

abbrev pub three : List Slot
three = Ta ∷ Fa ∷ X1 ∷ []

abbrev pub only_cover : Cover
only_cover = S K3 1 1 (Pair A B) three

abbrev pub only_pass : Pass
only_pass = pass_from A B [] (only_cover ∷ [])

abbrev pub a_0 : Run
a_0 = record { head = head A; next = 0; notes = noted (X1 ∷ []) }

abbrev pub b_0 : Run
b_0 = record { head = head B; next = 0; notes = noted [] }

pub a_notes : opening_notes (head A) [] ≡ noted (X1 ∷ [])
a_notes = λ i s. at s i
  where
    at : (s : Slot) → opening_notes (head A) [] s ≡ noted (X1 ∷ []) s
    at X1 = refl
    at Ra = refl
    at _ = refl

pub b_notes : opening_notes (head B) [] ≡ noted []
b_notes = λ i s. at s i
  where
    at : (s : Slot) → opening_notes (head B) [] s ≡ noted [] s
    at X1 = refl
    at Ra = refl
    at _ = refl

abbrev pub the_key : Key
the_key = One (7 ∷ [])

abbrev pub the_body : Tree
the_body = body (head A) (noted three) only_cover

abbrev pub opening : Opening
opening = record { key = the_key; item = seal the_key the_body; body = the_body }

abbrev pub ticket : Tree
ticket = message (keys_of config) (head A) (noted three) made 0 only_pass

abbrev pub sends : Step
sends =
    record {
      before = a_0;
      taken = None;
      middle = noted (X1 ∷ []);
      after = record { head = head A; next = 1; notes = noted three };
      opened = [];
      got = [];
      issued = Some (Time 5);
      sealed = opening ∷ [];
      reply = Some ticket;
      outcome = Done;
    }

abbrev pub stamp_got : Got
stamp_got = record { slot = Ta; sender = 1; tagged = tag_of K3 1 1; stamp = Time 5 }

abbrev pub takes : Step
takes =
    record {
      before = b_0;
      taken = Some ticket;
      middle = noted three;
      after = record { head = head B; next = 1; notes = noted three };
      opened = opening ∷ [];
      got = stamp_got ∷ [];
      issued = None;
      sealed = [];
      reply = None;
      outcome = Done;
    }

abbrev pub opened : List Entry
opened = At 1 (Issue 5 (Time 5)) ∷ At 2 (Open 1 (head B) []) ∷ At 1 (Open 1 (head A) []) ∷ []

abbrev pub exchange : List Entry
exchange = At 2 (Commit 1 5 takes) ∷ At 1 (Commit 1 5 sends) ∷ opened

abbrev pub afterwards : List Entry
afterwards = At 2 (Restart 9 0 []) ∷ Reveal (run_id 2 1) ∷ exchange

pub x1_first : (s : Slot) → Among s (X1 ∷ []) → Among s three
x1_first s (inl e) = inr (inr (inl e))
x1_first s (inr i) = elim i [ ]

-- B draws nothing
none_drawn : (s : Slot) (t : Tree) → Draws takes s t → ⊥
none_drawn s t d = let bad : None ≡ Some t = sym d.is_new ∙ d.is in cc

-- A draws Fa alone, and issues Ta
pub draws_these : (s : Slot) (t : Tree) → Draws sends s t → ((s ≡ Ta) × (t ≡ stamp (Time 5))) ⊎ ((s ≡ Fa) × (t ≡ part (9 ∷ [])))
draws_these s t d = go (in_notes three s t d.is)
  where
    go : Among s three × (t ≡ vals s) → ((s ≡ Ta) × (t ≡ stamp (Time 5))) ⊎ ((s ≡ Fa) × (t ≡ part (9 ∷ [])))
    go (inl e, f) = inl (e, f ∙ ap vals e)
    go (inr (inl e), f) = inr (e, f ∙ ap vals e)
    go (inr (inr (inl e)), f) = let bad = sym d.is_new ∙ to_notes (X1 ∷ []) s (inl e) in absurd (cc)
    go (inr (inr (inr i)), f) = elim i [ ]

sends_is_step : IsStep symbolic (keys_in (ring_of config 1)) sends
sends_is_step =
    record {
      same_head = refl;
      acts = λ e. (refl, λ f. absurd (cc));
      takes = (refl, refl, refl);
      replies = record {
        pass = only_pass;
        at = refl;
        sent = refl;
        extends = grows (X1 ∷ []) three three x1_first (λ s i. i) (λ s i. inr i);
        shows = record { items = seal the_key the_body ∷ []; is = refl; each = (refl, refl) };
        seals_are = refl;
      };
      moves = refl;
      issues = λ t. (there t, λ d. back t d.0 d.1 d.2);
      outcome = refl;
    }
  where
    there : (t : Stamp) → Some (Time 5) ≡ Some t → (s : Slot) × (kind_of s ≡ a_stamp) × Draws sends s (stamp t)
    there t e = let f : Time 5 ≡ t = cc in (Ta, refl, record { is_new = refl; is = ap (λ (x : Stamp). Some (stamp x)) f })

    back : (t : Stamp) (s : Slot) → kind_of s ≡ a_stamp → Draws sends s (stamp t) → Some (Time 5) ≡ Some t
    back t s k d = go (draws_these s (stamp t) d)
      where
        stamp_inj : (x y : Stamp) → stamp x ≡ stamp y → Some y ≡ Some x
        stamp_inj x y e = cc

        go : ((s ≡ Ta) × (stamp t ≡ stamp (Time 5))) ⊎ ((s ≡ Fa) × (stamp t ≡ part (9 ∷ []))) → Some (Time 5) ≡ Some t
        go (inl e) = stamp_inj t (Time 5) e.1
        go (inr e) = let bad : stamp t ≡ part (9 ∷ []) = e.1 in absurd (cc)

takes_is_step : IsStep symbolic (keys_in (ring_of config 2)) takes
takes_is_step =
    record {
      same_head = refl;
      acts = λ e. absurd (cc);
      takes = record {
        pass = only_pass;
        at = refl;
        received = refl;
        extends = grows [] three three (λ s i. elim i [ ]) (λ s i. i) (λ s i. inr i);
        shows = record { items = seal the_key the_body ∷ []; is = refl; each = (refl, refl) };
        opens_are = refl;
        got_is = refl;
      };
      replies = (refl, refl, λ p e. absurd (cc));
      moves = refl;
      issues = λ t. ((λ e. absurd (cc)), λ d. absurd (none_drawn d.0 (stamp t) d.2));
      outcome = refl;
    }

is_head : (r : Role) → (r ≡ P → ⊥) → IsHead (head r)
is_head A not_p = (refl, tt)
is_head B not_p = (refl, tt)
is_head P not_p = absurd (not_p refl)

may_open : (node : Node) (r : Role) → ((x : Role) → (x ≡ P → ⊥) → knows node.ring (name_of (head r) x) ≡ true) → (serves node.ring 1 ≡ false) → (serves node.ring 2 ≡ false) → keys_in node.ring 1 2 ≡ Some (7 ∷ []) → open_few node → opens_few node → MayOpen node (head r)
may_open node r names_known one two key few many =
    record {
      known = λ x f. names_known x (λ e. false_true (f e));
      parties = (one, two);
      server = λ e. absurd (false_true e);
      peers = differ 1 2 refl refl;
      keyed = λ x y i u. keyed x y i;
      few_open = few;
      few_opened = many;
    }
  where
    false_true : false ≡ true → ⊥
    false_true e = cc

    keyed : (x y : Role) → Among {X = Role × Role} (x, y) ((A, B) ∷ []) → (p : Bytes) × (keys_in node.ring (name_of (head r) x) (name_of (head r) y) ≡ Some p)
    keyed x y (inl e) = subst (λ (q : Role × Role). (p : Bytes) × (keys_in node.ring (name_of (head r) q.0) (name_of (head r) q.1) ≡ Some p)) (sym e) (7 ∷ [], key)
    keyed x y (inr i) = elim i [ ]

not_a : A ≡ P → ⊥
not_a e = cc

not_b : B ≡ P → ⊥
not_b e = cc

pub a_opens : NeedsOpen (node_of config 1 []) 1 (head A)
a_opens = record { number = refl; is_head = is_head A not_a; own = refl; may = may_open (node_of config 1 []) A names_known refl refl refl (omega arith) (omega arith) }
  where
    names_known : (x : Role) → (x ≡ P → ⊥) → knows (ring_of config 1) (name_of (head A) x) ≡ true
    names_known A f = refl
    names_known B f = refl
    names_known P f = absurd (f refl)

pub b_opens : NeedsOpen (node_of config 2 (At 1 (Open 1 (head A) []) ∷ [])) 1 (head B)
b_opens = record { number = refl; is_head = is_head B not_b; own = refl; may = may_open (node_of config 2 (At 1 (Open 1 (head A) []) ∷ [])) B names_known refl refl refl (omega arith) (omega arith) }
  where
    names_known : (x : Role) → (x ≡ P → ⊥) → knows (ring_of config 2) (name_of (head B) x) ≡ true
    names_known A f = refl
    names_known B f = refl
    names_known P f = absurd (f refl)

a_commits : NeedsCommit symbolic (node_of config 1 opened) 1 5 sends
a_commits =
    record {
      later = omega arith;
      is_open = ap (λ (n : Notes). Some (record { run = record { head = head A; next = 0; notes = n }; is_open = true })) a_notes;
      is_step = sends_is_step;
      fit = λ g i. absurd i;
      issued = λ x e. (was_issued x e, not_used x);
    }
  where
    was_issued : (x : Stamp) → Some (Time 5) ≡ Some x → WasIssued x (Issue 5 (Time 5) ∷ Open 1 (head A) [] ∷ [])
    was_issued x e = let f : Time 5 ≡ x = cc in (5, inl (ap (Issue 5) (sym f)))

    not_used : (x : Stamp) → WasUsed x (Issue 5 (Time 5) ∷ Open 1 (head A) [] ∷ []) → ⊥
    not_used x u = go u.run u.now u.step u.there
      where
        go : (r n : ℕ) (s : Step) → Among (Commit r n s) (Issue 5 (Time 5) ∷ Open 1 (head A) [] ∷ []) → ⊥
        go r n s (inl e) = cc
        go r n s (inr (inl e)) = cc
        go r n s (inr (inr i)) = i

b_commits : NeedsCommit symbolic (node_of config 2 (At 1 (Commit 1 5 sends) ∷ opened)) 1 5 takes
b_commits =
    record {
      later = omega arith;
      is_open = ap (λ (n : Notes). Some (record { run = record { head = head B; next = 0; notes = n }; is_open = true })) b_notes;
      is_step = takes_is_step;
      fit = λ g i. fits g i;
      issued = λ x e. absurd (cc);
    }
  where
    fits : (g : Got) → Among g (stamp_got ∷ []) → stamp_verdict 5000 5 [] by_time g.sender g.tagged g.stamp ≡ Fit
    fits g (inl e) = subst (λ (k : Got). stamp_verdict 5000 5 [] by_time k.sender k.tagged k.stamp ≡ Fit) (sym e) refl
    fits g (inr i) = absurd i

pub fresh : IsFresh config (trace opened) sends
fresh =
    record {
      in_config = λ s t k d o. config_free s t k (draws_these s t d) o;
      in_earlier = λ s t e k d i o. event_free s t k (draws_these s t d) e i o;
      in_taken = λ s t k d o. o;
      apart = λ s u t k d e. one s u t k (draws_these s t d) (draws_these u t e);
    }
  where
    stamp_not_drawn : (s : Slot) → is_drawn_kind (kind_of s) ≡ true → s ≡ Ta → ⊥
    stamp_not_drawn s k e = let f : is_drawn_kind (kind_of s) ≡ false = ap (λ (u : Slot). is_drawn_kind (kind_of u)) e in cc

    config_free : (s : Slot) (t : Tree) → is_drawn_kind (kind_of s) ≡ true → ((s ≡ Ta) × (t ≡ stamp (Time 5))) ⊎ ((s ≡ Fa) × (t ≡ part (9 ∷ []))) → OccursInConfig t config → ⊥
    config_free s t k (inl e) o = stamp_not_drawn s k e.0
    config_free s t k (inr e) (inl o) = o.1
    config_free s t k (inr e) (inr (l, inl f, g)) = let bad : part (9 ∷ []) ≡ part (7 ∷ []) = sym e.1 ∙ (g ∙ ap (λ (m : LongTerm). part m.part) f) in cc
    config_free s t k (inr e) (inr (l, inr i, g)) = i

    event_free : (s : Slot) (t : Tree) → is_drawn_kind (kind_of s) ≡ true → ((s ≡ Ta) × (t ≡ stamp (Time 5))) ⊎ ((s ≡ Fa) × (t ≡ part (9 ∷ []))) → (e : Happening) → Among e (trace opened) → OccursIn t e → ⊥
    event_free s t k (inl f) e i o = stamp_not_drawn s k f.0
    event_free s t k (inr f) e (inl i) o = let x : OccursIn t (Opens (run_id 2 1) (opened_run (head B) [])) = subst (OccursIn t) i o in (in_notes [] x.0 x.1 (sym (ap (λ (n : Notes). n x.0) b_notes) ∙ x.2)).0
    event_free s t k (inr f) e (inr (inl i)) o = only_x1 (subst (OccursIn t) i o)
      where
        only_x1 : OccursIn t (Opens (run_id 1 1) (opened_run (head A) [])) → ⊥
        only_x1 (u, v, is, o) = go (in_notes (X1 ∷ []) u v (sym (ap (λ (n : Notes). n u) a_notes) ∙ is))
          where
            go : Among u (X1 ∷ []) × (v ≡ vals u) → ⊥
            go (inl g, j) = let p : part (9 ∷ []) ≡ text [] = sym f.1 ∙ subst (Occurs t) (j ∙ ap vals g) o in cc
            go (inr g, j) = g
    event_free s t k (inr f) e (inr (inr i)) o = i

    one : (s u : Slot) (t : Tree) → is_drawn_kind (kind_of s) ≡ true → ((s ≡ Ta) × (t ≡ stamp (Time 5))) ⊎ ((s ≡ Fa) × (t ≡ part (9 ∷ []))) → ((u ≡ Ta) × (t ≡ stamp (Time 5))) ⊎ ((u ≡ Fa) × (t ≡ part (9 ∷ []))) → s ≡ u
    one s u t k (inl e) f = absurd (stamp_not_drawn s k e.0)
    one s u t k (inr e) (inr f) = e.0 ∙ sym f.0
    one s u t k (inr e) (inl f) = let bad : part (9 ∷ []) ≡ stamp (Time 5) = sym e.1 ∙ f.1 in absurd (cc)

pub exchange_is_world : IsWorld config exchange
exchange_is_world = (
  (
    (
      ((tt, record { declared = inl refl; needs = a_opens; network = tt }), record { declared = inr (inl refl); needs = b_opens; network = tt }),
      record { declared = inl refl; needs = record { later = omega arith; is_next = refl }; network = tt },
    ),
    record { declared = inl refl; needs = a_commits; network = (tt, fresh) },
  ),
  record {
    declared = inr (inl refl);
    needs = b_commits;
    network = (known (inl refl), record { in_config = λ s t k d o. none_drawn s t d; in_earlier = λ s t e k d i o. none_drawn s t d; in_taken = λ s t k d o. none_drawn s t d; apart = λ s u t k d e. absurd (none_drawn s t d) });
  },
)

pub afterwards_is_world : IsWorld config afterwards
afterwards_is_world = (
  (exchange_is_world, record { run = takes.after; runs = refl; done = refl; key = One (9 ∷ []); is_key = refl }),
  record { declared = inr (inl refl); needs = record { later = λ e n i f. earlier e n i f; no_less = omega arith }; network = tt },
)
  where
    earlier : (e : Event) (n : ℕ) → Among e (Commit 1 5 takes ∷ Open 1 (head B) [] ∷ []) → now_of e ≡ Some n → n ≤ 9
    earlier e n (inl is) f = let g : Some 5 ≡ Some n = sym (ap now_of is) ∙ f in five n (cc)
      where
        five : (m : ℕ) → 5 ≡ m → m ≤ 9
        five m h = omega (arith, h)
    earlier e n (inr (inl is)) f = let g : None ≡ Some n = sym (ap now_of is) ∙ f in absurd (cc)
    earlier e n (inr (inr i)) f = absurd i

good : (r : Role) → IsGoodHead config (head r)
good r x y (inl e) = subst (λ (q : Role × Role). (p : Bytes) × (keys_of config (name_of (head r) q.0) (name_of (head r) q.1) ≡ Some p) × IsGoodLong config p) (sym e) (7 ∷ [], refl, record { pair = pair; there = inl refl; hidden = refl; is = refl })
good r x y (inr i) = elim i [ ]

-- B's completion, after its key was given away and it restarted
abbrev pub b_done : Completion (trace afterwards)
b_done = record { id = run_id 2 1; step = takes; before = trace (At 1 (Commit 1 5 sends) ∷ opened); moment = inr (inl refl); done = refl }

pub b_claims : HasClaim config (trace afterwards) b_done three
b_claims = record { claimed = refl; good = good B; kept = λ t. absurd (cc) }

-- A's completion, while the key is not given away
abbrev pub a_done : Completion (trace exchange)
a_done = record { id = run_id 1 1; step = sends; before = trace opened; moment = inr (inl refl); done = refl }

pub a_secret : HasSecret config (trace exchange) a_done (One (9 ∷ []))
a_secret = record { is_key = refl; good = good A; kept = λ p i j. j }

pub losses_of_b : ShowsLosses K3 B
losses_of_b =
    record {
      shown = record { config = config; entries = afterwards; lawful = lawful; world = afterwards_is_world; completion = b_done; mech = refl; role = refl; slots = three; claim = b_claims };
      moment = exchange;
      later = At 2 (Restart 9 0 []) ∷ Reveal (run_id 2 1) ∷ [];
      split = refl;
      completed = refl;
      revealed = inr (inl refl);
      restart = Restart 9 0 [];
      is_restart = tt;
      restarted = inl refl;
    }

pub secret_of_a : ShowsSecret K3 A
secret_of_a = record { config = config; entries = exchange; lawful = lawful; world = exchange_is_world; completion = a_done; mech = refl; role = refl; key = One (9 ∷ []); secret = a_secret }
