-- Assembled worlds are there: the exchange of the example over a sealing that opens one blob, to one body under one key.
use Rattle.std.proofs.Common.{◌≡◌, ℕ, ◌⊎◌, List, [], ◌∷◌, Bool, true, false, if◌then◌else◌, option_map, refl, sym, ap, subst, ◌∙◌, inl, inr, Option, Some, None, arith}
use Rattle.term_values.specs.Trees.{Among, Bytes, Tree, tag, blob, tuple, stamp, trees, part}
use Rattle.term_values.specs.declared.small.Stamp.{Stamp}
use Rattle.term_values.specs.declared.small.Stamp.TheVariants.{Time}
use Rattle.attacker_model.specs.Derivation.{known}
use Rattle.mech_rows.specs.declared.kinds.Mech.TheVariants.{K3}
use Rattle.mech_rows.specs.declared.kinds.Role.TheVariants.{A, B}
use Rattle.mech_rows.specs.declared.kinds.Slot.{Slot}
use Rattle.mech_rows.specs.declared.kinds.Slot.TheVariants.{Ra, Ta, Fa, X1}
use Rattle.mech_rows.specs.declared.kinds.Kind.TheVariants.{Stamp as a_stamp}
use Rattle.mech_rows.specs.Rows.{kind_of, tag_of}
use Rattle.mech_rows.specs.Runs.{Notes, Opening, Got, Step, Draws}
use Rattle.mech_rows.specs.declared.outcome.Outcome.TheVariants.{Done}
use Rattle.mech_rows.specs.Steps.{Sealer, IsStep}
use Rattle.agreement_laws.specs.Configs.{keys_of, names_in}
use Rattle.agreement_laws.specs.Traces.{IsFresh}
use Rattle.term_values.specs.declared.small.StampKind.TheVariants.{Time as by_time}
use Rattle.replay_store.specs.declared.verdict.Verdict.TheVariants.{Fit}
use Rattle.replay_store.specs.Stamps.{stamp_verdict}
use Rattle.agreement_laws.specs.Replacement.{replaced, replaced_notes, replaced_step}
use Rattle.agreement_laws.specs.Nodes.{Open, Issue, Commit, NeedsCommit, WasIssued, WasUsed}
use Rattle.mech_rows.specs.Rings.{keys_in, Peer}
use Rattle.agreement_laws.specs.Worlds.{Entry, At, party_by, ring_of, node_of, trace}
use Rattle.mech_rows.specs.Rounds.{stands}
use Rattle.agreement_laws.specs.Assembled.{OpensBlobs, IsRingOf, AreRings, IsAssembled, Listed, SealsIdeally, IsNetworkWorld, items_in, look_up}
use Rattle.agreement_laws.proofs.Example.{vals, noted, grows, config, head, three, only_pass, a_0, b_0, a_notes, b_notes, the_key, the_body, sends, stamp_got, opened, x1_first, draws_these, a_opens, b_opens, fresh}

abbrev wire : Bytes
wire = 42 ∷ []

abbrev pub toy : Sealer
toy b k u t = (b ≡ false) × (k ≡ the_key) × (t ≡ the_body) × (u ≡ blob wire)

pub opens_blobs : OpensBlobs toy
opens_blobs b k u t h = (wire, h.3)

abbrev on_wire : Opening
on_wire = record { key = the_key; item = blob wire; body = the_body }

abbrev wired_ticket : Tree
wired_ticket = tuple (trees (tag (tag_of K3 1 0) ∷ blob wire ∷ []))

abbrev wired_sends : Step
wired_sends =
    record { before = a_0; taken = None; middle = noted (X1 ∷ []); after = record { head = head A; next = 1; notes = noted three }; opened = []; got = []; issued = Some (Time 5); sealed = on_wire ∷ []; reply = Some wired_ticket; outcome = Done }

abbrev wired_takes : Step
wired_takes =
    record { before = b_0; taken = Some wired_ticket; middle = noted three; after = record { head = head B; next = 1; notes = noted three }; opened = on_wire ∷ []; got = stamp_got ∷ []; issued = None; sealed = []; reply = None; outcome = Done }

abbrev pub wired : List Entry
wired = At 2 (Commit 1 5 wired_takes) ∷ At 1 (Commit 1 5 wired_sends) ∷ opened

sends_issues : (t : Stamp) (s : Slot) → kind_of s ≡ a_stamp → Draws wired_sends s (stamp t) → Some (Time 5) ≡ Some t
sends_issues t s k d = go (draws_these s (stamp t) (record { is_new = d.is_new; is = d.is }))
  where
    stamp_inj : (x y : Stamp) → stamp x ≡ stamp y → Some y ≡ Some x
    stamp_inj x y e = cc

    go : ((s ≡ Ta) × (stamp t ≡ stamp (Time 5))) ⊎ ((s ≡ Fa) × (stamp t ≡ part (9 ∷ []))) → Some (Time 5) ≡ Some t
    go (inl e) = stamp_inj t (Time 5) e.1
    go (inr e) = let bad : stamp t ≡ part (9 ∷ []) = e.1 in absurd (cc)

wired_sends_is_step : IsStep toy (keys_in (ring_of config 1)) wired_sends
wired_sends_is_step =
    record {
      same_head = refl;
      acts = λ e. (refl, λ f. absurd (cc));
      takes = (refl, refl, refl);
      replies = record {
        pass = only_pass;
        at = refl;
        sent = refl;
        extends = grows (X1 ∷ []) three three x1_first (λ s i. i) (λ s i. inr i);
        shows = record { items = blob wire ∷ []; is = refl; each = ((refl, refl, refl, refl), refl) };
        seals_are = refl;
      };
      moves = refl;
      issues = λ t. (there t, λ d. sends_issues t d.0 d.1 d.2);
      outcome = refl;
    }
  where
    there : (t : Stamp) → Some (Time 5) ≡ Some t → (s : Slot) × (kind_of s ≡ a_stamp) × Draws wired_sends s (stamp t)
    there t e = let f : Time 5 ≡ t = cc in (Ta, refl, record { is_new = refl; is = ap (λ (x : Stamp). Some (stamp x)) f })

none_drawn : (s : Slot) (t : Tree) → Draws wired_takes s t → ⊥
none_drawn s t d = let bad : None ≡ Some t = sym d.is_new ∙ d.is in cc

wired_takes_is_step : IsStep toy (keys_in (ring_of config 2)) wired_takes
wired_takes_is_step =
    record {
      same_head = refl;
      acts = λ e. absurd (cc);
      takes = record {
        pass = only_pass;
        at = refl;
        received = refl;
        extends = grows [] three three (λ s i. elim i [ ]) (λ s i. i) (λ s i. inr i);
        shows = record { items = blob wire ∷ []; is = refl; each = ((refl, refl, refl, refl), refl) };
        opens_are = refl;
        got_is = refl;
      };
      replies = (refl, refl, λ p e. absurd (cc));
      moves = refl;
      issues = λ t. ((λ e. absurd (cc)), λ d. absurd (none_drawn d.0 (stamp t) d.2));
      outcome = refl;
    }

a_commits : NeedsCommit toy (node_of config 1 opened) 1 5 wired_sends
a_commits =
    record {
      later = omega arith;
      is_open = ap (λ (n : Notes). Some (record { run = record { head = head A; next = 0; notes = n }; is_open = true })) a_notes;
      is_step = wired_sends_is_step;
      fit = λ g i. absurd i;
      issued = λ x e. (was_issued x e, not_used x);
    }
  where
    was_issued : (x : Stamp) → Some (Time 5) ≡ Some x → WasIssued x (Issue 5 (Time 5) ∷ Open 1 (head A) [] ∷ [])
    was_issued x e = let f : Time 5 ≡ x = cc in (5, inl (ap (Issue 5) (sym f)))

    not_used : (x : Stamp) → WasUsed x (Issue 5 (Time 5) ∷ Open 1 (head A) [] ∷ []) → ⊥
    not_used x u = go u.run u.now u.step u.there
      where
        go : (r n : ℕ) (s : Step) → Among (Commit r n s) (Issue 5 (Time 5) ∷ Open 1 (head A) [] ∷ []) → ⊥
        go r n s (inl e) = cc
        go r n s (inr (inl e)) = cc
        go r n s (inr (inr i)) = i

b_commits : NeedsCommit toy (node_of config 2 (At 1 (Commit 1 5 wired_sends) ∷ opened)) 1 5 wired_takes
b_commits =
    record {
      later = omega arith;
      is_open = ap (λ (n : Notes). Some (record { run = record { head = head B; next = 0; notes = n }; is_open = true })) b_notes;
      is_step = wired_takes_is_step;
      fit = λ g i. fits g i;
      issued = λ x e. absurd (cc);
    }
  where
    fits : (g : Got) → Among g (stamp_got ∷ []) → stamp_verdict 5000 5 [] by_time g.sender g.tagged g.stamp ≡ Fit
    fits g (inl e) = subst (λ (k : Got). stamp_verdict 5000 5 [] by_time k.sender k.tagged k.stamp ≡ Fit) (sym e) refl
    fits g (inr i) = absurd i

pub wired_is_assembled : IsAssembled toy config (ring_of config) wired
wired_is_assembled = (((((tt, inl refl, a_opens), inr (inl refl), b_opens), inl refl, record { later = omega arith; is_next = refl }), inl refl, a_commits), inr (inl refl), b_commits)

pub are_rings : AreRings config (ring_of config)
are_rings n i = by_name n i
  where
    one_peer : (n m : ℕ) → Among m (names_in config) → false ≡ (party_by config.parties m).is_server → keys_of config n m ≡ Some (7 ∷ []) → (p : Peer) → Among p (record { name = m; is_server = false; part = keys_of config n m } ∷ []) → (Among p.name (names_in config) × (p.is_server ≡ (party_by config.parties p.name).is_server)) × ((x : Bytes) → p.part ≡ Some x → keys_of config n p.name ≡ Some x)
    one_peer n m there kind key p (inl f) = subst (λ (q : Peer). (Among q.name (names_in config) × (q.is_server ≡ (party_by config.parties q.name).is_server)) × ((x : Bytes) → q.part ≡ Some x → keys_of config n q.name ≡ Some x)) (sym f) ((there, kind), λ x e. e)
    one_peer n m there kind key p (inr j) = absurd j

    by_name : (n : ℕ) → Among {X = ℕ} n (1 ∷ 2 ∷ []) → IsRingOf config n (ring_of config n)
    by_name n (inl e) = subst (λ (m : ℕ). IsRingOf config m (ring_of config m)) (sym e) (record { me = refl; is_server = refl; kind = refl; window = refl; peers = λ p i. (one_peer 1 2 (inr (inl refl)) refl refl p i).0; parts = λ p x i. (one_peer 1 2 (inr (inl refl)) refl refl p i).1 x })
    by_name n (inr (inl e)) = subst (λ (m : ℕ). IsRingOf config m (ring_of config m)) (sym e) (record { me = refl; is_server = refl; kind = refl; window = refl; peers = λ p i. (one_peer 2 1 (inl refl) refl refl p i).0; parts = λ p x i. (one_peer 2 1 (inl refl) refl refl p i).1 x })
    by_name n (inr (inr j)) = absurd j

pub no_two : SealsIdeally (items_in wired)
no_two s t i j e = (ap (λ (x : Listed). x.opening.key) (one s i ∙ sym (one t j)), ap (λ (x : Listed). x.opening.body) (one s i ∙ sym (one t j)))
  where
    one : (x : Listed) → Among x (items_in wired) → x ≡ record { is_check = false; opening = on_wire }
    one x (inl f) = f
    one x (inr (inl f)) = f
    one x (inr (inr k)) = absurd k

-- after the replacement the steps are those of the example
notes_stay : (f : Bytes → Option Tree) (ss : List Slot) → replaced_notes f (noted ss) ≡ noted ss
notes_stay f ss = λ i s. at s (stands s ss) i
  where
    val : (s : Slot) → replaced f (vals s) ≡ vals s
    val Ra = refl
    val X1 = refl
    val _ = refl

    at : (s : Slot) (b : Bool) → option_map (replaced f) (if b then Some (vals s) else None) ≡ (if b then Some (vals s) else None)
    at s true = ap Some (val s)
    at s false = refl

sends_replaced : replaced_step (look_up (items_in wired)) wired_sends ≡ sends
sends_replaced = λ i. record {
  before = record { head = head A; next = 0; notes = notes_stay (look_up (items_in wired)) (X1 ∷ []) i };
  taken = None;
  middle = notes_stay (look_up (items_in wired)) (X1 ∷ []) i;
  after = record { head = head A; next = 1; notes = notes_stay (look_up (items_in wired)) three i };
  opened = [];
  got = [];
  issued = Some (Time 5);
  sealed = sends.sealed;
  reply = sends.reply;
  outcome = Done;
}

pub wired_is_network : IsNetworkWorld (look_up (items_in wired)) config wired
wired_is_network = (((((tt, tt), tt), tt), (tt, subst (IsFresh config (trace opened)) (sym sends_replaced) fresh, λ t e. absurd (cc))), (known (inl refl), record { in_config = λ s t k d o. none s t d; in_earlier = λ s t e k d i o. none s t d; in_taken = λ s t k d o. none s t d; apart = λ s u t k d e. absurd (none s t d) }, λ t e. absurd (cc)))
  where
    none : (s : Slot) (t : Tree) → Draws (replaced_step (look_up (items_in wired)) wired_takes) s t → ⊥
    none s t d = let bad : None ≡ Some t = sym d.is_new ∙ d.is in cc
