-- A delivery, from its parts: the step that a party made of the term, and its entry; and what each of its ends leaves.
use Rattle.std.proofs.Common.{◌≡◌, ◌≢◌, ◌⊎◌, ◌<◌, ◌≤◌, ◌+◌, ◌^◌, ℕ, zero, suc, Bool, true, false, if◌then◌else◌, List, [], ◌∷◌, ◌++◌, length, map, slice_get, Option, Some, None, option_map, Result, Ok, Err, IfErr, IfOk, OnErr, OnOk, nat_lt, refl, sym, ap, subst, ◌∙◌, inl, inr, arith, length-append}
use Rattle.std.specs.Option.{option_to_list}
use Rattle.std.proofs.lemmas.Bool.{ltb-true}
use Rattle.term_values.specs.Trees.{Among, Bytes, Tree, part}
use Rattle.term_values.specs.declared.small.Stamp.{Stamp}
use Rattle.attacker_model.specs.Derivation.{Derivable}
use Rattle.fresh_values.specs.Counts.{Counts}
use Rattle.mech_rows.specs.declared.kinds.Mech.{Mech}
use Rattle.mech_rows.specs.declared.kinds.Mech.TheVariants.{E1, E2, E3, E4, E5, E6, C1, C2, C3, C4, K3, K4, K5, K6, K8, K9}
use Rattle.mech_rows.specs.declared.kinds.Slot.{Slot}
use Rattle.mech_rows.specs.declared.refusal.Refusal.{Refusal}
use Rattle.mech_rows.specs.declared.refusal.Refusal.TheVariants.{Memory, NotDerivable, Unborn, UnknownRun}
use Rattle.mech_rows.specs.Moves.{Move, step_of}
use Rattle.mech_rows.specs.Replies.{needs_stamp}
use Rattle.mech_rows.specs.Rows.{Pass, row_of}
use Rattle.mech_rows.specs.Runs.{Got, nth}
use Rattle.mech_rows.specs.Steps.{symbolic, Takes}
use Rattle.mech_rows.specs.Verdict.{State, Taken, run_of}
use Rattle.seal_symbolic.specs.Symbolic.{body_of, is_check}
use Rattle.agreement_laws.specs.Configs.{Config, names_in, revealed_parts}
use Rattle.agreement_laws.specs.Traces.{RunId, Happening}
use Rattle.node_desk.specs.declared.event.Event.TheVariants.{Commit, Drop}
use Rattle.node_desk.specs.Deliveries.{after_message, open_in, spent_refusal, MayCommit}
use Rattle.node_desk.specs.Desks.{node_at}
use Rattle.node_desk.specs.Refusals.{got_refusal, run_refusal}
use Rattle.world_run.specs.declared.given.Given.{Given}
use Rattle.world_run.specs.declared.scene.Scene.{Scene}
use Rattle.world_run.specs.Born.{HasUnborn}
use Rattle.world_run.specs.Clocks.{clock_in}
use Rattle.world_run.specs.Gives.{HasTaken, IsGiven, IsGiveLeft, IsGiveRefused, verdict_in}
use Rattle.world_run.specs.Kept.{AreBorn, IsDue, IsEntered, IsKept, IsReady, view_of}
use Rattle.world_run.specs.Makings.{HasAnswered, HasBrokenOff, HasMade, IsAnswered, IsBrokenOff, IsMadeOf, IsUnanswered}
use Rattle.world_run.specs.Parties.{PartiesView, SameParties, as_world}
use Rattle.world_run.specs.Turns.{desk_in, did, draws_for, issued_by, keys_at, made_by, moment, next_message, next_stamp_of, stamp_due, stepped, with_issue, HasGrown, HasNumbers, IsPartAtMost, SaysNext}
use Rattle.world_run.specs.Views.{Act, act, held_in, known_in, number_refusal, run_in, sent_in, standing_refusal, WorldView}
use Rattle.world_run.proofs.Acts.{sent_snoc}
use Rattle.world_run.proofs.Legal.{due_is_next}
use Rattle.world_run.proofs.Saying.{draws_few, draws_most, most_few}
use Rattle.world_run.proofs.Unmoved.{got_with, kept_with, moment_with, sent_with, trace_with}
use Rattle.world_run.proofs.Verdicts.{middle_noted}

-- ---- the step is made

module _ (s : Scene) (k : IsKept s) (id : RunId) (numbered : Among id s.runs.items) where
  abbrev w : WorldView
  w = view_of s

  -- the scene after the party's turn
  abbrev pub turned : PartiesView → Counts → Scene
  turned p d = record s { parties = p; draws = d }

  -- the party's turn broke off
  module _ (Due : State → Type 0) (p : PartiesView) (d : Counts) (l : HasBrokenOff Due s.parties p s.draws.place d.place id.party) where
    pub is_broken : IsBrokenOff Due w (view_of (turned p d)) id.party
    is_broken = record { part = l.part; config = l.config; clocks = l.clocks; runs = refl }

    pub kept_broken : length s.runs.items + 1 < s.parties.room → IsKept (turned p d)
    kept_broken room = go l.part
      where
        enough : length s.runs.items ≤ p.room
        enough = let r = l.room in omega (arith, r, room)

        go : IsPartAtMost Due w id.party p.acts d.place → IsKept (turned p d)
        go (inl (e, f)) = kept_with s k id numbered p d None (λ x g. absurd (cc)) l.config e l.clocks (omega (arith, f)) enough
        go (inr (st, due, (inl e, less, more))) = kept_with s k id numbered p d None (λ x f. absurd (cc)) l.config e l.clocks less enough
        go (inr (st, due, (inr e, less, more))) = kept_with s k id numbered p d (stamp_due w id.party st) (due_is_next w id.party st) l.config e l.clocks less enough

  -- nothing has changed
  pub view_stays : (p : PartiesView) (d : Counts) → p ≡ s.parties → d.place ≡ s.draws.place → view_of (turned p d) ≡ w
  view_stays p d e f = λ i. record { config = (e i).config; acts = (e i).acts; clocks = (e i).clocks; draws = f i; runs = s.runs.items }

  module _ (allowed : Mech → Slot → Bytes → Bool) (m : Tree) (step : Move) (p : PartiesView) (d : Counts) (h : HasAnswered allowed s.parties p s.draws.place d.place id m step) where
    abbrev spoken : State
    spoken = after_message step.before h.taken

    view_made : view_of (turned p d) ≡ made_by w id.party spoken
    view_made = λ i. record {
      config = (h.made.leaves i).config;
      acts = (h.made.leaves i).acts;
      clocks = (h.made.leaves i).clocks;
      draws = (h.made.leaves i).draws;
      runs = s.runs.items;
    }

    pub kept_made : length s.runs.items + 1 < s.parties.room → IsKept (turned p d)
    kept_made room =
        kept_with s k id numbered p d (stamp_due w id.party spoken) (due_is_next w id.party spoken)
        (λ i. (h.made.leaves i).config) (λ i. (h.made.leaves i).acts) (λ i. (h.made.leaves i).clocks)
        (let e : d.place ≡ s.draws.place + draws_for spoken = λ i. (h.made.leaves i).draws in omega (arith, e))
        (let r = h.made.room in omega (arith, r, room))

    pub room_made : length s.runs.items + 1 < s.parties.room → length s.runs.items < p.room
    room_made room = let r = h.made.room in omega (arith, r, room)

    says : SaysNext w id.party spoken step
    says = record { is_step = h.answers.says.is_step; issued = h.answers.says.issued; notes = h.answers.says.notes }

    answers : IsAnswered allowed w id m step h.taken
    answers = record {
      current = h.answers.current;
      fits = h.answers.fits;
      not_spent = h.answers.not_spent;
      takes = h.answers.takes;
      opened = h.answers.opened;
      got = h.answers.got;
      says = says;
    }

    module _ (derivable : Derivable s.knowledge.given m) (born : HasUnborn s.draws.place m → ⊥) (few : s.draws.place < 18_446_744_073_709_551_600) where
      known : Derivable (known_in (made_by w id.party spoken)) m
      known = subst (λ (ts : List Tree). Derivable ts m) (k.learnt ∙ ap (λ (ts : List Tree). (map part s.parties.config.own ++ revealed_parts s.parties.config.pairs) ++ ts) (sym (sent_with s.parties.acts id.party (moment w id.party) (stamp_due w id.party spoken)))) derivable

      ready : IsReady (made_by w id.party spoken) id.party step
      ready = record {
        before = s.draws.place;
        state = spoken;
        is_step = says.is_step;
        middle = middle_noted body_of is_check allowed (keys_at w id.party) step m h.taken s.draws.place answers.fits answers.takes says.notes;
        notes = says.notes;
        due = subst (λ (o : Option Tree). IsDue (made_by w id.party spoken) s.draws.place o) (sym answers.takes) (known, born);
        born = subst (λ (t : List Happening). AreBorn s.draws.place t) (sym (trace_with s.parties.acts id.party (moment w id.party) (stamp_due w id.party spoken))) k.genuine.born;
        draws = refl;
        few = let n = draws_few spoken in omega (arith, n, few);
      }

      pub is_made : IsMadeOf allowed w (view_of (turned p d)) id m step
      is_made = record {
        taken = h.taken;
        answers = answers;
        leaves = view_made;
        may = h.made.may;
        ready = subst (λ (v : WorldView). IsReady v id.party step) (sym view_made) ready;
      }

  module _ (allowed : Mech → Slot → Bytes → Bool) (m : Tree) (p : PartiesView) (d : Counts) where
    pub turned_kept : (r : Result Move Refusal) → IfOk r (λ step. HasAnswered allowed s.parties p s.draws.place d.place id m step) → OnErr r (HasBrokenOff (HasTaken allowed (as_world s.parties s.draws.place) id m) s.parties p s.draws.place d.place id.party) → length s.runs.items + 1 < s.parties.room → IsKept (turned p d)
    turned_kept (Ok step) ok left room = kept_made allowed m step p d ok room
    turned_kept (Err e) ok left room = kept_broken (HasTaken allowed w id m) p d left room

    pub turned_ok : (r : Result Move Refusal) → IfOk r (λ step. HasAnswered allowed s.parties p s.draws.place d.place id m step) → Derivable s.knowledge.given m → (HasUnborn s.draws.place m → ⊥) → s.draws.place < 18_446_744_073_709_551_600 → IfOk r (λ step. IsMadeOf allowed w (view_of (turned p d)) id m step)
    turned_ok (Ok step) ok derivable born few = is_made allowed m step p d ok derivable born few
    turned_ok (Err e) ok derivable born few = tt

    pub turned_stays : (r : Result Move Refusal) → IfErr r (λ e. e ≢ Memory → (p ≡ s.parties) × (d.place ≡ s.draws.place)) → IfErr r (λ e. e ≢ Memory → view_of (turned p d) ≡ w)
    turned_stays (Ok step) stays = tt
    turned_stays (Err e) stays = λ other. let both = stays other in view_stays p d both.0 both.1

    pub turned_left : (r : Result Move Refusal) → OnErr r (HasBrokenOff (HasTaken allowed (as_world s.parties s.draws.place) id m) s.parties p s.draws.place d.place id.party) → OnErr r (IsBrokenOff (HasTaken allowed w id m) w (view_of (turned p d)) id.party)
    turned_left (Ok step) left = tt
    turned_left (Err e) left = is_broken (HasTaken allowed w id m) p d left

    pub turned_room : (r : Result Move Refusal) → IfOk r (λ step. HasAnswered allowed s.parties p s.draws.place d.place id m step) → length s.runs.items + 1 < s.parties.room → OnOk r (length s.runs.items < p.room)
    turned_room (Ok step) ok room = room_made allowed m step p d ok room
    turned_room (Err e) ok room = tt

-- ---- the pass of a step

nth_within : (ps : List Pass) (k : ℕ) (p : Pass) → nth ps k ≡ Some p → k < length ps
nth_within [] k p e = absurd (cc)
nth_within (q ∷ ps) zero p e = omega arith
nth_within (q ∷ ps) (suc k) p e = let r = nth_within ps k p e in omega (arith, r)

rows_short : (m : Mech) → nat_lt (length (row_of m)) 255 ≡ true
rows_short E1 = refl
rows_short E2 = refl
rows_short E3 = refl
rows_short E4 = refl
rows_short E5 = refl
rows_short E6 = refl
rows_short C1 = refl
rows_short C2 = refl
rows_short C3 = refl
rows_short C4 = refl
rows_short K3 = refl
rows_short K4 = refl
rows_short K5 = refl
rows_short K6 = refl
rows_short K8 = refl
rows_short K9 = refl

-- a step that a party may enter is of one of few passes
pub few_passes : (w : WorldView) (n : ℕ) (step : Move) → IsReady w n step → step.before.next < 255
few_passes w n step r = go step.taken refl r.is_step.takes
  where
    go : (o : Option Tree) → step.taken ≡ o → Takes symbolic (keys_at w n) (run_of step.before) o (step_of step).middle step.opened step.got → step.before.next < 255
    go None e takes = let z = (r.is_step.acts e).0 in omega (arith, z)
    go (Some t) e fits = let a = nth_within (row_of step.before.head.mech) step.before.next fits.pass fits.at in let b = ltb-true (length (row_of step.before.head.mech)) 255 (rows_short step.before.head.mech) in omega (arith, a, b)

-- ---- a delivery

module _ (allowed : Mech → Slot → Bytes → Bool) (w : WorldView) (run : ℕ) (m : Tree) where
  -- nothing has changed
  pub left_same : (v : WorldView) → v ≡ w → IsGiveLeft allowed w run m v
  left_same v e = inl e

  -- a world has grown by no more than a delivery that ended for want of memory leaves
  pub grown_left : (v : WorldView) → IsGiveLeft allowed w run m v → HasGrown w v
  grown_left v (inl e) = record {
    runs = let f = ap (λ (x : WorldView). length x.runs) e in omega (arith, f);
    messages = let f = ap (λ (x : WorldView). length (sent_in x.acts)) e in omega (arith, f);
    draws = let f = ap (λ (x : WorldView). x.draws) e in omega (arith, f);
  }
  grown_left v (inr l) = record {
    runs = let e = ap length l.runs in omega (arith, e);
    messages = let e = ap length (sent l.part.0) in omega (arith, e);
    draws = let e = l.part.2 in let n = most_few l.state in omega (arith, e, n);
  }
    where
      sent : (v.acts ≡ w.acts) ⊎ (v.acts ≡ (made_by w l.id.party l.state).acts) → sent_in v.acts ≡ sent_in w.acts
      sent (inl e) = ap sent_in e
      sent (inr e) = ap sent_in e ∙ sent_with w.acts l.id.party (moment w l.id.party) (stamp_due w l.id.party l.state)

-- the run answered
pub grown_stepped : (w : WorldView) (id : RunId) (s : State) (step : Move) (v : WorldView) → v ≡ stepped w id s step → HasGrown w v
grown_stepped w id s step v e = record {
  runs = let f = ap (λ (x : WorldView). length x.runs) e in omega (arith, f);
  messages = let f = ap (λ (x : WorldView). length (sent_in x.acts)) e ∙ ap length sent in let g = length-append (sent_in w.acts) (option_to_list step.reply) in let h = one_more step.reply in omega (arith, f, g, h);
  draws = let f = ap (λ (x : WorldView). x.draws) e in let n = draws_few s in omega (arith, f, n);
}
  where
    sent : sent_in (stepped w id s step).acts ≡ sent_in w.acts ++ option_to_list step.reply
    sent = sent_snoc (made_by w id.party s).acts id.party (Commit id.number (moment w id.party) step) ∙ ap (λ (ts : List Tree). ts ++ option_to_list step.reply) (sent_with w.acts id.party (moment w id.party) (stamp_due w id.party s))

    one_more : (o : Option Tree) → length (option_to_list o) ≤ 1
    one_more None = omega arith
    one_more (Some t) = omega arith

module _ (allowed : Mech → Slot → Bytes → Bool) (w : WorldView) (run : ℕ) (m : Tree) where
  -- the term may not be delivered
  pub not_deliverable : (given : List Tree) → given ≡ known_in w → (e : Refusal) → ((Derivable given m → ⊥) × (e ≡ NotDerivable)) ⊎ (Derivable given m × HasUnborn w.draws m × (e ≡ Unborn)) → IsGiveRefused allowed w run m e w
  not_deliverable given is e (inl (not, r)) = inl ((λ d. not (subst (λ (ts : List Tree). Derivable ts m) (sym is) d)), r, refl)
  not_deliverable given is e (inr (d, u, r)) = inr (subst (λ (ts : List Tree). Derivable ts m) is d, inl (u, r, refl))

  module _ (derivable : Derivable (known_in w) m) (born : HasUnborn w.draws m → ⊥) where
    pub unknown : run_in w.runs run ≡ None → IsGiveRefused allowed w run m UnknownRun w
    unknown is = inr (derivable, inr (born, inl (ap (standing_refusal w.acts) is, refl)))

    module _ (id : RunId) (is_run : run_in w.runs run ≡ Some id) where
      pub unanswered : (e : Refusal) (v : WorldView) → v ≡ w → IsUnanswered allowed w id m e → IsGiveRefused allowed w run m e v
      unanswered e v same (inl r) = inr (derivable, inr (born, inl (ap (standing_refusal w.acts) is_run ∙ r, same)))
      unanswered e v same (inr (s, current, inl r)) = inr (derivable, inr (born, inr (id, s, is_run, current, inl (r, same))))
      unanswered e v same (inr (s, current, inr (t, fits, r))) = inr (derivable, inr (born, inr (id, s, is_run, current, inr (t, fits, inl (r, same)))))

      -- the party's turn broke off
      pub left_unmade : (v : WorldView) → IsBrokenOff (HasTaken allowed w id m) w v id.party → IsGiveLeft allowed w run m v
      left_unmade v l = go l.part
        where
          go : IsPartAtMost (HasTaken allowed w id m) w id.party v.acts v.draws → IsGiveLeft allowed w run m v
          go (inl (e, f)) = inl (λ i. record { config = l.config i; acts = e i; clocks = l.clocks i; draws = f i; runs = l.runs i })
          go (inr (s, taken, made)) = inr (record {
            derivable = derivable;
            is_born = born;
            id = id;
            is_run = is_run;
            state = s;
            takes = taken;
            part = made;
            config = l.config;
            clocks = l.clocks;
            runs = l.runs;
          })

      module _ (v : WorldView) (step : Move) (made : IsMadeOf allowed w v id m step) where
        abbrev after_it : State
        after_it = after_message step.before made.taken

        -- its stamps are judged as they were before its own was issued
        judged_so : (r : Option Refusal) → got_refusal (node_at (desk_in v id.party)) (clock_in v id.party) step.got ≡ r → got_refusal (node_at (desk_in w id.party)) (clock_in w id.party) made.taken.got ≡ r
        judged_so r e =
            ap (λ (got : List Got). got_refusal (node_at (desk_in w id.party)) (clock_in w id.party) got) (sym made.answers.got)
            ∙ (sym (got_with w id.party (stamp_due w id.party after_it) step.got)
            ∙ (ap (λ (x : WorldView). got_refusal (node_at (desk_in x id.party)) (clock_in x id.party) step.got) (sym made.leaves) ∙ e))

        pub judged : (e : Refusal) (u : WorldView) → u ≡ v → got_refusal (node_at (desk_in v id.party)) (clock_in v id.party) step.got ≡ Some e → IsGiveRefused allowed w run m e u
        judged e u same r = inr (derivable, inr (born, inr (id, step.before, is_run, made.answers.current, inr (made.taken, made.answers.fits, inr (made.answers.not_spent, judged_so (Some e) r, same ∙ made.leaves)))))

        -- the step was made, and not entered
        pub unentered : (u : WorldView) → u ≡ v → IsGiveLeft allowed w run m u
        unentered u same =
            let e = same ∙ made.leaves in
            let f = ap (λ (x : WorldView). x.draws) e in
            let most = draws_most after_it in
            inr (record {
              derivable = derivable;
              is_born = born;
              id = id;
              is_run = is_run;
              state = after_it;
              takes = (step.before, made.taken, made.answers.current, made.answers.fits, refl);
              part = (inr (λ i. (e i).acts), omega (arith, f), omega (arith, f, most));
              config = λ i. (e i).config;
              clocks = λ i. (e i).clocks;
              runs = λ i. (e i).runs;
            })

        leaves : (u : WorldView) → u ≡ did v id.party (Commit id.number (moment v id.party) step) → u ≡ stepped w id after_it step
        leaves u e =
            e ∙ (ap (λ (x : WorldView). did x id.party (Commit id.number (moment x id.party) step)) made.leaves
            ∙ ap (λ (k : ℕ). did (made_by w id.party after_it) id.party (Commit id.number k step)) (moment_with w id.party (stamp_due w id.party after_it)))

        number_is : next_message v ≡ next_message w
        number_is = ap next_message made.leaves ∙ ap (λ (ts : List Tree). suc (length ts)) (sent_with w.acts id.party (moment w id.party) (stamp_due w id.party after_it))

        pub given : (g : Given) (u : WorldView) → IsEntered v id step g u → IsGiven allowed w run m g u
        given g u e = record {
          derivable = derivable;
          is_born = born;
          id = id;
          is_run = is_run;
          step = step;
          current = made.answers.current;
          taken = made.taken;
          fits = made.answers.fits;
          not_spent = made.answers.not_spent;
          fit = judged_so None e.fit;
          takes = made.answers.takes;
          opened = made.answers.opened;
          got = made.answers.got;
          says = made.answers.says;
          pass = e.pass;
          sent = e.sent ∙ ap (λ (k : ℕ). option_map (λ _. k) step.reply) number_is;
          done = e.done;
          leaves = leaves u e.leaves;
        }

        pub grown_given : (g : Given) (u : WorldView) → IsEntered v id step g u → HasGrown w u
        grown_given g u e = grown_stepped w id after_it step u (leaves u e.leaves)

        module _ (u : WorldView) (r : Result Given Refusal) where
          pub gave_ok : IfOk r (λ g. IsEntered v id step g u) → IfOk r (λ g. IsGiven allowed w run m g u)
          gave_ok ok = go r ok
            where
              go : (x : Result Given Refusal) → IfOk x (λ g. IsEntered v id step g u) → IfOk x (λ g. IsGiven allowed w run m g u)
              go (Ok g) e = given g u e
              go (Err e) f = tt

          pub gave_refused : IfErr r (λ e. e ≢ Memory → got_refusal (node_at (desk_in v id.party)) (clock_in v id.party) step.got ≡ Some e) → OnErr r (u ≡ v) → IfErr r (λ e. e ≢ Memory → IsGiveRefused allowed w run m e u)
          gave_refused refused same = go r refused same
            where
              go : (x : Result Given Refusal) → IfErr x (λ e. e ≢ Memory → got_refusal (node_at (desk_in v id.party)) (clock_in v id.party) step.got ≡ Some e) → OnErr x (u ≡ v) → IfErr x (λ e. e ≢ Memory → IsGiveRefused allowed w run m e u)
              go (Ok g) f e = tt
              go (Err e) f same = λ other. judged e u same (f other)

          pub gave_left : OnErr r (u ≡ v) → r ≡ Err Memory → IsGiveLeft allowed w run m u
          gave_left same is = unentered u (subst (λ (x : Result Given Refusal). OnErr x (u ≡ v)) is same)

          pub gave_grows : IfOk r (λ g. IsEntered v id step g u) → OnErr r (u ≡ v) → HasGrown w u
          gave_grows ok same = go r ok same
            where
              go : (x : Result Given Refusal) → IfOk x (λ g. IsEntered v id step g u) → OnErr x (u ≡ v) → HasGrown w u
              go (Ok g) e f = grown_given g u e
              go (Err e) f same = grown_left allowed w run m u (unentered u same)

-- room for further events changes nothing
pub view_reserved : (s : Scene) (p : PartiesView) → SameParties s.parties p → view_of (record s { parties = p }) ≡ view_of s
view_reserved s p same = λ i. record { config = same.config i; acts = same.acts i; clocks = same.clocks i; draws = s.draws.place; runs = s.runs.items }
