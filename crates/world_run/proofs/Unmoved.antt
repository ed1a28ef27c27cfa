-- What a party doesn't change by the issue of a stamp: the runs, what was sent, what happened, and how stamps are judged.
use Rattle.std.proofs.Common.{◌≡◌, ◌==◌, ◌<◌, ◌≤◌, ◌+◌, ℕ, suc, max, Bool, true, false, if◌then◌else◌, List, [], ◌∷◌, ◌++◌, map, length, Option, Some, None, refl, sym, ap, subst, ◌∙◌, inl, inr, arith, eqb-true, append-nil}
use Rattle.std.specs.Prelude.{count_by}
use Rattle.std.proofs.lemmas.List.Sums.{count_by-le-length}
use Rattle.term_values.specs.Trees.{Among, Tree, part}
use Rattle.term_values.specs.declared.small.Stamp.{Stamp}
use Rattle.fresh_values.specs.Counts.{Counts}
use Rattle.mech_rows.specs.declared.refusal.Refusal.{Refusal}
use Rattle.mech_rows.specs.Runs.{Got}
use Rattle.agreement_laws.specs.Configs.{revealed_parts}
use Rattle.agreement_laws.specs.Nodes.{Node, changed, new_node, node_after}
use Rattle.agreement_laws.specs.Nodes as node
use Rattle.agreement_laws.specs.Traces.{RunId}
use Rattle.agreement_laws.specs.Worlds.{ring_of, trace}
use Rattle.node_desk.specs.declared.event.Event.{Event}
use Rattle.node_desk.specs.declared.event.Event.TheVariants.{Issue}
use Rattle.node_desk.specs.Desks.{node_at, node_of}
use Rattle.node_desk.specs.Helds.{Held}
use Rattle.node_desk.specs.Refusals.{got_refusal, stamps_refusal}
use Rattle.node_desk.proofs.Logs.{node_of-snoc}
use Rattle.world_run.specs.declared.scene.Scene.{Scene}
use Rattle.world_run.specs.Clocks.{clock_in}
use Rattle.world_run.specs.Kept.{IsGenuine, IsKept, is_running, running_in, view_of}
use Rattle.world_run.specs.Parties.{PartiesView}
use Rattle.world_run.specs.Turns.{desk_in, issued_by, moment, next_stamp_of, with_issue}
use Rattle.world_run.specs.Views.{Act, act, acts_of, entries, held_in, known_in, revealed_names, sent_in, shown_as, shown_from, Shown, told_by, told_of, WorldView}
use Rattle.world_run.proofs.Acts.{acts_of_own, entries_snoc, held_other, held_own, sent_snoc}
use Rattle.world_run.proofs.Legal.{genuine_issued}

-- ---- what is shown

held_issue : (acts : List Act) (n now : ℕ) (x : Stamp) (id : RunId) → held_in (acts ++ act n (Issue now x) ∷ []) id ≡ held_in acts id
held_issue acts n now x id = go (n == id.party) refl
  where
    go : (b : Bool) → (n == id.party) ≡ b → held_in (acts ++ act n (Issue now x) ∷ []) id ≡ held_in acts id
    go true f = subst (λ (m : ℕ). held_in (acts ++ act m (Issue now x) ∷ []) id ≡ held_in acts id) (sym (eqb-true n id.party f)) (held_own acts id.party id.number (Issue now x))
    go false f = held_other acts n (Issue now x) id f

pub held_with : (acts : List Act) (n now : ℕ) (issued : Option Stamp) (id : RunId) → held_in (with_issue acts n now issued) id ≡ held_in acts id
held_with acts n now None id = refl
held_with acts n now (Some x) id = held_issue acts n now x id

pub sent_with : (acts : List Act) (n now : ℕ) (issued : Option Stamp) → sent_in (with_issue acts n now issued) ≡ sent_in acts
sent_with acts n now None = refl
sent_with acts n now (Some x) = sent_snoc acts n (Issue now x) ∙ append-nil (sent_in acts)

pub trace_with : (acts : List Act) (n now : ℕ) (issued : Option Stamp) → trace (entries (with_issue acts n now issued)) ≡ trace (entries acts)
trace_with acts n now None = refl
trace_with acts n now (Some x) = ap trace (entries_snoc acts n (Issue now x))

-- runs that are shown alike
pub shown_alike : (old new : List Act) → ((k : ℕ) (id : RunId) → shown_as k (held_in new id) ≡ shown_as k (held_in old id)) → (k : ℕ) (ids : List RunId) → shown_from new k ids ≡ shown_from old k ids
shown_alike old new same k [] = refl
shown_alike old new same k (id ∷ ids) = λ i. same k id i ++ shown_alike old new same (suc k) ids i

pub shown_with : (acts : List Act) (n now : ℕ) (issued : Option Stamp) (k : ℕ) (ids : List RunId) → shown_from (with_issue acts n now issued) k ids ≡ shown_from acts k ids
shown_with acts n now issued = shown_alike acts (with_issue acts n now issued) (λ k id. ap (shown_as k) (held_with acts n now issued id))

-- ---- how stamps are judged

again : (a c : ℕ) → max (max a c) c ≡ max a c
again a c = omega arith

node_with : (w : WorldView) (n : ℕ) (x : Stamp) → node_at (desk_in (issued_by w n (Some x)) n) ≡ changed (node_at (desk_in w n)) (node.Issue (moment w n) x)
node_with w n x = ap (λ (es : List Event). node_of (ring_of w.config n) 0 es) (acts_of_own n w.acts (Issue (moment w n) x)) ∙ node_of-snoc (ring_of w.config n) 0 (acts_of n w.acts) (Issue (moment w n) x)

pub moment_with : (w : WorldView) (n : ℕ) (issued : Option Stamp) → moment (issued_by w n issued) n ≡ moment w n
moment_with w n None = refl
moment_with w n (Some x) = ap (λ (y : Node). max y.now (clock_in w n)) (node_with w n x) ∙ again (node_at (desk_in w n)).now (clock_in w n)

pub got_with : (w : WorldView) (n : ℕ) (issued : Option Stamp) (got : List Got) → got_refusal (node_at (desk_in (issued_by w n issued) n)) (clock_in (issued_by w n issued) n) got ≡ got_refusal (node_at (desk_in w n)) (clock_in w n) got
got_with w n None got = refl
got_with w n (Some x) got =
    ap (λ (y : Node). got_refusal y (clock_in w n) got) (node_with w n x)
    ∙ ap (λ (k : ℕ). stamps_refusal (node_at (desk_in w n)).ring.window k (node_at (desk_in w n)).accepted (node_at (desk_in w n)).ring.kind got) (again (node_at (desk_in w n)).now (clock_in w n))

-- ---- what is kept

-- the runs that are open are no more than there are
pub running_less : (w : WorldView) → running_in w ≤ length w.runs
running_less w = count_by-le-length (λ (id : RunId). is_running (held_in w.acts id)) w.runs

module _ (s : Scene) (k : IsKept s) where
  -- the world is as it was, but for the room
  pub kept_same : (p : PartiesView) → p.config ≡ s.parties.config → p.acts ≡ s.parties.acts → p.clocks ≡ s.parties.clocks → s.parties.room ≤ p.room → IsKept (record s { parties = p })
  kept_same p config acts clocks more =
      let same : view_of (record s { parties = p }) ≡ view_of s = λ i. record { config = config i; acts = acts i; clocks = clocks i; draws = s.draws.place; runs = s.runs.items } in
      record {
        genuine = subst IsGenuine (sym same) k.genuine;
        learnt = subst (λ (v : WorldView). s.knowledge.given ≡ known_in v) (sym same) k.learnt;
        told = subst (λ (v : WorldView). told_by s.history ≡ told_of v) (sym same) k.told;
        room = let r : running_in (view_of (record s { parties = p })) ≤ s.parties.room = subst (λ (v : WorldView). running_in v ≤ s.parties.room) (sym same) k.room in omega (arith, r, more);
      }

  module _ (id : RunId) (numbered : Among id s.runs.items) where
    abbrev w : WorldView
    w = view_of s

    told_same : (d : ℕ) (issued : Option Stamp) → told_of w ≡ told_of (record w { acts = with_issue s.parties.acts id.party (moment w id.party) issued; draws = d })
    told_same d issued = λ i. record {
      revealed = revealed_names s.parties.config.pairs;
      happened = sym (shown_with s.parties.acts id.party (moment w id.party) issued 1 s.runs.items) i;
      sent = sym (sent_with s.parties.acts id.party (moment w id.party) issued) i;
      given = [];
    }

    -- a party issued a stamp, or none, and values were drawn
    pub kept_with : (p : PartiesView) (d : Counts) (issued : Option Stamp) → ((x : Stamp) → issued ≡ Some x → next_stamp_of w id.party ≡ Some x) → p.config ≡ s.parties.config → p.acts ≡ with_issue s.parties.acts id.party (moment w id.party) issued → p.clocks ≡ s.parties.clocks → s.draws.place ≤ d.place → length s.runs.items ≤ p.room
        → IsKept (record s { parties = p; draws = d })
    kept_with p d issued next config acts clocks less room =
        let same : view_of (record s { parties = p; draws = d }) ≡ record w { acts = with_issue s.parties.acts id.party (moment w id.party) issued; draws = d.place } = λ i. record { config = config i; acts = acts i; clocks = clocks i; draws = d.place; runs = s.runs.items } in
        record {
          genuine = subst IsGenuine (sym same) (genuine_issued w k.genuine id.party (k.genuine.runs.declared id numbered) issued next d.place less);
          learnt = subst (λ (v : WorldView). s.knowledge.given ≡ known_in v) (sym same) (k.learnt ∙ ap (λ (ts : List Tree). (map part s.parties.config.own ++ revealed_parts s.parties.config.pairs) ++ ts) (sym (sent_with s.parties.acts id.party (moment w id.party) issued)));
          told = subst (λ (v : WorldView). told_by s.history ≡ told_of v) (sym same) (k.told ∙ told_same d.place issued);
          room = let r = running_less (view_of (record s { parties = p; draws = d })) in omega (arith, r, room);
        }
