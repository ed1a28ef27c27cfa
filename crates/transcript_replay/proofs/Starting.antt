-- The first event line prints the same whether or not an event line has come.
use Rattle.std.proofs.Common.{◌≡◌, inl, inr, ℕ, true, false, List, [], ◌∷◌, ◌+◌, Option, Ok, sym, ap, subst, ◌∙◌}
use Rattle.std.specs.Io.KnownBytes.{Appends}
use Rattle.std.proofs.KnownBytes.{Appends-nil}
use Rattle.term_values.specs.Trees.{Tree}
use Rattle.text_hooks.specs.declared.rule.Rule.{Rule}
use Rattle.script_text.specs.declared.line.Line.{Line}
use Rattle.script_text.specs.declared.line.Line.TheVariants as line
use Rattle.script_text.proofs.LineTexts.{one_line_is}
use Rattle.agreement_laws.specs.Configs.{Config}
use Rattle.world_run.specs.Views.{WorldView, sent_in}
use Rattle.transcript_replay.specs.declared.reason.Reason.{Reason}
use Rattle.transcript_replay.specs.declared.reason.Reason.TheVariants as reason
use Rattle.transcript_replay.specs.Ends.{HeardEnds}
use Rattle.transcript_replay.specs.Players.{Player, beginning, fresh, nobody, set_up, started}
use Rattle.transcript_replay.specs.Runs.{Does, End, Whole, Front, Goes, IsBad, LineFront, Runs, Stops}
use Rattle.transcript_replay.specs.Said.{Says, is_event, is_setting}
use Rattle.transcript_replay.proofs.Steps.{Ended, SoFar, line_next, so_far_end, so_far_start}

-- a text says one thing
pub one_said : (sent : List Tree) (text : List ℕ) (l m : Line) → Says sent text l → Says sent text m → l ≡ m
one_said sent text l m x y = x.3 ∙ (one_line_is sent text x.0 y.0 x.1 y.1).0 ∙ sym y.3

event_no_setting : (l : Line) → is_event l ≡ true → is_setting l ≡ true → ⊥
event_no_setting (line.Clock name ms) e f = cc
event_no_setting (line.Open head texts) e f = cc
event_no_setting (line.Give run term) e f = cc
event_no_setting (line.Drop run) e f = cc
event_no_setting (line.Party name kind window) e f = cc
event_no_setting (line.Pair a b part revealed) e f = cc
event_no_setting (line.Own part) e f = cc
event_no_setting (line.Allow rule) e f = cc
event_no_setting line.Empty e f = cc

module _ (w : WorldView) (rules : List Rule) where
  -- no event line has come yet
  abbrev before : Player
  before = record { world = w; rules = rules; begun = false }

  does_before : (l : Line) (q : Player) (said : List ℕ) → is_event l ≡ true → Does (started w rules) l q said → Does before l q said
  does_before (line.Clock name ms) q said e x = x
  does_before (line.Open head texts) q said e x = x
  does_before (line.Give run term) q said e x = x
  does_before (line.Drop run) q said e x = x
  does_before (line.Party name kind window) q said e x = absurd cc
  does_before (line.Pair a b part revealed) q said e x = absurd cc
  does_before (line.Own part) q said e x = absurd cc
  does_before (line.Allow rule) q said e x = absurd cc
  does_before line.Empty q said e x = absurd cc

  module _ (text : List ℕ) (event : Line) (says : Says (sent_in w.acts) text event) (is : is_event event ≡ true) where
    goes_before : (q : Player) (said : List ℕ) → Goes (started w rules) text q said → Goes before text q said
    goes_before q said x =
        let same : x.0 ≡ event = one_said (sent_in w.acts) text x.0 event x.1 says in
        (x.0, x.1, does_before x.0 q said (ap is_event same ∙ is) x.2)

    bad_before : (r : Reason) → IsBad (started w rules) text r → IsBad before text r
    bad_before reason.Grammar x = x
    bad_before reason.Reference x = x
    bad_before reason.Order x = absurd (event_no_setting event is (ap is_setting (sym (one_said (sent_in w.acts) text x.0 event x.1 says)) ∙ x.2))
    bad_before reason.Config x = let f : true ≡ false = x.3 in absurd cc

    front_before : (k : ℕ) (said : List ℕ) → LineFront k (started w rules) text said → LineFront k before text said
    front_before k said (inl x) = inl x
    front_before k said (inr (inl x)) = inr (inl (x.0, x.1, x.2, goes_before x.0 x.1 x.3, x.4))
    front_before k said (inr (inr x)) = inr (inr (x.0, x.1, bad_before x.0 x.2, x.3))

    stops_before : (k : ℕ) (end : End) (said : List ℕ) → Stops k (started w rules) text end said → Stops k before text end said
    stops_before k (Whole status) said x = (x.0, bad_before x.0 x.1, x.2, x.3)
    stops_before k Front said x = front_before k said x

    pub runs_before : (k : ℕ) (ls : List (List ℕ)) (end : End) (said : List ℕ) → Runs k (started w rules) (text ∷ ls) end said → Runs k before (text ∷ ls) end said
    runs_before k ls end said (inl x) = inl (x.0, x.1, x.2, goes_before x.0 x.1 x.3, x.4, x.5)
    runs_before k ls end said (inr x) = inr (stops_before k end said x)

-- a line before the first event line was heard
pub heard_next : (a b c : Option (List ℕ)) (first : ℕ) (start : Player) (k : ℕ) (p : Player) (all : List (List ℕ)) (l : List ℕ) (ls : List (List ℕ)) (q : Player)
    → SoFar a b first start k p (l ∷ ls) all → sent_in p.world.acts ≡ [] → HeardEnds (Ok false) k p l q b c → SoFar a c first start (k + 1) q ls all
heard_next a b c first start k p all l ls q so none e =
    line_next a b c first start k p all l ls q so ([], (e.0, subst (λ (sent : List Tree). Says sent l e.0) (sym none) e.1, e.2), subst (λ z. Appends b z []) (sym e.3) (Appends-nil b))

-- the first event line comes, and the lines from it on end so
pub event_end : (a b c d : Option (List ℕ)) (first : ℕ) (start : Player) (k : ℕ) (all : List (List ℕ)) (l : List ℕ) (ls : List (List ℕ)) (config new : Config) (rules more : List Rule) (end : End)
    → SoFar a b first start k (set_up config rules) (l ∷ ls) all → HeardEnds (Ok true) k (set_up config rules) l (set_up new more) b c
    → (written : List ℕ) × Runs k (started (beginning new) more) (l ∷ ls) end written × Appends c d written → Ended a d first start all end
event_end a b c d first start k all l ls config new rules more end so e w =
    let same : started (beginning new) more ≡ started (beginning config) rules = ap (λ (z : Player). started z.world z.rules) e.2.1 in
    let runs = subst (λ (z : Player). Runs k z (l ∷ ls) end w.0) same w.1 in
    so_far_end a b d first start k (set_up config rules) all (l ∷ ls) end w.0 so (runs_before (beginning config) rules l e.0 e.1 e.2.0 k ls end w.0 runs) (subst (λ z. Appends z d w.0) e.3 w.2)

-- nothing was said and nothing written yet
pub setup_start : (a : Option (List ℕ)) (config : Config) (rules : List Rule) (all : List (List ℕ)) → config ≡ nobody → rules ≡ [] → SoFar a a 1 fresh 1 (set_up config rules) all all
setup_start a config rules all e f = subst (λ (p : Player). SoFar a a 1 fresh 1 p all all) (λ i. set_up (sym e i) (sym f i)) (so_far_start a 1 fresh all)
