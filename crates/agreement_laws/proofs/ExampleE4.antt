-- A world with one exchange of E4, in which both parties complete with a claim.
use Rattle.std.proofs.Common.{◌≡◌, ℕ, List, [], ◌∷◌, ◌++◌, true, refl, inl, inr}
use Rattle.term_values.specs.Trees.{Tree}
use Rattle.attacker_model.specs.Derivation.{known}
use Rattle.mech_rows.specs.declared.kinds.Mech.TheVariants.{E4}
use Rattle.mech_rows.specs.declared.kinds.Role.{Role}
use Rattle.mech_rows.specs.declared.kinds.Role.TheVariants.{A, B}
use Rattle.mech_rows.specs.declared.kinds.Slot.{Slot}
use Rattle.mech_rows.specs.declared.kinds.Slot.TheVariants.{Ra, Rb, X1, X2, X3, X4, X5}
use Rattle.mech_rows.specs.declared.kinds.Under.TheVariants.{Pair}
use Rattle.mech_rows.specs.Rows.{Pass, pass_from, shown, S}
use Rattle.mech_rows.specs.Heads.{Head}
use Rattle.mech_rows.specs.Runs.{Keys, sent_slots, seen_slots, Step}
use Rattle.agreement_laws.specs.Nodes.{Open, Commit}
use Rattle.mech_rows.specs.Rings.{keys_in}
use Rattle.agreement_laws.specs.Worlds.{Entry, At, ring_of, node_of, run_id, trace, IsWorld}
use Rattle.agreement_laws.specs.Sound.{Completion, HasClaim}
use Rattle.agreement_laws.specs.Examples.{ShowsClaim}
use Rattle.agreement_laws.proofs.Example.{config, lawful}
use Rattle.agreement_laws.proofs.Shown.{value_for, kinds_are, texts_are, plain, plain_is_short, head_of_two, good_two}
use Rattle.agreement_laws.proofs.Scripted.{begins, answers, ends, begins_is_step, answers_is_step, ends_is_step}
use Rattle.agreement_laws.proofs.Fresher.{fresh_by_test}
use Rattle.agreement_laws.proofs.Tested.{may_open_by, commits_by}

abbrev pub first : Pass
first = pass_from B A (shown (Rb ∷ X1 ∷ [])) []

abbrev pub second : Pass
second = pass_from A B (shown (X3 ∷ [])) (S E4 2 1 (Pair A B) (Ra ∷ Rb ∷ X2 ∷ []) ∷ [])

abbrev pub third : Pass
third = pass_from B A (shown (X5 ∷ [])) (S E4 3 1 (Pair A B) (Rb ∷ Ra ∷ X4 ∷ []) ∷ [])

abbrev pub keys_at : ℕ → Keys
keys_at n = keys_in (ring_of config n)

abbrev pub head : Role → Head
head = head_of_two E4

-- B challenges A, A answers, B answers and is done, A is done
abbrev pub asks : Step
asks = begins (value_for plain) (keys_at 2) (head B) first

abbrev pub answers_b : Step
answers_b = answers (value_for plain) (keys_at 1) (head A) 0 [] first second

abbrev pub ends_b : Step
ends_b = answers (value_for plain) (keys_at 2) (head B) 1 (sent_slots first) second third

abbrev pub ends_a : Step
ends_a = ends (value_for plain) (keys_at 1) (head A) 2 (seen_slots first ++ sent_slots second) third

abbrev pub opened : List Entry
opened = At 2 (Open 1 (head B) []) ∷ At 1 (Open 1 (head A) []) ∷ []

abbrev pub asked : List Entry
asked = At 2 (Commit 1 5 asks) ∷ opened

abbrev pub answered : List Entry
answered = At 1 (Commit 1 5 answers_b) ∷ asked

abbrev pub ended_b : List Entry
ended_b = At 2 (Commit 1 5 ends_b) ∷ answered

abbrev pub exchange : List Entry
exchange = At 1 (Commit 1 5 ends_a) ∷ ended_b

opened_is_world : IsWorld config opened
opened_is_world = (
  (tt, record { declared = inl refl; needs = record { number = refl; is_head = (refl, tt); own = refl; may = may_open_by (node_of config 1 []) (head A) refl refl refl refl refl refl refl refl refl refl }; network = tt }),
  record { declared = inr (inl refl); needs = record { number = refl; is_head = (refl, tt); own = refl; may = may_open_by (node_of config 2 (At 1 (Open 1 (head A) []) ∷ [])) (head B) refl refl refl refl refl refl refl refl refl refl }; network = tt },
)

asked_is_world : IsWorld config asked
asked_is_world = (
  opened_is_world,
  record {
    declared = inr (inl refl);
    needs = commits_by (node_of config 2 opened) 1 5 asks refl refl (begins_is_step (value_for plain) (kinds_are plain plain_is_short) (texts_are plain) (keys_at 2) (head B) first refl refl refl) refl refl;
    network = (tt, fresh_by_test config (trace opened) asks refl);
  },
)

answered_is_world : IsWorld config answered
answered_is_world = (
  asked_is_world,
  record {
    declared = inl refl;
    needs = commits_by (node_of config 1 asked) 1 5 answers_b refl refl (answers_is_step (value_for plain) (kinds_are plain plain_is_short) (texts_are plain) (keys_at 1) (head A) 0 [] first second refl refl refl refl refl) refl refl;
    network = (known (inl refl), fresh_by_test config (trace asked) answers_b refl);
  },
)

ended_b_is_world : IsWorld config ended_b
ended_b_is_world = (
  answered_is_world,
  record {
    declared = inr (inl refl);
    needs = commits_by (node_of config 2 answered) 1 5 ends_b refl refl (answers_is_step (value_for plain) (kinds_are plain plain_is_short) (texts_are plain) (keys_at 2) (head B) 1 (sent_slots first) second third refl refl refl refl refl) refl refl;
    network = (known (inl refl), fresh_by_test config (trace answered) ends_b refl);
  },
)

exchange_is_world : IsWorld config exchange
exchange_is_world = (
  ended_b_is_world,
  record {
    declared = inl refl;
    needs = commits_by (node_of config 1 ended_b) 1 5 ends_a refl refl (ends_is_step (value_for plain) (kinds_are plain plain_is_short) (texts_are plain) (keys_at 1) (head A) 2 (seen_slots first ++ sent_slots second) third refl refl (λ q e. absurd (cc))) refl refl;
    network = (known (inl refl), fresh_by_test config (trace ended_b) ends_a refl);
  },
)

pub claim_of_a : ShowsClaim E4 A
claim_of_a =
    record {
      config = config;
      entries = exchange;
      lawful = lawful;
      world = exchange_is_world;
      completion = record { id = run_id 1 1; step = ends_a; before = trace ended_b; moment = inl refl; done = refl };
      mech = refl;
      role = refl;
      slots = Ra ∷ Rb ∷ X2 ∷ X4 ∷ [];
      claim = record { claimed = refl; good = good_two E4 A refl; kept = λ t. absurd (cc) };
    }

pub claim_of_b : ShowsClaim E4 B
claim_of_b =
    record {
      config = config;
      entries = exchange;
      lawful = lawful;
      world = exchange_is_world;
      completion = record { id = run_id 2 1; step = ends_b; before = trace answered; moment = inr (inl refl); done = refl };
      mech = refl;
      role = refl;
      slots = Ra ∷ Rb ∷ X2 ∷ [];
      claim = record { claimed = refl; good = good_two E4 B refl; kept = λ t. absurd (cc) };
    }
