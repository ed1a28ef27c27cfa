-- A world with one exchange of K5, in which both parties complete with a claim and a secret.
use Rattle.std.proofs.Common.{◌≡◌, ℕ, List, [], ◌∷◌, ◌++◌, true, refl, inl, inr, arith}
use Rattle.term_values.specs.Trees.{Tree}
use Rattle.term_values.specs.declared.small.Key.TheVariants.{Two}
use Rattle.term_values.specs.declared.small.Stamp.TheVariants.{Time}
use Rattle.attacker_model.specs.Derivation.{known}
use Rattle.mech_rows.specs.declared.kinds.Mech.TheVariants.{K5}
use Rattle.mech_rows.specs.declared.kinds.Role.{Role}
use Rattle.mech_rows.specs.declared.kinds.Role.TheVariants.{A, B}
use Rattle.mech_rows.specs.declared.kinds.Slot.{Slot}
use Rattle.mech_rows.specs.declared.kinds.Slot.TheVariants.{Ta, Tb, Fa, Fb, X1, X2}
use Rattle.mech_rows.specs.declared.kinds.Under.TheVariants.{Pair}
use Rattle.mech_rows.specs.Rows.{Pass, pass_from, shown, S}
use Rattle.mech_rows.specs.Heads.{Head}
use Rattle.mech_rows.specs.Runs.{Keys, sent_slots, seen_slots, Step}
use Rattle.agreement_laws.specs.Nodes.{Open, Issue, Commit}
use Rattle.mech_rows.specs.Rings.{keys_in}
use Rattle.agreement_laws.specs.Worlds.{Entry, At, ring_of, node_of, run_id, trace, IsWorld}
use Rattle.agreement_laws.specs.Sound.{Completion, HasClaim, HasSecret}
use Rattle.agreement_laws.specs.Examples.{ShowsClaim, ShowsSecret}
use Rattle.agreement_laws.proofs.Example.{config, lawful}
use Rattle.agreement_laws.proofs.Shown.{value_for, kinds_are, texts_are, plain, plain_is_short, head_of_two, good_two}
use Rattle.agreement_laws.proofs.Scripted.{begins, answers, ends, begins_is_step, answers_is_step, ends_is_step}
use Rattle.agreement_laws.proofs.Fresher.{fresh_by_test}
use Rattle.agreement_laws.proofs.Tested.{may_open_by, commits_by}

abbrev pub first : Pass
first = pass_from A B [] (S K5 1 1 (Pair A B) (Ta ∷ Fa ∷ X1 ∷ []) ∷ [])

abbrev pub second : Pass
second = pass_from B A [] (S K5 2 1 (Pair A B) (Tb ∷ Ta ∷ Fb ∷ X2 ∷ []) ∷ [])

abbrev pub keys_at : ℕ → Keys
keys_at n = keys_in (ring_of config n)

abbrev pub head : Role → Head
head = head_of_two K5

-- A sends its part, B answers with its own and is done, A is done
abbrev pub sends : Step
sends = begins (value_for plain) (keys_at 1) (head A) first

abbrev pub ends_b : Step
ends_b = answers (value_for plain) (keys_at 2) (head B) 0 [] first second

abbrev pub ends_a : Step
ends_a = ends (value_for plain) (keys_at 1) (head A) 1 (sent_slots first) second

abbrev pub opened : List Entry
opened = At 1 (Issue 5 (Time 5)) ∷ At 2 (Open 1 (head B) []) ∷ At 1 (Open 1 (head A) []) ∷ []

abbrev pub sent : List Entry
sent = At 2 (Issue 5 (Time 5)) ∷ At 1 (Commit 1 5 sends) ∷ opened

abbrev pub ended_b : List Entry
ended_b = At 2 (Commit 1 5 ends_b) ∷ sent

abbrev pub exchange : List Entry
exchange = At 1 (Commit 1 5 ends_a) ∷ ended_b

opened_is_world : IsWorld config opened
opened_is_world = (
  (
    (tt, record { declared = inl refl; needs = record { number = refl; is_head = (refl, tt); own = refl; may = may_open_by (node_of config 1 []) (head A) refl refl refl refl refl refl refl refl refl refl }; network = tt }),
    record { declared = inr (inl refl); needs = record { number = refl; is_head = (refl, tt); own = refl; may = may_open_by (node_of config 2 (At 1 (Open 1 (head A) []) ∷ [])) (head B) refl refl refl refl refl refl refl refl refl refl }; network = tt },
  ),
  record { declared = inl refl; needs = record { later = omega arith; is_next = refl }; network = tt },
)

sent_is_world : IsWorld config sent
sent_is_world = (
  (
    opened_is_world,
    record {
      declared = inl refl;
      needs = commits_by (node_of config 1 opened) 1 5 sends refl refl (begins_is_step (value_for plain) (kinds_are plain plain_is_short) (texts_are plain) (keys_at 1) (head A) first refl refl refl) refl refl;
      network = (tt, fresh_by_test config (trace opened) sends refl);
    },
  ),
  record { declared = inr (inl refl); needs = record { later = omega arith; is_next = refl }; network = tt },
)

ended_b_is_world : IsWorld config ended_b
ended_b_is_world = (
  sent_is_world,
  record {
    declared = inr (inl refl);
    needs = commits_by (node_of config 2 sent) 1 5 ends_b refl refl (answers_is_step (value_for plain) (kinds_are plain plain_is_short) (texts_are plain) (keys_at 2) (head B) 0 [] first second refl refl refl refl refl) refl refl;
    network = (known (inl refl), fresh_by_test config (trace sent) ends_b refl);
  },
)

exchange_is_world : IsWorld config exchange
exchange_is_world = (
  ended_b_is_world,
  record {
    declared = inl refl;
    needs = commits_by (node_of config 1 ended_b) 1 5 ends_a refl refl (ends_is_step (value_for plain) (kinds_are plain plain_is_short) (texts_are plain) (keys_at 1) (head A) 1 (sent_slots first) second refl refl (λ q e. absurd (cc))) refl refl;
    network = (known (inl refl), fresh_by_test config (trace ended_b) ends_a refl);
  },
)

abbrev pub done_a : Completion (trace exchange)
done_a = record { id = run_id 1 1; step = ends_a; before = trace ended_b; moment = inl refl; done = refl }

abbrev pub done_b : Completion (trace exchange)
done_b = record { id = run_id 2 1; step = ends_b; before = trace sent; moment = inr (inl refl); done = refl }

pub claim_of_a : ShowsClaim K5 A
claim_of_a = record { config = config; entries = exchange; lawful = lawful; world = exchange_is_world; completion = done_a; mech = refl; role = refl; slots = Ta ∷ Fa ∷ X1 ∷ Tb ∷ Fb ∷ X2 ∷ []; claim = record { claimed = refl; good = good_two K5 A refl; kept = λ t. absurd (cc) } }

pub claim_of_b : ShowsClaim K5 B
claim_of_b = record { config = config; entries = exchange; lawful = lawful; world = exchange_is_world; completion = done_b; mech = refl; role = refl; slots = Ta ∷ Fa ∷ X1 ∷ []; claim = record { claimed = refl; good = good_two K5 B refl; kept = λ t. absurd (cc) } }

pub secret_of_a : ShowsSecret K5 A
secret_of_a = record { config = config; entries = exchange; lawful = lawful; world = exchange_is_world; completion = done_a; mech = refl; role = refl; key = Two (9 ∷ []) (8 ∷ []); secret = record { is_key = refl; good = good_two K5 A refl; kept = λ p i j. j } }

pub secret_of_b : ShowsSecret K5 B
secret_of_b = record { config = config; entries = exchange; lawful = lawful; world = exchange_is_world; completion = done_b; mech = refl; role = refl; key = Two (9 ∷ []) (8 ∷ []); secret = record { is_key = refl; good = good_two K5 B refl; kept = λ p i j. j } }
