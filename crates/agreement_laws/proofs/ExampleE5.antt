-- A world with one exchange of E5, in which A and B complete with a claim and a secret.
use Rattle.std.proofs.Common.{◌≡◌, ◌≢◌, ◌≤◌, ℕ, List, [], ◌∷◌, ◌++◌, Bool, true, false, refl, sym, ap, subst, ◌∙◌, inl, inr, Some, None, arith}
use Rattle.term_values.specs.Trees.{Among, Bytes, Tree, name, stamp, part, text, tag, tuple, seal, trees}
use Rattle.term_values.specs.declared.small.Key.TheVariants.{One}
use Rattle.term_values.specs.declared.small.Stamp.TheVariants.{Time}
use Rattle.term_values.specs.declared.small.StampKind.TheVariants.{Time as by_time}
use Rattle.attacker_model.specs.Derivation.{known}
use Rattle.mech_rows.specs.declared.kinds.Mech.TheVariants.{E5}
use Rattle.mech_rows.specs.declared.kinds.Role.{Role}
use Rattle.mech_rows.specs.declared.kinds.Role.TheVariants.{A, B, P}
use Rattle.mech_rows.specs.declared.kinds.Slot.{Slot}
use Rattle.mech_rows.specs.declared.kinds.Slot.TheVariants.{Ra, Ta, Tb, Tp, Fa, X1, X2, X3, X4, X5, X6, X7, X8}
use Rattle.mech_rows.specs.declared.kinds.Under.TheVariants.{Pair, Drawn}
use Rattle.mech_rows.specs.declared.kinds.Clear.TheVariants.{Slot as Shown, NameOfB}
use Rattle.mech_rows.specs.Rows.{Pass, Cover, pass_from, shown, S, unread, forwarded, tag_of}
use Rattle.mech_rows.specs.Heads.{Head, name_of}
use Rattle.mech_rows.specs.Runs.{IsForwardable, Keys, sent_slots, seen_slots, Step}
use Rattle.agreement_laws.specs.Nodes.{Open, Issue, Commit}
use Rattle.mech_rows.specs.Rings.{keys_in}
use Rattle.agreement_laws.specs.Worlds.{Entry, At, ring_of, node_of, run_id, trace, IsWorld}
use Rattle.agreement_laws.specs.Sound.{Completion, HasClaim, HasSecret}
use Rattle.agreement_laws.specs.Examples.{ShowsClaim, ShowsSecret}
use Rattle.agreement_laws.specs.Configs.{Party, LongTerm, Config, IsLawful, keys_of, is_of, IsGoodLong, IsGoodHead}
use Rattle.agreement_laws.proofs.Shown.{value_for, kinds_are, texts_are}
use Rattle.agreement_laws.proofs.Scripted.{begins, answers, ends, begins_is_step, answers_is_step, ends_is_step}
use Rattle.agreement_laws.proofs.Fresher.{fresh_by_test}
use Rattle.agreement_laws.proofs.Tested.{may_open_by, commits_by}

abbrev pub party : ℕ → Bool → Party
party n server = record { name = n; is_server = server; kind = by_time; window = 5000 }

abbrev pub of_a : LongTerm
of_a = record { x = 1; y = 3; part = 7 ∷ []; revealed = false }

abbrev pub of_b : LongTerm
of_b = record { x = 2; y = 3; part = 6 ∷ []; revealed = false }

abbrev pub config : Config
config = record { parties = party 1 false ∷ party 2 false ∷ party 3 true ∷ []; pairs = of_a ∷ of_b ∷ []; own = [] }

lawful : IsLawful config
lawful =
    record {
      names_differ = (first_differs, (second_differs, ((λ i. i), tt)));
      few = omega arith;
      windows = window;
      declared = declared;
      one_part = same;
      apart = λ l m i j e. by_part l m i j e;
      own_apart = λ l i j. j;
    }
  where
    one_two : (x y : ℕ) → x ≡ 1 → y ≡ 2 → x ≢ y
    one_two x y e f g = omega arith

    one_three : (x y : ℕ) → x ≡ 1 → y ≡ 3 → x ≢ y
    one_three x y e f g = omega arith

    two_three : (x y : ℕ) → x ≡ 2 → y ≡ 3 → x ≢ y
    two_three x y e f g = omega arith

    first_differs : Among {X = ℕ} 1 (2 ∷ 3 ∷ []) → ⊥
    first_differs (inl e) = one_two 1 2 refl refl e
    first_differs (inr (inl e)) = one_three 1 3 refl refl e
    first_differs (inr (inr i)) = i

    second_differs : Among {X = ℕ} 2 (3 ∷ []) → ⊥
    second_differs (inl e) = two_three 2 3 refl refl e
    second_differs (inr i) = i

    window : (p : Party) → Among p config.parties → p.window ≤ 600_000
    window p (inl e) = subst (λ (q : Party). q.window ≤ 600_000) (sym e) (omega arith)
    window p (inr (inl e)) = subst (λ (q : Party). q.window ≤ 600_000) (sym e) (omega arith)
    window p (inr (inr (inl e))) = subst (λ (q : Party). q.window ≤ 600_000) (sym e) (omega arith)
    window p (inr (inr (inr i))) = absurd i

    declared : (l : LongTerm) → Among l (of_a ∷ of_b ∷ []) → Among {X = ℕ} l.x (1 ∷ 2 ∷ 3 ∷ []) × Among {X = ℕ} l.y (1 ∷ 2 ∷ 3 ∷ []) × (l.x ≢ l.y)
    declared l (inl e) = subst (λ (m : LongTerm). Among {X = ℕ} m.x (1 ∷ 2 ∷ 3 ∷ []) × Among {X = ℕ} m.y (1 ∷ 2 ∷ 3 ∷ []) × (m.x ≢ m.y)) (sym e) (inl refl, inr (inr (inl refl)), one_three 1 3 refl refl)
    declared l (inr (inl e)) = subst (λ (m : LongTerm). Among {X = ℕ} m.x (1 ∷ 2 ∷ 3 ∷ []) × Among {X = ℕ} m.y (1 ∷ 2 ∷ 3 ∷ []) × (m.x ≢ m.y)) (sym e) (inr (inl refl), inr (inr (inl refl)), two_three 2 3 refl refl)
    declared l (inr (inr i)) = absurd i

    -- the two pairs are told apart by whatever differs at them
    told : (Q : LongTerm → LongTerm → Type 0) → (Q of_a of_b → ⊥) → (Q of_b of_a → ⊥) → (l m : LongTerm) → Among l (of_a ∷ of_b ∷ []) → Among m (of_a ∷ of_b ∷ []) → Q l m → l ≡ m
    told Q f g l m (inl e) (inl d) q = e ∙ sym d
    told Q f g l m (inr (inl e)) (inr (inl d)) q = e ∙ sym d
    told Q f g l m (inl e) (inr (inl d)) q = absurd (f (subst (Q of_a) d (subst (λ (x : LongTerm). Q x m) e q)))
    told Q f g l m (inr (inl e)) (inl d) q = absurd (g (subst (Q of_b) d (subst (λ (x : LongTerm). Q x m) e q)))
    told Q f g l m (inr (inr i)) j q = elim i [ ]
    told Q f g l m (inl e) (inr (inr j)) q = elim j [ ]
    told Q f g l m (inr (inl e)) (inr (inr j)) q = elim j [ ]

    false_true : false ≡ true → ⊥
    false_true e = cc

    same : (l m : LongTerm) → Among l (of_a ∷ of_b ∷ []) → Among m (of_a ∷ of_b ∷ []) → is_of l.x l.y m ≡ true → l ≡ m
    same = told (λ l m. is_of l.x l.y m ≡ true) false_true false_true

    singleton : ℕ → Bytes
    singleton x = x ∷ []

    seven_six : (x y : ℕ) → x ≡ 7 → y ≡ 6 → singleton x ≡ singleton y → ⊥
    seven_six x y e f g = let h : x ≡ y = cc in omega arith

    by_part : (l m : LongTerm) → Among l (of_a ∷ of_b ∷ []) → Among m (of_a ∷ of_b ∷ []) → l.part ≡ m.part → l ≡ m
    by_part = told (λ l m. l.part ≡ m.part) (seven_six 7 6 refl refl) (λ e. seven_six 7 6 refl refl (sym e))

abbrev pub ticket_cover : Cover
ticket_cover = S E5 2 2 (Pair B P) (Tp ∷ Fa ∷ X2 ∷ [])

abbrev pub first : Pass
first = pass_from A P (Shown Ra ∷ NameOfB ∷ Shown X1 ∷ []) []

abbrev pub second : Pass
second = pass_from P A (shown (X4 ∷ [])) (S E5 2 1 (Pair A P) (Ra ∷ Fa ∷ X3 ∷ []) ∷ unread ticket_cover ∷ [])

abbrev pub third : Pass
third = pass_from A B (shown (X6 ∷ [])) (forwarded ticket_cover ∷ S E5 3 2 Drawn (Ta ∷ X5 ∷ []) ∷ [])

abbrev pub fourth : Pass
fourth = pass_from B A (shown (X8 ∷ [])) (S E5 4 1 Drawn (Tb ∷ X7 ∷ []) ∷ [])

-- what A forwards
abbrev pub ticket : Tree
ticket = seal (One (6 ∷ [])) (tuple (trees (tag (tag_of E5 2 2) ∷ name 1 ∷ name 2 ∷ name 3 ∷ stamp (Time 5) ∷ part (9 ∷ []) ∷ text [] ∷ [])))

ticket_is_short : IsForwardable ticket
ticket_is_short = omega arith

abbrev pub keys_at : ℕ → Keys
keys_at n = keys_in (ring_of config n)

abbrev pub head : Role → Head
head r = record { mech = E5; role = r; a = 1; b = 2; p = Some 3 }

abbrev pub asks : Step
asks = begins (value_for ticket) (keys_at 1) (head A) first

abbrev pub gives : Step
gives = answers (value_for ticket) (keys_at 3) (head P) 0 [] first second

abbrev pub hands_on : Step
hands_on = answers (value_for ticket) (keys_at 1) (head A) 1 (sent_slots first) second third

abbrev pub ends_b : Step
ends_b = answers (value_for ticket) (keys_at 2) (head B) 2 [] third fourth

abbrev pub ends_a : Step
ends_a = ends (value_for ticket) (keys_at 1) (head A) 3 ((sent_slots first ++ seen_slots second) ++ sent_slots third) fourth

abbrev pub opened_a : List Entry
opened_a = At 1 (Open 1 (head A) []) ∷ []

abbrev pub opened_b : List Entry
opened_b = At 2 (Open 1 (head B) []) ∷ opened_a

abbrev pub opened : List Entry
opened = At 3 (Open 1 (head P) []) ∷ opened_b

abbrev pub asked : List Entry
asked = At 3 (Issue 5 (Time 5)) ∷ At 1 (Commit 1 5 asks) ∷ opened

abbrev pub given_key : List Entry
given_key = At 1 (Issue 5 (Time 5)) ∷ At 3 (Commit 1 5 gives) ∷ asked

abbrev pub handed_on : List Entry
handed_on = At 2 (Issue 5 (Time 5)) ∷ At 1 (Commit 1 5 hands_on) ∷ given_key

abbrev pub ended_b : List Entry
ended_b = At 2 (Commit 1 5 ends_b) ∷ handed_on

abbrev pub exchange : List Entry
exchange = At 1 (Commit 1 5 ends_a) ∷ ended_b

opened_is_world : IsWorld config opened
opened_is_world = (
  (
    (tt, record { declared = inl refl; needs = record { number = refl; is_head = (refl, tt); own = refl; may = may_open_by (node_of config 1 []) (head A) refl refl refl refl refl refl refl refl refl refl }; network = tt }),
    record { declared = inr (inl refl); needs = record { number = refl; is_head = (refl, tt); own = refl; may = may_open_by (node_of config 2 opened_a) (head B) refl refl refl refl refl refl refl refl refl refl }; network = tt },
  ),
  record { declared = inr (inr (inl refl)); needs = record { number = refl; is_head = (refl, refl); own = refl; may = may_open_by (node_of config 3 opened_b) (head P) refl refl refl refl refl refl refl refl refl refl }; network = tt },
)

asked_is_world : IsWorld config asked
asked_is_world = (
  (
    opened_is_world,
    record {
      declared = inl refl;
      needs = commits_by (node_of config 1 opened) 1 5 asks refl refl (begins_is_step (value_for ticket) (kinds_are ticket ticket_is_short) (texts_are ticket) (keys_at 1) (head A) first refl refl refl) refl refl;
      network = (tt, fresh_by_test config (trace opened) asks refl);
    },
  ),
  record { declared = inr (inr (inl refl)); needs = record { later = omega arith; is_next = refl }; network = tt },
)

given_key_is_world : IsWorld config given_key
given_key_is_world = (
  (
    asked_is_world,
    record {
      declared = inr (inr (inl refl));
      needs = commits_by (node_of config 3 asked) 1 5 gives refl refl (answers_is_step (value_for ticket) (kinds_are ticket ticket_is_short) (texts_are ticket) (keys_at 3) (head P) 0 [] first second refl refl refl refl refl) refl refl;
      network = (known (inl refl), fresh_by_test config (trace asked) gives refl);
    },
  ),
  record { declared = inl refl; needs = record { later = omega arith; is_next = refl }; network = tt },
)

handed_on_is_world : IsWorld config handed_on
handed_on_is_world = (
  (
    given_key_is_world,
    record {
      declared = inl refl;
      needs = commits_by (node_of config 1 given_key) 1 5 hands_on refl refl (answers_is_step (value_for ticket) (kinds_are ticket ticket_is_short) (texts_are ticket) (keys_at 1) (head A) 1 (sent_slots first) second third refl refl refl refl refl) refl refl;
      network = (known (inl refl), fresh_by_test config (trace given_key) hands_on refl);
    },
  ),
  record { declared = inr (inl refl); needs = record { later = omega arith; is_next = refl }; network = tt },
)

ended_b_is_world : IsWorld config ended_b
ended_b_is_world = (
  handed_on_is_world,
  record {
    declared = inr (inl refl);
    needs = commits_by (node_of config 2 handed_on) 1 5 ends_b refl refl (answers_is_step (value_for ticket) (kinds_are ticket ticket_is_short) (texts_are ticket) (keys_at 2) (head B) 2 [] third fourth refl refl refl refl refl) refl refl;
    network = (known (inl refl), fresh_by_test config (trace handed_on) ends_b refl);
  },
)

exchange_is_world : IsWorld config exchange
exchange_is_world = (
  ended_b_is_world,
  record {
    declared = inl refl;
    needs = commits_by (node_of config 1 ended_b) 1 5 ends_a refl refl (ends_is_step (value_for ticket) (kinds_are ticket ticket_is_short) (texts_are ticket) (keys_at 1) (head A) 3 ((sent_slots first ++ seen_slots second) ++ sent_slots third) fourth refl refl (λ q e. absurd (cc))) refl refl;
    network = (known (inl refl), fresh_by_test config (trace ended_b) ends_a refl);
  },
)

good : (r : Role) → IsGoodHead config (head r)
good r x y i = go i
  where
    Shares : Role × Role → Type 0
    Shares q = (p : Bytes) × (keys_of config (name_of (head r) q.0) (name_of (head r) q.1) ≡ Some p) × IsGoodLong config p

    go : Among {X = Role × Role} (x, y) ((A, P) ∷ (B, P) ∷ []) → Shares (x, y)
    go (inl e) = subst Shares (sym e) (7 ∷ [], refl, record { pair = of_a; there = inl refl; hidden = refl; is = refl })
    go (inr (inl e)) = subst Shares (sym e) (6 ∷ [], refl, record { pair = of_b; there = inr (inl refl); hidden = refl; is = refl })
    go (inr (inr j)) = elim j [ ]

abbrev pub done_a : Completion (trace exchange)
done_a = record { id = run_id 1 1; step = ends_a; before = trace ended_b; moment = inl refl; done = refl }

abbrev pub done_b : Completion (trace exchange)
done_b = record { id = run_id 2 1; step = ends_b; before = trace handed_on; moment = inr (inl refl); done = refl }

pub claim_of_a : ShowsClaim E5 A
claim_of_a = record { config = config; entries = exchange; lawful = lawful; world = exchange_is_world; completion = done_a; mech = refl; role = refl; slots = Fa ∷ Ta ∷ X5 ∷ Tb ∷ X7 ∷ []; claim = record { claimed = refl; good = good A; kept = λ t p e i. i } }

pub claim_of_b : ShowsClaim E5 B
claim_of_b = record { config = config; entries = exchange; lawful = lawful; world = exchange_is_world; completion = done_b; mech = refl; role = refl; slots = Fa ∷ Ta ∷ X5 ∷ []; claim = record { claimed = refl; good = good B; kept = λ t p e i. i } }

pub secret_of_a : ShowsSecret E5 A
secret_of_a = record { config = config; entries = exchange; lawful = lawful; world = exchange_is_world; completion = done_a; mech = refl; role = refl; key = One (9 ∷ []); secret = record { is_key = refl; good = good A; kept = λ p i j. j } }

pub secret_of_b : ShowsSecret E5 B
secret_of_b = record { config = config; entries = exchange; lawful = lawful; world = exchange_is_world; completion = done_b; mech = refl; role = refl; key = One (9 ∷ []); secret = record { is_key = refl; good = good B; kept = λ p i j. j } }
