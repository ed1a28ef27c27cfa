-- Cutting a text into its lines.
use Rattle.std.proofs.Common.{◌≡◌, ℕ, zero, suc, ◌<◌, List, [], ◌∷◌, length, take, drop, get_or, cond, refl, ap, ◌∙◌, arith}
use Rattle.std.proofs.lemmas.Bool.{ne_eqb}
use Rattle.transcript_replay.specs.Cuts.{lines_of, onto}

abbrev pub NoFeed : List ℕ → ℕ → Type 0
NoFeed cs i = (k : ℕ) → k < i → get_or cs k 0 ≡ 10 → ⊥

lines_onto : (c : ℕ) (cs : List ℕ) → (c ≡ 10 → ⊥) → lines_of (c ∷ cs) ≡ onto c (lines_of cs)
lines_onto c cs no_feed = ap (λ b. cond b ([] ∷ lines_of cs) (onto c (lines_of cs))) (ne_eqb c 10 no_feed)

pub cut_at : (cs : List ℕ) (i : ℕ) → i < length cs → NoFeed cs i → get_or cs i 0 ≡ 10 → lines_of cs ≡ take i cs ∷ lines_of (drop (suc i) cs)
cut_at [] i lt none feed = absurd (omega arith)
cut_at (c ∷ cs) zero lt none feed = rw feed refl
cut_at (c ∷ cs) (suc i) lt none feed =
    lines_onto c cs (none 0 (omega arith)) ∙ ap (onto c) (cut_at cs i (omega arith) (λ k l. none (suc k) (omega arith)) feed)

pub uncut : (cs : List ℕ) → 0 < length cs → NoFeed cs (length cs) → lines_of cs ≡ cs ∷ []
uncut [] some none = absurd (omega arith)
uncut (c ∷ []) some none = lines_onto c [] (none 0 (omega arith))
uncut (c ∷ d ∷ cs) some none = lines_onto c (d ∷ cs) (none 0 (omega arith)) ∙ ap (onto c) (uncut (d ∷ cs) (omega arith) (λ k l. none (suc k) (omega arith)))
