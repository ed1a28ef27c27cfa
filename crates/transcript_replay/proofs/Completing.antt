-- Where no fault was counted, the output is the whole one.
use Rattle.std.proofs.Common.{◌≡◌, ◌⊎◌, inl, inr, ℕ, List, Option, Some, sym, subst, ◌∙◌}
use Rattle.std.specs.Io.KnownBytes.{Appends}
use Rattle.transcript_replay.specs.Runs.{IsOutput, Whole}
use Rattle.transcript_replay.specs.Told.{IsTold}
use Rattle.transcript_replay.proofs.Answering.{answer_once}
use Rattle.transcript_replay.proofs.Once.{one_text}

module _ (left old new : Option (List ℕ)) (result : ℕ) (ReadFailed WriteFailed : Type 0) (bytes text : List ℕ) (status : ℕ) where
  -- what was written is an output of what was told
  abbrev Wrote : Type 0
  Wrote = (all put : List ℕ) × IsTold left all × IsOutput all (Whole result) put × Appends old new put

  wrote_all : left ≡ Some bytes → IsOutput bytes (Whole status) text → Wrote → (result ≡ status) × Appends old new text
  wrote_all told is (all, put, is_told, has, appends) =
      let same : bytes ≡ all = subst (λ (o : Option (List ℕ)). IsTold o all) told is_told in
      let one = one_text answer_once bytes put text result status (subst (λ (b : List ℕ). IsOutput b (Whole result) put) (sym same) has) is in
      (one.1, subst (λ (t : List ℕ). Appends old new t) one.0 appends)

  pub is_complete : (result ≡ 0) ⊎ (result ≡ 3) ⊎ (result ≡ 4) ⊎ (result ≡ 5) ⊎ (result ≡ 6) ⊎ (result ≡ 7) → ((result ≡ 3 → ⊥) → (result ≡ 4 → ⊥) → (result ≡ 7 → ⊥) → Wrote)
      → (result ≡ 3 → ReadFailed) → (result ≡ 4 → WriteFailed) → left ≡ Some bytes → IsOutput bytes (Whole status) text → (ReadFailed → ⊥) → (WriteFailed → ⊥)
      → (result ≡ 7) ⊎ ((result ≡ status) × Appends old new text)
  is_complete (inl e) whole reads writes told is fine never = inr (wrote_all told is (whole (λ f. cc) (λ f. cc) (λ f. cc)))
  is_complete (inr (inl e)) whole reads writes told is fine never = absurd (fine (reads e))
  is_complete (inr (inr (inl e))) whole reads writes told is fine never = absurd (never (writes e))
  is_complete (inr (inr (inr (inl e)))) whole reads writes told is fine never = inr (wrote_all told is (whole (λ f. cc) (λ f. cc) (λ f. cc)))
  is_complete (inr (inr (inr (inr (inl e))))) whole reads writes told is fine never = inr (wrote_all told is (whole (λ f. cc) (λ f. cc) (λ f. cc)))
  is_complete (inr (inr (inr (inr (inr e))))) whole reads writes told is fine never = inl e
