-- Where no fault was counted, a command's output is the whole one.
use Rattle.std.proofs.Common.{◌≡◌, ◌≢◌, ◌⊎◌, inl, inr, ℕ, List, [], length, take, Option, Some, refl, sym, ap, subst, ◌∙◌, arith}
use Rattle.std.specs.Io.KnownBytes.{Appends}
use Rattle.transcript_replay.specs.Runs.{End, Front, Whole}
use Rattle.transcript_replay.specs.Told.{IsTold}
use Rattle.transcript_replay.proofs.Fronts.{is_told_or, told_or}
use Rattle.authctl.specs.declared.words.Walk.{Walk}
use Rattle.authctl.specs.Offline.{IsOffline, IsReplay}
use Rattle.authctl.specs.Walks.{walk_output}
use Rattle.authctl.specs.Words.{IsWalk}
use Rattle.authctl.proofs.Parts.{one_walk}

not_both : (words : List (List ℕ)) (w : Walk) → IsWalk words w → IsReplay words → ⊥
not_both words w x r = let l = ap length (sym x.spelled ∙ r) in omega (arith, l)

module _ (words : List (List ℕ)) (old new : Option (List ℕ)) (result : ℕ) (bytes text : List ℕ) (status : ℕ) where
  -- memory was wanting, or all was written
  abbrev pub IsAll : Type 0
  IsAll = (result ≡ 7) ⊎ ((result ≡ status) × Appends old new text)

  -- they ask for a walk
  pub walk_complete : (w : Walk) (Failed : Type 0) → IsWalk words w → (result ≡ 0) ⊎ ((result ≡ 4) ⊎ (result ≡ 7)) → (result ≡ 0 → Appends old new (walk_output w)) → (result ≡ 4 → Failed) → (Failed → ⊥) → IsOffline words bytes (Whole status) text → IsAll
  walk_complete w Failed is statuses whole failed never (inr x) = absurd (not_both words w is x.0)
  walk_complete w Failed is (inl e) whole failed never (inl (v, also, walked)) =
      let same : walk_output w ≡ text = ap walk_output (one_walk words w v is also) ∙ sym walked.0 in
      inr (e ∙ sym walked.1, subst (λ (t : List ℕ). Appends old new t) same (whole e))
  walk_complete w Failed is (inr (inl e)) whole failed never (inl x) = absurd (never (failed e))
  walk_complete w Failed is (inr (inr e)) whole failed never (inl x) = inl e

-- what was written is an output of the words and the input, or a front of it
module _ (words : List (List ℕ)) (left old new : Option (List ℕ)) (result : ℕ) where
  abbrev pub Wrote : End → Type 0
  Wrote end = (bytes text : List ℕ) × IsTold left bytes × IsOffline words bytes end text × Appends old new text

  -- by a walk
  pub walk_whole : (w : Walk) → IsWalk words w → (result ≡ 0) ⊎ ((result ≡ 4) ⊎ (result ≡ 7)) → (result ≡ 0 → Appends old new (walk_output w)) → (result ≡ 4 → ⊥) → (result ≡ 7 → ⊥) → Wrote (Whole result)
  walk_whole w is (inl e) whole failed wanting = (told_or left [], walk_output w, is_told_or left [], inl (w, is, (refl, e)), whole e)
  walk_whole w is (inr (inl e)) whole failed wanting = absurd (failed e)
  walk_whole w is (inr (inr e)) whole failed wanting = absurd (wanting e)

  walk_front : (w : Walk) → IsWalk words w → (n : ℕ) × Appends old new (take n (walk_output w)) → Wrote Front
  walk_front w is f = (told_or left [], take f.0 (walk_output w), is_told_or left [], inl (w, is, (f.0, refl)), f.1)

  pub walk_cut : (w : Walk) → IsWalk words w → (result ≢ 0 → (n : ℕ) × Appends old new (take n (walk_output w))) → (result ≡ 4) ⊎ (result ≡ 7) → Wrote Front
  walk_cut w is front (inl e) = walk_front w is (front (λ z. cc))
  walk_cut w is front (inr e) = walk_front w is (front (λ z. cc))
