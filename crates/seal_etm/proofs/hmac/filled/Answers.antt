-- Behind the copied piece stand the zeros that were there.
use Rattle.std.proofs.Common.{ℕ, List, ◌++◌, length, ap₂}
use Rattle.std.proofs.lemmas.List.{drop-replicate}
use Rattle.seal_etm.proofs.hmac.filled.Goals as goal

pub returns : goal.returns
returns c =
    let zeros = drop-replicate {X = ℕ} (length c.args.piece.now) 64 0 in
    ap₂ (λ (xs : List ℕ) (ys : List ℕ). xs ++ ys) c.copy_from_slice.ensures.after zeros
