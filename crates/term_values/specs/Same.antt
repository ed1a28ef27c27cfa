-- Whether two terms are the same, as a test.
use Rattle.std.specs.Prelude.{Bool, true, false, ◌==◌, ◌&&◌}
use base.Stored.{Gv, gnil, gnum, gcons}
use Rattle.term_values.specs.Trees.{Tree}
use Rattle.term_values.specs.Codes.{tree_code}

-- two codes are the same
abbrev pub same_code : Gv → Gv → Bool
same_code gnil gnil = true
same_code gnil (gnum n) = false
same_code gnil (gcons c d) = false
same_code (gnum m) gnil = false
same_code (gnum m) (gnum n) = m == n
same_code (gnum m) (gcons c d) = false
same_code (gcons a b) gnil = false
same_code (gcons a b) (gnum n) = false
same_code (gcons a b) (gcons c d) = same_code a c && same_code b d

-- not unfolded, so that goals stay short: `same_is` says what it is
unfoldable pub same : Tree → Tree → Bool
same t u = same_code (tree_code t) (tree_code u)
