-- Each part of a term is smaller than the term.
use Rattle.std.specs.Prelude.{◌+◌, ◌≤◌, max, List, [], ◌∷◌}
use Rattle.std.proofs.Common.{arith}
use denote.Param.Weighed.{most}
use Rattle.term_values.specs.Trees.{Tree, trees, size_of, sizes_of}
use Rattle.term_values.specs.TreeOf.{tree_of}
use Rattle.term_values.specs.declared.term.Form.{Form}
use Rattle.term_values.specs.declared.term.Form.TheVariants as form
use Rattle.term_values.specs.declared.items.Items.TheDeep.{deep-Form}

pub most_le : (ts : List Tree) → most (λ t. size_of t + 1) ts ≤ sizes_of (trees ts)
most_le [] = omega arith
most_le (t ∷ ts) = omega (arith, most_le ts)

pub form_falls : (f : Form) → max (deep-Form f) 0 ≤ size_of (tree_of f)
form_falls (form.Name n) = omega arith
form_falls (form.Stamp s) = omega arith
form_falls (form.Nonce b) = omega arith
form_falls (form.Part b) = omega arith
form_falls (form.Text b) = omega arith
form_falls (form.Tag b) = omega arith
form_falls (form.Tuple items) = omega arith
form_falls (form.Seal key body) = omega arith
form_falls (form.Check key body) = omega arith
form_falls (form.Blob b) = omega arith
