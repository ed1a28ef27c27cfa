-- From the form of a term to its tree.
use Rattle.term_values.specs.Trees.{Tree, name, stamp, nonce, part, text, tag, blob, tuple, seal, check, trees}
use Rattle.term_values.specs.declared.term.Form.{Form}
use Rattle.term_values.specs.declared.term.Form.TheVariants as form

-- the tree that a form stands for
abbrev pub tree_of : Form → Tree
tree_of (form.Name n) = name n
tree_of (form.Stamp s) = stamp s
tree_of (form.Nonce b) = nonce b
tree_of (form.Part b) = part b
tree_of (form.Text b) = text b
tree_of (form.Tag b) = tag b
tree_of (form.Tuple items) = tuple (trees items)
tree_of (form.Seal key body) = seal key body.value
tree_of (form.Check key body) = check key body.value
tree_of (form.Blob b) = blob b
