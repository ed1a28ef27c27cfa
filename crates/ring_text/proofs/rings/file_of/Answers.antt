use Rattle.std.proofs.Common.{rules}
use Rattle.serde_json.specs.View.{view}
use Rattle.ring_text.proofs.Parted.{key_ring_of, no_key_ring}
use Rattle.ring_text.proofs.rings.file_of.Goals as goal

pub returns-in_err-ring-clause-bad : goal.returns-in_err-ring-clause-bad
returns-in_err-ring-clause-bad c = λ e k h. no_key_ring (view c.args.value.now) c.ring_of.result c.ring_of.ensures (search rules) k h

pub returns-clause-ok : goal.returns-clause-ok
returns-clause-ok c = key_ring_of (view c.args.value.now) c.in_ok-ring.ring c.in_ok-rules.rules.items c.in_ok-texts.texts.items (search rules) (search rules) (search rules) (search rules) (search rules)
