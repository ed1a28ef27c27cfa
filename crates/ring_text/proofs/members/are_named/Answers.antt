use Rattle.std.proofs.Common.{◌∙◌, map, rules, tests, string_bytes}
use Rattle.std.specs.List.{list_any}
use Rattle.std.specs.Str.{bytes_eq}
use Rattle.std.specs.Map.{keys_of}
use Rattle.std.proofs.lemmas.Iterator.Consumers.{YieldsList-from_rest}
use Rattle.std.proofs.lemmas.Iterator.Search.{all_from_yields_List}
use Rattle.ring_text.proofs.Naming.{named_among_keys}
use Rattle.ring_text.proofs.members.are_named.Goals as goal

pub returns : goal.returns
returns c =
    all_from_yields_List (λ k. list_any (bytes_eq (string_bytes k)) (map (λ n. n.now) c.args.names.now)) _ _ c.all.result c.all.ensures.ran (YieldsList-from_rest (keys_of c.args.members.now.entries) c.keys.ensures.rest) (λ x b q k. search (rules, tests))
    ∙ named_among_keys (map (λ n. n.now) c.args.names.now) c.args.members.now.entries
