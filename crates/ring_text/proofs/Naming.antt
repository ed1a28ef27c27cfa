-- The names of an object's members, as its keys are gone through.
use Rattle.std.proofs.Common.{◌≡◌, ℕ, List, [], ◌∷◌, ◌&&◌, ◌||◌, Bool, ap, map, refl, Bor, String, Global, string_bytes}
use Rattle.std.specs.List.{list_all, list_any}
use Rattle.std.specs.Map.{keys_of}
use Rattle.std.specs.Str.{bytes_eq}
use Rattle.serde_json.specs.View.{members_view}
use Rattle.serde_json.specs.declared.value.Value.{Value}
use Rattle.ring_text.specs.Members.{named_among}

-- a test of what references point to
pub any_behind : (p : List ℕ → Bool) (names : List (Bor (List ℕ))) → list_any (λ n. p n.now) names ≡ list_any p (map (λ n. n.now) names)
any_behind p [] = refl
any_behind p (n ∷ names) = ap (λ b. p n.now || b) (any_behind p names)

-- the members are of these names where each key is
pub named_among_keys : (names : List (List ℕ)) (es : List (String Global × Value)) → list_all (λ k. list_any (bytes_eq (string_bytes k)) names) (keys_of es) ≡ named_among names (members_view es)
named_among_keys names [] = refl
named_among_keys names (e ∷ es) = ap (λ b. list_any (bytes_eq (string_bytes e.0)) names && b) (named_among_keys names es)
