-- Key rings: which JSON value says which ring. Each rule is one line.
use Rattle.std.specs.Prelude.{◌≡◌, ◌≤◌, ℕ, ◌==◌, ◌&&◌, not, Bool, true, false, List, [], ◌∷◌, length, map, codes, Option, Some, None, option_map, option_and_then, if◌then◌else◌, IsUtf8}
use Rattle.std.specs.List.{list_any}
use Rattle.std.specs.Str.{bytes_eq}
use denote.Enum.Bare.{sameb}
use Rattle.serde_json.specs.Data.{Data}
use Rattle.serde_json.specs.Read.{read}
use Rattle.mech_rows.specs.declared.kinds.Mech.{Mech}
use Rattle.mech_rows.specs.declared.kinds.Slot.{Slot}
use Rattle.mech_rows.specs.contracts.kinds.Mech as mechs
use Rattle.mech_rows.specs.contracts.kinds.Slot as slots
use Rattle.mech_rows.specs.Rings.{Peer, Ring}
use Rattle.text_hooks.specs.declared.rule.Rule.{Rule}
use Rattle.ring_text.specs.Members.{is_among, listed, needed, optional}
use Rattle.ring_text.specs.Values.{length_in, mech_in, name_in, part_in, server_in, slot_in, stamps_in, text_in, window_in}

-- a text with its mechanism and slot
abbrev pub PlacedText : Type 0
PlacedText = Mech × Slot × List ℕ

-- what a key ring says: what the node knows, the rules on texts that it takes, and the texts that it sends
pub record KeyRing : Type 0 where
  pub ring : Ring
  pub rules : List Rule
  pub texts : List PlacedText

-- no two of a list are the same
abbrev pub all_differ : {X : Type 0} → (X → X → Bool) → List X → Bool
all_differ same [] = true
all_differ same (x ∷ xs) = not (list_any (same x) xs) && all_differ same xs

-- two peers of the same name
abbrev pub same_name : Peer → Peer → Bool
same_name p q = q.name == p.name

-- both have a key, and it is the same
abbrev pub same_part : Option (List ℕ) → Option (List ℕ) → Bool
same_part (Some a) (Some b) = bytes_eq a b
same_part _ _ = false

-- two peers with the same key
abbrev pub same_key : Peer → Peer → Bool
same_key p q = same_part p.part q.part

-- texts of the same mechanism and slot
unfoldable pub same_place : PlacedText → PlacedText → Bool
same_place t u = sameb mechs.the_type t.0 u.0 && sameb slots.the_type t.1 u.1

-- a key that may be missing
abbrev pub key_in : Data → Option (Option (List ℕ))
key_in d = optional (codes "key") None (λ k. option_map (λ b. Some b) (part_in k)) d

-- a peer: `name`, `kind`, and perhaps `key`
unfoldable pub peer_in : Data → Option Peer
peer_in d =
    if is_among (codes "name" ∷ codes "kind" ∷ codes "key" ∷ []) d then
    option_and_then (λ n. option_and_then (λ s. option_map (λ k. record { name = n; is_server = s; part = k })
    (key_in d)) (needed (codes "kind") server_in d)) (needed (codes "name") name_in d)
    else None

-- a rule on texts: `mech`, `slot`, `length`, `prefix`
unfoldable pub rule_in : Data → Option Rule
rule_in d =
    if is_among (codes "mech" ∷ codes "slot" ∷ codes "length" ∷ codes "prefix" ∷ []) d then
    option_and_then (λ m. option_and_then (λ s. option_and_then (λ n.
    option_map (λ b. record { mech = m; slot = s; longest = n; «prefix» = b })
    (needed (codes "prefix") text_in d)) (needed (codes "length") length_in d))
    (needed (codes "slot") slot_in d)) (needed (codes "mech") mech_in d)
    else None

-- a text that is sent: `mech`, `slot`, `text`
unfoldable pub placed_in : Data → Option PlacedText
placed_in d =
    if is_among (codes "mech" ∷ codes "slot" ∷ codes "text" ∷ []) d then
    option_and_then (λ m. option_and_then (λ s. option_map (λ b. (m, s, b))
    (needed (codes "text") text_in d)) (needed (codes "slot") slot_in d)) (needed (codes "mech") mech_in d)
    else None

-- the members that a ring may have
abbrev pub ring_members : List (List ℕ)
ring_members = codes "me" ∷ codes "kind" ∷ codes "stamps" ∷ codes "window" ∷ codes "peers" ∷ codes "allow" ∷ codes "texts" ∷ []

-- the JSON value is this key ring: one line a rule
pub record IsKeyRing (d : Data) (k : KeyRing) : Type 0 where
  pub members : is_among ring_members d ≡ true
  pub me : needed (codes "me") name_in d ≡ Some k.ring.me
  pub kind : needed (codes "kind") server_in d ≡ Some k.ring.is_server
  pub stamps : needed (codes "stamps") stamps_in d ≡ Some k.ring.kind
  pub window : optional (codes "window") 5000 window_in d ≡ Some k.ring.window
  pub peers : needed (codes "peers") (listed peer_in) d ≡ Some k.ring.peers
  pub few_peers : length k.ring.peers ≤ 64
  pub others : list_any (λ p. p.name == k.ring.me) k.ring.peers ≡ false
  pub names : all_differ same_name k.ring.peers ≡ true
  pub keys : all_differ same_key k.ring.peers ≡ true
  pub rules : optional (codes "allow") [] (listed rule_in) d ≡ Some k.rules
  pub texts : optional (codes "texts") [] (listed placed_in) d ≡ Some k.texts
  pub places : all_differ same_place k.texts ≡ true

-- the bytes are a text that JSON reads as this value; of a member that stands twice it keeps the last
pub record IsJson (text : List ℕ) (d : Data) : Type 0 where
  pub utf8 : IsUtf8 text
  pub value : read text ≡ Some d

-- the bytes are this key ring
pub record SaysRing (text : List ℕ) (k : KeyRing) : Type 0 where
  pub value : Data
  pub json : IsJson text value
  pub ring : IsKeyRing value k
