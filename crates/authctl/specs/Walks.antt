-- What the undisturbed run of a mechanism of two parties sends, and what a walk prints of it.
use Rattle.std.specs.Prelude.{◌≡◌, ℕ, suc, ◌+◌, Bool, true, false, List, [], ◌∷◌, ◌++◌, length, codes, Option, Some, None, if◌then◌else◌}
use Rattle.std.specs.Fmt.{decimal}
use Rattle.std.specs.Int.{bytes_high_first}
use Rattle.hex.specs.Hex.{encode_lower}
use Rattle.term_values.specs.Trees.{Bytes, Tree}
use Rattle.term_values.specs.Trees as term
use Rattle.term_values.specs.declared.Stamp.TheVariants.{Time}
use Rattle.tagged_codec.specs.Grammar.{spelling}
use Rattle.mech_rows.specs.declared.Mech.{Mech}
use Rattle.mech_rows.specs.declared.Role.{Role}
use Rattle.mech_rows.specs.declared.Slot.{Slot}
use Rattle.mech_rows.specs.declared.Kind.{Kind}
use Rattle.mech_rows.specs.declared.Kind.TheVariants as kind
use Rattle.mech_rows.specs.Heads.{Head}
use Rattle.mech_rows.specs.Rows.{Pass, kind_of, row_of}
use Rattle.mech_rows.specs.Runs.{Keys, Notes, made, sent_slots}
use Rattle.mech_rows.specs.Facts.{same_slot}
use Rattle.mech_rows.specs.Says.{message}
use Rattle.authctl.specs.declared.words.Walk.{Walk}

-- nonces and parts are drawn
abbrev pub is_drawn : Kind → Bool
is_drawn kind.Nonce = true
is_drawn kind.Part = true
is_drawn _ = false

-- these slots but one
abbrev pub without : Slot → List Slot → List Slot
without s [] = []
without s (t ∷ ts) = if same_slot s t then without s ts else t ∷ without s ts

-- these slots, each where it stands first
abbrev pub each_once : List Slot → List Slot
each_once [] = []
each_once (s ∷ ss) = s ∷ without s (each_once ss)

-- those of these slots that are drawn
abbrev pub drawn_among : List Slot → List Slot
drawn_among [] = []
drawn_among (s ∷ ss) = if is_drawn (kind_of s) then s ∷ drawn_among ss else drawn_among ss

-- the slots that these passes send, in their order
abbrev pub slots_sent : List Pass → List Slot
slots_sent [] = []
slots_sent (p ∷ ps) = sent_slots p ++ slots_sent ps

-- the slots that a mechanism draws, in the order of the draws: each is drawn where it is sent first
abbrev pub drawn_slots : Mech → List Slot
drawn_slots m = drawn_among (each_once (slots_sent (row_of m)))

-- the place of a slot in a list, from 0
abbrev pub place_of : Slot → List Slot → ℕ
place_of s [] = 0
place_of s (t ∷ ts) = if same_slot s t then 0 else suc (place_of s ts)

-- the counted nonce of a number: d0, and the number as 15 bytes
abbrev pub counted_nonce : ℕ → Bytes
counted_nonce k = 0xd0 ∷ bytes_high_first 15 k

-- the counted part of a number: d1, and the number as 31 bytes
abbrev pub counted_part : ℕ → Bytes
counted_part k = 0xd1 ∷ bytes_high_first 31 k

-- the time at which all clocks stand
abbrev pub walk_time : ℕ
walk_time = 1000

-- what a slot of this kind holds at the end: a counted draw by its place among the draws, the time, or the empty text
abbrev pub walk_value : Kind → ℕ → Option Tree
walk_value kind.Nonce k = Some (term.nonce (counted_nonce k))
walk_value kind.Part k = Some (term.part (counted_part k))
walk_value kind.Stamp k = Some (term.stamp (Time walk_time))
walk_value kind.Text k = Some (term.text [])
walk_value kind.Item k = None

-- what both runs have noted at the end: no text is given, and the draws are counted from 0
abbrev pub walk_notes : Mech → Notes
walk_notes m s = walk_value (kind_of s) (place_of s (drawn_slots m))

-- the runs' head, in this role
abbrev pub walk_head : Mech → Walk → Role → Head
walk_head m w r = record { mech = m; role = r; a = w.a; b = w.b; p = None }

-- the one long-term part
abbrev pub walk_keys : Walk → Keys
walk_keys w x y = Some w.part

-- the messages of these passes, from pass k on, each as its sender says it
abbrev pub messages_from : Mech → Walk → ℕ → List Pass → List Tree
messages_from m w k [] = []
messages_from m w k (p ∷ ps) = message (walk_keys w) (walk_head m w p.from) (walk_notes m) made k p ∷ messages_from m w (suc k) ps

-- the messages of the walk
abbrev pub walk_messages : Walk → List Tree
walk_messages w = messages_from w.mech w 0 (row_of w.mech)

-- a message by its number and the digits of its spelling
abbrev pub message_line : ℕ → Bytes → Bytes
message_line k bytes = codes "message " ++ (decimal k ++ (codes " " ++ (encode_lower bytes ++ 10 ∷ [])))

-- how many passes there were
abbrev pub passes_line : ℕ → Bytes
passes_line n = codes "passes " ++ (decimal n ++ 10 ∷ [])

-- a line for each message, the first with this number, and then this text
abbrev pub lines_before : Bytes → ℕ → List Tree → Bytes
lines_before rest k [] = rest
lines_before rest k (t ∷ ts) = message_line k (spelling t) ++ lines_before rest (k + 1) ts

-- what a walk prints: its messages in order, and their number
abbrev pub walk_output : Walk → Bytes
walk_output w = lines_before (passes_line (length (row_of w.mech))) 1 (walk_messages w)
