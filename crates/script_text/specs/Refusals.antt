-- How refusals are printed: the number, the name and each field, with a blank before each but the first.
use Rattle.std.specs.Prelude.{ℕ, List, [], ◌∷◌, ◌++◌, codes}
use Rattle.std.specs.Fmt.{decimal}
use Rattle.term_values.specs.declared.Why.{Why}
use Rattle.term_values.specs.declared.Why.TheVariants as why
use Rattle.mech_rows.specs.declared.Slot.{Slot}
use Rattle.mech_rows.specs.declared.Slot.TheVariants as slot
use Rattle.mech_rows.specs.declared.Refusal.{Refusal}
use Rattle.mech_rows.specs.declared.Refusal.TheVariants.{UnknownRun, EndedRun, Malformed, WrongPass, Unopened, WrongShape, WrongNames, WrongValue, WrongStampKind, Early, Late, Repeated, StoreFull, TextRefused, NotDerivable, Unborn, NoSecret, UnknownParty, WrongKind, SelfPeer, NoKey, TableFull, StampsSpent, DrawFault, Moved, KeeperFault, Memory}
use Rattle.mech_rows.specs.Codes.{code_of}
use Rattle.script_text.specs.Notation.{stamp_notation}

-- the name of a reason for which bytes are no spelling
abbrev pub why_name : Why → List ℕ
why_name why.Kind = codes "Kind"
why_name why.Short = codes "Short"
why_name why.ZeroName = codes "ZeroName"
why_name why.LongText = codes "LongText"
why_name why.LongBlob = codes "LongBlob"
why_name why.ManyItems = codes "ManyItems"
why_name why.Deep = codes "Deep"
why_name why.LongMessage = codes "LongMessage"
why_name why.Extra = codes "Extra"

-- the name of a slot
abbrev pub slot_name : Slot → List ℕ
slot_name slot.Ra = codes "Ra"
slot_name slot.Rb = codes "Rb"
slot_name slot.Ra2 = codes "Ra2"
slot_name slot.Ta = codes "Ta"
slot_name slot.Tb = codes "Tb"
slot_name slot.Tp = codes "Tp"
slot_name slot.Fa = codes "Fa"
slot_name slot.Fb = codes "Fb"
slot_name slot.X1 = codes "X1"
slot_name slot.X2 = codes "X2"
slot_name slot.X3 = codes "X3"
slot_name slot.X4 = codes "X4"
slot_name slot.X5 = codes "X5"
slot_name slot.X6 = codes "X6"
slot_name slot.X7 = codes "X7"
slot_name slot.X8 = codes "X8"
slot_name slot.X9 = codes "X9"
slot_name slot.Fwd = codes "Fwd"

-- the name of a refusal
abbrev pub refusal_name : Refusal → List ℕ
refusal_name UnknownRun = codes "UnknownRun"
refusal_name EndedRun = codes "EndedRun"
refusal_name (Malformed _ _) = codes "Malformed"
refusal_name WrongPass = codes "WrongPass"
refusal_name (Unopened _) = codes "Unopened"
refusal_name (WrongShape _) = codes "WrongShape"
refusal_name (WrongNames _) = codes "WrongNames"
refusal_name (WrongValue _ _) = codes "WrongValue"
refusal_name (WrongStampKind _) = codes "WrongStampKind"
refusal_name (Early _ _) = codes "Early"
refusal_name (Late _ _) = codes "Late"
refusal_name (Repeated _) = codes "Repeated"
refusal_name (StoreFull _) = codes "StoreFull"
refusal_name (TextRefused _) = codes "TextRefused"
refusal_name NotDerivable = codes "NotDerivable"
refusal_name Unborn = codes "Unborn"
refusal_name NoSecret = codes "NoSecret"
refusal_name UnknownParty = codes "UnknownParty"
refusal_name WrongKind = codes "WrongKind"
refusal_name SelfPeer = codes "SelfPeer"
refusal_name NoKey = codes "NoKey"
refusal_name TableFull = codes "TableFull"
refusal_name StampsSpent = codes "StampsSpent"
refusal_name DrawFault = codes "DrawFault"
refusal_name (Moved _ _) = codes "Moved"
refusal_name KeeperFault = codes "KeeperFault"
refusal_name Memory = codes "Memory"

-- a field with the blank before it
abbrev pub field : List ℕ → List ℕ
field word = 32 ∷ word

-- the fields of a refusal
abbrev pub refusal_fields : Refusal → List ℕ
refusal_fields UnknownRun = []
refusal_fields EndedRun = []
refusal_fields (Malformed place' why') = field (decimal place') ++ field (why_name why')
refusal_fields WrongPass = []
refusal_fields (Unopened part') = field (decimal part')
refusal_fields (WrongShape part') = field (decimal part')
refusal_fields (WrongNames part') = field (decimal part')
refusal_fields (WrongValue part' slot') = field (decimal part') ++ field (slot_name slot')
refusal_fields (WrongStampKind slot') = field (slot_name slot')
refusal_fields (Early slot' at') = field (slot_name slot') ++ field (decimal at')
refusal_fields (Late slot' at') = field (slot_name slot') ++ field (decimal at')
refusal_fields (Repeated stamp') = field (stamp_notation stamp')
refusal_fields (StoreFull count') = field (decimal count')
refusal_fields (TextRefused slot') = field (slot_name slot')
refusal_fields NotDerivable = []
refusal_fields Unborn = []
refusal_fields NoSecret = []
refusal_fields UnknownParty = []
refusal_fields WrongKind = []
refusal_fields SelfPeer = []
refusal_fields NoKey = []
refusal_fields TableFull = []
refusal_fields StampsSpent = []
refusal_fields DrawFault = []
refusal_fields (Moved made' held') = field (decimal made') ++ field (decimal held')
refusal_fields KeeperFault = []
refusal_fields Memory = []

-- a refusal as it is printed
abbrev pub refusal_text : Refusal → List ℕ
refusal_text r = decimal (code_of r) ++ 32 ∷ (refusal_name r ++ refusal_fields r)
