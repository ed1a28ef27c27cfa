-- The sixteen mechanisms as data: for each pass its sender, its receiver, its clear items and its protected items.
use Rattle.std.specs.Prelude.{ℕ, Bool, true, false, List, [], ◌∷◌, map, Option, Some, None, if◌then◌else◌}
use Rattle.term_values.specs.Trees.{Bytes}
use Rattle.mech_rows.specs.declared.kinds.Mech.{Mech}
use Rattle.mech_rows.specs.declared.kinds.Mech.TheVariants.{E1, E2, E3, E4, E5, E6, C1, C2, C3, C4, K3, K4, K5, K6, K8, K9}
use Rattle.mech_rows.specs.declared.kinds.Role.{Role}
use Rattle.mech_rows.specs.declared.kinds.Role.TheVariants.{A, B, P}
use Rattle.mech_rows.specs.declared.kinds.Slot.{Slot}
use Rattle.mech_rows.specs.declared.kinds.Slot.TheVariants.{Ra, Rb, Ra2, Ta, Tb, Tp, Fa, Fb, X1, X2, X3, X4, X5, X6, X7, X8, X9, Fwd}
use Rattle.mech_rows.specs.declared.kinds.Clear.{Clear}
use Rattle.mech_rows.specs.declared.kinds.Clear.TheVariants.{Slot as Shown, NameOfB}
use Rattle.mech_rows.specs.declared.kinds.Kind.{Kind}
use Rattle.mech_rows.specs.declared.kinds.Kind.TheVariants.{Nonce as a_nonce, Stamp as a_stamp, Part as a_part, Text as a_text, Item as an_item}
use Rattle.mech_rows.specs.declared.kinds.Under.{Under}
use Rattle.mech_rows.specs.declared.kinds.Under.TheVariants.{Pair, Drawn}

-- what may stand in a slot
abbrev pub kind_of : Slot → Kind
kind_of Ra = a_nonce
kind_of Rb = a_nonce
kind_of Ra2 = a_nonce
kind_of Ta = a_stamp
kind_of Tb = a_stamp
kind_of Tp = a_stamp
kind_of Fa = a_part
kind_of Fb = a_part
kind_of Fwd = an_item
kind_of _ = a_text

-- the kind is a stamp
abbrev pub is_stamp : Kind → Bool
is_stamp a_stamp = true
is_stamp _ = false

-- who issues a stamp slot
abbrev pub issuer : Slot → Role
issuer Tb = B
issuer Tp = P
issuer _ = A

-- a protected item. `made`: the sender makes it, and else forwards it. `seen`: the receiver opens or tests it, and else keeps it as Fwd
pub record Cover : Type 0 where
  pub is_check : Bool
  pub under : Under
  pub tagged : Bytes
  pub slots : List Slot
  pub made : Bool
  pub seen : Bool

-- a pass: who sends it to whom, its clear items, and its protected items
pub record Pass : Type 0 where
  pub from : Role
  pub to : Role
  pub clear : List Clear
  pub covers : List Cover

-- the first byte of a mechanism's tags
abbrev pub family : Mech → ℕ
family E1 = 1
family E2 = 1
family E3 = 1
family E4 = 1
family E5 = 1
family E6 = 1
family C1 = 2
family C2 = 2
family C3 = 2
family C4 = 2
family _ = 3

-- the second byte: the number of the mechanism in its family
abbrev pub number : Mech → ℕ
number E1 = 1
number E2 = 2
number E3 = 3
number E4 = 4
number E5 = 5
number E6 = 6
number C1 = 1
number C2 = 2
number C3 = 3
number C4 = 4
number K3 = 3
number K4 = 4
number K5 = 5
number K6 = 6
number K8 = 8
number K9 = 9

-- the tag of that pass and place; place 0 is that of the message itself
abbrev pub tag_of : Mech → ℕ → ℕ → Bytes
tag_of m pass place = family m ∷ number m ∷ pass ∷ place ∷ []

-- S(k: slots), made by the sender and opened by the receiver
abbrev pub S : Mech → ℕ → ℕ → Under → List Slot → Cover
S m pass place under slots = record { is_check = false; under = under; tagged = tag_of m pass place; slots = slots; made = true; seen = true }

-- C(k: slots), made by the sender and tested by the receiver
abbrev pub C : Mech → ℕ → ℕ → Under → List Slot → Cover
C m pass place under slots = record { is_check = true; under = under; tagged = tag_of m pass place; slots = slots; made = true; seen = true }

-- that item, which its receiver does not open
abbrev pub unread : Cover → Cover
unread c = record c { seen = false }

-- that item, which its sender forwards
abbrev pub forwarded : Cover → Cover
forwarded c = record c { made = false; seen = true }

-- the pass from x to y with these items
abbrev pub pass_from : Role → Role → List Clear → List Cover → Pass
pass_from x y clear covers = record { from = x; to = y; clear = clear; covers = covers }

-- these slots as clear items
abbrev pub shown : List Slot → List Clear
shown = map Shown

-- E5 and K8
abbrev pub third_by_stamps : Mech → List Pass
third_by_stamps m =
    let ticket = S m 2 2 (Pair B P) (Tp ∷ Fa ∷ X2 ∷ []) in
    pass_from A P (Shown Ra ∷ NameOfB ∷ Shown X1 ∷ []) []
    ∷ pass_from P A (shown (X4 ∷ [])) (S m 2 1 (Pair A P) (Ra ∷ Fa ∷ X3 ∷ []) ∷ unread ticket ∷ [])
    ∷ pass_from A B (shown (X6 ∷ [])) (forwarded ticket ∷ S m 3 2 Drawn (Ta ∷ X5 ∷ []) ∷ [])
    ∷ pass_from B A (shown (X8 ∷ [])) (S m 4 1 Drawn (Tb ∷ X7 ∷ []) ∷ [])
    ∷ []

-- E6 and K9
abbrev pub third_by_nonces : Mech → List Pass
third_by_nonces m =
    let ticket = S m 3 2 (Pair B P) (Rb ∷ Fa ∷ X3 ∷ []) in
    pass_from B A (shown (Rb ∷ X1 ∷ [])) []
    ∷ pass_from A P (Shown Ra2 ∷ Shown Rb ∷ NameOfB ∷ Shown X2 ∷ []) []
    ∷ pass_from P A (shown (X5 ∷ [])) (S m 3 1 (Pair A P) (Ra2 ∷ Fa ∷ X4 ∷ []) ∷ unread ticket ∷ [])
    ∷ pass_from A B (shown (X7 ∷ [])) (forwarded ticket ∷ S m 4 2 Drawn (Ra ∷ Rb ∷ X6 ∷ []) ∷ [])
    ∷ pass_from B A (shown (X9 ∷ [])) (S m 5 1 Drawn (Rb ∷ Ra ∷ X8 ∷ []) ∷ [])
    ∷ []

-- the passes of the mechanism, in order
abbrev pub row_of : Mech → List Pass
row_of E1 = pass_from A B (shown (X2 ∷ [])) (S E1 1 1 (Pair A B) (Ta ∷ X1 ∷ []) ∷ []) ∷ []
row_of E2 =
    pass_from B A (shown (Rb ∷ X1 ∷ [])) []
    ∷ pass_from A B (shown (X3 ∷ [])) (S E2 2 1 (Pair A B) (Rb ∷ X2 ∷ []) ∷ [])
    ∷ []
row_of E3 =
    pass_from A B (shown (X2 ∷ [])) (S E3 1 1 (Pair A B) (Ta ∷ X1 ∷ []) ∷ [])
    ∷ pass_from B A (shown (X4 ∷ [])) (S E3 2 1 (Pair A B) (Tb ∷ X3 ∷ []) ∷ [])
    ∷ []
row_of E4 =
    pass_from B A (shown (Rb ∷ X1 ∷ [])) []
    ∷ pass_from A B (shown (X3 ∷ [])) (S E4 2 1 (Pair A B) (Ra ∷ Rb ∷ X2 ∷ []) ∷ [])
    ∷ pass_from B A (shown (X5 ∷ [])) (S E4 3 1 (Pair A B) (Rb ∷ Ra ∷ X4 ∷ []) ∷ [])
    ∷ []
row_of E5 = third_by_stamps E5
row_of E6 = third_by_nonces E6
row_of C1 = pass_from A B (shown (Ta ∷ X1 ∷ X2 ∷ [])) (C C1 1 1 (Pair A B) (Ta ∷ X1 ∷ []) ∷ []) ∷ []
row_of C2 =
    pass_from B A (shown (Rb ∷ X1 ∷ [])) []
    ∷ pass_from A B (shown (X2 ∷ X3 ∷ [])) (C C2 2 1 (Pair A B) (Rb ∷ X2 ∷ []) ∷ [])
    ∷ []
row_of C3 =
    pass_from A B (shown (Ta ∷ X1 ∷ X2 ∷ [])) (C C3 1 1 (Pair A B) (Ta ∷ X1 ∷ []) ∷ [])
    ∷ pass_from B A (shown (Tb ∷ X3 ∷ X4 ∷ [])) (C C3 2 1 (Pair A B) (Tb ∷ X3 ∷ []) ∷ [])
    ∷ []
row_of C4 =
    pass_from B A (shown (Rb ∷ X1 ∷ [])) []
    ∷ pass_from A B (shown (Ra ∷ X2 ∷ X3 ∷ [])) (C C4 2 1 (Pair A B) (Ra ∷ Rb ∷ X2 ∷ []) ∷ [])
    ∷ pass_from B A (shown (X4 ∷ X5 ∷ [])) (C C4 3 1 (Pair A B) (Rb ∷ Ra ∷ X4 ∷ []) ∷ [])
    ∷ []
row_of K3 = pass_from A B [] (S K3 1 1 (Pair A B) (Ta ∷ Fa ∷ X1 ∷ []) ∷ []) ∷ []
row_of K4 =
    pass_from B A (shown (Rb ∷ [])) []
    ∷ pass_from A B [] (S K4 2 1 (Pair A B) (Rb ∷ Fa ∷ X1 ∷ []) ∷ [])
    ∷ []
row_of K5 =
    pass_from A B [] (S K5 1 1 (Pair A B) (Ta ∷ Fa ∷ X1 ∷ []) ∷ [])
    ∷ pass_from B A [] (S K5 2 1 (Pair A B) (Tb ∷ Ta ∷ Fb ∷ X2 ∷ []) ∷ [])
    ∷ []
row_of K6 =
    pass_from B A (shown (Rb ∷ X1 ∷ [])) []
    ∷ pass_from A B [] (S K6 2 1 (Pair A B) (Ra ∷ Rb ∷ Fa ∷ X2 ∷ []) ∷ [])
    ∷ pass_from B A [] (S K6 3 1 (Pair A B) (Rb ∷ Ra ∷ Fb ∷ X3 ∷ []) ∷ [])
    ∷ []
row_of K8 = third_by_stamps K8
row_of K9 = third_by_nonces K9

-- all mechanisms
abbrev pub mechs : List Mech
mechs = E1 ∷ E2 ∷ E3 ∷ E4 ∷ E5 ∷ E6 ∷ C1 ∷ C2 ∷ C3 ∷ C4 ∷ K3 ∷ K4 ∷ K5 ∷ K6 ∷ K8 ∷ K9 ∷ []

-- there is a third party
abbrev pub has_third : Mech → Bool
has_third E5 = true
has_third E6 = true
has_third K8 = true
has_third K9 = true
has_third _ = false

-- the long-term pairs of the row
abbrev pub pairs_of : Mech → List (Role × Role)
pairs_of m = if has_third m then (A, P) ∷ (B, P) ∷ [] else (A, B) ∷ []

-- the slots that a completion's run agrees on with its partner
abbrev pub agreed_of : Mech → Role → Option (List Slot)
agreed_of E1 B = Some (Ta ∷ X1 ∷ [])
agreed_of C1 B = Some (Ta ∷ X1 ∷ [])
agreed_of E2 B = Some (Rb ∷ X2 ∷ [])
agreed_of C2 B = Some (Rb ∷ X2 ∷ [])
agreed_of E3 B = Some (Ta ∷ X1 ∷ [])
agreed_of C3 B = Some (Ta ∷ X1 ∷ [])
agreed_of E3 A = Some (Tb ∷ X3 ∷ [])
agreed_of C3 A = Some (Tb ∷ X3 ∷ [])
agreed_of E4 B = Some (Ra ∷ Rb ∷ X2 ∷ [])
agreed_of C4 B = Some (Ra ∷ Rb ∷ X2 ∷ [])
agreed_of E4 A = Some (Ra ∷ Rb ∷ X2 ∷ X4 ∷ [])
agreed_of C4 A = Some (Ra ∷ Rb ∷ X2 ∷ X4 ∷ [])
agreed_of E5 B = Some (Fa ∷ Ta ∷ X5 ∷ [])
agreed_of K8 B = Some (Fa ∷ Ta ∷ X5 ∷ [])
agreed_of E5 A = Some (Fa ∷ Ta ∷ X5 ∷ Tb ∷ X7 ∷ [])
agreed_of K8 A = Some (Fa ∷ Ta ∷ X5 ∷ Tb ∷ X7 ∷ [])
agreed_of E6 B = Some (Fa ∷ Ra ∷ Rb ∷ X6 ∷ [])
agreed_of K9 B = Some (Fa ∷ Ra ∷ Rb ∷ X6 ∷ [])
agreed_of E6 A = Some (Fa ∷ Ra ∷ Rb ∷ X6 ∷ X8 ∷ [])
agreed_of K9 A = Some (Fa ∷ Ra ∷ Rb ∷ X6 ∷ X8 ∷ [])
agreed_of K3 B = Some (Ta ∷ Fa ∷ X1 ∷ [])
agreed_of K4 B = Some (Rb ∷ Fa ∷ X1 ∷ [])
agreed_of K5 B = Some (Ta ∷ Fa ∷ X1 ∷ [])
agreed_of K5 A = Some (Ta ∷ Fa ∷ X1 ∷ Tb ∷ Fb ∷ X2 ∷ [])
agreed_of K6 B = Some (Ra ∷ Rb ∷ Fa ∷ X2 ∷ [])
agreed_of K6 A = Some (Ra ∷ Rb ∷ Fa ∷ X2 ∷ Fb ∷ X3 ∷ [])
agreed_of _ _ = None

-- the slots of the session key's parts
abbrev pub key_slots : Mech → Role → List Slot
key_slots _ P = []
key_slots E5 _ = Fa ∷ []
key_slots E6 _ = Fa ∷ []
key_slots K3 _ = Fa ∷ []
key_slots K4 _ = Fa ∷ []
key_slots K8 _ = Fa ∷ []
key_slots K9 _ = Fa ∷ []
key_slots K5 _ = Fa ∷ Fb ∷ []
key_slots K6 _ = Fa ∷ Fb ∷ []
key_slots _ _ = []
