-- The row facts, as tests over the table.
use Rattle.std.specs.Prelude.{ℕ, suc, Bool, if◌then◌else◌, true, false, not, List, [], ◌∷◌, ◌++◌, Option, Some, None, ◌==◌, ◌&&◌, ◌||◌, take}
use Rattle.std.specs.List.{list_all, list_any}
use Rattle.term_values.specs.Trees.{Bytes}
use Rattle.term_values.specs.SameBytes.{same_bytes}
use Rattle.mech_rows.specs.declared.kinds.Mech.{Mech}
use Rattle.mech_rows.specs.declared.kinds.Role.{Role}
use Rattle.mech_rows.specs.declared.kinds.Role.TheVariants.{A, B, P}
use Rattle.mech_rows.specs.declared.kinds.Slot.{Slot}
use Rattle.mech_rows.specs.declared.kinds.Slot.TheVariants.{Ra, Rb, Ra2, Ta, Tb, Tp, Fa, Fb, X1, X2, X3, X4, X5, X6, X7, X8, X9, Fwd}
use Rattle.mech_rows.specs.declared.kinds.Under.{Under}
use Rattle.mech_rows.specs.declared.kinds.Under.TheVariants.{Pair, Drawn}
use Rattle.mech_rows.specs.declared.kinds.Clear.{Clear}
use Rattle.mech_rows.specs.declared.kinds.Clear.TheVariants.{Slot as Shown, NameOfB}
use Rattle.mech_rows.specs.Rows.{Cover, Pass, family, number, row_of, has_third, pairs_of, agreed_of, kind_of, is_stamp}
use Rattle.mech_rows.specs.declared.kinds.Mech.TheVariants.{E3, C3}

-- a number for each role, so that roles can be compared by a test
abbrev pub role_number : Role → ℕ
role_number A = 0
role_number B = 1
role_number P = 2

-- the two roles are one
abbrev pub same_role : Role → Role → Bool
same_role x y = role_number x == role_number y

-- a number for each slot
abbrev pub slot_number : Slot → ℕ
slot_number Ra = 0
slot_number Rb = 1
slot_number Ra2 = 2
slot_number Ta = 3
slot_number Tb = 4
slot_number Tp = 5
slot_number Fa = 6
slot_number Fb = 7
slot_number X1 = 8
slot_number X2 = 9
slot_number X3 = 10
slot_number X4 = 11
slot_number X5 = 12
slot_number X6 = 13
slot_number X7 = 14
slot_number X8 = 15
slot_number X9 = 16
slot_number Fwd = 17

-- the two slots are one
abbrev pub same_slot : Slot → Slot → Bool
same_slot s t = slot_number s == slot_number t

-- the same slots in the same order
abbrev pub same_slots : List Slot → List Slot → Bool
same_slots [] [] = true
same_slots (s ∷ ss) (t ∷ ts) = same_slot s t && same_slots ss ts
same_slots _ _ = false

-- the two items have their key from the same place
abbrev pub same_under : Under → Under → Bool
same_under (Pair x y) (Pair u v) = same_role x u && same_role y v
same_under Drawn Drawn = true
same_under _ _ = false

-- the two mechanisms are one: no two have both family and number alike
abbrev pub same_mech : Mech → Mech → Bool
same_mech m n = (family m == family n) && (number m == number n)

-- what stands in the slot is a part of a key
abbrev pub is_part : Slot → Bool
is_part Fa = true
is_part Fb = true
is_part _ = false

-- all protected items of the passes, in order
abbrev pub covers_of : List Pass → List Cover
covers_of [] = []
covers_of (p ∷ ps) = p.covers ++ covers_of ps

-- each pair of protected items of the two rows passes the test
abbrev pub all_covers : (Cover → Cover → Bool) → Mech → Mech → Bool
all_covers test m n = list_all (λ c. list_all (test c) (covers_of (row_of n))) (covers_of (row_of m))

-- the two items have the same slots, and their key from the same place
abbrev pub same_body : Cover → Cover → Bool
same_body c d = same_slots c.slots d.slots && same_under c.under d.under

-- of the two mechanisms, protected items with one tag are one item
abbrev pub one_tag_one_body : Mech → Mech → Bool
one_tag_one_body m n = all_covers (λ c d. not (same_bytes c.tagged d.tagged) || (same_mech m n && same_body c d)) m n

-- where a key may come from: from two roles that share a long-term part in this mechanism, or from the drawn part where there is a third party
abbrev pub lawful_under : Mech → Under → Bool
lawful_under m (Pair x y) = list_any (λ (q : Role × Role). same_role q.0 x && same_role q.1 y) (pairs_of m)
lawful_under m Drawn = has_third m

-- each protected item has its key from where it may
abbrev pub lawful_keys : Mech → Bool
lawful_keys m = list_all (λ c. lawful_under m c.under) (covers_of (row_of m))

-- a clear item shows no part of a key
abbrev pub clear_is_no_part : Clear → Bool
clear_is_no_part (Shown s) = not (is_part s)
clear_is_no_part NameOfB = true

-- the key is a long-term one
abbrev pub is_pair : Under → Bool
is_pair (Pair x y) = true
is_pair Drawn = false

-- parts are sent in bodies under long-term keys, and nowhere else
abbrev pub parts_stand_under_pairs : Mech → Bool
parts_stand_under_pairs m = list_all (λ p. list_all clear_is_no_part p.clear && list_all (λ c. is_pair c.under || not (list_any is_part c.slots)) p.covers) (row_of m)

-- the slots of the protected items of a pass in which the role acts
abbrev pub covered_slots : List Cover → List Slot
covered_slots [] = []
covered_slots (c ∷ cs) = c.slots ++ covered_slots cs

-- the role sends the pass or receives it
abbrev pub acts : Role → Pass → Bool
acts r p = same_role r p.from || same_role r p.to

-- the role that makes a body with a part slot draws that part: no earlier pass in which it acts has that slot
abbrev pub draws_own : Pass → Pass → Bool
draws_own earlier p = list_all (λ c. not c.made || list_all (λ s. not (is_part s) || not (acts p.from earlier && list_any (same_slot s) (covered_slots earlier.covers))) c.slots) p.covers

-- that, of each pass and each later one
abbrev pub each_draws_own : List Pass → Bool
each_draws_own [] = true
each_draws_own (p ∷ ps) = list_all (draws_own p) ps && each_draws_own ps

-- parts are made fresh by who first sends them
abbrev pub parts_are_drawn : Mech → Bool
parts_are_drawn m = each_draws_own (row_of m)

-- what the sender makes in pass k has the mechanism and k in its tag
abbrev pub made_in : Mech → ℕ → Pass → Bool
made_in m k p = list_all (λ c. not c.made || (same_bytes (take 3 c.tagged) (family m ∷ number m ∷ k ∷ []))) p.covers

-- that, of each pass; the first of these passes has number k
abbrev pub all_made : Mech → ℕ → List Pass → Bool
all_made m k [] = true
all_made m k (p ∷ ps) = made_in m k p && all_made m (suc k) ps

-- tags name the pass in which their item is made
abbrev pub tags_name_passes : Mech → Bool
tags_name_passes m = all_made m 1 (row_of m)

-- clear items and bodies have nonces, stamps, texts and parts alone, so no seal, check or blob stands in a body
abbrev pub is_fwd : Slot → Bool
is_fwd Fwd = true
is_fwd _ = false

-- the clear item is no forwarded one
abbrev pub clear_is_no_fwd : Clear → Bool
clear_is_no_fwd (Shown s) = not (is_fwd s)
clear_is_no_fwd NameOfB = true

-- nothing protected stands inside a body or among the clear items
abbrev pub bodies_are_flat : Mech → Bool
bodies_are_flat m = list_all (λ p. list_all clear_is_no_fwd p.clear && list_all (λ c. not (list_any is_fwd c.slots)) p.covers) (row_of m)

-- no pass goes from a role to itself
abbrev pub passes_have_two_ends : Mech → Bool
passes_have_two_ends m = list_all (λ p. not (same_role p.from p.to)) (row_of m)

-- whoever makes or opens an item under One(Fa) has Fa by then: it saw Fa in this pass or an earlier one
abbrev pub shows_fa : Role → Pass → Bool
shows_fa r p = same_role r p.to && list_any (λ c. c.seen && list_any (same_slot Fa) c.slots) p.covers

-- the key is that of the drawn part
abbrev pub is_drawn_under : Under → Bool
is_drawn_under Drawn = true
is_drawn_under (Pair x y) = false

-- that, of each of these passes, where the role has seen the passes before
abbrev pub has_fa_by_then : List Pass → List Pass → Bool
has_fa_by_then before [] = true
has_fa_by_then before (p ∷ ps) =
    list_all (λ c. not (is_drawn_under c.under) || ((not c.made || list_any (shows_fa p.from) (p ∷ before)) && (not c.seen || list_any (shows_fa p.to) (p ∷ before)))) p.covers
    && has_fa_by_then (p ∷ before) ps

-- who uses the drawn key has seen it
abbrev pub fa_is_had : Mech → Bool
fa_is_had m = has_fa_by_then [] (row_of m)

-- what a role opens or tests was made by its peer, or by P where it is under P's key
abbrev pub peer_of : Role → Role
peer_of A = B
peer_of B = A
peer_of P = P

-- who makes the items that the role opens under that key
abbrev pub maker : Role → Under → Role
maker r (Pair x P) = P
maker r (Pair x y) = peer_of r
maker r Drawn = peer_of r

-- what a role opens was made by its peer, or by the third party
abbrev pub peers_make_items : Mech → Bool
peers_make_items m = list_all (λ p. list_all (λ c. not c.seen || list_all (λ q. list_all (λ d. not (d.made && same_bytes c.tagged d.tagged) || same_role q.from (maker p.to c.under)) q.covers) (row_of m)) p.covers) (row_of m)

-- the slots that a role agrees on stand in one item of its peer, but for the Fa of its key; not of A where more than one item is needed
abbrev pub in_one_item : Role → Role → List Slot → Cover → Bool
in_one_item x r slots d = d.seen && (same_role (maker r d.under) x && list_all (λ s. list_any (same_slot s) d.slots || (is_drawn_under d.under && same_slot s Fa)) slots)

-- some item of these passes is such an item
abbrev pub in_one_row : Role → Role → List Slot → List Pass → Bool
in_one_row x r slots ps = list_any (λ p. same_role p.to r && list_any (in_one_item x r slots) p.covers) ps

-- the claim of that role rests on one item
abbrev pub is_one_item : Mech → Role → Bool
is_one_item m B = true
is_one_item E3 A = true
is_one_item C3 A = true
is_one_item _ _ = false

-- the slots of the claim stand in one item, where it rests on one
abbrev pub agreed_test : Mech → Role → Option (List Slot) → Bool
agreed_test m r None = true
agreed_test m r (Some slots) = not (is_one_item m r) || in_one_row (peer_of r) r slots (row_of m)

-- claims that rest on one item do so
abbrev pub claims_stand_in_one_item : Mech → Bool
claims_stand_in_one_item m = agreed_test m A (agreed_of m A) && (agreed_test m B (agreed_of m B) && agreed_test m P (agreed_of m P))

-- with a third party, A and B get Fa in an item of P's
abbrev pub servers_show_fa : Mech → Bool
servers_show_fa m = not (has_third m) || (in_one_row P A (Fa ∷ []) (row_of m) && in_one_row P B (Fa ∷ []) (row_of m))

-- who makes, opens or tests an item under a long-term pair is one of the two. No law of worlds rests on it, but each role's ring has its keys
abbrev pub is_party : Role → Under → Bool
is_party r (Pair x y) = same_role r x || same_role r y
is_party r Drawn = true

-- who uses a long-term key is one of its two parties
abbrev pub pairs_are_of_parties : Mech → Bool
pairs_are_of_parties m = list_all (λ p. list_all (λ c. (not c.made || is_party p.from c.under) && (not c.seen || is_party p.to c.under)) p.covers) (row_of m)

-- no check has a part slot
abbrev pub checks_show_no_parts : Mech → Bool
checks_show_no_parts m = list_all (λ p. list_all (λ c. not c.is_check || not (list_any is_part c.slots)) p.covers) (row_of m)

-- the tag of the first of the items that the receiver opens or tests in which the slot stands
abbrev pub tag_among : Slot → List Cover → Option Bytes
tag_among u [] = None
tag_among u (c ∷ cs) = if c.seen && list_any (same_slot u) c.slots then Some c.tagged else tag_among u cs

-- the first of the two that is there
abbrev pub first_tag : Option Bytes → Option Bytes → Option Bytes
first_tag None other = other
first_tag (Some t) other = Some t

-- the tag of the first item in which the role sees the slot
abbrev pub judged_tag : Role → Slot → List Pass → Option Bytes
judged_tag r u [] = None
judged_tag r u (p ∷ ps) = first_tag (if same_role p.to r then tag_among u p.covers else None) (judged_tag r u ps)

-- the tag is there, and is that one
abbrev pub is_tag : Bytes → Option Bytes → Bool
is_tag t None = false
is_tag t (Some u) = same_bytes t u

-- a stamp slot that a role sees in a pass stands there in an item that it opens or tests
abbrev pub covers_stamp : Pass → Clear → Bool
covers_stamp p NameOfB = true
covers_stamp p (Shown s) = not (is_stamp (kind_of s)) || list_any (λ c. c.seen && list_any (same_slot s) c.slots) p.covers

-- stamps are shown in protected items
abbrev pub stamps_are_covered : Mech → Bool
stamps_are_covered m = list_all (λ p. list_all (covers_stamp p) p.clear) (row_of m)

-- and each such item has the tag of the first one
abbrev pub stamps_have_one_tag : Mech → Bool
stamps_have_one_tag m = list_all (λ p. list_all (λ c. not c.seen || list_all (λ s. not (is_stamp (kind_of s)) || is_tag c.tagged (judged_tag p.to s (row_of m))) c.slots) p.covers) (row_of m)

-- no agreed slot is Fwd
abbrev pub plain_slots : Option (List Slot) → Bool
plain_slots None = true
plain_slots (Some slots) = list_all (λ s. not (is_fwd s)) slots

-- claims speak of no forwarded item
abbrev pub claims_are_plain : Mech → Bool
claims_are_plain m = plain_slots (agreed_of m A) && (plain_slots (agreed_of m B) && plain_slots (agreed_of m P))

-- family 02 has checks, and each other family seals
abbrev pub checks_by_family : Mech → Bool
checks_by_family m = list_all (λ p. list_all (λ c. if family m == 2 then c.is_check else not c.is_check) p.covers) (row_of m)
