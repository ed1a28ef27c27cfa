-- Claims of A that rest on an item of B and on an item of its own that B opened before.
use Rattle.std.specs.Prelude.{◌≡◌, ℕ, Bool, true, false, not, List, [], ◌∷◌, Option, Some, None, nat_lt, get_or, ◌&&◌, ◌||◌, if◌then◌else◌}
use Rattle.std.specs.List.{list_all, list_any}
use Rattle.term_values.specs.Trees.{Bytes}
use Rattle.mech_rows.specs.declared.kinds.Mech.{Mech}
use Rattle.mech_rows.specs.declared.kinds.Role.{Role}
use Rattle.mech_rows.specs.declared.kinds.Role.TheVariants.{A, B, P}
use Rattle.mech_rows.specs.declared.kinds.Slot.{Slot}
use Rattle.mech_rows.specs.declared.kinds.Slot.TheVariants.{Ra, Ra2, Fa}
use Rattle.mech_rows.specs.declared.kinds.Kind.{Kind}
use Rattle.mech_rows.specs.declared.kinds.Kind.TheVariants.{Nonce as a_nonce, Stamp as a_stamp, Part as a_part}
use Rattle.mech_rows.specs.Rows.{kind_of, is_stamp, issuer, Cover, Pass, row_of, agreed_of, key_slots}
use Rattle.mech_rows.specs.Facts.{lawful_keys, parts_stand_under_pairs, parts_are_drawn, tags_name_passes, bodies_are_flat, passes_have_two_ends, fa_is_had, peers_make_items, claims_stand_in_one_item, servers_show_fa, pairs_are_of_parties, checks_show_no_parts, stamps_are_covered, stamps_have_one_tag, claims_are_plain, checks_by_family, is_part, same_role, same_slot, is_drawn_under, maker, peer_of, is_one_item}
use Rattle.mech_rows.specs.Runs.{sent_slots, seen_slots}

-- the slot is one of these
abbrev pub stands : Slot → List Slot → Bool
stands u ss = list_any (same_slot u) ss

-- the role sends the slot before it sees it
abbrev pub owns : Role → Slot → List Pass → Bool
owns r u [] = false
owns r u (p ∷ ps) =
    if same_role p.from r && stands u (sent_slots p) then true
    else if same_role p.to r && stands u (seen_slots p) then false
    else owns r u ps

-- nonces, stamps and parts: what is noted at no opening
abbrev pub is_made_kind : Kind → Bool
is_made_kind a_nonce = true
is_made_kind a_stamp = true
is_made_kind a_part = true
is_made_kind _ = false

-- the role draws or issues the slot: it owns it, and it is of a kind that is made
abbrev pub is_own : Role → Slot → List Pass → Bool
is_own r u ps = is_made_kind (kind_of u) && owns r u ps

-- the number of the pass in a tag
abbrev pub pass_number : Bytes → ℕ
pass_number t = get_or t 2 0

-- whoever gets this Fa in an item gets it with the slot, which it owns
abbrev pub fa_comes_with : Role → List Pass → Slot → Bool
fa_comes_with r ps u = is_own r u ps && list_all (λ p. not (same_role p.to r) || list_all (λ g. not (g.seen && stands Fa g.slots) || stands u g.slots) p.covers) ps

-- the two items have a slot in common that the role owns, or both are under the Fa that comes with such a slot
abbrev pub linked : Role → List Pass → Cover → Cover → Bool
linked r ps d e =
    list_any (λ u. stands u d.slots && is_own r u ps) e.slots
    || (is_drawn_under d.under && (is_drawn_under e.under && list_any (fa_comes_with r ps) (Ra ∷ Ra2 ∷ [])))

-- each slot stands in one of the two items, or is the part of the key that the first is under
abbrev pub in_two : List Slot → Cover → Cover → Bool
in_two slots d e = list_all (λ s. stands s d.slots || (stands s e.slots || (is_drawn_under d.under && same_slot s Fa))) slots

-- d is an item of the peer, and e one of the own items that the peer opened before; they are linked, and hold these slots together
abbrev pub two_items : Role → List Slot → List Pass → Cover → Cover → Bool
two_items r slots ps d e =
    ((d.seen && same_role (maker r d.under) (peer_of r)) && (e.made && e.seen))
    && ((same_role (maker (peer_of r) e.under) r && nat_lt (pass_number e.tagged) (pass_number d.tagged)) && (linked r ps d e && in_two slots d e))

-- some two items of these passes are such items
abbrev pub two_rows : Role → List Slot → List Pass → Bool
two_rows r slots ps =
    list_any (λ p. same_role p.to r && list_any (λ d. list_any (λ q. (same_role q.from r && same_role q.to (peer_of r)) && list_any (two_items r slots ps d) q.covers) ps) p.covers) ps

-- the slots of the claim stand in two items, where it does not rest on one
abbrev pub two_test : Mech → Role → Option (List Slot) → Bool
two_test m r None = true
two_test m r (Some slots) = is_one_item m r || two_rows r slots (row_of m)

-- each other claim rests on two items
abbrev pub claims_stand_in_two_items : Mech → Bool
claims_stand_in_two_items m = two_test m A (agreed_of m A) && (two_test m B (agreed_of m B) && two_test m P (agreed_of m P))

-- the role sees the slot before it sends it
abbrev pub hears : Role → Slot → List Pass → Bool
hears r u [] = false
hears r u (p ∷ ps) =
    if same_role p.to r && stands u (seen_slots p) then true
    else if same_role p.from r && stands u (sent_slots p) then false
    else hears r u ps

-- a slot that tells a run from all others of its party: it owns it, or accepts it as a stamp
abbrev pub tells : Role → List Pass → Slot → Bool
tells r ps u = is_own r u ps || (is_stamp (kind_of u) && (hears r u ps && not (same_role (issuer u) P)))

-- some slot of the claim tells the run from others
abbrev pub tells_test : Mech → Role → Option (List Slot) → Bool
tells_test m r None = true
tells_test m r (Some slots) = list_any (tells r (row_of m)) slots

-- what a role agrees on has such a slot
abbrev pub claims_tell_runs : Mech → Bool
claims_tell_runs m = tells_test m A (agreed_of m A) && (tells_test m B (agreed_of m B) && tells_test m P (agreed_of m P))

-- each part of a role's key is its own, or stands in an item that it opens
abbrev pub gets : Role → List Pass → Slot → Bool
gets r ps s = is_own r s ps || list_any (λ p. same_role p.to r && list_any (λ d. d.seen && stands s d.slots) p.covers) ps

-- each slot of that role's key is one that it gets
abbrev pub key_part_is_got : Mech → Role → Bool
key_part_is_got m r = list_all (λ s. is_part s && gets r (row_of m) s) (key_slots m r)

-- each role gets the parts of its key
abbrev pub key_parts_are_got : Mech → Bool
key_parts_are_got m = key_part_is_got m A && (key_part_is_got m B && key_part_is_got m P)

-- all row facts but the first, which speaks of two mechanisms
pub record HasRowFacts (m : Mech) : Type 0 where
  pub lawful_keys_holds : lawful_keys m ≡ true
  pub parts_stand_under_pairs_holds : parts_stand_under_pairs m ≡ true
  pub parts_are_drawn_holds : parts_are_drawn m ≡ true
  pub tags_name_passes_holds : tags_name_passes m ≡ true
  pub bodies_are_flat_holds : bodies_are_flat m ≡ true
  pub passes_have_two_ends_holds : passes_have_two_ends m ≡ true
  pub fa_is_had_holds : fa_is_had m ≡ true
  pub peers_make_items_holds : peers_make_items m ≡ true
  pub claims_stand_in_one_item_holds : claims_stand_in_one_item m ≡ true
  pub servers_show_fa_holds : servers_show_fa m ≡ true
  pub claims_stand_in_two_items_holds : claims_stand_in_two_items m ≡ true
  pub claims_tell_runs_holds : claims_tell_runs m ≡ true
  pub key_parts_are_got_holds : key_parts_are_got m ≡ true
  pub pairs_are_of_parties_holds : pairs_are_of_parties m ≡ true
  pub checks_show_no_parts_holds : checks_show_no_parts m ≡ true
  pub stamps_are_covered_holds : stamps_are_covered m ≡ true
  pub stamps_have_one_tag_holds : stamps_have_one_tag m ≡ true
  pub claims_are_plain_holds : claims_are_plain m ≡ true
  pub checks_by_family_holds : checks_by_family m ≡ true
