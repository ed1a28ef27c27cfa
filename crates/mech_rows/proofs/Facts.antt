-- The row facts hold, by computing.
use Rattle.std.proofs.Common.{◌≡◌, true, refl, ◌&&◌, inl, inr}
use Rattle.std.specs.List.{list_all}
use Rattle.term_values.specs.Trees.{Among}
use Rattle.mech_rows.specs.declared.kinds.Mech.{Mech}
use Rattle.mech_rows.specs.Rows.{mechs}
use Rattle.mech_rows.specs.declared.kinds.Mech.TheVariants.{E1, E2, E3, E4, E5, E6, C1, C2, C3, C4, K3, K4, K5, K6, K8, K9}
use Rattle.mech_rows.specs.Facts.{one_tag_one_body, lawful_keys, parts_stand_under_pairs, parts_are_drawn, tags_name_passes, bodies_are_flat, passes_have_two_ends, fa_is_had, peers_make_items, claims_stand_in_one_item, servers_show_fa, pairs_are_of_parties, checks_show_no_parts, stamps_are_covered, stamps_have_one_tag, claims_are_plain, checks_by_family}
use Rattle.mech_rows.specs.Rounds.{HasRowFacts, claims_stand_in_two_items, claims_tell_runs, key_parts_are_got}
use Rattle.term_values.proofs.Lists.{all_among}

pub all_facts : list_all (λ m. list_all (one_tag_one_body m) mechs && (lawful_keys m && (parts_stand_under_pairs m && (parts_are_drawn m && (tags_name_passes m && (bodies_are_flat m && (passes_have_two_ends m && (fa_is_had m && peers_make_items m)))))))) mechs ≡ true
all_facts = refl

pub lawful_keys_holds : (m : Mech) → lawful_keys m ≡ true
lawful_keys_holds E1 = refl
lawful_keys_holds _ = refl

pub parts_stand_under_pairs_holds : (m : Mech) → parts_stand_under_pairs m ≡ true
parts_stand_under_pairs_holds E1 = refl
parts_stand_under_pairs_holds _ = refl

pub parts_are_drawn_holds : (m : Mech) → parts_are_drawn m ≡ true
parts_are_drawn_holds E1 = refl
parts_are_drawn_holds _ = refl

pub tags_name_passes_holds : (m : Mech) → tags_name_passes m ≡ true
tags_name_passes_holds E1 = refl
tags_name_passes_holds _ = refl

pub bodies_are_flat_holds : (m : Mech) → bodies_are_flat m ≡ true
bodies_are_flat_holds E1 = refl
bodies_are_flat_holds _ = refl

pub passes_have_two_ends_holds : (m : Mech) → passes_have_two_ends m ≡ true
passes_have_two_ends_holds E1 = refl
passes_have_two_ends_holds _ = refl

pub fa_is_had_holds : (m : Mech) → fa_is_had m ≡ true
fa_is_had_holds E1 = refl
fa_is_had_holds _ = refl

pub peers_make_items_holds : (m : Mech) → peers_make_items m ≡ true
peers_make_items_holds E1 = refl
peers_make_items_holds _ = refl

pub claims_stand_in_one_item_holds : (m : Mech) → claims_stand_in_one_item m ≡ true
claims_stand_in_one_item_holds E1 = refl
claims_stand_in_one_item_holds _ = refl

pub servers_show_fa_holds : (m : Mech) → servers_show_fa m ≡ true
servers_show_fa_holds E1 = refl
servers_show_fa_holds _ = refl

pub claims_stand_in_two_items_holds : (m : Mech) → claims_stand_in_two_items m ≡ true
claims_stand_in_two_items_holds E1 = refl
claims_stand_in_two_items_holds _ = refl

pub claims_tell_runs_holds : (m : Mech) → claims_tell_runs m ≡ true
claims_tell_runs_holds E1 = refl
claims_tell_runs_holds _ = refl

pub key_parts_are_got_holds : (m : Mech) → key_parts_are_got m ≡ true
key_parts_are_got_holds E1 = refl
key_parts_are_got_holds _ = refl

pub pairs_are_of_parties_holds : (m : Mech) → pairs_are_of_parties m ≡ true
pairs_are_of_parties_holds E1 = refl
pairs_are_of_parties_holds _ = refl

pub checks_show_no_parts_holds : (m : Mech) → checks_show_no_parts m ≡ true
checks_show_no_parts_holds E1 = refl
checks_show_no_parts_holds _ = refl

pub stamps_are_covered_holds : (m : Mech) → stamps_are_covered m ≡ true
stamps_are_covered_holds E1 = refl
stamps_are_covered_holds _ = refl

pub stamps_have_one_tag_holds : (m : Mech) → stamps_have_one_tag m ≡ true
stamps_have_one_tag_holds E1 = refl
stamps_have_one_tag_holds _ = refl

pub claims_are_plain_holds : (m : Mech) → claims_are_plain m ≡ true
claims_are_plain_holds E1 = refl
claims_are_plain_holds _ = refl

pub checks_by_family_holds : (m : Mech) → checks_by_family m ≡ true
checks_by_family_holds E1 = refl
checks_by_family_holds _ = refl

is_mech : (m : Mech) → Among m mechs
is_mech E1 = inl refl
is_mech E2 = inr (inl refl)
is_mech E3 = inr (inr (inl refl))
is_mech E4 = inr (inr (inr (inl refl)))
is_mech E5 = inr (inr (inr (inr (inl refl))))
is_mech E6 = inr (inr (inr (inr (inr (inl refl)))))
is_mech C1 = inr (inr (inr (inr (inr (inr (inl refl))))))
is_mech C2 = inr (inr (inr (inr (inr (inr (inr (inl refl)))))))
is_mech C3 = inr (inr (inr (inr (inr (inr (inr (inr (inl refl))))))))
is_mech C4 = inr (inr (inr (inr (inr (inr (inr (inr (inr (inl refl)))))))))
is_mech K3 = inr (inr (inr (inr (inr (inr (inr (inr (inr (inr (inl refl))))))))))
is_mech K4 = inr (inr (inr (inr (inr (inr (inr (inr (inr (inr (inr (inl refl)))))))))))
is_mech K5 = inr (inr (inr (inr (inr (inr (inr (inr (inr (inr (inr (inr (inl refl))))))))))))
is_mech K6 = inr (inr (inr (inr (inr (inr (inr (inr (inr (inr (inr (inr (inr (inl refl)))))))))))))
is_mech K8 = inr (inr (inr (inr (inr (inr (inr (inr (inr (inr (inr (inr (inr (inr (inl refl))))))))))))))
is_mech K9 = inr (inr (inr (inr (inr (inr (inr (inr (inr (inr (inr (inr (inr (inr (inr (inl refl)))))))))))))))

one_tag_against : (m : Mech) → list_all (one_tag_one_body m) mechs ≡ true
one_tag_against E1 = refl
one_tag_against _ = refl

pub one_tag_one_body_holds : (m n : Mech) → one_tag_one_body m n ≡ true
one_tag_one_body_holds m n = all_among (one_tag_one_body m) mechs (one_tag_against m) n (is_mech n)

pub row_has_facts : (m : Mech) → HasRowFacts m
row_has_facts m = record { lawful_keys_holds = lawful_keys_holds m; parts_stand_under_pairs_holds = parts_stand_under_pairs_holds m; parts_are_drawn_holds = parts_are_drawn_holds m; tags_name_passes_holds = tags_name_passes_holds m; bodies_are_flat_holds = bodies_are_flat_holds m; passes_have_two_ends_holds = passes_have_two_ends_holds m; fa_is_had_holds = fa_is_had_holds m; peers_make_items_holds = peers_make_items_holds m; claims_stand_in_one_item_holds = claims_stand_in_one_item_holds m; servers_show_fa_holds = servers_show_fa_holds m; claims_stand_in_two_items_holds = claims_stand_in_two_items_holds m; claims_tell_runs_holds = claims_tell_runs_holds m; key_parts_are_got_holds = key_parts_are_got_holds m; pairs_are_of_parties_holds = pairs_are_of_parties_holds m; checks_show_no_parts_holds = checks_show_no_parts_holds m; stamps_are_covered_holds = stamps_are_covered_holds m; stamps_have_one_tag_holds = stamps_have_one_tag_holds m; claims_are_plain_holds = claims_are_plain_holds m; checks_by_family_holds = checks_by_family_holds m }
