-- Items that are equal have one body, one key and the same values.
use Rattle.std.proofs.Common.{◌≡◌, List, [], ◌∷◌, ◌++◌, map, Bool, true, false, not, ◌&&◌, ◌||◌, if◌then◌else◌, refl, sym, ap, subst, ◌∙◌, inl, inr}
use Rattle.std.specs.List.{list_all}
use Rattle.term_values.specs.Trees.{Among, Tree, name, tag, seal, check, Trees, none, item, trees}
use Rattle.term_values.specs.SameBytes.{same_bytes}
use Rattle.mech_rows.specs.declared.kinds.Mech.{Mech}
use Rattle.mech_rows.specs.declared.kinds.Mech.TheVariants.{E1, E2, E3, E4, E5, E6, C1, C2, C3, C4, K3, K4, K5, K6, K8, K9}
use Rattle.mech_rows.specs.declared.kinds.Role.TheVariants.{P}
use Rattle.mech_rows.specs.declared.kinds.Slot.{Slot}
use Rattle.mech_rows.specs.declared.kinds.Under.{Under}
use Rattle.mech_rows.specs.declared.kinds.Under.TheVariants.{Pair, Drawn}
use Rattle.mech_rows.specs.Rows.{Cover, row_of, has_third}
use Rattle.mech_rows.specs.Facts.{same_slots, same_under, same_mech, same_body, covers_of}
use Rattle.mech_rows.specs.Heads.{Head, name_of}
use Rattle.mech_rows.specs.Runs.{Notes, Keys, value, key_under, names, body, protected}
use Rattle.mech_rows.proofs.Facts.{one_tag_one_body_holds}
use Rattle.term_values.proofs.Lists.{all_among, implied, and_left, and_right}
use Rattle.mech_rows.proofs.RowUse.{same_role_is, same_slot_is}
use Rattle.term_values.proofs.SameBytes.{same_bytes_refl}

pub same_mech_is : (m n : Mech) → same_mech m n ≡ true → m ≡ n
same_mech_is E1 E1 h = refl
same_mech_is E2 E2 h = refl
same_mech_is E3 E3 h = refl
same_mech_is E4 E4 h = refl
same_mech_is E5 E5 h = refl
same_mech_is E6 E6 h = refl
same_mech_is C1 C1 h = refl
same_mech_is C2 C2 h = refl
same_mech_is C3 C3 h = refl
same_mech_is C4 C4 h = refl
same_mech_is K3 K3 h = refl
same_mech_is K4 K4 h = refl
same_mech_is K5 K5 h = refl
same_mech_is K6 K6 h = refl
same_mech_is K8 K8 h = refl
same_mech_is K9 K9 h = refl
same_mech_is _ _ h = absurd (cc)

same_slots_are : (ss ts : List Slot) → same_slots ss ts ≡ true → ss ≡ ts
same_slots_are [] [] h = refl
same_slots_are (s ∷ ss) (t ∷ ts) h =
    let e : s ≡ t = same_slot_is s t (and_left _ _ h) in
    let es : ss ≡ ts = same_slots_are ss ts (and_right _ _ h) in cc
same_slots_are [] (t ∷ ts) h = absurd (cc)
same_slots_are (s ∷ ss) [] h = absurd (cc)

same_under_is : (u v : Under) → same_under u v ≡ true → u ≡ v
same_under_is (Pair x y) (Pair z w) h =
    let e : x ≡ z = same_role_is x z (and_left _ _ h) in
    let f : y ≡ w = same_role_is y w (and_right _ _ h) in cc
same_under_is Drawn Drawn h = refl
same_under_is (Pair x y) Drawn h = absurd (cc)
same_under_is Drawn (Pair x y) h = absurd (cc)

-- by the fact one_tag_one_body
pub record OneBody (m n : Mech) (c d : Cover) : Type 0 where
  pub mech : m ≡ n
  pub slots : c.slots ≡ d.slots
  pub under : c.under ≡ d.under

pub one_body : (m n : Mech) (c d : Cover) → Among c (covers_of (row_of m)) → Among d (covers_of (row_of n)) → c.tagged ≡ d.tagged → OneBody m n c d
one_body m n c d i j e =
    let inner = all_among (λ c. list_all (λ d. not (same_bytes c.tagged d.tagged) || (same_mech m n && same_body c d)) (covers_of (row_of n))) (covers_of (row_of m)) (one_tag_one_body_holds m n) c i in
    let test = all_among (λ d. not (same_bytes c.tagged d.tagged) || (same_mech m n && same_body c d)) (covers_of (row_of n)) inner d j in
    let both = implied _ _ test (subst (λ t. same_bytes c.tagged t ≡ true) e (same_bytes_refl c.tagged)) in
    record {
      mech = same_mech_is m n (and_left _ _ both);
      slots = same_slots_are c.slots d.slots (and_left _ _ (and_right _ _ both));
      under = same_under_is c.under d.under (and_right _ _ (and_right _ _ both));
    }

untrees : Trees → List Tree
untrees none = []
untrees (item t ts) = t ∷ untrees ts

untrees-trees : (ts : List Tree) → untrees (trees ts) ≡ ts
unfolding untrees
untrees-trees [] = refl
untrees-trees (t ∷ ts) = ap (λ us. t ∷ us) (untrees-trees ts)

pub trees_inj : (xs ys : List Tree) → trees xs ≡ trees ys → xs ≡ ys
trees_inj xs ys e = sym (untrees-trees xs) ∙ (ap untrees e ∙ untrees-trees ys)

-- two protected items that are equal have one tag, one key and the same values
pub record SameItem (keys : Keys) (h g : Head) (n m : Notes) (c d : Cover) : Type 0 where
  pub tags : c.tagged ≡ d.tagged
  pub one_key : key_under keys h n c.under ≡ key_under keys g m d.under
  pub rest : names h ++ map (value n) c.slots ≡ names g ++ map (value m) d.slots

pub same_item : (keys : Keys) (h g : Head) (n m : Notes) (c d : Cover) → protected keys h n c ≡ protected keys g m d → SameItem keys h g n m c d
same_item keys h g n m c d = go c.is_check d.is_check
  where
    inside : key_under keys h n c.under ≡ key_under keys g m d.under → body h n c ≡ body g m d → SameItem keys h g n m c d
    inside k e =
        let f : item (tag c.tagged) (trees (names h ++ map (value n) c.slots)) ≡ item (tag d.tagged) (trees (names g ++ map (value m) d.slots)) = cc in
        let r : trees (names h ++ map (value n) c.slots) ≡ trees (names g ++ map (value m) d.slots) = cc in
        record { tags = cc; one_key = k; rest = trees_inj _ _ r }

    go : (x y : Bool) → (if x then check (key_under keys h n c.under) (body h n c) else seal (key_under keys h n c.under) (body h n c)) ≡ (if y then check (key_under keys g m d.under) (body g m d) else seal (key_under keys g m d.under) (body g m d)) → SameItem keys h g n m c d
    go true true e = inside (cc) (cc)
    go false false e = inside (cc) (cc)
    go true false e = absurd (cc)
    go false true e = absurd (cc)

-- in one mechanism the names and the values are equal
pub record SameParts (h g : Head) (n m : Notes) (ss : List Slot) : Type 0 where
  pub names_are : names h ≡ names g
  pub a_is : h.a ≡ g.a
  pub b_is : h.b ≡ g.b
  pub p_is : has_third h.mech ≡ true → name_of h P ≡ name_of g P
  pub values : (s : Slot) → Among s ss → value n s ≡ value m s

values_are : (n m : Notes) (ss : List Slot) → map (value n) ss ≡ map (value m) ss → (s : Slot) → Among s ss → value n s ≡ value m s
values_are n m [] e s i = elim i [ ]
values_are n m (u ∷ us) e s (inl is) = let f : value n u ≡ value m u = cc in subst (λ x. value n x ≡ value m x) (sym is) f
values_are n m (u ∷ us) e s (inr i) = let f : map (value n) us ≡ map (value m) us = cc in values_are n m us f s i

abbrev names_by : Head → Bool → List Tree
names_by h x = if x then name h.a ∷ name h.b ∷ name (name_of h P) ∷ [] else name h.a ∷ name h.b ∷ []

pub same_parts : (h g : Head) (n m : Notes) (ss : List Slot) → h.mech ≡ g.mech → names h ++ map (value n) ss ≡ names g ++ map (value m) ss → SameParts h g n m ss
same_parts h g n m ss e f = go (has_third h.mech) (has_third g.mech) (ap has_third e) refl refl f
  where
    go : (x y : Bool) → x ≡ y → has_third h.mech ≡ x → has_third g.mech ≡ y → names_by h x ++ map (value n) ss ≡ names_by g y ++ map (value m) ss → SameParts h g n m ss
    go true true q a b r =
        let ea : h.a ≡ g.a = cc in
        let eb : h.b ≡ g.b = cc in
        let ep : name_of h P ≡ name_of g P = cc in
        let vs : map (value n) ss ≡ map (value m) ss = cc in
        let three : names_by h true ≡ names_by g true = cc in
        record { names_are = ap (names_by h) a ∙ (three ∙ sym (ap (names_by g) b)); a_is = ea; b_is = eb; p_is = λ _. ep; values = values_are n m ss vs }
    go false false q a b r =
        let ea : h.a ≡ g.a = cc in
        let eb : h.b ≡ g.b = cc in
        let vs : map (value n) ss ≡ map (value m) ss = cc in
        let two : names_by h false ≡ names_by g false = cc in
        record { names_are = ap (names_by h) a ∙ (two ∙ sym (ap (names_by g) b)); a_is = ea; b_is = eb; p_is = λ t. absurd (cc); values = values_are n m ss vs }
    go true false q a b r = absurd (cc)
    go false true q a b r = absurd (cc)
