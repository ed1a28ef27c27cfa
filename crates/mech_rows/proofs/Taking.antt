-- A message that the run welcomes is taken.
use Rattle.std.proofs.Common.{◌≡◌, ℕ, suc, Bool, true, false, ◌&&◌, ◌⊎◌, inl, inr, List, [], ◌∷◌, ◌++◌, map, length, Option, Some, None, Result, Ok, Err, if◌then◌else◌, refl, sym, ap, ap₂, subst, ◌∙◌, arith}
use Rattle.std.specs.List.{list_all}
use Rattle.std.proofs.lemmas.List.{append_assoc, length-append}
use Rattle.term_values.specs.Trees.{Tree, name}
use Rattle.term_values.proofs.Lists.{all_among, and_left, and_right, and_both}
use Rattle.mech_rows.specs.declared.kinds.Mech.{Mech}
use Rattle.mech_rows.specs.declared.kinds.Mech.TheVariants.{E1, E2, E3, E4, E5, E6, C1, C2, C3, C4, K3, K4, K5, K6, K8, K9}
use Rattle.mech_rows.specs.declared.kinds.Slot.{Slot}
use Rattle.mech_rows.specs.declared.kinds.Clear.{Clear}
use Rattle.mech_rows.specs.declared.kinds.Clear.TheVariants.{Slot as Shown, NameOfB}
use Rattle.mech_rows.specs.declared.kinds.Kind.{Kind}
use Rattle.mech_rows.specs.declared.kinds.Kind.TheVariants.{Nonce as a_nonce, Stamp as a_stamp, Part as a_part, Text as a_text, Item as an_item}
use Rattle.mech_rows.specs.declared.refusal.Refusal.{Refusal}
use Rattle.mech_rows.specs.declared.refusal.Refusal.TheVariants.{WrongValue}
use Rattle.mech_rows.specs.Rows.{kind_of, Cover, Pass, row_of}
use Rattle.mech_rows.specs.Heads.{Head}
use Rattle.mech_rows.specs.Found.{found}
use Rattle.term_values.specs.Same.{same}
use Rattle.term_values.proofs.SameTrees.{same_refl}
use Rattle.mech_rows.proofs.RowUse.{nth_among}
use Rattle.mech_rows.specs.Runs.{Notes, HasKind, nth, value, clear_item, clear_slots}
use Rattle.mech_rows.specs.Verdict.{Noted, bind, at, has_kind, is_name, are_kinds, are_clear, clear_names, note_slot, note_slots, note_clear}
use Rattle.mech_rows.specs.Lawful.{AreNoted}
use Rattle.mech_rows.proofs.Reading.{Grows, found_only, picked, value_is}

some_is : {X : Type 0} (x y : X) → Some x ≡ Some y → x ≡ y
some_is x y e = cc

-- no slot of the table but Fwd is of the kind of an item

abbrev is_plain : Kind → Bool
is_plain an_item = false
is_plain _ = true

abbrev pub plain : Slot → Bool
plain s = is_plain (kind_of s)

abbrev pub plain_pass : Pass → Bool
plain_pass p = list_all plain (clear_slots p.clear) && list_all (λ (c : Cover). list_all plain c.slots) p.covers

plain_rows : (m : Mech) → list_all plain_pass (row_of m) ≡ true
plain_rows E1 = refl
plain_rows E2 = refl
plain_rows E3 = refl
plain_rows E4 = refl
plain_rows E5 = refl
plain_rows E6 = refl
plain_rows C1 = refl
plain_rows C2 = refl
plain_rows C3 = refl
plain_rows C4 = refl
plain_rows K3 = refl
plain_rows K4 = refl
plain_rows K5 = refl
plain_rows K6 = refl
plain_rows K8 = refl
plain_rows K9 = refl

pub plain_at : (m : Mech) (k : ℕ) (p : Pass) → nth (row_of m) k ≡ Some p → plain_pass p ≡ true
plain_at m k p e = all_among plain_pass (row_of m) (plain_rows m) p (nth_among (row_of m) k p e)

kind_back : (k : Kind) (t : Tree) → is_plain k ≡ true → HasKind k t → has_kind k t ≡ true
kind_back a_nonce t e h = subst (λ (u : Tree). has_kind a_nonce u ≡ true) (sym h.1) refl
kind_back a_stamp t e h = subst (λ (u : Tree). has_kind a_stamp u ≡ true) (sym h.1) refl
kind_back a_part t e h = subst (λ (u : Tree). has_kind a_part u ≡ true) (sym h.1) refl
kind_back a_text t e h = subst (λ (u : Tree). has_kind a_text u ≡ true) (sym h.1) refl
kind_back an_item t e h = absurd cc

-- where an item stands

at_here : (us : List Tree) (u : Tree) (rest : List Tree) → at (us ++ u ∷ rest) (length us) ≡ u
at_here [] u rest = refl
at_here (x ∷ us) u rest = at_here us u rest

pub picked_here : {X : Type 0} (pre us post : List Tree) (zs : List X) → length us ≡ length zs → picked (pre ++ (us ++ post)) (length pre) zs ≡ us
picked_here pre [] post [] e = refl
picked_here pre [] post (z ∷ zs) e = absurd (omega (arith, e))
picked_here pre (u ∷ us) post [] e = absurd (omega (arith, e))
picked_here pre (u ∷ us) post (z ∷ zs) e =
    let there : (pre ++ u ∷ []) ++ (us ++ post) ≡ pre ++ (u ∷ us ++ post) = append_assoc pre (u ∷ []) (us ++ post) in
    let long : length (pre ++ u ∷ []) ≡ suc (length pre) = length-append pre (u ∷ []) ∙ omega arith in
    ap₂ (λ (x : Tree) (xs : List Tree). x ∷ xs) (at_here pre u (us ++ post))
    (ap₂ (λ (ls : List Tree) (k : ℕ). picked ls k zs) (sym there) (sym long) ∙ picked_here (pre ++ u ∷ []) us post zs (omega (arith, e)))

-- one slot

pub one_taken : (place : ℕ) (s : Slot) (u : Tree) (ns : Noted) (n : Notes) → Grows (found ns) n → n s ≡ Some u → (new : Noted) × (note_slot place s u ns (found ns s) ≡ Ok new) × Grows (found new) n
one_taken place s u ns n grows is = go (found ns s) refl
  where
    same_first : (v : Tree) → found ns s ≡ Some v → ◌≡◌ {A = Result Noted Refusal} (if same u v then Ok ns else Err (WrongValue place s)) (Ok ns)
    same_first v e =
        let it : u ≡ v = some_is u v (sym is ∙ grows s v e) in
        ap (λ (b : Bool). if b then Ok ns else Err (WrongValue place s)) (same_refl u v it)

    added : (x : Slot) (y : Tree) → (found ns x ≡ Some y) ⊎ ((x ≡ s) × (y ≡ u)) → n x ≡ Some y
    added x y (inl e) = grows x y e
    added x y (inr e) = ap n e.0 ∙ (is ∙ ap Some (sym e.1))

    go : (o : Option Tree) → found ns s ≡ o → (new : Noted) × (note_slot place s u ns o ≡ Ok new) × Grows (found new) n
    go None e = (ns ++ (s, u) ∷ [], refl, λ x y f. added x y (found_only ns s u x y f))
    go (Some v) e = (ns, same_first v e, grows)

abbrev first_is : Tree → Tree → List Tree → List Tree → Type 0
first_is x y xs ys = (x ≡ y) × (xs ≡ ys)

cons_is : (x y : Tree) (xs ys : List Tree) → x ∷ xs ≡ y ∷ ys → first_is x y xs ys
cons_is x y xs ys e = (let a : x ≡ y = cc in a, let b : xs ≡ ys = cc in b)

noted_value : (n : Notes) (s : Slot) (u : Tree) → (t : Tree) × (n s ≡ Some t) × HasKind (kind_of s) t → value n s ≡ u → n s ≡ Some u
noted_value n s u x e = x.1 ∙ ap Some (sym (value_is n s x.0 x.1) ∙ e)

pub slots_taken : (place : ℕ) (ts : List Tree) (k : ℕ) (ss : List Slot) (ns : Noted) (n : Notes) → Grows (found ns) n → AreNoted n ss → map (value n) ss ≡ picked ts k ss → (new : Noted) × (note_slots place ts k ss ns ≡ Ok new) × Grows (found new) n
slots_taken place ts k [] ns n grows noted e = (ns, refl, grows)
slots_taken place ts k (s ∷ ss) ns n grows noted e =
    let split = cons_is (value n s) (at ts k) (map (value n) ss) (picked ts (suc k) ss) e in
    let one = one_taken place s (at ts k) ns n grows (noted_value n s (at ts k) (noted s (inl refl)) split.0) in
    let rest = slots_taken place ts (suc k) ss one.0 n one.2 (λ u i. noted u (inr i)) split.1 in
    (rest.0, ap (λ (r : Result Noted Refusal). bind r (note_slots place ts (suc k) ss)) one.1 ∙ rest.1, rest.2)

pub slots_kinds : (ts : List Tree) (k : ℕ) (ss : List Slot) (n : Notes) → list_all plain ss ≡ true → AreNoted n ss → map (value n) ss ≡ picked ts k ss → are_kinds ts k ss ≡ true
slots_kinds ts k [] n p noted e = refl
slots_kinds ts k (s ∷ ss) n p noted e =
    let split = cons_is (value n s) (at ts k) (map (value n) ss) (picked ts (suc k) ss) e in
    let x = noted s (inl refl) in
    let is : x.0 ≡ at ts k = sym (value_is n s x.0 x.1) ∙ split.0 in
    and_both (has_kind (kind_of s) (at ts k)) (are_kinds ts (suc k) ss)
    (kind_back (kind_of s) (at ts k) (and_left (plain s) (list_all plain ss) p) (subst (HasKind (kind_of s)) is x.2))
    (slots_kinds ts (suc k) ss n (and_right (plain s) (list_all plain ss) p) (λ u i. noted u (inr i)) split.1)

-- the clear items

pub clear_taken : (h : Head) (ts : List Tree) (k : ℕ) (cs : List Clear) (ns : Noted) (n : Notes) → Grows (found ns) n → AreNoted n (clear_slots cs) → map (clear_item h n) cs ≡ picked ts k cs → (new : Noted) × (note_clear ts k cs ns ≡ Ok new) × Grows (found new) n
clear_taken h ts k [] ns n grows noted e = (ns, refl, grows)
clear_taken h ts k (Shown s ∷ cs) ns n grows noted e =
    let split = cons_is (value n s) (at ts k) (map (clear_item h n) cs) (picked ts (suc k) cs) e in
    let one = one_taken 0 s (at ts k) ns n grows (noted_value n s (at ts k) (noted s (inl refl)) split.0) in
    let rest = clear_taken h ts (suc k) cs one.0 n one.2 (λ u i. noted u (inr i)) split.1 in
    (rest.0, ap (λ (r : Result Noted Refusal). bind r (note_clear ts (suc k) cs)) one.1 ∙ rest.1, rest.2)
clear_taken h ts k (NameOfB ∷ cs) ns n grows noted e = clear_taken h ts (suc k) cs ns n grows noted (cons_is (name h.b) (at ts k) (map (clear_item h n) cs) (picked ts (suc k) cs) e).1

pub clear_kinds : (h : Head) (ts : List Tree) (k : ℕ) (cs : List Clear) (n : Notes) → list_all plain (clear_slots cs) ≡ true → AreNoted n (clear_slots cs) → map (clear_item h n) cs ≡ picked ts k cs → (are_clear ts k cs ≡ true) × (clear_names h.b ts k cs ≡ true)
clear_kinds h ts k [] n p noted e = (refl, refl)
clear_kinds h ts k (Shown s ∷ cs) n p noted e =
    let split = cons_is (value n s) (at ts k) (map (clear_item h n) cs) (picked ts (suc k) cs) e in
    let x = noted s (inl refl) in
    let is : x.0 ≡ at ts k = sym (value_is n s x.0 x.1) ∙ split.0 in
    let rest = clear_kinds h ts (suc k) cs n (and_right (plain s) (list_all plain (clear_slots cs)) p) (λ u i. noted u (inr i)) split.1 in
    (and_both (has_kind (kind_of s) (at ts k)) (are_clear ts (suc k) cs) (kind_back (kind_of s) (at ts k) (and_left (plain s) (list_all plain (clear_slots cs)) p) (subst (HasKind (kind_of s)) is x.2)) rest.0, rest.1)
clear_kinds h ts k (NameOfB ∷ cs) n p noted e =
    let split = cons_is (name h.b) (at ts k) (map (clear_item h n) cs) (picked ts (suc k) cs) e in
    let rest = clear_kinds h ts (suc k) cs n p noted split.1 in (
      and_both (is_name (at ts k)) (are_clear ts (suc k) cs) (subst (λ (u : Tree). is_name u ≡ true) split.0 refl) rest.0,
      and_both (same (at ts k) (name h.b)) (clear_names h.b ts (suc k) cs) (same_refl (at ts k) (name h.b) (sym split.0)) rest.1,
    )
