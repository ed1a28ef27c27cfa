-- What the steps of the verdict leave, item by item.
use Rattle.std.proofs.Common.{◌≡◌, ◌+◌, ℕ, suc, Bool, true, false, ◌⊎◌, inl, inr, List, [], ◌∷◌, ◌++◌, map, length, drop, Option, Some, None, Result, Ok, Err, if◌then◌else◌, refl, sym, ap, ap₂, subst, ◌∙◌, arith}
use Rattle.std.proofs.Math.Seq.{drop-cons}
use Rattle.std.proofs.lemmas.Bool.{leb-true}
use Rattle.std.proofs.lemmas.List.{drop_all}
use Rattle.term_values.specs.Trees.{Among, Tree, name, stamp, nonce, part, text, tag, tuple, none, trees}
use Rattle.term_values.specs.Lengths.{length_of}
use Rattle.term_values.proofs.Lists.{among_append, among_left, among_right, and_left, and_right}
use Rattle.term_values.proofs.Trees.{trees_untrees}
use Rattle.mech_rows.specs.declared.kinds.Slot.{Slot}
use Rattle.mech_rows.specs.declared.kinds.Clear.{Clear}
use Rattle.mech_rows.specs.declared.kinds.Clear.TheVariants.{Slot as Shown, NameOfB}
use Rattle.mech_rows.specs.declared.kinds.Kind.{Kind}
use Rattle.mech_rows.specs.declared.kinds.Kind.TheVariants.{Nonce as a_nonce, Stamp as a_stamp, Part as a_part, Text as a_text, Item as an_item}
use Rattle.mech_rows.specs.declared.refusal.Refusal.{Refusal}
use Rattle.mech_rows.specs.declared.refusal.Refusal.TheVariants.{WrongValue}
use Rattle.mech_rows.specs.Rows.{kind_of}
use Rattle.mech_rows.specs.Heads.{Head}
use Rattle.mech_rows.specs.Facts.{same_slot}
use Rattle.mech_rows.specs.Found.{found}
use Rattle.term_values.specs.Same.{same}
use Rattle.term_values.proofs.SameTrees.{same_is}
use Rattle.mech_rows.proofs.RowUse.{same_slot_is, same_slot_refl}
use Rattle.mech_rows.specs.Runs.{Notes, HasKind, Extends, value, noted_or_empty, clear_item, clear_slots}
use Rattle.mech_rows.specs.Verdict.{Noted, items_of, bind, at, has_kind, is_name, are_kinds, are_clear, clear_names, note_slot, note_slots, note_clear}

abbrev pub Grows : Notes → Notes → Type 0
Grows old new = (s : Slot) (t : Tree) → old s ≡ Some t → new s ≡ Some t

pub bind_ok : {X Y : Type 0} (r : Result X Refusal) (f : X → Result Y Refusal) (y : Y) → bind r f ≡ Ok y → (x : X) × (r ≡ Ok x) × (f x ≡ Ok y)
bind_ok (Ok x) f y e = (x, refl, e)
bind_ok (Err r) f y e = absurd cc

pub ok_is : {X : Type 0} (x y : X) → ◌≡◌ {A = Result X Refusal} (Ok x) (Ok y) → x ≡ y
ok_is x y e = cc

some_is : {X : Type 0} (x y : X) → Some x ≡ Some y → x ≡ y
some_is x y e = cc

-- lists of what is found

pub found_old : (ns : Noted) (s : Slot) (x : Tree) (u : Slot) (y : Tree) → found ns u ≡ Some y → found (ns ++ (s, x) ∷ []) u ≡ Some y
found_old [] s x u y e = absurd cc
found_old (n ∷ ns) s x u y e = go (same_slot n.0 u) (found_old ns s x u y) e
  where
    go : (b : Bool) → (found ns u ≡ Some y → found (ns ++ (s, x) ∷ []) u ≡ Some y) → (if b then Some n.1 else found ns u) ≡ Some y → (if b then Some n.1 else found (ns ++ (s, x) ∷ []) u) ≡ Some y
    go true next f = f
    go false next f = next f

pub found_new : (ns : Noted) (s : Slot) (x : Tree) → found ns s ≡ None → found (ns ++ (s, x) ∷ []) s ≡ Some x
found_new [] s x e = go (same_slot s s) (same_slot_refl s)
  where
    go : (b : Bool) → b ≡ true → (if b then Some x else None) ≡ Some x
    go true f = refl
    go false f = absurd cc
found_new (n ∷ ns) s x e = go (same_slot n.0 s) (found_new ns s x) e
  where
    go : (b : Bool) → (found ns s ≡ None → found (ns ++ (s, x) ∷ []) s ≡ Some x) → (if b then Some n.1 else found ns s) ≡ None → (if b then Some n.1 else found (ns ++ (s, x) ∷ []) s) ≡ Some x
    go true next f = absurd cc
    go false next f = next f

pub found_only : (ns : Noted) (s : Slot) (x : Tree) (u : Slot) (y : Tree) → found (ns ++ (s, x) ∷ []) u ≡ Some y → (found ns u ≡ Some y) ⊎ ((u ≡ s) × (y ≡ x))
found_only [] s x u y e = go (same_slot s u) refl e
  where
    go : (b : Bool) → same_slot s u ≡ b → (if b then Some x else None) ≡ Some y → (None ≡ Some y) ⊎ ((u ≡ s) × (y ≡ x))
    go true is f = inr (sym (same_slot_is s u is), sym (some_is x y f))
    go false is f = inl f
found_only (n ∷ ns) s x u y e = go (same_slot n.0 u) (found_only ns s x u y) e
  where
    go : (b : Bool) → (found (ns ++ (s, x) ∷ []) u ≡ Some y → (found ns u ≡ Some y) ⊎ ((u ≡ s) × (y ≡ x))) → (if b then Some n.1 else found (ns ++ (s, x) ∷ []) u) ≡ Some y → ((if b then Some n.1 else found ns u) ≡ Some y) ⊎ ((u ≡ s) × (y ≡ x))
    go true next f = inl f
    go false next f = next f

-- kinds

pub kind_has : (k : Kind) (t : Tree) → has_kind k t ≡ true → HasKind k t
kind_has a_nonce (nonce b) e = (b, refl)
kind_has a_nonce _ e = absurd cc
kind_has a_stamp (stamp s) e = (s, refl)
kind_has a_stamp _ e = absurd cc
kind_has a_part (part b) e = (b, refl)
kind_has a_part _ e = absurd cc
kind_has a_text (text b) e = (b, refl)
kind_has a_text _ e = absurd cc
kind_has an_item t e = leb-true (length_of t) 4096 e

-- notes that grow

pub extends_none : (n : Notes) → Extends n [] n
extends_none n = record {
  kept = λ s t e. e;
  noted = λ s i. absurd i;
  only = λ s t e. inl e;
  kinds = λ s t i e. absurd i;
}

pub extends_more : (a b c : Notes) (ss us : List Slot) → Extends a ss b → Extends b us c → Extends a (ss ++ us) c
extends_more a b c ss us f g = record {
  kept = λ s t e. g.kept s t (f.kept s t e);
  noted = λ s i. noted_in s (among_append ss us s i);
  only = λ s t e. only_in s t (g.only s t e);
  kinds = λ s t i e. kinds_in s t e (among_append ss us s i);
}
  where
    noted_in : (s : Slot) → Among s ss ⊎ Among s us → (t : Tree) × (c s ≡ Some t)
    noted_in s (inl i) = let x = f.noted s i in (x.0, g.kept s x.0 x.1)
    noted_in s (inr i) = g.noted s i

    only_in : (s : Slot) (t : Tree) → (b s ≡ Some t) ⊎ Among s us → (a s ≡ Some t) ⊎ Among s (ss ++ us)
    only_in s t (inl e) = before s t (f.only s t e)
      where
        before : (s : Slot) (t : Tree) → (a s ≡ Some t) ⊎ Among s ss → (a s ≡ Some t) ⊎ Among s (ss ++ us)
        before s t (inl e) = inl e
        before s t (inr i) = inr (among_left ss us s i)
    only_in s t (inr i) = inr (among_right ss us s i)

    kinds_in : (s : Slot) (t : Tree) → c s ≡ Some t → Among s ss ⊎ Among s us → HasKind (kind_of s) t
    kinds_in s t e (inl i) =
        let x = f.noted s i in
        let same : x.0 ≡ t = some_is x.0 t (sym (g.kept s x.0 x.1) ∙ e) in
        f.kinds s t i (x.1 ∙ ap Some same)
    kinds_in s t e (inr i) = g.kinds s t i e

abbrev pub OneNoted : Noted → Slot → Tree → Noted → Type 0
OneNoted ns s t new = Extends (found ns) (s ∷ []) (found new) × (found new s ≡ Some t)

one_there : (ns : Noted) (s : Slot) (t : Tree) (new : Noted) → Grows (found ns) (found new) → ((u : Slot) (y : Tree) → found new u ≡ Some y → (found ns u ≡ Some y) ⊎ (u ≡ s)) → found new s ≡ Some t → HasKind (kind_of s) t → OneNoted ns s t new
one_there ns s t new grows only is kind = (
  record {
    kept = grows;
    noted = λ u i. noted_in u i;
    only = λ u y e. only_in u (only u y e);
    kinds = λ u y i e. kinds_in u y i e;
  },
  is,
)
  where
    noted_in : (u : Slot) → Among u (s ∷ []) → (x : Tree) × (found new u ≡ Some x)
    noted_in u (inl e) = (t, ap (found new) e ∙ is)
    noted_in u (inr i) = absurd i

    only_in : {X : Type 0} (u : Slot) → X ⊎ (u ≡ s) → X ⊎ Among u (s ∷ [])
    only_in u (inl e) = inl e
    only_in u (inr e) = inr (inl e)

    kinds_in : (u : Slot) (y : Tree) → Among u (s ∷ []) → found new u ≡ Some y → HasKind (kind_of u) y
    kinds_in u y (inl e) f =
        let same : t ≡ y = some_is t y (sym is ∙ (ap (found new) (sym e) ∙ f)) in
        subst (λ v. HasKind (kind_of v) y) (sym e) (subst (HasKind (kind_of s)) same kind)
    kinds_in u y (inr i) f = absurd i

pub one_noted : (place : ℕ) (s : Slot) (t : Tree) (ns new : Noted) → note_slot place s t ns (found ns s) ≡ Ok new → HasKind (kind_of s) t → OneNoted ns s t new
one_noted place s t ns new e kind = go (found ns s) refl e
  where
    only : (u : Slot) (y : Tree) → (found ns u ≡ Some y) ⊎ ((u ≡ s) × (y ≡ t)) → (found ns u ≡ Some y) ⊎ (u ≡ s)
    only u y (inl e) = inl e
    only u y (inr e) = inr e.0

    cases : (v : Tree) → found ns s ≡ Some v → (b : Bool) → same t v ≡ b → ◌≡◌ {A = Result Noted Refusal} (if b then Ok ns else Err (WrongValue place s)) (Ok new) → OneNoted ns s t new
    cases v is true eq g = subst (OneNoted ns s t) (ok_is ns new g) (one_there ns s t ns (λ u y h. h) (λ u y h. inl h) (is ∙ ap Some (sym (same_is t v eq))) kind)
    cases v is false eq g = absurd cc

    go : (o : Option Tree) → found ns s ≡ o → note_slot place s t ns o ≡ Ok new → OneNoted ns s t new
    go None is f = subst (OneNoted ns s t) (ok_is (ns ++ (s, t) ∷ []) new f) (one_there ns s t (ns ++ (s, t) ∷ []) (λ u y g. found_old ns s t u y g) (λ u y g. only u y (found_only ns s t u y g)) (found_new ns s t is) kind)
    go (Some v) is f = cases v is (same t v) refl f

-- the terms that stand from item k on, one for each of these
abbrev pub picked : {X : Type 0} → List Tree → ℕ → List X → List Tree
picked ts k [] = []
picked ts k (x ∷ xs) = at ts k ∷ picked ts (suc k) xs

pub value_is : (n : Notes) (s : Slot) (t : Tree) → n s ≡ Some t → value n s ≡ t
value_is n s t e = ap noted_or_empty e

pub slots_read : (place : ℕ) (ts : List Tree) (k : ℕ) (ss : List Slot) (ns new : Noted) → note_slots place ts k ss ns ≡ Ok new → are_kinds ts k ss ≡ true → Extends (found ns) ss (found new) × ((n : Notes) → Grows (found new) n → map (value n) ss ≡ picked ts k ss)
slots_read place ts k [] ns new e kinds = (subst (λ (m : Noted). Extends (found ns) [] (found m)) (ok_is ns new e) (extends_none (found ns)), λ n g. refl)
slots_read place ts k (s ∷ ss) ns new e kinds =
    let mid = bind_ok (note_slot place s (at ts k) ns (found ns s)) (note_slots place ts (suc k) ss) new e in
    let one = one_noted place s (at ts k) ns mid.0 mid.1 (kind_has (kind_of s) (at ts k) (and_left (has_kind (kind_of s) (at ts k)) (are_kinds ts (suc k) ss) kinds)) in
    let rest = slots_read place ts (suc k) ss mid.0 new mid.2 (and_right (has_kind (kind_of s) (at ts k)) (are_kinds ts (suc k) ss) kinds) in
    (extends_more (found ns) (found mid.0) (found new) (s ∷ []) ss one.0 rest.0, λ n g. ap₂ (λ (x : Tree) (xs : List Tree). x ∷ xs) (value_is n s (at ts k) (g s (at ts k) (rest.0.kept s (at ts k) one.1))) (rest.1 n g))

pub clear_read : (h : Head) (ts : List Tree) (k : ℕ) (cs : List Clear) (ns new : Noted) → note_clear ts k cs ns ≡ Ok new → are_clear ts k cs ≡ true → clear_names h.b ts k cs ≡ true → Extends (found ns) (clear_slots cs) (found new) × ((n : Notes) → Grows (found new) n → map (clear_item h n) cs ≡ picked ts k cs)
clear_read h ts k [] ns new e kinds names = (subst (λ (m : Noted). Extends (found ns) [] (found m)) (ok_is ns new e) (extends_none (found ns)), λ n g. refl)
clear_read h ts k (Shown s ∷ cs) ns new e kinds names =
    let mid = bind_ok (note_slot 0 s (at ts k) ns (found ns s)) (note_clear ts (suc k) cs) new e in
    let one = one_noted 0 s (at ts k) ns mid.0 mid.1 (kind_has (kind_of s) (at ts k) (and_left (has_kind (kind_of s) (at ts k)) (are_clear ts (suc k) cs) kinds)) in
    let rest = clear_read h ts (suc k) cs mid.0 new mid.2 (and_right (has_kind (kind_of s) (at ts k)) (are_clear ts (suc k) cs) kinds) names in
    (extends_more (found ns) (found mid.0) (found new) (s ∷ []) (clear_slots cs) one.0 rest.0, λ n g. ap₂ (λ (x : Tree) (xs : List Tree). x ∷ xs) (value_is n s (at ts k) (g s (at ts k) (rest.0.kept s (at ts k) one.1))) (rest.1 n g))
clear_read h ts k (NameOfB ∷ cs) ns new e kinds names =
    let rest = clear_read h ts (suc k) cs ns new e (and_right (is_name (at ts k)) (are_clear ts (suc k) cs) kinds) (and_right (same (at ts k) (name h.b)) (clear_names h.b ts (suc k) cs) names) in
    (rest.0, λ n g. ap₂ (λ (x : Tree) (xs : List Tree). x ∷ xs) (sym (same_is (at ts k) (name h.b) (and_left (same (at ts k) (name h.b)) (clear_names h.b ts (suc k) cs) names))) (rest.1 n g))

-- a list is what stands in it, in two runs
pub rest_picked : {X : Type 0} (ts : List Tree) (k : ℕ) (xs : List X) → length ts ≡ length xs + k → drop k ts ≡ picked ts k xs
rest_picked ts k [] e = drop_none ts k e
  where
    drop_none : (ts : List Tree) (k : ℕ) → length ts ≡ 0 + k → drop k ts ≡ []
    drop_none ts k e = drop_all k ts (omega (arith, e))
rest_picked ts k (x ∷ xs) e = drop-cons ts k (tuple none) (omega (arith, e)) ∙ ap (λ (us : List Tree). at ts k ∷ us) (rest_picked ts (suc k) xs (omega (arith, e)))

pub two_picked : {X Y : Type 0} (ts : List Tree) (k : ℕ) (xs : List X) (ys : List Y) → length ts ≡ length xs + length ys + k → drop k ts ≡ picked ts k xs ++ picked ts (length xs + k) ys
two_picked ts k [] ys e = subst (λ (j : ℕ). drop k ts ≡ picked ts j ys) (omega arith) (rest_picked ts k ys (omega (arith, e)))
two_picked ts k (x ∷ xs) ys e =
    drop-cons ts k (tuple none) (omega (arith, e)) ∙ ap (λ (us : List Tree). at ts k ∷ us) (two_picked ts (suc k) xs ys (omega (arith, e)) ∙ ap (λ (j : ℕ). picked ts (suc k) xs ++ picked ts j ys) (omega arith))

-- a term with a first item that isn't the empty tuple is the tuple of its items
pub tuple_of_items : (t : Tree) (u : List ℕ) → at (items_of t) 0 ≡ tag u → t ≡ tuple (trees (items_of t))
tuple_of_items (tuple ts) u e = ap tuple (sym (trees_untrees ts))
tuple_of_items _ u e = absurd cc
