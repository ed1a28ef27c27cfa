-- A message leaves at most one choice of notes.
use Rattle.std.proofs.Common.{ℕ, ◌↔◌, ◌≡◌, suc, ◌⊎◌, List, [], ◌∷◌, ◌++◌, map, Bool, true, false, if◌then◌else◌, refl, sym, ap, ap₂, subst, ◌∙◌, inl, inr, Option, Some, None}
use Rattle.term_values.specs.Trees.{Among, Tree, tag, tuple, Trees, trees}
use Rattle.mech_rows.specs.declared.kinds.Slot.{Slot}
use Rattle.mech_rows.specs.declared.kinds.Slot.TheVariants.{Fwd}
use Rattle.mech_rows.specs.declared.kinds.Clear.{Clear}
use Rattle.mech_rows.specs.declared.kinds.Clear.TheVariants.{Slot as Shown, NameOfB}
use Rattle.mech_rows.specs.Rows.{Cover, Pass, tag_of}
use Rattle.mech_rows.specs.Runs.{Opening, Got, Notes, Run, Keys, value, noted_or_empty, protected, clear_item, seen, clear_slots, seen_in, seen_slots}
use Rattle.mech_rows.specs.Heads.{Head}
use Rattle.mech_rows.specs.Steps.{symbolic, ItemBy, IsMessage, ItemsAre, Fits}
use Rattle.mech_rows.specs.Says.{item_as, message}
use Rattle.mech_rows.proofs.Symbolic.{SymbolicFits}
use Rattle.term_values.proofs.Lists.{among_append}
use Rattle.mech_rows.proofs.RowUse.{seen_case}
use Rattle.mech_rows.proofs.Items.{same_item, same_parts, trees_inj}

some_inj : {X : Type 0} (x y : X) → Some x ≡ Some y → x ≡ y
some_inj x y e = cc

clears_same : (h : Head) (n m : Notes) (xs : List Clear) (us vs : List Tree) → map (clear_item h n) xs ++ us ≡ map (clear_item h m) xs ++ vs → ((s : Slot) → Among s (clear_slots xs) → value n s ≡ value m s) × (us ≡ vs)
clears_same h n m [] us vs e = ((λ s i. absurd i), e)
clears_same h n m (Shown s ∷ xs) us vs e =
    let first : value n s ≡ value m s = cc in
    let rest : map (clear_item h n) xs ++ us ≡ map (clear_item h m) xs ++ vs = cc in
    let r = clears_same h n m xs us vs rest in
    (go first r.0, r.1)
  where
    go : value n s ≡ value m s → ((t : Slot) → Among t (clear_slots xs) → value n t ≡ value m t) → (t : Slot) → Among t (s ∷ clear_slots xs) → value n t ≡ value m t
    go f g t (inl is) = subst (λ x. value n x ≡ value m x) (sym is) f
    go f g t (inr i) = g t i
clears_same h n m (NameOfB ∷ xs) us vs e = clears_same h n m xs us vs (let rest : map (clear_item h n) xs ++ us ≡ map (clear_item h m) xs ++ vs = cc in rest)

covers_same : (keys : Keys) (h : Head) (n m : Notes) (cs : List Cover) → map (item_as keys h n seen) cs ≡ map (item_as keys h m seen) cs → (c : Cover) → Among c cs → item_as keys h n seen c ≡ item_as keys h m seen c
covers_same keys h n m [] e c i = elim i [ ]
covers_same keys h n m (d ∷ cs) e c (inl is) = let first : item_as keys h n seen d ≡ item_as keys h m seen d = list_head _ _ _ _ e in subst (λ x. item_as keys h n seen x ≡ item_as keys h m seen x) (sym is) first
  where
    list_head : (x y : Tree) (xs ys : List Tree) → x ∷ xs ≡ y ∷ ys → x ≡ y
    list_head x y xs ys e = cc
covers_same keys h n m (d ∷ cs) e c (inr i) = covers_same keys h n m cs (list_tail _ _ _ _ e) c i
  where
    list_tail : (x y : Tree) (xs ys : List Tree) → x ∷ xs ≡ y ∷ ys → xs ≡ ys
    list_tail x y xs ys e = cc

-- the one choice, slot by slot
pub one_fit : (keys : Keys) (run : Run) (t : Tree) (n m : Notes) → SymbolicFits keys run t n → SymbolicFits keys run t m → (s : Slot) → n s ≡ m s
one_fit keys run t n m a b s = go (n s) refl (m s) refl
  where
    pass_is : a.pass ≡ b.pass
    pass_is = some_inj a.pass b.pass (sym a.at ∙ b.at)

    both : message keys run.head n seen run.next a.pass ≡ message keys run.head m seen run.next a.pass
    both = sym a.is ∙ (b.is ∙ ap (message keys run.head m seen run.next) (sym pass_is))

    lists : map (clear_item run.head n) a.pass.clear ++ map (item_as keys run.head n seen) a.pass.covers ≡ map (clear_item run.head m) a.pass.clear ++ map (item_as keys run.head m seen) a.pass.covers
    lists = tail_is _ _ _ _ (trees_inj (tag (tag_of run.head.mech (suc run.next) 0) ∷ (map (clear_item run.head n) a.pass.clear ++ map (item_as keys run.head n seen) a.pass.covers)) (tag (tag_of run.head.mech (suc run.next) 0) ∷ (map (clear_item run.head m) a.pass.clear ++ map (item_as keys run.head m seen) a.pass.covers)) (tuple_is _ _ both))
      where
        tuple_is : (x y : Trees) → tuple x ≡ tuple y → x ≡ y
        tuple_is x y e = cc

        tail_is : (x y : Tree) (xs ys : List Tree) → x ∷ xs ≡ y ∷ ys → xs ≡ ys
        tail_is x y xs ys e = cc

    parts : ((u : Slot) → Among u (clear_slots a.pass.clear) → value n u ≡ value m u) × (map (item_as keys run.head n seen) a.pass.covers ≡ map (item_as keys run.head m seen) a.pass.covers)
    parts = clears_same run.head n m a.pass.clear (map (item_as keys run.head n seen) a.pass.covers) (map (item_as keys run.head m seen) a.pass.covers) lists

    in_item : (u : Slot) (c : Cover) → Among c a.pass.covers → ((c.seen ≡ true) × Among u c.slots) ⊎ ((c.seen ≡ false) × Among u (Fwd ∷ [])) → value n u ≡ value m u
    in_item u c i (inl e) =
        let item : protected keys run.head n c ≡ protected keys run.head m c = subst (λ (x : Bool). (if x then protected keys run.head n c else value n Fwd) ≡ (if x then protected keys run.head m c else value m Fwd)) e.0 (covers_same keys run.head n m a.pass.covers parts.1 c i) in
        let same = same_item keys run.head run.head n m c c item in
        (same_parts run.head run.head n m c.slots refl same.rest).values u e.1
    in_item u c i (inr e) =
        let item : value n Fwd ≡ value m Fwd = subst (λ (x : Bool). (if x then protected keys run.head n c else value n Fwd) ≡ (if x then protected keys run.head m c else value m Fwd)) e.0 (covers_same keys run.head n m a.pass.covers parts.1 c i) in
        fwd u e.1 item
      where
        fwd : (v : Slot) → Among v (Fwd ∷ []) → value n Fwd ≡ value m Fwd → value n v ≡ value m v
        fwd v (inl is) f = subst (λ x. value n x ≡ value m x) (sym is) f
        fwd v (inr j) f = absurd j

    in_message : (u : Slot) → Among u (seen_slots a.pass) → value n u ≡ value m u
    in_message u i = by (among_append (clear_slots a.pass.clear) (seen_in a.pass.covers) u i)
      where
        by : Among u (clear_slots a.pass.clear) ⊎ Among u (seen_in a.pass.covers) → value n u ≡ value m u
        by (inl j) = parts.0 u j
        by (inr j) = let c = seen_case a.pass.covers u j in in_item u c.0 c.1 c.2

    here : (x : Tree) → n s ≡ Some x → (run.notes s ≡ Some x) ⊎ Among s (seen_slots a.pass) → m s ≡ Some x
    here x e (inl f) = b.extends.kept s x f
    here x e (inr i) =
        let y = b.extends.noted s (subst (λ (p : Pass). Among s (seen_slots p)) pass_is i) in
        let same : x ≡ y.0 = sym (ap noted_or_empty e) ∙ (in_message s i ∙ ap noted_or_empty y.1) in
        y.1 ∙ ap Some (sym same)

    there : (x : Tree) → m s ≡ Some x → (run.notes s ≡ Some x) ⊎ Among s (seen_slots b.pass) → n s ≡ Some x
    there x e (inl f) = a.extends.kept s x f
    there x e (inr i) =
        let j = subst (λ (p : Pass). Among s (seen_slots p)) (sym pass_is) i in
        let y = a.extends.noted s j in
        let same : x ≡ y.0 = sym (ap noted_or_empty e) ∙ (sym (in_message s j) ∙ ap noted_or_empty y.1) in
        y.1 ∙ ap Some (sym same)

    go : (o : Option Tree) → n s ≡ o → (r : Option Tree) → m s ≡ r → n s ≡ m s
    go (Some x) e r f = e ∙ sym (here x e (a.extends.only s x e))
    go None e (Some y) f = there y f (b.extends.only s y f) ∙ sym f
    go None e None f = e ∙ sym f

symbolic_items : (keys : Keys) (h : Head) (notes : Notes) (knows : Cover → Bool) (cs : List Cover) (us : List Tree) → ItemsAre symbolic keys h notes knows cs us → us ≡ map (item_as keys h notes knows) cs
symbolic_items keys h notes knows [] us e = e
symbolic_items keys h notes knows (d ∷ cs) [] e = elim e [ ]
symbolic_items keys h notes knows (d ∷ cs) (u ∷ us) e = ap₂ (λ (x : Tree) (xs : List Tree). x ∷ xs) (go (knows d) e.0) (symbolic_items keys h notes knows cs us e.1)
  where
    go : (b : Bool) → ItemBy b symbolic keys h notes d u → u ≡ (if b then protected keys h notes d else value notes Fwd)
    go true is = is
    go false is = is

-- over symbolic sealing the message is the one that is said
pub said : (keys : Keys) (h : Head) (notes : Notes) (knows : Cover → Bool) (k : ℕ) (p : Pass) (t : Tree) → IsMessage symbolic keys h notes knows k p t → t ≡ message keys h notes knows k p
said keys h notes knows k p t shows = shows.is ∙ ap (λ (us : List Tree). tuple (trees (tag (tag_of h.mech (suc k) 0) ∷ (map (clear_item h notes) p.clear ++ us)))) (symbolic_items keys h notes knows p.covers shows.items shows.each)

pub items_said : (keys : Keys) (h : Head) (notes : Notes) (knows : Cover → Bool) (cs : List Cover) → ItemsAre symbolic keys h notes knows cs (map (item_as keys h notes knows) cs)
items_said keys h notes knows [] = refl
items_said keys h notes knows (d ∷ cs) = (go (knows d), items_said keys h notes knows cs)
  where
    go : (b : Bool) → ItemBy b symbolic keys h notes d (if b then protected keys h notes d else value notes Fwd)
    go true = refl
    go false = refl

pub is_said : (keys : Keys) (h : Head) (notes : Notes) (knows : Cover → Bool) (k : ℕ) (p : Pass) (t : Tree) → t ≡ message keys h notes knows k p → IsMessage symbolic keys h notes knows k p t
is_said keys h notes knows k p t e = record { items = map (item_as keys h notes knows) p.covers; is = e; each = items_said keys h notes knows p.covers }

symbolic_fits : (keys : Keys) (run : Run) (t : Tree) (n : Notes) (o : List Opening) (g : List Got) → Fits symbolic keys run t n o g → SymbolicFits keys run t n
symbolic_fits keys run t n o g fits =
    record {
      pass = fits.pass;
      at = fits.at;
      received = fits.received;
      extends = fits.extends;
      is = fits.shows.is ∙ ap (λ (us : List Tree). tuple (trees (tag (tag_of run.head.mech (suc run.next) 0) ∷ (map (clear_item run.head n) fits.pass.clear ++ us)))) (symbolic_items keys run.head n seen fits.pass.covers fits.shows.items fits.shows.each);
    }

pub one_choice : (keys : Keys) (run : Run) (t : Tree) (n m : Notes) (o p : List Opening) (g k : List Got) → Fits symbolic keys run t n o g → Fits symbolic keys run t m p k → (s : Slot) → n s ≡ m s
one_choice keys run t n m o p g k a b = one_fit keys run t n m (symbolic_fits keys run t n o g a) (symbolic_fits keys run t m p k b)

pub one_message : (keys : Keys) (h : Head) (notes : Notes) (knows : Cover → Bool) (k : ℕ) (p : Pass) (t : Tree) → IsMessage symbolic keys h notes knows k p t ↔ (t ≡ message keys h notes knows k p)
one_message keys h notes knows k p t = (said keys h notes knows k p t, is_said keys h notes knows k p t)
