-- What messages and runs show: a message shows the values that its reader sees in it, and nothing but values, names and keys.
use Rattle.std.proofs.Common.{◌≡◌, ◌⊎◌, ◌==◌, ◌≤◌, ℕ, suc, Bool, true, false, if◌then◌else◌, List, [], ◌∷◌, ◌++◌, map, Option, Some, None, refl, sym, ap, subst, ◌∙◌, inl, inr}
use Rattle.term_values.specs.Trees.{Among, Bytes, Tree, Trees, name, part, tag, tuple, seal, check, none, trees, Occurs, OccursInItems, StandsInKey}
use Rattle.term_values.specs.declared.small.Key.{Key}
use Rattle.term_values.specs.declared.small.Key.TheVariants.{One, Two}
use Rattle.term_values.proofs.Lists.{among_append, among_left, among_right, among_map, map_among}
use Rattle.mech_rows.specs.declared.kinds.Clear.{Clear}
use Rattle.mech_rows.specs.declared.kinds.Clear.TheVariants.{Slot as Shown, NameOfB}
use Rattle.mech_rows.specs.declared.kinds.Role.TheVariants.{P}
use Rattle.mech_rows.specs.declared.kinds.Slot.{Slot}
use Rattle.mech_rows.specs.declared.kinds.Slot.TheVariants.{Fa, Fwd}
use Rattle.mech_rows.specs.declared.kinds.Under.{Under}
use Rattle.mech_rows.specs.declared.kinds.Under.TheVariants.{Pair, Drawn}
use Rattle.mech_rows.specs.Heads.{Head, name_of}
use Rattle.mech_rows.specs.Rows.{Cover, Pass, has_third, tag_of}
use Rattle.mech_rows.specs.Runs.{Notes, Run, Keys, value, noted_or_empty, bytes_or_empty, part_bytes, key_under, names, body, protected, clear_item, clear_slots, seen, seen_in, seen_slots}
use Rattle.mech_rows.specs.Says.{item_as, message}
use Rattle.mech_rows.proofs.RowUse.{seen_case, clear_case}
use Rattle.agreement_laws.specs.Traces.{RunId, Happening, Opens, Steps, Reveals, current, same_id, OccursIn, OccursInNotes}
use Rattle.world_run.specs.Born.{IsUnborn}

-- ---- occurrences in lists of items

pub in_items : (v t : Tree) (ts : List Tree) → Among t ts → Occurs v t → OccursInItems v (trees ts)
in_items v t [] i o = elim i [ ]
in_items v t (u ∷ ts) (inl e) o = inl (subst (Occurs v) e o)
in_items v t (u ∷ ts) (inr i) o = inr (in_items v t ts i o)

pub items_in : (v : Tree) (ts : List Tree) → OccursInItems v (trees ts) → (t : Tree) × Among t ts × Occurs v t
items_in v [] o = elim o [ ]
items_in v (t ∷ ts) (inl o) = (t, inl refl, o)
items_in v (t ∷ ts) (inr o) = let r = items_in v ts o in (r.0, inr r.1, r.2)

value_is : (notes : Notes) (s : Slot) (t : Tree) → notes s ≡ Some t → value notes s ≡ t
value_is notes s t e = ap noted_or_empty e

-- ---- what a reader sees stands in the message

in_body : (v : Tree) (h : Head) (notes : Notes) (c : Cover) (s : Slot) → Among s c.slots → Occurs v (value notes s) → Occurs v (body h notes c)
in_body v h notes c s i o = inr (inr (in_items v (value notes s) (names h ++ map (value notes) c.slots) (among_right (names h) (map (value notes) c.slots) (value notes s) (map_among (value notes) c.slots s i)) o))

in_protected : (v : Tree) (keys : Keys) (h : Head) (notes : Notes) (c : Cover) → Occurs v (body h notes c) → Occurs v (protected keys h notes c)
in_protected v keys h notes c o = go c.is_check
  where
    go : (b : Bool) → Occurs v (if b then check (key_under keys h notes c.under) (body h notes c) else seal (key_under keys h notes c.under) (body h notes c))
    go true = inr (inr o)
    go false = inr (inr o)

in_item : (v : Tree) (keys : Keys) (h : Head) (notes : Notes) (c : Cover) (s : Slot) → ((c.seen ≡ true) × Among s c.slots) ⊎ ((c.seen ≡ false) × Among s (Fwd ∷ [])) → Occurs v (value notes s) → Occurs v (item_as keys h notes seen c)
in_item v keys h notes c s (inl (e, i)) o = subst (λ (b : Bool). Occurs v (if b then protected keys h notes c else value notes Fwd)) (sym e) (in_protected v keys h notes c (in_body v h notes c s i o))
in_item v keys h notes c s (inr (e, inl is)) o = subst (λ (b : Bool). Occurs v (if b then protected keys h notes c else value notes Fwd)) (sym e) (subst (λ (x : Slot). Occurs v (value notes x)) is o)
in_item v keys h notes c s (inr (e, inr i)) o = elim i [ ]

pub seen_occurs : (v : Tree) (keys : Keys) (h : Head) (notes : Notes) (k : ℕ) (p : Pass) (s : Slot) (t : Tree) → Among s (seen_slots p) → notes s ≡ Some t → Occurs v t → Occurs v (message keys h notes seen k p)
seen_occurs v keys h notes k p s t i e o =
    let at : Occurs v (value notes s) = subst (Occurs v) (sym (value_is notes s t e)) o in
    go at (among_append (clear_slots p.clear) (seen_in p.covers) s i)
  where
    items : List Tree
    items = map (clear_item h notes) p.clear ++ map (item_as keys h notes seen) p.covers

    go : Occurs v (value notes s) → Among s (clear_slots p.clear) ⊎ Among s (seen_in p.covers) → Occurs v (message keys h notes seen k p)
    go at (inl j) = inr (inr (in_items v (value notes s) items (among_left (map (clear_item h notes) p.clear) (map (item_as keys h notes seen) p.covers) (value notes s) (map_among (clear_item h notes) p.clear (Shown s) (clear_case p.clear s j))) at))
    go at (inr j) =
        let c = seen_case p.covers s j in
        inr (inr (in_items v (item_as keys h notes seen c.0) items (among_right (map (clear_item h notes) p.clear) (map (item_as keys h notes seen) p.covers) (item_as keys h notes seen c.0) (map_among (item_as keys h notes seen) p.covers c.0 c.1)) (in_item v keys h notes c.0 s c.2 at)))

-- ---- a message shows nothing but values of notes, names, tags and keys

-- the value is not one that was never drawn, where it occurs in such notes and keys
pub record AreAllBorn (n : ℕ) (keys : Keys) (notes : Notes) : Type 0 where
  pub values : (s : Slot) (t v : Tree) → notes s ≡ Some t → Occurs v t → IsUnborn n v → ⊥
  pub keyed : (x y : ℕ) (p : Bytes) → keys x y ≡ Some p → IsUnborn n (part p) → ⊥

module _ (n : ℕ) (keys : Keys) (notes : Notes) (born : AreAllBorn n keys notes) where
  born_value : (s : Slot) (v : Tree) → Occurs v (value notes s) → IsUnborn n v → ⊥
  born_value s v o u = go (notes s) refl o
    where
      go : (x : Option Tree) → notes s ≡ x → Occurs v (noted_or_empty x) → ⊥
      go (Some t) e p = born.values s t v e p u
      go None e (inl is) = let y : IsUnborn n (tuple none) = subst (IsUnborn n) is u in y
      go None e (inr p) = p

  born_name : (m : ℕ) (v : Tree) → v ≡ name m → IsUnborn n v → ⊥
  born_name m v is u = let y : IsUnborn n (name m) = subst (IsUnborn n) is u in y

  born_tag : (b : Bytes) (v : Tree) → v ≡ tag b → IsUnborn n v → ⊥
  born_tag b v is u = let y : IsUnborn n (tag b) = subst (IsUnborn n) is u in y

  born_clear : (h : Head) (c : Clear) (v : Tree) → Occurs v (clear_item h notes c) → IsUnborn n v → ⊥
  born_clear h (Shown s) v o u = born_value s v o u
  born_clear h NameOfB v o u = born_name h.b v o u

  born_key : (h : Head) (under : Under) (v : Tree) → StandsInKey v (key_under keys h notes under) → IsUnborn n v → ⊥
  born_key h (Pair x y) v is u = go (keys (name_of h x) (name_of h y)) refl is
    where
      go : (o : Option Bytes) → keys (name_of h x) (name_of h y) ≡ o → v ≡ part (bytes_or_empty o) → ⊥
      go (Some p) e f = born.keyed (name_of h x) (name_of h y) p e (subst (IsUnborn n) f u)
      go None e f = let z : IsUnborn n (part []) = subst (IsUnborn n) f u in z
  born_key h Drawn v is u = go (value notes Fa) refl is
    where
      none_here : v ≡ part [] → ⊥
      none_here f = let z : IsUnborn n (part []) = subst (IsUnborn n) f u in z

      go : (t : Tree) → value notes Fa ≡ t → v ≡ part (part_bytes t) → ⊥
      go (part p) e f = born_value Fa v (subst (Occurs v) (sym e) f) u
      go _ e f = none_here f

  born_names : (h : Head) (t v : Tree) → Among t (names h) → Occurs v t → IsUnborn n v → ⊥
  born_names h t v i o u = go (has_third h.mech) i
    where
      one : (m : ℕ) → t ≡ name m → ⊥
      one m e = born_name m v (subst (Occurs v) e o) u

      go : (b : Bool) → Among t (if b then name h.a ∷ name h.b ∷ name (name_of h P) ∷ [] else name h.a ∷ name h.b ∷ []) → ⊥
      go true (inl e) = one h.a e
      go true (inr (inl e)) = one h.b e
      go true (inr (inr (inl e))) = one (name_of h P) e
      go true (inr (inr (inr j))) = j
      go false (inl e) = one h.a e
      go false (inr (inl e)) = one h.b e
      go false (inr (inr j)) = j

  born_body : (h : Head) (c : Cover) (v : Tree) → Occurs v (body h notes c) → IsUnborn n v → ⊥
  born_body h c v (inl is) u = let y : IsUnborn n (body h notes c) = subst (IsUnborn n) is u in y
  born_body h c v (inr (inl is)) u = born_tag c.tagged v is u
  born_body h c v (inr (inr o)) u =
      let r = items_in v (names h ++ map (value notes) c.slots) o in
      go r.0 r.2 (among_append (names h) (map (value notes) c.slots) r.0 r.1)
    where
      go : (t : Tree) → Occurs v t → Among t (names h) ⊎ Among t (map (value notes) c.slots) → ⊥
      go t p (inl i) = born_names h t v i p u
      go t p (inr i) = let s = among_map (value notes) c.slots t i in born_value s.0 v (subst (Occurs v) s.2 p) u

  born_protected : (h : Head) (c : Cover) (v : Tree) → Occurs v (protected keys h notes c) → IsUnborn n v → ⊥
  born_protected h c v o u = go c.is_check o
    where
      go : (b : Bool) → Occurs v (if b then check (key_under keys h notes c.under) (body h notes c) else seal (key_under keys h notes c.under) (body h notes c)) → ⊥
      go true (inl is) = let y : IsUnborn n (check (key_under keys h notes c.under) (body h notes c)) = subst (IsUnborn n) is u in y
      go true (inr (inl s)) = born_key h c.under v s u
      go true (inr (inr p)) = born_body h c v p u
      go false (inl is) = let y : IsUnborn n (seal (key_under keys h notes c.under) (body h notes c)) = subst (IsUnborn n) is u in y
      go false (inr (inl s)) = born_key h c.under v s u
      go false (inr (inr p)) = born_body h c v p u

  born_item : (h : Head) (knows : Cover → Bool) (c : Cover) (v : Tree) → Occurs v (item_as keys h notes knows c) → IsUnborn n v → ⊥
  born_item h knows c v o u = go (knows c) o
    where
      go : (b : Bool) → Occurs v (if b then protected keys h notes c else value notes Fwd) → ⊥
      go true p = born_protected h c v p u
      go false p = born_value Fwd v p u

  pub born_message : (h : Head) (knows : Cover → Bool) (k : ℕ) (p : Pass) (v : Tree) → Occurs v (message keys h notes knows k p) → IsUnborn n v → ⊥
  born_message h knows k p v (inl is) u = let y : IsUnborn n (message keys h notes knows k p) = subst (IsUnborn n) is u in y
  born_message h knows k p v (inr (inl is)) u = born_tag (tag_of h.mech (suc k) 0) v is u
  born_message h knows k p v (inr (inr o)) u =
      let r = items_in v (map (clear_item h notes) p.clear ++ map (item_as keys h notes knows) p.covers) o in
      go r.0 r.2 (among_append (map (clear_item h notes) p.clear) (map (item_as keys h notes knows) p.covers) r.0 r.1)
    where
      go : (t : Tree) → Occurs v t → Among t (map (clear_item h notes) p.clear) ⊎ Among t (map (item_as keys h notes knows) p.covers) → ⊥
      go t q (inl i) = let c = among_map (clear_item h notes) p.clear t i in born_clear h c.0 v (subst (Occurs v) c.2 q) u
      go t q (inr i) = let c = among_map (item_as keys h notes knows) p.covers t i in born_item h knows c.0 v (subst (Occurs v) c.2 q) u

-- ---- the notes of a run stand in what happened

pub notes_happened : (h : List Happening) (id : RunId) (run : Run) (v : Tree) → current h id ≡ Some run → OccursInNotes v run.notes → (e : Happening) × Among e h × OccursIn v e
notes_happened [] id run v e o = absurd (cc)
notes_happened (Opens i r ∷ h) id run v e o = go (same_id i id) e (notes_happened h id run v)
  where
    go : (b : Bool) → (if b then Some r else current h id) ≡ Some run → (current h id ≡ Some run → OccursInNotes v run.notes → (x : Happening) × Among x h × OccursIn v x) → (x : Happening) × Among x (Opens i r ∷ h) × OccursIn v x
    go true f rest = let is : r ≡ run = cc in (Opens i r, inl refl, subst (λ (x : Run). OccursInNotes v x.notes) (sym is) o)
    go false f rest = let t = rest f o in (t.0, inr t.1, t.2)
notes_happened (Steps i step ∷ h) id run v e o = go (same_id i id) e (notes_happened h id run v)
  where
    go : (b : Bool) → (if b then Some step.after else current h id) ≡ Some run → (current h id ≡ Some run → OccursInNotes v run.notes → (x : Happening) × Among x h × OccursIn v x) → (x : Happening) × Among x (Steps i step ∷ h) × OccursIn v x
    go true f rest = let is : step.after ≡ run = cc in (Steps i step, inl refl, inl (subst (λ (x : Run). OccursInNotes v x.notes) (sym is) o))
    go false f rest = let t = rest f o in (t.0, inr t.1, t.2)
notes_happened (Reveals i ∷ h) id run v e o = let t = notes_happened h id run v e o in (t.0, inr t.1, t.2)
