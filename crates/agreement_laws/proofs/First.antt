-- Whether a run agrees can be decided, so where some run agrees there is a first one.
use Rattle.std.proofs.Common.{◌≡◌, ℕ, ◌==◌, ◌⊎◌, List, [], ◌∷◌, ◌++◌, map, Bool, true, false, not, ◌&&◌, if◌then◌else◌, refl, sym, ap, subst, ◌∙◌, inl, inr, Option, Some, None, eqb-true, eq-eqb}
use Rattle.term_values.specs.Trees.{Among, Bytes, Tree, name, nonce, stamp, text, part}
use Rattle.term_values.specs.declared.small.Stamp.{Stamp}
use Rattle.term_values.specs.declared.small.Stamp.TheVariants.{Time, Seq}
use Rattle.term_values.specs.SameBytes.{same_bytes}
use Rattle.mech_rows.specs.declared.kinds.Mech.{Mech}
use Rattle.mech_rows.specs.declared.kinds.Role.{Role}
use Rattle.mech_rows.specs.declared.kinds.Role.TheVariants.{A, B, P}
use Rattle.mech_rows.specs.declared.kinds.Slot.{Slot}
use Rattle.mech_rows.specs.declared.kinds.Kind.{Kind}
use Rattle.mech_rows.specs.declared.kinds.Kind.TheVariants.{Nonce as a_nonce, Stamp as a_stamp, Part as a_part, Text as a_text, Item as an_item}
use Rattle.mech_rows.specs.Rows.{kind_of, has_third, agreed_of, family, number}
use Rattle.mech_rows.specs.declared.kinds.Slot.TheVariants.{Fwd}
use Rattle.mech_rows.specs.Facts.{same_mech, same_role, is_fwd, plain_slots}
use Rattle.mech_rows.specs.Heads.{Head, name_of}
use Rattle.mech_rows.specs.Runs.{Run, Notes, HasKind, names}
use Rattle.agreement_laws.specs.Configs.{Config, IsLawful}
use Rattle.agreement_laws.specs.Traces.{RunId, Happening, Opens, Steps, Reveals, current, same_id}
use Rattle.agreement_laws.specs.Sound.{NotedAlike, AgreesOn, opened, IsFirst, AgreesAt}
use Rattle.mech_rows.proofs.Facts.{claims_are_plain_holds}
use Rattle.agreement_laws.proofs.Traces.{IsTrace}
use Rattle.term_values.proofs.Lists.{all_among, and_left, and_right, and_both, not_true, among_left, among_right}
use Rattle.mech_rows.proofs.RowUse.{same_role_is, same_role_refl}
use Rattle.agreement_laws.proofs.Ids.{same_id_is}
use Rattle.term_values.proofs.SameBytes.{same_bytes_refl, same_start}
use Rattle.mech_rows.proofs.Items.{same_mech_is}
use Rattle.agreement_laws.proofs.Agreement.{HasPartner, kinds}

abbrev pub Decided : Type 0 → Type 0
Decided X = X ⊎ (X → ⊥)

-- the first of a list for which it holds
pub first_of : (Is : RunId → Type 0) → ((i : RunId) → Decided (Is i)) → (ids : List RunId) (id : RunId) → Among id ids → Is id → (f : RunId) × IsFirst Is ids f
first_of Is decide [] id i x = elim i [ ]
first_of Is decide (j ∷ ids) id (inl e) x = (j, inl (refl, subst Is e x))
first_of Is decide (j ∷ ids) id (inr i) x = go (decide j) (first_of Is decide ids id i x)
  where
    go : Decided (Is j) → (f : RunId) × IsFirst Is ids f → (f : RunId) × IsFirst Is (j ∷ ids) f
    go (inl y) rest = (j, inl (refl, y))
    go (inr not_it) rest = (rest.0, inr (not_it, rest.1))

decide_bytes : (xs ys : Bytes) → Decided (xs ≡ ys)
decide_bytes xs ys = go (same_bytes xs ys) refl
  where
    go : (b : Bool) → same_bytes xs ys ≡ b → Decided (xs ≡ ys)
    go true e = inl (same_start xs ys e)
    go false e = inr (λ f. let yes_same : same_bytes xs ys ≡ true = subst (λ (z : Bytes). same_bytes xs z ≡ true) f (same_bytes_refl xs) in cc)

decide_number : (n m : ℕ) → Decided (n ≡ m)
decide_number n m = go (n == m) refl
  where
    go : (b : Bool) → (n == m) ≡ b → Decided (n ≡ m)
    go true e = inl (eqb-true n m e)
    go false e = inr (λ f. let yes_same : (n == m) ≡ true = eq-eqb n m f in cc)

decide_stamp : (s t : Stamp) → Decided (s ≡ t)
decide_stamp (Time n) (Time m) = go (decide_number n m)
  where
    go : Decided (n ≡ m) → Decided (Time n ≡ Time m)
    go (inl e) = inl (ap Time e)
    go (inr f) = inr (λ e. f (cc))
decide_stamp (Seq n) (Seq m) = go (decide_number n m)
  where
    go : Decided (n ≡ m) → Decided (Seq n ≡ Seq m)
    go (inl e) = inl (ap Seq e)
    go (inr f) = inr (λ e. f (cc))
decide_stamp (Time n) (Seq m) = inr (λ e. cc)
decide_stamp (Seq n) (Time m) = inr (λ e. cc)

is_item : Kind → Bool
is_item an_item = true
is_item _ = false

no_item : (s : Slot) → is_fwd s ≡ false → is_item (kind_of s) ≡ false
unfolding is_item
no_item Fwd h = absurd (cc)
no_item _ h = refl

-- two values of a kind of one constructor
by_bytes : (make : Bytes → Tree) → ((x y : Bytes) → make x ≡ make y → x ≡ y) → (t u : Tree) → (b : Bytes) × (t ≡ make b) → (b : Bytes) × (u ≡ make b) → Decided (t ≡ u)
by_bytes make inj t u x y = go (decide_bytes x.0 y.0)
  where
    go : Decided (x.0 ≡ y.0) → Decided (t ≡ u)
    go (inl e) = inl (x.1 ∙ (ap make e ∙ sym y.1))
    go (inr f) = inr (λ e. f (inj x.0 y.0 (sym x.1 ∙ (e ∙ y.1))))

decide_tree : (k : Kind) (t u : Tree) → is_item k ≡ false → HasKind k t → HasKind k u → Decided (t ≡ u)
unfolding is_item
decide_tree a_nonce t u h x y = by_bytes nonce (λ p q e. cc) t u x y
decide_tree a_part t u h x y = by_bytes part (λ p q e. cc) t u x y
decide_tree a_text t u h x y = by_bytes text (λ p q e. cc) t u x y
decide_tree a_stamp t u h x y = go (decide_stamp x.0 y.0)
  where
    inj : (p q : Stamp) → stamp p ≡ stamp q → p ≡ q
    inj p q e = cc

    go : Decided (x.0 ≡ y.0) → Decided (t ≡ u)
    go (inl e) = inl (x.1 ∙ (ap stamp e ∙ sym y.1))
    go (inr f) = inr (λ e. f (inj x.0 y.0 (sym x.1 ∙ (e ∙ y.1))))
decide_tree an_item t u h x y = absurd (cc)

-- the names as numbers
name_list : Head → List ℕ
name_list h = if has_third h.mech then h.a ∷ h.b ∷ name_of h P ∷ [] else h.a ∷ h.b ∷ []

number_in : Tree → ℕ
number_in (name n) = n
number_in _ = 0

names_by_numbers : (h : Head) → names h ≡ map name (name_list h)
unfolding name_list
names_by_numbers h = go (has_third h.mech)
  where
    go : (b : Bool) → (if b then name h.a ∷ name h.b ∷ name (name_of h P) ∷ [] else name h.a ∷ name h.b ∷ []) ≡ map name (if b then h.a ∷ h.b ∷ name_of h P ∷ [] else h.a ∷ h.b ∷ [])
    go true = refl
    go false = refl

numbers_by_names : (h : Head) → map number_in (names h) ≡ name_list h
unfolding name_list number_in
numbers_by_names h = go (has_third h.mech)
  where
    go : (b : Bool) → map number_in (if b then name h.a ∷ name h.b ∷ name (name_of h P) ∷ [] else name h.a ∷ name h.b ∷ []) ≡ (if b then h.a ∷ h.b ∷ name_of h P ∷ [] else h.a ∷ h.b ∷ [])
    go true = refl
    go false = refl

decide_names : (h g : Head) → Decided (names h ≡ names g)
decide_names h g = go (decide_bytes (name_list h) (name_list g))
  where
    go : Decided (name_list h ≡ name_list g) → Decided (names h ≡ names g)
    go (inl e) = inl (names_by_numbers h ∙ (ap (map name) e ∙ sym (names_by_numbers g)))
    go (inr f) = inr (λ e. f (sym (numbers_by_names h) ∙ (ap (map number_in) e ∙ numbers_by_names g)))

decide_mech : (m n : Mech) → Decided (m ≡ n)
decide_mech m n = go (same_mech m n) refl
  where
    go : (b : Bool) → same_mech m n ≡ b → Decided (m ≡ n)
    go true e = inl (same_mech_is m n e)
    go false e = inr (λ f. let yes_same : same_mech m n ≡ true = subst (λ (x : Mech). same_mech m x ≡ true) f (and_both (family m == family m) (number m == number m) (eq-eqb (family m) (family m) refl) (eq-eqb (number m) (number m) refl)) in cc)

decide_role : (x y : Role) → Decided (x ≡ y)
decide_role x y = go (same_role x y) refl
  where
    go : (b : Bool) → same_role x y ≡ b → Decided (x ≡ y)
    go true e = inl (same_role_is x y e)
    go false e = inr (λ f. let yes_same : same_role x y ≡ true = subst (λ (z : Role). same_role x z ≡ true) f (same_role_refl x) in cc)

abbrev pub HasKinds : Notes → Type 0
HasKinds notes = (s : Slot) (t : Tree) → notes s ≡ Some t → HasKind (kind_of s) t

decide_slot : (s : Slot) (n m : Notes) → is_fwd s ≡ false → HasKinds n → HasKinds m → Decided (NotedAlike s n m)
decide_slot s n m plain f g = go (n s) (m s) refl refl
  where
    alike : (t u : Tree) → n s ≡ Some t → m s ≡ Some u → Decided (t ≡ u) → Decided (NotedAlike s n m)
    alike t u e i (inl x) = inl (record { tree = t; left = e; right = i ∙ ap Some (sym x) })
    alike t u e i (inr x) = inr (λ a. x (some_inj t u (sym e ∙ (a.left ∙ (sym a.right ∙ i)))))
      where
        some_inj : (x y : Tree) → Some x ≡ Some y → x ≡ y
        some_inj x y e = cc

    go : (o r : Option Tree) → n s ≡ o → m s ≡ r → Decided (NotedAlike s n m)
    go None r e i = inr (λ a. let bad : None ≡ Some a.tree = sym e ∙ a.left in cc)
    go (Some t) None e i = inr (λ a. let bad : None ≡ Some a.tree = sym i ∙ a.right in cc)
    go (Some t) (Some u) e i = alike t u e i (decide_tree (kind_of s) t u (no_item s plain) (f s t e) (g s u i))

decide_slots : (slots : List Slot) (n m : Notes) → ((s : Slot) → Among s slots → is_fwd s ≡ false) → HasKinds n → HasKinds m → Decided ((s : Slot) → Among s slots → NotedAlike s n m)
decide_slots [] n m plain f g = inl (λ s i. absurd i)
decide_slots (u ∷ slots) n m plain f g = go (decide_slot u n m (plain u (inl refl)) f g) (decide_slots slots n m (λ s i. plain s (inr i)) f g)
  where
    each : NotedAlike u n m → ((s : Slot) → Among s slots → NotedAlike s n m) → (s : Slot) → Among s (u ∷ slots) → NotedAlike s n m
    each a b s (inl e) = subst (λ (x : Slot). NotedAlike x n m) (sym e) a
    each a b s (inr i) = b s i

    go : Decided (NotedAlike u n m) → Decided ((s : Slot) → Among s slots → NotedAlike s n m) → Decided ((s : Slot) → Among s (u ∷ slots) → NotedAlike s n m)
    go (inl a) (inl b) = inl (each a b)
    go (inr a) x = inr (λ all. a (all u (inl refl)))
    go (inl a) (inr b) = inr (λ all. b (λ s i. all s (inr i)))

decide_agrees : (role : Role) (slots : List Slot) (r c : Run) → ((s : Slot) → Among s slots → is_fwd s ≡ false) → HasKinds r.notes → HasKinds c.notes → Decided (AgreesOn role slots r c)
decide_agrees role slots r c plain f g = go (decide_mech r.head.mech c.head.mech) (decide_names r.head c.head) (decide_role r.head.role role) (decide_slots slots r.notes c.notes plain f g)
  where
    go : Decided (r.head.mech ≡ c.head.mech) → Decided (names r.head ≡ names c.head) → Decided (r.head.role ≡ role) → Decided ((s : Slot) → Among s slots → NotedAlike s r.notes c.notes) → Decided (AgreesOn role slots r c)
    go (inr a) x y z = inr (λ q. a q.mech)
    go (inl a) (inr b) y z = inr (λ q. b q.names)
    go (inl a) (inl b) (inr d) z = inr (λ q. d q.role_is)
    go (inl a) (inl b) (inl d) (inr e) = inr (λ q. e q.alike)
    go (inl a) (inl b) (inl d) (inl e) = inl (record { mech = a; names = b; role_is = d; alike = e })

-- a run that is there was opened
was_opened : (c : Config) (h : List Happening) → IsTrace c h → (id : RunId) (r : Run) → current h id ≡ Some r → Among id (opened h)
was_opened c [] w id r is = absurd (cc)
was_opened c (Opens n now ∷ h) w id r is = go (same_id n id) refl is (λ f. was_opened c h w.0 id r f)
  where
    go : (b : Bool) → same_id n id ≡ b → (if b then Some now else current h id) ≡ Some r → (current h id ≡ Some r → Among id (opened h)) → Among id (opened h ++ (n ∷ []))
    go true e f rest = among_right (opened h) (n ∷ []) id (inl (sym (same_id_is n id e)))
    go false e f rest = among_left (opened h) (n ∷ []) id (rest f)
was_opened c (Steps n step ∷ h) w id r is = go (same_id n id) refl is (was_opened c h w.0 n step.before w.1.runs) (λ f. was_opened c h w.0 id r f)
  where
    go : (b : Bool) → same_id n id ≡ b → (if b then Some step.after else current h id) ≡ Some r → Among n (opened h) → (current h id ≡ Some r → Among id (opened h)) → Among id (opened h)
    go true e f before rest = subst (λ (i : RunId). Among i (opened h)) (same_id_is n id e) before
    go false e f before rest = rest f
was_opened c (Reveals n ∷ h) w id r is = was_opened c h w.0 id r is

-- by the fact claims_are_plain
pub agreed_is_plain : (m : Mech) (r : Role) (slots : List Slot) → agreed_of m r ≡ Some slots → (s : Slot) → Among s slots → is_fwd s ≡ false
agreed_is_plain m r slots e s i = not_true (is_fwd s) (all_among (λ s. not (is_fwd s)) slots (subst (λ (o : Option (List Slot)). plain_slots o ≡ true) e (by_role r)) s i)
  where
    by_role : (x : Role) → plain_slots (agreed_of m x) ≡ true
    by_role A = and_left (plain_slots (agreed_of m A)) (plain_slots (agreed_of m B) && plain_slots (agreed_of m P)) (claims_are_plain_holds m)
    by_role B = and_left (plain_slots (agreed_of m B)) (plain_slots (agreed_of m P)) (and_right (plain_slots (agreed_of m A)) (plain_slots (agreed_of m B) && plain_slots (agreed_of m P)) (claims_are_plain_holds m))
    by_role P = and_right (plain_slots (agreed_of m B)) (plain_slots (agreed_of m P)) (and_right (plain_slots (agreed_of m A)) (plain_slots (agreed_of m B) && plain_slots (agreed_of m P)) (claims_are_plain_holds m))

pub first_partner : (c : Config) → IsLawful c → (h : List Happening) → IsTrace c h → (role : Role) (slots : List Slot) (run : Run) → ((s : Slot) → Among s slots → is_fwd s ≡ false) → HasKinds run.notes → HasPartner h role slots run → (id : RunId) × IsFirst (AgreesAt h role slots run) (opened h) id
first_partner c lawful h w role slots run plain own_kinds p = first_of (AgreesAt h role slots run) decide (opened h) p.id (was_opened c h w p.id p.other p.runs) (p.other, p.runs, p.agrees)
  where
    run_inj : (x y : Run) → Some x ≡ Some y → x ≡ y
    run_inj x y e = cc

    decide : (i : RunId) → Decided (AgreesAt h role slots run i)
    decide i = go (current h i) refl
      where
        at : (r : Run) → current h i ≡ Some r → Decided (AgreesOn role slots r run) → Decided (AgreesAt h role slots run i)
        at r e (inl a) = inl (r, e, a)
        at r e (inr f) = inr (λ q. f (subst (λ (x : Run). AgreesOn role slots x run) (run_inj q.0 r (sym q.1 ∙ e)) q.2))

        go : (o : Option Run) → current h i ≡ o → Decided (AgreesAt h role slots run i)
        go None e = inr (λ q. let bad : None ≡ Some q.0 = sym e ∙ q.1 in cc)
        go (Some r) e = at r e (decide_agrees role slots r run plain (kinds c lawful h w i r e) own_kinds)

-- there is at most one first
pub first_is_one : (Is : RunId → Type 0) (ids : List RunId) (i j : RunId) → IsFirst Is ids i → IsFirst Is ids j → i ≡ j
first_is_one Is [] i j a b = elim a [ ]
first_is_one Is (k ∷ ids) i j (inl a) (inl b) = a.0 ∙ sym b.0
first_is_one Is (k ∷ ids) i j (inl a) (inr b) = absurd (b.0 a.1)
first_is_one Is (k ∷ ids) i j (inr a) (inl b) = absurd (a.0 b.1)
first_is_one Is (k ∷ ids) i j (inr a) (inr b) = first_is_one Is ids i j a.1 b.1
