-- What stands in lists that are mapped, joined or chosen.
use Rattle.std.proofs.Common.{◌≡◌, ◌⊎◌, List, [], ◌∷◌, ◌++◌, map, Bool, true, false, not, ◌&&◌, ◌||◌, if◌then◌else◌, refl, sym, ap, subst, inl, inr}
use Rattle.std.specs.List.{list_all, list_any}
use Rattle.term_values.specs.Trees.{Among}

pub among_map : {X Y : Type 0} (f : X → Y) (xs : List X) (y : Y) → Among y (map f xs) → (x : X) × Among x xs × (y ≡ f x)
among_map f [] y i = elim i [ ]
among_map f (x ∷ xs) y (inl e) = (x, inl refl, e)
among_map f (x ∷ xs) y (inr i) = let r = among_map f xs y i in (r.0, inr r.1, r.2)

pub map_among : {X Y : Type 0} (f : X → Y) (xs : List X) (x : X) → Among x xs → Among (f x) (map f xs)
map_among f [] x i = elim i [ ]
map_among f (y ∷ ys) x (inl e) = inl (ap f e)
map_among f (y ∷ ys) x (inr i) = inr (map_among f ys x i)

pub among_append : {X : Type 0} (xs ys : List X) (x : X) → Among x (xs ++ ys) → Among x xs ⊎ Among x ys
among_append [] ys x i = inr i
among_append (y ∷ xs) ys x (inl e) = inl (inl e)
among_append (y ∷ xs) ys x (inr i) = elim (among_append xs ys x i) [ inl j ↦ inl (inr j) | inr j ↦ inr j ]

pub among_left : {X : Type 0} (xs ys : List X) (x : X) → Among x xs → Among x (xs ++ ys)
among_left [] ys x i = elim i [ ]
among_left (y ∷ xs) ys x (inl e) = inl e
among_left (y ∷ xs) ys x (inr i) = inr (among_left xs ys x i)

pub among_right : {X : Type 0} (xs ys : List X) (x : X) → Among x ys → Among x (xs ++ ys)
among_right [] ys x i = i
among_right (y ∷ xs) ys x i = inr (among_right xs ys x i)

pub among_if : {X : Type 0} (b : Bool) (xs ys : List X) (x : X) → Among x (if b then xs else ys) → ((b ≡ true) × Among x xs) ⊎ ((b ≡ false) × Among x ys)
among_if true xs ys x i = inl (refl, i)
among_if false xs ys x i = inr (refl, i)

pub and_left : (a b : Bool) → (a && b) ≡ true → a ≡ true
and_left true b h = refl
and_left false b h = h

pub and_right : (a b : Bool) → (a && b) ≡ true → b ≡ true
and_right true b h = h
and_right false b h = cc

pub or_cases : (a b : Bool) → (a || b) ≡ true → (a ≡ true) ⊎ (b ≡ true)
or_cases true b h = inl refl
or_cases false b h = inr h

pub not_true : (a : Bool) → not a ≡ true → a ≡ false
not_true true h = sym h
not_true false h = refl

pub all_among : {X : Type 0} (f : X → Bool) (xs : List X) → list_all f xs ≡ true → (x : X) → Among x xs → f x ≡ true
all_among f [] h x i = elim i [ ]
all_among f (y ∷ ys) h x (inl e) = rw e (and_left _ _ h)
all_among f (y ∷ ys) h x (inr i) = all_among f ys (and_right _ _ h) x i

pub none_among : {X : Type 0} (f : X → Bool) (xs : List X) → list_any f xs ≡ false → (x : X) → Among x xs → f x ≡ false
none_among f [] h x i = elim i [ ]
none_among f (y ∷ ys) h x (inl e) = rw e (or_left _ _ h)
  where
    or_left : (a b : Bool) → (a || b) ≡ false → a ≡ false
    or_left true b g = g
    or_left false b g = refl
none_among f (y ∷ ys) h x (inr i) = none_among f ys (or_right _ _ h) x i
  where
    or_right : (a b : Bool) → (a || b) ≡ false → b ≡ false
    or_right true b g = absurd (cc)
    or_right false b g = g

pub some_among : {X : Type 0} (f : X → Bool) (xs : List X) → list_any f xs ≡ true → (x : X) × Among x xs × (f x ≡ true)
some_among f [] h = absurd (cc)
some_among f (y ∷ ys) h = go (or_cases _ _ h) (some_among f ys)
  where
    go : (f y ≡ true) ⊎ (list_any f ys ≡ true) → (list_any f ys ≡ true → (x : _) × Among x ys × (f x ≡ true)) → (x : _) × Among x (y ∷ ys) × (f x ≡ true)
    go (inl e) r = (y, inl refl, e)
    go (inr e) r = let s = r e in (s.0, inr s.1, s.2)

pub and_both : (a b : Bool) → a ≡ true → b ≡ true → (a && b) ≡ true
and_both true b h g = g
and_both false b h g = h

pub any_among : {X : Type 0} (f : X → Bool) (xs : List X) (x : X) → Among x xs → f x ≡ true → list_any f xs ≡ true
any_among f [] x i h = elim i [ ]
any_among f (y ∷ ys) x (inl e) h = or_here (f y) (subst (λ z. f z ≡ true) e h)
  where
    or_here : (a : Bool) → a ≡ true → (a || list_any f ys) ≡ true
    or_here true g = refl
    or_here false g = absurd (cc)
any_among f (y ∷ ys) x (inr i) h = or_there (f y) (any_among f ys x i h)
  where
    or_there : (a : Bool) → list_any f ys ≡ true → (a || list_any f ys) ≡ true
    or_there true g = refl
    or_there false g = g

pub and_cases : (a b c : Bool) → (not a || (b && c)) ≡ true → a ≡ true → (b ≡ true) × (c ≡ true)
and_cases a b c h e = go (or_cases _ _ h)
  where
    go : (not a ≡ true) ⊎ ((b && c) ≡ true) → (b ≡ true) × (c ≡ true)
    go (inl g) = let no = not_true _ g in absurd (cc)
    go (inr g) = (and_left b c g, and_right b c g)

pub implied : (a b : Bool) → (not a || b) ≡ true → a ≡ true → b ≡ true
implied true b h e = h
implied false b h e = absurd (cc)
