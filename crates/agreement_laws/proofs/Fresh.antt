-- What steps draw, issue and accept tells them apart.
use Rattle.std.proofs.Common.{◌≡◌, ℕ, List, [], ◌∷◌, true, refl, sym, ap, subst, ◌∙◌, inl, inr, Option}
use Rattle.term_values.specs.Trees.{Among, Bytes, Tree, name, stamp, nonce, part, text, tag, blob, tuple, seal, check, Occurs}
use Rattle.mech_rows.specs.declared.kinds.Slot.{Slot}
use Rattle.mech_rows.specs.declared.kinds.Kind.TheVariants.{Stamp as a_stamp}
use Rattle.mech_rows.specs.Rows.{kind_of}
use Rattle.mech_rows.specs.Facts.{is_part}
use Rattle.mech_rows.specs.Runs.{Step, Draws}
use Rattle.mech_rows.specs.Heads.{me}
use Rattle.agreement_laws.specs.Configs.{Config, IsGoodLong}
use Rattle.agreement_laws.specs.Traces.{Happening, Steps, OccursIn, OccursInConfig, is_drawn_kind, RunId}
use Rattle.agreement_laws.proofs.Steps.{part_kind}
use Rattle.agreement_laws.proofs.Traces.{Happens, IsTrace}
use Rattle.mech_rows.proofs.Judged.{Judges}

pub drawn_slot : (s : Slot) → is_part s ≡ true → is_drawn_kind (kind_of s) ≡ true
drawn_slot s h = ap is_drawn_kind (part_kind s h)

-- what a step of a world draws stands nowhere in the configuration
pub drawn_outside : (c : Config) (h : List Happening) → IsTrace c h → (id : RunId) (step : Step) (s : Slot) (p : Bytes) → Among (Steps id step) h → is_part s ≡ true → Draws step s (part p) → OccursInConfig (part p) c → ⊥
drawn_outside c [] w id step s p i e d o = elim i [ ]
drawn_outside c (x ∷ h) w id step s p (inl is) e d o =
    let now : Happens c h (Steps id step) = subst (Happens c h) (sym is) w.1 in
    now.fresh.in_config s (part p) (drawn_slot s e) d o
drawn_outside c (x ∷ h) w id step s p (inr i) e d o = drawn_outside c h w.0 id step s p i e d o

occurs_itself : (t : Tree) → Occurs t t
occurs_itself (tuple ts) = inl refl
occurs_itself (seal k t) = inl refl
occurs_itself (check k t) = inl refl
occurs_itself (name n) = refl
occurs_itself (stamp s) = refl
occurs_itself (nonce b) = refl
occurs_itself (part b) = refl
occurs_itself (text b) = refl
occurs_itself (tag b) = refl
occurs_itself (blob b) = refl

drawn_occurs : (id : RunId) (step : Step) (s : Slot) (t : Tree) → Draws step s t → OccursIn t (Steps id step)
drawn_occurs id step s t d = inl (s, t, d.is, occurs_itself t)

-- two steps of a world that draw one value are one step, of one run
pub one_event : (c : Config) (h : List Happening) → IsTrace c h → (id n : RunId) (step other : Step) (s u : Slot) (t : Tree) → Among (Steps id step) h → Among (Steps n other) h → is_drawn_kind (kind_of s) ≡ true → is_drawn_kind (kind_of u) ≡ true → Draws step s t → Draws other u t → Steps id step ≡ Steps n other
one_event c [] w id n step other s u t i j e f d g = elim i [ ]
one_event c (x ∷ h) w id n step other s u t (inl is) (inl js) e f d g = is ∙ sym js
one_event c (x ∷ h) w id n step other s u t (inl is) (inr j) e f d g =
    let now : Happens c h (Steps id step) = subst (Happens c h) (sym is) w.1 in
    absurd (now.fresh.in_earlier s t (Steps n other) e d j (drawn_occurs n other u t g))
one_event c (x ∷ h) w id n step other s u t (inr i) (inl js) e f d g =
    let now : Happens c h (Steps n other) = subst (Happens c h) (sym js) w.1 in
    absurd (now.fresh.in_earlier u t (Steps id step) f g i (drawn_occurs id step s t d))
one_event c (x ∷ h) w id n step other s u t (inr i) (inr j) e f d g = one_event c h w.0 id n step other s u t i j e f d g

-- two steps of one party in a world that issue one stamp are one step
pub one_issue : (c : Config) (h : List Happening) → IsTrace c h → (id n : RunId) (step other : Step) (s u : Slot) (t : Tree) → Among (Steps id step) h → Among (Steps n other) h → kind_of s ≡ a_stamp → kind_of u ≡ a_stamp → me step.before.head ≡ me other.before.head → Draws step s t → Draws other u t → Steps id step ≡ Steps n other
one_issue c [] w id n step other s u t i j e f m d g = elim i [ ]
one_issue c (x ∷ h) w id n step other s u t (inl is) (inl js) e f m d g = is ∙ sym js
one_issue c (x ∷ h) w id n step other s u t (inl is) (inr j) e f m d g =
    let now : Happens c h (Steps id step) = subst (Happens c h) (sym is) w.1 in
    absurd (now.issues s u t n other e f d j (sym m) g)
one_issue c (x ∷ h) w id n step other s u t (inr i) (inl js) e f m d g =
    let now : Happens c h (Steps n other) = subst (Happens c h) (sym js) w.1 in
    absurd (now.issues u s t id step f e g i m d)
one_issue c (x ∷ h) w id n step other s u t (inr i) (inr j) e f m d g = one_issue c h w.0 id n step other s u t i j e f m d g

-- two steps of one party in a world that accept one stamp of one sender under one tag are one step
pub one_accept : (c : Config) (h : List Happening) → IsTrace c h → (id n : RunId) (step other : Step) (sender : ℕ) (g : Option Bytes) (t : Tree) → Among (Steps id step) h → Among (Steps n other) h → me step.before.head ≡ me other.before.head → Judges step sender g t → Judges other sender g t → Steps id step ≡ Steps n other
one_accept c [] w id n step other s g t i j m d e = elim i [ ]
one_accept c (x ∷ h) w id n step other s g t (inl is) (inl js) m d e = is ∙ sym js
one_accept c (x ∷ h) w id n step other s g t (inl is) (inr j) m d e =
    let now : Happens c h (Steps id step) = subst (Happens c h) (sym is) w.1 in
    absurd (now.accepts s g t n other d j (sym m) e)
one_accept c (x ∷ h) w id n step other s g t (inr i) (inl js) m d e =
    let now : Happens c h (Steps n other) = subst (Happens c h) (sym js) w.1 in
    absurd (now.accepts s g t id step e i m d)
one_accept c (x ∷ h) w id n step other s g t (inr i) (inr j) m d e = one_accept c h w.0 id n step other s g t i j m d e

pub one_drawer : (c : Config) (h : List Happening) → IsTrace c h → (id n : RunId) (step other : Step) (s u : Slot) (p : Bytes) → Among (Steps id step) h → Among (Steps n other) h → is_part s ≡ true → is_part u ≡ true → Draws step s (part p) → Draws other u (part p) → step ≡ other
one_drawer c h w id n step other s u p i j e f d g = let same = one_event c h w id n step other s u (part p) i j (drawn_slot s e) (drawn_slot u f) d g in cc

pub long_in_config : (c : Config) (p : Bytes) → IsGoodLong c p → OccursInConfig (part p) c
long_in_config c p g = inr (g.pair, g.there, ap part g.is)
