-- Where nothing is said against an opening, the run may be opened.
use Rattle.std.proofs.Common.{◌≡◌, ◌≢◌, ◌<◌, ◌==◌, ℕ, Bool, true, false, not, ◌||◌, if◌then◌else◌, is_some, nat_le, Option, Some, None, refl, sym}
use Rattle.std.proofs.lemmas.Bool.{eqb-false, leb-false}
use Rattle.term_values.specs.Trees.{Among, Bytes}
use Rattle.term_values.proofs.Lists.{all_among, and_left, and_right, implied}
use Rattle.mech_rows.specs.declared.kinds.Role.{Role}
use Rattle.mech_rows.specs.declared.kinds.Role.TheVariants.{A, B, P}
use Rattle.mech_rows.specs.declared.refusal.Refusal.{Refusal}
use Rattle.mech_rows.specs.declared.refusal.Refusal.TheVariants.{Memory, NoKey, SelfPeer, TableFull, UnknownParty, WrongKind}
use Rattle.mech_rows.specs.Rows.{has_third, pairs_of}
use Rattle.mech_rows.specs.Rings.{Ring, keys_in}
use Rattle.mech_rows.specs.Heads.{Head, name_of}
use Rattle.mech_rows.specs.Openings.{has_parts, uses}
use Rattle.agreement_laws.specs.Nodes.{Node, MayOpen, knows, serves, open_among, opens_in}
use Rattle.node_desk.specs.Openings.{are_known, have_wrong_kinds, head_refusal, is_full, first_of, opening_by, opening_refusal}

or-left : (a b : Bool) → (a || b) ≡ false → a ≡ false
or-left false b e = refl
or-left true b e = absurd (cc)

or-right : (a b : Bool) → (a || b) ≡ false → b ≡ false
or-right false b e = e
or-right true b e = absurd (cc)

not-false : (a : Bool) → not a ≡ false → a ≡ true
not-false true e = refl
not-false false e = absurd (cc)

-- an answer of None is that of the other branch
no-some : (b : Bool) (e : Refusal) (rest : Option Refusal) → (if b then Some e else rest) ≡ None → (b ≡ false) × (rest ≡ None)
no-some false e rest h = (refl, h)
no-some true e rest h = absurd (cc)

pub no-first : (o other : Option Refusal) → first_of o other ≡ None → (o ≡ None) × (other ≡ None)
no-first None other h = (refl, h)
no-first (Some e) other h = absurd (cc)

is-there : (o : Option Bytes) → is_some o ≡ true → (p : Bytes) × (o ≡ Some p)
is-there (Some p) e = (p, refl)
is-there None e = absurd (cc)

third-known : (b x : Bool) → (if b then x else true) ≡ true → b ≡ true → x ≡ true
third-known true x e is = e
third-known false x e is = refl' (sym is)
  where
    refl' : true ≡ false → x ≡ true
    refl' bad = absurd (cc)

third-serves : (b x : Bool) → (if b then not x else false) ≡ false → b ≡ true → x ≡ true
third-serves true x e is = not-false x e
third-serves false x e is = absurd (let bad : true ≡ false = sym is in cc)

-- each name that the mechanism has is known
all-known : (ring : Ring) (h : Head) → are_known ring h ≡ true → (r : Role) → (r ≡ P → has_third h.mech ≡ true) → knows ring (name_of h r) ≡ true
all-known ring h e A has = and_left (knows ring h.a) _ e
all-known ring h e B has = and_left (knows ring h.b) _ (and_right (knows ring h.a) _ e)
all-known ring h e P has = third-known (has_third h.mech) (knows ring (name_of h P)) (and_right (knows ring h.b) _ (and_right (knows ring h.a) _ e)) (has refl)

parts-there : (ring : Ring) (h : Head) → has_parts ring h ≡ true → (x y : Role) → Among (x, y) (pairs_of h.mech) → uses h.role (x, y) ≡ true → (p : Bytes) × (keys_in ring (name_of h x) (name_of h y) ≡ Some p)
parts-there ring h e x y among used =
    is-there (keys_in ring (name_of h x) (name_of h y))
    (implied (uses h.role (x, y)) _ (all_among (λ (q : Role × Role). not (uses h.role q) || is_some (keys_in ring (name_of h q.0) (name_of h q.1))) (pairs_of h.mech) e (x, y) among) used)

pub has-parts : (ring : Ring) (h : Head) → head_refusal ring h ≡ None → has_parts ring h ≡ true
has-parts ring h e =
    let known = no-some (not (are_known ring h)) _ _ e in
    let mixed = no-some (have_wrong_kinds ring h) _ _ known.1 in
    let other = no-some (h.a == h.b) _ _ mixed.1 in
    not-false (has_parts ring h) (no-some (not (has_parts ring h)) _ _ other.1).0

pub may-open : (node : Node) (h : Head) → opening_refusal node h ≡ None → MayOpen node h
may-open node h e =
    let ring = node.ring in
    let parts = no-first (head_refusal ring h) _ e in
    let known = no-some (not (are_known ring h)) _ _ parts.0 in
    let mixed = no-some (have_wrong_kinds ring h) _ _ known.1 in
    let other = no-some (h.a == h.b) _ _ mixed.1 in
    let full = (no-some (is_full (open_among node.runs (opens_in node.log)) (opens_in node.log)) _ _ parts.1).0 in
    record {
      known = all-known ring h (not-false (are_known ring h) known.0);
      parties = (or-left (serves ring h.a) _ mixed.0, or-left (serves ring h.b) _ (or-right (serves ring h.a) _ mixed.0));
      server = third-serves (has_third h.mech) (serves ring (name_of h P)) (or-right (serves ring h.b) _ (or-right (serves ring h.a) _ mixed.0));
      peers = eqb-false h.a h.b other.0;
      keyed = parts-there ring h (has-parts ring h parts.0);
      few_open = leb-false 1024 _ (or-left (nat_le 1024 (open_among node.runs (opens_in node.log))) _ full);
      few_opened = leb-false 4_294_967_295 _ (or-right (nat_le 1024 (open_among node.runs (opens_in node.log))) _ full);
    }

-- where nothing is said against an opening, there is a further number
pub few-opened : (ring : Ring) (open_count opened : ℕ) (h : Head) → opening_by ring open_count opened h ≡ None → opened < 4_294_967_295
few-opened ring open_count opened h e =
    let full = (no-some (is_full open_count opened) TableFull None (no-first (head_refusal ring h) _ e).1).0 in
    leb-false 4_294_967_295 opened (or-right (nat_le 1024 open_count) _ full)

other-of : (b : Bool) (e : Refusal) (rest : Option Refusal) → e ≢ Memory → (rest ≡ Some Memory → ⊥) → (if b then Some e else rest) ≡ Some Memory → ⊥
other-of true e rest other more is = other (let same : Some e ≡ Some Memory = is in cc)
other-of false e rest other more is = more is

first-other : (o rest : Option Refusal) → (o ≡ Some Memory → ⊥) → (rest ≡ Some Memory → ⊥) → first_of o rest ≡ Some Memory → ⊥
first-other None rest first more is = more is
first-other (Some e) rest first more is = first is

-- no refusal of an opening is want of memory
pub opening-other : (ring : Ring) (open_count opened : ℕ) (h : Head) → opening_by ring open_count opened h ≡ Some Memory → ⊥
opening-other ring open_count opened h = first-other (head_refusal ring h) _
    (other-of (not (are_known ring h)) UnknownParty _ (λ m. cc)
    (other-of (have_wrong_kinds ring h) WrongKind _ (λ m. cc)
    (other-of (h.a == h.b) SelfPeer _ (λ m. cc)
    (other-of (not (has_parts ring h)) NoKey None (λ m. cc) (λ m. cc)))))
    (other-of (is_full open_count opened) TableFull None (λ m. cc) (λ m. cc))
