-- The tests of the partner, and the relation that they decide.
use Rattle.std.proofs.Common.{◌≡◌, ◌≤◌, ◌+◌, ◌↔◌, IsTrue, ℕ, zero, suc, Bool, true, false, ◌==◌, ◌&&◌, List, [], ◌∷◌, length, Option, Some, None, option_map, nat_le, if◌then◌else◌, refl, sym, ap, ap₂, subst, ◌∙◌, arith, leb-true, eq-eqb}
use Rattle.mech_rows.specs.declared.kinds.Mech.{Mech}
use Rattle.mech_rows.specs.declared.kinds.Mech.TheVariants.{E1}
use Rattle.mech_rows.specs.declared.kinds.Role.{Role}
use Rattle.mech_rows.specs.declared.kinds.Role.TheVariants.{A, B, P}
use Rattle.mech_rows.specs.declared.kinds.Slot.{Slot}
use Rattle.mech_rows.specs.Rows.{agreed_of}
use Rattle.mech_rows.specs.Table.{fill, filled_agreed}
use Rattle.mech_rows.specs.Facts.{peer_of}
use Rattle.mech_rows.specs.Notes.{noted, tree_of_value}
use Rattle.mech_rows.specs.Found.{found}
use Rattle.mech_rows.specs.declared.notes.Value.{Value}
use Rattle.term_values.specs.Same.{same}
use Rattle.term_values.proofs.SameTrees.{is_same}
use Rattle.mech_rows.specs.Runs.{Notes}
use Rattle.agreement_laws.specs.declared.history.Happened.{Happened}
use Rattle.agreement_laws.specs.Partners.{same_noted, alike, alike_filled, is_peer, agrees, agrees_filled, first_where, partner_on, partner_of}

alike_fill : (k : ℕ) (ss : List Slot) (n m : Notes) → length ss ≤ k → alike_filled n m (fill k ss) ≡ alike n m ss
alike_fill zero [] n m h = refl
alike_fill zero (s ∷ ss) n m h = absurd (omega (arith, h))
alike_fill (suc k) [] n m h = alike_fill k [] n m (omega arith)
alike_fill (suc k) (s ∷ ss) n m h = ap (λ (b : Bool). same_noted (n s) (m s) && b) (alike_fill k ss n m (omega (arith, h)))

first_same : (test other : Happened → Bool) (runs : List Happened) → ((r : Happened) → test r ≡ other r) → first_where test runs ≡ first_where other runs
first_same test other [] f = refl
first_same test other (r ∷ rs) f = ap₂ (λ (b : Bool) (o : Option ℕ). if b then Some r.run else o) (f r) (first_same test other rs f)

abbrev size : Option (List Slot) → ℕ
size None = 0
size (Some ss) = length ss

short_a : (m : Mech) → nat_le (size (agreed_of m A)) 6 ≡ true
short_a E1 = refl
short_a _ = refl

short_b : (m : Mech) → nat_le (size (agreed_of m B)) 6 ≡ true
short_b E1 = refl
short_b _ = refl

short_p : (m : Mech) → nat_le (size (agreed_of m P)) 6 ≡ true
short_p E1 = refl
short_p _ = refl

short : (m : Mech) (r : Role) → size (agreed_of m r) ≤ 6
short m A = leb-true (size (agreed_of m A)) 6 (short_a m)
short m B = leb-true (size (agreed_of m B)) 6 (short_b m)
short m P = leb-true (size (agreed_of m P)) 6 (short_p m)

pub partner_none : (runs : List Happened) (c : Happened) → filled_agreed c.head.mech c.head.role ≡ None → None ≡ partner_of runs c
partner_none runs c e = go (agreed_of c.head.mech c.head.role) e
  where
    go : (o : Option (List Slot)) → option_map (fill 6) o ≡ None → None ≡ partner_on runs c o
    go None e = refl
    go (Some ss) e = absurd (cc)

pub partner_some : (runs : List Happened) (c : Happened) (slots : List (Option Slot)) → filled_agreed c.head.mech c.head.role ≡ Some slots → first_where (λ r. agrees_filled (peer_of c.head.role) slots r c) runs ≡ partner_of runs c
partner_some runs c slots e = go (agreed_of c.head.mech c.head.role) (short c.head.mech c.head.role) e
  where
    go : (o : Option (List Slot)) → size o ≤ 6 → option_map (fill 6) o ≡ Some slots → first_where (λ r. agrees_filled (peer_of c.head.role) slots r c) runs ≡ partner_on runs c o
    go None h e = absurd (cc)
    go (Some ss) h e =
        let is : fill 6 ss ≡ slots = cc in
        first_same (λ r. agrees_filled (peer_of c.head.role) slots r c) (λ r. agrees (peer_of c.head.role) ss r c) runs
        (λ r. ap (λ (b : Bool). is_peer (peer_of c.head.role) r c && b) (ap (alike_filled (noted r.notes) (noted c.notes)) (sym is) ∙ alike_fill 6 ss (noted r.notes) (noted c.notes) h))

pub names_are : (a b c d : ℕ) (o : Bool) → a ≡ b → c ≡ d → o ≡ ((a == b) && ((c == d) && o))
names_are a b c d o e f = ap₂ (λ (x y : Bool). x && (y && o)) (sym (eq-eqb a b e)) (sym (eq-eqb c d f))

pub noted_same : (n m : List (Slot × Value)) (s : Slot) (v w : Value) (b : Bool) → Some v ≡ found n s → Some w ≡ found m s → (IsTrue b ↔ (tree_of_value v ≡ tree_of_value w)) → b ≡ same_noted (noted n s) (noted m s)
noted_same n m s v w b e f d = is_same b (tree_of_value v) (tree_of_value w) d ∙ ap₂ (λ (x y : Option Value). same_noted (option_map tree_of_value x) (option_map tree_of_value y)) e f
