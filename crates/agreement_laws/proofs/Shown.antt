-- What the exchanges of the examples have in common: their values, their heads, and that two parties share an unrevealed part.
use Rattle.std.proofs.Common.{◌≡◌, ◌≤◌, ℕ, List, [], ◌∷◌, Bool, true, false, refl, sym, subst, inl, inr, Some, None, arith}
use Rattle.term_values.specs.Trees.{Among, Bytes, Tree, stamp, nonce, part, text}
use Rattle.term_values.specs.declared.small.Stamp.TheVariants.{Time}
use Rattle.mech_rows.specs.declared.kinds.Mech.{Mech}
use Rattle.mech_rows.specs.declared.kinds.Role.{Role}
use Rattle.mech_rows.specs.declared.kinds.Role.TheVariants.{A, B}
use Rattle.mech_rows.specs.declared.kinds.Slot.{Slot}
use Rattle.mech_rows.specs.declared.kinds.Slot.TheVariants.{Ra, Rb, Ra2, Ta, Tb, Tp, Fa, Fb, X1, X2, X3, X4, X5, X6, X7, X8, X9, Fwd}
use Rattle.mech_rows.specs.Rows.{kind_of, pairs_of}
use Rattle.mech_rows.specs.Heads.{Head, name_of}
use Rattle.mech_rows.specs.Runs.{HasKind, IsForwardable}
use Rattle.agreement_laws.specs.Configs.{keys_of, IsGoodLong, IsGoodHead}
use Rattle.mech_rows.specs.Openings.{is_text}
use Rattle.agreement_laws.proofs.Example.{config, pair}

-- one value for each slot; what is forwarded is given
abbrev pub value_for : Tree → Slot → Tree
value_for fwd Ra = nonce (1 ∷ [])
value_for fwd Rb = nonce (2 ∷ [])
value_for fwd Ra2 = nonce (3 ∷ [])
value_for fwd Ta = stamp (Time 5)
value_for fwd Tb = stamp (Time 5)
value_for fwd Tp = stamp (Time 5)
value_for fwd Fa = part (9 ∷ [])
value_for fwd Fb = part (8 ∷ [])
value_for fwd Fwd = fwd
value_for fwd _ = text []

pub kinds_are : (fwd : Tree) → IsForwardable fwd → (s : Slot) → HasKind (kind_of s) (value_for fwd s)
kinds_are fwd short Ra = (_, refl)
kinds_are fwd short Rb = (_, refl)
kinds_are fwd short Ra2 = (_, refl)
kinds_are fwd short Ta = (_, refl)
kinds_are fwd short Tb = (_, refl)
kinds_are fwd short Tp = (_, refl)
kinds_are fwd short Fa = (_, refl)
kinds_are fwd short Fb = (_, refl)
kinds_are fwd short Fwd = short
kinds_are fwd short _ = (_, refl)

pub texts_are : (fwd : Tree) (s : Slot) → is_text (kind_of s) ≡ true → value_for fwd s ≡ text []
texts_are fwd Ra e = absurd (cc)
texts_are fwd Rb e = absurd (cc)
texts_are fwd Ra2 e = absurd (cc)
texts_are fwd Ta e = absurd (cc)
texts_are fwd Tb e = absurd (cc)
texts_are fwd Tp e = absurd (cc)
texts_are fwd Fa e = absurd (cc)
texts_are fwd Fb e = absurd (cc)
texts_are fwd Fwd e = absurd (cc)
texts_are fwd _ e = refl

abbrev pub plain : Tree
plain = text []

pub plain_is_short : IsForwardable plain
plain_is_short = omega arith

abbrev pub head_of_two : Mech → Role → Head
head_of_two m r = record { mech = m; role = r; a = 1; b = 2; p = None }

-- in a mechanism without a third party the two share an unrevealed part
pub good_two : (m : Mech) (r : Role) → pairs_of m ≡ (A, B) ∷ [] → IsGoodHead config (head_of_two m r)
good_two m r e x y i = go (subst (λ (ps : List (Role × Role)). Among {X = Role × Role} (x, y) ps) e i)
  where
    go : Among {X = Role × Role} (x, y) ((A, B) ∷ []) → (p : Bytes) × (keys_of config (name_of (head_of_two m r) x) (name_of (head_of_two m r) y) ≡ Some p) × IsGoodLong config p
    go (inl f) = subst (λ (q : Role × Role). (p : Bytes) × (keys_of config (name_of (head_of_two m r) q.0) (name_of (head_of_two m r) q.1) ≡ Some p) × IsGoodLong config p) (sym f) (7 ∷ [], refl, record { pair = pair; there = inl refl; hidden = refl; is = refl })
    go (inr j) = elim j [ ]
