-- The relation and the function say the same.
use Rattle.std.proofs.Common.{◌≡◌, ◌↔◌, ℕ, suc, ◌+◌, ◌≤◌, List, ◌∷◌, ◌++◌, length, refl, ap, ◌∙◌, arith}
use Rattle.term_values.specs.Trees.{Tree, name, stamp, nonce, part, text, tag, blob, tuple, seal, check, Trees, none, item, count_of, depth_of, greatest_depth}
use Rattle.term_values.specs.Limits.{AllFit, Fits}
use Rattle.tagged_codec.specs.Grammar.{IsSpelling, key_spelling, spelling, spellings}
use Rattle.tagged_codec.specs.Relation.{Spells, SpellsAll}

-- a term that may stand at the level, and its spelling
pub record StandsAt (level : ℕ) (t : Tree) (bytes : List ℕ) : Type 0 where
  pub fits : Fits t
  pub depth : depth_of t + level ≤ 9
  pub is : bytes ≡ spelling t

pub record AllStandAt (level : ℕ) (ts : Trees) (bytes : List ℕ) : Type 0 where
  pub fits : AllFit ts
  pub depth : level ≤ 9 → greatest_depth ts + level ≤ 9
  pub is : bytes ≡ spellings ts

mutual
  pub spelled : (level : ℕ) (t : Tree) (bytes : List ℕ) → Spells level t bytes → StandsAt level t bytes
  spelled level (name n) bytes h = record { fits = (h.1, h.2); depth = omega (arith, h.0); is = h.3 }
  spelled level (stamp s) bytes h = record { fits = h.1; depth = omega (arith, h.0); is = h.2 }
  spelled level (nonce b) bytes h = record { fits = h.1; depth = omega (arith, h.0); is = h.2 }
  spelled level (part b) bytes h = record { fits = h.1; depth = omega (arith, h.0); is = h.2 }
  spelled level (text b) bytes h = record { fits = h.1; depth = omega (arith, h.0); is = h.2 }
  spelled level (tag b) bytes h = record { fits = h.1; depth = omega (arith, h.0); is = h.2 }
  spelled level (blob b) bytes h = record { fits = h.1; depth = omega (arith, h.0); is = h.2 }
  spelled level (tuple ts) bytes (low, few, rest, all, e) =
      let s = spelled_all (suc level) ts rest all in
      record { fits = (few, s.fits); depth = omega (arith, low, s.depth (omega (arith, low))); is = e ∙ ap (λ (l : List ℕ). 0x08 ∷ count_of ts ∷ l) s.is }
  spelled level (seal k t) bytes (low, key, rest, h, e) =
      let s = spelled (suc level) t rest h in
      record { fits = (key, s.fits); depth = omega (arith, s.depth); is = e ∙ ap (λ (l : List ℕ). 0x09 ∷ key_spelling k ++ l) s.is }
  spelled level (check k t) bytes (low, key, rest, h, e) =
      let s = spelled (suc level) t rest h in
      record { fits = (key, s.fits); depth = omega (arith, s.depth); is = e ∙ ap (λ (l : List ℕ). 0x0a ∷ key_spelling k ++ l) s.is }

  spelled_all : (level : ℕ) (ts : Trees) (bytes : List ℕ) → SpellsAll level ts bytes → AllStandAt level ts bytes
  spelled_all level none bytes h = record { fits = tt; depth = λ le. omega arith; is = h }
  spelled_all level (item t ts) bytes (front, rest, first, others, e) =
      let a = spelled level t front first in
      let b = spelled_all level ts rest others in
      record { fits = (a.fits, b.fits); depth = λ le. omega (arith, a.depth, b.depth le); is = e ∙ ap (λ (l : List ℕ). l ++ rest) a.is ∙ ap (λ (l : List ℕ). spelling t ++ l) b.is }

mutual
  pub spells : (level : ℕ) (t : Tree) (bytes : List ℕ) → Fits t → depth_of t + level ≤ 9 → bytes ≡ spelling t → Spells level t bytes
  spells level (name n) bytes h d e = (omega arith, h.0, h.1, e)
  spells level (stamp s) bytes h d e = (omega arith, h, e)
  spells level (nonce b) bytes h d e = (omega arith, h, e)
  spells level (part b) bytes h d e = (omega arith, h, e)
  spells level (text b) bytes h d e = (omega arith, h, e)
  spells level (tag b) bytes h d e = (omega arith, h, e)
  spells level (blob b) bytes h d e = (omega arith, h, e)
  spells level (tuple ts) bytes h d e = (omega arith, h.0, spellings ts, spells_all (suc level) ts (spellings ts) h.1 (omega arith) refl, e)
  spells level (seal k t) bytes h d e = (omega arith, h.0, spelling t, spells (suc level) t (spelling t) h.1 (omega arith) refl, e)
  spells level (check k t) bytes h d e = (omega arith, h.0, spelling t, spells (suc level) t (spelling t) h.1 (omega arith) refl, e)

  spells_all : (level : ℕ) (ts : Trees) (bytes : List ℕ) → AllFit ts → greatest_depth ts + level ≤ 9 → bytes ≡ spellings ts → SpellsAll level ts bytes
  spells_all level none bytes h d e = e
  spells_all level (item t ts) bytes h d e = (spelling t, spellings ts, spells level t (spelling t) h.0 (omega arith) refl, spells_all level ts (spellings ts) h.1 (omega arith) refl, e)

pub IsSpelling_is : (t : Tree) (bytes : List ℕ) → IsSpelling t bytes ↔ (Spells 1 t bytes × (length bytes ≤ 8192))
IsSpelling_is t bytes = (
  λ h. (spells 1 t bytes h.limits.fits (omega (arith, h.limits.levels)) h.spelled, omega (arith, h.limits.length, ap length h.spelled)),
  λ h. let s = spelled 1 t bytes h.0 in record { limits = record { fits = s.fits; levels = omega (arith, s.depth); length = omega (arith, h.1, ap length s.is) }; spelled = s.is },
)
