-- Items that are handed on: they came in a message, and go on in one.
use Rattle.std.proofs.Common.{◌≡◌, ℕ, true, false, List, [], ◌∷◌, Ok, subst, arith}
use Rattle.term_values.specs.Trees.{Bytes, Tree, tuple, trees}
use Rattle.tagged_codec.specs.Grammar.{IsInLimits}
use Rattle.tagged_codec.proofs.Grammar.{length_of_spelling}
use Rattle.term_values.specs.Limits.{Fits}
use Rattle.mech_rows.specs.declared.kinds.Slot.{Slot}
use Rattle.mech_rows.specs.declared.kinds.Clear.TheVariants.{Slot as Shows}
use Rattle.mech_rows.specs.Verdict.{at, message_items}
use Rattle.mech_rows.proofs.VerdictFits.{message_read}
use Rattle.text_hooks.specs.Parts.{IsSmall, IsMadeItem}
use Rattle.trio_roles.specs.Tickets.{MayGoOn}

pub came : (t : Bytes) (b : ℕ) (s : Slot) (m : Tree) (ts : List Tree) → IsInLimits m → message_items t b (Shows s ∷ []) (true ∷ false ∷ []) m ≡ Ok ts → MayGoOn (at ts 3)
came t b s m ts limits items =
    let r = message_read t b (Shows s ∷ []) (true ∷ false ∷ []) m ts items in
    let l = subst IsInLimits r.is limits in
    record { fits = l.fits.1.1.1.1.0; low = let h = l.levels in omega (arith, h); short = let h = r.short in grind (arith, h) }

pub goes_on : (h x u i : Tree) → IsSmall 33 h → IsSmall 1027 x → MayGoOn u → IsMadeItem i → IsInLimits (tuple (trees (h ∷ x ∷ u ∷ i ∷ [])))
goes_on h x u i sh sx su si =
    let f : Fits (tuple (trees (h ∷ x ∷ u ∷ i ∷ []))) = (omega arith, (sh.fits, (sx.fits, (su.fits, (si.fits, tt))))) in
    record {
      fits = f;
      levels = omega (arith, sh.low, sx.low, su.low, si.low);
      length = let l = length_of_spelling (tuple (trees (h ∷ x ∷ u ∷ i ∷ []))) f in omega (arith, l, sh.short, sx.short, su.short, si.short);
    }
