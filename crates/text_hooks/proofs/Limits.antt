-- The limits of bodies and messages.
use Rattle.std.proofs.Common.{◌≡◌, ◌+◌, ◌*◌, ◌≤◌, ◌<◌, ℕ, suc, List, [], ◌∷◌, ◌++◌, map, take, get_or, length, refl, sym, ap, ap₂, subst, ◌∙◌, arith}
use Rattle.std.proofs.lemmas.List.{append_assoc, take_more, map-append, length-map}
use Rattle.term_values.specs.Trees.{Tree, trees, tuple, count_of, depth_of, greatest_depth}
use Rattle.term_values.specs.Lengths.{length_of, lengths_of}
use Rattle.term_values.specs.Limits.{Fits, AllFit}
use Rattle.tagged_codec.specs.Grammar.{IsInLimits}
use Rattle.tagged_codec.proofs.Grammar.{length_of_spelling}
use Rattle.seal_trait.specs.Items.{IsItemOf}
use Rattle.mech_rows.specs.Runs.{Opening}
use Rattle.text_hooks.specs.Parts.{IsSmall, AreSmall, IsMadeItem, AreMadeItems, IsFlat, items_in}

pub small_more : (most : ℕ) (ts : List Tree) (t : Tree) → AreSmall most ts → IsSmall most t → AreSmall most (ts ++ t ∷ [])
small_more most [] t a s = (s, tt)
small_more most (u ∷ ts) t a s = (a.0, small_more most ts t a.1 s)

-- terms that keep the limits with at most this depth, and these bytes in all
record Within (ts : List Tree) (levels bytes : ℕ) : Type 0 where
  fits : AllFit (trees ts)
  low : greatest_depth (trees ts) ≤ levels
  short : lengths_of (trees ts) ≤ bytes

within_cons : (t : Tree) (ts : List Tree) (levels m n : ℕ) → Fits t → depth_of t ≤ levels → length_of t ≤ m → Within ts levels n → Within (t ∷ ts) levels (m + n)
within_cons t ts levels m n f d l w = record {
  fits = (f, w.fits);
  low = omega (arith, d, w.low);
  short = omega (arith, l, w.short);
}

within_small : (most levels n : ℕ) (ts us : List Tree) → 1 ≤ levels → AreSmall most ts → Within us levels n → Within (ts ++ us) levels (most * length ts + n)
within_small most levels n [] us le a w = record { fits = w.fits; low = w.low; short = let z = w.short in omega (arith, z) }
within_small most levels n (t ∷ ts) us le a w =
    let r = within_small most levels n ts us le a.1 w in
    let x = within_cons t (ts ++ us) levels most (most * length ts + n) a.0.fits (omega (arith, le, a.0.low)) a.0.short r in
    let more : most + (most * length ts + n) ≡ most * suc (length ts) + n = omega arith in
    record { fits = x.fits; low = x.low; short = omega (arith, x.short, more) }

within_made : (levels : ℕ) (os : List Opening) → 3 ≤ levels → AreMadeItems os → Within (items_in os) levels (2114 * length os)
within_made levels [] le a = record { fits = tt; low = omega arith; short = omega arith }
within_made levels (o ∷ os) le a =
    let r = within_made levels os le a.1 in
    let x = within_cons o.item (items_in os) levels 2114 (2114 * length os) a.0.fits (omega (arith, le, a.0.low)) a.0.short r in
    record { fits = x.fits; low = x.low; short = omega (arith, x.short) }

count_is : (ts : List Tree) → count_of (trees ts) ≡ length ts
count_is [] = refl
count_is (t ∷ ts) = omega (arith, count_is ts)

length_more : (ts us : List Tree) → length (ts ++ us) ≡ length ts + length us
length_more [] us = omega arith
length_more (t ∷ ts) us = omega (arith, length_more ts us)

body_flat : (ts : List Tree) (x : Tree) → AreSmall 33 ts → length ts ≤ 7 → IsSmall 1027 x → IsFlat (tuple (trees (ts ++ x ∷ [])))
body_flat ts x a few s =
    let last : Within (x ∷ []) 1 1027 = record { fits = (s.fits, tt); low = omega (arith, s.low); short = omega (arith, s.short) } in
    let w = within_small 33 1 1027 ts (x ∷ []) (omega arith) a last in
    record {
      short = record {
        fits = (omega (arith, count_is (ts ++ x ∷ []), length_more ts (x ∷ []), few), w.fits);
        levels = omega (arith, w.low);
        length = omega (arith, w.short, few);
      };
      low = omega (arith, w.low);
    }

items_count : (os : List Opening) → length (items_in os) ≡ length os
items_count [] = refl
items_count (o ∷ os) = omega (arith, items_count os)

pub message_fits : (ts : List Tree) (os : List Opening) → AreSmall 1027 ts → AreMadeItems os → 1027 * length ts + 2114 * length os ≤ 8190 → IsInLimits (tuple (trees (ts ++ items_in os)))
message_fits ts os a m room =
    let w = within_small 1027 3 (2114 * length os) ts (items_in os) (omega arith) a (within_made 3 os (omega arith) m) in
    let f : Fits (tuple (trees (ts ++ items_in os))) = (omega (arith, count_is (ts ++ items_in os), length_more ts (items_in os), items_count os, room), w.fits) in
    record {
      fits = f;
      levels = omega (arith, w.low);
      length = let l = length_of_spelling (tuple (trees (ts ++ items_in os))) f in omega (arith, l, w.short, room);
    }

pub one_fits : (ts now : List Tree) (o : Opening) (t : Tree) → now ≡ ts ++ t ∷ [] → t ≡ o.item → AreSmall 1027 ts → IsMadeItem o.item → length ts ≤ 5 → IsInLimits (tuple (trees now))
one_fits ts now o t is copy small made few = rw (is, copy) (message_fits ts (o ∷ []) small (made, tt) (omega (arith, few)))

pub pushed_more : {X Y : Type 0} (f : X → Y) (start now next : List Y) (xs : List X) (k : ℕ) (d : X) (y : Y) → now ≡ start ++ map f (take k xs) → next ≡ now ++ y ∷ [] → k < length xs → y ≡ f (get_or xs k d) → next ≡ start ++ map f (take (k + 1) xs)
pushed_more f start now next xs k d y e g lt is =
    g ∙ (ap₂ (λ (us : List _) (v : _). us ++ v ∷ []) e is ∙ (append_assoc start (map f (take k xs)) (f (get_or xs k d) ∷ []) ∙ ap (λ (us : List _). start ++ us) (sym (ap (map f) (take_more xs k d lt) ∙ map-append f (take k xs) (get_or xs k d ∷ [])))))

pub made_flat : {X Y : Type 0} (f : X → Tree) (g : Y → Tree) (start one two three : List Tree) (xs : List X) (ys : List Y) (x : Tree) → length start ≡ 1 → one ≡ start ++ map f xs → two ≡ one ++ map g ys → three ≡ two ++ x ∷ [] → AreSmall 33 two → IsSmall 1027 x → length xs ≤ 3 → length ys ≤ 3 → IsFlat (tuple (trees three))
made_flat f g start one two three xs ys x s a b c small last few more =
    let l : length one ≡ length start + length xs = ap length a ∙ (length_more start (map f xs) ∙ ap (λ (n : ℕ). length start + n) (length-map xs f)) in
    let m : length two ≡ length one + length ys = ap length b ∙ (length_more one (map g ys) ∙ ap (λ (n : ℕ). length one + n) (length-map ys g)) in
    subst (λ (ts : List Tree). IsFlat (tuple (trees ts))) (sym c) (body_flat two x small (omega (arith, l, m, s, few, more)) last)

pub made_item : (body t : Tree) → IsFlat body → IsItemOf body t → IsMadeItem t
made_item body t f i = record { fits = i.fits; low = omega (arith, f.low, i.levels); short = omega (arith, f.short.length, i.length) }
