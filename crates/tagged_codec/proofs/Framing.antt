-- However a stream was cut, the messages taken and the bytes kept are those of the whole.
use Rattle.std.proofs.Common.{◌≡◌, ℕ, ◌≤◌, List, [], ◌∷◌, ◌++◌, length, refl, sym, ap, ◌∙◌, append_assoc, arith}
use Rattle.std.specs.Int.{w16, to_be_bytes}
use Rattle.std.proofs.lemmas.List.{append-nil}
use Rattle.tagged_codec.specs.Frames.{AreShort, frame_of, frames_of, BeginsNoFrame, Ran, began, fed, took}
use Rattle.tagged_codec.proofs.Fields.{bytes_of_length}

frames_of-append : (some others : List (List ℕ)) → frames_of (some ++ others) ≡ frames_of some ++ frames_of others
frames_of-append [] others = refl
frames_of-append (m ∷ some) others = ap (λ (q : List ℕ). frame_of m ++ q) (frames_of-append some others) ∙ sym (append_assoc (frame_of m) (frames_of some) (frames_of others))

pub told : (all : List ℕ) (taken : List (List ℕ)) (kept : List ℕ) → Ran all taken kept → all ≡ frames_of taken ++ kept
told all taken kept began = refl
told all taken kept (fed before messages left piece r) =
    ap (λ (q : List ℕ). q ++ piece) (told before messages left r) ∙ append_assoc (frames_of messages) left piece
told all taken kept (took fed_so_far messages before m left r t) =
    told all messages before r ∙ ap (λ (q : List ℕ). frames_of messages ++ q) t.parts ∙ sym (append_assoc (frames_of messages) (frame_of m) left)
    ∙ ap (λ (q : List ℕ). q ++ left) (ap (λ (q : List ℕ). frames_of messages ++ q) (sym (append-nil (frame_of m))) ∙ sym (frames_of-append messages (m ∷ [])))

-- a frame says where it ends
two_lengths : (m n : ℕ) → (a b : List ℕ) → m ≤ 8192 → n ≤ 8192 → to_be_bytes w16 m ++ a ≡ to_be_bytes w16 n ++ b → (m ≡ n) × (a ≡ b)
two_lengths m n a b low short e =
    let c = bytes_of_length m (omega arith) in
    let d = bytes_of_length n (omega arith) in
    let cells : c.0 ∷ c.1 ∷ a ≡ d.0 ∷ d.1 ∷ b = sym (ap (λ (q : List ℕ). q ++ a) c.2) ∙ e ∙ ap (λ (q : List ℕ). q ++ b) d.2 in
    let high : c.0 ≡ d.0 = cc in
    let low : c.1 ≡ d.1 = cc in
    (omega (arith, c.3, d.3, high, low), cc)

same_front : (a b x y : List ℕ) → length a ≡ length b → a ++ x ≡ b ++ y → (a ≡ b) × (x ≡ y)
same_front [] [] x y len e = (refl, e)
same_front [] (b ∷ bs) x y len e = absurd (omega (arith, len))
same_front (a ∷ as_) [] x y len e = absurd (omega (arith, len))
same_front (a ∷ as_) (b ∷ bs) x y len e =
    let head : a ≡ b = cc in
    let tails : as_ ++ x ≡ bs ++ y = cc in
    let r = same_front as_ bs x y (omega (arith, len)) tails in
    (ap (λ (n : ℕ). n ∷ as_) head ∙ ap (λ (q : List ℕ). b ∷ q) r.0, r.1)

same_first : (m n x y : List ℕ) → length m ≤ 8192 → length n ≤ 8192 → frame_of m ++ x ≡ frame_of n ++ y → (m ≡ n) × (x ≡ y)
same_first m n x y low short e =
    let t = two_lengths (length m) (length n) (m ++ x) (n ++ y) low short (sym (append_assoc (to_be_bytes w16 (length m)) m x) ∙ e ∙ append_assoc (to_be_bytes w16 (length n)) n y) in
    same_front m n x y t.0 t.1

pub one_reading_is : (taken others : List (List ℕ)) (kept left : List ℕ) → AreShort taken → AreShort others → BeginsNoFrame kept → BeginsNoFrame left → frames_of taken ++ kept ≡ frames_of others ++ left → (taken ≡ others) × (kept ≡ left)
one_reading_is [] [] kept left a b h k e = (refl, e)
one_reading_is [] (n ∷ others) kept left a b h k e = absurd (h n (frames_of others ++ left) b.0 (e ∙ append_assoc (frame_of n) (frames_of others) left))
one_reading_is (m ∷ taken) [] kept left a b h k e = absurd (k m (frames_of taken ++ kept) a.0 (sym e ∙ append_assoc (frame_of m) (frames_of taken) kept))
one_reading_is (m ∷ taken) (n ∷ others) kept left a b h k e =
    let f = same_first m n (frames_of taken ++ kept) (frames_of others ++ left) a.0 b.0 (sym (append_assoc (frame_of m) (frames_of taken) kept) ∙ e ∙ append_assoc (frame_of n) (frames_of others) left) in
    let r = one_reading_is taken others kept left a.1 b.1 h k f.1 in
    (ap (λ (q : List ℕ). q ∷ taken) f.0 ∙ ap (λ (q : List (List ℕ)). n ∷ q) r.0, r.1)

AreShort-push : (taken : List (List ℕ)) (m : List ℕ) → AreShort taken → length m ≤ 8192 → AreShort (taken ++ m ∷ [])
AreShort-push [] m h le = (le, tt)
AreShort-push (n ∷ taken) m h le = (h.0, AreShort-push taken m h.1 le)

short_messages : (all : List ℕ) (taken : List (List ℕ)) (kept : List ℕ) → Ran all taken kept → AreShort taken
short_messages all taken kept began = tt
short_messages all taken kept (fed before messages left piece r) = short_messages before messages left r
short_messages all taken kept (took fed_so_far messages before m left r t) = AreShort-push messages m (short_messages all messages before r) t.short

pub cut_anyhow : (all : List ℕ) (taken others : List (List ℕ)) (kept left : List ℕ) → Ran all taken kept → Ran all others left → BeginsNoFrame kept → BeginsNoFrame left → (taken ≡ others) × (kept ≡ left)
cut_anyhow all taken others kept left r s h k =
    one_reading_is taken others kept left (short_messages all taken kept r) (short_messages all others left s) h k (sym (told all taken kept r) ∙ told all others left s)
