-- What begins a spelling can be completed.
use Rattle.std.proofs.Common.{◌≡◌, ℕ, zero, suc, ◌+◌, ◌-◌, ◌*◌, ◌<◌, ◌≤◌, List, [], ◌∷◌, ◌++◌, length, refl, sym, ap, subst, ◌∙◌, append_assoc, arith, length-append}
use Rattle.std.specs.Int.{w32, w64, from_be_bytes}
use Rattle.term_values.specs.declared.Key.{Key}
use Rattle.term_values.specs.declared.Key.TheVariants.{One, Two}
use Rattle.term_values.specs.declared.Stamp.TheVariants.{Time, Seq}
use Rattle.term_values.specs.Trees.{Tree, name, stamp, tuple, seal, check, Trees, none, item, count_of, depth_of, greatest_depth}
use Rattle.term_values.specs.Limits.{AllFit, Fits, IsKey}
use Rattle.tagged_codec.specs.Grammar.{key_spelling, sized_spelling, spelling, spellings}
use Rattle.tagged_codec.proofs.Fields.{IsBytes, IsBytes-append, length_bytes, wide32, wide64}
use Rattle.tagged_codec.proofs.Relation.{StandsAt}
use Rattle.tagged_codec.proofs.Terms.{some_depth}

-- the front of the spelling of a term that stands at the level
pub record Opening (level : ℕ) (front : List ℕ) : Type 0 where
  pub t : Tree
  pub rest : List ℕ
  pub stands : StandsAt level t (front ++ rest)

-- the same of so many items
pub record AllOpening (level count : ℕ) (front : List ℕ) : Type 0 where
  pub ts : Trees
  pub rest : List ℕ
  pub fits : AllFit ts
  pub many : count_of ts ≡ count
  pub depth : greatest_depth ts + level ≤ 9
  pub is : front ++ rest ≡ spellings ts

pub Opening-front : {level : ℕ} (a b : List ℕ) → Opening level (a ++ b) → Opening level a
Opening-front {level} a b o = record { t = o.t; rest = b ++ o.rest; stands = subst (StandsAt level o.t) (append_assoc a b o.rest) o.stands }

-- ---- padding

pub zeros : ℕ → List ℕ
zeros zero = []
zeros (suc n) = 0 ∷ zeros n

length-zeros : (n : ℕ) → length (zeros n) ≡ n
unfolding zeros
length-zeros zero = refl
length-zeros (suc n) = omega (arith, length-zeros n)

IsBytes-zeros : (n : ℕ) → IsBytes (zeros n)
unfolding zeros
IsBytes-zeros zero i = omega arith
IsBytes-zeros (suc n) zero = omega arith
IsBytes-zeros (suc n) (suc i) = IsBytes-zeros n i

pub padding : List ℕ → ℕ → List ℕ
padding front n = zeros (n - length front)

length-padded : (front : List ℕ) (n : ℕ) → length front ≤ n → length (front ++ padding front n) ≡ n
unfolding padding
length-padded front n le = omega (arith, length-append front (zeros (n - length front)), length-zeros (n - length front))

IsBytes-padded : (front : List ℕ) (n : ℕ) → IsBytes front → IsBytes (front ++ padding front n)
unfolding padding
IsBytes-padded front n fits = IsBytes-append front (zeros (n - length front)) fits (IsBytes-zeros (n - length front))

-- ---- a kind and a field

of_name : (level : ℕ) (front rest : List ℕ) → level ≤ 8 → length (front ++ rest) ≡ 4 → IsBytes (front ++ rest) → 0 < from_be_bytes w32 (front ++ rest) → Opening level (0x01 ∷ front)
of_name level front rest low len fits pos = record {
  t = name (from_be_bytes w32 (front ++ rest));
  rest = rest;
  stands = record { fits = (pos, wide32.below (front ++ rest) fits); depth = omega (arith, low); is = ap (λ (l : List ℕ). 0x01 ∷ l) (sym (wide32.back (front ++ rest) len fits)) };
}

ones_fit : (n : ℕ) → IsBytes (1 ∷ 1 ∷ 1 ∷ 1 ∷ [])
ones_fit n zero = omega arith
ones_fit n (suc zero) = omega arith
ones_fit n (suc (suc zero)) = omega arith
ones_fit n (suc (suc (suc zero))) = omega arith
ones_fit n (suc (suc (suc (suc i)))) = omega arith

one_fits : IsBytes (1 ∷ [])
one_fits zero = omega arith
one_fits (suc i) = omega arith

two_fit : IsBytes (1 ∷ 1 ∷ [])
two_fit zero = omega arith
two_fit (suc i) = one_fits i

three_fit : IsBytes (1 ∷ 1 ∷ 1 ∷ [])
three_fit zero = omega arith
three_fit (suc i) = two_fit i

pub open_name : (level : ℕ) (front : List ℕ) → level ≤ 8 → IsBytes front → length front < 4 → Opening level (0x01 ∷ front)
open_name level [] low fits short = of_name level [] (1 ∷ 1 ∷ 1 ∷ 1 ∷ []) low refl (ones_fit 0) (omega arith)
open_name level (a ∷ []) low fits short = of_name level (a ∷ []) (1 ∷ 1 ∷ 1 ∷ []) low refl (IsBytes-append (a ∷ []) (1 ∷ 1 ∷ 1 ∷ []) fits three_fit) (omega arith)
open_name level (a ∷ b ∷ []) low fits short = of_name level (a ∷ b ∷ []) (1 ∷ 1 ∷ []) low refl (IsBytes-append (a ∷ b ∷ []) (1 ∷ 1 ∷ []) fits two_fit) (omega arith)
open_name level (a ∷ b ∷ c ∷ []) low fits short = of_name level (a ∷ b ∷ c ∷ []) (1 ∷ []) low refl (IsBytes-append (a ∷ b ∷ c ∷ []) (1 ∷ []) fits one_fits) (omega arith)
open_name level (a ∷ b ∷ c ∷ d ∷ l) low fits short = absurd (omega (arith, short))

pub open_time : (level : ℕ) (front : List ℕ) → level ≤ 8 → IsBytes front → length front < 8 → Opening level (0x02 ∷ front)
open_time level front low fits short =
    let all : List ℕ = front ++ padding front 8 in
    record {
      t = stamp (Time (from_be_bytes w64 all));
      rest = padding front 8;
      stands = record { fits = wide64.below all (IsBytes-padded front 8 fits); depth = omega (arith, low); is = ap (λ (l : List ℕ). 0x02 ∷ l) (sym (wide64.back all (length-padded front 8 (omega (arith, short))) (IsBytes-padded front 8 fits))) };
    }

pub open_seq : (level : ℕ) (front : List ℕ) → level ≤ 8 → IsBytes front → length front < 8 → Opening level (0x03 ∷ front)
open_seq level front low fits short =
    let all : List ℕ = front ++ padding front 8 in
    record {
      t = stamp (Seq (from_be_bytes w64 all));
      rest = padding front 8;
      stands = record { fits = wide64.below all (IsBytes-padded front 8 fits); depth = omega (arith, low); is = ap (λ (l : List ℕ). 0x03 ∷ l) (sym (wide64.back all (length-padded front 8 (omega (arith, short))) (IsBytes-padded front 8 fits))) };
    }

-- a term that is a kind and so many bytes
pub record IsFixed (kind n : ℕ) (make : List ℕ → Tree) : Type 0 where
  pub spelled : (b : List ℕ) → kind ∷ b ≡ spelling (make b)
  pub fits : (b : List ℕ) → length b ≡ n → Fits (make b)
  pub one : (b : List ℕ) → depth_of (make b) ≡ 1

pub open_fixed : (kind n : ℕ) (make : List ℕ → Tree) → IsFixed kind n make → (level : ℕ) (front : List ℕ) → level ≤ 8 → length front ≤ n → Opening level (kind ∷ front)
open_fixed kind n make fixed level front low short = record {
  t = make (front ++ padding front n);
  rest = padding front n;
  stands = record { fits = fixed.fits _ (length-padded front n short); depth = omega (arith, fixed.one (front ++ padding front n)); is = fixed.spelled _ };
}

-- a term that is a kind, a length of at most so many, and the bytes
pub record IsSized (kind most : ℕ) (make : List ℕ → Tree) : Type 0 where
  pub spelled : (b : List ℕ) → kind ∷ sized_spelling b ≡ spelling (make b)
  pub fits : (b : List ℕ) → length b ≤ most → Fits (make b)
  pub one : (b : List ℕ) → depth_of (make b) ≡ 1

pub open_sized : (kind most : ℕ) (make : List ℕ → Tree) → IsSized kind most make → (level high low : ℕ) (front : List ℕ) → level ≤ 8 → high < 256 → low < 256 → high * 256 + low ≤ most → length front ≤ high * 256 + low
    → Opening level (kind ∷ high ∷ low ∷ front)
open_sized kind most make sized level high low front deep h l le short =
    let n : ℕ = high * 256 + low in
    let all : List ℕ = front ++ padding front n in
    let len : length all ≡ n = length-padded front n short in
    record {
      t = make all;
      rest = padding front n;
      stands = record {
        fits = sized.fits all (omega (arith, len));
        depth = omega (arith, sized.one all);
        is = ap (λ (p : List ℕ). kind ∷ p ++ all) (sym (length_bytes high low (length all) h l len)) ∙ sized.spelled all;
      };
    }

-- ---- keys

-- the bytes begin the spelling of a key
pub record KeyOpening (front : List ℕ) : Type 0 where
  pub key : Key
  pub rest : List ℕ
  pub fits : IsKey key
  pub is : front ++ rest ≡ key_spelling key

pub open_one : (front : List ℕ) → length front ≤ 32 → KeyOpening (0x0b ∷ front)
open_one front short = record { key = One (front ++ padding front 32); rest = padding front 32; fits = length-padded front 32 short; is = refl }

pub open_two : (p front : List ℕ) → length p ≡ 32 → length front ≤ 32 → KeyOpening (0x0c ∷ p ++ front)
open_two p front len short = record {
  key = Two p (front ++ padding front 32);
  rest = padding front 32;
  fits = (len, length-padded front 32 short);
  is = ap (λ (l : List ℕ). 0x0c ∷ l) (append_assoc p front (padding front 32));
}

-- within the first part
pub open_short_two : (front : List ℕ) → length front ≤ 32 → KeyOpening (0x0c ∷ front)
open_short_two front short = record {
  key = Two (front ++ padding front 32) (zeros 32);
  rest = padding front 32 ++ zeros 32;
  fits = (length-padded front 32 short, length-zeros 32);
  is = ap (λ (l : List ℕ). 0x0c ∷ l) (sym (append_assoc front (padding front 32) (zeros 32)));
}

pub KeyOpening-front : (a b : List ℕ) → KeyOpening (a ++ b) → KeyOpening a
KeyOpening-front a b o = record { key = o.key; rest = b ++ o.rest; fits = o.fits; is = sym (append_assoc a b o.rest) ∙ o.is }

-- ---- seals and checks

-- a term that is a kind, a key and a body
pub record IsSealing (kind : ℕ) (make : Key → Tree → Tree) : Type 0 where
  pub spelled : (k : Key) (t : Tree) → kind ∷ key_spelling k ++ spelling t ≡ spelling (make k t)
  pub fits : (k : Key) (t : Tree) → IsKey k → Fits t → Fits (make k t)
  pub deeper : (k : Key) (t : Tree) → depth_of (make k t) ≡ depth_of t + 1

pub seals : IsSealing 0x09 seal
seals = record { spelled = λ k t. refl; fits = λ k t f g. (f, g); deeper = λ k t. refl }

pub checks : IsSealing 0x0a check
checks = record { spelled = λ k t. refl; fits = λ k t f g. (f, g); deeper = λ k t. refl }

pub open_key : (kind : ℕ) (make : Key → Tree → Tree) → IsSealing kind make → (level : ℕ) (front : List ℕ) → level < 8 → KeyOpening front → Opening level (kind ∷ front)
open_key kind make sealing level front low o = record {
  t = make o.key (tuple none);
  rest = o.rest ++ 0x08 ∷ 0 ∷ [];
  stands = record {
    fits = sealing.fits o.key (tuple none) o.fits (omega arith, tt);
    depth = omega (arith, sealing.deeper o.key (tuple none));
    is = ap (λ (l : List ℕ). kind ∷ l) (sym (append_assoc front o.rest (0x08 ∷ 0 ∷ [])) ∙ ap (λ (l : List ℕ). l ++ 0x08 ∷ 0 ∷ []) o.is) ∙ sealing.spelled o.key (tuple none);
  };
}

pub open_body : (kind : ℕ) (make : Key → Tree → Tree) → IsSealing kind make → (level : ℕ) (key : Key) (front : List ℕ) → IsKey key → Opening (suc level) front → Opening level (kind ∷ key_spelling key ++ front)
open_body kind make sealing level key front fits o = record {
  t = make key o.t;
  rest = o.rest;
  stands = record {
    fits = sealing.fits key o.t fits o.stands.fits;
    depth = omega (arith, sealing.deeper key o.t, o.stands.depth);
    is = ap (λ (l : List ℕ). kind ∷ l) (append_assoc (key_spelling key) front o.rest ∙ ap (λ (l : List ℕ). key_spelling key ++ l) o.stands.is) ∙ sealing.spelled key o.t;
  };
}

-- ---- tuples

-- so many empty tuples
copies : ℕ → Trees
copies zero = none
copies (suc n) = item (tuple none) (copies n)

copies_fit : (n : ℕ) → AllFit (copies n)
unfolding copies
copies_fit zero = tt
copies_fit (suc n) = ((omega arith, tt), copies_fit n)

count_copies : (n : ℕ) → count_of (copies n) ≡ n
unfolding copies
count_copies zero = refl
count_copies (suc n) = omega (arith, count_copies n)

copies_flat : (n : ℕ) → greatest_depth (copies n) ≤ 1
unfolding copies
copies_flat zero = omega arith
copies_flat (suc n) = omega (arith, copies_flat n)

pub open_first : (level count : ℕ) (front : List ℕ) → Opening level front → AllOpening level (suc count) front
open_first level count front o = record {
  ts = item o.t (copies count);
  rest = o.rest ++ spellings (copies count);
  fits = (o.stands.fits, copies_fit count);
  many = omega (arith, count_copies count);
  depth = omega (arith, o.stands.depth, copies_flat count, some_depth o.t);
  is = sym (append_assoc front o.rest (spellings (copies count))) ∙ ap (λ (l : List ℕ). l ++ spellings (copies count)) o.stands.is;
}

pub open_later : (level count : ℕ) (t : Tree) (front : List ℕ) → Fits t → depth_of t + level ≤ 9 → AllOpening level count front → AllOpening level (suc count) (spelling t ++ front)
open_later level count t front fits depth o = record {
  ts = item t o.ts;
  rest = o.rest;
  fits = (fits, o.fits);
  many = omega (arith, o.many);
  depth = omega (arith, o.depth, depth);
  is = append_assoc (spelling t) front o.rest ∙ ap (λ (l : List ℕ). spelling t ++ l) o.is;
}

pub open_items : (level count : ℕ) (front : List ℕ) → count ≤ 32 → AllOpening (suc level) count front → Opening level (0x08 ∷ count ∷ front)
open_items level count front few o = record {
  t = tuple o.ts;
  rest = o.rest;
  stands = record {
    fits = (omega (arith, o.many, few), o.fits);
    depth = omega (arith, o.depth);
    is = ap (λ (l : List ℕ). 0x08 ∷ count ∷ l) o.is ∙ ap (λ (n : ℕ). 0x08 ∷ n ∷ spellings o.ts) (sym o.many);
  };
}

-- a tuple before its count
pub open_tuple : (level : ℕ) → level ≤ 8 → Opening level (0x08 ∷ [])
open_tuple level low = record { t = tuple none; rest = 0 ∷ []; stands = record { fits = (omega arith, tt); depth = omega (arith, low); is = refl } }
