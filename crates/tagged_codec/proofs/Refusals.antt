-- What the table of reasons refuses is where reading stops, and what comes before begins a spelling.
use Rattle.std.proofs.Common.{◌≡◌, ℕ, zero, suc, ◌+◌, ◌*◌, ◌<◌, ◌≤◌, true, false, ltb, eqb, lt-ltb, List, [], ◌∷◌, ◌++◌, length, refl, sym, ap, subst, ◌∙◌, append_assoc, arith, inl, inr}
use Rattle.std.specs.Prelude.{Err}
use Rattle.std.proofs.lemmas.Bool.{le-ltb}
use Rattle.term_values.specs.declared.Key.{Key}
use Rattle.term_values.specs.declared.Why.{Why}
use Rattle.term_values.specs.declared.Why.TheVariants as why
use Rattle.term_values.specs.Trees.{Tree, text, blob, seal, check}
use Rattle.tagged_codec.specs.Faults.{IsKind, IsSealKind, Refused, no_kind, no_key_kind, zero_name, text_high, text_low, blob_high, blob_low, many_items, deep_seal, deep_items, in_items, in_body, RefusedIn, in_first, in_later}
use Rattle.term_values.specs.Limits.{IsKey}
use Rattle.tagged_codec.specs.Grammar.{key_spelling, spelling}
use Rattle.tagged_codec.specs.Reading.{Read, Stop, byte_at, bytes_at, items_at, key_at, key_under, tree_under, name_at, sealed_at, sized_at, term_at, tuple_at}
use Rattle.tagged_codec.proofs.Fields.{IsBytes, key_again}
use Rattle.tagged_codec.proofs.Openings.{Opening, AllOpening, Opening-front, KeyOpening-front, seals, checks, open_name, open_sized, open_one, open_key, open_body, open_first, open_later, open_items, open_tuple}
use Rattle.tagged_codec.proofs.Relation.{spelled}
use Rattle.tagged_codec.proofs.Stops.{sized_text, sized_blob}
use Rattle.tagged_codec.proofs.Terms.{not_zero, term_again}

-- ---- before a refused byte a spelling begins

key_opens : (kind : ℕ) → IsSealKind kind → (level : ℕ) → level < 8 → Opening level (kind ∷ [])
key_opens kind (inl e) level low = subst (λ (k : ℕ). Opening level (k ∷ [])) (sym e) (open_key 0x09 seal seals level [] low (KeyOpening-front [] (0x0b ∷ []) (open_one [] (omega arith))))
key_opens kind (inr e) level low = subst (λ (k : ℕ). Opening level (k ∷ [])) (sym e) (open_key 0x0a check checks level [] low (KeyOpening-front [] (0x0b ∷ []) (open_one [] (omega arith))))

body_opens : (kind : ℕ) → IsSealKind kind → (level : ℕ) (key : Key) (front : List ℕ) → IsKey key → Opening (suc level) front → Opening level (kind ∷ key_spelling key ++ front)
body_opens kind (inl e) level key front fits o = subst (λ (k : ℕ). Opening level (k ∷ key_spelling key ++ front)) (sym e) (open_body 0x09 seal seals level key front fits o)
body_opens kind (inr e) level key front fits o = subst (λ (k : ℕ). Opening level (k ∷ key_spelling key ++ front)) (sym e) (open_body 0x0a check checks level key front fits o)

nothing_read : (level : ℕ) → level ≤ 8 → Opening level []
nothing_read level low = Opening-front [] (0x08 ∷ []) (open_tuple level low)

text_opens : (level high : ℕ) → level ≤ 8 → high * 256 ≤ 1024 → Opening level (0x06 ∷ high ∷ [])
text_opens level high low le = Opening-front (0x06 ∷ high ∷ []) (0 ∷ []) (open_sized 0x06 1024 (λ b. text b) sized_text level high 0 [] low (omega arith) (omega arith) (omega (arith, le)) (omega arith))

blob_opens : (level high : ℕ) → level ≤ 8 → high * 256 ≤ 4096 → Opening level (0x0d ∷ high ∷ [])
blob_opens level high low le = Opening-front (0x0d ∷ high ∷ []) (0 ∷ []) (open_sized 0x0d 4096 (λ b. blob b) sized_blob level high 0 [] low (omega arith) (omega arith) (omega (arith, le)) (omega arith))

zero_fit : IsBytes (0 ∷ 0 ∷ 0 ∷ [])
zero_fit zero = omega arith
zero_fit (suc zero) = omega arith
zero_fit (suc (suc zero)) = omega arith
zero_fit (suc (suc (suc i))) = omega arith

mutual
  pub refused_opens : (level : ℕ) (front : List ℕ) (byte : ℕ) (reason : Why) → Refused level front byte reason → level ≤ 8 → Opening level front
  refused_opens level front byte reason (no_kind _ _ h) low = nothing_read level low
  refused_opens level front byte reason (no_key_kind _ kind _ less is no_one no_two) low = key_opens kind is level less
  refused_opens level front byte reason (zero_name _) low = open_name level (0 ∷ 0 ∷ 0 ∷ []) low zero_fit (omega arith)
  refused_opens level front byte reason (text_high _ _ h) low = Opening-front (0x06 ∷ []) (0 ∷ []) (text_opens level 0 low (omega arith))
  refused_opens level front byte reason (text_low _ high _ h g) low = text_opens level high low h
  refused_opens level front byte reason (blob_high _ _ h) low = Opening-front (0x0d ∷ []) (0 ∷ []) (blob_opens level 0 low (omega arith))
  refused_opens level front byte reason (blob_low _ high _ h g) low = blob_opens level high low h
  refused_opens level front byte reason (many_items _ _ h) low = open_tuple level low
  refused_opens level front byte reason (deep_seal _ _ deep is) low = nothing_read level low
  refused_opens level front byte reason (deep_items _ _ deep some few) low = open_tuple level low
  refused_opens level front byte reason (in_items _ count rest _ _ less few r) low = open_items level count rest few (all_open (suc level) count rest byte reason r (omega (arith, less)))
  refused_opens level front byte reason (in_body _ kind key rest _ _ less is fits r) low = body_opens kind is level key rest fits (refused_opens (suc level) rest byte reason r (omega (arith, less)))

  all_open : (level count : ℕ) (front : List ℕ) (byte : ℕ) (reason : Why) → RefusedIn level count front byte reason → level ≤ 8 → AllOpening level count front
  all_open level count front byte reason (in_first _ n _ _ _ r) low = open_first level n front (refused_opens level front byte reason r low)
  all_open level count front byte reason (in_later _ n t words rest _ _ h r) low =
      let s = spelled level t words h in
      subst (λ (q : List ℕ). AllOpening level (suc n) (q ++ rest)) (sym s.is) (open_later level n t rest s.fits s.depth (all_open level n rest byte reason r low))

-- ---- reading stops at a refused byte

differs : (a b : ℕ) → (a ≡ b → ⊥) → eqb a b ≡ false
differs a b h = grind (arith, h)

nothing_under : (one : List ℕ → Read Tree) (below : ℕ) (start : List ℕ) (kind : ℕ) (bytes : List ℕ) → (IsKind kind → ⊥) → tree_under one below start kind bytes ≡ Err (why.Kind, start)
unfolding tree_under
nothing_under one below start kind bytes h =
    let e1 : eqb kind 1 ≡ false = differs kind 1 (λ e. h (inl (omega (arith, e), omega (arith, e)))) in
    let e2 : eqb kind 2 ≡ false = differs kind 2 (λ e. h (inl (omega (arith, e), omega (arith, e)))) in
    let e3 : eqb kind 3 ≡ false = differs kind 3 (λ e. h (inl (omega (arith, e), omega (arith, e)))) in
    let e4 : eqb kind 4 ≡ false = differs kind 4 (λ e. h (inl (omega (arith, e), omega (arith, e)))) in
    let e5 : eqb kind 5 ≡ false = differs kind 5 (λ e. h (inl (omega (arith, e), omega (arith, e)))) in
    let e6 : eqb kind 6 ≡ false = differs kind 6 (λ e. h (inl (omega (arith, e), omega (arith, e)))) in
    let e7 : eqb kind 7 ≡ false = differs kind 7 (λ e. h (inl (omega (arith, e), omega (arith, e)))) in
    let e8 : eqb kind 8 ≡ false = differs kind 8 (λ e. h (inl (omega (arith, e), omega (arith, e)))) in
    let e9 : eqb kind 9 ≡ false = differs kind 9 (λ e. h (inl (omega (arith, e), omega (arith, e)))) in
    let e10 : eqb kind 10 ≡ false = differs kind 10 (λ e. h (inl (omega (arith, e), omega (arith, e)))) in
    let e13 : eqb kind 13 ≡ false = differs kind 13 (λ e. h (inr e)) in
    rw (e1, e2, e3, e4, e5, e6, e7, e8, e9, e10, e13) refl

no_key : (b : ℕ) (rest : List ℕ) → (b ≡ 0x0b → ⊥) → (b ≡ 0x0c → ⊥) → key_at (b ∷ rest) ≡ Err (why.Kind, b ∷ rest)
unfolding key_at key_under byte_at
no_key b rest h k =
    let e : eqb b 0x0b ≡ false = differs b 0x0b h in
    let f : eqb b 0x0c ≡ false = differs b 0x0c k in
    rw (e, f) refl

seal_under : (one : List ℕ → Read Tree) (below : ℕ) (start : List ℕ) (kind : ℕ) (bytes : List ℕ) (s : Stop) → IsSealKind kind → sealed_at one below start bytes ≡ Err s → tree_under one below start kind bytes ≡ Err s
unfolding tree_under
seal_under one below start kind bytes s (inl is) e = ap (λ (k : ℕ). tree_under one below start k bytes) is ∙ rw e refl
seal_under one below start kind bytes s (inr is) e = ap (λ (k : ℕ). tree_under one below start k bytes) is ∙ rw e refl

sealed_deep : (one : List ℕ → Read Tree) (start bytes : List ℕ) → sealed_at one 0 start bytes ≡ Err (why.Deep, start)
unfolding sealed_at
sealed_deep one start bytes = refl

sealed_no_key : (one : List ℕ → Read Tree) (below : ℕ) (start bytes : List ℕ) (s : Stop) → 0 < below → key_at bytes ≡ Err s → sealed_at one below start bytes ≡ Err s
unfolding sealed_at
sealed_no_key one below start bytes s low e = rw (not_zero below low, e) refl

sealed_body : (one : List ℕ → Read Tree) (below : ℕ) (start : List ℕ) (key : Key) (bytes : List ℕ) (s : Stop) → 0 < below → IsKey key → one bytes ≡ Err s → sealed_at one below start (key_spelling key ++ bytes) ≡ Err s
unfolding sealed_at
sealed_body one below start key bytes s low fits e = rw (not_zero below low, key_again key bytes fits, e) refl

tuple_many : (one : List ℕ → Read Tree) (below count : ℕ) (rest : List ℕ) → 32 < count → tuple_at one below (count ∷ rest) ≡ Err (why.ManyItems, count ∷ rest)
unfolding tuple_at byte_at
tuple_many one below count rest h = let e : ltb 32 count ≡ true = lt-ltb _ _ h in rw e refl

tuple_deep : (one : List ℕ → Read Tree) (count : ℕ) (rest : List ℕ) → 0 < count → count ≤ 32 → tuple_at one 0 (count ∷ rest) ≡ Err (why.Deep, count ∷ rest)
unfolding tuple_at byte_at
tuple_deep one count rest some few = let e : ltb 32 count ≡ false = le-ltb _ _ few in rw (e, not_zero count some) refl

tuple_stopped : (one : List ℕ → Read Tree) (below count : ℕ) (rest : List ℕ) (s : Stop) → 0 < below → 0 < count → count ≤ 32 → items_at one count rest ≡ Err s → tuple_at one below (count ∷ rest) ≡ Err s
unfolding tuple_at byte_at
tuple_stopped one below count rest s low some few h = let e : ltb 32 count ≡ false = le-ltb _ _ few in rw (e, not_zero count some, not_zero below low, h) refl

length_high : (most high : ℕ) (reason : Why) (rest : List ℕ) → most < high * 256 → sized_at most reason (high ∷ rest) ≡ Err (reason, high ∷ rest)
unfolding sized_at byte_at
length_high most high reason rest h = let e : ltb most (high * 256) ≡ true = lt-ltb _ _ h in rw e refl

length_low : (most high low : ℕ) (reason : Why) (rest : List ℕ) → high * 256 ≤ most → most < high * 256 + low → sized_at most reason (high ∷ low ∷ rest) ≡ Err (reason, low ∷ rest)
unfolding sized_at byte_at
length_low most high low reason rest h g =
    let e : ltb most (high * 256) ≡ false = le-ltb _ _ h in
    let f : ltb most (high * 256 + low) ≡ true = lt-ltb _ _ g in
    rw (e, f) refl

short_of : (rest : List ℕ) → ltb (length (0 ∷ 0 ∷ 0 ∷ 0 ∷ rest)) 3 ≡ false
short_of rest = le-ltb _ _ (omega arith)

name_zero : (rest : List ℕ) → name_at (0 ∷ 0 ∷ 0 ∷ 0 ∷ rest) ≡ Err (why.ZeroName, 0 ∷ rest)
unfolding name_at bytes_at byte_at
name_zero rest = rw (short_of rest) refl

some_items : (level count : ℕ) (front : List ℕ) (byte : ℕ) (reason : Why) → RefusedIn level count front byte reason → 0 < count
some_items level count front byte reason (in_first _ n _ _ _ r) = omega arith
some_items level count front byte reason (in_later _ n t words rest _ _ h r) = omega arith

mutual
  unfolding term_at byte_at items_at tree_under

  pub refused_reads : (level below : ℕ) (front : List ℕ) (byte : ℕ) (reason : Why) → Refused level front byte reason → level + below ≡ 8 → (rest : List ℕ) → term_at (suc below) (front ++ byte ∷ rest) ≡ Err (reason, byte ∷ rest)
  refused_reads level below front byte reason (no_kind _ _ h) total rest = nothing_under (term_at below) below (byte ∷ rest) byte rest h
  refused_reads level below front byte reason (no_key_kind _ kind _ less is no_one no_two) total rest =
      seal_under (term_at below) below (kind ∷ byte ∷ rest) kind (byte ∷ rest) (why.Kind, byte ∷ rest) is (sealed_no_key (term_at below) below _ (byte ∷ rest) _ (omega (arith, less, total)) (no_key byte rest no_one no_two))
  refused_reads level below front byte reason (zero_name _) total rest = rw (name_zero rest) refl
  refused_reads level below front byte reason (text_high _ _ h) total rest = rw (length_high 1024 byte why.LongText rest h) refl
  refused_reads level below front byte reason (text_low _ high _ h g) total rest = rw (length_low 1024 high byte why.LongText rest h g) refl
  refused_reads level below front byte reason (blob_high _ _ h) total rest = rw (length_high 4096 byte why.LongBlob rest h) refl
  refused_reads level below front byte reason (blob_low _ high _ h g) total rest = rw (length_low 4096 high byte why.LongBlob rest h g) refl
  refused_reads level below front byte reason (many_items _ _ h) total rest = rw (tuple_many (term_at below) below byte rest h) refl
  refused_reads level zero front byte reason (deep_seal _ _ deep is) total rest = seal_under (term_at zero) zero (byte ∷ rest) byte rest (why.Deep, byte ∷ rest) is (sealed_deep (term_at zero) (byte ∷ rest) rest)
  refused_reads level (suc below) front byte reason (deep_seal _ _ deep is) total rest = absurd (omega (arith, deep, total))
  refused_reads level zero front byte reason (deep_items _ _ deep some few) total rest = rw (tuple_deep (term_at zero) byte rest some few) refl
  refused_reads level (suc below) front byte reason (deep_items _ _ deep some few) total rest = absurd (omega (arith, deep, total))
  refused_reads level zero front byte reason (in_items _ count items _ _ less few r) total rest = absurd (omega (arith, less, total))
  refused_reads level (suc below) front byte reason (in_items _ count items _ _ less few r) total rest =
      rw (tuple_stopped (term_at (suc below)) (suc below) count (items ++ byte ∷ rest) (reason, byte ∷ rest) (omega arith) (some_items (suc level) count items byte reason r) few (refused_items (suc level) below count items byte reason r (omega (arith, total)) rest)) refl
  refused_reads level zero front byte reason (in_body _ kind key body _ _ less is fits r) total rest = absurd (omega (arith, less, total))
  refused_reads level (suc below) front byte reason (in_body _ kind key body _ _ less is fits r) total rest =
      let below_is : term_at (suc below) (body ++ byte ∷ rest) ≡ Err (reason, byte ∷ rest) = refused_reads (suc level) below body byte reason r (omega (arith, total)) rest in
      let whole : List ℕ = kind ∷ key_spelling key ++ (body ++ byte ∷ rest) in
      ap (λ (q : List ℕ). term_at (suc (suc below)) (kind ∷ q)) (append_assoc (key_spelling key) body (byte ∷ rest))
      ∙ seal_under (term_at (suc below)) (suc below) whole kind (key_spelling key ++ (body ++ byte ∷ rest)) (reason, byte ∷ rest) is (sealed_body (term_at (suc below)) (suc below) whole key (body ++ byte ∷ rest) _ (omega arith) fits below_is)

  refused_items : (level below count : ℕ) (front : List ℕ) (byte : ℕ) (reason : Why) → RefusedIn level count front byte reason → level + below ≡ 8 → (rest : List ℕ) → items_at (term_at (suc below)) count (front ++ byte ∷ rest) ≡ Err (reason, byte ∷ rest)
  refused_items level below count front byte reason (in_first _ n _ _ _ r) total rest = rw (refused_reads level below front byte reason r total rest) refl
  refused_items level below count front byte reason (in_later _ n t words items _ _ h r) total rest =
      let s = spelled level t words h in
      let at_words : (words ++ items) ++ byte ∷ rest ≡ spelling t ++ (items ++ byte ∷ rest) = append_assoc words items (byte ∷ rest) ∙ ap (λ (q : List ℕ). q ++ (items ++ byte ∷ rest)) s.is in
      ap (items_at (term_at (suc below)) (suc n)) at_words
      ∙ rw (term_again (suc below) t (items ++ byte ∷ rest) s.fits (omega (arith, s.depth, total)), refused_items level below n items byte reason r total rest) refl
