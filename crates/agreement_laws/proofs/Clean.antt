-- Under the key of a completion with a secret no item has a tag of a family beyond the mechanisms' own.
use Rattle.std.proofs.Common.{◌≡◌, ℕ, zero, suc, ◌<◌, List, [], ◌∷◌, ◌++◌, map, Bool, true, false, not, ◌||◌, if◌then◌else◌, get_or, take, refl, sym, ap, subst, ◌∙◌, inl, Some, arith}
use Rattle.term_values.specs.Trees.{Among, Bytes, Tree, tag, tuple, item, seal, check, Trees, trees}
use Rattle.term_values.specs.declared.small.Key.{Key}
use Rattle.term_values.specs.declared.small.Key.TheVariants.{One, Two}
use Rattle.term_values.specs.SameBytes.{same_bytes}
use Rattle.attacker_model.specs.Derivation.{IsGoodKey}
use Rattle.mech_rows.specs.declared.kinds.Mech.{Mech}
use Rattle.mech_rows.specs.declared.kinds.Mech.TheVariants.{E1}
use Rattle.mech_rows.specs.Rows.{Cover, Pass, family, number, row_of}
use Rattle.mech_rows.specs.Facts.{all_made}
use Rattle.mech_rows.specs.Runs.{Keys, value, names, key_under, body, nth, Step, reply_pass}
use Rattle.agreement_laws.specs.Configs.{Config, keys_of, IsLawful}
use Rattle.agreement_laws.specs.Traces.{IsGoodPart, Seals}
use Rattle.agreement_laws.specs.Worlds.{Entry, trace, IsWorld}
use Rattle.agreement_laws.specs.Sound.{Completion, HasSecret, IsCleanBase}
use Rattle.mech_rows.proofs.Facts.{tags_name_passes_holds}
use Rattle.term_values.proofs.Lists.{all_among, implied, and_left, and_right}
use Rattle.term_values.proofs.SameBytes.{same_start}
use Rattle.agreement_laws.proofs.Conclusions.{seals_were_made, checks_were_made, secret_is_good, world_keeps_keys}

first_of_three : (t : Bytes) → get_or (take 3 t) 0 0 ≡ get_or t 0 0
first_of_three [] = refl
first_of_three (x ∷ t) = refl

-- by the fact tags_name_passes
made_family : (m : Mech) (n : ℕ) (ps : List Pass) → all_made m n ps ≡ true → (k : ℕ) (p : Pass) (d : Cover) → nth ps k ≡ Some p → Among d p.covers → d.made ≡ true → get_or d.tagged 0 0 ≡ family m
made_family m n [] h k p d e i made = absurd (cc)
made_family m n (q ∷ ps) h zero p d e i made =
    let f : Some q ≡ Some p = e in
    let g : q ≡ p = cc in
    let test = implied _ _ (all_among (λ (c : Cover). not c.made || (same_bytes (take 3 c.tagged) (family m ∷ number m ∷ n ∷ []))) q.covers (and_left _ _ h) d (subst (λ (x : Pass). Among d x.covers) (sym g) i)) made in
    sym (first_of_three d.tagged) ∙ ap (λ (t : Bytes). get_or t 0 0) {x = take 3 d.tagged} {y = family m ∷ number m ∷ n ∷ []} (same_start (take 3 d.tagged) (family m ∷ number m ∷ n ∷ []) test)
made_family m n (q ∷ ps) h (suc k) p d e i made = made_family m (suc n) ps (and_right _ _ h) k p d e i made

few_families : (m : Mech) → family m < 4
few_families E1 = omega arith
few_families _ = omega arith

tag_of_seal : (k l : Key) (t u : Bytes) (us vs : Trees) → seal k (tuple (item (tag t) us)) ≡ seal l (tuple (item (tag u) vs)) → t ≡ u
tag_of_seal k l t u us vs e = cc

tag_of_check : (k l : Key) (t u : Bytes) (us vs : Trees) → check k (tuple (item (tag t) us)) ≡ check l (tuple (item (tag u) vs)) → t ≡ u
tag_of_check k l t u us vs e = cc

module _ (keys : Keys) (step : Step) (n : ℕ) (beyond : 3 < n) (rest : Bytes) where
  other_family : (u : Tree) → (s : Seals keys step u) → (n ∷ rest ≡ s.cover.tagged) → ⊥
  other_family u s e =
      let f : get_or s.cover.tagged 0 0 ≡ family step.before.head.mech = made_family step.before.head.mech 1 (row_of step.before.head.mech) (tags_name_passes_holds step.before.head.mech) (reply_pass step) s.pass s.cover s.at s.there s.is_made in
      let g : n ≡ family step.before.head.mech = ap (λ (t : Bytes). get_or t 0 0) {x = n ∷ rest} {y = s.cover.tagged} e ∙ f in
      let l : family step.before.head.mech < 4 = few_families step.before.head.mech in
      omega (arith, g, l, beyond)

  no_seal : (key : Key) (us : Trees) → Seals keys step (seal key (tuple (item (tag (n ∷ rest)) us))) → ⊥
  no_seal key us s = go s.cover.is_check s.is
    where
      go : (b : Bool) → seal key (tuple (item (tag (n ∷ rest)) us)) ≡ (if b then check (key_under keys step.before.head step.after.notes s.cover.under) (body step.before.head step.after.notes s.cover) else seal (key_under keys step.before.head step.after.notes s.cover.under) (body step.before.head step.after.notes s.cover)) → ⊥
      go true e = cc
      go false e = other_family (seal key (tuple (item (tag (n ∷ rest)) us))) s (tag_of_seal key (key_under keys step.before.head step.after.notes s.cover.under) (n ∷ rest) s.cover.tagged us (trees (names step.before.head ++ map (value step.after.notes) s.cover.slots)) e)

  no_check : (key : Key) (us : Trees) → Seals keys step (check key (tuple (item (tag (n ∷ rest)) us))) → ⊥
  no_check key us s = go s.cover.is_check s.is
    where
      go : (b : Bool) → check key (tuple (item (tag (n ∷ rest)) us)) ≡ (if b then check (key_under keys step.before.head step.after.notes s.cover.under) (body step.before.head step.after.notes s.cover) else seal (key_under keys step.before.head step.after.notes s.cover.under) (body step.before.head step.after.notes s.cover)) → ⊥
      go false e = cc
      go true e = other_family (check key (tuple (item (tag (n ∷ rest)) us))) s (tag_of_check key (key_under keys step.before.head step.after.notes s.cover.under) (n ∷ rest) s.cover.tagged us (trees (names step.before.head ++ map (value step.after.notes) s.cover.slots)) e)

pub clean : (c : Config) → IsLawful c → (h : List Entry) → IsWorld c h → (n : ℕ) → 3 < n → IsCleanBase c (trace h) n
clean c lawful h w n beyond =
    record {
      parts = world_keeps_keys c lawful h w;
      seals = λ k key rest us secret d. let m = seals_were_made c lawful h w key (tuple (item (tag (n ∷ rest)) us)) (good k key secret) d in no_seal (keys_of c) m.step n beyond rest key us m.seals;
      checks = λ k key rest us secret d. let m = checks_were_made c lawful h w key (tuple (item (tag (n ∷ rest)) us)) (good k key secret) d in no_check (keys_of c) m.step n beyond rest key us m.seals;
    }
  where
    good : (k : Completion (trace h)) (key : Key) → HasSecret c (trace h) k key → IsGoodKey (IsGoodPart c (trace h)) key
    good k (One p) secret = secret_is_good c lawful h w k (One p) secret p (inl refl)
    good k (Two p q) secret = inl (secret_is_good c lawful h w k (Two p q) secret p (inl refl))
