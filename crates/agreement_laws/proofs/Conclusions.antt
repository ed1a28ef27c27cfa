-- The laws of worlds, by the laws of their traces.
use Rattle.std.proofs.Common.{◌≡◌, ℕ, zero, suc, ◌+◌, Bool, true, false, not, ◌||◌, if◌then◌else◌, List, [], ◌∷◌, take, Some, sym, ap, subst, ◌∙◌, arith}
use Rattle.term_values.specs.Trees.{Among, Bytes, Tree, part, seal, check}
use Rattle.term_values.specs.declared.small.Key.{Key}
use Rattle.attacker_model.specs.Derivation.{Derivable, IsGoodKey}
use Rattle.term_values.specs.SameBytes.{same_bytes}
use Rattle.mech_rows.specs.declared.kinds.Mech.{Mech}
use Rattle.mech_rows.specs.Rows.{Cover, Pass, row_of, family, number}
use Rattle.mech_rows.specs.Facts.{all_made}
use Rattle.mech_rows.specs.Runs.{nth, body, key_under, reply_pass}
use Rattle.mech_rows.proofs.Facts.{tags_name_passes_holds}
use Rattle.term_values.proofs.Lists.{all_among, implied, and_left, and_right}
use Rattle.term_values.proofs.SameBytes.{same_start}
use Rattle.agreement_laws.specs.Configs.{Config, IsLawful, IsGoodLong, keys_of}
use Rattle.agreement_laws.specs.Traces.{IsGoodPart, WasMade, WasSealed, known_before, parts_of}
use Rattle.agreement_laws.specs.Worlds.{Entry, trace, IsWorld}
use Rattle.agreement_laws.specs.Sound.{Completion, HasSecret, IsPartnered, IsInjective, KeepsKeys, IsSound, HasOrigins}
use Rattle.agreement_laws.proofs.Secrecy.{secrecy, long_secrecy, seal_origin, check_origin}
use Rattle.agreement_laws.proofs.Sound.{partnered, injective, keeps_keys, key_is_good}
use Rattle.agreement_laws.proofs.Reduction.{world_trace}
use Rattle.agreement_laws.proofs.Listed.{seal_listed, check_listed}

body_of_seal : (b : Bool) (k l : Key) (t u : Tree) → seal k t ≡ (if b then check l u else seal l u) → t ≡ u
body_of_seal true k l t u e = absurd (cc)
body_of_seal false k l t u e = cc

body_of_check : (b : Bool) (k l : Key) (t u : Tree) → check k t ≡ (if b then check l u else seal l u) → t ≡ u
body_of_check true k l t u e = cc
body_of_check false k l t u e = absurd (cc)

-- the tag of an item that is made names its mechanism and pass
made_at : (m : Mech) (n : ℕ) (ps : List Pass) → all_made m n ps ≡ true → (k : ℕ) (p : Pass) (d : Cover) → nth ps k ≡ Some p → Among d p.covers → d.made ≡ true → take 3 d.tagged ≡ family m ∷ number m ∷ (n + k) ∷ []
made_at m n [] h k p d e i made = absurd (cc)
made_at m n (q ∷ ps) h zero p d e i made =
    let g : q ≡ p = cc in
    let test = implied _ _ (all_among (λ (c : Cover). not c.made || (same_bytes (take 3 c.tagged) (family m ∷ number m ∷ n ∷ []))) q.covers (and_left _ _ h) d (subst (λ (x : Pass). Among d x.covers) (sym g) i)) made in
    same_start (take 3 d.tagged) (family m ∷ number m ∷ n ∷ []) test ∙ ap (λ (x : ℕ). family m ∷ number m ∷ x ∷ []) (omega arith)
made_at m n (q ∷ ps) h (suc k) p d e i made =
    made_at m (suc n) ps (and_right _ _ h) k p d e i made ∙ ap (λ (x : ℕ). family m ∷ number m ∷ x ∷ []) (omega arith)

made_tag : (m : Mech) (k : ℕ) (p : Pass) (d : Cover) → nth (row_of m) k ≡ Some p → Among d p.covers → d.made ≡ true → take 3 d.tagged ≡ family m ∷ number m ∷ suc k ∷ []
made_tag m k p d e i made = made_at m 1 (row_of m) (tags_name_passes_holds m) k p d e i made ∙ ap (λ (x : ℕ). family m ∷ number m ∷ x ∷ []) (omega arith)

module _ (c : Config) (lawful : IsLawful c) (h : List Entry) (w : IsWorld c h) where
  pub long_is_secret : (p : Bytes) → IsGoodLong c p → Derivable (known_before c (trace h)) (part p) → ⊥
  long_is_secret = long_secrecy c lawful (trace h) (world_trace c lawful h w)

  pub good_is_secret : (p : Bytes) → IsGoodPart c (trace h) p → Derivable (known_before c (trace h)) (part p) → ⊥
  good_is_secret = secrecy c lawful (trace h) (world_trace c lawful h w)

  pub seals_were_made : (k : Key) (t : Tree) → IsGoodKey (IsGoodPart c (trace h)) k → Derivable (known_before c (trace h)) (seal k t) → WasMade c (trace h) k (seal k t) t
  seals_were_made k t good d =
      let m : WasSealed c (trace h) (seal k t) = seal_origin c lawful (trace h) (world_trace c lawful h w) k t good d in
      record { id = m.id; step = m.step; there = m.there; listed = seal_listed c lawful h w m.id m.step m.there k t m.seals; seals = m.seals; is_body = body_of_seal m.seals.cover.is_check k (key_under (keys_of c) m.step.before.head m.step.after.notes m.seals.cover.under) t (body m.step.before.head m.step.after.notes m.seals.cover) m.seals.is; tag_names = made_tag m.step.before.head.mech (reply_pass m.step) m.seals.pass m.seals.cover m.seals.at m.seals.there m.seals.is_made }

  pub checks_were_made : (k : Key) (t : Tree) → IsGoodKey (IsGoodPart c (trace h)) k → Derivable (known_before c (trace h)) (check k t) → WasMade c (trace h) k (check k t) t
  checks_were_made k t good d =
      let m : WasSealed c (trace h) (check k t) = check_origin c lawful (trace h) (world_trace c lawful h w) k t good d in
      record { id = m.id; step = m.step; there = m.there; listed = check_listed c lawful h w m.id m.step m.there k t m.seals; seals = m.seals; is_body = body_of_check m.seals.cover.is_check k (key_under (keys_of c) m.step.before.head m.step.after.notes m.seals.cover.under) t (body m.step.before.head m.step.after.notes m.seals.cover) m.seals.is; tag_names = made_tag m.step.before.head.mech (reply_pass m.step) m.seals.pass m.seals.cover m.seals.at m.seals.there m.seals.is_made }

  pub secret_is_good : (k : Completion (trace h)) (key : Key) → HasSecret c (trace h) k key → (p : Bytes) → Among p (parts_of (Some key)) → IsGoodPart c (trace h) p
  secret_is_good = key_is_good c lawful (trace h) (world_trace c lawful h w)

  pub world_partnered : IsPartnered c (trace h)
  world_partnered = partnered c lawful (trace h) (world_trace c lawful h w)

  pub world_injective : IsInjective c (trace h)
  world_injective = injective c lawful (trace h) (world_trace c lawful h w)

  pub world_keeps_keys : KeepsKeys c (trace h)
  world_keeps_keys = keeps_keys c lawful (trace h) (world_trace c lawful h w)

  pub world_sound : IsSound c (trace h)
  world_sound = record { partnered = world_partnered; injective = world_injective; secret = world_keeps_keys }

  pub world_origins : HasOrigins c (trace h)
  world_origins = record { seals = seals_were_made; checks = checks_were_made }
