-- Secrecy of good parts, and that each derivable item under a good key was made by an earlier step.
use Rattle.std.proofs.Common.{◌≡◌, ◌⊎◌, List, [], true, false, sym, ap, subst, ◌∙◌, inl, inr, Option}
use Rattle.term_values.specs.Trees.{Among, Bytes, Tree, part, seal, check}
use Rattle.term_values.specs.declared.small.Key.{Key}
use Rattle.attacker_model.specs.Derivation.{Derivable, IsGoodKey}
use Rattle.mech_rows.specs.Runs.{bytes_or_empty}
use Rattle.agreement_laws.specs.Configs.{LongTerm, Config, IsLawful, IsGoodLong, IsGoodHead}
use Rattle.agreement_laws.specs.Traces.{Happening, known_before, OccursInConfig, IsGoodPart, WasSealed, given}
use Rattle.agreement_laws.proofs.Traces.{IsTrace}
use Rattle.attacker_model.proofs.Safe.{derivable_is_safe}
use Rattle.agreement_laws.proofs.Worlds.{start_case, Kept, DrawsWell, kept}
use Rattle.agreement_laws.proofs.Low.{keys_are_high}
use Rattle.agreement_laws.proofs.Fresh.{drawn_outside, one_drawer, long_in_config}

-- the configuration gives the attacker no good long-term part
long_apart : (c : Config) → IsLawful c → (p : Bytes) → Among (part p) (known_before c []) → IsGoodLong c p → ⊥
long_apart c lawful p i g = go (start_case c (part p) i)
  where
    go : (q : Bytes) × (part p ≡ part q) × (Among q c.own ⊎ ((l : LongTerm) × Among l c.pairs × (l.revealed ≡ true) × (q ≡ l.part))) → ⊥
    go q = from q.0 (let e : part p ≡ part q.0 = q.1 in cc) q.2
      where
        from : (r : Bytes) → p ≡ r → (Among r c.own ⊎ ((l : LongTerm) × Among l c.pairs × (l.revealed ≡ true) × (r ≡ l.part))) → ⊥
        from r e (inl j) = lawful.own_apart g.pair g.there (subst (λ x. Among x c.own) (sym e ∙ g.is) j)
        from r e (inr l) =
            let same : g.pair ≡ l.0 = lawful.apart g.pair l.0 g.there l.1 (sym g.is ∙ (e ∙ l.3)) in
            let no : true ≡ false = sym l.2 ∙ (sym (ap (λ (x : LongTerm). x.revealed) same) ∙ g.hidden) in
            cc

start_in_config : (c : Config) (p : Bytes) → Among (part p) (known_before c []) → OccursInConfig (part p) c
start_in_config c p i = go (start_case c (part p) i)
  where
    go : (q : Bytes) × (part p ≡ part q) × (Among q c.own ⊎ ((l : LongTerm) × Among l c.pairs × (l.revealed ≡ true) × (q ≡ l.part))) → OccursInConfig (part p) c
    go (q, e, inl j) = inl (q, j, e)
    go (q, e, inr l) = inr (l.0, l.1, e ∙ ap part l.3)

-- first stratum: long-term parts alone
pub kept_long : (c : Config) → IsLawful c → (h : List Happening) → IsTrace c h → Kept c (IsGoodLong c) h
kept_long c lawful h w =
    kept c (IsGoodLong c) (long_apart c lawful) (IsGoodLong c) (keys_are_high c (IsGoodLong c)) h w
    (λ id step s p i e d g x y j. absurd (drawn_outside c h w id step s p i e d (long_in_config c p g)))
    (λ p i g. g)

-- both strata
pub kept_good : (c : Config) → IsLawful c → (h : List Happening) → IsTrace c h → Kept c (IsGoodPart c h) h
kept_good c lawful h w = kept c (IsGoodPart c h) start (IsGoodLong c) (keys_are_high c (IsGoodPart c h)) h w draws gives
  where
    start : (p : Bytes) → Among (part p) (known_before c []) → IsGoodPart c h p → ⊥
    start p i (inl g) = long_apart c lawful p i g
    start p i (inr g) = drawn_outside c h w g.id g.step g.slot p g.there g.is_part_slot g.draws (start_in_config c p i)

    gives : (p : Bytes) → Among p (given h) → IsGoodPart c h p → IsGoodLong c p
    gives p i (inl g) = g
    gives p i (inr g) = absurd (g.kept i)

    draws : DrawsWell c (IsGoodPart c h) h
    draws id step s p i e d (inl g) x y j = absurd (drawn_outside c h w id step s p i e d (long_in_config c p g))
    draws id step s p i e d (inr g) x y j =
        let same : g.step ≡ step = one_drawer c h w g.id id g.step step g.slot s p g.there i g.is_part_slot e g.draws d in
        let good : IsGoodHead c step.before.head = subst (λ z. IsGoodHead c z.before.head) same g.good in
        let q = good x y j in
        subst (λ (o : Option Bytes). IsGoodPart c h (bytes_or_empty o)) (sym q.1) (inl q.2)

-- no good part is derivable
pub secrecy : (c : Config) → IsLawful c → (h : List Happening) → IsTrace c h → (p : Bytes) → IsGoodPart c h p → Derivable (known_before c h) (part p) → ⊥
secrecy c lawful h w p good d = derivable_is_safe (IsGoodPart c h) (WasSealed c h) (known_before c h) (kept_good c lawful h w).known (part p) d good

pub long_secrecy : (c : Config) → IsLawful c → (h : List Happening) → IsTrace c h → (p : Bytes) → IsGoodLong c p → Derivable (known_before c h) (part p) → ⊥
long_secrecy c lawful h w p good d = derivable_is_safe (IsGoodLong c) (WasSealed c h) (known_before c h) (kept_long c lawful h w).known (part p) d good

-- a derivable seal under a good key was made by an earlier step; and so was a check
pub seal_origin : (c : Config) → IsLawful c → (h : List Happening) → IsTrace c h → (k : Key) (t : Tree) → IsGoodKey (IsGoodPart c h) k → Derivable (known_before c h) (seal k t) → WasSealed c h (seal k t)
seal_origin c lawful h w k t good d = (derivable_is_safe (IsGoodPart c h) (WasSealed c h) (known_before c h) (kept_good c lawful h w).known (seal k t) d).0 good

pub check_origin : (c : Config) → IsLawful c → (h : List Happening) → IsTrace c h → (k : Key) (t : Tree) → IsGoodKey (IsGoodPart c h) k → Derivable (known_before c h) (check k t) → WasSealed c h (check k t)
check_origin c lawful h w k t good d = derivable_is_safe (IsGoodPart c h) (WasSealed c h) (known_before c h) (kept_good c lawful h w).known (check k t) d good
