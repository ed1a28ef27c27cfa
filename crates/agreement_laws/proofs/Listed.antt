-- What a step makes stands in its list of sealed items, with key and body.
use Rattle.std.proofs.Common.{◌≡◌, List, [], ◌∷◌, Bool, true, false, if◌then◌else◌, refl, sym, ap, ap₂, subst, ◌∙◌, inl, inr, Option, Some, None}
use Rattle.term_values.specs.Trees.{Among, Tree, seal, check}
use Rattle.term_values.specs.declared.small.Key.{Key}
use Rattle.mech_rows.specs.declared.kinds.Role.{Role}
use Rattle.mech_rows.specs.Rows.{Cover, Pass, row_of}
use Rattle.mech_rows.specs.Facts.{is_party}
use Rattle.mech_rows.specs.Heads.{Head}
use Rattle.mech_rows.specs.Runs.{Notes, Keys, key_under, body, made, nth, Opening, Step, reply_pass}
use Rattle.mech_rows.specs.Steps.{symbolic, symbolic_item, ItemBy, ItemsAre, openings, Replies, IsStep}
use Rattle.agreement_laws.specs.Configs.{Config, keys_of, IsLawful}
use Rattle.agreement_laws.specs.Traces.{Seals, RunId, Steps}
use Rattle.mech_rows.specs.Rings.{keys_in}
use Rattle.agreement_laws.specs.Worlds.{Entry, ring_of, trace, IsWorld}
use Rattle.agreement_laws.proofs.Rings.{same_key, party_from}
use Rattle.agreement_laws.proofs.Reduction.{StandsAt, stands}

-- the entry of an item that the role makes
entry : Keys → Head → Notes → Cover → Opening
entry keys h notes d = record { key = key_under keys h notes d.under; item = symbolic_item d.is_check (key_under keys h notes d.under) (body h notes d); body = body h notes d }

in_openings : (keys : Keys) (h : Head) (notes : Notes) (knows : Cover → Bool) (cs : List Cover) (us : List Tree) → ItemsAre symbolic keys h notes knows cs us → (d : Cover) → Among d cs → knows d ≡ true → Among (entry keys h notes d) (openings keys h notes knows cs us)
unfolding entry
in_openings keys h notes knows [] us e d i k = elim i [ ]
in_openings keys h notes knows (c ∷ cs) [] e d i k = elim e [ ]
in_openings keys h notes knows (c ∷ cs) (u ∷ us) e d (inl is) k =
    subst (λ (x : Cover). Among (entry keys h notes x) (openings keys h notes knows (c ∷ cs) (u ∷ us))) (sym is) (here (knows c) (subst (λ (x : Cover). knows x ≡ true) is k) e.0)
  where
    here : (b : Bool) → b ≡ true → ItemBy b symbolic keys h notes c u → Among (entry keys h notes c) (if b then record { key = key_under keys h notes c.under; item = u; body = body h notes c } ∷ openings keys h notes knows cs us else openings keys h notes knows cs us)
    here true f is = inl (λ j. record { key = key_under keys h notes c.under; item = sym is j; body = body h notes c })
    here false f is = absurd (cc)
in_openings keys h notes knows (c ∷ cs) (u ∷ us) e d (inr i) k = later (knows c) (in_openings keys h notes knows cs us e.1 d i k)
  where
    later : (b : Bool) → Among (entry keys h notes d) (openings keys h notes knows cs us) → Among (entry keys h notes d) (if b then record { key = key_under keys h notes c.under; item = u; body = body h notes c } ∷ openings keys h notes knows cs us else openings keys h notes knows cs us)
    later true j = inr j
    later false j = j

some_pass : (x y : Pass) → Some x ≡ Some y → x ≡ y
some_pass x y e = cc

sealed_entry : (keys : Keys) (step : Step) → IsStep symbolic keys step → (p : Pass) (d : Cover) → nth (row_of step.before.head.mech) (reply_pass step) ≡ Some p → p.from ≡ step.before.head.role → Among d p.covers → d.made ≡ true → Among (entry keys step.before.head step.after.notes d) step.sealed
sealed_entry keys step is p d at from i m = go step.reply is.replies
  where
    go : (o : Option Tree) → Replies symbolic keys step.before.head (reply_pass step) step.middle step.after.notes o step.sealed → Among (entry keys step.before.head step.after.notes d) step.sealed
    go None r = absurd (r.2 p at from)
    go (Some t) sends =
        let same : p ≡ sends.pass = some_pass p sends.pass (sym at ∙ sends.at) in
        subst (Among (entry keys step.before.head step.after.notes d)) (sym sends.seals_are)
        (in_openings keys step.before.head step.after.notes made sends.pass.covers sends.shows.items sends.shows.each d (subst (λ (x : Pass). Among d x.covers) same i) m)

-- a seal or check that a step of a world made
opening_of : Key → Tree → Tree → Opening
opening_of k u t = record { key = k; item = u; body = t }

listed : (c : Config) → IsLawful c → (h : List Entry) → IsWorld c h → (id : RunId) (step : Step) → Among (Steps id step) (trace h) → (u : Tree) → (s : Seals (keys_of c) step u) → Among (entry (keys_of c) step.before.head step.after.notes s.cover) step.sealed
unfolding entry
listed c lawful h w id step there u s =
    let at : StandsAt c h id step = stands c h w id step there in
    let party = (party_from step.before.head.mech (reply_pass step) s.pass s.cover s.at s.there).0 s.is_made in
    let same = same_key c lawful id.party step.before.head at.own step.after.notes s.cover.under (subst (λ (r : Role). is_party r s.cover.under ≡ true) s.sent party) in
    subst (λ (k : Key). Among (record { key = k; item = symbolic_item s.cover.is_check k (body step.before.head step.after.notes s.cover); body = body step.before.head step.after.notes s.cover }) step.sealed) same
    (sealed_entry (keys_in (ring_of c id.party)) step at.is_step s.pass s.cover s.at s.sent s.there s.is_made)

pub seal_listed : (c : Config) → IsLawful c → (h : List Entry) → IsWorld c h → (id : RunId) (step : Step) → Among (Steps id step) (trace h) → (k : Key) (t : Tree) → Seals (keys_of c) step (seal k t) → Among (record { key = k; item = seal k t; body = t }) step.sealed
unfolding entry
seal_listed c lawful h w id step there k t s = go s.cover.is_check refl s.is
  where
    key : Key
    key = key_under (keys_of c) step.before.head step.after.notes s.cover.under

    made_body : Tree
    made_body = body step.before.head step.after.notes s.cover

    to_list : (x : Key) (y : Tree) → key ≡ x → made_body ≡ y → s.cover.is_check ≡ false → Among (record { key = x; item = seal x y; body = y }) step.sealed
    to_list x y e f g =
        subst (λ (o : Opening). Among o step.sealed) (λ i. record { key = e i; item = (ap (λ (b : Bool). symbolic_item b key made_body) g ∙ ap₂ (λ (z : Key) (v : Tree). seal z v) e f) i; body = f i })
        (listed c lawful h w id step there (seal k t) s)

    go : (b : Bool) → s.cover.is_check ≡ b → seal k t ≡ (if b then check key made_body else seal key made_body) → Among (record { key = k; item = seal k t; body = t }) step.sealed
    go false g e = to_list k t (key_is e) (body_is e) g
      where
        key_is : seal k t ≡ seal key made_body → key ≡ k
        key_is e = cc

        body_is : seal k t ≡ seal key made_body → made_body ≡ t
        body_is e = cc
    go true g e = absurd (cc)

pub check_listed : (c : Config) → IsLawful c → (h : List Entry) → IsWorld c h → (id : RunId) (step : Step) → Among (Steps id step) (trace h) → (k : Key) (t : Tree) → Seals (keys_of c) step (check k t) → Among (record { key = k; item = check k t; body = t }) step.sealed
unfolding entry
check_listed c lawful h w id step there k t s = go s.cover.is_check refl s.is
  where
    key : Key
    key = key_under (keys_of c) step.before.head step.after.notes s.cover.under

    made_body : Tree
    made_body = body step.before.head step.after.notes s.cover

    to_list : (x : Key) (y : Tree) → key ≡ x → made_body ≡ y → s.cover.is_check ≡ true → Among (record { key = x; item = check x y; body = y }) step.sealed
    to_list x y e f g =
        subst (λ (o : Opening). Among o step.sealed) (λ i. record { key = e i; item = (ap (λ (b : Bool). symbolic_item b key made_body) g ∙ ap₂ (λ (z : Key) (v : Tree). check z v) e f) i; body = f i })
        (listed c lawful h w id step there (check k t) s)

    go : (b : Bool) → s.cover.is_check ≡ b → check k t ≡ (if b then check key made_body else seal key made_body) → Among (record { key = k; item = check k t; body = t }) step.sealed
    go true g e = to_list k t (key_is e) (body_is e) g
      where
        key_is : check k t ≡ check key made_body → key ≡ k
        key_is e = cc

        body_is : check k t ≡ check key made_body → made_body ≡ t
        body_is e = cc
    go false g e = absurd (cc)
