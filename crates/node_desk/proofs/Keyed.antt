-- A step is made with other keys exactly where each of its items is under the long-term part of A and B that these have.
use Rattle.std.proofs.Common.{◌≡◌, ◌↔◌, ◌&&◌, IsTrue, ℕ, zero, suc, List, [], ◌∷◌, Bool, true, false, if◌then◌else◌, Option, Some, None, refl, sym, ap, subst, ◌∙◌, inl, inr}
use Rattle.std.specs.List.{list_all}
use Rattle.term_values.specs.Trees.{Tree}
use Rattle.term_values.specs.declared.small.Key.{Key}
use Rattle.term_values.specs.declared.small.Key.TheVariants.{One}
use Rattle.term_values.proofs.Lists.{and_left, and_right}
use Rattle.mech_rows.specs.declared.kinds.Mech.{Mech}
use Rattle.mech_rows.specs.declared.kinds.Role.{Role}
use Rattle.mech_rows.specs.declared.kinds.Role.TheVariants.{A, B, P}
use Rattle.mech_rows.specs.declared.kinds.Under.{Under}
use Rattle.mech_rows.specs.declared.kinds.Under.TheVariants.{Pair, Drawn}
use Rattle.mech_rows.specs.Rows.{Cover, Pass, row_of}
use Rattle.mech_rows.specs.Heads.{Head, name_of}
use Rattle.mech_rows.specs.Rings.{Ring, keys_in}
use Rattle.mech_rows.specs.Runs.{Notes, Run, Keys, Opening, Got, Step, bytes_or_empty, key_under, body, made, seen, nth, reply_pass}
use Rattle.mech_rows.specs.Steps.{Sealer, ItemBy, ItemsAre, IsMessage, openings, Fits, Sends, Takes, Replies, IsStep}
use Rattle.mech_rows.specs.Moves.{Move, step_of, IsMove}
use Rattle.node_desk.specs.Desks.{IsMadeWith}
use Rattle.node_desk.specs.Suits.{AreUnder, is_shared, have_one_key}

-- the key of A and B
abbrev shared_key : Keys → Head → Key
shared_key keys h = One (bytes_or_empty (keys h.a h.b))

shared-key : (keys : Keys) (h : Head) (n : Notes) (u : Under) → is_shared u ≡ true → key_under keys h n u ≡ shared_key keys h
shared-key keys h n (Pair A B) e = refl
shared-key keys h n (Pair A A) e = absurd (cc)
shared-key keys h n (Pair A P) e = absurd (cc)
shared-key keys h n (Pair B y) e = absurd (cc)
shared-key keys h n (Pair P y) e = absurd (cc)
shared-key keys h n Drawn e = absurd (cc)

-- those of the passes of a row with one key
pass-shared : (ps : List Pass) (k : ℕ) (p : Pass) → have_one_key ps ≡ true → nth ps k ≡ Some p → list_all (λ c. is_shared c.under) p.covers ≡ true
pass-shared [] k p all e = absurd (cc)
pass-shared (q ∷ ps) zero p all e =
    let same : q ≡ p = cc in
    subst (λ (x : Pass). list_all (λ c. is_shared c.under) x.covers ≡ true) same (and_left (list_all (λ c. is_shared c.under) q.covers) (have_one_key ps) all)
pass-shared (q ∷ ps) (suc k) p all e = pass-shared ps k p (and_right (list_all (λ c. is_shared c.under) q.covers) (have_one_key ps) all) e

module _ (opens : Sealer) (keys : Keys) (h : Head) (n : Notes) (knows : Cover → Bool) where
  -- each known item is under the key of A and B
  known-under : (cs : List Cover) (us : List Tree) → list_all (λ c. is_shared c.under) cs ≡ true → AreUnder (shared_key keys h) (openings keys h n knows cs us)
  known-under [] us all = tt
  known-under (c ∷ cs) [] all = tt
  known-under (c ∷ cs) (u ∷ us) all =
      go (knows c) (shared-key keys h n c.under (and_left (is_shared c.under) (list_all (λ d. is_shared d.under) cs) all))
      (known-under cs us (and_right (is_shared c.under) (list_all (λ d. is_shared d.under) cs) all))
    where
      go : (b : Bool) → key_under keys h n c.under ≡ shared_key keys h → AreUnder (shared_key keys h) (openings keys h n knows cs us) → AreUnder (shared_key keys h) (if b then record { key = key_under keys h n c.under; item = u; body = body h n c } ∷ openings keys h n knows cs us else openings keys h n knows cs us)
      go true e rest = (e, rest)
      go false e rest = rest

  module _ (other : Keys) where
    item-again : (b : Bool) (c : Cover) (u : Tree) → ItemBy b opens keys h n c u → (b ≡ true → key_under keys h n c.under ≡ key_under other h n c.under) → ItemBy b opens other h n c u
    item-again true c u i e = subst (λ (k : Key). opens c.is_check k u (body h n c)) (e refl) i
    item-again false c u i e = i

    -- where the known items are under the other's key of A and B, the items are those of the other keys
    items-again : (cs : List Cover) (us : List Tree) → list_all (λ c. is_shared c.under) cs ≡ true → ItemsAre opens keys h n knows cs us → AreUnder (shared_key other h) (openings keys h n knows cs us)
        → ItemsAre opens other h n knows cs us × (openings keys h n knows cs us ≡ openings other h n knows cs us)
    items-again [] us all items under = (items, refl)
    items-again (c ∷ cs) [] all items under = elim items [ ]
    items-again (c ∷ cs) (u ∷ us) all items under =
        let first = and_left (is_shared c.under) (list_all (λ d. is_shared d.under) cs) all in
        go (knows c) (shared-key other h n c.under first) items.0 under
        (items-again cs us (and_right (is_shared c.under) (list_all (λ d. is_shared d.under) cs) all) items.1)
      where
        go : (b : Bool) → key_under other h n c.under ≡ shared_key other h → ItemBy b opens keys h n c u
            → AreUnder (shared_key other h) (if b then record { key = key_under keys h n c.under; item = u; body = body h n c } ∷ openings keys h n knows cs us else openings keys h n knows cs us)
            → (AreUnder (shared_key other h) (openings keys h n knows cs us) → ItemsAre opens other h n knows cs us × (openings keys h n knows cs us ≡ openings other h n knows cs us))
            → (ItemBy b opens other h n c u × ItemsAre opens other h n knows cs us) × ((if b then record { key = key_under keys h n c.under; item = u; body = body h n c } ∷ openings keys h n knows cs us else openings keys h n knows cs us) ≡ (if b then record { key = key_under other h n c.under; item = u; body = body h n c } ∷ openings other h n knows cs us else openings other h n knows cs us))
        go true e i under rest =
            let same : key_under keys h n c.under ≡ key_under other h n c.under = under.0 ∙ sym e in
            let r = rest under.1 in
            ((item-again true c u i (λ is. same), r.0), λ j. record { key = same j; item = u; body = body h n c } ∷ r.1 j)
        go false e i under rest = let r = rest under in ((i, r.0), r.1)

message-again : (opens : Sealer) (keys other : Keys) (h : Head) (n : Notes) (knows : Cover → Bool) (k : ℕ) (p : Pass) (t : Tree) → list_all (λ c. is_shared c.under) p.covers ≡ true → (m : IsMessage opens keys h n knows k p t)
    → AreUnder (shared_key other h) (openings keys h n knows p.covers m.items)
    → (m2 : IsMessage opens other h n knows k p t) × (openings keys h n knows p.covers m.items ≡ openings other h n knows p.covers m2.items)
message-again opens keys other h n knows k p t all m under =
    let r = items-again opens keys h n knows other p.covers m.items all m.each under in
    (record { items = m.items; is = m.is; each = r.0 }, r.1)

-- what is opened or made with one key is under it
takes-under : (opens : Sealer) (keys : Keys) (run : Run) (taken : Option Tree) (n : Notes) (opened : List Opening) (got : List Got) → have_one_key (row_of run.head.mech) ≡ true → Takes opens keys run taken n opened got → AreUnder (shared_key keys run.head) opened
takes-under opens keys run None n opened got one t = subst (AreUnder (shared_key keys run.head)) (sym t.1) tt
takes-under opens keys run (Some m) n opened got one f =
    subst (AreUnder (shared_key keys run.head)) (sym f.opens_are) (known-under opens keys run.head n seen f.pass.covers f.shows.items (pass-shared (row_of run.head.mech) run.next f.pass one f.at))

replies-under : (opens : Sealer) (keys : Keys) (h : Head) (k : ℕ) (old new : Notes) (reply : Option Tree) (sealed : List Opening) → have_one_key (row_of h.mech) ≡ true → Replies opens keys h k old new reply sealed → AreUnder (shared_key keys h) sealed
replies-under opens keys h k old new None sealed one r = subst (AreUnder (shared_key keys h)) (sym r.1) tt
replies-under opens keys h k old new (Some m) sealed one s =
    subst (AreUnder (shared_key keys h)) (sym s.seals_are) (known-under opens keys h new made s.pass.covers s.shows.items (pass-shared (row_of h.mech) k s.pass one s.at))

-- what is under the other's key was opened or made with the other keys
takes-again : (opens : Sealer) (keys other : Keys) (run : Run) (taken : Option Tree) (n : Notes) (opened : List Opening) (got : List Got) → have_one_key (row_of run.head.mech) ≡ true → AreUnder (shared_key other run.head) opened → Takes opens keys run taken n opened got → Takes opens other run taken n opened got
takes-again opens keys other run None n opened got one under t = t
takes-again opens keys other run (Some m) n opened got one under f =
    let again = message-again opens keys other run.head n seen run.next f.pass m (pass-shared (row_of run.head.mech) run.next f.pass one f.at) f.shows (subst (AreUnder (shared_key other run.head)) f.opens_are under) in
    record {
      pass = f.pass;
      at = f.at;
      received = f.received;
      extends = f.extends;
      shows = again.0;
      opens_are = f.opens_are ∙ again.1;
      got_is = f.got_is;
    }

replies-again : (opens : Sealer) (keys other : Keys) (h : Head) (k : ℕ) (old new : Notes) (reply : Option Tree) (sealed : List Opening) → have_one_key (row_of h.mech) ≡ true → AreUnder (shared_key other h) sealed → Replies opens keys h k old new reply sealed → Replies opens other h k old new reply sealed
replies-again opens keys other h k old new None sealed one under r = r
replies-again opens keys other h k old new (Some m) sealed one under s =
    let again = message-again opens keys other h new made k s.pass m (pass-shared (row_of h.mech) k s.pass one s.at) s.shows (subst (AreUnder (shared_key other h)) s.seals_are under) in
    record {
      pass = s.pass;
      at = s.at;
      sent = s.sent;
      extends = s.extends;
      shows = again.0;
      seals_are = s.seals_are ∙ again.1;
    }

step-again : (opens : Sealer) (keys other : Keys) (s : Step) → have_one_key (row_of s.before.head.mech) ≡ true → AreUnder (shared_key other s.before.head) s.opened → AreUnder (shared_key other s.before.head) s.sealed → IsStep opens keys s → IsStep opens other s
step-again opens keys other s one opened sealed is =
    record {
      same_head = is.same_head;
      acts = is.acts;
      takes = takes-again opens keys other s.before s.taken s.middle s.opened s.got one opened is.takes;
      replies = replies-again opens keys other s.before.head (reply_pass s) s.middle s.after.notes s.reply s.sealed one sealed is.replies;
      moves = is.moves;
      issues = is.issues;
      outcome = is.outcome;
    }

-- the step was made with these keys where each item is under their key of A and B
pub made-with : (keys : Keys) (m : Move) → have_one_key (row_of m.before.head.mech) ≡ true → IsMove m → AreUnder (One (bytes_or_empty (keys m.before.head.a m.before.head.b))) m.opened → AreUnder (One (bytes_or_empty (keys m.before.head.a m.before.head.b))) m.sealed → IsMadeWith keys m
made-with keys m one move opened sealed = record { opens = move.opens; checks = move.checks; is_step = step-again _ move.keys keys (step_of m) one opened sealed move.is_step }

-- and only there
pub made-under : (keys : Keys) (m : Move) → have_one_key (row_of m.before.head.mech) ≡ true → IsMadeWith keys m → AreUnder (One (bytes_or_empty (keys m.before.head.a m.before.head.b))) m.opened × AreUnder (One (bytes_or_empty (keys m.before.head.a m.before.head.b))) m.sealed
made-under keys m one made =
    let s : Step = step_of m in
    (takes-under _ keys s.before s.taken s.middle s.opened s.got one made.is_step.takes, replies-under _ keys s.before.head (reply_pass s) s.middle s.after.notes s.reply s.sealed one made.is_step.replies)

module _ (keys : Keys) (m : Move) (one : have_one_key (row_of m.before.head.mech) ≡ true) (k : Key) (is : k ≡ One (bytes_or_empty (keys m.before.head.a m.before.head.b))) where
  -- a step whose opened items are under that key is made with these keys exactly where its sealed ones are
  pub suits-then : (b : Bool) → IsMove m → AreUnder k m.opened → (IsTrue b ↔ AreUnder k m.sealed) → IsTrue b ↔ IsMadeWith keys m
  suits-then b move opened sealed = (
    λ h. made-with keys m one move (subst (λ (x : Key). AreUnder x m.opened) is opened) (subst (λ (x : Key). AreUnder x m.sealed) is (sealed.0 h)),
    λ made. sealed.1 (subst (λ (x : Key). AreUnder x m.sealed) (sym is) (made-under keys m one made).1),
  )

  -- and else it is not
  pub suits-else : (b : Bool) → b ≡ false → (IsTrue b ↔ AreUnder k m.opened) → IsTrue b ↔ IsMadeWith keys m
  suits-else b off opened =
      (λ h. absurd (let bad : false ≡ true = sym off ∙ h in cc), λ made. opened.1 (subst (λ (x : Key). AreUnder x m.opened) (sym is) (made-under keys m one made).0))
