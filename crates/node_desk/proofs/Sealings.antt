-- Steps and legal logs over other sealings, and steps with other keys.
use Rattle.std.proofs.Common.{◌≡◌, ℕ, suc, List, [], ◌∷◌, ◌++◌, map, Bool, true, false, if◌then◌else◌, Option, Some, None, sym, ap, subst, ◌∙◌}
use Rattle.std.proofs.lemmas.List.{append_cancel_left}
use Rattle.term_values.specs.Trees.{Tree, Trees, tag, tuple, trees}
use Rattle.term_values.specs.declared.small.Key.{Key}
use Rattle.term_values.proofs.Trees.{trees_inj}
use Rattle.mech_rows.specs.Rows.{Cover, Pass, tag_of}
use Rattle.mech_rows.specs.Heads.{Head}
use Rattle.mech_rows.specs.Rings.{Ring, keys_in}
use Rattle.mech_rows.specs.Runs.{Notes, Run, Keys, Opening, Got, Step, key_under, body, clear_item, made, seen, reply_pass}
use Rattle.mech_rows.specs.Steps.{Sealer, ItemBy, ItemsAre, IsMessage, openings, Fits, Sends, Takes, Replies, IsStep}
use Rattle.agreement_laws.specs.Nodes.{Node, new_node, NodeStep, IsLegal}
use Rattle.agreement_laws.proofs.Nodes.{rings_stay}
use Rattle.node_desk.specs.declared.event.Event.{Event}
use Rattle.node_desk.specs.declared.event.Event.TheVariants.{Open, Issue, Commit, Drop, Restart}
use Rattle.node_desk.specs.Events.{event_of}
use Rattle.node_desk.specs.Desks.{IsStepEvent, AreSteps, any_sealing}

-- what is taken or said with the same keys over another sealing, where its items are those of that sealing
fits-over : (R T : Sealer) (keys : Keys) (run : Run) (t : Tree) (n : Notes) (opened : List Opening) (got : List Got) → (f : Fits R keys run t n opened got) → ItemsAre T keys run.head n seen f.pass.covers f.shows.items → Fits T keys run t n opened got
fits-over R T keys run t n opened got f each =
    record {
      pass = f.pass;
      at = f.at;
      received = f.received;
      extends = f.extends;
      shows = record { items = f.shows.items; is = f.shows.is; each = each };
      opens_are = f.opens_are;
      got_is = f.got_is;
    }

sends-over : (R T : Sealer) (keys : Keys) (h : Head) (k : ℕ) (old new : Notes) (t : Tree) (sealed : List Opening) → (s : Sends R keys h k old new t sealed) → ItemsAre T keys h new made s.pass.covers s.shows.items → Sends T keys h k old new t sealed
sends-over R T keys h k old new t sealed s each =
    record {
      pass = s.pass;
      at = s.at;
      sent = s.sent;
      extends = s.extends;
      shows = record { items = s.shows.items; is = s.shows.is; each = each };
      seals_are = s.seals_are;
    }

step-over : (R T : Sealer) (keys : Keys) (s : Step) → IsStep R keys s → Takes T keys s.before s.taken s.middle s.opened s.got → Replies T keys s.before.head (reply_pass s) s.middle s.after.notes s.reply s.sealed → IsStep T keys s
step-over R T keys s is takes replies =
    record {
      same_head = is.same_head;
      acts = is.acts;
      takes = takes;
      replies = replies;
      moves = is.moves;
      issues = is.issues;
      outcome = is.outcome;
    }

-- over the sealing over which each item is that of each body
module _ (R : Sealer) (keys : Keys) where
  item-any : (b : Bool) (h : Head) (n : Notes) (c : Cover) (u : Tree) → ItemBy b R keys h n c u → ItemBy b any_sealing keys h n c u
  item-any true h n c u i = tt
  item-any false h n c u i = i

  items-any : (h : Head) (n : Notes) (knows : Cover → Bool) (cs : List Cover) (us : List Tree) → ItemsAre R keys h n knows cs us → ItemsAre any_sealing keys h n knows cs us
  items-any h n knows [] us i = i
  items-any h n knows (c ∷ cs) [] i = elim i [ ]
  items-any h n knows (c ∷ cs) (u ∷ us) i = (item-any (knows c) h n c u i.0, items-any h n knows cs us i.1)

  takes-any : (run : Run) (taken : Option Tree) (n : Notes) (opened : List Opening) (got : List Got) → Takes R keys run taken n opened got → Takes any_sealing keys run taken n opened got
  takes-any run None n opened got t = t
  takes-any run (Some m) n opened got f = fits-over R any_sealing keys run m n opened got f (items-any run.head n seen f.pass.covers f.shows.items f.shows.each)

  replies-any : (h : Head) (k : ℕ) (old new : Notes) (reply : Option Tree) (sealed : List Opening) → Replies R keys h k old new reply sealed → Replies any_sealing keys h k old new reply sealed
  replies-any h k old new None sealed r = r
  replies-any h k old new (Some m) sealed s = sends-over R any_sealing keys h k old new m sealed s (items-any h new made s.pass.covers s.shows.items s.shows.each)

  -- a step is one over it
  pub step-any : (s : Step) → IsStep R keys s → IsStep any_sealing keys s
  step-any s is =
      step-over R any_sealing keys s is (takes-any s.before s.taken s.middle s.opened s.got is.takes)
      (replies-any s.before.head (reply_pass s) s.middle s.after.notes s.reply s.sealed is.replies)

-- a node's step is one over another sealing where the event's step is
pub node-over : (R T : Sealer) (old new : Node) (event : Event) → NodeStep R old (event_of event) new → IsStepEvent T (keys_in old.ring) event → NodeStep T old (event_of event) new
node-over R T old new (Open run head texts) h is = h
node-over R T old new (Issue now stamp) h is = h
node-over R T old new (Commit run now step) h is = (record { later = h.0.later; is_open = h.0.is_open; is_step = is; fit = h.0.fit; issued = h.0.issued }, h.1)
node-over R T old new (Drop run) h is = h
node-over R T old new (Restart now last more) h is = h

-- and so is a legal log, where the steps of its commits are
pub legal-over : (R T : Sealer) (ring : Ring) (first : ℕ) (past : List Event) → IsLegal R (new_node ring first) (map event_of past) → AreSteps T (keys_in ring) past → IsLegal T (new_node ring first) (map event_of past)
legal-over R T ring first [] legal steps = tt
legal-over R T ring first (event ∷ past) legal steps = (
  legal-over R T ring first past legal.0 steps.1,
  node-over R T _ _ event legal.1 (subst (λ (r : Ring). IsStepEvent T (keys_in r) event) (sym (rings_stay (new_node ring first) (map event_of past))) steps.0),
)

head-is : {X : Type 0} (x y : X) (xs ys : List X) → x ∷ xs ≡ y ∷ ys → x ≡ y
head-is x y xs ys e = cc

rest-is : {X : Type 0} (x y : X) (xs ys : List X) → x ∷ xs ≡ y ∷ ys → xs ≡ ys
rest-is x y xs ys e = cc

inner-is : (x y : Trees) → tuple x ≡ tuple y → x ≡ y
inner-is x y e = cc

pass-is : (p q : Pass) (o : Option Pass) → o ≡ Some p → o ≡ Some q → q ≡ p
pass-is p q o a b = let both : Some p ≡ Some q = sym a ∙ b in cc

-- the items of a message are determined
items-is : (t x : Tree) (clear us vs : List Tree) → t ≡ tuple (trees (x ∷ (clear ++ us))) → t ≡ tuple (trees (x ∷ (clear ++ vs))) → us ≡ vs
items-is t x clear us vs a b = append_cancel_left clear us vs (rest-is x x _ _ (trees_inj _ _ (inner-is _ _ (sym a ∙ b))))

-- a step over two sealings, with two rings' keys
module _ (R T : Sealer) (keys other : Keys) where
  module _ (h : Head) (n : Notes) (knows : Cover → Bool) where
    -- items that were opened or made with both keys are those of either
    items-keyed : (cs : List Cover) (us : List Tree) → openings keys h n knows cs us ≡ openings other h n knows cs us → ItemsAre T other h n knows cs us → ItemsAre T keys h n knows cs us
    items-keyed [] us same i = i
    items-keyed (c ∷ cs) [] same i = elim i [ ]
    items-keyed (c ∷ cs) (u ∷ us) same i = go (knows c) same i.0 (λ rest. items-keyed cs us rest i.1)
      where
        one : Keys → Opening
        one ks = record { key = key_under ks h n c.under; item = u; body = body h n c }

        go : (b : Bool) → (if b then one keys ∷ openings keys h n knows cs us else openings keys h n knows cs us) ≡ (if b then one other ∷ openings other h n knows cs us else openings other h n knows cs us)
            → ItemBy b T other h n c u → (openings keys h n knows cs us ≡ openings other h n knows cs us → ItemsAre T keys h n knows cs us) → ItemBy b T keys h n c u × ItemsAre T keys h n knows cs us
        go true e item rest =
            (subst (λ (k : Key). T c.is_check k u (body h n c)) (sym (ap (λ (o : Opening). o.key) (head-is (one keys) (one other) _ _ e))) item, rest (rest-is (one keys) (one other) _ _ e))
        go false e item rest = (item, rest e)

    -- so are those of one message of one pass
    each-keyed : (k : ℕ) (p q : Pass) (t : Tree) (known : List Opening) → q ≡ p → (m : IsMessage R keys h n knows k p t) → known ≡ openings keys h n knows p.covers m.items
        → (m2 : IsMessage T other h n knows k q t) × (known ≡ openings other h n knows q.covers m2.items) → ItemsAre T keys h n knows p.covers m.items
    each-keyed k p q t known e m is both =
        let r = subst (λ (x : Pass). (m2 : IsMessage T other h n knows k x t) × (known ≡ openings other h n knows x.covers m2.items)) e both in
        let same : m.items ≡ r.0.items = items-is t (tag (tag_of h.mech (suc k) 0)) (map (clear_item h n) p.clear) m.items r.0.items m.is r.0.is in
        items-keyed p.covers m.items (sym is ∙ (r.1 ∙ ap (openings other h n knows p.covers) (sym same))) (subst (ItemsAre T other h n knows p.covers) (sym same) r.0.each)

  takes-keyed : (run : Run) (taken : Option Tree) (n : Notes) (opened : List Opening) (got : List Got) → Takes R keys run taken n opened got → Takes T other run taken n opened got → Takes T keys run taken n opened got
  takes-keyed run None n opened got a b = a
  takes-keyed run (Some m) n opened got a b =
      fits-over R T keys run m n opened got a
      (each-keyed run.head n seen run.next a.pass b.pass m opened (pass-is a.pass b.pass _ a.at b.at) a.shows a.opens_are (b.shows, b.opens_are))

  replies-keyed : (h : Head) (k : ℕ) (old new : Notes) (reply : Option Tree) (sealed : List Opening) → Replies R keys h k old new reply sealed → Replies T other h k old new reply sealed → Replies T keys h k old new reply sealed
  replies-keyed h k old new None sealed a b = a
  replies-keyed h k old new (Some m) sealed a b =
      sends-over R T keys h k old new m sealed a
      (each-keyed h new made k a.pass b.pass m sealed (pass-is a.pass b.pass _ a.at b.at) a.shows a.seals_are (b.shows, b.seals_are))

  -- is a step with either over either
  pub step-keyed : (s : Step) → IsStep R keys s → IsStep T other s → IsStep T keys s
  step-keyed s a b =
      step-over R T keys s a (takes-keyed s.before s.taken s.middle s.opened s.got a.takes b.takes)
      (replies-keyed s.before.head (reply_pass s) s.middle s.after.notes s.reply s.sealed a.replies b.replies)
