-- Rings with fewer peers or parts: what a node does with such a ring, it does with the configuration's.
use Rattle.std.proofs.Common.{◌≡◌, ℕ, ◌==◌, ◌⊎◌, List, [], ◌∷◌, map, Bool, true, false, ◌||◌, if◌then◌else◌, refl, sym, ap, subst, ◌∙◌, inl, inr, Option, Some, None, eqb-true, eq-eqb}
use Rattle.std.specs.List.{list_any}
use Rattle.term_values.specs.Trees.{Among, Bytes, Tree}
use Rattle.term_values.specs.declared.small.Key.{Key}
use Rattle.term_values.specs.declared.small.Key.TheVariants.{One}
use Rattle.mech_rows.specs.declared.kinds.Role.{Role}
use Rattle.mech_rows.specs.declared.kinds.Under.{Under}
use Rattle.mech_rows.specs.declared.kinds.Under.TheVariants.{Pair, Drawn}
use Rattle.mech_rows.specs.Rows.{Cover, Pass, row_of, pairs_of}
use Rattle.mech_rows.specs.Facts.{is_party}
use Rattle.mech_rows.specs.Heads.{Head, name_of}
use Rattle.mech_rows.specs.Runs.{Notes, Keys, bytes_or_empty, key_under, body, made, seen, nth, Step, reply_pass}
use Rattle.mech_rows.specs.Steps.{Sealer, ItemBy, ItemsAre, openings, Takes, Replies, IsStep}
use Rattle.agreement_laws.specs.Configs.{Party, Config, keys_of, names_in, IsLawful}
use Rattle.agreement_laws.specs.Nodes.{server_by, knows, serves, Open, Issue, Commit, Drop, Restart, Log, Standing, Runs, Node, put, ended, is_going, node_after, IsLegal}
use Rattle.mech_rows.specs.Openings.{uses, opened_run}
use Rattle.mech_rows.specs.Rings.{keys_in, Peer, Ring, part_by}
use Rattle.agreement_laws.specs.Worlds.{party_by, peers_by, ring_of}
use Rattle.agreement_laws.specs.Assembled.{IsRingOf}
use Rattle.term_values.proofs.Lists.{some_among, or_cases}
use Rattle.mech_rows.proofs.RowUse.{pair_is_of_row}
use Rattle.agreement_laws.proofs.Nodes.{rings_stay}
use Rattle.agreement_laws.proofs.Rings.{peer_key, party_from}

-- what the new ring keeps of the old one
pub record RingLike (old new : Ring) : Type 0 where
  pub me : new.me ≡ old.me
  pub kind : new.kind ≡ old.kind
  pub window : new.window ≡ old.window
  pub known : (x : ℕ) → knows old x ≡ true → knows new x ≡ true
  pub serving : (x : ℕ) → knows old x ≡ true → serves new x ≡ serves old x
  pub keys : (x y : ℕ) (p : Bytes) → keys_in old x y ≡ Some p → keys_in new x y ≡ Some p

or_first : (a b : Bool) → a ≡ true → (a || b) ≡ true
or_first true b h = refl
or_first false b h = absurd (cc)

or_second : (a b : Bool) → b ≡ true → (a || b) ≡ true
or_second true b h = refl
or_second false b h = h

module _ (c : Config) (n : ℕ) where
  peer_there : (ps : List Party) (x : ℕ) → (x == n) ≡ false → Among x (map (λ (p : Party). p.name) ps) → list_any (λ (p : Peer). p.name == x) (peers_by c n ps) ≡ true
  peer_there [] x d i = elim i [ ]
  peer_there (q ∷ ps) x d i = go (q.name == n) refl i (peer_there ps x d)
    where
      go : (b : Bool) → (q.name == n) ≡ b → (x ≡ q.name) ⊎ Among x (map (λ (p : Party). p.name) ps) → (Among x (map (λ (p : Party). p.name) ps) → list_any (λ (p : Peer). p.name == x) (peers_by c n ps) ≡ true) → list_any (λ (p : Peer). p.name == x) (if b then peers_by c n ps else record { name = q.name; is_server = q.is_server; part = keys_of c n q.name } ∷ peers_by c n ps) ≡ true
      go true e (inl f) rest = let yes_same : (x == n) ≡ true = eq-eqb x n (f ∙ eqb-true q.name n e) in absurd (cc)
      go true e (inr j) rest = rest j
      go false e (inl f) rest = or_first (q.name == x) (list_any (λ (p : Peer). p.name == x) (peers_by c n ps)) (eq-eqb q.name x (sym f))
      go false e (inr j) rest = or_second (q.name == x) (list_any (λ (p : Peer). p.name == x) (peers_by c n ps)) (rest j)

  peer_serves : (ps : List Party) (x : ℕ) → (x == n) ≡ false → Among x (map (λ (p : Party). p.name) ps) → server_by (peers_by c n ps) x ≡ (party_by ps x).is_server
  peer_serves [] x d i = elim i [ ]
  peer_serves (q ∷ ps) x d i = go (q.name == n) refl (q.name == x) refl i (peer_serves ps x d)
    where
      go : (b : Bool) → (q.name == n) ≡ b → (a : Bool) → (q.name == x) ≡ a → (x ≡ q.name) ⊎ Among x (map (λ (p : Party). p.name) ps) → (Among x (map (λ (p : Party). p.name) ps) → server_by (peers_by c n ps) x ≡ (party_by ps x).is_server) → server_by (if b then peers_by c n ps else record { name = q.name; is_server = q.is_server; part = keys_of c n q.name } ∷ peers_by c n ps) x ≡ (if a then q else party_by ps x).is_server
      go true e true f j rest = let yes_same : (x == n) ≡ true = eq-eqb x n (sym (eqb-true q.name x f) ∙ eqb-true q.name n e) in absurd (cc)
      go true e false f (inl g) rest = let yes_same : (q.name == x) ≡ true = eq-eqb q.name x (sym g) in absurd (cc)
      go true e false f (inr j) rest = rest j
      go false e true f j rest = ap (λ (b : Bool). if b then q.is_server else server_by (peers_by c n ps) x) f
      go false e false f (inl g) rest = let yes_same : (q.name == x) ≡ true = eq-eqb q.name x (sym g) in absurd (cc)
      go false e false f (inr j) rest = ap (λ (b : Bool). if b then q.is_server else server_by (peers_by c n ps) x) f ∙ rest j

-- by the first peer of that name
served_by : (Good : ℕ → Bool) (ps : List Peer) (x : ℕ) → ((p : Peer) → Among p ps → p.is_server ≡ Good p.name) → list_any (λ (p : Peer). p.name == x) ps ≡ true → server_by ps x ≡ Good x
served_by Good [] x all h = absurd (cc)
served_by Good (p ∷ ps) x all h = go (p.name == x) refl h (served_by Good ps x (λ q i. all q (inr i)))
  where
    go : (b : Bool) → (p.name == x) ≡ b → (b || list_any (λ (p : Peer). p.name == x) ps) ≡ true → (list_any (λ (p : Peer). p.name == x) ps ≡ true → server_by ps x ≡ Good x) → (if b then p.is_server else server_by ps x) ≡ Good x
    go true e f rest = all p (inl refl) ∙ ap Good (eqb-true p.name x e)
    go false e f rest = rest f

part_from : (c : Config) (n : ℕ) (ps : List Peer) → ((p : Peer) (x : Bytes) → Among p ps → p.part ≡ Some x → keys_of c n p.name ≡ Some x) → (y : ℕ) (x : Bytes) → part_by ps y ≡ Some x → keys_of c n y ≡ Some x
part_from c n [] all y x e = absurd (cc)
part_from c n (p ∷ ps) all y x e = go (p.name == y) refl e (part_from c n ps (λ q z i. all q z (inr i)) y x)
  where
    go : (b : Bool) → (p.name == y) ≡ b → (if b then p.part else part_by ps y) ≡ Some x → (part_by ps y ≡ Some x → keys_of c n y ≡ Some x) → keys_of c n y ≡ Some x
    go true f g rest = subst (λ (z : ℕ). keys_of c n z ≡ Some x) (eqb-true p.name y f) (all p x (inl refl) g)
    go false f g rest = rest g

module _ (c : Config) (lawful : IsLawful c) (n : ℕ) (ring : Ring) (of : IsRingOf c n ring) where
  named : (x : ℕ) → list_any (λ (p : Peer). p.name == x) ring.peers ≡ true → Among x (names_in c)
  named x h = let p = some_among (λ (p : Peer). p.name == x) ring.peers h in subst (λ (y : ℕ). Among y (names_in c)) (eqb-true p.0.name x p.2) (of.peers p.0 p.1).0

  -- a known name is its own, or that of a peer
  known_case : (x : ℕ) → knows ring x ≡ true → (x ≡ n) ⊎ (list_any (λ (p : Peer). p.name == x) ring.peers ≡ true)
  known_case x h = go (or_cases (x == ring.me) (list_any (λ (p : Peer). p.name == x) ring.peers) h)
    where
      go : ((x == ring.me) ≡ true) ⊎ (list_any (λ (p : Peer). p.name == x) ring.peers ≡ true) → (x ≡ n) ⊎ (list_any (λ (p : Peer). p.name == x) ring.peers ≡ true)
      go (inl e) = inl (eqb-true x ring.me e ∙ of.me)
      go (inr e) = inr e

  pub ring_like : RingLike ring (ring_of c n)
  ring_like = record { me = sym of.me; kind = sym of.kind; window = sym of.window; known = λ x h. known (x == n) x refl (known_case x h); serving = λ x h. serving (x == n) x refl (known_case x h); keys = keys }
    where
      known : (b : Bool) (x : ℕ) → (x == n) ≡ b → (x ≡ n) ⊎ (list_any (λ (p : Peer). p.name == x) ring.peers ≡ true) → ((x == n) || list_any (λ (p : Peer). p.name == x) (peers_by c n c.parties)) ≡ true
      known true x e k = or_first (x == n) (list_any (λ (p : Peer). p.name == x) (peers_by c n c.parties)) e
      known false x e (inl f) = let yes_same : (x == n) ≡ true = eq-eqb x n f in absurd (cc)
      known false x e (inr f) = or_second (x == n) (list_any (λ (p : Peer). p.name == x) (peers_by c n c.parties)) (peer_there c n c.parties x e (named x f))

      mine : (x : ℕ) → (x == n) ≡ true → serves ring x ≡ ring.is_server
      mine x e = ap (λ (b : Bool). if b then ring.is_server else server_by ring.peers x) (subst (λ (m : ℕ). (x == m) ≡ true) (sym of.me) e)

      others : (x : ℕ) → (x == n) ≡ false → serves ring x ≡ server_by ring.peers x
      others x e = ap (λ (b : Bool). if b then ring.is_server else server_by ring.peers x) (subst (λ (m : ℕ). (x == m) ≡ false) (sym of.me) e)

      serving : (b : Bool) (x : ℕ) → (x == n) ≡ b → (x ≡ n) ⊎ (list_any (λ (p : Peer). p.name == x) ring.peers ≡ true) → serves (ring_of c n) x ≡ serves ring x
      serving true x e k = ap (λ (b : Bool). if b then (party_by c.parties n).is_server else server_by (peers_by c n c.parties) x) e ∙ (sym of.is_server ∙ sym (mine x e))
      serving false x e (inl f) = let yes_same : (x == n) ≡ true = eq-eqb x n f in absurd (cc)
      serving false x e (inr f) =
          ap (λ (b : Bool). if b then (party_by c.parties n).is_server else server_by (peers_by c n c.parties) x) e
          ∙ (peer_serves c n c.parties x e (named x f) ∙ sym (others x e ∙ served_by (λ (y : ℕ). (party_by c.parties y).is_server) ring.peers x (λ p i. (of.peers p i).1) f))

      full : (z : ℕ) (p : Bytes) → part_by ring.peers z ≡ Some p → part_by (peers_by c n c.parties) z ≡ Some p
      full z p e = peer_key c lawful n z ∙ part_from c n ring.peers of.parts z p e

      keys : (x y : ℕ) (p : Bytes) → keys_in ring x y ≡ Some p → keys_in (ring_of c n) x y ≡ Some p
      keys x y p e = go (x == n) (y == n) (subst (λ (m : ℕ). (if x == m then part_by ring.peers y else if y == m then part_by ring.peers x else None) ≡ Some p) of.me e)
        where
          go : (a b : Bool) → (if a then part_by ring.peers y else if b then part_by ring.peers x else None) ≡ Some p → (if a then part_by (peers_by c n c.parties) y else if b then part_by (peers_by c n c.parties) x else None) ≡ Some p
          go true b f = full y p f
          go false true f = full x p f
          go false false f = absurd (cc)

-- the ring has the keys that the head's role uses
abbrev pub IsKeyed : Ring → Head → Type 0
IsKeyed ring h = (x y : Role) → Among {X = Role × Role} (x, y) (pairs_of h.mech) → uses h.role (x, y) ≡ true → (p : Bytes) × (keys_in ring (name_of h x) (name_of h y) ≡ Some p)

abbrev AllKeyed : Ring → Runs → Type 0
AllKeyed ring runs = (m : ℕ) (s : Standing) → runs m ≡ Some s → IsKeyed ring s.run.head

put_keyed : (ring : Ring) (k : ℕ) (s : Standing) (runs : Runs) → IsKeyed ring s.run.head → AllKeyed ring runs → AllKeyed ring (put k s runs)
put_keyed ring k s runs ok all m t e = go (k == m) e
  where
    go : (b : Bool) → (if b then Some s else runs m) ≡ Some t → IsKeyed ring t.run.head
    go true f = let same : s ≡ t = cc in subst (λ (x : Standing). IsKeyed ring x.run.head) same ok
    go false f = all m t f

ended_keyed : (ring : Ring) (o : Option Standing) → ((s : Standing) → o ≡ Some s → IsKeyed ring s.run.head) → (t : Standing) → ended o ≡ Some t → IsKeyed ring t.run.head
ended_keyed ring None all t e = absurd (cc)
ended_keyed ring (Some s) all t e = let same : record s { is_open = false } ≡ t = cc in subst (λ (x : Standing). IsKeyed ring x.run.head) same (all s refl)

pub runs_are_keyed : (opens : Sealer) (first : Node) → AllKeyed first.ring first.runs → (log : Log) → IsLegal opens first log → AllKeyed first.ring (node_after first log).runs
runs_are_keyed opens first start [] legal = start
runs_are_keyed opens first start (Open run head texts ∷ log) legal =
    put_keyed first.ring run (record { run = opened_run head texts; is_open = true }) (node_after first log).runs (subst (λ (r : Ring). IsKeyed r head) (rings_stay first log) legal.1.0.may.keyed) (runs_are_keyed opens first start log legal.0)
runs_are_keyed opens first start (Issue now x ∷ log) legal = runs_are_keyed opens first start log legal.0
runs_are_keyed opens first start (Commit run now step ∷ log) legal =
    put_keyed first.ring run (record { run = step.after; is_open = is_going step.outcome }) (node_after first log).runs
    (subst (IsKeyed first.ring) (sym legal.1.0.is_step.same_head) (runs_are_keyed opens first start log legal.0 run (record { run = step.before; is_open = true }) legal.1.0.is_open))
    (runs_are_keyed opens first start log legal.0)
runs_are_keyed opens first start (Drop run ∷ log) legal = λ m t e. go (run == m) m t (runs_are_keyed opens first start log legal.0) e
  where
    go : (b : Bool) (m : ℕ) (t : Standing) → AllKeyed first.ring (node_after first log).runs → (if b then ended ((node_after first log).runs m) else (node_after first log).runs m) ≡ Some t → IsKeyed first.ring t.run.head
    go true m t all e = ended_keyed first.ring ((node_after first log).runs m) (λ s f. all m s f) t e
    go false m t all e = all m t e
runs_are_keyed opens first start (Restart now last more ∷ log) legal = λ m t e. ended_keyed first.ring ((node_after first log).runs m) (λ s f. runs_are_keyed opens first start log legal.0 m s f) t e

-- a step is the same with the keys of a ring that has more
module _ (opens : Sealer) (j k : Keys) (h : Head) (notes : Notes) (knows_it : Cover → Bool) where
  items_more : (cs : List Cover) (us : List Tree) → ((d : Cover) → Among d cs → knows_it d ≡ true → key_under j h notes d.under ≡ key_under k h notes d.under) → ItemsAre opens j h notes knows_it cs us → ItemsAre opens k h notes knows_it cs us
  items_more [] us f e = e
  items_more (d ∷ cs) [] f e = elim e [ ]
  items_more (d ∷ cs) (u ∷ us) f e = (go (knows_it d) refl e.0, items_more cs us (λ x i. f x (inr i)) e.1)
    where
      go : (b : Bool) → knows_it d ≡ b → ItemBy b opens j h notes d u → ItemBy b opens k h notes d u
      go true g is = subst (λ (x : Key). opens d.is_check x u (body h notes d)) (f d (inl refl) g) is
      go false g is = is

  openings_more : (cs : List Cover) (us : List Tree) → ((d : Cover) → Among d cs → knows_it d ≡ true → key_under j h notes d.under ≡ key_under k h notes d.under) → openings j h notes knows_it cs us ≡ openings k h notes knows_it cs us
  openings_more [] us f = refl
  openings_more (d ∷ cs) [] f = refl
  openings_more (d ∷ cs) (u ∷ us) f = go (knows_it d) refl (openings_more cs us (λ x i. f x (inr i)))
    where
      go : (b : Bool) → knows_it d ≡ b → openings j h notes knows_it cs us ≡ openings k h notes knows_it cs us → (if b then record { key = key_under j h notes d.under; item = u; body = body h notes d } ∷ openings j h notes knows_it cs us else openings j h notes knows_it cs us) ≡ (if b then record { key = key_under k h notes d.under; item = u; body = body h notes d } ∷ openings k h notes knows_it cs us else openings k h notes knows_it cs us)
      go true g e = λ i. record { key = f d (inl refl) g i; item = u; body = body h notes d } ∷ e i
      go false g e = e

module _ (old new : Ring) (like : RingLike old new) (h : Head) (keyed : IsKeyed old h) where
  key_more : (notes : Notes) (i : ℕ) (p : Pass) → nth (row_of h.mech) i ≡ Some p → (d : Cover) → Among d p.covers → is_party h.role d.under ≡ true → key_under (keys_in old) h notes d.under ≡ key_under (keys_in new) h notes d.under
  key_more notes i p at d there party = go d.under refl party
    where
      go : (u : Under) → d.under ≡ u → is_party h.role u ≡ true → key_under (keys_in old) h notes u ≡ key_under (keys_in new) h notes u
      go Drawn e f = refl
      go (Pair x y) e f =
          let q = keyed x y (pair_is_of_row h.mech i p at d there x y e) f in
          ap (λ (o : Option Bytes). One (bytes_or_empty o)) (q.1 ∙ sym (like.keys (name_of h x) (name_of h y) q.0 q.1))

pub step_more : (opens : Sealer) (old new : Ring) → RingLike old new → (step : Step) → IsKeyed old step.before.head → IsStep opens (keys_in old) step → IsStep opens (keys_in new) step
step_more opens old new like step keyed is =
    record { same_head = is.same_head; acts = is.acts; takes = takes step.taken is.takes; replies = replies step.reply is.replies; moves = is.moves; issues = is.issues; outcome = is.outcome }
  where
    takes : (o : Option Tree) → Takes opens (keys_in old) step.before o step.middle step.opened step.got → Takes opens (keys_in new) step.before o step.middle step.opened step.got
    takes None t = t
    takes (Some t) fits = record {
      pass = fits.pass;
      at = fits.at;
      received = fits.received;
      extends = fits.extends;
      shows = record { items = fits.shows.items; is = fits.shows.is; each = items_more opens (keys_in old) (keys_in new) step.before.head step.middle seen fits.pass.covers fits.shows.items same fits.shows.each };
      opens_are = fits.opens_are ∙ openings_more opens (keys_in old) (keys_in new) step.before.head step.middle seen fits.pass.covers fits.shows.items same;
      got_is = fits.got_is;
    }
      where
        same : (d : Cover) → Among d fits.pass.covers → seen d ≡ true → key_under (keys_in old) step.before.head step.middle d.under ≡ key_under (keys_in new) step.before.head step.middle d.under
        same d i e = key_more old new like step.before.head keyed step.middle step.before.next fits.pass fits.at d i (subst (λ (r : Role). is_party r d.under ≡ true) fits.received ((party_from step.before.head.mech step.before.next fits.pass d fits.at i).1 e))

    replies : (o : Option Tree) → Replies opens (keys_in old) step.before.head (reply_pass step) step.middle step.after.notes o step.sealed → Replies opens (keys_in new) step.before.head (reply_pass step) step.middle step.after.notes o step.sealed
    replies None r = r
    replies (Some t) sends = record {
      pass = sends.pass;
      at = sends.at;
      sent = sends.sent;
      extends = sends.extends;
      shows = record { items = sends.shows.items; is = sends.shows.is; each = items_more opens (keys_in old) (keys_in new) step.before.head step.after.notes made sends.pass.covers sends.shows.items same sends.shows.each };
      seals_are = sends.seals_are ∙ openings_more opens (keys_in old) (keys_in new) step.before.head step.after.notes made sends.pass.covers sends.shows.items same;
    }
      where
        same : (d : Cover) → Among d sends.pass.covers → made d ≡ true → key_under (keys_in old) step.before.head step.after.notes d.under ≡ key_under (keys_in new) step.before.head step.after.notes d.under
        same d i e = key_more old new like step.before.head keyed step.after.notes (reply_pass step) sends.pass sends.at d i (subst (λ (r : Role). is_party r d.under ≡ true) sends.sent ((party_from step.before.head.mech (reply_pass step) sends.pass d sends.at i).0 e))
