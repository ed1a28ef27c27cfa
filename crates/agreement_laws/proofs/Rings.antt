-- A party's ring has the keys of the configuration for its own pairs, so its steps are steps under the configuration's keys.
use Rattle.std.proofs.Common.{◌≡◌, ◌≢◌, ℕ, suc, ◌==◌, ◌⊎◌, List, [], ◌∷◌, ◌++◌, map, Bool, true, false, not, ◌&&◌, ◌||◌, if◌then◌else◌, refl, sym, ap, ap₂, subst, ◌∙◌, inl, inr, Option, Some, None, eqb-true, eq-eqb}
use Rattle.std.specs.List.{list_all}
use Rattle.term_values.specs.Trees.{Among, Bytes, Tree, tag, tuple, seal, check, trees}
use Rattle.term_values.specs.declared.small.Key.{Key}
use Rattle.term_values.specs.declared.small.Key.TheVariants.{One}
use Rattle.mech_rows.specs.declared.kinds.Mech.{Mech}
use Rattle.mech_rows.specs.declared.kinds.Role.{Role}
use Rattle.mech_rows.specs.declared.kinds.Slot.TheVariants.{Fwd}
use Rattle.mech_rows.specs.declared.kinds.Under.{Under}
use Rattle.mech_rows.specs.declared.kinds.Under.TheVariants.{Pair, Drawn}
use Rattle.mech_rows.specs.Rows.{Cover, Pass, tag_of, row_of}
use Rattle.mech_rows.specs.Facts.{same_role, is_party}
use Rattle.mech_rows.specs.Heads.{Head, name_of, me}
use Rattle.mech_rows.specs.Runs.{Notes, value, bytes_or_empty, key_under, body, protected, clear_item, made, seen, nth, Step, reply_pass}
use Rattle.mech_rows.specs.Steps.{symbolic, ItemBy, ItemsAre, IsMessage, Takes, Replies, IsStep}
use Rattle.agreement_laws.specs.Configs.{Party, LongTerm, Config, is_of, part_among, keys_of, names_in, IsLawful}
use Rattle.mech_rows.specs.Rings.{keys_in, part_by}
use Rattle.agreement_laws.specs.Worlds.{peers_by, ring_of}
use Rattle.mech_rows.proofs.Facts.{pairs_are_of_parties_holds}
use Rattle.mech_rows.specs.Says.{item_as, message}
use Rattle.mech_rows.proofs.Symbolic.{SymbolicTakes, SymbolicReplies, IsSymbolicStep}
use Rattle.term_values.proofs.Lists.{all_among, and_left, and_right, or_cases, implied}
use Rattle.mech_rows.proofs.RowUse.{nth_among, same_role_is}

-- a key is the same in either order
or_swaps : (a b : Bool) → (a || b) ≡ (b || a)
or_swaps true true = refl
or_swaps true false = refl
or_swaps false true = refl
or_swaps false false = refl

keys_swap : (ls : List LongTerm) (x y : ℕ) → part_among ls x y ≡ part_among ls y x
keys_swap [] x y = refl
keys_swap (l ∷ ls) x y = ap₂ (λ (b : Bool) (o : Option Bytes). if b then Some l.part else o) (or_swaps ((l.x == x) && (l.y == y)) ((l.x == y) && (l.y == x))) (keys_swap ls x y)

-- who has a key is declared, and has it with another
found_pair : (ls : List LongTerm) (x y : ℕ) (p : Bytes) → part_among ls x y ≡ Some p → (l : LongTerm) × Among l ls × (is_of x y l ≡ true)
found_pair [] x y p e = absurd (cc)
found_pair (l ∷ ls) x y p e = go (is_of x y l) refl e (λ f. found_pair ls x y p f)
  where
    go : (b : Bool) → is_of x y l ≡ b → (if b then Some l.part else part_among ls x y) ≡ Some p → (part_among ls x y ≡ Some p → (m : LongTerm) × Among m ls × (is_of x y m ≡ true)) → (m : LongTerm) × Among m (l ∷ ls) × (is_of x y m ≡ true)
    go true e f rest = (l, inl refl, e)
    go false e f rest = let m = rest f in (m.0, inr m.1, m.2)

of_both : (x y : ℕ) (l : LongTerm) → is_of x y l ≡ true → ((l.x ≡ x) × (l.y ≡ y)) ⊎ ((l.x ≡ y) × (l.y ≡ x))
of_both x y l e = go (or_cases ((l.x == x) && (l.y == y)) ((l.x == y) && (l.y == x)) e)
  where
    go : (((l.x == x) && (l.y == y)) ≡ true) ⊎ (((l.x == y) && (l.y == x)) ≡ true) → ((l.x ≡ x) × (l.y ≡ y)) ⊎ ((l.x ≡ y) × (l.y ≡ x))
    go (inl f) = inl (eqb-true l.x x (and_left (l.x == x) (l.y == y) f), eqb-true l.y y (and_right (l.x == x) (l.y == y) f))
    go (inr f) = inr (eqb-true l.x y (and_left (l.x == y) (l.y == x) f), eqb-true l.y x (and_right (l.x == y) (l.y == x) f))

has_key : (c : Config) → IsLawful c → (x y : ℕ) (p : Bytes) → keys_of c x y ≡ Some p → Among y (names_in c) × (x ≢ y)
has_key c lawful x y p e = go (of_both x y l.0 l.2)
  where
    l : (l : LongTerm) × Among l c.pairs × (is_of x y l ≡ true)
    l = found_pair c.pairs x y p e

    d : Among l.0.x (names_in c) × Among l.0.y (names_in c) × (l.0.x ≢ l.0.y)
    d = lawful.declared l.0 l.1

    go : ((l.0.x ≡ x) × (l.0.y ≡ y)) ⊎ ((l.0.x ≡ y) × (l.0.y ≡ x)) → Among y (names_in c) × (x ≢ y)
    go (inl f) = (subst (λ (n : ℕ). Among n (names_in c)) f.1 d.1, λ same. d.2 (f.0 ∙ (same ∙ sym f.1)))
    go (inr f) = (subst (λ (n : ℕ). Among n (names_in c)) f.0 d.0, λ same. d.2 (f.0 ∙ (sym same ∙ sym f.1)))

module _ (c : Config) (n : ℕ) where
  -- the ring's part of a peer is that of the configuration
  from_ring : (ps : List Party) (y : ℕ) (p : Bytes) → part_by (peers_by c n ps) y ≡ Some p → keys_of c n y ≡ Some p
  from_ring [] y p e = absurd (cc)
  from_ring (q ∷ ps) y p e = go (q.name == n) e (λ f. from_ring ps y p f)
    where
      here : (b : Bool) → (q.name == y) ≡ b → (if b then keys_of c n q.name else part_by (peers_by c n ps) y) ≡ Some p → (part_by (peers_by c n ps) y ≡ Some p → keys_of c n y ≡ Some p) → keys_of c n y ≡ Some p
      here true f g rest = subst (λ (z : ℕ). keys_of c n z ≡ Some p) (eqb-true q.name y f) g
      here false f g rest = rest g

      go : (b : Bool) → part_by (if b then peers_by c n ps else record { name = q.name; is_server = q.is_server; part = keys_of c n q.name } ∷ peers_by c n ps) y ≡ Some p → (part_by (peers_by c n ps) y ≡ Some p → keys_of c n y ≡ Some p) → keys_of c n y ≡ Some p
      go true f rest = rest f
      go false f rest = here (q.name == y) refl f rest

  to_ring : (ps : List Party) (y : ℕ) (p : Bytes) → n ≢ y → Among y (map (λ (q : Party). q.name) ps) → keys_of c n y ≡ Some p → part_by (peers_by c n ps) y ≡ Some p
  to_ring [] y p differ i e = elim i [ ]
  to_ring (q ∷ ps) y p differ i e = go (q.name == n) refl i (λ j. to_ring ps y p differ j e)
    where
      here : (b : Bool) → (q.name == y) ≡ b → (y ≡ q.name) ⊎ Among y (map (λ (q : Party). q.name) ps) → (Among y (map (λ (q : Party). q.name) ps) → part_by (peers_by c n ps) y ≡ Some p) → (if b then keys_of c n q.name else part_by (peers_by c n ps) y) ≡ Some p
      here true f j rest = subst (λ (z : ℕ). keys_of c n z ≡ Some p) (sym (eqb-true q.name y f)) e
      here false f (inl g) rest = let yes_same : (q.name == y) ≡ true = eq-eqb q.name y (sym g) in absurd (cc)
      here false f (inr j) rest = rest j

      go : (b : Bool) → (q.name == n) ≡ b → (y ≡ q.name) ⊎ Among y (map (λ (q : Party). q.name) ps) → (Among y (map (λ (q : Party). q.name) ps) → part_by (peers_by c n ps) y ≡ Some p) → part_by (if b then peers_by c n ps else record { name = q.name; is_server = q.is_server; part = keys_of c n q.name } ∷ peers_by c n ps) y ≡ Some p
      go true f (inl g) rest = absurd (differ (sym (eqb-true q.name n f) ∙ sym g))
      go true f (inr j) rest = rest j
      go false f j rest = here (q.name == y) refl j rest

both_ways : (o r : Option Bytes) → ((p : Bytes) → o ≡ Some p → r ≡ Some p) → ((p : Bytes) → r ≡ Some p → o ≡ Some p) → o ≡ r
both_ways (Some p) r f g = sym (f p refl)
both_ways None (Some p) f g = g p refl
both_ways None None f g = refl

pub peer_key : (c : Config) → IsLawful c → (n y : ℕ) → part_by (peers_by c n c.parties) y ≡ keys_of c n y
peer_key c lawful n y = both_ways (part_by (peers_by c n c.parties) y) (keys_of c n y) (from_ring c n c.parties y) (λ p e. let k = has_key c lawful n y p e in to_ring c n c.parties y p k.1 k.0 e)

pub ring_key : (c : Config) → IsLawful c → (n x y : ℕ) → (x ≡ n) ⊎ (y ≡ n) → keys_in (ring_of c n) x y ≡ keys_of c x y
ring_key c lawful n x y side = go (x == n) refl side
  where
    second : (b : Bool) → (y == n) ≡ b → (y ≡ n) → (if b then part_by (peers_by c n c.parties) x else None) ≡ keys_of c x y
    second true e f = peer_key c lawful n x ∙ (keys_swap c.pairs n x ∙ ap (keys_of c x) (sym f))
    second false e f = let yes_same : (y == n) ≡ true = eq-eqb y n f in absurd (cc)

    go : (b : Bool) → (x == n) ≡ b → (x ≡ n) ⊎ (y ≡ n) → (if b then part_by (peers_by c n c.parties) y else if y == n then part_by (peers_by c n c.parties) x else None) ≡ keys_of c x y
    go true e s = peer_key c lawful n y ∙ ap (λ (z : ℕ). keys_of c z y) (sym (eqb-true x n e))
    go false e (inl f) = let yes_same : (x == n) ≡ true = eq-eqb x n f in absurd (cc)
    go false e (inr f) = second (y == n) refl f

-- by the fact pairs_are_of_parties
pub party_from : (m : Mech) (k : ℕ) (p : Pass) (d : Cover) → nth (row_of m) k ≡ Some p → Among d p.covers → (d.made ≡ true → is_party p.from d.under ≡ true) × (d.seen ≡ true → is_party p.to d.under ≡ true)
party_from m k p d at i = (implied d.made (is_party p.from d.under) (and_left (not d.made || is_party p.from d.under) (not d.seen || is_party p.to d.under) test), implied d.seen (is_party p.to d.under) (and_right (not d.made || is_party p.from d.under) (not d.seen || is_party p.to d.under) test))
  where
    test : ((not d.made || is_party p.from d.under) && (not d.seen || is_party p.to d.under)) ≡ true
    test = all_among (λ (c : Cover). (not c.made || is_party p.from c.under) && (not c.seen || is_party p.to c.under)) p.covers (all_among (λ (p : Pass). list_all (λ (c : Cover). (not c.made || is_party p.from c.under) && (not c.seen || is_party p.to c.under)) p.covers) (row_of m) (pairs_are_of_parties_holds m) p (nth_among (row_of m) k p at)) d i

module _ (c : Config) (lawful : IsLawful c) (n : ℕ) (h : Head) (own : me h ≡ n) where
  pub same_key : (notes : Notes) (u : Under) → is_party h.role u ≡ true → key_under (keys_in (ring_of c n)) h notes u ≡ key_under (keys_of c) h notes u
  same_key notes Drawn e = refl
  same_key notes (Pair x y) e = ap (λ (o : Option Bytes). One (bytes_or_empty o)) (ring_key c lawful n (name_of h x) (name_of h y) (side (or_cases (same_role h.role x) (same_role h.role y) e)))
    where
      side : (same_role h.role x ≡ true) ⊎ (same_role h.role y ≡ true) → (name_of h x ≡ n) ⊎ (name_of h y ≡ n)
      side (inl f) = inl (ap (name_of h) (sym (same_role_is h.role x f)) ∙ own)
      side (inr f) = inr (ap (name_of h) (sym (same_role_is h.role y f)) ∙ own)

  same_items : (notes : Notes) (knows : Cover → Bool) (cs : List Cover) (us : List Tree) → ((d : Cover) → Among d cs → knows d ≡ true → is_party h.role d.under ≡ true) → ItemsAre symbolic (keys_in (ring_of c n)) h notes knows cs us → us ≡ map (item_as (keys_of c) h notes knows) cs
  same_items notes knows [] us f e = e
  same_items notes knows (d ∷ cs) [] f e = elim e [ ]
  same_items notes knows (d ∷ cs) (u ∷ us) f e = ap₂ (λ (x : Tree) (xs : List Tree). x ∷ xs) (go (knows d) refl e.0) (same_items notes knows cs us (λ x i. f x (inr i)) e.1)
    where
      go : (b : Bool) → knows d ≡ b → ItemBy b symbolic (keys_in (ring_of c n)) h notes d u → u ≡ (if b then protected (keys_of c) h notes d else value notes Fwd)
      go true k is = is ∙ ap (λ (x : Key). if d.is_check then check x (body h notes d) else seal x (body h notes d)) (same_key notes d.under (f d (inl refl) k))
      go false k is = is

  same_message : (notes : Notes) (knows : Cover → Bool) (k : ℕ) (p : Pass) (t : Tree) → ((d : Cover) → Among d p.covers → knows d ≡ true → is_party h.role d.under ≡ true) → IsMessage symbolic (keys_in (ring_of c n)) h notes knows k p t → t ≡ message (keys_of c) h notes knows k p
  same_message notes knows k p t f m = m.is ∙ ap (λ (us : List Tree). tuple (trees (tag (tag_of h.mech (suc k) 0) ∷ (map (clear_item h notes) p.clear ++ us)))) (same_items notes knows p.covers m.items f m.each)

-- a step with the party's ring is a step with the configuration's keys
pub ring_step : (c : Config) → IsLawful c → (n : ℕ) (step : Step) → me step.before.head ≡ n → IsStep symbolic (keys_in (ring_of c n)) step → IsSymbolicStep (keys_of c) step
ring_step c lawful n step own is =
    record { same_head = is.same_head; acts = λ e. (is.acts e).1; takes = takes step.taken is.takes; replies = replies step.reply is.replies; moves = is.moves }
  where
    takes : (o : Option Tree) → Takes symbolic (keys_in (ring_of c n)) step.before o step.middle step.opened step.got → SymbolicTakes (keys_of c) step.before o step.middle
    takes None t = t.0
    takes (Some t) fits = record {
      pass = fits.pass;
      at = fits.at;
      received = fits.received;
      extends = fits.extends;
      is = same_message c lawful n step.before.head own step.middle seen step.before.next fits.pass t (λ d i e. subst (λ (r : Role). is_party r d.under ≡ true) fits.received ((party_from step.before.head.mech step.before.next fits.pass d fits.at i).1 e)) fits.shows;
    }

    replies : (o : Option Tree) → Replies symbolic (keys_in (ring_of c n)) step.before.head (reply_pass step) step.middle step.after.notes o step.sealed → SymbolicReplies (keys_of c) step.before.head (reply_pass step) step.middle step.after.notes o
    replies None r = (r.0, r.2)
    replies (Some t) sends = record {
      pass = sends.pass;
      at = sends.at;
      sent = sends.sent;
      extends = sends.extends;
      is = same_message c lawful n step.before.head own step.after.notes made (reply_pass step) sends.pass t (λ d i e. subst (λ (r : Role). is_party r d.under ≡ true) sends.sent ((party_from step.before.head.mech (reply_pass step) sends.pass d sends.at i).0 e)) sends.shows;
    }
