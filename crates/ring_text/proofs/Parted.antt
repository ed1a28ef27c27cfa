-- A key ring and the parts that its reader takes.
use Rattle.std.proofs.Common.{◌≡◌, ℕ, ◌≤◌, ◌==◌, ◌&&◌, not, Bool, true, false, List, [], length, codes, Option, Some, None, Result, Err, option_map, refl, sym, ap, ◌∙◌, subst}
use Rattle.std.specs.Prelude.{option_and_then, nat_le, if◌then◌else◌}
use Rattle.std.specs.List.{list_any}
use Rattle.std.proofs.lemmas.Bool.{and_parts, leb-true, le-leb, not-true}
use Rattle.std.proofs.lemmas.Option.{none-some, same_Some}
use Rattle.serde_json.specs.Data.{Data}
use Rattle.serde_json.specs.Find.{get}
use Rattle.term_values.specs.declared.small.StampKind.{StampKind}
use Rattle.mech_rows.specs.Rings.{Peer, Ring}
use Rattle.text_hooks.specs.declared.rule.Rule.{Rule}
use Rattle.ring_text.specs.Faults.{Gives}
use Rattle.ring_text.specs.KeyRings.{IsKeyRing, KeyRing, PlacedText, all_differ, peer_in, placed_in, ring_members, rule_in, same_key, same_name, same_place}
use Rattle.ring_text.specs.Members.{is_among, listed, needed, optional, said_or}
use Rattle.ring_text.specs.Rings.{are_fit, ring_in, with_peers}
use Rattle.ring_text.specs.Values.{name_in, server_in, stamps_in, window_in}
use Rattle.ring_text.specs.declared.fault.RingFault.{RingFault}
use Rattle.ring_text.specs.declared.fault.RingFault.TheVariants as fault

-- the rules on peers
pub record IsFit (me : ℕ) (peers : List Peer) : Type 0 where
  pub few : length peers ≤ 64
  pub others : list_any (λ p. p.name == me) peers ≡ false
  pub names : all_differ same_name peers ≡ true
  pub keys : all_differ same_key peers ≡ true

fit_of : (me : ℕ) (peers : List Peer) → are_fit me peers ≡ true → IsFit me peers
fit_of me peers e =
    let few = and_parts (nat_le (length peers) 64) _ e in
    let others = and_parts (not (list_any (λ p. p.name == me) peers)) _ few.1 in
    let doubles = and_parts (all_differ same_name peers) (all_differ same_key peers) others.1 in
    record { few = leb-true _ _ few.0; others = not-true _ others.0; names = doubles.0; keys = doubles.1 }

are_fit_of : (me : ℕ) (peers : List Peer) → IsFit me peers → are_fit me peers ≡ true
are_fit_of me peers h = rw (le-leb (length peers) 64 h.few, h.others, h.names, h.keys)

-- what the members of a ring say, one by one
record AreSaid (m : Option ℕ) (s : Option Bool) (t : Option StampKind) (w : Option ℕ) (ps : Option (List Peer)) (r : Ring) : Type 0 where
  pub me : m ≡ Some r.me
  pub kind : s ≡ Some r.is_server
  pub stamps : t ≡ Some r.kind
  pub window : w ≡ Some r.window
  pub peers : ps ≡ Some r.peers
  pub fit : are_fit r.me r.peers ≡ true

chosen : (b : Bool) (q r : Ring) → (if b then Some q else None) ≡ Some r → (b ≡ true) × (q ≡ r)
chosen true q r e = (refl, same_Some q r e)
chosen false q r e = absurd (none-some r e)

said_of : (me : Option ℕ) (s : Option Bool) (k : Option StampKind) (w : Option ℕ) (peers : Option (List Peer)) (r : Ring)
    → option_and_then (λ m. option_and_then (λ s. option_and_then (λ k. option_and_then (λ w. option_and_then (with_peers m s k w) peers) w) k) s) me ≡ Some r
    → AreSaid me s k w peers r
said_of None s k w peers r e = absurd (none-some r e)
said_of (Some m) None k w peers r e = absurd (none-some r e)
said_of (Some m) (Some s) None w peers r e = absurd (none-some r e)
said_of (Some m) (Some s) (Some k) None peers r e = absurd (none-some r e)
said_of (Some m) (Some s) (Some k) (Some w) None r e = absurd (none-some r e)
said_of (Some m) (Some s) (Some k) (Some w) (Some ps) r e =
    let t = chosen (are_fit m ps) (record { me = m; is_server = s; kind = k; window = w; peers = ps }) r e in
    subst (AreSaid (Some m) (Some s) (Some k) (Some w) (Some ps)) t.1 (record { me = refl; kind = refl; stamps = refl; window = refl; peers = refl; fit = t.0 })

-- the parts make the key ring
pub key_ring_of : (d : Data) (r : Ring) (rules : List Rule) (texts : List PlacedText) → is_among ring_members d ≡ true → ring_in d ≡ Some r
    → said_or [] (listed rule_in) (get (codes "allow") d) ≡ Some rules → said_or [] (listed placed_in) (get (codes "texts") d) ≡ Some texts
    → all_differ same_place texts ≡ true → IsKeyRing d (record { ring = r; rules = rules; texts = texts })
unfolding ring_in
key_ring_of d r rules texts members is allow sent places =
    let said = said_of (needed (codes "me") name_in d) (needed (codes "kind") server_in d) (needed (codes "stamps") stamps_in d) (optional (codes "window") 5000 window_in d) (needed (codes "peers") (listed peer_in) d) r is in
    let fit = fit_of r.me r.peers said.fit in
    record {
      members = members;
      me = said.me;
      kind = said.kind;
      stamps = said.stamps;
      window = said.window;
      peers = said.peers;
      few_peers = fit.few;
      others = fit.others;
      names = fit.names;
      keys = fit.keys;
      rules = allow;
      texts = sent;
      places = places;
    }

ring_is : (d : Data) (k : KeyRing) → IsKeyRing d k → ring_in d ≡ Some k.ring
unfolding ring_in
ring_is d k h = rw (h.me, h.kind, h.stamps, h.window, h.peers, are_fit_of k.ring.me k.ring.peers (record { few = h.few_peers; others = h.others; names = h.names; keys = h.keys }))

-- where the members say no node, there is no key ring
pub no_key_ring : (d : Data) (a : Result Ring RingFault) → Gives (λ r. r) a (ring_in d) → a ≡ Err fault.Bad → (k : KeyRing) → IsKeyRing d k → ⊥
no_key_ring d a said bad k h =
    let none : ring_in d ≡ None = subst (λ (x : Result Ring RingFault). Gives (λ r. r) x (ring_in d)) bad said in
    none-some k.ring (sym none ∙ ring_is d k h)
