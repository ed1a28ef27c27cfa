-- An item that a run opened or tested under a good key was made by its peer, whose notes agree with it in that item's slots.
use Rattle.std.proofs.Common.{◌≡◌, ℕ, ◌<◌, List, [], ◌∷◌, ◌++◌, map, Bool, true, false, not, ◌&&◌, ◌||◌, if◌then◌else◌, refl, sym, ap, subst, subst₂, ◌∙◌, inl, inr, Some}
use Rattle.std.specs.List.{list_all}
use Rattle.term_values.specs.Trees.{Among, Tree, seal, check, Bytes}
use Rattle.term_values.specs.declared.small.Key.{Key}
use Rattle.term_values.specs.SameBytes.{same_bytes}
use Rattle.attacker_model.specs.Derivation.{Derivable, IsGoodKey}
use Rattle.mech_rows.specs.declared.kinds.Mech.{Mech}
use Rattle.mech_rows.specs.declared.kinds.Role.{Role}
use Rattle.mech_rows.specs.Rows.{Cover, Pass, row_of, has_third, pairs_of}
use Rattle.mech_rows.specs.declared.kinds.Role.TheVariants.{A, B, P}
use Rattle.mech_rows.specs.Facts.{same_role, maker}
use Rattle.mech_rows.specs.Runs.{Run, value, key_under, names, body, nth, Step, reply_pass}
use Rattle.mech_rows.specs.Heads.{Head, name_of}
use Rattle.agreement_laws.specs.Configs.{Config, keys_of, IsLawful, IsGoodHead, IsGoodLong}
use Rattle.agreement_laws.specs.Traces.{Happening, Steps, current, known_before, IsGoodPart, WasSealed, RunId}
use Rattle.mech_rows.proofs.Facts.{peers_make_items_holds}
use Rattle.agreement_laws.proofs.Traces.{IsTrace}
use Rattle.term_values.proofs.Lists.{all_among, implied, and_both}
use Rattle.mech_rows.proofs.RowUse.{nth_among, among_covers, same_role_is}
use Rattle.agreement_laws.proofs.Held.{held}
use Rattle.agreement_laws.proofs.Secrecy.{seal_origin, check_origin}
use Rattle.term_values.proofs.SameBytes.{same_bytes_refl}
use Rattle.mech_rows.proofs.Items.{one_body, same_item, SameParts, same_parts}

-- what the pairs of a row show of two heads of one mechanism with the same names
pub same_names : (h g : Head) → h.a ≡ g.a → h.b ≡ g.b → (has_third h.mech ≡ true → name_of h P ≡ name_of g P) → (third : Bool) → has_third h.mech ≡ third → (x y : Role) → Among {X = Role × Role} (x, y) (if third then (A, P) ∷ (B, P) ∷ [] else (A, B) ∷ []) → (name_of h x ≡ name_of g x) × (name_of h y ≡ name_of g y)
same_names h g ea eb ep true t x y (inl e) = (subst (λ z. name_of h z ≡ name_of g z) (sym (ap (λ (q : Role × Role). q.0) e)) ea, subst (λ z. name_of h z ≡ name_of g z) (sym (ap (λ (q : Role × Role). q.1) e)) (ep t))
same_names h g ea eb ep true t x y (inr (inl e)) = (subst (λ z. name_of h z ≡ name_of g z) (sym (ap (λ (q : Role × Role). q.0) e)) eb, subst (λ z. name_of h z ≡ name_of g z) (sym (ap (λ (q : Role × Role). q.1) e)) (ep t))
same_names h g ea eb ep true t x y (inr (inr i)) = elim i [ ]
same_names h g ea eb ep false t x y (inl e) = (subst (λ z. name_of h z ≡ name_of g z) (sym (ap (λ (q : Role × Role). q.0) e)) ea, subst (λ z. name_of h z ≡ name_of g z) (sym (ap (λ (q : Role × Role). q.1) e)) eb)
same_names h g ea eb ep false t x y (inr i) = elim i [ ]

pub same_good : (c : Config) (h g : Head) → h.mech ≡ g.mech → h.a ≡ g.a → h.b ≡ g.b → (has_third h.mech ≡ true → name_of h P ≡ name_of g P) → IsGoodHead c h → IsGoodHead c g
same_good c h g e ea eb ep good x y i =
    let j = subst (λ m. Among {X = Role × Role} (x, y) (pairs_of m)) (sym e) i in
    let n = same_names h g ea eb ep (has_third h.mech) refl x y j in
    subst₂ (λ (u v : ℕ). (p : Bytes) × (keys_of c u v ≡ Some p) × IsGoodLong c p) n.0 n.1 (good x y j)

-- the item under a good key that a run opened, and the step that made it
pub record PeerMade (c : Config) (h : List Happening) (run : Run) (r : Role) (d : Cover) : Type 0 where
  pub id : RunId
  pub step : Step
  pub there : Among (Steps id step) h
  pub pass : Pass
  pub at : nth (row_of step.before.head.mech) (reply_pass step) ≡ Some pass
  pub sent : pass.from ≡ step.before.head.role
  pub cover : Cover
  pub inside : Among cover pass.covers
  pub is_made : cover.made ≡ true
  pub tags : d.tagged ≡ cover.tagged
  pub mech : run.head.mech ≡ step.before.head.mech
  pub slots : d.slots ≡ cover.slots
  pub under : d.under ≡ cover.under
  pub one_key : key_under (keys_of c) run.head run.notes d.under ≡ key_under (keys_of c) step.before.head step.after.notes cover.under
  pub parts : SameParts run.head step.before.head run.notes step.after.notes d.slots
  pub role : step.before.head.role ≡ maker r d.under

was_sealed : (c : Config) → IsLawful c → (h : List Happening) → IsTrace c h → (x : Bool) (k : Key) (t : Tree) → IsGoodKey (IsGoodPart c h) k → Derivable (known_before c h) (if x then check k t else seal k t) → WasSealed c h (if x then check k t else seal k t)
was_sealed c lawful h w true k t good d = check_origin c lawful h w k t good d
was_sealed c lawful h w false k t good d = seal_origin c lawful h w k t good d

-- by the fact peers_make_items
made_by : (m : Mech) (j k : ℕ) (p q : Pass) (d e : Cover) → nth (row_of m) j ≡ Some p → nth (row_of m) k ≡ Some q → Among d p.covers → d.seen ≡ true → Among e q.covers → e.made ≡ true → d.tagged ≡ e.tagged → q.from ≡ maker p.to d.under
made_by m j k p q d e at to i seen l made tags =
    let one = all_among (λ (p : Pass). list_all (λ c. not c.seen || list_all (λ q. list_all (λ d. not (d.made && same_bytes c.tagged d.tagged) || same_role q.from (maker p.to c.under)) q.covers) (row_of m)) p.covers) (row_of m) (peers_make_items_holds m) p (nth_among (row_of m) j p at) in
    let two = implied _ _ (all_among (λ (c : Cover). not c.seen || list_all (λ q. list_all (λ d. not (d.made && same_bytes c.tagged d.tagged) || same_role q.from (maker p.to c.under)) q.covers) (row_of m)) p.covers one d i) seen in
    let three = all_among (λ (q : Pass). list_all (λ e. not (e.made && same_bytes d.tagged e.tagged) || same_role q.from (maker p.to d.under)) q.covers) (row_of m) two q (nth_among (row_of m) k q to) in
    let four = all_among (λ (e : Cover). not (e.made && same_bytes d.tagged e.tagged) || same_role q.from (maker p.to d.under)) q.covers three e l in
    same_role_is q.from (maker p.to d.under) (implied _ _ four (and_both _ _ made (subst (λ t. same_bytes d.tagged t ≡ true) tags (same_bytes_refl d.tagged))))

pub peer_made : (c : Config) → IsLawful c → (h : List Happening) → IsTrace c h → (id : RunId) (run : Run) → current h id ≡ Some run → (j : ℕ) (p : Pass) (d : Cover) → j < run.next → nth (row_of run.head.mech) j ≡ Some p → p.to ≡ run.head.role → Among d p.covers → d.seen ≡ true → IsGoodKey (IsGoodPart c h) (key_under (keys_of c) run.head run.notes d.under) → PeerMade c h run run.head.role d
peer_made c lawful h w id run is j p d l at to i seen good =
    let made = was_sealed c lawful h w d.is_check (key_under (keys_of c) run.head run.notes d.under) (body run.head run.notes d) good ((held c h w id run is).got j p d l at to i seen) in
    let same = same_item (keys_of c) run.head made.step.before.head run.notes made.step.after.notes d made.seals.cover made.seals.is in
    let one = one_body run.head.mech made.step.before.head.mech d made.seals.cover (among_covers (row_of run.head.mech) p d (nth_among (row_of run.head.mech) j p at) i) (among_covers (row_of made.step.before.head.mech) made.seals.pass made.seals.cover (nth_among (row_of made.step.before.head.mech) (reply_pass made.step) made.seals.pass made.seals.at) made.seals.there) same.tags in
    record {
      id = made.id;
      step = made.step;
      there = made.there;
      pass = made.seals.pass;
      at = made.seals.at;
      sent = made.seals.sent;
      cover = made.seals.cover;
      inside = made.seals.there;
      is_made = made.seals.is_made;
      tags = same.tags;
      mech = one.mech;
      slots = one.slots;
      under = one.under;
      one_key = same.one_key;
      parts = same_parts run.head made.step.before.head run.notes made.step.after.notes d.slots one.mech (subst (λ ss. names run.head ++ map (value run.notes) d.slots ≡ names made.step.before.head ++ map (value made.step.after.notes) ss) (sym one.slots) same.rest);
      role = sym made.seals.sent ∙ (made_by run.head.mech j (reply_pass made.step) p made.seals.pass d made.seals.cover at (subst (λ m. nth (row_of m) (reply_pass made.step) ≡ Some made.seals.pass) (sym one.mech) made.seals.at) i seen made.seals.there made.seals.is_made same.tags ∙ ap (λ r. maker r d.under) to);
    }
