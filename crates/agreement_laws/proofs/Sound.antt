-- Injectivity and secrecy, and with the partner all three together.
use Rattle.std.proofs.Common.{not, ◌≡◌, ◌⊎◌, List, [], ◌∷◌, ◌++◌, Bool, true, false, if◌then◌else◌, ◌&&◌, refl, sym, ap, subst, ◌∙◌, inl, inr, Option, Some}
use Rattle.std.specs.List.{list_any}
use Rattle.term_values.specs.Trees.{Among, Bytes, Tree, part}
use Rattle.term_values.specs.declared.small.Key.{Key}
use Rattle.mech_rows.specs.declared.kinds.Mech.{Mech}
use Rattle.mech_rows.specs.declared.kinds.Role.{Role}
use Rattle.mech_rows.specs.declared.kinds.Role.TheVariants.{A, B, P}
use Rattle.mech_rows.specs.declared.kinds.Slot.{Slot}
use Rattle.mech_rows.specs.declared.kinds.Kind.{Kind}
use Rattle.mech_rows.specs.declared.kinds.Kind.TheVariants.{Stamp as a_stamp}
use Rattle.mech_rows.specs.Rows.{kind_of, row_of, agreed_of, key_slots, issuer, is_stamp}
use Rattle.mech_rows.specs.declared.kinds.Slot.TheVariants.{Fa}
use Rattle.mech_rows.specs.Facts.{is_part, same_role, peer_of, is_fwd}
use Rattle.mech_rows.specs.Heads.{name_of, me, Head}
use Rattle.mech_rows.specs.Runs.{Run, names, IsDone}
use Rattle.agreement_laws.specs.Configs.{Config, IsLawful, IsGoodHead}
use Rattle.agreement_laws.specs.Traces.{Happening, current, IsGoodPart, RunId, Steps, given, parts_of}
use Rattle.mech_rows.specs.Rounds.{is_own, hears, tells, tells_test}
use Rattle.agreement_laws.specs.Sound.{NotedAlike, HasClaim, IsPartnered, IsInjective, KeepsKeys, AgreesOn, Completion, HasSecret, Once}
use Rattle.mech_rows.proofs.Facts.{claims_tell_runs_holds}
use Rattle.agreement_laws.proofs.Traces.{IsTrace}
use Rattle.agreement_laws.proofs.First.{first_partner, agreed_is_plain}
use Rattle.agreement_laws.proofs.Low.{key_part, key_slot_got, GotPart}
use Rattle.agreement_laws.proofs.Later.{run_later, done_stays, once_trace, completes_once}
use Rattle.agreement_laws.proofs.Agreement.{kinds, opened_part_good, server, ClaimsAt, HasPartner}
use Rattle.term_values.proofs.Lists.{some_among, and_left, and_right, or_cases}
use Rattle.agreement_laws.proofs.Secrecy.{secrecy}
use Rattle.mech_rows.proofs.Items.{SameParts, same_parts}
use Rattle.agreement_laws.proofs.Own.{own_draw, own_run}
use Rattle.agreement_laws.proofs.Heard.{heard_run}
use Rattle.agreement_laws.proofs.Rounds.{partner, same_me, no_claim_of_p}
use Rattle.agreement_laws.proofs.Ids.{same_id_refl}

stamp_is : (k : Kind) → is_stamp k ≡ true → k ≡ a_stamp
stamp_is a_stamp h = refl
stamp_is _ h = absurd (cc)

peer_inj : (x y : Role) → (x ≡ P → ⊥) → (y ≡ P → ⊥) → peer_of x ≡ peer_of y → x ≡ y
peer_inj A A f g e = refl
peer_inj B B f g e = refl
peer_inj A B f g e = absurd (cc)
peer_inj B A f g e = absurd (cc)
peer_inj P y f g e = absurd (f refl)
peer_inj A P f g e = absurd (g refl)
peer_inj B P f g e = absurd (g refl)

some_inj : {X : Type 0} (x y : X) → Some x ≡ Some y → x ≡ y
some_inj x y e = cc

tells_claim : (m : Mech) (r : Role) (slots : List Slot) → agreed_of m r ≡ Some slots → list_any (tells r (row_of m)) slots ≡ true
tells_claim m r slots e = subst (λ (o : Option (List Slot)). tells_test m r o ≡ true) e (by_role r)
  where
    by_role : (x : Role) → tells_test m x (agreed_of m x) ≡ true
    by_role A = and_left (tells_test m A (agreed_of m A)) (tells_test m B (agreed_of m B) && tells_test m P (agreed_of m P)) (claims_tell_runs_holds m)
    by_role B = and_left (tells_test m B (agreed_of m B)) (tells_test m P (agreed_of m P)) (and_right (tells_test m A (agreed_of m A)) (tells_test m B (agreed_of m B) && tells_test m P (agreed_of m P)) (claims_tell_runs_holds m))
    by_role P = and_right (tells_test m B (agreed_of m B)) (tells_test m P (agreed_of m P)) (and_right (tells_test m A (agreed_of m A)) (tells_test m B (agreed_of m B) && tells_test m P (agreed_of m P)) (claims_tell_runs_holds m))

record DoneRun (h : List Happening) (id : RunId) (run : Run) (slots : List Slot) : Type 0 where
  runs : current h id ≡ Some run
  claimed : agreed_of run.head.mech run.head.role ≡ Some slots

module _ (c : Config) (lawful : IsLawful c) (h : List Happening) (w : IsTrace c h) where
  no_p : (id : RunId) (run : Run) (slots : List Slot) → DoneRun h id run slots → run.head.role ≡ P → ⊥
  no_p id run slots cl e = no_claim_of_p c lawful h w run.head.mech slots (subst (λ (x : Role). agreed_of run.head.mech x ≡ Some slots) e cl.claimed)

  -- one run agrees with one alone
  one_run : (id n : RunId) (run other r : Run) (slots more : List Slot) → DoneRun h id run slots → DoneRun h n other more → AgreesOn (peer_of run.head.role) slots r run → AgreesOn (peer_of other.head.role) more r other → id ≡ n
  one_run id n run other r slots more cl dl a b =
      go (or_cases (is_own run.head.role u.0 (row_of run.head.mech)) (is_stamp (kind_of u.0) && (hears run.head.role u.0 (row_of run.head.mech) && not (same_role (issuer u.0) P))) u.2)
    where
      mech : run.head.mech ≡ other.head.mech
      mech = sym a.mech ∙ b.mech

      role : run.head.role ≡ other.head.role
      role = peer_inj run.head.role other.head.role (no_p id run slots cl) (no_p n other more dl) (sym a.role_is ∙ b.role_is)

      name_list : names run.head ≡ names other.head
      name_list = sym a.names ∙ b.names

      parts : SameParts run.head other.head run.notes other.notes []
      parts = same_parts run.head other.head run.notes other.notes [] mech (ap (λ (x : List Tree). x ++ []) name_list)

      same_party : me run.head ≡ me other.head
      same_party = same_me c lawful h w run.head other.head (no_p id run slots cl) role parts.a_is parts.b_is

      lists : slots ≡ more
      lists = some_inj slots more (sym cl.claimed ∙ (ap (λ (x : Mech). agreed_of x run.head.role) mech ∙ (ap (agreed_of other.head.mech) role ∙ dl.claimed)))

      u : (s : Slot) × Among s slots × (tells run.head.role (row_of run.head.mech) s ≡ true)
      u = some_among (tells run.head.role (row_of run.head.mech)) slots (tells_claim run.head.mech run.head.role slots cl.claimed)

      mine : NotedAlike u.0 r.notes run.notes
      mine = a.alike u.0 u.1

      theirs : NotedAlike u.0 r.notes other.notes
      theirs = b.alike u.0 (subst (Among u.0) lists u.1)

      theirs_too : other.notes u.0 ≡ Some mine.tree
      theirs_too = theirs.right ∙ (sym theirs.left ∙ mine.left)

      by_issuer : (x : Role) → not (same_role x P) ≡ true → name_of run.head x ≡ name_of other.head x
      by_issuer A no_p = parts.a_is
      by_issuer B no_p = parts.b_is
      by_issuer P no_p = absurd (cc)

      go : (is_own run.head.role u.0 (row_of run.head.mech) ≡ true) ⊎ ((is_stamp (kind_of u.0) && (hears run.head.role u.0 (row_of run.head.mech) && not (same_role (issuer u.0) P))) ≡ true) → id ≡ n
      go (inl e) =
          let f : is_own other.head.role u.0 (row_of other.head.mech) ≡ true = subst (λ (x : Role). is_own x u.0 (row_of other.head.mech) ≡ true) role (subst (λ (x : Mech). is_own run.head.role u.0 (row_of x) ≡ true) mech e) in
          own_run c h w id n run other cl.runs dl.runs u.0 mine.tree e f same_party mine.right theirs_too
      go (inr e) =
          let rest = and_right (is_stamp (kind_of u.0)) (hears run.head.role u.0 (row_of run.head.mech) && not (same_role (issuer u.0) P)) e in
          let heard : hears run.head.role u.0 (row_of run.head.mech) ≡ true = and_left (hears run.head.role u.0 (row_of run.head.mech)) (not (same_role (issuer u.0) P)) rest in
          let of_peer : not (same_role (issuer u.0) P) ≡ true = and_right (hears run.head.role u.0 (row_of run.head.mech)) (not (same_role (issuer u.0) P)) rest in
          let f : hears other.head.role u.0 (row_of other.head.mech) ≡ true = subst (λ (x : Role). hears x u.0 (row_of other.head.mech) ≡ true) role (subst (λ (x : Mech). hears run.head.role u.0 (row_of x) ≡ true) mech heard) in
          heard_run c h w id n run other cl.runs dl.runs u.0 mine.tree (stamp_is (kind_of u.0) (and_left (is_stamp (kind_of u.0)) (hears run.head.role u.0 (row_of run.head.mech) && not (same_role (issuer u.0) P)) e)) heard f same_party mech role (by_issuer (issuer u.0) of_peer) mine.right theirs_too

  moment_runs : (k : Completion h) → current (Steps k.id k.step ∷ k.before) k.id ≡ Some k.step.after
  moment_runs k = ap (λ (b : Bool). if b then Some k.step.after else current k.before k.id) (same_id_refl k.id k.id refl)

  pub end_runs : (k : Completion h) → current h k.id ≡ Some k.step.after
  end_runs k = done_stays c (Steps k.id k.step ∷ k.before) h w k.moment k.id k.step.after (moment_runs k) k.done

  -- injectivity
  pub injective : IsInjective c h
  injective k l slots more cl dl id r is a b = (same, once.0, once.1)
    where
      same : k.id ≡ l.id
      same = one_run k.id l.id k.step.after l.step.after r slots more (record { runs = end_runs k; claimed = cl.claimed }) (record { runs = end_runs l; claimed = dl.claimed }) a b

      once : (k.step ≡ l.step) × (k.before ≡ l.before)
      once = completes_once c h w k.id l.id k.step l.step k.before l.before k.moment l.moment k.done l.done same

  -- each part of the key of a done run of unrevealed pairs that isn't given away is good
  part_is_good : (id : RunId) (run : Run) (s : Slot) (p : Bytes) → current h id ≡ Some run → IsDone run → IsGoodHead c run.head → Among s (key_slots run.head.mech run.head.role) → run.notes s ≡ Some (part p) → (Among p (given h) → ⊥) → IsGoodPart c h p
  part_is_good id run s p is done good i e not_given = go got.1
    where
      got : (is_part s ≡ true) × ((is_own run.head.role s (row_of run.head.mech) ≡ true) ⊎ GotPart run s)
      got = key_slot_got run s done i

      go : (is_own run.head.role s (row_of run.head.mech) ≡ true) ⊎ GotPart run s → IsGoodPart c h p
      go (inl own) =
          let o = own_draw c h w id run is s (part p) own e in
          inr (record { id = id; step = o.step; there = o.there; slot = s; is_part_slot = got.0; draws = o.draws; good = subst (IsGoodHead c) (sym o.head_is) good; kept = not_given })
      go (inr f) = opened_part_good c lawful h w id run is good f.place f.pass f.cover f.behind f.at f.to f.there f.seen s p f.inside got.0 e not_given

  pub key_is_good : (k : Completion h) (key : Key) → HasSecret c h k key → (p : Bytes) → Among p (parts_of (Some key)) → IsGoodPart c h p
  key_is_good k key secret p i =
      let s = key_part (key_slots k.step.after.head.mech k.step.after.head.role) k.step.after.notes p (subst (λ (o : Option Key). Among p (parts_of o)) (sym secret.is_key) i) in
      part_is_good k.id k.step.after s.0 p (end_runs k) k.done secret.good s.1 s.2 (secret.kept p i)

  -- secrecy
  pub keeps_keys : KeepsKeys c h
  keeps_keys k key secret p i d = secrecy c lawful h w p (key_is_good k key secret p i) d

  -- the partner is there at the moment of the completion, and stays
  partner_stays : (old : List Happening) → Once old h → (role : Role) (slots : List Slot) (run : Run) → HasPartner old role slots run → HasPartner h role slots run
  partner_stays old o role slots run p =
      let s = run_later c old h w o p.id p.other p.runs in
      record {
        id = p.id;
        other = s.run;
        runs = s.runs;
        agrees = record {
          mech = ap (λ (x : Head). x.mech) s.head_is ∙ p.agrees.mech;
          names = ap names s.head_is ∙ p.agrees.names;
          role_is = ap (λ (x : Head). x.role) s.head_is ∙ p.agrees.role_is;
          alike = λ u i. let a = p.agrees.alike u i in record { tree = a.tree; left = s.keeps u a.tree a.left; right = a.right };
        };
      }

  at_moment : (k : Completion h) (slots : List Slot) → HasClaim c h k slots → ClaimsAt c (Steps k.id k.step ∷ k.before) k.id k.step.after slots
  at_moment k slots cl = record { runs = moment_runs k; done = k.done; claimed = cl.claimed; good = cl.good; kept = λ t q e i. cl.kept t q e i }

  trace_then : (k : Completion h) → IsTrace c (Steps k.id k.step ∷ k.before)
  trace_then k = once_trace c (Steps k.id k.step ∷ k.before) h w k.moment

  pub partnered : IsPartnered c h
  partnered = record {
    partner = λ k slots cl.
        first_partner c lawful h w (peer_of k.step.after.head.role) slots k.step.after (agreed_is_plain k.step.after.head.mech k.step.after.head.role slots cl.claimed) (kinds c lawful h w k.id k.step.after (end_runs k))
        (partner_stays (Steps k.id k.step ∷ k.before) k.moment (peer_of k.step.after.head.role) slots k.step.after
        (partner c lawful (Steps k.id k.step ∷ k.before) (trace_then k) k.id k.step.after slots (at_moment k slots cl)));
    server = λ k slots cl third.
        first_partner c lawful h w P (Fa ∷ []) k.step.after fa_is_plain (kinds c lawful h w k.id k.step.after (end_runs k))
        (partner_stays (Steps k.id k.step ∷ k.before) k.moment P (Fa ∷ []) k.step.after
        (server c lawful (Steps k.id k.step ∷ k.before) (trace_then k) k.id k.step.after slots (at_moment k slots cl) third));
  }
    where
      fa_is_plain : (s : Slot) → Among s (Fa ∷ []) → is_fwd s ≡ false
      fa_is_plain s (inl e) = ap is_fwd e
      fa_is_plain s (inr i) = elim i [ ]
