-- The world that an input leads to is sound, and each input has an output.
use Rattle.std.proofs.Common.{◌≡◌, ◌⊎◌, inl, inr, ℕ, zero, suc, ◌+◌, ◌≤◌, ◌<◌, ◌||◌, nat_lt, List, [], ◌∷◌, ◌++◌, length, take, Bool, true, false, Some, refl, sym, ap, subst, ◌∙◌, arith}
use Rattle.std.proofs.lemmas.Bool.{ltb-false}
use Rattle.term_values.specs.Trees.{Among}
use Rattle.mech_rows.specs.declared.kinds.Slot.{Slot}
use Rattle.mech_rows.specs.Facts.{peer_of}
use Rattle.text_hooks.specs.Rules.{allowed}
use Rattle.agreement_laws.specs.declared.history.Happened.{Happened}
use Rattle.agreement_laws.specs.Configs.{Config}
use Rattle.agreement_laws.specs.Histories.{HistoryOf}
use Rattle.agreement_laws.specs.Partners.{run_of}
use Rattle.agreement_laws.specs.Sound.{AgreesAt, IsSound}
use Rattle.agreement_laws.specs.Traces.{RunId}
use Rattle.agreement_laws.specs.Worlds.{trace}
use Rattle.script_text.specs.declared.line.Line.{Line}
use Rattle.script_text.specs.declared.line.Line.TheVariants as line
use Rattle.world_run.specs.Conditions.{KeepsConditions}
use Rattle.world_run.specs.Tested.{are_kept}
use Rattle.world_run.specs.Views.{Told, WorldView, entries, run_in, sent_in, shown_of, told_of}
use Rattle.world_run.specs.Claims.{Claims, Tells}
use Rattle.world_run.specs.Kept.{IsGenuine}
use Rattle.world_run.proofs.Partnered.{partner_agrees, some_partner}
use Rattle.world_run.proofs.Decided.{holds, passes}
use Rattle.transcript_replay.specs.declared.reason.Reason.{Reason}
use Rattle.transcript_replay.specs.declared.reason.Reason.TheVariants as reason
use Rattle.transcript_replay.specs.Answered.{clock_text, drop_text, give_text, open_text}
use Rattle.transcript_replay.specs.Completions.{agreeing_with}
use Rattle.transcript_replay.specs.Cuts.{lines_of}
use Rattle.transcript_replay.specs.Players.{Player, fresh, nobody, set_up, started, with_own, with_pair, with_party}
use Rattle.transcript_replay.specs.Printed.{bad_line}
use Rattle.transcript_replay.specs.Runs.{Breaks, Does, Goes, IsBad, IsOutput, IsWorldOf, LeadsTo, Runs, Whole, is_over, IsWorldAfter}
use Rattle.transcript_replay.specs.Said.{Says, is_setting}
use Rattle.transcript_replay.proofs.Adding.{nobody_kept}
use Rattle.transcript_replay.proofs.Decided.{OrNot, line_decided}
use Rattle.transcript_replay.proofs.Deciding.{clock_some, drop_some, give_some, open_some}
use Rattle.transcript_replay.proofs.Genuine.{IsFit, clock_fit, drop_fit, fit_begins, fit_more, fit_sound, give_fit, open_fit}
use Rattle.transcript_replay.proofs.Partners.{partner_is}
use Rattle.transcript_replay.proofs.Playable.{HasHead, headed}

kept_or_not : (c : Config) → OrNot (KeepsConditions c)
kept_or_not c = go (are_kept c) refl
  where
    go : (b : Bool) → are_kept c ≡ b → OrNot (KeepsConditions c)
    go true e = inl (holds c e)
    go false e = inr (λ k. let f = passes c k in cc)

-- ---- what lines lead to is fit

does_fit : (k : ℕ) → k < 4096 → (p : Player) (l : Line) (q : Player) (said : List ℕ) → IsFit k p.world → HasHead l → Does p l q said → IsFit (suc k) q.world
does_fit k lt p (line.Party name kind window) q said f h x = subst (λ (z : Player). IsFit (suc k) z.world) (sym x.1.is) (fit_begins (suc k) (with_party p.world.config name kind window) x.0)
does_fit k lt p (line.Pair a b part revealed) q said f h x = subst (λ (z : Player). IsFit (suc k) z.world) (sym x.1.is) (fit_begins (suc k) (with_pair p.world.config a b part revealed) x.0)
does_fit k lt p (line.Own part) q said f h x = subst (λ (z : Player). IsFit (suc k) z.world) (sym x.1.is) (fit_begins (suc k) (with_own p.world.config part) x.0)
does_fit k lt p (line.Allow rule) q said f h x = subst (λ (z : Player). IsFit (suc k) z.world) (sym x.is) (fit_begins (suc k) p.world.config f.genuine.conditions)
does_fit k lt p (line.Clock name ms) q said f h x = clock_fit k p.world q.world name ms x.0.0 f x.0.1
does_fit k lt p (line.Open head texts) q said f h x = open_fit k lt p.world q.world head texts x.0.0 f h x.0.1
does_fit k lt p (line.Give run term) q said f h x = give_fit k lt (allowed p.rules) p.world q.world run term x.0.0 f x.0.1
does_fit k lt p (line.Drop run) q said f h x = drop_fit k p.world q.world run x.0.0 f x.0.1
does_fit k lt p line.Empty q said f h x = fit_more k q.world (subst (λ (z : Player). IsFit k z.world) (sym x.0) f)

goes_fit : (k : ℕ) → k < 4096 → (p : Player) (l : List ℕ) (q : Player) (said : List ℕ) → IsFit k p.world → Goes p l q said → IsFit (suc k) q.world
goes_fit k lt p l q said f x = does_fit k lt p x.0 q said f (headed (sent_in p.world.acts) l x.0 x.1) x.2

leads_fit : (k : ℕ) (p : Player) (ls : List (List ℕ)) (q : Player) → k + length ls ≤ 4096 → IsFit k p.world → LeadsTo p ls q → (j : ℕ) × IsFit j q.world
leads_fit k p [] q le f x = (k, subst (λ (z : Player). IsFit k z.world) (sym x) f)
leads_fit k p (l ∷ ls) q le f (inl (m, said, goes, rest)) = leads_fit (suc k) m ls q (omega (arith, le)) (goes_fit k (omega (arith, le)) p l m said f goes) rest
leads_fit k p (l ∷ ls) q le f (inr (r, bad, is)) = (k, subst (λ (z : Player). IsFit k z.world) (sym is) f)

-- a script that is not too long has few lines
few_lines : (bytes : List ℕ) → is_over bytes ≡ false → length (lines_of bytes) ≤ 4096
few_lines bytes e = go (nat_lt 1_048_576 (length bytes)) (nat_lt 4096 (length (lines_of bytes))) refl e
  where
    go : (a b : Bool) → nat_lt 4096 (length (lines_of bytes)) ≡ b → (a || b) ≡ false → length (lines_of bytes) ≤ 4096
    go true b f g = absurd cc
    go false true f g = absurd cc
    go false false f g = ltb-false 4096 (length (lines_of bytes)) f

pub world_is_sound : (bytes : List ℕ) (w : WorldView) → IsWorldOf bytes w → IsSound w.config (trace (entries w.acts))
world_is_sound bytes w (short, q, leads, is) =
    let few = few_lines bytes short in
    let f = leads_fit 0 fresh (lines_of bytes) q (omega (arith, few)) (fit_begins 0 nobody nobody_kept) leads in
    subst (λ (v : WorldView). IsSound v.config (trace (entries v.acts))) (sym is) (fit_sound f.0 q.world f.1)

-- ---- each line goes on or is bad

abbrev GoesOrBad : Player → List ℕ → Type 0
GoesOrBad p text = ((q : Player) × (said : List ℕ) × Goes p text q said) ⊎ ((r : Reason) × IsBad p text r)

-- a configuration line that says this
set_or_bad : (p : Player) (text : List ℕ) (l : Line) → Says (sent_in p.world.acts) text l → is_setting l ≡ true → (b : Bool) → p.begun ≡ b
    → ((p.begun ≡ false) → ((q : Player) × (said : List ℕ) × Does p l q said) ⊎ Breaks p.world.config l) → GoesOrBad p text
set_or_bad p text l says is true e early = inr (reason.Order, (l, says, is, e))
set_or_bad p text l says is false e early = elim (early e) [ inl x ↦ inl (x.0, x.1, (l, says, x.2)) | inr x ↦ inr (reason.Config, (l, says, x, e)) ]

line_or_bad : (k : ℕ) (p : Player) (text : List ℕ) (l : Line) → IsFit k p.world → Says (sent_in p.world.acts) text l → GoesOrBad p text
line_or_bad k p text (line.Party name kind window) f says = set_or_bad p text (line.Party name kind window) says refl p.begun refl
    (λ e. elim (kept_or_not (with_party p.world.config name kind window)) [
      | inl k ↦ inl (set_up (with_party p.world.config name kind window) p.rules, [], (k, record { early = e; is = refl; silent = refl }))
      | inr k ↦ inr k
    ])
line_or_bad k p text (line.Pair a b part revealed) f says = set_or_bad p text (line.Pair a b part revealed) says refl p.begun refl
    (λ e. elim (kept_or_not (with_pair p.world.config a b part revealed)) [
      | inl k ↦ inl (set_up (with_pair p.world.config a b part revealed) p.rules, [], (k, record { early = e; is = refl; silent = refl }))
      | inr k ↦ inr k
    ])
line_or_bad k p text (line.Own part) f says = set_or_bad p text (line.Own part) says refl p.begun refl
    (λ e. elim (kept_or_not (with_own p.world.config part)) [
      | inl k ↦ inl (set_up (with_own p.world.config part) p.rules, [], (k, record { early = e; is = refl; silent = refl }))
      | inr k ↦ inr k
    ])
line_or_bad k p text (line.Allow rule) f says = set_or_bad p text (line.Allow rule) says refl p.begun refl
    (λ e. inl (set_up p.world.config (p.rules ++ rule ∷ []), [], record { early = e; is = refl; silent = refl }))
line_or_bad k p text (line.Clock name ms) f says =
    let a = clock_some p.world name ms in
    inl (started a.1 p.rules, clock_text name a.0, (line.Clock name ms, says, ((a.0, a.2, refl), refl)))
line_or_bad k p text (line.Open head texts) f says =
    let a = open_some p.world f.genuine head texts (headed (sent_in p.world.acts) text (line.Open head texts) says) in
    inl (started a.1 p.rules, open_text p.world a.1 a.0, (line.Open head texts, says, ((a.0, a.2, refl), refl)))
line_or_bad k p text (line.Give run term) f says =
    let a = give_some p.world f.genuine (allowed p.rules) run term in
    inl (started a.1 p.rules, give_text p.world a.1 run a.0, (line.Give run term, says, ((a.0, a.2, refl), refl)))
line_or_bad k p text (line.Drop run) f says =
    let a = drop_some p.world run in
    inl (started a.1 p.rules, drop_text run a.0, (line.Drop run, says, ((a.0, a.2, refl), refl)))
line_or_bad k p text line.Empty f says = inl (p, [], (line.Empty, says, (refl, refl)))

goes_or_bad : (k : ℕ) (p : Player) (text : List ℕ) → IsFit k p.world → GoesOrBad p text
goes_or_bad k p text f = elim (line_decided (sent_in p.world.acts) text) [
  | inl x ↦ line_or_bad k p text x.0 f x.1
  | inr x ↦ elim x [ inl y ↦ inr (reason.Reference, y) | inr y ↦ inr (reason.Grammar, y) ]
]

-- ---- each script prints something

runs_some : (j k : ℕ) (p : Player) (ls : List (List ℕ)) → j + length ls ≤ 4096 → IsFit j p.world → (t : List ℕ) × (m : ℕ) × Runs k p ls (Whole m) t
runs_some j k p [] le f = ([], 0, (refl, refl))
runs_some j k p (l ∷ ls) le f =
    elim (goes_or_bad j p l f) as (λ _. (t : List ℕ) × (m : ℕ) × Runs k p (l ∷ ls) (Whole m) t) [
      | inl g ↦
          let rest = runs_some (suc j) (k + 1) g.0 ls (omega (arith, le)) (goes_fit j (omega (arith, le)) p l g.0 g.1 f g.2) in
          (g.1 ++ rest.0, rest.1, inl (g.0, g.1, rest.0, g.2, rest.2, refl))
      | inr b ↦ (bad_line k b.0, 5, inr (b.0, b.1, refl, refl))
    ]

some_by : (bytes : List ℕ) (b : Bool) → is_over bytes ≡ b → (t : List ℕ) × (m : ℕ) × IsOutput bytes (Whole m) t
some_by bytes true e = ([], 6, inl (e, (refl, refl)))
some_by bytes false e = let few = few_lines bytes e in let r = runs_some 0 1 fresh (lines_of bytes) (omega (arith, few)) (fit_begins 0 nobody nobody_kept) in (r.0, r.1, inr (e, r.2))

pub some_text : (bytes : List ℕ) → (t : List ℕ) × (m : ℕ) × IsOutput bytes (Whole m) t
some_text bytes = some_by bytes (is_over bytes) refl

-- ---- each script that is not too long leads to a world

leads_some : (j : ℕ) (p : Player) (ls : List (List ℕ)) → j + length ls ≤ 4096 → IsFit j p.world → (q : Player) × LeadsTo p ls q
leads_some j p [] le f = (p, refl)
leads_some j p (l ∷ ls) le f =
    elim (goes_or_bad j p l f) as (λ _. (q : Player) × LeadsTo p (l ∷ ls) q) [
      | inl g ↦
          let rest = leads_some (suc j) g.0 ls (omega (arith, le)) (goes_fit j (omega (arith, le)) p l g.0 g.1 f g.2) in
          (rest.0, inl (g.0, g.1, g.2, rest.1))
      | inr b ↦ (p, inr (b.0, b.1, refl))
    ]

pub some_world : (bytes : List ℕ) → is_over bytes ≡ false → (w : WorldView) × IsWorldOf bytes w
some_world bytes e =
    let few = few_lines bytes e in
    let r = leads_some 0 fresh (lines_of bytes) (omega (arith, few)) (fit_begins 0 nobody nobody_kept) in
    (r.0.world, (e, r.0, r.1, refl))

-- ---- each claim of a script's world has its partner, and so after each line

few_taken : {X : Type 0} (k : ℕ) (xs : List X) → length (take k xs) ≤ length xs
few_taken zero xs = omega arith
few_taken (suc k) [] = omega arith
few_taken (suc k) (x ∷ xs) = let r = few_taken k xs in omega (arith, r)

partner_in : (w : WorldView) (h : HistoryOf) (c : Happened) (slots : List Slot) → IsGenuine w → Tells h w → Among c h.happened → Claims w.config c slots
    → (n : ℕ) × (agreeing_with (told_of w) (shown_of c) ≡ Some n) × (id : RunId) × (run_in w.runs n ≡ Some id) × AgreesAt (trace (entries w.acts)) (peer_of c.head.role) slots (run_of c) id
partner_in w h c slots g tells among claims =
    let p = some_partner w g h tells c slots among claims in
    let a = partner_agrees w g h tells c slots p.0 claims.agreed p.1 in
    (p.0, ap (λ (t : Told). agreeing_with t (shown_of c)) (sym tells) ∙ sym (partner_is h c) ∙ p.1, a.0, a.1, a.2)

pub claim_partner : (bytes : List ℕ) (w : WorldView) (h : HistoryOf) (c : Happened) (slots : List Slot) → IsWorldOf bytes w → Tells h w → Among c h.happened → Claims w.config c slots
    → (n : ℕ) × (agreeing_with (told_of w) (shown_of c) ≡ Some n) × (id : RunId) × (run_in w.runs n ≡ Some id) × AgreesAt (trace (entries w.acts)) (peer_of c.head.role) slots (run_of c) id
claim_partner bytes w h c slots (short, q, leads, is) tells among claims =
    let few = few_lines bytes short in
    let f = leads_fit 0 fresh (lines_of bytes) q (omega (arith, few)) (fit_begins 0 nobody nobody_kept) leads in
    partner_in w h c slots (subst IsGenuine (sym is) f.1.genuine) tells among claims

pub partner_after : (bytes : List ℕ) (k : ℕ) (w : WorldView) (h : HistoryOf) (c : Happened) (slots : List Slot) → IsWorldAfter bytes k w → Tells h w → Among c h.happened → Claims w.config c slots
    → (n : ℕ) × (agreeing_with (told_of w) (shown_of c) ≡ Some n) × (id : RunId) × (run_in w.runs n ≡ Some id) × AgreesAt (trace (entries w.acts)) (peer_of c.head.role) slots (run_of c) id
partner_after bytes k w h c slots (short, q, leads, is) tells among claims =
    let few = few_lines bytes short in
    let fewer = few_taken k (lines_of bytes) in
    let f = leads_fit 0 fresh (take k (lines_of bytes)) q (omega (arith, few, fewer)) (fit_begins 0 nobody nobody_kept) leads in
    partner_in w h c slots (subst IsGenuine (sym is) f.1.genuine) tells among claims

pub world_after_is_sound : (bytes : List ℕ) (k : ℕ) (w : WorldView) → IsWorldAfter bytes k w → IsSound w.config (trace (entries w.acts))
world_after_is_sound bytes k w (short, q, leads, is) =
    let few = few_lines bytes short in
    let fewer = few_taken k (lines_of bytes) in
    let f = leads_fit 0 fresh (take k (lines_of bytes)) q (omega (arith, few, fewer)) (fit_begins 0 nobody nobody_kept) leads in
    subst (λ (v : WorldView). IsSound v.config (trace (entries v.acts))) (sym is) (fit_sound f.0 q.world f.1)

pub some_after : (bytes : List ℕ) (k : ℕ) → is_over bytes ≡ false → (w : WorldView) × IsWorldAfter bytes k w
some_after bytes k e =
    let few = few_lines bytes e in
    let fewer = few_taken k (lines_of bytes) in
    let r = leads_some 0 fresh (take k (lines_of bytes)) (omega (arith, few, fewer)) (fit_begins 0 nobody nobody_kept) in
    (r.0.world, (e, r.0, r.1, refl))

all_taken : {X : Type 0} (xs : List X) → take (length xs) xs ≡ xs
all_taken [] = refl
all_taken (x ∷ xs) = ap (λ (ys : List _). x ∷ ys) (all_taken xs)

pub last_world : (bytes : List ℕ) (w : WorldView) → IsWorldOf bytes w → IsWorldAfter bytes (length (lines_of bytes)) w
last_world bytes w (short, q, leads, is) = (short, q, subst (λ (ls : List (List ℕ)). LeadsTo fresh ls q) (sym (all_taken (lines_of bytes))) leads, is)
