-- There is one output, and what a script that was cut off printed is a front of it.
use Rattle.std.proofs.Common.{◌≡◌, inl, inr, ℕ, ◌+◌, List, [], ◌∷◌, ◌++◌, length, take, Bool, true, false, Result, refl, sym, ap, ap₂, subst, ◌∙◌}
use Rattle.std.proofs.Math.Seq.{take-append-add}
use Rattle.term_values.specs.Trees.{Bytes, Tree}
use Rattle.mech_rows.specs.declared.kinds.Mech.{Mech}
use Rattle.mech_rows.specs.declared.kinds.Slot.{Slot}
use Rattle.mech_rows.specs.declared.refusal.Refusal.{Refusal}
use Rattle.mech_rows.specs.Heads.{Head}
use Rattle.mech_rows.specs.Openings.{Texts}
use Rattle.text_hooks.specs.Rules.{allowed}
use Rattle.script_text.specs.declared.line.Line.{Line}
use Rattle.script_text.specs.declared.line.Line.TheVariants as line
use Rattle.script_text.proofs.LineTexts.{one_line_is}
use Rattle.world_run.specs.declared.given.Given.{Given}
use Rattle.world_run.specs.declared.opened.Opened.{Opened}
use Rattle.world_run.specs.Clocks.{Raises}
use Rattle.world_run.specs.Gives.{Drops, Gives}
use Rattle.world_run.specs.Opens.{Opens}
use Rattle.world_run.specs.Views.{WorldView, sent_in}
use Rattle.transcript_replay.specs.declared.reason.Reason.{Reason}
use Rattle.transcript_replay.specs.declared.reason.Reason.TheVariants as reason
use Rattle.transcript_replay.specs.Answered.{clock_text, drop_text, give_text, open_text}
use Rattle.transcript_replay.specs.Cuts.{lines_of}
use Rattle.transcript_replay.specs.Players.{Player, fresh, started}
use Rattle.transcript_replay.specs.Printed.{bad_line}
use Rattle.transcript_replay.specs.Runs.{Breaks, Does, Front, Goes, IsBad, IsOutput, IsWorldOf, LeadsTo, Runs, Whole, IsWorldAfter}
use Rattle.transcript_replay.specs.Said.{IsNoLine, NamesNothing, Says, is_setting}
use Rattle.transcript_replay.proofs.Fronts.{take_front}
use Rattle.transcript_replay.proofs.Starting.{one_said}

-- what each call of a world owes: one answer, and one world after it
pub record AnswerOnce : Type 0 where
  pub clock : (w : WorldView) (n time : ℕ) (a b : Result ℕ Refusal) (u v : WorldView) → Raises w n time a u → Raises w n time b v → (u ≡ v) × (a ≡ b)
  pub open_run : (w : WorldView) (h : Head) (texts : Texts) (a b : Result Opened Refusal) (u v : WorldView) → Opens w h texts a u → Opens w h texts b v → (u ≡ v) × (a ≡ b)
  pub give : (allow : Mech → Slot → Bytes → Bool) (w : WorldView) (run : ℕ) (m : Tree) (a b : Result Given Refusal) (u v : WorldView) → Gives allow w run m a u → Gives allow w run m b v → (u ≡ v) × (a ≡ b)
  pub drop_run : (w : WorldView) (run : ℕ) (a b : Result (Unit {0}) Refusal) (u v : WorldView) → Drops w run a u → Drops w run b v → (u ≡ v) × (a ≡ b)

-- ---- what a text says

no_line_says : (sent : List Tree) (text : List ℕ) (l : Line) → Says sent text l → IsNoLine sent text → ⊥
no_line_says sent text l x y = y x.0 x.1

no_line_names : (sent : List Tree) (text : List ℕ) → NamesNothing sent text → IsNoLine sent text → ⊥
no_line_names sent text x y = y x.0 x.1

says_names : (sent : List Tree) (text : List ℕ) (l : Line) → Says sent text l → NamesNothing sent text → ⊥
says_names sent text l x y =
    let same = (one_line_is sent text x.0 y.0 x.1 y.1).1 in
    let named = x.2 in
    let none = y.2 in
    cc

late_no_break : (l : Line) (p : Player) → p.begun ≡ true → p.begun ≡ false → ⊥
late_no_break l p e f = cc

-- ---- what a line does

module _ (once : AnswerOnce) where
  after : (p : Player) (q r : Player) (v w : WorldView) → q ≡ started v p.rules → r ≡ started w p.rules → v ≡ w → q ≡ r
  after p q r v w e f same = e ∙ ap (λ (z : WorldView). started z p.rules) same ∙ sym f

  does_once : (p : Player) (l : Line) (q r : Player) (t u : List ℕ) → Does p l q t → Does p l r u → (q ≡ r) × (t ≡ u)
  does_once p (line.Party name kind window) q r t u x y = (x.1.is ∙ sym y.1.is, x.1.silent ∙ sym y.1.silent)
  does_once p (line.Pair a b part revealed) q r t u x y = (x.1.is ∙ sym y.1.is, x.1.silent ∙ sym y.1.silent)
  does_once p (line.Own part) q r t u x y = (x.1.is ∙ sym y.1.is, x.1.silent ∙ sym y.1.silent)
  does_once p (line.Allow rule) q r t u x y = (x.is ∙ sym y.is, x.silent ∙ sym y.silent)
  does_once p (line.Clock name ms) q r t u x y =
      let e = once.clock p.world name ms x.0.0 y.0.0 q.world r.world x.0.1 y.0.1 in
      (after p q r q.world r.world x.1 y.1 e.0, x.0.2 ∙ ap (clock_text name) e.1 ∙ sym y.0.2)
  does_once p (line.Open head texts) q r t u x y =
      let e = once.open_run p.world head texts x.0.0 y.0.0 q.world r.world x.0.1 y.0.1 in
      (after p q r q.world r.world x.1 y.1 e.0, x.0.2 ∙ ap₂ (λ (w : WorldView) (g : Result Opened Refusal). open_text p.world w g) e.0 e.1 ∙ sym y.0.2)
  does_once p (line.Give run term) q r t u x y =
      let e = once.give (allowed p.rules) p.world run term x.0.0 y.0.0 q.world r.world x.0.1 y.0.1 in
      (after p q r q.world r.world x.1 y.1 e.0, x.0.2 ∙ ap₂ (λ (w : WorldView) (g : Result Given Refusal). give_text p.world w run g) e.0 e.1 ∙ sym y.0.2)
  does_once p (line.Drop run) q r t u x y =
      let e = once.drop_run p.world run x.0.0 y.0.0 q.world r.world x.0.1 y.0.1 in
      (after p q r q.world r.world x.1 y.1 e.0, x.0.2 ∙ ap (drop_text run) e.1 ∙ sym y.0.2)
  does_once p line.Empty q r t u x y = (x.0 ∙ sym y.0, x.1 ∙ sym y.1)

  goes_once : (p : Player) (l : List ℕ) (q r : Player) (t u : List ℕ) → Goes p l q t → Goes p l r u → (q ≡ r) × (t ≡ u)
  goes_once p l q r t u x y =
      let same : y.0 ≡ x.0 = one_said (sent_in p.world.acts) l y.0 x.0 y.1 x.1 in
      does_once p x.0 q r t u x.2 (subst (λ (m : Line). Does p m r u) same y.2)

  breaks_not : (p : Player) (l : Line) (q : Player) (t : List ℕ) → Does p l q t → Breaks p.world.config l → ⊥
  breaks_not p (line.Party name kind window) q t x y = y x.0
  breaks_not p (line.Pair a b part revealed) q t x y = y x.0
  breaks_not p (line.Own part) q t x y = y x.0
  breaks_not p (line.Allow rule) q t x y = y
  breaks_not p (line.Clock name ms) q t x y = y
  breaks_not p (line.Open head texts) q t x y = y
  breaks_not p (line.Give run term) q t x y = y
  breaks_not p (line.Drop run) q t x y = y
  breaks_not p line.Empty q t x y = y

  late_not : (p : Player) (l : Line) (q : Player) (t : List ℕ) → Does p l q t → is_setting l ≡ true → p.begun ≡ true → ⊥
  late_not p (line.Party name kind window) q t x y z = let e = x.1.early in cc
  late_not p (line.Pair a b part revealed) q t x y z = let e = x.1.early in cc
  late_not p (line.Own part) q t x y z = let e = x.1.early in cc
  late_not p (line.Allow rule) q t x y z = let e = x.early in cc
  late_not p (line.Clock name ms) q t x y z = cc
  late_not p (line.Open head texts) q t x y z = cc
  late_not p (line.Give run term) q t x y z = cc
  late_not p (line.Drop run) q t x y z = cc
  late_not p line.Empty q t x y z = cc

  not_both : (p : Player) (l : List ℕ) (q : Player) (t : List ℕ) (r : Reason) → Goes p l q t → IsBad p l r → ⊥
  not_both p l q t reason.Grammar x y = no_line_says (sent_in p.world.acts) l x.0 x.1 y
  not_both p l q t reason.Reference x y = says_names (sent_in p.world.acts) l x.0 x.1 y
  not_both p l q t reason.Order x y =
      let same : y.0 ≡ x.0 = one_said (sent_in p.world.acts) l y.0 x.0 y.1 x.1 in
      late_not p x.0 q t x.2 (ap is_setting (sym same) ∙ y.2) y.3
  not_both p l q t reason.Config x y =
      let same : y.0 ≡ x.0 = one_said (sent_in p.world.acts) l y.0 x.0 y.1 x.1 in
      breaks_not p x.0 q t x.2 (subst (Breaks p.world.config) same y.2)

  bad_once : (p : Player) (l : List ℕ) (r s : Reason) → IsBad p l r → IsBad p l s → r ≡ s
  bad_once p l reason.Grammar reason.Grammar x y = refl
  bad_once p l reason.Grammar reason.Reference x y = absurd (no_line_names (sent_in p.world.acts) l y x)
  bad_once p l reason.Grammar reason.Order x y = absurd (no_line_says (sent_in p.world.acts) l y.0 y.1 x)
  bad_once p l reason.Grammar reason.Config x y = absurd (no_line_says (sent_in p.world.acts) l y.0 y.1 x)
  bad_once p l reason.Reference reason.Grammar x y = absurd (no_line_names (sent_in p.world.acts) l x y)
  bad_once p l reason.Reference reason.Reference x y = refl
  bad_once p l reason.Reference reason.Order x y = absurd (says_names (sent_in p.world.acts) l y.0 y.1 x)
  bad_once p l reason.Reference reason.Config x y = absurd (says_names (sent_in p.world.acts) l y.0 y.1 x)
  bad_once p l reason.Order reason.Grammar x y = absurd (no_line_says (sent_in p.world.acts) l x.0 x.1 y)
  bad_once p l reason.Order reason.Reference x y = absurd (says_names (sent_in p.world.acts) l x.0 x.1 y)
  bad_once p l reason.Order reason.Order x y = refl
  bad_once p l reason.Order reason.Config x y = absurd (late_no_break x.0 p x.3 y.3)
  bad_once p l reason.Config reason.Grammar x y = absurd (no_line_says (sent_in p.world.acts) l x.0 x.1 y)
  bad_once p l reason.Config reason.Reference x y = absurd (says_names (sent_in p.world.acts) l x.0 x.1 y)
  bad_once p l reason.Config reason.Order x y = absurd (late_no_break x.0 p y.3 x.3)
  bad_once p l reason.Config reason.Config x y = refl

  -- ---- what a script prints

  runs_once : (k : ℕ) (p : Player) (ls : List (List ℕ)) (m n : ℕ) (t u : List ℕ) → Runs k p ls (Whole m) t → Runs k p ls (Whole n) u → (t ≡ u) × (m ≡ n)
  runs_once k p [] m n t u x y = (x.0 ∙ sym y.0, x.1 ∙ sym y.1)
  runs_once k p (l ∷ ls) m n t u (inl (q, said, rest, goes, runs, is)) (inl (q', said', rest', goes', runs', is')) =
      let e = goes_once p l q' q said' said goes' goes in
      let f = runs_once (k + 1) q ls m n rest rest' runs (subst (λ (z : Player). Runs (k + 1) z ls (Whole n) rest') e.0 runs') in
      (is ∙ ap (λ (z : List ℕ). said ++ z) f.0 ∙ ap (λ (z : List ℕ). z ++ rest') (sym e.1) ∙ sym is', f.1)
  runs_once k p (l ∷ ls) m n t u (inl x) (inr y) = absurd (not_both p l x.0 x.1 y.0 x.3 y.1)
  runs_once k p (l ∷ ls) m n t u (inr x) (inl y) = absurd (not_both p l y.0 y.1 x.0 y.3 x.1)
  runs_once k p (l ∷ ls) m n t u (inr x) (inr y) = (x.2 ∙ ap (bad_line k) (bad_once p l x.0 y.0 x.1 y.1) ∙ sym y.2, x.3 ∙ sym y.3)

  front_runs : (k : ℕ) (p : Player) (ls : List (List ℕ)) (m : ℕ) (t u : List ℕ) → Runs k p ls (Whole m) t → Runs k p ls Front u → (n : ℕ) × (u ≡ take n t)
  front_runs k p [] m t u x y = (0, y)
  front_runs k p (l ∷ ls) m t u (inl (q, said, rest, goes, runs, is)) (inl (q', said', rest', goes', runs', is')) =
      let e = goes_once p l q' q said' said goes' goes in
      let f = front_runs (k + 1) q ls m rest rest' runs (subst (λ (z : Player). Runs (k + 1) z ls Front rest') e.0 runs') in
      (length said + f.0, is' ∙ ap (λ (z : List ℕ). z ++ rest') e.1 ∙ ap (λ (z : List ℕ). said ++ z) f.1 ∙ sym (take-append-add said rest f.0) ∙ ap (take (length said + f.0)) (sym is))
  front_runs k p (l ∷ ls) m t u x (inr (inl none)) = (0, none)
  front_runs k p (l ∷ ls) m t u (inl (q, said, rest, goes, runs, is)) (inr (inr (inl (q', said', n, goes', is')))) =
      let e = goes_once p l q' q said' said goes' goes in
      let f = take_front n said rest in
      (f.0, is' ∙ ap (take n) e.1 ∙ sym f.1 ∙ ap (take f.0) (sym is))
  front_runs k p (l ∷ ls) m t u (inl x) (inr (inr (inr y))) = absurd (not_both p l x.0 x.1 y.0 x.3 y.2)
  front_runs k p (l ∷ ls) m t u (inr x) (inl y) = absurd (not_both p l y.0 y.1 x.0 y.3 x.1)
  front_runs k p (l ∷ ls) m t u (inr x) (inr (inr (inl y))) = absurd (not_both p l y.0 y.1 x.0 y.3 x.1)
  front_runs k p (l ∷ ls) m t u (inr x) (inr (inr (inr y))) =
      (y.1, y.3 ∙ ap (λ (r : Reason). take y.1 (bad_line k r)) (bad_once p l y.0 x.0 y.2 x.1) ∙ ap (take y.1) (sym x.2))

  pub one_text : (bytes t u : List ℕ) (m n : ℕ) → IsOutput bytes (Whole m) t → IsOutput bytes (Whole n) u → (t ≡ u) × (m ≡ n)
  one_text bytes t u m n (inl x) (inl y) = (x.1.1 ∙ sym y.1.1, x.1.0 ∙ sym y.1.0)
  one_text bytes t u m n (inl x) (inr y) = let e = x.0 in let f = y.0 in absurd cc
  one_text bytes t u m n (inr x) (inl y) = let e = x.0 in let f = y.0 in absurd cc
  one_text bytes t u m n (inr x) (inr y) = runs_once 1 fresh (lines_of bytes) m n t u x.1 y.1

  pub front_text : (bytes t u : List ℕ) (m : ℕ) → IsOutput bytes (Whole m) t → IsOutput bytes Front u → (n : ℕ) × (u ≡ take n t)
  front_text bytes t u m (inl x) (inl y) = (0, y.1)
  front_text bytes t u m (inl x) (inr y) = let e = x.0 in let f = y.0 in absurd cc
  front_text bytes t u m (inr x) (inl y) = let e = x.0 in let f = y.0 in absurd cc
  front_text bytes t u m (inr x) (inr y) = front_runs 1 fresh (lines_of bytes) m t u x.1 y.1

  -- ---- where a script leads

  leads_once : (p : Player) (ls : List (List ℕ)) (q r : Player) → LeadsTo p ls q → LeadsTo p ls r → q ≡ r
  leads_once p [] q r x y = x ∙ sym y
  leads_once p (l ∷ ls) q r (inl (m, said, goes, rest)) (inl (n, said', goes', rest')) =
      let e = goes_once p l n m said' said goes' goes in
      leads_once m ls q r rest (subst (λ (z : Player). LeadsTo z ls r) e.0 rest')
  leads_once p (l ∷ ls) q r (inl x) (inr y) = absurd (not_both p l x.0 x.1 y.0 x.2 y.1)
  leads_once p (l ∷ ls) q r (inr x) (inl y) = absurd (not_both p l y.0 y.1 x.0 y.2 x.1)
  leads_once p (l ∷ ls) q r (inr x) (inr y) = x.2 ∙ sym y.2

  pub one_world : (bytes : List ℕ) (v w : WorldView) → IsWorldOf bytes v → IsWorldOf bytes w → v ≡ w
  one_world bytes v w (short, q, leads, is) (short', r, leads', is') = is ∙ ap (λ (p : Player). p.world) (leads_once fresh (lines_of bytes) q r leads leads') ∙ sym is'

  pub one_after : (bytes : List ℕ) (k : ℕ) (v w : WorldView) → IsWorldAfter bytes k v → IsWorldAfter bytes k w → v ≡ w
  one_after bytes k v w (short, q, leads, is) (short', r, leads', is') = is ∙ ap (λ (p : Player). p.world) (leads_once fresh (take k (lines_of bytes)) q r leads leads') ∙ sym is'
