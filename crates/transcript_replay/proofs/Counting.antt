-- How far a line takes a world.
use Rattle.std.proofs.Common.{◌≡◌, ℕ, ◌+◌, ◌*◌, ◌^◌, ◌≤◌, List, [], ◌∷◌, ◌++◌, length, Result, Ok, Err, refl, sym, ap, subst, ◌∙◌, append_assoc, arith}
use Rattle.std.proofs.lemmas.List.{length-append}
use Rattle.term_values.specs.Trees.{Tree}
use Rattle.mech_rows.specs.declared.refusal.Refusal.{Refusal}
use Rattle.node_desk.specs.declared.event.Event.TheVariants.{Drop}
use Rattle.world_run.specs.Clocks.{Raises}
use Rattle.world_run.specs.Gives.{Drops}
use Rattle.world_run.specs.Turns.{HasGrown, HasNumbers}
use Rattle.world_run.specs.Views.{Act, WorldView, act, sent_by, sent_in}
use Rattle.transcript_replay.specs.Counts.{IsWithin}

sent_more : (xs ys : List Act) → sent_in (xs ++ ys) ≡ sent_in xs ++ sent_in ys
sent_more [] ys = refl
sent_more (a ∷ xs) ys = ap (λ ts. sent_by a.event ++ ts) (sent_more xs ys) ∙ sym (append_assoc (sent_by a.event) (sent_in xs) (sent_in ys))

grown_same : (w : WorldView) → HasGrown w w
grown_same w = record { runs = omega arith; messages = omega arith; draws = omega arith }

pub raised_grown : (w v : WorldView) (n time : ℕ) (r : Result ℕ Refusal) → Raises w n time r v → HasGrown w v
raised_grown w v n time (Ok now) x = subst (HasGrown w) (sym x.1) (record { runs = omega arith; messages = omega arith; draws = omega arith })
raised_grown w v n time (Err e) x = subst (HasGrown w) (sym x.2) (grown_same w)

pub dropped_grown : (w v : WorldView) (run : ℕ) (r : Result (Unit {0}) Refusal) → Drops w run r v → HasGrown w v
dropped_grown w v run (Ok done) x = subst (HasGrown w) (sym x.leaves) (record {
  runs = omega arith;
  messages =
      let same = ap length (sent_more w.acts (act x.id.party (Drop x.id.number) ∷ [])) in
      let more = length-append (sent_in w.acts) (sent_in (act x.id.party (Drop x.id.number) ∷ [])) in
      omega (arith, same, more);
  draws = omega arith;
})
dropped_grown w v run (Err e) x = subst (HasGrown w) (sym x.1) (grown_same w)

pub within_numbers : (n : ℕ) (w : WorldView) → n ≤ 2 ^ 21 → IsWithin n w → HasNumbers w
within_numbers n w few x = record { runs = omega (arith, few, x.runs); messages = omega (arith, few, x.messages); draws = omega (arith, few, x.draws) }

pub grown_within : (n : ℕ) (w v : WorldView) → IsWithin n w → HasGrown w v → IsWithin (n + 1) v
grown_within n w v x g = record { runs = omega (arith, x.runs, g.runs); messages = omega (arith, x.messages, g.messages); draws = omega (arith, x.draws, g.draws) }
