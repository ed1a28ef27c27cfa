-- Notes that grow twice.
use Rattle.std.proofs.Common.{◌≡◌, ◌++◌, ◌∙◌, ap}
use Rattle.std.proofs.lemmas.List.{append_assoc}
use Rattle.mech_rows.specs.Verdict.{Noted}

pub grew_twice : (first second third one two : Noted) → second ≡ first ++ one → third ≡ second ++ two → third ≡ first ++ (one ++ two)
grew_twice first second third one two e f = f ∙ (ap (λ (n : Noted). n ++ two) e ∙ append_assoc first one two)
