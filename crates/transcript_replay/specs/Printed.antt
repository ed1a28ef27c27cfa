-- The printed lines.
use Rattle.std.specs.Prelude.{ℕ, List, ◌++◌, codes, Option, Some, None}
use Rattle.std.specs.Fmt.{decimal}
use Rattle.term_values.specs.Trees.{Tree}
use Rattle.mech_rows.specs.declared.refusal.Refusal.{Refusal}
use Rattle.mech_rows.specs.Heads.{Head}
use Rattle.script_text.specs.Lines.{mech_name, role_name}
use Rattle.script_text.specs.Notation.{notation, plain}
use Rattle.script_text.specs.Refusals.{refusal_text}
use Rattle.transcript_replay.specs.declared.reason.Reason.{Reason}
use Rattle.transcript_replay.specs.declared.reason.Reason.TheVariants.{Grammar, Order, Reference, Config}

-- the clock of a party stands so
abbrev pub clock_line : ℕ → ℕ → List ℕ
clock_line name now = codes "clock " ++ (decimal name ++ (codes " " ++ (decimal now ++ codes "\n")))

-- a run was opened
abbrev pub run_line : ℕ → List ℕ
run_line run = codes "run " ++ (decimal run ++ codes "\n")

-- a run took the message of that pass
abbrev pub took_line : ℕ → ℕ → List ℕ
took_line run pass = codes "took " ++ (decimal run ++ (codes " " ++ (decimal pass ++ codes "\n")))

-- a run was dropped
abbrev pub dropped_line : ℕ → List ℕ
dropped_line run = codes "dropped " ++ (decimal run ++ codes "\n")

-- a run sent a message
abbrev pub sent_line : ℕ → ℕ → Tree → List ℕ
sent_line message run t = codes "sent " ++ (decimal message ++ (codes " " ++ (decimal run ++ (codes " " ++ (notation (plain t) ++ codes "\n")))))

-- the partner of a run, or none
abbrev pub partner_word : Option ℕ → List ℕ
partner_word (Some q) = codes "partner " ++ decimal q
partner_word None = codes "partner -"

-- what a completed run may rely on: nothing, or a partner
abbrev pub claim_word : Option (Option ℕ) → List ℕ
claim_word None = codes "no-claim"
claim_word (Some q) = partner_word q

-- a run by its number, its mechanism and its role
abbrev pub who_words : ℕ → Head → List ℕ
who_words run h = decimal run ++ (codes " " ++ (mech_name h.mech ++ (codes " " ++ role_name h.role)))

-- a run is done; no mechanism that lines may name makes a key
abbrev pub done_line : ℕ → Head → Option (Option ℕ) → List ℕ
done_line run h claim = codes "done " ++ (who_words run h ++ (codes " - " ++ (claim_word claim ++ codes "\n")))

-- an event was refused
abbrev pub refused_line : Refusal → List ℕ
refused_line e = codes "refused " ++ (refusal_text e ++ codes "\n")

-- why a line is bad
abbrev pub reason_word : Reason → List ℕ
reason_word Grammar = codes "Grammar"
reason_word Order = codes "Order"
reason_word Reference = codes "Reference"
reason_word Config = codes "Config"

-- a line is bad
abbrev pub bad_line : ℕ → Reason → List ℕ
bad_line number r = codes "bad " ++ (decimal number ++ (codes " " ++ (reason_word r ++ codes "\n")))
