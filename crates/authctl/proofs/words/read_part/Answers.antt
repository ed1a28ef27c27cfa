use Rattle.std.proofs.Common.{sym, ◌∙◌, ap, List, ℕ, get_or}
use Rattle.authctl.proofs.Parts.{encode_injective}
use Rattle.authctl.proofs.words.read_part.Goals as goal

pub returns-then-bytes-clause-none : goal.returns-then-bytes-clause-none
returns-then-bytes-clause-none c = λ _ p given e.
    let same = encode_injective p c.in_ok-bytes.bytes given.bytes c.in_ok-bytes.ensures.bytes (sym e ∙ c.in_ok-bytes.ensures.some) in
    given.no_nonce (ap (λ (l : List ℕ). get_or l 0 0) same ∙ c.if-bytes.true)

pub returns-then-bytes-2-clause-none : goal.returns-then-bytes-2-clause-none
returns-then-bytes-2-clause-none c = λ _ p given e.
    let same = encode_injective p c.in_ok-bytes.bytes given.bytes c.in_ok-bytes.ensures.bytes (sym e ∙ c.in_ok-bytes.ensures.some) in
    given.no_part (ap (λ (l : List ℕ). get_or l 0 0) same ∙ c.if-bytes-2.true)
