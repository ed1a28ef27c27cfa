use Rattle.std.proofs.Common.{◌≡◌, ◌-◌, length, refl, subst, sym, ◌∙◌, arith}
use Rattle.tagged_codec.proofs.Fields.{IsBytes, IsBytes-take}
use Rattle.tagged_codec.proofs.Terms.{is_found, no_longer}
use Rattle.tagged_codec.proofs.Places.{again_absent, again_found, fault_of, no_further, same_fault}
use Rattle.tagged_codec.proofs.decoding.decode.Goals as goal

pub prove-unreachable-requires : goal.prove-unreachable-requires
prove-unreachable-requires c =
    let fits : IsBytes c.first_bytes-front.result.now = subst IsBytes (sym c.first_bytes-front.ensures) (IsBytes-take 8192 c.args.bytes.now (λ i. omega (arith, c.type_inv.bytes i))) in
    omega (arith, no_longer c.first_bytes-front.result.now (c.in-Ok.term, c.term.new.self.rest.now) fits c.in-Ok.ensures)

pub prove-unreachable-requires-in-Err-Malformed : goal.prove-unreachable-requires-in-Err-Malformed
prove-unreachable-requires-in-Err-Malformed c =
    omega (arith, no_further c.args.bytes.now c.first_bytes-front.result.now (c.in-Err-Malformed.why, c.term.new.self.rest.now) (λ i. omega (arith, c.type_inv.bytes i)) c.first_bytes-front.ensures (rw c.in-Err-Malformed.field-0-is at c.in-Err-Malformed.ensures))

pub returns-in-Ok-clause-found : goal.returns-in-Ok-clause-found
returns-in-Ok-clause-found c =
    is_found c.args.bytes.now c.first_bytes-front.result.now (c.in-Ok.term, c.term.new.self.rest.now) _ (λ i. omega (arith, c.type_inv.bytes i)) c.first_bytes-front.ensures c.in-Ok.ensures refl

pub returns-in-Ok-clause-again : goal.returns-in-Ok-clause-again
returns-in-Ok-clause-again c = λ t words rest h e.
    let f = is_found c.args.bytes.now c.first_bytes-front.result.now (c.in-Ok.term, c.term.new.self.rest.now) _ (λ i. omega (arith, c.type_inv.bytes i)) c.first_bytes-front.ensures c.in-Ok.ensures refl in
    again_found c.args.bytes.now t words rest c.in-Ok.term _ h e f.0 f.1

pub returns-in-Err-Malformed-clause-malformed : goal.returns-in-Err-Malformed-clause-malformed
returns-in-Err-Malformed-clause-malformed c = λ place why e.
    let f = fault_of c.args.bytes.now c.first_bytes-front.result.now (c.in-Err-Malformed.why, c.term.new.self.rest.now) _ (λ i. omega (arith, c.type_inv.bytes i)) c.first_bytes-front.ensures (rw c.in-Err-Malformed.field-0-is at c.in-Err-Malformed.ensures) refl in
    let p : length c.first_bytes-front.result.now - length c.term.new.self.rest.now ≡ place = cc in
    let w : c.reason.result ≡ why = cc in
    same_fault c.args.bytes.now _ place _ why p (sym c.reason.ensures ∙ w) f

pub returns-in-Err-Malformed-clause-again : goal.returns-in-Err-Malformed-clause-again
returns-in-Err-Malformed-clause-again c = λ t words rest h e.
    let f = fault_of c.args.bytes.now c.first_bytes-front.result.now (c.in-Err-Malformed.why, c.term.new.self.rest.now) _ (λ i. omega (arith, c.type_inv.bytes i)) c.first_bytes-front.ensures (rw c.in-Err-Malformed.field-0-is at c.in-Err-Malformed.ensures) refl in
    absurd (again_absent c.args.bytes.now t words rest _ _ h e f)
