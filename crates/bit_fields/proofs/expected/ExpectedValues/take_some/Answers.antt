use Rattle.std.proofs.Common.{◌+◌, ℕ, refl, ap, ◌∙◌}
use Rattle.bit_fields.proofs.Expecting.{others_next, same_next}
use Rattle.bit_fields.proofs.expected.ExpectedValues.take_some.Goals as goal

pub returns-then-ne-clause-err : goal.returns-then-ne-clause-err
returns-then-ne-clause-err c = (refl, others_next c.min-count.result c.ne.result c.args.bytes.now c.next_bytes-held.result.now c.args.self.now c.next_bytes-held.ensures c.min-count.ensures c.ne.ensures c.if-ne.true)

pub returns-clause-ok : goal.returns-clause-ok
returns-clause-ok c =
    let taken = ap (λ (k : ℕ). record c.args.self.now { taken = k + c.min-count.result }) c.taken.ensures.is in
    (c.move_to.ensures ∙ taken, same_next c.min-count.result c.ne.result c.args.bytes.now c.next_bytes-held.result.now c.args.self.now c.next_bytes-held.ensures c.ne.ensures c.if-ne.false)
