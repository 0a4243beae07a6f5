use Rattle.std.proofs.Common.{length, ap, arith}
use Rattle.bit_fields.proofs.Texts.{text-length}
use Rattle.bit_fields.proofs.text.BitText.len.Goals as goal

pub overflow_mul-result-2 : goal.overflow_mul-result-2
overflow_mul-result-2 c =
    let b = c.self.inside.bits in
    omega (arith, c.self.invariant.1, text-length b.full.items b.last.items b.at c.self.invariant.0, b.full.ok.0, c.len.ensures)

pub overflow_add-result : goal.overflow_add-result
overflow_add-result c =
    let b = c.self.inside.bits in
    omega (arith, c.self.invariant.1, text-length b.full.items b.last.items b.at c.self.invariant.0, b.full.ok.0, c.len.ensures)

pub returns : goal.returns
returns c =
    let b = c.self.inside.bits in
    omega (arith, ap length c.self.view_is, text-length b.full.items b.last.items b.at c.self.invariant.0, b.full.ok.0, c.len.ensures)
