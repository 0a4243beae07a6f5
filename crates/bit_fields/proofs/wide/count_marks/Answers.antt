use Rattle.std.proofs.Common.{take, arith}
use Rattle.std.proofs.lemmas.List.{length-take-le}
use Rattle.bit_fields.proofs.Wides.{marks_le}
use Rattle.bit_fields.proofs.wide.count_marks.Goals as goal

pub overflow_add-count : goal.overflow_add-count
overflow_add-count c =
    let front = take c.loop-unit.unit-index c.args.units.now in
    omega (arith, c.loop-unit.invariant, marks_le front, length-take-le c.loop-unit.unit-index c.args.units.now)
