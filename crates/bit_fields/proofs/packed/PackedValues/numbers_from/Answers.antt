use Rattle.std.proofs.Common.{take, arith}
use Rattle.std.proofs.lemmas.List.{length-take-le}
use Rattle.bit_fields.proofs.Standing.{stand_at_last}
use Rattle.bit_fields.proofs.packed.PackedValues.numbers_from.Goals as goal

pub returns : goal.returns
returns c =
    let s = c.self.inside in
    rw (← c.self.view_is) (stand_at_last c.args.place c.min.result s.settled (take s.held s.recent) (omega arith) (omega (arith, length-take-le s.held s.recent)))
