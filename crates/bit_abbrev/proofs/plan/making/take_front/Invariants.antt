use Rattle.std.proofs.Common.{take}
use Rattle.bit_abbrev.specs.Plans.{Covers}
use Rattle.bit_abbrev.proofs.plan.making.take_front.Given as goal

abbrev pub invariant-loop-count : goal.invariant-loop-count
invariant-loop-count l = Covers (take l.count l.ops) l.passes
