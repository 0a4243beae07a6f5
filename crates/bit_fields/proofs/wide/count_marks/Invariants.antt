use Rattle.std.proofs.Common.{◌≡◌, take}
use Rattle.bit_fields.specs.Wide.{marks}
use Rattle.bit_fields.proofs.wide.count_marks.Given as goal

abbrev pub invariant-loop-unit : goal.invariant-loop-unit
invariant-loop-unit l = l.count ≡ marks (take l.unit-index l.units)
