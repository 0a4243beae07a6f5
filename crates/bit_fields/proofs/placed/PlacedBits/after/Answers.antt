use Rattle.std.proofs.Common.{arith}
use Rattle.bit_fields.proofs.Placing.{length_at}
use Rattle.bit_fields.proofs.placed.PlacedBits.after.Goals as goal

pub overflow_add-result : goal.overflow_add-result
overflow_add-result c = omega (arith, length_at c.args.self.at c.args.self.bytes.now)

pub invariant_of-result : goal.invariant_of-result
invariant_of-result c = record { there = omega (arith, length_at c.args.self.at c.args.self.bytes.now); fits = omega arith }
