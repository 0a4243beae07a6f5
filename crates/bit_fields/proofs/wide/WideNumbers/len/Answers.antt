use Rattle.std.proofs.Common.{ap, length, arith}
use Rattle.bit_fields.proofs.Wides.{length_numbers}
use Rattle.bit_fields.proofs.wide.WideNumbers.len.Goals as goal

pub returns-clause-is : goal.returns-clause-is
returns-clause-is c = omega (arith, length_numbers c.self.inside.units.items c.self.inside.great.items, ap length c.self.view_is)
