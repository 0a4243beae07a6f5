use Rattle.std.proofs.Common.{arith}
use Rattle.bit_fields.specs.PlacedView.{placed}
use Rattle.bit_fields.proofs.Placing.{length_at}
use Rattle.bit_fields.proofs.PlacedNumbers.{count_moved}
use Rattle.bit_fields.proofs.placed.numbers.far_count.Goals as goal

pub number-requires-clause-there : goal.number-requires-clause-there
number-requires-clause-there c = omega (arith, c.requires.there, length_at c.args.at c.args.bytes.now)

pub returns : goal.returns
returns c = λ start. count_moved start c.args.at c.in_ok-behind.field-0-0 c.in_ok-count.count 64 c.args.bytes.now (placed c.in_ok-behind.behind) (placed c.in_ok-count.field-0-1) c.in_ok-behind.ensures.takes c.in_ok-count.ensures.takes
