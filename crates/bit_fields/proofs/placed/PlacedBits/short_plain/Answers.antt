use Rattle.std.proofs.Common.{arith}
use Rattle.bit_fields.specs.PlacedView.{placed}
use Rattle.bit_fields.proofs.PlainPlaces.{plain_below, plain_there, word_below}
use Rattle.bit_fields.proofs.placed.PlacedBits.short_plain.Goals as goal

pub overflow_mul-result : goal.overflow_mul-result
overflow_mul-result c = let has = c.in_ok-word.ensures in omega (arith, word_below c.in_ok-word.len c.in_ok-word.word has.few has.below)

pub overflow_add-result : goal.overflow_add-result
overflow_add-result c = let has = c.in_ok-word.ensures in omega (arith, word_below c.in_ok-word.len c.in_ok-word.word has.few has.below)

pub returns-clause-takes : goal.returns-clause-takes
returns-clause-takes c = λ room few. (omega arith, plain_there room c.args.count c.in_ok-word.word c.in_ok-word.len (placed c.args.self) few c.requires.count c.in_ok-word.ensures)

pub returns-clause-below : goal.returns-clause-below
returns-clause-below c = plain_below c.in_ok-word.len c.in_ok-word.word c.in_ok-word.ensures.below
