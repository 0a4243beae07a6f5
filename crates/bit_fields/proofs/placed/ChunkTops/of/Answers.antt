use Rattle.bit_fields.proofs.PlacedNumbers.{listed_tops}
use Rattle.bit_fields.proofs.placed.ChunkTops.of.Goals as goal

pub invariant_of-result-clause-are : goal.invariant_of-result-clause-are
invariant_of-result-clause-are c = listed_tops c.args.width.bits c.args.width.some c.args.width.few
