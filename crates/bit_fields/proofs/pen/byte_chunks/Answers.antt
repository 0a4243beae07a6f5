use Rattle.bit_fields.proofs.ByteTables.{byte_spelled, byte_short}
use Rattle.bit_fields.proofs.pen.byte_chunks.Goals as goal

pub returns-clause-spelled : goal.returns-clause-spelled
returns-clause-spelled c = rw (c.from.ensures, c.from-2.ensures, c.from-place.ensures) (byte_spelled c.args.value c.ranges.value.fits)

pub returns-clause-short : goal.returns-clause-short
returns-clause-short c = rw (c.from.ensures, c.from-2.ensures, c.from-place.ensures) (byte_short c.args.value c.ranges.value.fits)
