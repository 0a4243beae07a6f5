use Rattle.bit_fields.proofs.Pens.{low_joined}
use Rattle.bit_fields.proofs.pen.some_chunks.Goals as goal

pub returns-clause-spelled : goal.returns-clause-spelled
returns-clause-spelled c = (low_joined c.args.value _ _ _ c.two_chunks.ensures.below c.short_chunks-chunks.ensures.below c.short_chunks-chunks.ensures.spelled c.two_chunks.ensures.spelled).1

pub returns-clause-below : goal.returns-clause-below
returns-clause-below c = (low_joined c.args.value _ _ _ c.two_chunks.ensures.below c.short_chunks-chunks.ensures.below c.short_chunks-chunks.ensures.spelled c.two_chunks.ensures.spelled).0
