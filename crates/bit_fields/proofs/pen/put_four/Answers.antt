use Rattle.bit_fields.proofs.pen.put_four.Goals as goal

pub returns : goal.returns
returns c = rw (c.short_chunks-a.ensures.spelled, c.short_chunks-b.ensures.spelled, c.short_chunks-c.ensures.spelled, c.short_chunks-d.ensures.spelled) at c.put_joined.ensures
