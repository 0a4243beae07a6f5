use Rattle.bit_events.proofs.open_blocks.OpenBlocks.take.Goals as goal

pub returns-in-Leave-clause-stands : goal.returns-in-Leave-clause-stands
returns-in-Leave-clause-stands g c = λ told. rw c.in-Leave.is (c.leave.ensures.ids c.in-Leave.after)
