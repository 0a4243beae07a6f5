use Rattle.bit_fields.proofs.LentParts.{fixed_reads}
use Rattle.bit_fields.proofs.buffered.Buffered.held_byte.Goals as goal

pub returns-clause-reads : goal.returns-clause-reads
returns-clause-reads c = fixed_reads 8 c.in_ok-value.value c.args.self.now c.held_part.new.self (c.in_ok-value.ensures.reads c.args.self.now.position)
