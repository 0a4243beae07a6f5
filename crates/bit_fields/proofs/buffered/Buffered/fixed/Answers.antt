use Rattle.bit_fields.proofs.LentParts.{fixed_reads}
use Rattle.bit_fields.proofs.buffered.Buffered.fixed.Goals as goal

pub returns-clause-reads : goal.returns-clause-reads
returns-clause-reads c = fixed_reads c.args.n.bits c.in_ok-value.value c.args.self.now c.part.new.self (c.in_ok-value.ensures.reads c.args.self.now.position)
