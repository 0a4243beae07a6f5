use Rattle.bit_fields.proofs.LentParts.{char6_reads}
use Rattle.bit_fields.proofs.buffered.Buffered.char6.Goals as goal

pub returns-clause-reads : goal.returns-clause-reads
returns-clause-reads c = char6_reads c.in_ok-code.code c.character.result c.args.self.now c.part.new.self (c.in_ok-code.ensures.reads c.args.self.now.position) c.character.ensures
