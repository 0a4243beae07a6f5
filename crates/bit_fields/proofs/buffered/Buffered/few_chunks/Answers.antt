use Rattle.std.proofs.Common.{arith}
use Rattle.bit_grammar.specs.Bits.{number}
use Rattle.bit_fields.specs.Short.{EndsAt}
use Rattle.bit_fields.proofs.LentParts.{few_reads}
use Rattle.bit_fields.proofs.buffered.Buffered.few_chunks.Goals as goal

pub returns-clause-reads : goal.returns-clause-reads
returns-clause-reads c =
    let ends : EndsAt c.args.n.bits c.number_bits-bits.result (number c.self.inside.window) = c.number_bits-bits.ensures.ends (omega (arith, c.if-bits-len.false, c.len.ensures.most)) in
    few_reads c.args.n.bits c.number_bits-bits.result c.self.inside.end c.take_number.result c.args.self.now c.self.inside.window c.take_number.new.self c.self.inside.bytes.now c.self.view_is c.args.n.some (omega (arith, c.if-n-gt-MOST_SHORT.false)) ends (omega (arith, c.if-bits-len.false, c.len.ensures.length)) c.self.invariant c.take_number.ensures.value c.take_number.ensures.rest
