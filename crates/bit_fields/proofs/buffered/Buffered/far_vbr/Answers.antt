use Rattle.std.proofs.Common.{◌-◌, arith}
use Rattle.bit_grammar.specs.Fields.{vbr}
use Rattle.bit_fields.proofs.BufferedReads.{reads_beyond}
use Rattle.bit_fields.proofs.buffered.Buffered.far_vbr.Goals as goal

pub returns-in-Some-clause-reads : goal.returns-in-Some-clause-reads
returns-in-Some-clause-reads c = λ some. reads_beyond (vbr c.args.n.bits) c.args.self c.in-Some.value c.chunk_by_chunk.new.self (c.position.result - c.position-first.result) c.in-Some.ensures.reads (omega (arith, c.position.ensures, c.position-first.ensures))
