use Rattle.bit_fields.proofs.WriterLaws.{wrote_then}
use Rattle.bit_fields.proofs.writer_laws.write_then_write.Goals as goal

pub returns : goal.returns
returns c = wrote_then
