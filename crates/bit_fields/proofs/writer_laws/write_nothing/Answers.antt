use Rattle.bit_fields.proofs.WriterLaws.{wrote_nothing}
use Rattle.bit_fields.proofs.writer_laws.write_nothing.Goals as goal

pub returns : goal.returns
returns c = wrote_nothing
