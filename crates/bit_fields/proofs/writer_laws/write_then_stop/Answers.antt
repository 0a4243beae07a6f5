use Rattle.bit_fields.proofs.WriterLaws.{not_written}
use Rattle.bit_fields.proofs.writer_laws.write_then_stop.Goals as goal

pub returns : goal.returns
returns c = λ a b s t fault. not_written s t a fault b
