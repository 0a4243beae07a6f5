use Rattle.bit_fields.proofs.WriterLaws.{gained_all, gained_front}
use Rattle.bit_fields.proofs.writer_laws.bytes_of_writing.Goals as goal

pub returns-clause-all : goal.returns-clause-all
returns-clause-all c = gained_all

pub returns-clause-front : goal.returns-clause-front
returns-clause-front c = gained_front
