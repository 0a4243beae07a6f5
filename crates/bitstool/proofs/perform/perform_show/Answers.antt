use Rattle.bitstool.proofs.Doing.{showed}
use Rattle.bitstool.proofs.perform.perform_show.Goals as goal

pub returns : goal.returns
returns g c = rw (c.outcome_of_writing.ensures, c.bytes.ensures.bytes) (showed c.args.left c.args.limits (g.S.Source.incoming c.args.source) (g.S.Source.incoming c.write_show-answer.result.1) (g.K.Sink.outgoing c.args.sink) (g.K.Sink.outgoing c.write_show-answer.result.2) c.write_show-answer.result.0 (rw c.info.ensures at c.write_show-answer.ensures))
