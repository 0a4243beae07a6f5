use Rattle.bitstool.proofs.Doing.{assembled}
use Rattle.bitstool.proofs.perform.perform_assemble.Goals as goal

pub returns : goal.returns
returns g c =
    rw (c.outcome_of_assembling.ensures, c.bytes.ensures.bytes) (assembled c.args.limits (g.S.Source.incoming c.args.source) (g.S.Source.incoming c.assemble-answer.result.1) (g.K.Sink.outgoing c.args.sink) (g.K.Sink.outgoing c.assemble-answer.result.2) c.assemble-answer.result.0 c.assemble-answer.ensures)
