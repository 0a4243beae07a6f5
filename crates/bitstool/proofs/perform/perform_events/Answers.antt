use Rattle.bitstool.proofs.Doing.{told_events}
use Rattle.bitstool.proofs.perform.perform_events.Goals as goal

pub returns : goal.returns
returns g c = rw (c.outcome_of_writing.ensures, c.bytes.ensures.bytes) (told_events c.args.limits c.args.style (g.S.Source.incoming c.args.source) (g.S.Source.incoming c.write_events-answer.result.1) (g.K.Sink.outgoing c.args.sink) (g.K.Sink.outgoing c.write_events-answer.result.2) c.write_events-answer.result.0 c.write_events-answer.ensures)
