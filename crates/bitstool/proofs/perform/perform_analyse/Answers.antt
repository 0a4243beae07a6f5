use Rattle.bitstool.proofs.Doing.{told_report}
use Rattle.bitstool.proofs.perform.perform_analyse.Goals as goal

pub returns : goal.returns
returns g c = rw (c.outcome_of_writing.ensures, c.bytes.ensures.bytes) (told_report c.args.format c.args.limits (g.S.Source.incoming c.args.source) (g.S.Source.incoming c.write_report_with_hasher-answer.result.1) (g.K.Sink.outgoing c.args.sink) (g.K.Sink.outgoing c.write_report_with_hasher-answer.result.2) c.write_report_with_hasher-answer.result.0 c.write_report_with_hasher-answer.ensures)
