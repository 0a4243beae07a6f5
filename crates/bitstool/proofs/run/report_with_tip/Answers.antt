use Rattle.std.proofs.lemmas.Result.{err_from_is_err_and}
use Rattle.bitstool.specs.Outcome.{line_of}
use Rattle.bitstool.proofs.Putting.{front_of, text_then}
use Rattle.bitstool.proofs.run.report_with_tip.Goals as goal

pub returns-in_err-report : goal.returns-in_err-report
returns-in_err-report g c =
    let p = err_from_is_err_and c.from_residual.result c.from_residual.ensures.1 in
    rw p.1 (front_of (line_of c.args.outcome) c.args.tip.now (g.K.Sink.outgoing c.args.errors.now) (g.K.Sink.outgoing c.report.new.errors) c.in_err-report.ensures)

pub returns : goal.returns
returns g c =
    text_then (line_of c.args.outcome) c.args.tip.now (g.K.Sink.outgoing c.args.errors.now) (g.K.Sink.outgoing c.report.new.errors) (g.K.Sink.outgoing c.put_all.new.sink) c.put_all.result c.in_ok-report.ensures (rw c.as_bytes.ensures.value at c.put_all.ensures)
