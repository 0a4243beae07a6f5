use Rattle.std.proofs.Common.{subst}
use Rattle.bit_scan.specs.Printing.{Printing}
use Rattle.bit_scan.specs.Styles.{fault_as}
use Rattle.bit_scan.specs.Telling.{PrintsLast, TellsAll}
use Rattle.bit_scan.proofs.Tellings.{input_told, input_declined}
use Rattle.bit_scan.proofs.telling.write_events.Goals as goal

pub returns-in-Err : goal.returns-in-Err
returns-in-Err g c =
    let printer = c.write_last-fault.new.printer in
    let last = subst (λ (p : Printing). PrintsLast (fault_as c.args.style.format c.in-Err.fault) c.in-Err.fault p c.write_last-fault.result printer) c.new.ensures c.write_last-fault.ensures in
    rw (c.into_sink.ensures) (input_declined c.args.style c.args.limits (g.S.Source.incoming c.args.source) (g.S.Source.incoming c.in-Err.source) (g.K.Sink.outgoing c.args.sink) printer c.in-Err.fault c.write_last-fault.result c.in-Err.ensures.declined last)

pub returns : goal.returns
returns g c =
    let last = c.write_all-answer.new.events in
    let printer = c.write_all-answer.new.writer.printer in
    let all = subst (λ (p : Printing). TellsAll c.args.style c.in-Ok.events p c.write_all-answer.result last printer) c.new.ensures c.write_all-answer.ensures in
    rw (c.into_source.ensures, c.into_sink-2.ensures) (input_told c.args.style c.args.limits (g.S.Source.incoming c.args.source) (g.K.Sink.outgoing c.args.sink) c.in-Ok.events last printer c.write_all-answer.result c.in-Ok.ensures.begun all)
