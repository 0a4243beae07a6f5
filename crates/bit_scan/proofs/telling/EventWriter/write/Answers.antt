use Rattle.std.proofs.Common.{Ok, Err}
use Rattle.std.proofs.lemmas.Result.{err_from_is_err_and}
use Rattle.bit_events.specs.EventView.{event_shown}
use Rattle.bit_scan.specs.Styles.{styled_event}
use Rattle.bit_scan.proofs.Tellings.{line_failed, line_written, none_kept, none_printed}
use Rattle.bit_scan.proofs.telling.EventWriter.write.Goals as goal

pub returns-in_default-clause-fails : goal.returns-in_default-clause-fails
returns-in_default-clause-fails g c =
    let w = c.args.self.now in
    none_printed (styled_event w.style w.around (event_shown c.args.event)) w.printer

pub returns-in_err-kept-clause-fails : goal.returns-in_err-kept-clause-fails
returns-in_err-kept-clause-fails g c =
    let w = c.args.self.now in
    let p = err_from_is_err_and c.from_residual.result c.from_residual.ensures.1 in
    rw p.1 (line_failed w.style w.around (event_shown c.args.event) w.printer c.write_styled-done.new.printer c.write_styled-done.result w.stopped (Err c.in_err-kept.field-0.0) c.kept.new.stopped c.write_styled-done.ensures c.in_err-kept.ensures)

pub returns-clause-written : goal.returns-clause-written
returns-clause-written g c =
    let w = c.args.self.now in
    line_written (styled_event w.style w.around (event_shown c.args.event)) w.printer c.write_styled-done.new.printer c.write_styled-done.result w.stopped (Ok tt) c.kept.new.stopped c.write_styled-done.ensures c.in_ok-kept.ensures

pub returns-clause-stopped : goal.returns-clause-stopped
returns-clause-stopped g c = none_kept c.write_styled-done.result c.args.self.now.stopped (Ok tt) c.kept.new.stopped c.in_ok-kept.ensures
