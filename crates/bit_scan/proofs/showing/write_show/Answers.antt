use Rattle.bit_grammar.specs.Setting.{setting_of}
use Rattle.bit_scan.proofs.Showings.{not_kept, kept_shown}
use Rattle.bit_scan.proofs.showing.write_show.Goals as goal

pub returns-in-Ok : goal.returns-in-Ok
returns-in-Ok g c =
    kept_shown (setting_of c.args.info) c.args.limits (g.S.Source.incoming c.args.source) (g.S.Source.incoming c.check_keeping-kept.result.1) c.in-Ok.bytes (g.K.Sink.outgoing c.args.sink) (g.K.Sink.outgoing c.write_listing-written.result.1) c.write_listing-written.result.0 (rw c.in-Ok.is at c.check_keeping-kept.ensures)
    (rw c.deref.ensures.value at c.write_listing-written.ensures)

pub returns-in-Err : goal.returns-in-Err
returns-in-Err g c = not_kept (setting_of c.args.info) c.args.limits (g.S.Source.incoming c.args.source) (g.S.Source.incoming c.check_keeping-kept.result.1) (g.K.Sink.outgoing c.args.sink) c.in-Err.fault (rw c.in-Err.is at c.check_keeping-kept.ensures)
