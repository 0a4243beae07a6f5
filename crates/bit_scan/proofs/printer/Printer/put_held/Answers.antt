use Rattle.bit_scan.proofs.Prints.{put_printed}
use Rattle.bit_scan.proofs.printer.Printer.put_held.Goals as goal

pub returns-clause-ok : goal.returns-clause-ok
returns-clause-ok g c =
    rw (← c.self.view_is)
    (put_printed (g.K.Sink.outgoing c.self.inside.sink) (g.K.Sink.outgoing c.put_all.new.sink) c.as_bytes.result.now c.self.inside.held c.clear.new.self c.as_bytes.ensures c.clear.ensures c.in_ok-put_all.ensures.ok)
