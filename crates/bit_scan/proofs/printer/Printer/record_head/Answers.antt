use Rattle.std.proofs.Common.{List, ℕ}
use Rattle.bit_scan.specs.Lines.{record_line_front}
use Rattle.bit_scan.proofs.Prints.{piece_settled}
use Rattle.bit_scan.proofs.printer.Printer.record_head.Goals as goal

pub returns : goal.returns
returns g c =
    let text : List ℕ = record_line_front c.args.around c.args.code in
    let added = c.push_record_head-added in
    rw (← c.self.view_is)
    (piece_settled text (record { outgoing = g.K.Sink.outgoing c.self.inside.sink; held = c.self.inside.held }) added.new.self added.result c.settled.result c.settled.new.self added.ensures c.settled.ensures.ok c.settled.ensures.err)
