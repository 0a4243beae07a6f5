use Rattle.std.proofs.Common.{List, ℕ}
use Rattle.bit_scan.specs.Lines.{noted_head}
use Rattle.bit_scan.proofs.Prints.{piece_settled}
use Rattle.bit_scan.proofs.printer.Printer.noted_head.Goals as goal

pub returns : goal.returns
returns g c =
    let text : List ℕ = noted_head c.args.around c.args.noted.first c.args.noted.code c.args.noted.abbreviation c.args.noted.count in
    let added = c.push_noted_head-added in
    rw (← c.self.view_is)
    (piece_settled text (record { outgoing = g.K.Sink.outgoing c.self.inside.sink; held = c.self.inside.held }) added.new.self added.result c.settled.result c.settled.new.self added.ensures c.settled.ensures.ok c.settled.ensures.err)
