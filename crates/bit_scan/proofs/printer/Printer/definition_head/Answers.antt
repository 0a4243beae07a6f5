use Rattle.std.proofs.Common.{List, ℕ}
use Rattle.bit_scan.specs.Lines.{definition_head}
use Rattle.bit_scan.proofs.Prints.{piece_settled}
use Rattle.bit_scan.proofs.printer.Printer.definition_head.Goals as goal

pub returns : goal.returns
returns g c =
    let text : List ℕ = definition_head c.args.around c.args.first in
    let added = c.push_definition_head-added in
    rw (← c.self.view_is)
    (piece_settled text (record { outgoing = g.K.Sink.outgoing c.self.inside.sink; held = c.self.inside.held }) added.new.self added.result c.settled.result c.settled.new.self added.ensures c.settled.ensures.ok c.settled.ensures.err)
