use Rattle.std.proofs.Common.{List, ℕ, ◌++◌}
use Rattle.bit_scan.specs.Json.{comma, number_json}
use Rattle.bit_scan.proofs.Prints.{piece_settled}
use Rattle.bit_scan.proofs.printer.Printer.number_item.Goals as goal

pub returns : goal.returns
returns g c =
    let text : List ℕ = comma c.args.place ++ number_json c.args.number in
    let added = c.push_item-added in
    rw (← c.self.view_is)
    (piece_settled text (record { outgoing = g.K.Sink.outgoing c.self.inside.sink; held = c.self.inside.held }) added.new.self added.result c.settled.result c.settled.new.self added.ensures c.settled.ensures.ok c.settled.ensures.err)
