use Rattle.std.proofs.Common.{List, ℕ}
use Rattle.bit_scan.specs.Json.{joined_from, number_json}
use Rattle.bit_scan.proofs.Prints.{piece_settled}
use Rattle.bit_scan.proofs.printer.Printer.byte_items.Goals as goal

pub returns : goal.returns
returns g c =
    let text : List ℕ = joined_from number_json c.args.place c.args.values.now in
    let added = c.push_byte_items-added in
    rw (← c.self.view_is)
    (piece_settled text (record { outgoing = g.K.Sink.outgoing c.self.inside.sink; held = c.self.inside.held }) added.new.self added.result c.settled.result c.settled.new.self added.ensures c.settled.ensures.ok c.settled.ensures.err)
