use Rattle.std.proofs.Common.{List, ℕ}
use Rattle.std.specs.Prelude.{codes}
use Rattle.bit_scan.specs.Json.{list_front, place_fields}
use Rattle.bit_scan.proofs.Prints.{piece_settled}
use Rattle.bit_scan.proofs.printer.Printer.definition_list.Goals as goal

pub returns : goal.returns
returns g c =
    let text : List ℕ = list_front (codes "define") (place_fields c.args.around c.args.first) (codes "operands") in
    let added = c.push_definition_list-added in
    rw (← c.self.view_is)
    (piece_settled text (record { outgoing = g.K.Sink.outgoing c.self.inside.sink; held = c.self.inside.held }) added.new.self added.result c.settled.result c.settled.new.self added.ensures c.settled.ensures.ok c.settled.ensures.err)
