use Rattle.std.proofs.Common.{List, ℕ}
use Rattle.std.specs.Prelude.{codes}
use Rattle.bit_scan.specs.Json.{object_line, opened_fields}
use Rattle.bit_scan.proofs.Prints.{piece_settled}
use Rattle.bit_scan.proofs.printer.Printer.opened_object.Goals as goal

pub returns : goal.returns
returns g c =
    let text : List ℕ = object_line (codes "block") (opened_fields c.args.around c.args.opened.id c.args.opened.width c.args.opened.first c.args.opened.body) in
    let added = c.push_opened_object-added in
    rw (← c.self.view_is)
    (piece_settled text (record { outgoing = g.K.Sink.outgoing c.self.inside.sink; held = c.self.inside.held }) added.new.self added.result c.settled.result c.settled.new.self added.ensures c.settled.ensures.ok c.settled.ensures.err)
