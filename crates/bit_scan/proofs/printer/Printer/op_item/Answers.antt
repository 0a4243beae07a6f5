use Rattle.std.proofs.Common.{List, string_bytes, ℕ, ◌++◌}
use Rattle.bit_scan.specs.Json.{comma, op_json}
use Rattle.bit_scan.proofs.Prints.{piece_settled}
use Rattle.bit_scan.proofs.printer.Printer.op_item.Goals as goal

pub returns : goal.returns
returns g c =
    let text : List ℕ = comma c.args.place ++ op_json c.args.op in
    let added = c.add_piece-added in
    rw (← c.self.view_is)
    (piece_settled text (record { outgoing = g.K.Sink.outgoing c.self.inside.sink; held = c.self.inside.held }) added.new.held added.result c.settled.result c.settled.new.self (added.ensures.added (string_bytes c.self.inside.piece) text c.self.invariant c.push_op_item-pushed.ensures) c.settled.ensures.ok c.settled.ensures.err)
