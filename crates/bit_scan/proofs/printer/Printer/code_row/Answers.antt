use Rattle.std.proofs.Common.{List, string_bytes, ℕ}
use Rattle.bit_scan.specs.Lines.{code_row_text}
use Rattle.bit_scan.proofs.Prints.{piece_settled}
use Rattle.bit_scan.proofs.printer.Printer.code_row.Goals as goal

pub returns : goal.returns
returns g c =
    let text : List ℕ = code_row_text (c.args.code, c.args.row) in
    let added = c.add_piece-added in
    rw (← c.self.view_is)
    (piece_settled text (record { outgoing = g.K.Sink.outgoing c.self.inside.sink; held = c.self.inside.held }) added.new.held added.result c.settled.result c.settled.new.self (added.ensures.added (string_bytes c.self.inside.piece) text c.self.invariant c.push_code_row-pushed.ensures) c.settled.ensures.ok c.settled.ensures.err)
