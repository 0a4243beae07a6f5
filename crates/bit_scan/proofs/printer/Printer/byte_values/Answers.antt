use Rattle.std.proofs.Common.{List, ℕ}
use Rattle.bit_grammar.specs.Texts.{values_text}
use Rattle.bit_scan.proofs.Prints.{piece_settled}
use Rattle.bit_scan.proofs.printer.Printer.byte_values.Goals as goal

pub returns : goal.returns
returns g c =
    let text : List ℕ = values_text c.args.values.now in
    let added = c.push_byte_values-added in
    rw (← c.self.view_is)
    (piece_settled text (record { outgoing = g.K.Sink.outgoing c.self.inside.sink; held = c.self.inside.held }) added.new.self added.result c.settled.result c.settled.new.self added.ensures c.settled.ensures.ok c.settled.ensures.err)
