use Rattle.std.proofs.Common.{List, ℕ}
use Rattle.bit_grammar.specs.Texts.{block_line}
use Rattle.bit_scan.proofs.Prints.{piece_settled}
use Rattle.bit_scan.proofs.printer.Printer.block_line.Goals as goal

pub returns : goal.returns
returns g c =
    let text : List ℕ = block_line c.args.around c.args.id in
    let added = c.push_block_line-added in
    rw (← c.self.view_is)
    (piece_settled text (record { outgoing = g.K.Sink.outgoing c.self.inside.sink; held = c.self.inside.held }) added.new.self added.result c.settled.result c.settled.new.self added.ensures c.settled.ensures.ok c.settled.ensures.err)
