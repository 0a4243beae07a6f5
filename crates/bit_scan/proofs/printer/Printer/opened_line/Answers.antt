use Rattle.std.proofs.Common.{List, ℕ}
use Rattle.bit_grammar.specs.EventTexts.{line_at, opened_text}
use Rattle.bit_scan.proofs.Prints.{piece_settled}
use Rattle.bit_scan.proofs.printer.Printer.opened_line.Goals as goal

pub returns : goal.returns
returns g c =
    let text : List ℕ = line_at c.args.opened.first c.args.around (opened_text c.args.opened.id c.args.opened.width c.args.opened.body) in
    let added = c.push_opened_line-added in
    rw (← c.self.view_is)
    (piece_settled text (record { outgoing = g.K.Sink.outgoing c.self.inside.sink; held = c.self.inside.held }) added.new.self added.result c.settled.result c.settled.new.self added.ensures c.settled.ensures.ok c.settled.ensures.err)
