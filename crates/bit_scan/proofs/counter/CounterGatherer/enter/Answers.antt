use Rattle.std.proofs.Common.{refl}
use Rattle.bit_grammar.specs.Machine.{Opened, enters}
use Rattle.bit_scan.proofs.Counted.{gathers_counts}
use Rattle.bit_scan.proofs.counter.CounterGatherer.enter.Goals as goal

pub returns-clause-gathers : goal.returns-clause-gathers
returns-clause-gathers g c =
    let opened : Opened = record { id = c.args.id; width = c.args._width; first = c.args.first; body = c.args._body } in
    gathers_counts c.args.self.now c.open_block.new.self (enters opened) c.open_block.result (λ counts is. c.open_block.ensures counts opened refl refl is)
