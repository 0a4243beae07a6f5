use Rattle.std.proofs.Common.{Ok}
use Rattle.bit_grammar.specs.Machine.{defines}
use Rattle.bit_scan.proofs.Counted.{gathers_counts}
use Rattle.bit_scan.proofs.counter.CounterGatherer.defined.Goals as goal

pub returns-clause-gathers : goal.returns-clause-gathers
returns-clause-gathers g c = λ taken ops. gathers_counts c.args.self.now c.count_here.new.self (defines (record { ops = ops; first = c.args._first; after = c.args._after })) (Ok c.in_ok-count_here.field-0) c.in_ok-count_here.ensures
