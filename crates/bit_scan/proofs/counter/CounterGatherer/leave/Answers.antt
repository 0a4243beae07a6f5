use Rattle.bit_grammar.specs.Machine.{leaves}
use Rattle.bit_scan.proofs.Counted.{gathers_counts}
use Rattle.bit_scan.proofs.counter.CounterGatherer.leave.Goals as goal

pub returns-clause-gathers : goal.returns-clause-gathers
returns-clause-gathers g c = gathers_counts c.args.self.now c.end_block.new.self (leaves c.args.after) c.end_block.result c.end_block.ensures
