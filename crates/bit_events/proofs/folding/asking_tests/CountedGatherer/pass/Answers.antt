use Rattle.std.proofs.Common.{List}
use Rattle.bit_grammar.specs.Machine.{Event}
use Rattle.bit_grammar.specs.Marks.{RecordMark}
use Rattle.bit_fields.specs.PlacedView.{placed}
use Rattle.bit_events.specs.declared.folding.asking_tests.Counted.{Counted}
use Rattle.bit_events.proofs.PassedOver.{counted_gathered}
use Rattle.bit_events.proofs.folding.asking_tests.CountedGatherer.pass.Goals as goal

pub returns-clause-gathers : goal.returns-clause-gathers
returns-clause-gathers c =
    counted_gathered (λ (first : Counted) (records : List RecordMark) (last : Counted). Unit {0}) (λ (first : Counted) (events : List Event) (last : Counted). Unit {0}) c.args.width c.args.definitions.now.all c.args.room (placed c.args.bits) c.args.self.now c.pass_records.new.counter c.args.self.now c.pass_records.new.counter c.pass_records.result (λ records counted first done was some. tt) c.pass_records.ensures.passes
