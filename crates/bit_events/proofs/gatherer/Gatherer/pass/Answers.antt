use Rattle.std.proofs.Common.{[]}
use Rattle.bit_events.proofs.PassedOver.{none_gathered}
use Rattle.bit_events.proofs.gatherer.Gatherer.pass.Goals as goal

pub returns-clause-gathers : goal.returns-clause-gathers
returns-clause-gathers g c =
    ((c.none.ensures c.args.width []).less, ([], c.none.ensures c.args.width c.args._definitions.now.all, none_gathered g.Self.Gatherer.gathered c.args.self.now))
