use Rattle.bitstool.proofs.Doing.{settled}
use Rattle.bitstool.proofs.perform.perform.Goals as goal

pub returns-clause-does : goal.returns-clause-does
returns-clause-does g c =
    settled c.args.task (g.S.Source.incoming c.args.source) (g.S.Source.incoming c.carry_out-outcome.result.1) (g.K.Sink.outgoing c.args.sink) (g.K.Sink.outgoing c.carry_out-outcome.result.2) (g.K.Sink.outgoing c.settle-outcome.new.sink)
    c.carry_out-outcome.result.0 c.settle-outcome.result c.carry_out-outcome.ensures c.settle-outcome.ensures.settles
