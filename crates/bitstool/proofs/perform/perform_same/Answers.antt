use Rattle.bitstool.proofs.Doing.{told_same}
use Rattle.bitstool.proofs.perform.perform_same.Goals as goal

pub returns : goal.returns
returns g c =
    told_same c.args.left c.args.limits c.args.first c.args.explain (g.S.Source.incoming c.args.source) (g.S.Source.incoming c.compare-found.result.1) (g.K.Sink.outgoing c.args.sink) (g.K.Sink.outgoing c.tell_found-outcome.new.sink) c.tell_found-outcome.result
    c.compare-found.result.0 (c.compare-found.ensures.taken c.args.explain) c.compare-found.ensures.found c.tell_found-outcome.ensures
