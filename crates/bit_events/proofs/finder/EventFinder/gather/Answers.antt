use Rattle.std.proofs.Common.{subst}
use Rattle.bit_events.specs.Coming.{Coming}
use Rattle.bit_events.specs.Folding.{EndsGathered}
use Rattle.bit_events.proofs.Rest.{rest_over}
use Rattle.bit_events.proofs.finder.EventFinder.gather.Goals as goal

pub returns-then-self : goal.returns-then-self
returns-then-self g c =
    let e = c.self.inside in
    let h = c.args.gatherer.now in
    subst (λ (s : Coming). EndsGathered g.G.Gatherer.gathered s h s h) c.self.view_is
    (rest_over g.G.Gatherer.gathered g.G.Gatherer.fails e.over e.limits e.head e.machine (g.V.ValueKeeper.kept e.values.taker) e.found e.reached e.reader h c.if-self.true c.self.invariant)
