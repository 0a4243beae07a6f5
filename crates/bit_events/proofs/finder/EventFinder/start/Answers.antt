use Rattle.std.proofs.Common.{arith}
use Rattle.std.proofs.lemmas.Result.{err_from_is_err_and}
use Rattle.bit_events.proofs.Advancing.{began, declined}
use Rattle.bit_events.proofs.finder.EventFinder.start.Goals as goal

pub returns-in_err-reader-clause-declined : goal.returns-in_err-reader-clause-declined
returns-in_err-reader-clause-declined g c =
    let p = err_from_is_err_and c.from_residual.result c.from_residual.ensures.1 in
    rw (p.1, p.2) (declined c.args.limits (g.S.Source.incoming c.args.source) c.in_err-reader.field-0.0.0 (g.S.Source.incoming c.in_err-reader.field-0.0.1) (omega (arith, c.bytes-bytes.ensures.capped.bytes)) c.in_err-reader.ensures.refused)

pub invariant_of-result : goal.invariant_of-result
invariant_of-result g c = record { depth = omega (arith, c.new.ensures.none); stands = λ _. c.position-reached.ensures.position; aligned = λ _ _. omega (arith, c.in_ok-reader.ensures.place); closed = λ e. absurd cc }

pub returns-clause-begun : goal.returns-clause-begun
returns-clause-begun g c = rw c.position-reached.ensures.position (began c.args.limits (g.S.Source.incoming c.args.source) c.in_ok-reader.head c.new.result (g.V.ValueKeeper.kept c.new-2.result.taker) c.in_ok-reader.reader c.bytes-bytes.ensures.capped c.new.ensures.machine (rw c.new-2.ensures.taker c.empty.ensures) c.new.ensures.none c.in_ok-reader.ensures.begun)
