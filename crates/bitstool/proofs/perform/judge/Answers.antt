use Rattle.bitstool.proofs.Doing.{refused_here}
use Rattle.bitstool.proofs.perform.judge.Goals as goal

pub returns-in-Err : goal.returns-in-Err
returns-in-Err g c = rw (c.outcome_of.ensures, c.bytes.ensures.bytes) (refused_here c.args.limits (g.S.Source.incoming c.args.source) (g.S.Source.incoming c.check-answer.result.1) c.in-Err.fault (rw c.in-Err.is at c.check-answer.ensures))
