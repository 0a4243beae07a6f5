use Rattle.std.proofs.Common.{[], refl, arith}
use Rattle.bitstool.specs.declared.beginning.Beginning.TheVariants.{Unknown}
use Rattle.bitstool.specs.declared.outcome.Outcome.TheVariants.{Read}
use Rattle.bitstool.proofs.Looking.{begins_nothing, does_before, does_none}
use Rattle.bitstool.proofs.run.obey_task.Goals as goal

pub returns-in-Ok-clause-runs : goal.returns-in-Ok-clause-runs
returns-in-Ok-clause-runs g c =
    let does = does_before c.args.task _ _ _ _ _ _ c.in-Ok.ensures.looked c.perform-outcome.ensures.does in
    (_, _, does, rw c.most_shown.ensures at c.in-Ok.ensures.like, rw (c.shapes-shapes.ensures, c.limits.ensures) at c.tell_command-status.ensures)

pub returns-in-Err-clause-runs : goal.returns-in-Err-clause-runs
returns-in-Err-clause-runs g c = (Read, Unknown, does_none _ _ c.in-Err.ensures.failed c.args.task _, ([], begins_nothing _, omega arith, refl), c.tell-status.ensures)
