use Rattle.std.proofs.Common.{codes, refl}
use Rattle.bitstool.specs.declared.task.Task.TheVariants.{Check}
use Rattle.bitstool.proofs.Doing.{done_told, never_different, no_line, stays_same}
use Rattle.bitstool.proofs.perform.perform_check.Goals.{in-Done, in_default}
use Rattle.bitstool.proofs.perform.perform_check.Goals as goal

pub returns : goal.returns
returns g c =
    let task = Check c.args.limits in
    let i = g.S.Source.incoming c.args.source in
    let now = g.S.Source.incoming c.judge-outcome.result.1 in
    let old = g.K.Sink.outgoing c.args.sink in
    elim c.match-outcome.branch [
      | in-Done w ↦
          let judged = rw w.in-Done.is at c.judge-outcome.ensures in
          rw (w.sink-is, w.outcome-is) (done_told task i now old (g.K.Sink.outgoing w.tell-outcome.new.sink) (codes "accepted\n") w.tell-outcome.result judged.0 (refl, judged.1.1.1) w.tell-outcome.ensures)
      | in_default w ↦
          rw (w.sink-is, w.outcome-is) (no_line task i now old old c.judge-outcome.result.0 w.in_default.not-Done (never_different c.args.limits i now c.judge-outcome.result.0 c.judge-outcome.ensures) (stays_same old old refl) (λ reason bit refuses. (refuses, stays_same old old refl)) c.judge-outcome.ensures)
    ]
