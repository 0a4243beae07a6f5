use Rattle.bitstool.proofs.Doing.{form_done, form_not_done}
use Rattle.bitstool.proofs.perform.perform_normal.Goals.{in-Ok, in-Err}
use Rattle.bitstool.proofs.perform.perform_normal.Goals as goal

pub returns : goal.returns
returns g c =
    let i = g.S.Source.incoming c.args.source in
    let now = g.S.Source.incoming c.normalise-answer.result.1 in
    let old = g.K.Sink.outgoing c.args.sink in
    let new = g.K.Sink.outgoing c.normalise-answer.result.2 in
    let wrote = rw c.info.ensures at c.normalise-answer.ensures in
    elim c.match-answer.branch [
      | in-Ok w ↦ rw w.outcome-is (form_done c.args.left c.args.limits i now old new _ (rw w.in-Ok.is at wrote))
      | in-Err w ↦ rw (w.outcome-is, w.outcome_of-outcome.ensures, w.bytes.ensures.bytes) (form_not_done c.args.left c.args.limits i now old new _ (rw w.in-Err.is at wrote))
    ]
