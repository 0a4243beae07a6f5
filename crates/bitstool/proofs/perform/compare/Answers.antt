use Rattle.std.proofs.Common.{arith}
use Rattle.bitstool.proofs.Comparing.{compared, compared_taken, misread, misread_taken}
use Rattle.bitstool.proofs.perform.compare.Goals as goal

pub returns-in-Ok-clause-taken : goal.returns-in-Ok-clause-taken
returns-in-Ok-clause-taken g c explain =
    let found = rw c.in-Ok.is at (rw c.info.ensures at c.first_difference_in_parts-answer.ensures) in
    compared_taken c.args.left.now c.args.limits c.args.first (g.S.Source.incoming c.args.source) (g.S.Source.incoming c.first_difference_in_parts-answer.result.1) explain c.in-Ok.found found

pub returns-in-Ok-clause-found : goal.returns-in-Ok-clause-found
returns-in-Ok-clause-found g c =
    let found = rw c.in-Ok.is at (rw c.info.ensures at c.first_difference_in_parts-answer.ensures) in
    compared c.args.left.now c.args.limits c.args.first (g.S.Source.incoming c.args.source) (g.S.Source.incoming c.first_difference_in_parts-answer.result.1) c.in-Ok.found found

pub returns-in-Err-clause-taken : goal.returns-in-Err-clause-taken
returns-in-Err-clause-taken g c explain =
    let found = rw c.in-Err.is at (rw c.info.ensures at c.first_difference_in_parts-answer.ensures) in
    rw (c.outcome_in-outcome.ensures, c.bytes.ensures.bytes) (misread_taken c.args.left.now c.args.limits c.args.first (g.S.Source.incoming c.args.source) (g.S.Source.incoming c.first_difference_in_parts-answer.result.1) (omega (arith, c.bytes.ensures.capped.bytes)) explain c.in-Err.misread found)

pub returns-in-Err-clause-found : goal.returns-in-Err-clause-found
returns-in-Err-clause-found g c =
    let found = rw c.in-Err.is at (rw c.info.ensures at c.first_difference_in_parts-answer.ensures) in
    rw c.outcome_in-outcome.ensures (misread c.args.left.now c.args.limits c.args.first (g.S.Source.incoming c.args.source) (g.S.Source.incoming c.first_difference_in_parts-answer.result.1) c.bytes.result c.in-Err.misread found)
