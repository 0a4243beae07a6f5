use Rattle.std.proofs.Common.{Ok}
use Rattle.std.proofs.lemmas.Result.{err_from_is_err_and}
use Rattle.bit_grammar.specs.Blocks.{end_of_block}
use Rattle.bit_events.specs.HeadView.{head_shown}
use Rattle.bit_events.proofs.Telling.{told, why, andThen, breaks, ends, here}
use Rattle.bit_events.proofs.heads.end_of_block.Goals as goal

pub returns-in_err-pad-clause-takes : goal.returns-in_err-pad-clause-takes
unfolding end_of_block
returns-in_err-pad-clause-takes g c =
    let p = err_from_is_err_and c.from_residual.result c.from_residual.ensures.1 in
    rw (p.1, p.2) (why (end_of_block (head_shown c.args.head)) c.args.reader.now c.in_err-pad.field-0.0 c.pad.new.self (breaks c.in_err-pad.ensures.takes))

pub returns-in_err-judge-clause-takes : goal.returns-in_err-judge-clause-takes
unfolding end_of_block
returns-in_err-judge-clause-takes g c =
    let p = err_from_is_err_and c.from_residual-in_err-judge.result c.from_residual-in_err-judge.ensures.1 in
    let judged = rw c.ends_at.ensures at c.in_err-judge.ensures.takes in
    rw (p.1, p.2) (why (end_of_block (head_shown c.args.head)) c.args.reader.now c.in_err-judge.field-0.0 c.judge.new.self (andThen c.in_ok-pad.ensures.takes (here _ c.position-after.ensures.position (breaks judged))))

pub returns-clause-takes : goal.returns-clause-takes
unfolding end_of_block
returns-clause-takes g c =
    let judged = rw c.ends_at.ensures at c.in_ok-judge.ensures.takes in
    told (end_of_block (head_shown c.args.head)) c.args.reader.now (Ok c.position-after.result) c.judge.new.self (andThen c.in_ok-pad.ensures.takes (here _ c.position-after.ensures.position (andThen judged (ends judged.live))))
