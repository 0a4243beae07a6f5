use Rattle.std.proofs.lemmas.Result.{err_from_is_err_and}
use Rattle.std.proofs.Common.{Ok}
use Rattle.bit_grammar.specs.Blocks.{block_id}
use Rattle.bit_events.proofs.Telling.{told, why, andThen, breaks, ends, here}
use Rattle.bit_events.proofs.heads.block_id.Goals as goal

pub returns-in_err-id : goal.returns-in_err-id
unfolding block_id
returns-in_err-id g c =
    let p = err_from_is_err_and c.from_residual.result c.from_residual.ensures.1 in
    rw (p.1, p.2) (why block_id c.args.reader.now c.in_err-id.field-0.0 c.vbr.new.self (here _ c.position-first.ensures.position (breaks c.in_err-id.ensures.takes)))

pub returns-in_err-judge : goal.returns-in_err-judge
unfolding block_id
returns-in_err-judge g c =
    let p = err_from_is_err_and c.from_residual-in_err-judge.result c.from_residual-in_err-judge.ensures.1 in
    rw (p.1, p.2) (why block_id c.args.reader.now c.in_err-judge.field-0.0 c.judge.new.self (here _ c.position-first.ensures.position (andThen c.in_ok-id.ensures.takes (breaks c.in_err-judge.ensures.takes))))

pub returns : goal.returns
unfolding block_id
returns g c = told block_id c.args.reader.now (Ok c.in_ok-id.id) c.judge.new.self (here _ c.position-first.ensures.position (andThen c.in_ok-id.ensures.takes (andThen c.in_ok-judge.ensures.takes (ends c.in_ok-judge.ensures.takes.live))))
