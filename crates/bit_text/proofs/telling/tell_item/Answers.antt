use Rattle.std.proofs.Common.{arith}
use Rattle.std.proofs.lemmas.Result.{err_from_is_err_and}
use Rattle.bit_text.specs.Stops.{call_of}
use Rattle.bit_norm.specs.Telling.{at_top, where_after}
use Rattle.bit_text.proofs.Tellings.{depth_told, too_far_in, odd_spaces, item_told, item_misfit}
use Rattle.bit_text.proofs.telling.tell_item.Goals as goal

pub returns-then-depth-spaces : goal.returns-then-depth-spaces
returns-then-depth-spaces c = λ magic calls was.
    let deep = depth_told c.args.limits magic calls c.args.writer.now was in
    too_far_in c.args.limits (where_after calls at_top) c.args.spaces (call_of c.args.item c.args.numbers.now) (omega (arith, deep, c.depth.ensures, c.if-depth-spaces.true))

pub returns-then-spaces-ne0 : goal.returns-then-spaces-ne0
returns-then-spaces-ne0 c = λ magic calls was.
    let deep = depth_told c.args.limits magic calls c.args.writer.now was in
    odd_spaces c.args.limits (where_after calls at_top) c.args.spaces (call_of c.args.item c.args.numbers.now) (omega (arith, deep, c.depth.ensures, c.if-depth-spaces.false)) c.if-spaces-ne0.true

pub returns-in_err-close : goal.returns-in_err-close
returns-in_err-close c =
    let failed = err_from_is_err_and c.from_residual.result c.from_residual.ensures.1 in
    rw (failed.1, failed.2, c.in_err-close.ensures.memory) (λ magic calls was. tt)

pub returns-in-Ok : goal.returns-in-Ok
returns-in-Ok c = λ magic calls was.
    let deep = depth_told c.args.limits magic calls c.args.writer.now was in
    item_told c.args.limits magic calls c.args.spaces (call_of c.args.item c.args.numbers.now) c.close.new.writer c.tell.new.writer (omega (arith, deep, c.depth.ensures, c.if-depth-spaces.false)) c.if-spaces-ne0.false (c.in_ok-close.ensures.told c.args.limits magic calls was) c.in-Ok.ensures

pub returns-in-Err-Misplaced : goal.returns-in-Err-Misplaced
returns-in-Err-Misplaced c = λ magic calls was.
    let deep = depth_told c.args.limits magic calls c.args.writer.now was in
    let misplaced = rw c.in-Err-Misplaced.field-0-is at c.in-Err-Misplaced.ensures in
    rw c.misfit.ensures (item_misfit c.args.limits magic calls c.args.spaces (call_of c.args.item c.args.numbers.now) c.close.new.writer c.tell.new.writer (omega (arith, deep, c.depth.ensures, c.if-depth-spaces.false)) c.if-spaces-ne0.false (c.in_ok-close.ensures.told c.args.limits magic calls was) misplaced.0 misplaced.1)
