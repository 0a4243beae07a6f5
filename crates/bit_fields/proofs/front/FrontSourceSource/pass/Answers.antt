use Rattle.std.proofs.Common.{arith}
use Rattle.std.proofs.lemmas.Result.{err_from_is_err_and}
use Rattle.bit_fields.proofs.Fronts.{none_front, unseen_front, unseen_nothing}
use Rattle.bit_fields.proofs.front.FrontSourceSource.pass.Goals as goal

pub returns-in-Ok : goal.returns-in-Ok
returns-in-Ok g c =
    let began = c.in_ok-room.ensures.began in
    let gave = rw (began.2) at c.in-Ok.ensures in
    rw (c.took.ensures, began.2, began.0) (unseen_front c.args.self.now.left c.args.self.now.pulls c.args.most c.in_ok-room.room c.in-Ok.count (g.S.Source.incoming c.args.self.now.source) (g.S.Source.incoming c.pass.new.self) began.1 (omega (arith, c.if-room-eq0.false)) c.in_ok-room.ensures.room gave)

pub returns-in-Err : goal.returns-in-Err
returns-in-Err g c =
    let began = c.in_ok-room.ensures.began in
    let none = rw (began.2) at c.in-Err.ensures in
    rw (began.2, began.0) (none_front c.args.self.now.left c.args.self.now.pulls (g.S.Source.incoming c.args.self.now.source) (g.S.Source.incoming c.pass.new.self) began.1 (omega (arith, c.in_ok-room.ensures.room, c.if-room-eq0.false)) none)

pub returns-in_err-room : goal.returns-in_err-room
returns-in_err-room g c =
    let p = err_from_is_err_and c.from_residual.result c.from_residual.ensures.1 in
    rw (p.1) c.in_err-room.ensures.failed

pub returns-then-room-eq0 : goal.returns-then-room-eq0
returns-then-room-eq0 g c =
    let began = c.in_ok-room.ensures.began in
    rw (began.2, began.0) (unseen_nothing c.args.self.now.left c.args.self.now.pulls c.args.most (g.S.Source.incoming c.args.self.now.source) began.1 (omega (arith, c.requires, c.if-room-eq0.true, c.in_ok-room.ensures.room)))
