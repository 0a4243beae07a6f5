use Rattle.std.proofs.Common.{◌∙◌, arith, drop, length-take, sym}
use Rattle.std.proofs.lemmas.List.{length-append, take-append-le}
use Rattle.std.proofs.lemmas.Result.{err_from_is_err_and}
use Rattle.bit_fields.proofs.Fronts.{gave_front, gave_nothing, none_front}
use Rattle.bit_fields.proofs.front.FrontSourceSource.pull.Goals as goal

pub returns-in-Ok : goal.returns-in-Ok
returns-in-Ok g c =
    let room = c.in_ok-room.ensures.room in
    let began = c.in_ok-room.ensures.began in
    let gave = rw (began.2) at c.in-Ok.ensures in
    let behind = drop c.in_ok-room.room c.args.into.now in
    rw (c.took.ensures, began.2, began.0) (gave_front c.args.self.now.left c.args.self.now.pulls c.in_ok-room.room c.in-Ok.count (g.S.Source.incoming c.args.self.now.source) (g.S.Source.incoming c.pull.new.self) c.pull.new.into _ began.1 (omega (arith, c.if-room-eq0.false)) (omega (arith, room, length-append c.pull.new.into behind, length-take c.in_ok-room.room c.args.into.now)) (omega (arith, room, length-take c.in_ok-room.room c.args.into.now)) (take-append-le c.in-Ok.count c.pull.new.into behind c.in-Ok.ensures.fits) gave)

pub returns-in-Err : goal.returns-in-Err
returns-in-Err g c =
    let began = c.in_ok-room.ensures.began in
    let none = rw (began.2) at c.in-Err.ensures in
    rw (began.2, began.0) (none_front c.args.self.now.left c.args.self.now.pulls (g.S.Source.incoming c.args.self.now.source) (g.S.Source.incoming c.pull.new.self) began.1 (omega (arith, c.in_ok-room.ensures.room, c.if-room-eq0.false)) none)

pub returns-in_err-room : goal.returns-in_err-room
returns-in_err-room g c =
    let p = err_from_is_err_and c.from_residual.result c.from_residual.ensures.1 in
    rw (p.1) c.in_err-room.ensures.failed

pub returns-then-room-eq0 : goal.returns-then-room-eq0
returns-then-room-eq0 g c =
    let began = c.in_ok-room.ensures.began in
    rw (began.2, began.0) (gave_nothing c.args.self.now.left c.args.self.now.pulls (g.S.Source.incoming c.args.self.now.source) c.args.into.now began.1 (sym c.if-room-eq0.true ∙ c.in_ok-room.ensures.room))
