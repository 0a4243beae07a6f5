use Rattle.std.proofs.Common.{◌≡◌, ◌∙◌, ◌+◌, ◌-◌, ◌++◌, List, ℕ, arith, ap, take, drop, length, length-append, length-drop}
use Rattle.bit_norm.specs.Rejoined.{held_of, owed_of}
use lib.Seq.{take-append_seam}
use Rattle.bit_norm.proofs.GivenAgain.{gave_again, gave_behind, none_behind}
use Rattle.bit_norm.proofs.rejoined.RejoinedSource.pull.Goals as goal

pub returns-then-not-is_over : goal.returns-then-not-is_over
returns-then-not-is_over g c =
    let began = c.in_ok-begin.ensures.began in
    let given = c.take-given.result.now in
    let rest = drop (length given) c.args.into.now in
    let whole = c.copy_from_slice.new.self ++ rest in
    let same : c.copy_from_slice.new.self ≡ given = c.copy_from_slice.ensures.after in
    let taken : take (length given) whole ≡ given = ap (λ (s : List ℕ). take (length given) (s ++ rest)) same ∙ take-append_seam given rest in
    let long : length whole ≡ length given + length rest = length-append c.copy_from_slice.new.self rest ∙ ap (λ (s : List ℕ). length s + length rest) same in
    let left : length rest ≡ length c.args.into.now - length given = length-drop (length given) c.args.into.now in
    let held = rw (began.2) at c.take-given.ensures.held in
    let some = rw (began.2) at c.take-given.ensures.some in
    let goes_on = rw (began.2) at (c.is_over.ensures.goes_on c.if-not-is_over.true) in
    let owed = rw (began.2) at c.take-given.ensures.owed in
    let fewer = rw (began.2) at c.take-given.ensures.fewer in
    rw (began.2, began.0) (gave_again (held_of c.args.self.now.again) given (held_of c.take-given.new.self) (owed_of c.args.self.now.again) (owed_of c.take-given.new.self) c.args.self.now.pulls (length given) (g.S.Source.incoming c.args.self.now.source) whole began.1 held owed fewer taken (omega (arith, long)) (λ room. some (omega (arith, long, left, room, c.take-given.ensures.few)) goes_on))

pub returns-in-Ok : goal.returns-in-Ok
returns-in-Ok g c =
    let began = c.in_ok-begin.ensures.began in
    let over = rw (began.2) at (c.is_over.ensures.over c.if-not-is_over.false) in
    let gave = rw (began.2) at c.in-Ok.ensures in
    rw (began.2, began.0, over.0, over.1) (gave_behind c.args.self.now.pulls c.in-Ok.count (g.S.Source.incoming c.args.self.now.source) (g.S.Source.incoming c.pull.new.self) c.pull.new.into began.1 gave)

pub returns-in-Err : goal.returns-in-Err
returns-in-Err g c =
    let began = c.in_ok-begin.ensures.began in
    let over = rw (began.2) at (c.is_over.ensures.over c.if-not-is_over.false) in
    let none = rw (began.2) at c.in-Err.ensures in
    rw (began.2, began.0, over.0, over.1) (none_behind c.args.self.now.pulls (g.S.Source.incoming c.args.self.now.source) (g.S.Source.incoming c.pull.new.self) began.1 none)
