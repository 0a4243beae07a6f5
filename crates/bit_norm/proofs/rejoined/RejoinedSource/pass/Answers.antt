use Rattle.bit_norm.specs.Rejoined.{held_of, owed_of}
use Rattle.bit_norm.proofs.GivenAgain.{unseen_again, unseen_behind, none_behind}
use Rattle.bit_norm.proofs.rejoined.RejoinedSource.pass.Goals as goal

pub returns-then-not-is_over : goal.returns-then-not-is_over
returns-then-not-is_over g c =
    let began = c.in_ok-begin.ensures.began in
    let given = c.take.result.now in
    let held = rw (began.2) at c.take.ensures.held in
    let some = rw (began.2) at c.take.ensures.some in
    let goes_on = rw (began.2) at (c.is_over.ensures.goes_on c.if-not-is_over.true) in
    let owed = rw (began.2) at c.take.ensures.owed in
    let fewer = rw (began.2) at c.take.ensures.fewer in
    rw (began.2, began.0) (unseen_again (held_of c.args.self.now.again) given (held_of c.take.new.self) (owed_of c.args.self.now.again) (owed_of c.take.new.self) c.args.self.now.pulls c.args.most (g.S.Source.incoming c.args.self.now.source) began.1 held owed fewer (some c.requires goes_on) c.take.ensures.few)

pub returns-in-Ok : goal.returns-in-Ok
returns-in-Ok g c =
    let began = c.in_ok-begin.ensures.began in
    let over = rw (began.2) at (c.is_over.ensures.over c.if-not-is_over.false) in
    let gave = rw (began.2) at c.in-Ok.ensures in
    rw (c.pass_behind.ensures.others, began.2, began.0, over.0, over.1) (unseen_behind c.args.self.now.pulls c.args.most c.in-Ok.count (g.S.Source.incoming c.args.self.now.source) (g.S.Source.incoming c.pass_behind.new.self.source) began.1 gave.passed)

pub returns-in-Err : goal.returns-in-Err
returns-in-Err g c =
    let began = c.in_ok-begin.ensures.began in
    let over = rw (began.2) at (c.is_over.ensures.over c.if-not-is_over.false) in
    let none = rw (began.2) at c.in-Err.ensures in
    rw (c.pass_behind.ensures.others, began.2, began.0, over.0, over.1) (none_behind c.args.self.now.pulls (g.S.Source.incoming c.args.self.now.source) (g.S.Source.incoming c.pass_behind.new.self.source) began.1 none.passed)
