use Rattle.std.proofs.Common.{List, [], Option, Ok, Err, refl, ap}
use Rattle.std.specs.Prelude.{unwrap_or}
use Rattle.bit_grammar.specs.declared.op.Op.{Op}
use Rattle.std.proofs.lemmas.Result.{err_from_is_err_and}
use Rattle.bit_grammar.specs.Machine.{scope_of}
use Rattle.bit_events.specs.FrameView.{frame_shown, newest_in}
use Rattle.bit_events.proofs.Framing.{define_judged, define_missed, define_took}
use Rattle.bit_events.proofs.frame.define.Goals as goal

pub returns-in_err-judge-clause-takes : goal.returns-in_err-judge-clause-takes
returns-in_err-judge-clause-takes g c = λ handed.
    let p = err_from_is_err_and c.from_residual.result c.from_residual.ensures.1 in
    let judged = rw c.may_define.ensures at c.in_err-judge.ensures.takes in
    rw (p.1, p.2) (define_judged c.args.shapes c.args.first (scope_of (frame_shown c.args.frame.now) handed) c.args.reader.now c.in_err-judge.field-0.0 c.judge.new.self judged)

pub returns-in_err-count-clause-takes : goal.returns-in_err-count-clause-takes
returns-in_err-count-clause-takes g c = λ handed.
    let p = err_from_is_err_and c.from_residual-in_err-count.result c.from_residual-in_err-count.ensures.1 in
    let judged = rw c.may_define.ensures at c.in_ok-judge.ensures.takes in
    rw (p.1, p.2) (define_missed c.args.shapes c.args.first (scope_of (frame_shown c.args.frame.now) handed) c.args.reader.now c.judge.new.self c.in_err-count.field-0.0 c.read_count.new.reader judged (c.in_err-count.ensures.takes c.args.shapes))

pub returns-in_err-read-clause-takes : goal.returns-in_err-read-clause-takes
returns-in_err-read-clause-takes g c = λ handed.
    let p = err_from_is_err_and c.from_residual-in_err-read.result c.from_residual-in_err-read.ensures.1 in
    let judged = rw c.may_define.ensures at c.in_ok-judge.ensures.takes in
    rw (p.1, p.2) (define_missed c.args.shapes c.args.first (scope_of (frame_shown c.args.frame.now) handed) c.args.reader.now c.judge.new.self c.in_err-read.field-0.0 c.read.new.reader judged (c.in_ok-count.ensures.takes c.args.shapes (Err c.in_err-read.field-0.0) c.read.new.reader c.in_err-read.ensures.reads))

pub returns-clause-takes : goal.returns-clause-takes
returns-clause-takes g c = λ handed.
    let judged = rw c.may_define.ensures at c.in_ok-judge.ensures.takes in
    let read = c.in_ok-read.ensures.reads in
    define_took c.args.shapes c.args.first (scope_of (frame_shown c.args.frame.now) handed) c.args.reader.now c.judge.new.self read.0 c.read.new.reader c.read.new.reader c.position.result (unwrap_or (newest_in c.read.new.self) []) (scope_of (frame_shown c.read.new.self) handed) judged (c.in_ok-count.ensures.takes c.args.shapes (Ok read.0) c.read.new.reader read.1) refl c.position.ensures.position (ap (λ (o : Option (List Op)). unwrap_or o []) read.2.last) (read.2.made handed)

pub returns-clause-newest : goal.returns-clause-newest
returns-clause-newest g c = rw c.in_ok-read.ensures.reads.2.last refl
