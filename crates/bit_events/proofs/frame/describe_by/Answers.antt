use Rattle.std.proofs.Common.{◌∙◌}
use Rattle.std.proofs.lemmas.Result.{err_from_is_err_and}
use Rattle.bit_events.specs.FrameView.{describing_shown}
use Rattle.bit_events.proofs.Framing.{described_first, other_took, other_wrong, set_took, set_wrong}
use Rattle.bit_events.proofs.frame.describe_by.Goals as goal

pub returns-in_err-judge : goal.returns-in_err-judge
returns-in_err-judge g c = λ values is.
    let p = err_from_is_err_and c.from_residual.result c.from_residual.ensures.1 in
    let judged = rw c.is_some.ensures at c.in_err-judge.ensures.takes in
    rw (p.1, p.2) (other_wrong (describing_shown c.args.info.now) c.args.first c.args.code values c.args.reader.now c.in_err-judge.field-0.0 c.judge.new.self c.if-code-ne-SET_BID.true judged)

pub returns-then-code-ne-SET_BID : goal.returns-then-code-ne-SET_BID
returns-then-code-ne-SET_BID g c = λ values is.
    let judged = rw c.is_some.ensures at c.in_ok-judge.ensures.takes in
    other_took (describing_shown c.args.info.now) c.args.first c.args.code values c.args.reader.now c.judge.new.self c.if-code-ne-SET_BID.true judged

pub returns-in_err-judge-2 : goal.returns-in_err-judge-2
returns-in_err-judge-2 g c = λ values is.
    let p = err_from_is_err_and c.from_residual-in_err-judge-2.result c.from_residual-in_err-judge-2.ensures.1 in
    let id = c.described_id-id.ensures ∙ described_first c.args.value values is in
    let judged = rw (c.is_some-2.ensures, id) at c.in_err-judge-2.ensures.takes in
    rw (p.1, p.2) (set_wrong (describing_shown c.args.info.now) c.args.first c.args.code values c.args.reader.now c.in_err-judge-2.field-0.0 c.judge-2.new.self c.if-code-ne-SET_BID.false judged)

pub returns : goal.returns
returns g c = λ values is.
    let id = c.described_id-id.ensures ∙ described_first c.args.value values is in
    let judged = rw (c.is_some-2.ensures, id) at c.in_ok-judge-2.ensures.takes in
    let holds = rw (c.is_some-2.ensures, id) at c.in_ok-judge-2.ensures.holds in
    rw id (set_took (describing_shown c.args.info.now) c.args.first c.args.code values c.args.reader.now c.judge-2.new.self c.if-code-ne-SET_BID.false holds judged)
