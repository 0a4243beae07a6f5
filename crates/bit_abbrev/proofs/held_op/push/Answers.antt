use Rattle.bit_abbrev.proofs.Encoded.{now_held}
use Rattle.bit_abbrev.proofs.held_op.push.Goals as goal

pub returns-in_ok-extend_from_slice-in-Literal-clause-ok : goal.returns-in_ok-extend_from_slice-in-Literal-clause-ok
returns-in_ok-extend_from_slice-in-Literal-clause-ok c =
    let great = c.great.ensures in
    now_held _ c.in_ok-extend_from_slice-in-Literal.ensures.items (rw c.in-Literal.is great.ops) great.whole great.none

pub returns-in_ok-extend_from_slice-in-Literal-2-clause-ok : goal.returns-in_ok-extend_from_slice-in-Literal-2-clause-ok
returns-in_ok-extend_from_slice-in-Literal-2-clause-ok c =
    let two = c.two_bytes.ensures in
    now_held _ c.in_ok-extend_from_slice-in-Literal-2.ensures.items (rw c.in-Literal-2.is two.ops) two.whole two.none

pub returns-in_ok-push-in_default-clause-ok : goal.returns-in_ok-push-in_default-clause-ok
returns-in_ok-push-in_default-clause-ok c =
    let small = c.small.ensures in
    now_held _ c.in_ok-push-in_default.ensures.items small.ops small.whole small.none
