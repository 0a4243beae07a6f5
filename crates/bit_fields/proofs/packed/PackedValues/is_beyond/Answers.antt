use Rattle.std.proofs.Common.{◌≡◌, ◌++◌, take, ap, arith}
use Rattle.std.proofs.lemmas.List.{append_cancel_left}
use Rattle.bit_fields.proofs.Unlike.{same_if_none}
use Rattle.bit_fields.proofs.packed.PackedValues.is_beyond.Goals as goal

pub returns-then-has_parts_of : goal.returns-then-has_parts_of
returns-then-has_parts_of c =
    let s = c.self.inside in
    let o = c.other.inside in
    let same : s.settled ≡ o.settled = c.has_parts_of.ensures c.if-has_parts_of.true in
    rw (← c.self.view_is, ← c.other.view_is, same)
    (λ yes. ap (λ vs. o.settled ++ vs) (c.are_same.ensures.0 yes), λ e. c.are_same.ensures.1 (append_cancel_left o.settled (take s.held s.recent) (take o.held o.recent) e))

pub returns-then-len : goal.returns-then-len
returns-then-len c = same_if_none c.first_apart.result c.is_none.result c.args.self.now c.args.other.now (omega arith) c.first_apart.ensures c.is_none.ensures
