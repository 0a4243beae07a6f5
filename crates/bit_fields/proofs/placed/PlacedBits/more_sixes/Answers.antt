use Rattle.std.proofs.Common.{◌+◌, ◌-◌, arith}
use Rattle.bit_fields.specs.Placed.{HasNumbers, bits_at}
use Rattle.bit_fields.proofs.Placing.{length_at, has_more}
use Rattle.bit_fields.proofs.placed.PlacedBits.more_sixes.Goals as goal

pub overflow_add-at : goal.overflow_add-at
overflow_add-at c = omega (arith, c.in_ok-at.ensures.has.0, length_at c.loop-left.at c.args.self.bytes.now)

pub pass_sixes-requires-clause-there : goal.pass_sixes-requires-clause-there
pass_sixes-requires-clause-there c = omega (arith, c.in_ok-at.ensures.has.0, length_at c.loop-left.at c.args.self.bytes.now)

pub loop-left-preserved : goal.loop-left-preserved
loop-left-preserved c =
    let start = c.args.self.start in
    let from = c.args.self.at in
    let at = c.loop-left.at in
    let behind = at + c.in_ok-at.field-0 in
    let to = c.pass_sixes.result.0 in
    let bytes = c.args.self.bytes.now in
    let count = c.args.count in
    let left = c.loop-left.left in
    let still = c.pass_sixes.result.1 in
    let first : HasNumbers 6 (count - (left - 1)) (bits_at start from bytes) (behind - from) = has_more 6 (count - left) 1 (count - (left - 1)) c.in_ok-at.field-0 start from at behind bytes (omega arith) c.loop-left.invariant.on (omega arith) c.loop-left.invariant.has c.in_ok-at.ensures.has in
    record {
      on = omega arith;
      there = c.pass_sixes.ensures.there;
      few = omega arith;
      has = has_more 6 (count - (left - 1)) (left - 1 - still) (count - still) (to - behind) start from behind to bytes (omega arith) (omega arith) (omega arith) first (c.pass_sixes.ensures.has start);
    }
