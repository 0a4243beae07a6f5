use Rattle.std.proofs.Common.{◌≡◌, ℕ, ◌+◌, ◌-◌, ◌≤◌, length, max, subst, arith}
use Rattle.bit_grammar.specs.Normal.{values_bits}
use Rattle.bit_fields.specs.Pens.{WritesSixes}
use Rattle.bit_fields.specs.Placed.{bits_at}
use Rattle.bit_fields.proofs.Pens.{keeps_then}
use Rattle.bit_fields.proofs.Placing.{length_at}
use Rattle.bit_fields.proofs.WrittenSixes.{sixes_begun, sixes_keep, sixes_load, sixes_moved, sixes_room, sixes_then, some_place}
use Rattle.bit_fields.proofs.placed.numbers.write_sixes.Goals as goal

pub loop-left-init : goal.loop-left-init
loop-left-init c = record {
  few = omega arith;
  there = c.requires.there;
  writes = sixes_begun (c.args.count - c.args.count) (bits_at 0 c.args.place c.args.from.now) c.args.first c.args.bytes.now (omega arith);
}

-- ---- the last numbers

pub put-pen-requires-clause-room : goal.put-pen-requires-clause-room
put-pen-requires-clause-room c =
    let l = c.loop-left in
    let room = sixes_room (c.args.count - l.left) c.args.first l.pen (bits_at 0 c.args.place c.args.from.now) (bits_at 0 l.at c.args.from.now) c.args.bytes.now l.bytes l.invariant.writes in
    omega (arith, room.1, room.2)

pub overflow_add-result : goal.overflow_add-result
overflow_add-result c = omega (arith, c.has.ensures c.if-not-has.false, length_at c.loop-left.at c.args.from.now, c.in-Some.ensures.most, c.from-then-is_shortest.ensures)

pub returns-then-is_shortest-clause-writes : goal.returns-then-is_shortest-clause-writes
returns-then-is_shortest-clause-writes c = λ some start. (
    let l = c.loop-left in
    let count = c.args.count in
    let place = c.args.place in
    let from = c.args.from.now in
    let first = c.args.first in
    let old = c.args.bytes.now in
    let new = c.put-pen.new.bytes in
    let more = c.from-then-is_shortest.result in
    let all = sixes_load (count - l.left) l.left count c.in-Some.len c.from.result more place l.at first l.pen c.put-pen.result c.ends-ends.result from old l.bytes new (omega arith) (c.has.ensures c.if-not-has.false) c.in-Some.ensures.most c.from.ensures c.from-then-is_shortest.ensures (c.ends-ends.ensures.front c.in-Some.len (omega (arith, c.in-Some.ensures.most)))
    c.in-Some.ensures.reads (c.is_shortest.ensures c.if-is_shortest.true) l.invariant.writes c.put-pen.ensures in
    sixes_moved start count place (l.at + more) first c.put-pen.result (bits_at 0 (l.at + more) from) from old new (omega arith) all
    )

pub returns-then-is_shortest-clause-there : goal.returns-then-is_shortest-clause-there
returns-then-is_shortest-clause-there c = omega (arith, c.has.ensures c.if-not-has.false, length_at c.loop-left.at c.args.from.now, c.in-Some.ensures.most, c.from-then-is_shortest.ensures)

pub write_each-requires-clause-there : goal.write_each-requires-clause-there
write_each-requires-clause-there c = omega (arith, c.has.ensures c.if-not-has.false, length_at c.loop-left.at c.args.from.now)

pub write_each-requires-clause-room : goal.write_each-requires-clause-room
write_each-requires-clause-room c =
    let l = c.loop-left in
    let room = sixes_room (c.args.count - l.left) c.args.first l.pen (bits_at 0 c.args.place c.args.from.now) (bits_at 0 l.at c.args.from.now) c.args.bytes.now l.bytes l.invariant.writes in
    omega (arith, room.1, room.2)

pub returns-in-Some-clause-none : goal.returns-in-Some-clause-none
returns-in-Some-clause-none c = λ e.
    let l = c.loop-left in
    let w = l.invariant.writes in
    keeps_then (values_bits w.values) c.args.first l.pen c.args.bytes.now l.bytes c.write_each.new.bytes w.puts (c.write_each.ensures.none e)

pub returns-in-Some-clause-writes : goal.returns-in-Some-clause-writes
returns-in-Some-clause-writes c = λ some start. (
    let l = c.loop-left in
    let count = c.args.count in
    let place = c.args.place in
    let from = c.args.from.now in
    let first = c.args.first in
    let old = c.args.bytes.now in
    let new = c.write_each.new.bytes in
    let pen = c.write_each.result.0 in
    let to = c.write_each.result.1 in
    let all = sixes_then (count - l.left) l.left count (bits_at 0 place from) first old l.pen (bits_at 0 l.at from) l.bytes pen (bits_at 0 to from) new l.invariant.writes (c.write_each.ensures.writes some 0) (omega arith) in
    sixes_moved start count place to first pen (bits_at 0 to from) from old new (omega arith) all
    )

-- ---- one round

pub put-pen-requires-then-is_shortest-2-clause-room : goal.put-pen-requires-then-is_shortest-2-clause-room
put-pen-requires-then-is_shortest-2-clause-room c =
    let l = c.loop-left in
    let room = sixes_room (c.args.count - l.left) c.args.first l.pen (bits_at 0 c.args.place c.args.from.now) (bits_at 0 l.at c.args.from.now) c.args.bytes.now l.bytes l.invariant.writes in
    omega (arith, room.1, room.2)

pub overflow_add-at : goal.overflow_add-at
overflow_add-at c = omega (arith, c.has.ensures c.if-not-has.false, length_at c.loop-left.at c.args.from.now, c.numbers_in-some.ensures.bits, c.from-at.ensures)

pub loop-left-preserved-then-is_shortest-2 : goal.loop-left-preserved-then-is_shortest-2
loop-left-preserved-then-is_shortest-2 c =
    let l = c.loop-left in
    let count = c.args.count in
    let place = c.args.place in
    let from = c.args.from.now in
    let some = c.numbers_in-some.result.0 in
    let len = c.numbers_in-some.result.1 in
    let few : some ≤ l.left = omega (arith, c.numbers_in-some.ensures.most, c.min.ensures) in
    let there : 128 ≤ length (bits_at 0 l.at from).bits = c.has.ensures c.if-not-has.false in
    record {
      few = omega arith;
      there = omega (arith, there, length_at l.at from, c.numbers_in-some.ensures.bits, c.from-at.ensures);
      writes = sixes_load (count - l.left) some (count - (l.left - some)) len c.from-then-is_shortest-2.result c.from-at.result place l.at c.args.first l.pen c.put-pen-then-is_shortest-2.result c.ends-ends.result from c.args.bytes.now l.bytes c.put-pen-then-is_shortest-2.new.bytes (omega (arith, few)) there c.numbers_in-some.ensures.bits c.from-then-is_shortest-2.ensures c.from-at.ensures
          (c.ends-ends.ensures.front len (omega (arith, c.numbers_in-some.ensures.bits))) c.numbers_in-some.ensures.reads (c.is_shortest-then-some-gt0.ensures c.if-is_shortest-2.true) l.invariant.writes c.put-pen-then-is_shortest-2.ensures;
    }

pub write_odd-after-requires-clause-there : goal.write_odd-after-requires-clause-there
write_odd-after-requires-clause-there c = omega (arith, c.has.ensures c.if-not-has.false, length_at c.loop-left.at c.args.from.now)

pub write_odd-after-requires-clause-room : goal.write_odd-after-requires-clause-room
write_odd-after-requires-clause-room c =
    let l = c.loop-left in
    let room = sixes_room (c.args.count - l.left) c.args.first l.pen (bits_at 0 c.args.place c.args.from.now) (bits_at 0 l.at c.args.from.now) c.args.bytes.now l.bytes l.invariant.writes in
    omega (arith, room.1, room.2, c.numbers_in-some.ensures.most, c.min.ensures)

pub loop-left-preserved : goal.loop-left-preserved
loop-left-preserved c =
    let l = c.loop-left in
    let count = c.args.count in
    let place = c.args.place in
    let from = c.args.from.now in
    let some = c.numbers_in-some.result.0 in
    let to = c.write_odd-after.result.1 in
    let one = c.max-left.result in
    let one_is : one ≡ max some 1 = c.max-left.ensures in
    let few : max some 1 ≤ l.left = omega (arith, c.numbers_in-some.ensures.most, c.min.ensures) in
    let later = c.write_odd-after.ensures.writes (some_place to c.if-place-eq0.false) 0 in
    record {
      few = omega arith;
      there = c.write_odd-after.ensures.there;
      writes = sixes_then (count - l.left) (max some 1) (count - (l.left - one)) (bits_at 0 place from) c.args.first c.args.bytes.now l.pen (bits_at 0 l.at from) l.bytes c.write_odd-after.result.0 (bits_at 0 to from) c.write_odd-after.new.bytes l.invariant.writes later (omega (arith, one_is, few));
    }

-- ---- after the loop

pub returns-clause-none : goal.returns-clause-none
returns-clause-none c =
    let l = c.loop-left in
    λ e. sixes_keep (c.args.count - l.left) c.args.first l.pen (bits_at 0 c.args.place c.args.from.now) (bits_at 0 l.at c.args.from.now) c.args.bytes.now l.bytes l.invariant.writes

pub returns-clause-writes : goal.returns-clause-writes
returns-clause-writes c = λ some start. (
    let l = c.loop-left in
    let count = c.args.count in
    let place = c.args.place in
    let from = c.args.from.now in
    let first = c.args.first in
    let old = c.args.bytes.now in
    let none : count - l.left ≡ count = omega arith in
    let all : WritesSixes count (bits_at 0 place from) first old l.pen (bits_at 0 l.at from) l.bytes = subst (λ (n : ℕ). WritesSixes n (bits_at 0 place from) first old l.pen (bits_at 0 l.at from) l.bytes) none l.invariant.writes in
    sixes_moved start count place l.at first l.pen (bits_at 0 l.at from) from old l.bytes (omega arith) all
    )
