use Rattle.std.proofs.Common.{◌≡◌, ℕ, ◌-◌, subst, arith}
use Rattle.bit_fields.specs.Buffered.{BufferedBits}
use Rattle.bit_fields.specs.Pens.{WritesSixes}
use Rattle.bit_fields.specs.Placed.{bits_at}
use Rattle.bit_fields.specs.PlacedView.{placed}
use Rattle.bit_fields.proofs.Placing.{length_at}
use Rattle.bit_fields.proofs.WrittenSixes.{sixes_begun, sixes_keep, sixes_moved, sixes_one, sixes_room, sixes_then, sixes_there, sixes_two}
use Rattle.bit_fields.proofs.placed.numbers.write_each.Goals as goal

pub loop-left-init : goal.loop-left-init
loop-left-init c = record {
  few = omega arith;
  at = omega arith;
  fits = omega arith;
  there = omega (arith, length_at c.args.place c.args.from.now);
  writes = sixes_begun (c.args.count - c.args.count) (bits_at 0 c.args.place c.args.from.now) c.args.first c.args.bytes.now (omega arith);
}

pub put_number-requires-clause-room : goal.put_number-requires-clause-room
put_number-requires-clause-room c =
    let l = c.loop-left in
    let room = sixes_room (c.args.count - l.left) c.args.first l.pen (bits_at 0 c.args.place c.args.from.now) (bits_at l.bits.1.0 l.bits.1.1.0 l.bits.0.now) c.args.bytes.now l.bytes l.invariant.writes in
    omega (arith, room.1, room.2)

pub put_two-pen-requires-clause-room : goal.put_two-pen-requires-clause-room
put_two-pen-requires-clause-room c =
    let l = c.loop-left in
    let room = sixes_room (c.args.count - l.left) c.args.first l.pen (bits_at 0 c.args.place c.args.from.now) (bits_at l.bits.1.0 l.bits.1.1.0 l.bits.0.now) c.args.bytes.now l.bytes l.invariant.writes in
    omega (arith, room.1, room.2)

pub returns-then-left-eq1 : goal.returns-then-left-eq1
returns-then-left-eq1 c =
    let l = c.loop-left in
    let count = c.args.count in
    let place = c.args.place in
    let from = c.args.from.now in
    let first = c.args.first in
    let old = c.args.bytes.now in
    let new = c.put_number.new.bytes in
    let after = c.put_number.result in
    let here : BufferedBits = bits_at l.bits.1.0 l.bits.1.1.0 l.bits.0.now in
    let behind : BufferedBits = placed c.in-Some.behind in
    let one = sixes_one c.in-Some.one 64 l.pen after here behind l.bytes new c.in-Some.ensures.takes c.in-Some.ensures.more c.put_number.ensures in
    let all : WritesSixes count (bits_at 0 place from) first old after behind new = sixes_then (count - l.left) 1 count (bits_at 0 place from) first old l.pen here l.bytes after behind new l.invariant.writes one (omega arith) in
    record {
      none = λ e. sixes_keep count first after (bits_at 0 place from) behind old new all;
      writes = λ some start. sixes_moved start count place c.position.result first after behind from old new c.position.ensures all;
      there = sixes_there count place c.position.result first after behind from old new (omega arith) c.position.ensures all;
    }

pub loop-left-preserved : goal.loop-left-preserved
loop-left-preserved c =
    let l = c.loop-left in
    let count = c.args.count in
    let first = c.args.first in
    let start : BufferedBits = bits_at 0 c.args.place c.args.from.now in
    let here : BufferedBits = bits_at l.bits.1.0 l.bits.1.1.0 l.bits.0.now in
    let behind : BufferedBits = placed c.in-Some.behind in
    let after : BufferedBits = placed c.in-Some-number.after in
    let two = sixes_two c.in-Some.one c.in-Some-number.two 64 l.pen c.put_two-pen.result here behind after l.bytes c.put_two-pen.new.bytes c.in-Some.ensures.takes c.in-Some-number.ensures.takes c.in-Some-number.ensures.more c.put_two-pen.ensures in
    record {
      few = omega arith;
      at = c.in-Some-number.after.there;
      fits = c.in-Some-number.after.fits;
      there = c.in-Some-number.ensures.more;
      writes = sixes_then (count - l.left) 2 (count - (l.left - 2)) start first c.args.bytes.now l.pen here l.bytes c.put_two-pen.result after c.put_two-pen.new.bytes l.invariant.writes two (omega arith);
    }

pub returns : goal.returns
returns c =
    let l = c.loop-left in
    let count = c.args.count in
    let place = c.args.place in
    let from = c.args.from.now in
    let first = c.args.first in
    let old = c.args.bytes.now in
    let here : BufferedBits = bits_at l.bits.1.0 l.bits.1.1.0 l.bits.0.now in
    let none : count - l.left ≡ count = omega arith in
    let all : WritesSixes count (bits_at 0 place from) first old l.pen here l.bytes = subst (λ (n : ℕ). WritesSixes n (bits_at 0 place from) first old l.pen here l.bytes) none l.invariant.writes in
    record {
      none = λ e. sixes_keep count first l.pen (bits_at 0 place from) here old l.bytes all;
      writes = λ some start. sixes_moved start count place c.position-2.result first l.pen here from old l.bytes c.position-2.ensures all;
      there = sixes_there count place c.position-2.result first l.pen here from old l.bytes (omega arith) c.position-2.ensures all;
    }
