use Rattle.std.proofs.Common.{◌/◌, ◌++◌, sym, arith}
use Rattle.bit_grammar.specs.Bits.{bits_of}
use Rattle.bit_grammar.specs.FormatFields.{shortest}
use Rattle.bit_fields.proofs.Pens.{puts_as, storing_starts, storing_as, storing_goes_on, storing_ends, great_room}
use Rattle.bit_fields.proofs.pen.put_great.Goals as goal

pub loop-rest-init : goal.loop-rest-init
loop-rest-init c = record {
  some = omega (arith, c.requires.great);
  stored = storing_starts c.args.at c.args.bytes.now (shortest 6 c.args.value);
}

pub put-pen-requires-clause-room : goal.put-pen-requires-clause-room
put-pen-requires-clause-room c = (great_room c.args.at c.args.bytes.now c.loop-rest.pen c.loop-rest.bytes c.args.value c.loop-rest.rest c.loop-rest.invariant.stored c.requires.room c.requires.counted).0

pub loop-rest-preserved : goal.loop-rest-preserved
loop-rest-preserved c =
    let l = c.loop-rest in
    let front = bits_of 12 c.two_chunks.result in
    let left = shortest 6 (l.rest / 1024) in
    let all = shortest 6 c.args.value in
    record {
      some = omega (arith, c.loop-rest-test.true);
      stored = storing_goes_on c.args.at c.args.bytes.now l.pen l.bytes _ _ all front left (storing_as c.args.at c.args.bytes.now l.pen l.bytes all (shortest 6 l.rest) (front ++ left) (sym c.two_chunks.ensures.spelled) l.invariant.stored) c.put-pen.ensures;
    }

pub put-requires-clause-room : goal.put-requires-clause-room
put-requires-clause-room c = (great_room c.args.at c.args.bytes.now c.loop-rest.pen c.loop-rest.bytes c.args.value c.loop-rest.rest c.loop-rest.invariant.stored c.requires.room c.requires.counted).0

pub returns : goal.returns
returns c =
    let l = c.loop-rest in
    let r = c.some_chunks-chunks.result in
    storing_ends c.args.at c.args.bytes.now l.pen l.bytes _ _ (shortest 6 c.args.value) (shortest 6 l.rest) l.invariant.stored
    (puts_as (bits_of r.1 r.0) (shortest 6 l.rest) l.pen _ l.bytes _ c.some_chunks-chunks.ensures.spelled c.put.ensures)
