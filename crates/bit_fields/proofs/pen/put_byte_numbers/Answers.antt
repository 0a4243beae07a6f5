use Rattle.std.proofs.Common.{get_or, refl, arith}
use Rattle.bit_grammar.specs.Normal.{values_bits}
use Rattle.bit_fields.proofs.Pens.{ten_range, filling_starts, later_bytes, numbers_next, numbers_one, numbers_ended}
use Rattle.bit_fields.proofs.pen.put_byte_numbers.Goals as goal

pub loop-rest-init : goal.loop-rest-init
loop-rest-init c = record {
  filling = filling_starts values_bits 12 142 c.args.at c.args.bytes.now c.args.values.now c.requires.room c.requires.counted;
  small = λ k. omega (arith, c.type_inv.values k);
}

pub loop-rest-preserved : goal.loop-rest-preserved
loop-rest-preserved c =
    let rest = c.loop-rest.rest.now in
    let small = c.loop-rest.invariant.small in
    let puts = rw (c.byte_chunks-first.ensures.spelled, c.byte_chunks-second.ensures.spelled, c.byte_chunks-third.ensures.spelled, c.byte_chunks-fourth.ensures.spelled) at c.put_joined-pen.ensures in
    record {
      filling = numbers_next 12 142 c.args.at c.args.bytes.now c.loop-rest.pen c.loop-rest.bytes c.put_joined-pen.result c.put_joined-pen.new.bytes c.args.values.now rest (get_or rest 0 0) (get_or rest 1 0) (get_or rest 2 0) (get_or rest 3 0)
          c.in-len4-up.len_at_least refl refl refl refl
          (ten_range _ (omega (arith, small 0))) (ten_range _ (omega (arith, small 1))) (ten_range _ (omega (arith, small 2))) (ten_range _ (omega (arith, small 3)))
          c.loop-rest.invariant.filling puts;
      small = later_bytes rest c.in-len4-up.len_at_least small;
    }

pub loop-value-init : goal.loop-value-init
loop-value-init c = c.loop-rest.invariant.filling

pub loop-value-preserved : goal.loop-value-preserved
loop-value-preserved c =
    let rest = c.loop-rest.rest.now in
    let i = c.loop-value.value-index in
    numbers_one 12 142 c.args.at c.args.bytes.now c.loop-value.pen c.loop-value.bytes c.put_number-pen.result c.put_number-pen.new.bytes c.args.values.now rest i c.from.result (omega (arith, c.loop-value-test.true)) c.from.ensures
    (ten_range _ (omega (arith, c.loop-rest.invariant.small i, c.from.ensures))) c.loop-value.invariant c.put_number-pen.ensures

pub returns : goal.returns
returns c = numbers_ended 12 142 c.args.at c.args.bytes.now c.loop-value.pen c.loop-value.bytes c.args.values.now c.loop-rest.rest.now c.loop-value.value-index (omega (arith, c.loop-value-test.false)) c.loop-value.invariant
