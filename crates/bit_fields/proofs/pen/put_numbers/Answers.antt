use Rattle.std.proofs.Common.{◌++◌, get_or, refl, arith}
use Rattle.bit_grammar.specs.FormatFields.{shortest}
use Rattle.bit_grammar.specs.Normal.{values_bits}
use Rattle.bit_fields.proofs.Pens.{puts_then, six_range, filling_starts, numbers_next, numbers_one, numbers_ended, second_room}
use Rattle.bit_fields.proofs.pen.put_numbers.Goals as goal

pub loop-rest-init : goal.loop-rest-init
loop-rest-init c = filling_starts values_bits 78 64 c.args.at c.args.bytes.now c.args.values.now c.requires.room c.requires.counted

pub put_two-pen-requires-else-a-lt1024-clause-room : goal.put_two-pen-requires-else-a-lt1024-clause-room
put_two-pen-requires-else-a-lt1024-clause-room c =
    let rest = c.loop-rest.rest.now in
    second_room c.loop-rest.pen c.put_two-pen.result (get_or rest 0 0) (get_or rest 1 0) c.loop-rest.bytes c.put_two-pen.new.bytes rest c.in-len4-up.len_at_least c.put_two-pen.ensures c.loop-rest.invariant.room

pub loop-rest-preserved-then-d-lt1024 : goal.loop-rest-preserved-then-d-lt1024
loop-rest-preserved-then-d-lt1024 c =
    let rest = c.loop-rest.rest.now in
    numbers_next 78 64 c.args.at c.args.bytes.now c.loop-rest.pen c.loop-rest.bytes c.put_four-pen.result c.put_four-pen.new.bytes c.args.values.now rest (get_or rest 0 0) (get_or rest 1 0) (get_or rest 2 0) (get_or rest 3 0)
    c.in-len4-up.len_at_least refl refl refl refl (six_range _).1 (six_range _).1 (six_range _).1 (six_range _).1 c.loop-rest.invariant c.put_four-pen.ensures

pub loop-rest-preserved : goal.loop-rest-preserved
loop-rest-preserved c =
    let rest = c.loop-rest.rest.now in
    numbers_next 78 64 c.args.at c.args.bytes.now c.loop-rest.pen c.loop-rest.bytes c.put_two-pen-else-a-lt1024.result c.put_two-pen-else-a-lt1024.new.bytes c.args.values.now rest (get_or rest 0 0) (get_or rest 1 0) (get_or rest 2 0) (get_or rest 3 0)
    c.in-len4-up.len_at_least refl refl refl refl (six_range _).1 (six_range _).1 (six_range _).1 (six_range _).1 c.loop-rest.invariant
    (puts_then (shortest 6 (get_or rest 0 0) ++ shortest 6 (get_or rest 1 0)) (shortest 6 (get_or rest 2 0) ++ shortest 6 (get_or rest 3 0)) c.loop-rest.pen c.put_two-pen.result c.put_two-pen-else-a-lt1024.result c.loop-rest.bytes c.put_two-pen.new.bytes c.put_two-pen-else-a-lt1024.new.bytes c.put_two-pen.ensures c.put_two-pen-else-a-lt1024.ensures)

pub loop-value-init : goal.loop-value-init
loop-value-init c = c.loop-rest.invariant

pub loop-value-preserved : goal.loop-value-preserved
loop-value-preserved c =
    let rest = c.loop-rest.rest.now in
    let i = c.loop-value.value-index in
    numbers_one 78 64 c.args.at c.args.bytes.now c.loop-value.pen c.loop-value.bytes c.put_number-pen.result c.put_number-pen.new.bytes c.args.values.now rest i (get_or rest i 0) (omega (arith, c.loop-value-test.true)) refl (six_range _).1 c.loop-value.invariant c.put_number-pen.ensures

pub returns : goal.returns
returns c = numbers_ended 78 64 c.args.at c.args.bytes.now c.loop-value.pen c.loop-value.bytes c.args.values.now c.loop-rest.rest.now c.loop-value.value-index (omega (arith, c.loop-value-test.false)) c.loop-value.invariant
