use Rattle.std.proofs.Common.{◌≡◌, ℕ, ◌+◌, ◌-◌, ◌≤◌, List, length, take, drop, refl, arith}
use Rattle.bit_grammar.specs.declared.op.Op.{Op}
use Rattle.bit_grammar.specs.FormatDefinition.{op_at}
use Rattle.bit_fields.specs.PlacedView.{placed}
use Rattle.bit_abbrev.proofs.Singles.{code_left, list_parts}
use Rattle.bit_norm.proofs.Written.{list_written, list_forward, front_ends, front_keeps, scalars_end, scalars_keep, elements_end}
use Rattle.bit_norm.proofs.form_run.write_list.Goals as goal

pub pass_ops-requires-clause-there : goal.pass_ops-requires-clause-there
pass_ops-requires-clause-there c =
    let ops : List Op = c.ops-ops.result.now in
    let parts = list_parts c.args.«abbrev».now ops (length ops - 2 - 1) (length ops - 1) c.ops-ops.ensures.items c.requires.list (omega arith) refl in
    omega (arith, parts.few, code_left (op_at ops 0) (placed c.args.fields) c.in_ok-code.code (placed c.in_ok-code.fields) c.requires.there c.in_ok-code.ensures)

pub write_ops-requires-clause-there : goal.write_ops-requires-clause-there
write_ops-requires-clause-there c =
    let ops : List Op = c.ops-ops.result.now in
    let parts = list_parts c.args.«abbrev».now ops (length ops - 2 - 1) (length ops - 1) c.ops-ops.ensures.items c.requires.list (omega arith) refl in
    omega (arith, parts.few, code_left (op_at ops 0) (placed c.args.fields) c.in_ok-code.code (placed c.in_ok-code.fields) c.requires.there c.in_ok-code.ensures)

pub write_ops-requires-clause-room : goal.write_ops-requires-clause-room
write_ops-requires-clause-room c =
    let ops : List Op = c.ops-ops.result.now in
    let parts = list_parts c.args.«abbrev».now ops (length ops - 2 - 1) (length ops - 1) c.ops-ops.ensures.items c.requires.list (omega arith) refl in
    let front = front_ends c.in_ok-code.code c.saturating_add-count.result c.args.at c.put_front-pen.result c.args.bytes.now c.put_front-pen.new.bytes c.put_front-pen.ensures in
    omega (arith, parts.few, front.0, front.1, c.requires.space)

pub returns-in_err-pen-clause-writes : goal.returns-in_err-pen-clause-writes
returns-in_err-pen-clause-writes c = rw c.from_residual-in_err-pen.ensures (λ first. front_keeps c.in_ok-code.code c.saturating_add-count.result c.args.at c.put_front-pen.result c.args.bytes.now c.put_front-pen.new.bytes c.write_ops.new.bytes c.put_front-pen.ensures c.in_err-pen.ensures.writes)

pub write_elements-requires-clause-single : goal.write_elements-requires-clause-single
write_elements-requires-clause-single c =
    let ops : List Op = c.ops-ops.result.now in
    let parts = list_parts c.args.«abbrev».now ops (length ops - 2 - 1) (length ops - 1) c.ops-ops.ensures.items c.requires.list (omega arith) refl in
    parts.single

pub write_elements-requires-clause-room : goal.write_elements-requires-clause-room
write_elements-requires-clause-room c =
    let ops : List Op = c.ops-ops.result.now in
    let singles : List Op = take (length ops - 2 - 1) (drop 1 ops) in
    let front = front_ends c.in_ok-code.code c.saturating_add-count.result c.args.at c.put_front-pen.result c.args.bytes.now c.put_front-pen.new.bytes c.put_front-pen.ensures in
    let end = scalars_end singles (placed c.in_ok-code.fields) c.put_front-pen.result c.put_front-pen.new.bytes c.in_ok-pen.pen (placed c.in_ok-pen.field-0-1) c.write_ops.new.bytes c.in_ok-pen.ensures.writes in
    omega (arith, front.0, front.1, end.0, end.1, c.requires.space, c.saturating_add-count.ensures, c.if-count-min.false, c.min.ensures)

pub returns-in_err-pen-2-clause-writes : goal.returns-in_err-pen-2-clause-writes
returns-in_err-pen-2-clause-writes c =
    let ops : List Op = c.ops-ops.result.now in
    let singles : List Op = take (length ops - 2 - 1) (drop 1 ops) in
    rw c.from_residual-in_err-pen-2.ensures (λ first. front_keeps c.in_ok-code.code c.saturating_add-count.result c.args.at c.put_front-pen.result c.args.bytes.now c.put_front-pen.new.bytes c.write_elements.new.bytes c.put_front-pen.ensures
    (scalars_keep singles (placed c.in_ok-code.fields) c.put_front-pen.result c.put_front-pen.new.bytes c.in_ok-pen.pen (placed c.in_ok-pen.field-0-1) c.write_ops.new.bytes c.write_elements.new.bytes c.in_ok-pen.ensures.writes c.in_err-pen-2.ensures))

pub overflow_sub-result : goal.overflow_sub-result
overflow_sub-result c =
    let ops : List Op = c.ops-ops.result.now in
    let singles : List Op = take (length ops - 2 - 1) (drop 1 ops) in
    let element : Op = op_at ops (length ops - 1) in
    omega (arith, c.position.ensures, c.position-first.ensures, list_forward (op_at ops 0) c.in_ok-code.code singles element c.in_ok-number.number (placed c.args.fields) (placed c.in_ok-code.fields) (placed c.in_ok-pass_ops.field-0) (placed c.in_ok-number.elements) (placed c.in_ok-pen-2.after) c.in_ok-pen.pen c.in_ok-pen-2.pen c.write_ops.new.bytes c.write_elements.new.bytes c.in_ok-code.ensures c.in_ok-pass_ops.ensures.passes c.in_ok-number.ensures.takes c.in_ok-pen-2.ensures)

pub returns-clause-writes : goal.returns-clause-writes
returns-clause-writes c = λ first.
    let ops : List Op = c.ops-ops.result.now in
    let singles : List Op = take (length ops - 2 - 1) (drop 1 ops) in
    let element : Op = op_at ops (length ops - 1) in
    let parts = list_parts c.args.«abbrev».now ops (length ops - 2 - 1) (length ops - 1) c.ops-ops.ensures.items c.requires.list (omega arith) refl in
    let count : ℕ = c.saturating_add-count.result in
    let len : ℕ = c.position.result - c.position-first.result in
    let count_is : count ≡ length singles + c.in_ok-number.number = omega (arith, c.saturating_add-count.ensures, c.if-count-min.false, c.min.ensures) in
    let few : count ≤ c.args.room = omega (arith, c.if-count-min.false, c.min.ensures) in
    let len_is : len ≡ (placed c.in_ok-pen-2.after).position - (placed c.args.fields).position = omega (arith, c.position.ensures, c.position-first.ensures) in
    list_written first c.args.room c.in_ok-code.code count c.in_ok-number.number len c.args.«abbrev».now (op_at ops 0) singles element (placed c.args.fields) (placed c.in_ok-code.fields) (placed c.in_ok-pass_ops.field-0) (placed c.in_ok-pen.field-0-1) (placed c.in_ok-number.elements) (placed c.in_ok-pen-2.after) c.args.at c.put_front-pen.result c.in_ok-pen.pen c.in_ok-pen-2.pen c.args.bytes.now c.put_front-pen.new.bytes c.write_ops.new.bytes c.write_elements.new.bytes parts count_is few len_is c.in_ok-code.ensures c.in_ok-pass_ops.ensures.passes c.in_ok-number.ensures.takes c.put_front-pen.ensures c.in_ok-pen.ensures.writes c.in_ok-pen-2.ensures

pub returns-clause-most : goal.returns-clause-most
returns-clause-most c =
    let ops : List Op = c.ops-ops.result.now in
    let singles : List Op = take (length ops - 2 - 1) (drop 1 ops) in
    let element : Op = op_at ops (length ops - 1) in
    let front = front_ends c.in_ok-code.code c.saturating_add-count.result c.args.at c.put_front-pen.result c.args.bytes.now c.put_front-pen.new.bytes c.put_front-pen.ensures in
    let middle = scalars_end singles (placed c.in_ok-code.fields) c.put_front-pen.result c.put_front-pen.new.bytes c.in_ok-pen.pen (placed c.in_ok-pen.field-0-1) c.write_ops.new.bytes c.in_ok-pen.ensures.writes in
    let end = elements_end element c.in_ok-number.number (placed c.in_ok-number.elements) c.in_ok-pen.pen c.write_ops.new.bytes c.in_ok-pen-2.pen (placed c.in_ok-pen-2.after) c.write_elements.new.bytes c.in_ok-pen-2.ensures in
    omega (arith, front.0, middle.0, end.0, c.saturating_add-count.ensures, c.if-count-min.false, c.min.ensures)
