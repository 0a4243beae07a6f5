use Rattle.std.proofs.Common.{◌≡◌, ℕ, ◌-◌, ◌≤◌, List, length, take, drop, refl, arith}
use Rattle.bit_grammar.specs.declared.op.Op.{Op}
use Rattle.bit_grammar.specs.FormatDefinition.{op_at}
use Rattle.bit_fields.specs.PlacedView.{placed}
use Rattle.bit_abbrev.proofs.Singles.{code_left, coded_parts}
use Rattle.bit_norm.proofs.Written.{coded_written, coded_forward, front_ends, front_keeps, scalars_end}
use Rattle.bit_norm.proofs.form_run.write_coded.Goals as goal

pub write_ops-requires-clause-few : goal.write_ops-requires-clause-few
write_ops-requires-clause-few c =
    let ops : List Op = c.ops-ops.result.now in
    let parts = coded_parts c.args.«abbrev».now ops (length ops - 1) c.ops-ops.ensures.items c.requires.coded refl in
    omega (arith, parts.few)

pub write_ops-requires-clause-there : goal.write_ops-requires-clause-there
write_ops-requires-clause-there c =
    let ops : List Op = c.ops-ops.result.now in
    let parts = coded_parts c.args.«abbrev».now ops (length ops - 1) c.ops-ops.ensures.items c.requires.coded refl in
    omega (arith, parts.few, code_left (op_at ops 0) (placed c.args.fields) c.in_ok-code.code (placed c.in_ok-code.fields) c.requires.there c.in_ok-code.ensures)

pub write_ops-requires-clause-room : goal.write_ops-requires-clause-room
write_ops-requires-clause-room c =
    let ops : List Op = c.ops-ops.result.now in
    let parts = coded_parts c.args.«abbrev».now ops (length ops - 1) c.ops-ops.ensures.items c.requires.coded refl in
    let singles : List Op = take (length ops - 1) (drop 1 ops) in
    let front = front_ends c.in_ok-code.code (length singles) c.args.at c.put_front-pen.result c.args.bytes.now c.put_front-pen.new.bytes c.put_front-pen.ensures in
    omega (arith, parts.few, front.0, front.1, c.requires.space)

pub returns-in_err-pen-clause-writes : goal.returns-in_err-pen-clause-writes
returns-in_err-pen-clause-writes c =
    let ops : List Op = c.ops-ops.result.now in
    let singles : List Op = take (length ops - 1) (drop 1 ops) in
    rw c.from_residual-in_err-pen.ensures (λ first. front_keeps c.in_ok-code.code (length singles) c.args.at c.put_front-pen.result c.args.bytes.now c.put_front-pen.new.bytes c.write_ops.new.bytes c.put_front-pen.ensures c.in_err-pen.ensures.writes)

pub overflow_sub-result : goal.overflow_sub-result
overflow_sub-result c =
    let ops : List Op = c.ops-ops.result.now in
    let singles : List Op = take (length ops - 1) (drop 1 ops) in
    omega (arith, c.position.ensures, c.position-first.ensures, coded_forward (op_at ops 0) c.in_ok-code.code singles (placed c.args.fields) (placed c.in_ok-code.fields) (placed c.in_ok-pen.after) c.put_front-pen.result c.in_ok-pen.pen c.put_front-pen.new.bytes c.write_ops.new.bytes c.in_ok-code.ensures c.in_ok-pen.ensures.writes)

pub returns-clause-writes : goal.returns-clause-writes
returns-clause-writes c = λ first.
    let ops : List Op = c.ops-ops.result.now in
    let parts = coded_parts c.args.«abbrev».now ops (length ops - 1) c.ops-ops.ensures.items c.requires.coded refl in
    let singles : List Op = take (length ops - 1) (drop 1 ops) in
    let len : ℕ = c.position.result - c.position-first.result in
    let few : length singles ≤ c.args.room = c.if-count-room.false in
    let len_is : len ≡ (placed c.in_ok-pen.after).position - (placed c.args.fields).position = omega (arith, c.position.ensures, c.position-first.ensures) in
    coded_written first c.args.room c.in_ok-code.code (length singles) len c.args.«abbrev».now (op_at ops 0) singles (placed c.args.fields) (placed c.in_ok-code.fields) (placed c.in_ok-pen.after) c.args.at c.put_front-pen.result c.in_ok-pen.pen c.args.bytes.now c.put_front-pen.new.bytes c.write_ops.new.bytes parts refl few len_is c.in_ok-code.ensures c.put_front-pen.ensures c.in_ok-pen.ensures.writes

pub returns-clause-most : goal.returns-clause-most
returns-clause-most c =
    let ops : List Op = c.ops-ops.result.now in
    let parts = coded_parts c.args.«abbrev».now ops (length ops - 1) c.ops-ops.ensures.items c.requires.coded refl in
    let singles : List Op = take (length ops - 1) (drop 1 ops) in
    let front = front_ends c.in_ok-code.code (length singles) c.args.at c.put_front-pen.result c.args.bytes.now c.put_front-pen.new.bytes c.put_front-pen.ensures in
    let end = scalars_end singles (placed c.in_ok-code.fields) c.put_front-pen.result c.put_front-pen.new.bytes c.in_ok-pen.pen (placed c.in_ok-pen.after) c.write_ops.new.bytes c.in_ok-pen.ensures.writes in
    omega (arith, parts.few, front.0, end.0, c.requires.space)
