use Rattle.std.proofs.Common.{◌≡◌, ℕ, ◌-◌, ◌≤◌, List, length, take, drop, refl, arith}
use Rattle.bit_grammar.specs.declared.op.Op.{Op}
use Rattle.bit_grammar.specs.FormatDefinition.{op_at}
use Rattle.bit_fields.specs.PlacedView.{placed}
use Rattle.bit_abbrev.proofs.Singles.{coded_behind, coded_parts, coded_passed}
use Rattle.bit_abbrev.proofs.scalars.pass_coded.Goals as goal

pub overflow_sub-result : goal.overflow_sub-result
overflow_sub-result c =
    let ops : List Op = c.ops-ops.result.now in
    let singles : List Op = take (length ops - 1) (drop 1 ops) in
    omega (arith, c.position.ensures, c.position-2.ensures, coded_behind (op_at ops 0) c.in_ok-code.code singles (placed c.args.fields) (placed c.in_ok-code.bits) (placed c.in_ok-after.after) c.in_ok-code.ensures c.in_ok-after.ensures.passes)

pub returns : goal.returns
returns c = λ first.
    let ops : List Op = c.ops-ops.result.now in
    let parts = coded_parts c.args.«abbrev».now ops (length ops - 1) c.ops-ops.ensures.items c.requires.coded refl in
    let singles : List Op = take (length ops - 1) (drop 1 ops) in
    let len : ℕ = c.position.result - c.position-2.result in
    let few : length singles ≤ c.args.room = c.if-count-room.false in
    let len_is : len ≡ (placed c.in_ok-after.after).position - (placed c.args.fields).position = omega (arith, c.position.ensures, c.position-2.ensures) in
    coded_passed first c.args.room c.in_ok-code.code (length singles) len c.args.«abbrev».now (op_at ops 0) singles (placed c.args.fields) (placed c.in_ok-code.bits) (placed c.in_ok-after.after) parts refl few len_is c.in_ok-code.ensures c.in_ok-after.ensures.passes
