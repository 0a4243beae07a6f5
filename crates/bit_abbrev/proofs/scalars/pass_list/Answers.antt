use Rattle.std.proofs.Common.{◌≡◌, ℕ, ◌+◌, ◌-◌, ◌≤◌, List, length, take, drop, refl, arith}
use Rattle.bit_grammar.specs.declared.op.Op.{Op}
use Rattle.bit_grammar.specs.FormatDefinition.{op_at}
use Rattle.bit_fields.specs.PlacedView.{placed}
use Rattle.bit_abbrev.proofs.Singles.{list_behind, list_parts, list_passed, placed_fits}
use Rattle.bit_abbrev.proofs.scalars.pass_list.Goals as goal

pub elements_len-requires-clause-single : goal.elements_len-requires-clause-single
elements_len-requires-clause-single c =
    let ops : List Op = c.ops-ops.result.now in
    let parts = list_parts c.args.«abbrev».now ops (length ops - 2 - 1) (length ops - 1) c.ops-ops.ensures.items c.requires.list (omega arith) refl in
    parts.single

pub overflow_add-result : goal.overflow_add-result
overflow_add-result c = omega (arith, c.position.ensures, c.in_ok-more.ensures.0, placed_fits c.in_ok-number.elements)

pub overflow_sub-result : goal.overflow_sub-result
overflow_sub-result c =
    let ops : List Op = c.ops-ops.result.now in
    let singles : List Op = take (length ops - 2 - 1) (drop 1 ops) in
    omega (arith, c.position.ensures, c.position-2.ensures, list_behind (op_at ops 0) c.in_ok-code.code singles c.in_ok-number.number (placed c.args.fields) (placed c.in_ok-code.bits) (placed c.in_ok-pass_ops.field-0) (placed c.in_ok-number.elements) c.in_ok-code.ensures c.in_ok-pass_ops.ensures.passes c.in_ok-number.ensures.takes)

pub returns : goal.returns
returns c = λ first.
    let ops : List Op = c.ops-ops.result.now in
    let singles : List Op = take (length ops - 2 - 1) (drop 1 ops) in
    let element : Op = op_at ops (length ops - 1) in
    let parts = list_parts c.args.«abbrev».now ops (length ops - 2 - 1) (length ops - 1) c.ops-ops.ensures.items c.requires.list (omega arith) refl in
    let count : ℕ = c.saturating_add-count.result in
    let more : ℕ = c.in_ok-more.more in
    let len : ℕ = c.position.result + more - c.position-2.result in
    let count_is : count ≡ length singles + c.in_ok-number.number = omega (arith, c.saturating_add-count.ensures, c.if-count-min.false, c.min.ensures) in
    let few : count ≤ c.args.room = omega (arith, c.if-count-min.false, c.min.ensures) in
    let len_is : len ≡ (placed c.in_ok-number.elements).position + more - (placed c.args.fields).position = omega (arith, c.position.ensures, c.position-2.ensures) in
    list_passed first c.args.room c.in_ok-code.code count c.in_ok-number.number more len c.args.«abbrev».now (op_at ops 0) singles element (placed c.args.fields) (placed c.in_ok-code.bits) (placed c.in_ok-pass_ops.field-0) (placed c.in_ok-number.elements) parts count_is few len_is c.in_ok-code.ensures c.in_ok-pass_ops.ensures.passes c.in_ok-number.ensures.takes c.in_ok-more.ensures.1
