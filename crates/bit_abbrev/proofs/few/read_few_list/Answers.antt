use Rattle.std.proofs.Common.{◌≡◌, ℕ, ◌+◌, ◌-◌, ◌≤◌, List, length, take, drop, refl, arith}
use Rattle.bit_grammar.specs.declared.op.Op.{Op}
use Rattle.bit_grammar.specs.FormatDefinition.{op_at}
use Rattle.bit_fields.specs.PlacedView.{placed}
use Rattle.bit_abbrev.proofs.FewValues.{list_few, list_forward}
use Rattle.bit_abbrev.proofs.Singles.{list_parts}
use Rattle.bit_abbrev.proofs.few.read_few_list.Goals as goal

pub read_elements-requires : goal.read_elements-requires
read_elements-requires c =
    let ops : List Op = c.ops-ops.result.now in
    let parts = list_parts c.args.«abbrev».now ops (length ops - 2 - 1) (length ops - 1) c.ops-ops.ensures.items c.requires.list (omega arith) refl in
    record { single = parts.single }

pub overflow_sub-result : goal.overflow_sub-result
overflow_sub-result c =
    let ops : List Op = c.ops-ops.result.now in
    let singles : List Op = take (length ops - 2 - 1) (drop 1 ops) in
    omega (arith, c.position.ensures, c.position-2.ensures, list_forward (op_at ops 0) c.in_ok-code.code singles (op_at ops (length ops - 1)) c.in_ok-number.number (placed c.args.fields) (placed c.in_ok-code.bits) (placed c.in_ok-read_ops.field-0) (placed c.in_ok-number.elements) (placed c.in_ok-after.after) (take (length singles) c.read_ops.new.values) c.read_elements.new.values c.in_ok-code.ensures c.in_ok-read_ops.ensures.reads c.in_ok-number.ensures.takes c.in_ok-after.ensures)

pub returns-clause-reads : goal.returns-clause-reads
returns-clause-reads c = λ first.
    let ops : List Op = c.ops-ops.result.now in
    let singles : List Op = take (length ops - 2 - 1) (drop 1 ops) in
    let parts = list_parts c.args.«abbrev».now ops (length ops - 2 - 1) (length ops - 1) c.ops-ops.ensures.items c.requires.list (omega arith) refl in
    let count : ℕ = c.saturating_add-count.result in
    let number : ℕ = c.in_ok-number.number in
    let len : ℕ = c.position.result - c.position-2.result in
    let count_is : count ≡ length singles + number = omega (arith, c.saturating_add-count.ensures, c.if-count-min.false, c.min.ensures) in
    let few : count ≤ c.args.room = omega (arith, c.if-count-min.false, c.min.ensures) in
    let len_is : len ≡ (placed c.in_ok-after.after).position - (placed c.args.fields).position = omega (arith, c.position.ensures, c.position-2.ensures) in
    let within : length singles ≤ length c.read_ops.new.values = omega (arith, parts.few, c.requires.places, c.read_ops.auto.values) in
    let many : length c.read_elements.new.values ≡ number = omega (arith, c.read_elements.auto.values, count_is, c.requires.places, c.read_ops.auto.values, c.if-count-min.false, c.min.ensures) in
    list_few first c.args.room c.in_ok-code.code count number (count - length singles) len c.args.«abbrev».now (op_at ops 0) singles (op_at ops (length ops - 1)) (placed c.args.fields) (placed c.in_ok-code.bits) (placed c.in_ok-read_ops.field-0) (placed c.in_ok-number.elements) (placed c.in_ok-after.after) c.read_ops.new.values c.read_elements.new.values parts count_is few len_is c.in_ok-code.ensures c.in_ok-read_ops.ensures.reads c.in_ok-number.ensures.takes within many c.in_ok-after.ensures
