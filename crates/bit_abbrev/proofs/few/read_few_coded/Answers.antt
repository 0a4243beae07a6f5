use Rattle.std.proofs.Common.{◌≡◌, ◌-◌, List, length, take, drop, refl, arith}
use Rattle.std.proofs.lemmas.Option.{IfSome_then}
use Rattle.bit_grammar.specs.declared.op.Op.{Op}
use Rattle.bit_grammar.specs.FormatDefinition.{op_at}
use Rattle.bit_fields.specs.PlacedView.{placed}
use Rattle.bit_abbrev.proofs.FewValues.{coded_few}
use Rattle.bit_abbrev.proofs.Singles.{coded_parts}
use Rattle.bit_abbrev.proofs.few.read_few_coded.Goals as goal

pub returns-clause-reads : goal.returns-clause-reads
returns-clause-reads c =
    let ops : List Op = c.ops-ops.result.now in
    let parts = coded_parts c.args.«abbrev».now ops (length ops - 1) c.ops-ops.ensures.items c.requires.coded refl in
    let place : c.position.result ≡ (placed c.args.fields).position = omega (arith, c.position.ensures) in
    IfSome_then c.read_few_singles.result c.read_few_singles.ensures (λ passed h. λ first. coded_few first c.args.room c.in_ok-code.code c.position.result c.args.«abbrev».now (op_at ops 0) (take (length ops - 1) (drop 1 ops)) (placed c.args.fields) (placed c.in_ok-code.bits) passed c.read_few_singles.new.values parts place c.in_ok-code.ensures h)
