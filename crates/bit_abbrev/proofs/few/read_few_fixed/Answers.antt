use Rattle.std.proofs.Common.{◌≡◌, ℕ, ◌-◌, List, length, take, drop, refl, sym, arith}
use Rattle.std.proofs.lemmas.Option.{IfSome_then}
use Rattle.bit_grammar.specs.declared.op.Op.{Op}
use Rattle.bit_grammar.specs.FormatDefinition.{op_at}
use Rattle.bit_fields.specs.PlacedView.{placed}
use Rattle.bit_abbrev.proofs.Covering.{beyond_none}
use Rattle.bit_abbrev.proofs.FewValues.{coded_few}
use Rattle.bit_abbrev.proofs.Singles.{coded_parts, singles_coded, takes_literal}
use Rattle.bit_abbrev.proofs.few.read_few_fixed.Goals as goal

pub returns-clause-reads : goal.returns-clause-reads
returns-clause-reads c =
    let ops : List Op = c.ops-ops.result.now in
    let start = placed c.args.fields in
    let code : ℕ = c.in-Literal.code in
    let parts = coded_parts c.args.«abbrev».now ops (length ops - 1) c.ops-ops.ensures.items (singles_coded c.args.«abbrev».now c.requires.singles) refl in
    let place : c.position.result ≡ start.position = omega (arith, c.position.ensures) in
    let head = takes_literal (op_at ops 0) code 1888 start code 0 start c.in-Literal.is refl refl (sym (beyond_none start)) in
    IfSome_then c.read_few_singles.result c.read_few_singles.ensures (λ passed h. λ first. coded_few first c.args.room code c.position.result c.args.«abbrev».now (op_at ops 0) (take (length ops - 1) (drop 1 ops)) start start passed c.read_few_singles.new.values parts place head h)
