use Rattle.std.proofs.Common.{ℕ, List, subst}
use Rattle.std.specs.Prelude.{codes}
use Rattle.bit_grammar.specs.declared.op.Op.{Op}
use Rattle.bit_scan.specs.Json.{joined, list_line, noted_fields, noted_json, op_json, place_fields}
use Rattle.bit_scan.specs.Printing.{Prints}
use Rattle.bit_scan.proofs.telling.write_json_line.Goals as goal

pub returns-in-Enter : goal.returns-in-Enter
returns-in-Enter g c = rw (c.in-Enter.is) c.opened_object.ensures

pub returns-in-Define : goal.returns-in-Define
returns-in-Define g c =
    rw (c.in-Define.is)
    (subst (λ (ops : List Op). Prints (list_line (codes "define") (place_fields c.args.around c.in-Define.first) (codes "operands") (joined op_json ops)) c.args.printer.now c.write_json_definition.result c.write_json_definition.new.printer) c.ops.ensures.items c.write_json_definition.ensures)

pub returns-in-Record : goal.returns-in-Record
returns-in-Record g c =
    let r = c.in-Record in
    rw (c.in-Record.is)
    (subst (λ (count : ℕ). Prints (noted_json c.args.values (noted_fields c.args.around r.first r.code r.«abbrev» count) r.listed.now) c.args.printer.now c.write_json_record.result c.write_json_record.new.printer) c.len.ensures c.write_json_record.ensures)
