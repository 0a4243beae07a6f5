use Rattle.std.proofs.Common.{refl}
use Rattle.std.specs.Prelude.{codes}
use Rattle.std.proofs.lemmas.Result.{err_from_is_err_and}
use Rattle.bit_scan.specs.Json.{joined, list_front, list_line, op_json, place_fields}
use Rattle.bit_scan.proofs.Parted.{no_first, no_second, third}
use Rattle.bit_scan.proofs.telling.write_json_definition.Goals as goal

pub returns-in_err-definition_list : goal.returns-in_err-definition_list
returns-in_err-definition_list g c =
    let fields = place_fields c.args.around c.args.first in
    let list = joined op_json c.args.ops.now in
    let p = err_from_is_err_and c.from_residual.result c.from_residual.ensures.1 in
    rw (p.1, p.2) (no_first (list_line (codes "define") fields (codes "operands") list) (list_front (codes "define") fields (codes "operands")) list (codes "]}\n") c.args.printer.now c.definition_list.new.self c.in_err-definition_list.field-0.0 (record { are = refl }) c.in_err-definition_list.ensures)

pub returns-in_err-write_json_operands : goal.returns-in_err-write_json_operands
returns-in_err-write_json_operands g c =
    let fields = place_fields c.args.around c.args.first in
    let list = joined op_json c.args.ops.now in
    let p = err_from_is_err_and c.from_residual-in_err-write_json_operands.result c.from_residual-in_err-write_json_operands.ensures.1 in
    rw (p.1, p.2) (no_second (list_line (codes "define") fields (codes "operands") list) (list_front (codes "define") fields (codes "operands")) list (codes "]}\n") c.args.printer.now c.definition_list.new.self c.write_json_operands.new.printer c.in_err-write_json_operands.field-0.0 (record { are = refl }) c.in_ok-definition_list.ensures c.in_err-write_json_operands.ensures)

pub returns : goal.returns
returns g c =
    let fields = place_fields c.args.around c.args.first in
    let list = joined op_json c.args.ops.now in
    third (list_line (codes "define") fields (codes "operands") list) (list_front (codes "define") fields (codes "operands")) list (codes "]}\n") c.args.printer.now c.definition_list.new.self c.write_json_operands.new.printer c.list_end.new.self c.list_end.result (record { are = refl }) c.in_ok-definition_list.ensures c.in_ok-write_json_operands.ensures c.list_end.ensures
