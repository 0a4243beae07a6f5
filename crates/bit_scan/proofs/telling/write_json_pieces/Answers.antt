use Rattle.std.proofs.Common.{refl}
use Rattle.std.specs.Prelude.{codes}
use Rattle.std.proofs.lemmas.Result.{err_from_is_err_and}
use Rattle.bit_scan.specs.Json.{noted_fields, joined, list_front, list_line, number_json}
use Rattle.bit_scan.proofs.Parted.{no_first, no_second, third}
use Rattle.bit_scan.proofs.telling.write_json_pieces.Goals as goal

pub returns-in_err-noted_list : goal.returns-in_err-noted_list
returns-in_err-noted_list g c =
    let n = c.args.noted in
    let fields = noted_fields c.args.around n.first n.code n.abbreviation n.count in
    let list = joined number_json c.args.values.now in
    let p = err_from_is_err_and c.from_residual.result c.from_residual.ensures.1 in
    rw (p.1, p.2) (no_first (list_line (codes "record") fields (codes "values") list) (list_front (codes "record") fields (codes "values")) list (codes "]}\n") c.args.printer.now c.noted_list.new.self c.in_err-noted_list.field-0.0 (record { are = refl }) c.in_err-noted_list.ensures)

pub returns-in_err-write_json_items : goal.returns-in_err-write_json_items
returns-in_err-write_json_items g c =
    let n = c.args.noted in
    let fields = noted_fields c.args.around n.first n.code n.abbreviation n.count in
    let list = joined number_json c.args.values.now in
    let p = err_from_is_err_and c.from_residual-in_err-write_json_items.result c.from_residual-in_err-write_json_items.ensures.1 in
    rw (p.1, p.2) (no_second (list_line (codes "record") fields (codes "values") list) (list_front (codes "record") fields (codes "values")) list (codes "]}\n") c.args.printer.now c.noted_list.new.self c.write_json_items.new.printer c.in_err-write_json_items.field-0.0 (record { are = refl }) c.in_ok-noted_list.ensures c.in_err-write_json_items.ensures)

pub returns : goal.returns
returns g c =
    let n = c.args.noted in
    let fields = noted_fields c.args.around n.first n.code n.abbreviation n.count in
    let list = joined number_json c.args.values.now in
    third (list_line (codes "record") fields (codes "values") list) (list_front (codes "record") fields (codes "values")) list (codes "]}\n") c.args.printer.now c.noted_list.new.self c.write_json_items.new.printer c.list_end.new.self c.list_end.result (record { are = refl }) c.in_ok-noted_list.ensures c.in_ok-write_json_items.ensures c.list_end.ensures
