use Rattle.std.proofs.lemmas.Result.{err_from_is_err_and}
use Rattle.bit_scan.proofs.Reports.{no_row, row_ends}
use Rattle.bit_scan.proofs.analysis.write_row.Goals as goal

pub returns-in_err-write_row_line : goal.returns-in_err-write_row_line
returns-in_err-write_row_line g c =
    let p = err_from_is_err_and c.from_residual.result c.from_residual.ensures.1 in
    rw (p.1, p.2) (no_row c.args.format (c.args.id, c.args.row.now) c.args.printer.now c.write_row_line.new.printer c.in_err-write_row_line.field-0.0 c.in_err-write_row_line.ensures)

pub returns : goal.returns
returns g c = row_ends c.args.format (c.args.id, c.args.row.now) c.args.printer.now c.write_row_line.new.printer c.write_codes.new.printer c.write_codes.result c.in_ok-write_row_line.ensures c.write_codes.ensures
