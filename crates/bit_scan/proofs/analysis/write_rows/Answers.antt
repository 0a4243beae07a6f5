use Rattle.std.proofs.Common.{ap, sym, ◌∙◌}
use Rattle.std.proofs.lemmas.Result.{err_from_is_err_and}
use Rattle.bit_scan.specs.Rows.{block_tally}
use Rattle.bit_scan.specs.Styles.{row_as}
use Rattle.bit_scan.proofs.Prints.{goes_as, goes_on, goes_starts, goes_wrong}
use Rattle.bit_scan.proofs.Reports.{lines_of_rows, next_row}
use Rattle.bit_scan.proofs.analysis.write_rows.Goals as goal

pub loop-id-init : goal.loop-id-init
loop-id-init g c =
    let whole = lines_of_rows c.args.format c.args.rows.now.entries in
    goes_as whole c.args.printer.now whole (lines_of_rows c.args.format c.into_iter-id-iterator.result) c.args.printer.now (ap (lines_of_rows c.args.format) (sym (c.into_iter-id-iterator.ensures.into_iter_gives ∙ c.iter-id-items.ensures.rest))) (goes_starts whole c.args.printer.now)

pub loop-id-preserved : goal.loop-id-preserved
loop-id-preserved g c =
    let whole = lines_of_rows c.args.format c.args.rows.now.entries in
    goes_on whole c.args.printer.now (row_as c.args.format (block_tally (c.in-Some.id.now, c.in-Some.row.now))) (lines_of_rows c.args.format c.next.new.self) c.loop-id.printer c.write_row.new.printer
    (next_row c.args.format whole c.args.printer.now c.loop-id.printer c.loop-id.id-iterator c.next.new.self (c.in-Some.id.now, c.in-Some.row.now) c.in-Some.ensures.steps c.loop-id.invariant) c.in_ok-write_row.ensures

pub returns-in_err-write_row : goal.returns-in_err-write_row
returns-in_err-write_row g c =
    let whole = lines_of_rows c.args.format c.args.rows.now.entries in
    let p = err_from_is_err_and c.from_residual.result c.from_residual.ensures.1 in
    rw (p.1, p.2)
    (goes_wrong whole c.args.printer.now (row_as c.args.format (block_tally (c.in-Some.id.now, c.in-Some.row.now))) (lines_of_rows c.args.format c.next.new.self) c.loop-id.printer c.write_row.new.printer c.in_err-write_row.field-0.0
    (next_row c.args.format whole c.args.printer.now c.loop-id.printer c.loop-id.id-iterator c.next.new.self (c.in-Some.id.now, c.in-Some.row.now) c.in-Some.ensures.steps c.loop-id.invariant) c.in_err-write_row.ensures)
