use Rattle.std.proofs.Common.{ap, sym, ◌∙◌}
use Rattle.std.proofs.lemmas.Result.{err_from_is_err_and}
use Rattle.bit_scan.specs.CodesView.{code_tally}
use Rattle.bit_scan.specs.Styles.{code_as}
use Rattle.bit_scan.proofs.Prints.{goes_as, goes_on, goes_starts, goes_wrong}
use Rattle.bit_scan.proofs.Reports.{lines_of_codes, next_code}
use Rattle.bit_scan.proofs.analysis.write_codes.Goals as goal

pub loop-code-init : goal.loop-code-init
loop-code-init g c =
    let whole = lines_of_codes c.args.format c.args.id c.args.codes.now in
    goes_as whole c.args.printer.now whole (lines_of_codes c.args.format c.args.id c.into_iter-code-iterator.result) c.args.printer.now (ap (lines_of_codes c.args.format c.args.id) (sym (c.into_iter-code-iterator.ensures.into_iter_gives ∙ c.iter-code-items.ensures.rest ∙ c.codes.view_is))) (goes_starts whole c.args.printer.now)

pub loop-code-preserved : goal.loop-code-preserved
loop-code-preserved g c =
    let whole = lines_of_codes c.args.format c.args.id c.args.codes.now in
    goes_on whole c.args.printer.now (code_as c.args.format c.args.id (code_tally (c.in-Some.code.now, c.in-Some.row.now))) (lines_of_codes c.args.format c.args.id c.next.new.self) c.loop-code.printer c.write_code.new.printer
    (next_code c.args.format c.args.id whole c.args.printer.now c.loop-code.printer c.loop-code.code-iterator c.next.new.self (c.in-Some.code.now, c.in-Some.row.now) c.in-Some.ensures.steps c.loop-code.invariant) c.in_ok-write_code.ensures

pub returns-in_err-write_code : goal.returns-in_err-write_code
returns-in_err-write_code g c =
    let whole = lines_of_codes c.args.format c.args.id c.args.codes.now in
    let p = err_from_is_err_and c.from_residual.result c.from_residual.ensures.1 in
    rw (p.1, p.2)
    (goes_wrong whole c.args.printer.now (code_as c.args.format c.args.id (code_tally (c.in-Some.code.now, c.in-Some.row.now))) (lines_of_codes c.args.format c.args.id c.next.new.self) c.loop-code.printer c.write_code.new.printer c.in_err-write_code.field-0.0
    (next_code c.args.format c.args.id whole c.args.printer.now c.loop-code.printer c.loop-code.code-iterator c.next.new.self (c.in-Some.code.now, c.in-Some.row.now) c.in-Some.ensures.steps c.loop-code.invariant) c.in_err-write_code.ensures)
