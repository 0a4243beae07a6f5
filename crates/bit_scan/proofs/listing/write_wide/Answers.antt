use Rattle.std.proofs.Common.{◌++◌, ap}
use Rattle.std.proofs.lemmas.Result.{err_from_is_err_and}
use Rattle.bit_grammar.specs.Texts.{values_text}
use Rattle.bit_scan.proofs.Parted.{value_text}
use Rattle.bit_scan.proofs.Prints.{Goes, goes_as, goes_on, goes_wrong}
use Rattle.bit_scan.proofs.listing.write_wide.Goals as goal

pub loop-value-preserved : goal.loop-value-preserved
loop-value-preserved g c =
    let all = values_text c.args.values in
    let w = c.args.printer.now in
    let now = c.loop-value.printer in
    let rest = values_text c.take_first.new.self in
    let next : Goes all w (value_text c.in-Some.value ++ rest) now = goes_as all w (values_text c.loop-value.values) (value_text c.in-Some.value ++ rest) now (ap values_text c.in-Some.ensures.some) c.loop-value.invariant in
    goes_on all w (value_text c.in-Some.value) rest now c.value.new.self next c.in_ok-value.ensures

pub returns-in_err-value : goal.returns-in_err-value
returns-in_err-value g c =
    let all = values_text c.args.values in
    let w = c.args.printer.now in
    let now = c.loop-value.printer in
    let rest = values_text c.take_first.new.self in
    let next : Goes all w (value_text c.in-Some.value ++ rest) now = goes_as all w (values_text c.loop-value.values) (value_text c.in-Some.value ++ rest) now (ap values_text c.in-Some.ensures.some) c.loop-value.invariant in
    let p = err_from_is_err_and c.from_residual.result c.from_residual.ensures.1 in
    rw (p.1, p.2)
    (goes_wrong all w (value_text c.in-Some.value) rest now c.value.new.self c.in_err-value.field-0.0 next c.in_err-value.ensures)
