use Rattle.std.proofs.Common.{◌≡◌, ℕ, ◌+◌, ◌-◌, ap, arith}
use Rattle.std.proofs.Math.ListN.{replicate}
use Rattle.std.proofs.lemmas.Result.{err_from_is_err_and}
use Rattle.bit_grammar.specs.Texts.{values_text}
use Rattle.bit_scan.proofs.Parted.{value_text, next_zero, last_zero}
use Rattle.bit_scan.proofs.Prints.{goes_starts, goes_as, goes_on, goes_wrong}
use Rattle.bit_scan.proofs.listing.write_zeros.Goals as goal

all_left : (count : ℕ) → count ≡ count - 0
all_left count = omega arith

pub loop-init : goal.loop-init
loop-init g c =
    let all = values_text (replicate c.args.count 0) in
    goes_as all c.args.printer.now all (values_text (replicate (c.args.count - 0) 0)) c.args.printer.now (ap (λ (n : ℕ). values_text (replicate n 0)) (all_left c.args.count)) (goes_starts all c.args.printer.now)

pub returns-in_err-value : goal.returns-in_err-value
returns-in_err-value g c =
    let all = values_text (replicate c.args.count 0) in
    let i = c.loop.counter in
    let p = err_from_is_err_and c.from_residual.result c.from_residual.ensures.1 in
    rw (p.1, p.2)
    (goes_wrong all c.args.printer.now (value_text 0) (values_text (replicate (c.args.count - (i + 1)) 0)) c.loop.printer c.value.new.self c.in_err-value.field-0.0 (next_zero all c.args.printer.now c.loop.printer c.args.count i c.loop-test.true c.loop.invariant) c.in_err-value.ensures)

pub loop-preserved : goal.loop-preserved
loop-preserved g c =
    let all = values_text (replicate c.args.count 0) in
    let i = c.loop.counter in
    goes_on all c.args.printer.now (value_text 0) (values_text (replicate (c.args.count - (i + 1)) 0)) c.loop.printer c.value.new.self (next_zero all c.args.printer.now c.loop.printer c.args.count i c.loop-test.true c.loop.invariant) c.in_ok-value.ensures

pub returns : goal.returns
returns g c = last_zero (values_text (replicate c.args.count 0)) c.args.printer.now c.loop.printer c.args.count c.loop.counter c.loop-test.false c.loop.invariant
