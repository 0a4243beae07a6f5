use Rattle.std.proofs.Common.{Err, subst}
use Rattle.std.proofs.lemmas.Result.{err_from_is_err_and}
use Rattle.bit_grammar.specs.Terms.{Head}
use Rattle.bit_scan.specs.Printing.{Printed, Prints}
use Rattle.bit_scan.specs.Styles.{head_as}
use Rattle.bit_scan.proofs.Tellings.{head_wrong, head_then_rest}
use Rattle.bit_scan.proofs.telling.write_all.Goals as goal

pub returns-in_err-write_head : goal.returns-in_err-write_head
returns-in_err-write_head g c =
    let p = err_from_is_err_and c.from_residual.result c.from_residual.ensures.1 in
    rw (p.1, p.2)
    (head_wrong c.args.writer.now.style c.args.events.now c.args.writer.now.printer c.write_head.new.printer c.in_err-write_head.field-0.0 (subst (λ (h : Head). Prints (head_as c.args.writer.now.style.format h) c.args.writer.now.printer (Err c.in_err-write_head.field-0.0) c.write_head.new.printer) c.head-head.ensures c.in_err-write_head.ensures))

pub returns : goal.returns
returns g c =
    head_then_rest c.args.writer.now.style c.args.events.now c.write_rest.new.events c.args.writer.now.printer c.write_head.new.printer c.write_rest.new.writer.printer c.write_rest.result (subst (λ (h : Head). Printed (head_as c.args.writer.now.style.format h) c.args.writer.now.printer c.write_head.new.printer) c.head-head.ensures c.in_ok-write_head.ensures) c.write_rest.ensures
