use Rattle.std.proofs.Common.{[], ◌++◌, sym}
use Rattle.std.proofs.lemmas.List.{append-nil}
use Rattle.bit_scan.specs.Styles.{fault_as}
use Rattle.bit_scan.proofs.Prints.{goes_starts, goes_as, goes_on, goes_last}
use Rattle.bit_scan.proofs.telling.write_end.Goals as goal

pub returns-clause-prints : goal.returns-clause-prints
returns-clause-prints g c =
    let text = fault_as c.args.format c.args.fault in
    let old = c.args.printer.now in
    goes_last text old [] c.write_fault.new.printer c.finish.result c.finish.new.self (goes_on text old text [] old c.write_fault.new.printer (goes_as text old text (text ++ []) old (sym (append-nil text)) (goes_starts text old)) c.in_ok-write_fault.ensures) c.finish.ensures.prints
