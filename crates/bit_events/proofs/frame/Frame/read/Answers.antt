use Rattle.std.proofs.lemmas.Result.{err_from_is_err_and}
use Rattle.bit_grammar.specs.declared.op.Place.TheVariants.{First}
use Rattle.bit_grammar.specs.Definition.{operands}
use Rattle.bit_abbrev.proofs.Adding.{memory_after}
use Rattle.bit_events.proofs.frame.Frame.read.Goals as goal

pub returns-in_err-or_memory_fault-clause-reads : goal.returns-in_err-or_memory_fault-clause-reads
returns-in_err-or_memory_fault-clause-reads g c =
    let p = err_from_is_err_and c.from_residual-in_err-or_memory_fault.result c.from_residual-in_err-or_memory_fault.ensures.1 in
    let rule = operands c.args.shapes c.args.count First in
    rw (p.1, p.2, c.in_err-or_memory_fault.ensures.err.0, c.in_err-or_memory_fault.ensures.err.1) (memory_after rule rule c.args.reader.now c.in_ok-abbrev.abbrev c.read_ops.new.reader c.in_ok-abbrev.ensures)

pub returns-clause-reads : goal.returns-clause-reads
returns-clause-reads g c =
    let made = rw c.planned_if.ensures at (rw c.in_ok-or_memory_fault.ensures.ok.0 at c.put.ensures.defined) in
    let newest = rw c.planned_if.ensures at (rw c.in_ok-or_memory_fault.ensures.ok.0 at c.put.ensures.newest) in
    (c.in_ok-abbrev.abbrev, rw c.in_ok-or_memory_fault.ensures.ok.1 c.in_ok-abbrev.ensures, record { made = made; last = newest })
