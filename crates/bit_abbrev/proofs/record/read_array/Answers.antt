use Rattle.std.proofs.Common.{◌+◌, ◌≤◌, ◌∷◌, length}
use Rattle.std.proofs.lemmas.Result.{err_from_is_err_and}
use Rattle.std.specs.Result.{OnOk}
use Rattle.bit_grammar.specs.Record.{scalar, values_of}
use Rattle.bit_grammar.specs.declared.op.Op.TheVariants.{Array}
use Rattle.bit_abbrev.specs.Values.{Adds, AddsAll, Gains}
use Rattle.bit_abbrev.proofs.Missing.{answers_so}
use Rattle.bit_abbrev.proofs.Records.{array_counted, array_read}
use Rattle.bit_abbrev.proofs.record.read_array.Goals as goal

pub returns-in_err-count-clause-adds : goal.returns-in_err-count-clause-adds
returns-in_err-count-clause-adds g c = λ others.
    let failed = err_from_is_err_and c.from_residual.result c.from_residual.ensures.1 in
    rw (failed.1, failed.2) (λ fault stands before t. (before, t, (array_counted c.args.room c.args.element others (g.B.Bits.as_reader c.args.bits.now) fault before (g.B.Bits.as_reader c.read_count.new.bits) (c.in_err-count.ensures.takes fault stands), tt)))

pub returns-clause-adds : goal.returns-clause-adds
returns-clause-adds g c = λ others.
    let a = g.B.Bits.as_reader c.read_count.new.bits in
    let b = g.B.Bits.as_reader c.read_elements.new.bits in
    answers_so g.B.Bits.faults (λ r. Gains g.V.ValueTaker.took c.args.values.now c.read_elements.new.values (AddsAll (scalar c.args.element) c.in_ok-count.count a r b)) (λ r. Gains g.V.ValueTaker.took c.args.values.now c.read_elements.new.values (λ before after. Adds (values_of c.args.room (Array ∷ c.args.element ∷ others)) (g.B.Bits.as_reader c.args.bits.now) r before after b × OnOk r (length after ≤ length before + c.args.room))) c.read_elements.result
    (λ r gains before t.
    let h = gains before t in
    (h.0, h.1, array_read c.args.room c.args.element others (g.B.Bits.as_reader c.args.bits.now) c.in_ok-count.count a r before h.0 b c.in_ok-count.ensures.takes c.in_ok-count.ensures.few h.2))
    c.read_elements.ensures.adds
