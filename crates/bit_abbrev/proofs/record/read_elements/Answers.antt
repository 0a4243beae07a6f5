use Rattle.std.proofs.Common.{◌≡◌}
use Rattle.bit_grammar.specs.Grammar.{gives}
use Rattle.bit_grammar.specs.Fields.{fixed, vbr}
use Rattle.bit_grammar.specs.Record.{scalar}
use Rattle.bit_abbrev.specs.Values.{AddsAll, Gains}
use Rattle.bit_abbrev.proofs.Adding.{zeros_are}
use Rattle.bit_abbrev.proofs.Missing.{answers_so}
use Rattle.bit_abbrev.proofs.record.read_elements.Goals as goal

pub returns-in-Fixed-eq0-clause-adds : goal.returns-in-Fixed-eq0-clause-adds
unfolding scalar
returns-in-Fixed-eq0-clause-adds g c =
    let none : c.in-Fixed-eq0.field-0 ≡ 0 = cc in
    let a = g.B.Bits.as_reader c.args.bits.now in
    let b = g.B.Bits.as_reader c.zeros.new.self in
    rw (c.in-Fixed-eq0.is, none) (answers_so g.B.Bits.faults (λ r. Gains g.V.ValueTaker.took c.args.values.now c.zeros.new.values (AddsAll (gives 0) c.args.count a r b)) (λ r. Gains g.V.ValueTaker.took c.args.values.now c.zeros.new.values (AddsAll (fixed 0) c.args.count a r b)) c.zeros.result
    (λ r gains before t. let h = gains before t in (h.0, h.1, (zeros_are c.args.count a r before h.0 b h.2.0, h.2.1)))
    c.zeros.ensures.adds)

pub returns-in-Vbr-eq0-clause-adds : goal.returns-in-Vbr-eq0-clause-adds
unfolding scalar vbr
returns-in-Vbr-eq0-clause-adds g c =
    let none : c.in-Vbr-eq0.field-0 ≡ 0 = cc in
    rw (c.in-Vbr-eq0.is, none) c.zeros-in-Vbr-eq0.ensures.adds
