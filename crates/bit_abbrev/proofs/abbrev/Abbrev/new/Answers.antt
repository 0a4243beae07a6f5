use Rattle.bit_abbrev.proofs.Breaks.{not_lawful}
use Rattle.bit_abbrev.proofs.Shapes.{of_lawful}
use Rattle.bit_abbrev.proofs.abbrev.Abbrev.new.Goals as goal

pub returns-in-Some-clause-lawful : goal.returns-in-Some-clause-lawful
returns-in-Some-clause-lawful c =
    (λ e. absurd cc, λ h. absurd (not_lawful c.as_slice.result.now c.in-Some.at c.in-Some.reason c.in-Some.ensures.found (rw c.as_slice.ensures h)))

pub layout_of-layout-requires-clause-usable : goal.layout_of-layout-requires-clause-usable
layout_of-layout-requires-clause-usable c =
    let lawful = rw c.as_slice.ensures at c.in-None.ensures.none in
    rw c.as_slice-in-None-2.ensures (of_lawful c.args.ops.items lawful).1

pub invariant_of-result : goal.invariant_of-result
invariant_of-result c =
    let lawful = rw c.as_slice.ensures at c.in-None.ensures.none in
    let h = of_lawful c.args.ops.items lawful in
    let tail = rw c.as_slice-in-None.ensures at c.tail_of-tail.ensures in
    let layout = rw c.as_slice-in-None-2.ensures at c.layout_of-layout.ensures in
    (h.0, h.1, λ yes. tail lawful, layout, λ planned. absurd (planned c.odd.ensures))
