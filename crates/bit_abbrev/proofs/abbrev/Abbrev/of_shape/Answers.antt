use Rattle.std.proofs.Common.{sym, ◌∙◌}
use Rattle.bit_abbrev.proofs.Shapes.{lawful_of}
use Rattle.bit_abbrev.proofs.abbrev.Abbrev.of_shape.Goals as goal

pub layout_of-layout-requires-clause-tail : goal.layout_of-layout-requires-clause-tail
layout_of-layout-requires-clause-tail c = λ yes.
    let tail = rw c.as_slice.ensures at c.tail_of-tail.ensures in
    rw c.as_slice-2.ensures (tail (lawful_of c.args.ops.items c.requires.definable (sym c.requires.usable ∙ yes)))

pub invariant_of-result : goal.invariant_of-result
invariant_of-result c =
    let tail = rw c.as_slice.ensures at c.tail_of-tail.ensures in
    let layout = rw c.as_slice-2.ensures at c.layout_of-layout.ensures in
    (c.requires.definable, c.requires.usable, λ yes. tail (lawful_of c.args.ops.items c.requires.definable (sym c.requires.usable ∙ yes)), layout, λ planned. absurd (planned c.odd.ensures))
