use Rattle.std.proofs.Common.{refl, sym, ◌∙◌}
use Rattle.bit_abbrev.proofs.Layouts.{singles_laid, coded_laid, list_laid}
use Rattle.bit_abbrev.proofs.layout.layout_of.Goals as goal

pub returns-in-Literal : goal.returns-in-Literal
returns-in-Literal c =
    let shape = sym c.if-not-usable.false ∙ c.requires.usable in
    let counted = rw c.in-Nothing.is at (c.requires.tail c.if-not-usable.false) in
    singles_laid c.args.ops.now c.in-Literal.field-0 c.requires.definable (c.if-not-have_chunks.ensures refl) shape c.if-ops-gt-MOST.false c.in-Literal.is counted

pub returns-in_default : goal.returns-in_default
returns-in_default c =
    let shape = sym c.if-not-usable.false ∙ c.requires.usable in
    let counted = rw c.in-Nothing.is at (c.requires.tail c.if-not-usable.false) in
    coded_laid c.args.ops.now c.requires.definable (c.if-not-have_chunks.ensures refl) shape c.if-ops-gt-MOST.false counted

pub returns-in-Array : goal.returns-in-Array
returns-in-Array c =
    let shape = sym c.if-not-usable.false ∙ c.requires.usable in
    let counted = rw c.in-Array.is at (c.requires.tail c.if-not-usable.false) in
    list_laid c.args.ops.now c.requires.definable (c.if-not-have_chunks.ensures refl) shape c.if-ops-gt-MOST.false counted
