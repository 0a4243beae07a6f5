use Rattle.std.proofs.Common.{◌/◌, Bool, true, sym, ap, ◌∙◌}
use Rattle.bit_grammar.specs.declared.op.Op.TheVariants.{Literal, Array, Char6, Blob}
use Rattle.bit_grammar.specs.Definition.{passes}
use Rattle.bit_abbrev.proofs.ShortOps.{of_width, short_literal, short_array, short_char6, short_blob, short_if}
use Rattle.bit_abbrev.proofs.short_op.short_op.Goals as goal

pub returns-then-bits-eq1 : goal.returns-then-bits-eq1
returns-then-bits-eq1 c =
    short_if c.args.shapes c.args.place c.args.after c.args.bits c.passes-lawful.result (Literal (c.args.bits / 2)) 9 c.if_lawful.result (λ lawful. short_literal c.args.shapes c.args.place c.args.after c.args.bits c.if-bits-ge256.false c.if-bits-eq1.true (ap (λ (h : Bool). passes c.args.shapes h) (sym c.fits.ensures) ∙ sym c.passes-lawful.ensures ∙ lawful)) c.if_lawful.ensures

pub short_width-requires : goal.short_width-requires
short_width-requires c = of_width c.args.bits c.if-bits-eq1.false c.if-twice-ge2.true c.if-twice-lt6.true

pub returns-in-6 : goal.returns-in-6
returns-in-6 c =
    short_if c.args.shapes c.args.place c.args.after c.args.bits c.passes.result Array 4 c.if_lawful-in-6.result (λ lawful. short_array c.args.shapes c.args.place c.args.after c.args.bits c.in-6.is (ap (λ (h : Bool). passes c.args.shapes h) (sym c.fits-in-6.ensures) ∙ sym c.passes.ensures ∙ lawful)) c.if_lawful-in-6.ensures

pub returns-in-8 : goal.returns-in-8
returns-in-8 c =
    short_if c.args.shapes c.args.place c.args.after c.args.bits true Char6 4 c.if_lawful-in-8.result (λ lawful. short_char6 c.args.shapes c.args.place c.args.after c.args.bits c.in-8.is) c.if_lawful-in-8.ensures

pub returns-in-10 : goal.returns-in-10
returns-in-10 c =
    short_if c.args.shapes c.args.place c.args.after c.args.bits c.passes-in-10.result Blob 4 c.if_lawful-in-10.result (λ lawful. short_blob c.args.shapes c.args.place c.args.after c.args.bits c.in-10.is (ap (λ (h : Bool). passes c.args.shapes h) (sym c.fits-in-10.ensures) ∙ sym c.passes-in-10.ensures ∙ lawful)) c.if_lawful-in-10.ensures
