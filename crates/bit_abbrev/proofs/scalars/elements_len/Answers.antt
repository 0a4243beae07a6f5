use Rattle.std.proofs.Common.{◌≡◌, ℕ, ◌*◌, ◌≤◌, length, refl, ap, ◌∙◌}
use Rattle.std.proofs.lemmas.Option.{IfSome_then}
use Rattle.bit_grammar.specs.declared.op.Op.TheVariants.{Vbr}
use Rattle.bit_fields.specs.PlacedView.{placed}
use Rattle.bit_abbrev.proofs.Singles.{numbers_passed, fields_passed, takes_six, takes_none, takes_width, is_character}
use Rattle.bit_abbrev.proofs.scalars.elements_len.Goals as goal
use Rattle.bit_abbrev.proofs.scalars.elements_len.Goals.{in-Fixed, in-Literal, in_default}

pub returns-in-Vbr-eq6 : goal.returns-in-Vbr-eq6
returns-in-Vbr-eq6 c =
    let six : c.in-Vbr-eq6.field-0 ≡ 6 = cc in
    IfSome_then c.all_sixes.result c.all_sixes.ensures (λ len h. numbers_passed c.args.element 6 6 c.args.count (placed c.args.bits) len (c.in-Vbr-eq6.is ∙ ap Vbr six) refl h)

pub returns-in-Vbr : goal.returns-in-Vbr
returns-in-Vbr c = IfSome_then c.all_of.result c.all_of.ensures.has (λ len h. numbers_passed c.args.element c.in-Vbr.width c.of-in-Vbr.result.bits c.args.count (placed c.args.bits) len c.in-Vbr.is (c.of-in-Vbr.ensures ∙ c.of.ensures) h)

pub returns : goal.returns
returns c =
    let element = c.args.element in
    let a = placed c.args.bits in
    let width : ℕ = c.match-element.width in
    let there : c.args.count * width ≤ length a.bits = c.has.ensures c.if-not-has.false in
    elim c.match-element.branch [
      | in-Fixed w ↦ fields_passed element width c.args.count a (c.args.count * width) (takes_width element w.in-Fixed.width width w.in-Fixed.is (w.width-is ∙ w.from-width.ensures)) refl there
      | in-Literal w ↦ fields_passed element width c.args.count a (c.args.count * width) (takes_none element w.in-Literal.field-0 width w.in-Literal.is w.width-is) refl there
      | in_default w ↦ fields_passed element width c.args.count a (c.args.count * width) (takes_six element width (is_character element c.requires.single w.in_default.not-Literal w.in_default.not-Fixed w.in_default.not-Vbr) w.width-is) refl there
    ]
