use Rattle.std.proofs.Common.{◌≡◌, ◌+◌, refl, ap, ◌∙◌, arith}
use Rattle.std.proofs.lemmas.Option.{IfSome_then}
use Rattle.bit_grammar.specs.declared.op.Op.TheVariants.{Vbr}
use Rattle.bit_fields.specs.PlacedView.{placed}
use Rattle.bit_abbrev.proofs.FewValues.{reads_element, sixes_elements}
use Rattle.bit_abbrev.proofs.few.read_elements.Goals as goal

pub returns-in-Vbr-eq6 : goal.returns-in-Vbr-eq6
returns-in-Vbr-eq6 c =
    let six : c.in-Vbr-eq6.field-0 ≡ 6 = cc in
    IfSome_then c.read_sixes.result c.read_sixes.ensures (λ after h. sixes_elements c.args.element c.read_sixes.new.values (placed c.args.elements) (placed after) (c.in-Vbr-eq6.is ∙ ap Vbr six) h)

pub loop-at-preserved : goal.loop-at-preserved
loop-at-preserved c =
    reads_element c.args.element c.loop-at.at (c.loop-at.at + 1) (placed c.args.elements) (placed c.loop-at.bits) c.loop-at.values c.in_ok-value.value (placed c.in_ok-value.after) (omega (arith, c.loop-at-test.true, c.loop-at.auto.values)) refl c.loop-at.invariant c.in_ok-value.ensures.reads
