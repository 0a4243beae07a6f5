use Rattle.std.proofs.Common.{◌≡◌, ◌∙◌, ap}
use Rattle.bit_grammar.specs.declared.op.Op.TheVariants.{Vbr}
use Rattle.bit_fields.specs.PlacedView.{placed}
use Rattle.bit_norm.proofs.Written.{sixes_stored}
use Rattle.bit_norm.proofs.form_run.write_elements.Goals as goal

pub returns-in-Vbr-eq6 : goal.returns-in-Vbr-eq6
returns-in-Vbr-eq6 c =
    let six : c.in-Vbr-eq6.field-0 ≡ 6 = cc in
    sixes_stored c.args.element c.args.count (placed c.args.fields) c.args.at c.args.bytes.now c.write_sixes.new.bytes c.write_sixes.result (c.in-Vbr-eq6.is ∙ ap Vbr six) c.write_sixes.ensures
