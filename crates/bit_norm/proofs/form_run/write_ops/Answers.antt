use Rattle.std.proofs.Common.{refl}
use Rattle.bit_grammar.specs.FormatDefinition.{op_at}
use Rattle.bit_fields.specs.PlacedView.{placed}
use Rattle.bit_norm.proofs.Written.{far_begins, first_and_others, far_value, far_run, far_sixes}
use Rattle.bit_norm.proofs.form_run.write_ops.Goals as goal

pub loop-rest-init : goal.loop-rest-init
loop-rest-init c = far_begins c.args.ops.now (placed c.args.fields) c.args.at c.args.bytes.now c.requires.singles c.requires.few c.requires.there c.requires.room

pub loop-rest-preserved-in-Some : goal.loop-rest-preserved-in-Some
loop-rest-preserved-in-Some c = far_run c.args.ops.now c.loop-rest.rest.now c.sixes_of-run.result _ (placed c.args.fields) c.args.at c.args.bytes.now c.loop-rest.pen (placed c.loop-rest.bits) c.loop-rest.bytes c.in-Some.word c.in-Some.len c.put-pen.result (placed c.after-bits.result) c.put-pen.new.bytes refl c.sixes_of-run.ensures.some c.sixes_of-run.ensures.there c.sixes_of-run.ensures.sixes c.loop-rest.invariant c.in-Some.ensures c.after-bits.ensures.rest c.put-pen.ensures

pub loop-rest-preserved-then-run-gt4 : goal.loop-rest-preserved-then-run-gt4
loop-rest-preserved-then-run-gt4 c = far_sixes c.args.ops.now c.loop-rest.rest.now c.sixes_of-run.result _ (placed c.args.fields) c.args.at c.args.bytes.now c.loop-rest.pen (placed c.loop-rest.bits) c.loop-rest.bytes c.in_ok-at.at (placed c.in_ok-at.after) c.write_sixes.new.bytes refl c.sixes_of-run.ensures.some c.sixes_of-run.ensures.there c.sixes_of-run.ensures.sixes c.loop-rest.invariant c.in_ok-at.ensures (c.if-not-has.ensures refl)

pub loop-rest-preserved : goal.loop-rest-preserved
loop-rest-preserved c = far_value c.args.ops.now c.loop-rest.rest.now (op_at c.loop-rest.rest.now 0) _ (placed c.args.fields) c.args.at c.args.bytes.now c.loop-rest.pen (placed c.loop-rest.bits) c.loop-rest.bytes c.in_ok-value.value (placed c.in_ok-value.after) c.put_number-pen.result c.put_number-pen.new.bytes (first_and_others c.loop-rest.rest.now _ c.in-len1-up.len_at_least refl) c.loop-rest.invariant c.in_ok-value.ensures c.put_number-pen.ensures
