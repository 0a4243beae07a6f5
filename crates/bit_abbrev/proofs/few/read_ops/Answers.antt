use Rattle.std.proofs.Common.{◌+◌, refl, arith}
use Rattle.bit_fields.specs.PlacedView.{placed}
use Rattle.bit_abbrev.proofs.FewValues.{reads_value}
use Rattle.bit_abbrev.proofs.few.read_ops.Goals as goal

pub loop-at-preserved : goal.loop-at-preserved
loop-at-preserved c =
    reads_value c.args.ops.now c.loop-at.at (c.loop-at.at + 1) (placed c.args.fields) (placed c.loop-at.bits) c.loop-at.values c.in_ok-value.value (placed c.in_ok-value.after) c.requires.few c.loop-at-test.true (omega (arith, c.loop-at-test.true, c.requires.places, c.loop-at.auto.values)) refl c.loop-at.invariant c.in_ok-value.ensures
