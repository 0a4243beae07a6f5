use Rattle.std.proofs.Common.{refl}
use Rattle.bit_fields.specs.PlacedView.{placed}
use Rattle.bit_abbrev.proofs.Singles.{passes_value}
use Rattle.bit_abbrev.proofs.scalars.pass_ops.Goals as goal

pub loop-op-preserved : goal.loop-op-preserved
loop-op-preserved c = let o = c.in_ok-after in let n = c.value_of in passes_value c.args.ops.now c.loop-op.op-index _ (placed c.args.fields) (placed c.loop-op.bits) _ (placed c.in_ok-after.after) c.requires.few c.loop-op-test.true refl c.loop-op.invariant c.in_ok-after.ensures
