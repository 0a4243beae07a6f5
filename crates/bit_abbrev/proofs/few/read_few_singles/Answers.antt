use Rattle.std.proofs.Common.{length, take, refl, arith}
use Rattle.bit_fields.specs.PlacedView.{placed}
use Rattle.bit_abbrev.proofs.Singles.{scalars_forward}
use Rattle.bit_abbrev.proofs.few.read_few_singles.Goals as goal

pub overflow_sub-result : goal.overflow_sub-result
overflow_sub-result c =
    omega (arith, c.position.ensures, c.requires.behind, scalars_forward c.args.singles.now (placed c.args.bits) (placed c.in_ok-after.after) (take (length c.args.singles.now) c.read_ops.new.values) c.in_ok-after.ensures.reads)

pub returns : goal.returns
returns c = record {
  after = placed c.in_ok-after.after;
  reads = c.in_ok-after.ensures.reads;
  len = omega (arith, c.position.ensures);
  code_is = refl;
  many = refl;
  few = c.if-count-room.false;
}
