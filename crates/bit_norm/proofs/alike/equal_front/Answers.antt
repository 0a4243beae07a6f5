use Rattle.std.proofs.Common.{arith, refl}
use Rattle.bit_norm.proofs.AlikeBytes.{same_more}
use Rattle.bit_norm.proofs.alike.equal_front.Goals.{then-are_equal, else-are_equal}
use Rattle.bit_norm.proofs.alike.equal_front.Goals as goal

pub loop-width-preserved : goal.loop-width-preserved
loop-width-preserved c =
    let was = c.loop-width.invariant in
    elim c.if-are_equal.branch [
      | then-are_equal w ↦
          let next = w.if-are_equal.ensures refl in
          record {
            same = rw w.equal-is (same_more c.args.slice.now c.args.rest.now c.loop-width.equal c.loop-width.width was.same next);
            first = omega arith;
            second = omega arith;
            few = omega arith;
          }
      | else-are_equal w ↦
          record { same = rw w.equal-is was.same; first = omega arith; second = omega arith; few = omega arith }
    ]
