use Rattle.std.proofs.Common.{arith, sym, refl}
use Rattle.bit_tree.proofs.Depths.{after_block, after_record}
use Rattle.bit_tree.proofs.Placing.{item_placed}
use Rattle.bit_tree.proofs.judging.+is_deep.Goals as goal
use Rattle.bit_tree.proofs.judging.+is_deep.Goals.{in-Block+else-levels-eq0+else-is_deep, in-Record}

pub loop-item-preserved : goal.loop-item-preserved
loop-item-preserved t c =
    let placed = item_placed c.deref-item-items.result.now c.loop-item.item-index c.item-item.result c.loop-item-test.true c.item-item.is in
    elim c.match-item.branch [
      | in-Block+else-levels-eq0+else-is_deep w ↦
          after_block _ _ _ _ _ _ (rw w.in-Block.is at placed) w.known_id.ensures (λ e. absurd (omega (arith, e, w.if-levels-eq0.false))) (sym w.if-is_deep.ensures.deep) (w.if-is_deep.ensures.range refl) c.loop-item.invariant
      | in-Record w ↦
          after_record _ _ _ _ _ _ (rw (w.in-Record.is, ← w.record.view_is) at placed) w.known_record.ensures.code (rw w.deref.ensures.value at w.known_record.ensures.values) c.loop-item.invariant
    ]
