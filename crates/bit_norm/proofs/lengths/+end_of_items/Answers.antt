use Rattle.std.proofs.Common.{◌≡◌, ◌∙◌, ◌+◌, ap, arith, refl}
use Rattle.bit_grammar.specs.Size.{aligned, body_at, end_of}
use Rattle.bit_grammar.specs.Bits.{saturated}
use Rattle.bit_norm.proofs.Ends.{item_end, after_item, block_saturated, no_more_items}
use Rattle.bit_norm.proofs.lengths.+end_of_items.Goals as goal
use Rattle.bit_norm.proofs.lengths.+end_of_items.Goals.{in-Record, in-Block}

pub loop-item-preserved : goal.loop-item-preserved
loop-item-preserved t c =
    let at = c.loop-item.at in
    let next : c.match-item.at ≡ saturated (item_end c.item-item.result at) =
    elim c.match-item.branch [
      | in-Record w ↦ rw (w.at-is, w.in-Record.is, w.end_of_record-at.ensures, w.deref.ensures.value, ← w.record.view_is) refl
      | in-Block w ↦
          let b = w.in-Block.block in
          rw (w.at-is, w.in-Block.is) (w.end_of_block-at.ensures ∙ ap (λ n. saturated (body_at b.id at + aligned (n + 2))) w.end_of_items.ensures ∙ block_saturated (body_at b.id at) (end_of b.items 0))
    ] in
    record {
      so_far = after_item c.deref-item-items.result.now c.loop-item.item-index at c.match-item.at _ c.item-item.result c.loop-item-test.true c.item-item.is next c.loop-item.invariant.so_far;
      fits = omega (arith, next);
    }

pub returns : goal.returns
returns t c = no_more_items c.deref-item-items.result.now c.loop-item.item-index c.args.items.now c.loop-item.at c.args.from c.loop-item-test.false c.loop-item.invariant.fits c.loop-item.invariant.so_far
