use Rattle.std.proofs.Common.{◌≡◌, ◌∙◌, ◌+◌, ap, arith}
use Rattle.bit_grammar.specs.Size.{aligned, body_at, end_of}
use Rattle.bit_tree.specs.TreeView.{forest_of_blocks}
use Rattle.bit_grammar.specs.Bits.{saturated}
use Rattle.bit_norm.proofs.Ends.{after_block, block_saturated, no_more_blocks}
use Rattle.bit_norm.proofs.lengths.end_of_blocks.Goals as goal

pub loop-block-preserved : goal.loop-block-preserved
loop-block-preserved c =
    let b = c.block-item.result in
    let at = c.loop-block.at in
    let next : c.end_of_block-at.result ≡ saturated (body_at b.id at + aligned (end_of b.items 0 + 2)) =
    c.end_of_block-at.ensures ∙ ap (λ n. saturated (body_at b.id at + aligned (n + 2))) c.end_of_items.ensures ∙ block_saturated (body_at b.id at) (end_of b.items 0) in
    record {
      so_far = after_block c.args.blocks.now c.loop-block.block-index at c.end_of_block-at.result _ b c.loop-block-test.true c.block-item.is next c.loop-block.invariant.so_far;
      fits = omega arith;
    }

pub returns : goal.returns
returns c = no_more_blocks c.args.blocks.now c.loop-block.block-index (forest_of_blocks c.args.blocks.now) c.loop-block.at c.args.from c.loop-block-test.false c.loop-block.invariant.fits c.loop-block.invariant.so_far
