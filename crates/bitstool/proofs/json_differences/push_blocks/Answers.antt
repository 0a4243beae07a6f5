use Rattle.std.proofs.Common.{◌^◌, string_bytes}
use Rattle.bit_norm.specs.declared.differences.OpenBlock.{OpenBlock}
use Rattle.bitstool.specs.JsonDifferences.{BlockFits, open_json}
use Rattle.bitstool.proofs.Pushing.{next_pushed, next_taken}
use Rattle.bitstool.proofs.json_differences.push_blocks.Goals as goal

pub loop-block-preserved : goal.loop-block-preserved
loop-block-preserved c =
    let none : OpenBlock = record { id = 0; items = 0 } in
    let i = c.loop-block.block-index in (
      next_pushed open_json c.args.open.now i none (string_bytes c.args.text.now) (string_bytes c.loop-block.text) (string_bytes c.push_block.new.text) c.loop-block-test.true c.loop-block.invariant.0 c.in_ok-push_block.ensures.pushed,
      next_taken (BlockFits (2 ^ 64)) c.args.open.now i none c.loop-block-test.true c.loop-block.invariant.1 c.in_ok-push_block.ensures.fits,
    )
