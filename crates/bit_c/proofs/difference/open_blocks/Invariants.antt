use Rattle.std.proofs.Common.{◌≡◌, ◌++◌, drop, map}
use Rattle.bit_c.specs.Differing.{block_told}
use Rattle.bit_c.proofs.difference.open_blocks.Given as goal

abbrev pub invariant-loop-block : goal.invariant-loop-block
invariant-loop-block l = map block_told l.blocks ≡ l.out.items ++ map block_told (drop l.block-index l.blocks)
