use Rattle.std.proofs.Common.{drop}
use Rattle.bit_tree.specs.TreeView.{forest_of_blocks}
use Rattle.bit_tree.proofs.Depths.{Tells}
use Rattle.bit_tree.proofs.judging.are_deep.Given as goal

abbrev pub invariant-loop-block : goal.invariant-loop-block
invariant-loop-block l = Tells 255 (forest_of_blocks l.blocks) (forest_of_blocks (drop l.block-index l.blocks))
