use Rattle.std.proofs.Common.{drop}
use Rattle.bit_grammar.specs.Normal.{normal}
use Rattle.bit_tree.specs.TreeView.{forest_of_blocks}
use Rattle.bit_norm.proofs.Going.{Goes}
use Rattle.bit_norm.proofs.writing.write_blocks.Given as goal

abbrev pub invariant-loop-block : goal.invariant-loop-block
invariant-loop-block g l = Goes (normal (forest_of_blocks l.blocks) l.fn.writer.position) l.fn.writer (normal (forest_of_blocks (drop l.block-index l.blocks))) l.writer
