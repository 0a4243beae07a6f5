use Rattle.std.proofs.Common.{◌+◌, ◌*◌, drop}
use Rattle.bit_grammar.specs.Normal.{normal}
use Rattle.bit_tree.specs.TreeSize.{forest_size}
use Rattle.bit_tree.specs.TreeView.{forest_of_items}
use Rattle.bit_norm.proofs.Going.{Goes}
use Rattle.bit_norm.proofs.writing.+write.Given as goal

abbrev pub decreases-write_block : goal.decreases-write_block
decreases-write_block g l = 2 * forest_size l.block.now.items + 1

abbrev pub decreases-write_items : goal.decreases-write_items
decreases-write_items g l = 2 * forest_size l.items.now

abbrev pub invariant-write_items-loop-item : goal.invariant-write_items-loop-item
invariant-write_items-loop-item g l = Goes (normal l.items l.fn.writer.position) l.fn.writer (normal (forest_of_items (drop l.item-index l.item-items))) l.writer
