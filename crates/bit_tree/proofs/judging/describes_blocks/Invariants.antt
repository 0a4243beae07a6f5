use Rattle.std.proofs.Common.{◌≡◌, false, drop}
use Rattle.bit_tree.specs.Judging.{describes_blocks}
use Rattle.bit_tree.specs.TreeView.{forest_of_items}
use Rattle.bit_tree.proofs.judging.describes_blocks.Given as goal

abbrev pub invariant-loop-item : goal.invariant-loop-item
invariant-loop-item l = describes_blocks l.described (forest_of_items (drop l.item-index l.item-items)) ≡ describes_blocks false l.items
