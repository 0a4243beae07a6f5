use Rattle.std.proofs.Common.{drop}
use Rattle.bit_tree.specs.TreeView.{forest_of_items}
use Rattle.bit_tree.proofs.Depths.{Tells}
use Rattle.bit_tree.proofs.judging.+is_deep.Given as goal

abbrev pub invariant-loop-item : goal.invariant-loop-item
invariant-loop-item l = Tells l.levels l.items (forest_of_items (drop l.item-index l.item-items))
