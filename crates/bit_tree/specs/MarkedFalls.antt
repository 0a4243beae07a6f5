-- The items of a marked block are smaller than a list that contains the block.
use Rattle.std.specs.Prelude.{◌≤◌, max, List, [], ◌∷◌}
use Rattle.std.proofs.Common.{arith}
use denote.Param.Weighed.{most}
use Rattle.bit_tree.specs.TreeSize.{marks_size}
use Rattle.bit_tree.specs.MarkedView.{marks_of_items}
use Rattle.bit_tree.specs.declared.marked.MarkedItem.{MarkedItem}
use Rattle.bit_tree.specs.declared.marked.MarkedItem.TheVariants.{Block, Record, Define}
use Rattle.bit_tree.specs.declared.marked.MarkedItems.TheDeep.{deep-MarkedItem}

pub most_le-marks_size : (items : List MarkedItem)
    → max (most deep-MarkedItem items) 0 ≤ marks_size (marks_of_items items)
most_le-marks_size [] = omega arith
most_le-marks_size (Block b ∷ rest) = omega (arith, most_le-marks_size rest)
most_le-marks_size (Record r ∷ rest) = omega (arith, most_le-marks_size rest)
most_le-marks_size (Define d ∷ rest) = omega (arith, most_le-marks_size rest)
