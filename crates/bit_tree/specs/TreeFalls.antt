-- The items of a block are smaller than a list that contains the block.
use Rattle.std.specs.Prelude.{◌≤◌, max, List, [], ◌∷◌}
use Rattle.std.proofs.Common.{arith}
use denote.Param.Weighed.{most}
use Rattle.bit_tree.specs.TreeSize.{forest_size}
use Rattle.bit_tree.specs.TreeView.{forest_of_items}
use Rattle.bit_tree.specs.declared.tree.Item.{Item}
use Rattle.bit_tree.specs.declared.tree.Item.TheVariants.{Block, Record}
use Rattle.bit_tree.specs.declared.tree.Items.TheDeep.{deep-Item}

pub most_le-forest_size : (items : List Item)
    → max (most deep-Item items) 0 ≤ forest_size (forest_of_items items)
most_le-forest_size [] = omega arith
most_le-forest_size (Block b ∷ rest) = omega (arith, most_le-forest_size rest)
most_le-forest_size (Record r ∷ rest) = omega (arith, most_le-forest_size rest)
