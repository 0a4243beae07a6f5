-- A block is smaller than the list of items that contains it.
use Rattle.std.proofs.Common.{◌≡◌, ℕ, zero, suc, ◌+◌, ◌<◌, ◌≤◌, List, [], ◌∷◌, length, get_or, drop, ap, ◌∙◌, arith}
use Rattle.bit_grammar.specs.Forest.{Forest}
use Rattle.bit_tree.specs.TreeSize.{forest_size}
use Rattle.bit_tree.specs.TreeView.{put_item, forest_of_items}
use Rattle.bit_tree.specs.declared.tree.Block.{Block}
use Rattle.bit_tree.specs.declared.tree.Item.{Item}
use Rattle.bit_tree.specs.declared.tree.Item.TheVariants as item
use Rattle.bit_tree.proofs.Placing.{item_placed}

put_larger : (x : Item) (rest : Forest) → forest_size rest ≤ forest_size (put_item x rest)
put_larger (item.Block b) rest = omega arith
put_larger (item.Record r) rest = omega arith

drop_smaller : (items : List Item) (i : ℕ) → forest_size (forest_of_items (drop i items)) ≤ forest_size (forest_of_items items)
drop_smaller items zero = omega arith
drop_smaller [] (suc i) = omega arith
drop_smaller (x ∷ items) (suc i) = omega (arith, drop_smaller items i, put_larger x (forest_of_items items))

pub block_smaller : (items : List Item) (i : ℕ) (x : Item) (b : Block) (whole : Forest) → i < length items → x ≡ get_or items i x → x ≡ item.Block b → forest_of_items items ≡ whole → forest_size b.items + 1 ≤ forest_size whole
block_smaller items i x b whole h is block viewed =
    let rest = forest_of_items (drop (i + 1) items) in
    let placed : forest_size (forest_of_items (drop i items)) ≡ forest_size (put_item (item.Block b) rest) = ap forest_size (item_placed items i x h is ∙ ap (λ (y : Item). put_item y rest) block) in
    omega (arith, placed, drop_smaller items i, ap forest_size viewed)
