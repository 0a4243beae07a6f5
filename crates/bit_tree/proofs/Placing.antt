-- Items and blocks, one after another.
use Rattle.std.proofs.Common.{◌≡◌, ℕ, suc, ◌+◌, ◌<◌, List, length, drop, get_or, sym, ap, ◌∙◌, drop-cons, add-one}
use Rattle.bit_tree.specs.TreeView.{put_item, put_block, forest_of_items, forest_of_blocks}
use Rattle.bit_tree.specs.declared.tree.Block.{Block}
use Rattle.bit_tree.specs.declared.tree.Item.{Item}

-- the items from a place on are the item there and those after it
pub item_placed : (items : List Item) (i : ℕ) (item : Item) → i < length items → item ≡ get_or items i item →
    forest_of_items (drop i items) ≡ put_item item (forest_of_items (drop (i + 1) items))
item_placed items i item h is = rw (add-one) (ap forest_of_items (drop-cons items i item h) ∙ ap (λ (x : Item). put_item x (forest_of_items (drop (suc i) items))) (sym is))

-- the blocks from a place on are the block there and those after it
pub block_placed : (blocks : List Block) (i : ℕ) (block : Block) → i < length blocks → block ≡ get_or blocks i block →
    forest_of_blocks (drop i blocks) ≡ put_block block (forest_of_blocks (drop (i + 1) blocks))
block_placed blocks i block h is = rw (add-one) (ap forest_of_blocks (drop-cons blocks i block h) ∙ ap (λ (x : Block). put_block x (forest_of_blocks (drop (suc i) blocks))) (sym is))
