-- The model of a tree of the program.
use Rattle.std.specs.Prelude.{ℕ, List, [], ◌∷◌}
use Rattle.bit_grammar.specs.Forest.{Forest, empty, a_block, a_record, Tree}
use Rattle.bit_fields.specs.Opening.{magic_number}
use Rattle.bit_tree.specs.declared.tree.Block.{Block}
use Rattle.bit_tree.specs.declared.tree.Item.{Item}
use Rattle.bit_tree.specs.declared.tree.Item.TheVariants as item

-- a block before a forest
abbrev pub put_block : Block → Forest → Forest
put_block b rest = a_block b.id b.items rest

-- an item before a forest
abbrev pub put_item : Item → Forest → Forest
put_item (item.Block b) rest = a_block b.id b.items rest
put_item (item.Record r) rest = a_record r.code r.values rest

-- items in order before a forest
abbrev pub put_items : List Item → Forest → Forest
put_items [] rest = rest
put_items (item ∷ items) rest = put_item item (put_items items rest)

-- blocks in order before a forest
abbrev pub put_blocks : List Block → Forest → Forest
put_blocks [] rest = rest
put_blocks (b ∷ blocks) rest = put_block b (put_blocks blocks rest)

abbrev pub forest_of_items : List Item → Forest
forest_of_items items = put_items items empty

abbrev pub forest_of_blocks : List Block → Forest
forest_of_blocks blocks = put_blocks blocks empty

-- the tree of these bytes of a magic and these blocks
abbrev pub tree_with : List ℕ → List Block → Tree
tree_with magic blocks = record { magic = magic_number magic; blocks = forest_of_blocks blocks }
