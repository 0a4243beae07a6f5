-- Copying the items of a marked block, one after another.
use Rattle.std.proofs.Common.{◌≡◌, ℕ, suc, ◌+◌, ◌<◌, List, [], ◌∷◌, ◌++◌, length, drop, get_or, refl, sym, ap, ◌∙◌, drop-cons, add-one}
use Rattle.bit_grammar.specs.Setting.{Setting}
use Rattle.bit_grammar.specs.Under.{items_under}
use Rattle.bit_grammar.specs.Forest.{Forest}
use Rattle.bit_grammar.specs.Marks.{Marks, forest_of}
use Rattle.bit_tree.specs.MarkedView.{put_marked, put_marked_block, marks_of_items, marks_of_blocks}
use Rattle.bit_tree.specs.TreeView.{put_item, put_items, put_block, put_blocks}
use Rattle.bit_tree.specs.declared.tree.Block.{Block}
use Rattle.bit_tree.specs.declared.tree.Item.{Item}
use Rattle.bit_tree.specs.declared.marked.MarkedBlock.{MarkedBlock}
use Rattle.bit_tree.specs.declared.marked.MarkedItem.{MarkedItem}

-- the kept marks of a block with this id
abbrev pub left_of : Setting → (around : ℕ) → Marks → Forest
left_of s around m = items_under s around (forest_of m)

-- ---- items

put_items-push : (items : List Item) (item : Item) (rest : Forest) → put_items (items ++ item ∷ []) rest ≡ put_items items (put_item item rest)
put_items-push [] item rest = refl
put_items-push (first ∷ items) item rest = ap (put_item first) (put_items-push items item rest)

-- the marked items from a place on are the item there and those after it
marked_placed : (marked : List MarkedItem) (i : ℕ) (m : MarkedItem) → i < length marked → m ≡ get_or marked i m →
    marks_of_items (drop i marked) ≡ put_marked m (marks_of_items (drop (i + 1) marked))
marked_placed marked i m h is = rw (add-one) (ap marks_of_items (drop-cons marked i m h) ∙ ap (λ (x : MarkedItem). put_marked x (marks_of_items (drop (suc i) marked))) (sym is))

-- one more item is copied
pub copied : (s : Setting) (around : ℕ) (out : List Item) (new : Item) (marked : List MarkedItem) (i : ℕ) (m : MarkedItem) (total : Forest) →
    i < length marked → m ≡ get_or marked i m → ((rest : Marks) → left_of s around (put_marked m rest) ≡ put_item new (left_of s around rest)) →
    put_items out (left_of s around (marks_of_items (drop i marked))) ≡ total → put_items (out ++ new ∷ []) (left_of s around (marks_of_items (drop (i + 1) marked))) ≡ total
copied s around out new marked i m total h is same so_far =
    put_items-push out new (left_of s around (marks_of_items (drop (i + 1) marked)))
    ∙ ap (put_items out) (sym (ap (left_of s around) (marked_placed marked i m h is) ∙ same (marks_of_items (drop (i + 1) marked)))) ∙ so_far

-- an item is left out
pub skipped : (s : Setting) (around : ℕ) (out : List Item) (marked : List MarkedItem) (i : ℕ) (m : MarkedItem) (total : Forest) →
    i < length marked → m ≡ get_or marked i m → ((rest : Marks) → left_of s around (put_marked m rest) ≡ left_of s around rest) →
    put_items out (left_of s around (marks_of_items (drop i marked))) ≡ total → put_items out (left_of s around (marks_of_items (drop (i + 1) marked))) ≡ total
skipped s around out marked i m total h is same so_far =
    ap (put_items out) (sym (ap (left_of s around) (marked_placed marked i m h is) ∙ same (marks_of_items (drop (i + 1) marked)))) ∙ so_far

-- ---- blocks

put_blocks-push : (blocks : List Block) (b : Block) (rest : Forest) → put_blocks (blocks ++ b ∷ []) rest ≡ put_blocks blocks (put_block b rest)
put_blocks-push [] b rest = refl
put_blocks-push (first ∷ blocks) b rest = ap (put_block first) (put_blocks-push blocks b rest)

-- the marked blocks from a place on are the block there and those after it
marked_block_placed : (marked : List MarkedBlock) (i : ℕ) (m : MarkedBlock) → i < length marked → m ≡ get_or marked i m →
    marks_of_blocks (drop i marked) ≡ put_marked_block m (marks_of_blocks (drop (i + 1) marked))
marked_block_placed marked i m h is =
    rw (add-one) (ap marks_of_blocks (drop-cons marked i m h) ∙ ap (λ (x : MarkedBlock). put_marked_block x (marks_of_blocks (drop (suc i) marked))) (sym is))

-- one more block is copied
pub copied_block : (s : Setting) (around : ℕ) (out : List Block) (new : Block) (marked : List MarkedBlock) (i : ℕ) (m : MarkedBlock) (total : Forest) →
    i < length marked → m ≡ get_or marked i m → ((rest : Marks) → left_of s around (put_marked_block m rest) ≡ put_block new (left_of s around rest)) →
    put_blocks out (left_of s around (marks_of_blocks (drop i marked))) ≡ total → put_blocks (out ++ new ∷ []) (left_of s around (marks_of_blocks (drop (i + 1) marked))) ≡ total
copied_block s around out new marked i m total h is same so_far =
    put_blocks-push out new (left_of s around (marks_of_blocks (drop (i + 1) marked)))
    ∙ ap (put_blocks out) (sym (ap (left_of s around) (marked_block_placed marked i m h is) ∙ same (marks_of_blocks (drop (i + 1) marked)))) ∙ so_far

-- a block is left out
pub skipped_block : (s : Setting) (around : ℕ) (out : List Block) (marked : List MarkedBlock) (i : ℕ) (m : MarkedBlock) (total : Forest) →
    i < length marked → m ≡ get_or marked i m → ((rest : Marks) → left_of s around (put_marked_block m rest) ≡ left_of s around rest) →
    put_blocks out (left_of s around (marks_of_blocks (drop i marked))) ≡ total → put_blocks out (left_of s around (marks_of_blocks (drop (i + 1) marked))) ≡ total
skipped_block s around out marked i m total h is same so_far =
    ap (put_blocks out) (sym (ap (left_of s around) (marked_block_placed marked i m h is) ∙ same (marks_of_blocks (drop (i + 1) marked)))) ∙ so_far
