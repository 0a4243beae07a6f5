-- Positions that are counted along a tree.
use Rattle.std.proofs.Common.{◌≡◌, ℕ, ◌+◌, ◌/◌, ◌^◌, ◌<◌, ◌≤◌, List, length, get_or, drop, refl, sym, ap, ◌∙◌, arith, inl, inr}
use Rattle.std.proofs.lemmas.Bool.{cases_lt}
use Rattle.std.proofs.lemmas.List.{drop_all}
use Rattle.bit_grammar.specs.Forest.{Forest, empty, a_block, Tree}
use Rattle.bit_grammar.specs.Size.{record_length, aligned, body_at, body_length, end_of, size_of}
use Rattle.bit_grammar.proofs.NormalForms.Sizes.{end_grows}
use Rattle.bit_tree.specs.TreeView.{put_item, forest_of_items, forest_of_blocks}
use Rattle.bit_tree.specs.declared.tree.Block.{Block}
use Rattle.bit_tree.specs.declared.tree.Item.{Item}
use Rattle.bit_tree.specs.declared.tree.Item.TheVariants as item
use Rattle.bit_tree.proofs.Placing.{item_placed, block_placed}
use Rattle.bit_grammar.specs.Bits.{saturated}

-- a saturated position stays saturated, and so does each after it
end_saturated : (f : Forest) (p : ℕ) → saturated (end_of f (saturated p)) ≡ saturated (end_of f p)
end_saturated f p = elim (cases_lt p 18446744073709551616) [
  | inl below ↦ let same : saturated p ≡ p = omega arith in rw same refl
  | inr above ↦ omega (arith, end_grows f (saturated p), end_grows f p)
]

-- the bit after an item
abbrev pub item_end : Item → ℕ → ℕ
item_end (item.Block b) p = body_at b.id p + body_length b.items
item_end (item.Record r) p = p + record_length r.code r.values

end_of_put : (x : Item) (rest : Forest) (p : ℕ) → end_of (put_item x rest) p ≡ end_of rest (item_end x p)
unfolding end_of
end_of_put (item.Block b) rest p = refl
end_of_put (item.Record r) rest p = refl

end_of_block : (id : ℕ) (inner rest : Forest) (p : ℕ) → end_of (a_block id inner rest) p ≡ end_of rest (body_at id p + body_length inner)
unfolding end_of
end_of_block id inner rest p = refl

-- a body whose items' end is saturated is saturated
pub block_saturated : (from e : ℕ) → saturated (from + aligned (saturated e + 2)) ≡ saturated (from + aligned (e + 2))
block_saturated from e = elim (cases_lt e 18446744073709551616) [
  | inl below ↦ let same : saturated e ≡ e = omega arith in rw same refl
  | inr above ↦ omega arith
]

-- one item more
pub after_item : (items : List Item) (i at next total : ℕ) (x : Item) → i < length items → x ≡ get_or items i x → next ≡ saturated (item_end x at)
    → saturated (end_of (forest_of_items (drop i items)) at) ≡ total → saturated (end_of (forest_of_items (drop (i + 1) items)) next) ≡ total
after_item items i at next total x h is e so_far =
    let rest = forest_of_items (drop (i + 1) items) in
    ap (λ n. saturated (end_of rest n)) e
    ∙ end_saturated rest (item_end x at)
    ∙ ap saturated (sym (end_of_put x rest at) ∙ ap (λ (f : Forest). end_of f at) (sym (item_placed items i x h is)))
    ∙ so_far

-- one block more
pub after_block : (blocks : List Block) (i at next total : ℕ) (b : Block) → i < length blocks → b ≡ get_or blocks i b → next ≡ saturated (body_at b.id at + body_length b.items)
    → saturated (end_of (forest_of_blocks (drop i blocks)) at) ≡ total → saturated (end_of (forest_of_blocks (drop (i + 1) blocks)) next) ≡ total
after_block blocks i at next total b h is e so_far =
    let rest = forest_of_blocks (drop (i + 1) blocks) in
    ap (λ n. saturated (end_of rest n)) e
    ∙ end_saturated rest (body_at b.id at + body_length b.items)
    ∙ ap saturated (sym (end_of_block b.id b.items rest at) ∙ ap (λ (f : Forest). end_of f at) (sym (block_placed blocks i b h is)))
    ∙ so_far

no_more : (f whole : Forest) (at from : ℕ) → f ≡ empty → at < 2 ^ 64 → saturated (end_of f at) ≡ saturated (end_of whole from) → at ≡ saturated (end_of whole from)
unfolding end_of
no_more f whole at from is fits so_far = omega (arith, so_far, ap (λ (g : Forest). end_of g at) is)

-- no item more
pub no_more_items : (items : List Item) (i : ℕ) (whole : Forest) (at from : ℕ) → length items ≤ i → at < 2 ^ 64 → saturated (end_of (forest_of_items (drop i items)) at) ≡ saturated (end_of whole from) → at ≡ saturated (end_of whole from)
no_more_items items i whole at from h = no_more (forest_of_items (drop i items)) whole at from (ap forest_of_items (drop_all i items h))

-- no block more
pub no_more_blocks : (blocks : List Block) (i : ℕ) (whole : Forest) (at from : ℕ) → length blocks ≤ i → at < 2 ^ 64 → saturated (end_of (forest_of_blocks (drop i blocks)) at) ≡ saturated (end_of whole from) → at ≡ saturated (end_of whole from)
no_more_blocks blocks i whole at from h = no_more (forest_of_blocks (drop i blocks)) whole at from (ap forest_of_blocks (drop_all i blocks h))

-- the words of a body that is not saturated
pub words_counted : (inner : Forest) (end bits : ℕ) → end ≡ saturated (end_of inner 0) → bits ≡ saturated (aligned (end + 2)) → body_length inner < 2 ^ 63 → bits / 32 ≡ body_length inner / 32
words_counted inner end bits e f short = omega (arith, e, f, ap (λ n. saturated (aligned (n + 2))) e, block_saturated 0 (end_of inner 0))

-- the size in bytes of a tree whose last bit is counted
pub size_fits : (tree : Tree) (end limit : ℕ) → end ≡ saturated (end_of tree.blocks 32) → limit ≤ 17179869180 → end / 8 ≤ limit → end / 8 ≡ size_of tree
unfolding size_of
size_fits tree end limit e cap within = omega (arith, e)

pub size_passes : (tree : Tree) (end limit : ℕ) → end ≡ saturated (end_of tree.blocks 32) → limit < end / 8 → limit < size_of tree
unfolding size_of
size_passes tree end limit e over = omega (arith, e)
