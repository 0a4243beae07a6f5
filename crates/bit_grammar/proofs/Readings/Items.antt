-- Each item takes the bits of its id, so no round is idle.
use Rattle.std.proofs.Common.{ℕ, ◌≤◌, Bool, leb, List, length, ap, arith}
use Rattle.std.proofs.lemmas.List.{length-append}
use Rattle.std.proofs.lemmas.Bool.{leb-true, and_parts}
use Rattle.bit_grammar.specs.declared.shapes.Shapes.{Shapes}
use Rattle.bit_grammar.specs.Grammar.{Grammar, Round, Spells}
use Rattle.bit_grammar.specs.Marks.{Item}
use Rattle.bit_grammar.specs.Blocks.{Limits, Handed, Scope, BlockHead, new_width, block_head, item, top_block}
use Rattle.bit_grammar.proofs.Words.Fields.{fixed_is}

pub item_takes : (shapes : Shapes) (inner : ℕ → Handed → Grammar (Item × Handed)) (h : BlockHead) (limit : ℕ) (scope : Scope) (p : ℕ) (s : List Bool) (x : Round Scope Item (ℕ × Handed)) → Spells (item shapes inner h limit scope) p s x → h.width ≤ length s
unfolding item
item_takes shapes inner h limit scope p s x k =
    let i = k.5 in
    let id = fixed_is h.width _ i.0 i.2 i.4 in
    omega (arith, ap length k.3, length-append k.0 k.1, ap length i.3, length-append i.0 i.1, id.length)

pub top_takes : (limits : Limits) (handed : Handed) (p : ℕ) (s : List Bool) (v : Item × Handed) → Spells (top_block limits handed) p s v → 2 ≤ length s
unfolding top_block
top_takes limits handed p s v k =
    let i = k.5 in
    let id = fixed_is 2 _ i.0 i.2 i.4 in
    omega (arith, ap length k.3, length-append k.0 k.1, ap length i.3, length-append i.0 i.1, id.length)

width_is : (p : ℕ) (s : List Bool) (width : ℕ) → Spells new_width p s width → 1 ≤ width
unfolding new_width
width_is p s width k =
    let j = k.5.5 in
    let both = and_parts (leb 1 k.5.2) (leb k.5.2 32) j.4.1 in
    omega (arith, leb-true _ _ both.0, j.5.1)

-- a block's width is at least 1
pub head_width : (p : ℕ) (s : List Bool) (h : BlockHead) → Spells block_head p s h → 1 ≤ h.width
unfolding block_head
head_width p s h k =
    let w = k.5 in
    omega (arith, width_is _ w.0 w.2 w.4, ap (λ (x : BlockHead). x.width) w.5.5.5.5.5.1)
