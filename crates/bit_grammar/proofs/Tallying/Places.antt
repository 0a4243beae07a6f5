-- The bits of the blocks that are spelled: those of a block are those of its spelling, and those of the blocks in it are
-- within them.
use Rattle.std.proofs.Common.{◌≡◌, ℕ, zero, suc, ◌+◌, ◌-◌, ◌≤◌, Bool, List, [], ◌∷◌, ◌++◌, length, refl, sym, ap, subst, ◌∙◌, arith, inl, inr}
use Rattle.std.specs.Prelude.{sum_by}
use Rattle.std.proofs.lemmas.List.{length-append}
use Rattle.std.proofs.lemmas.List.Sums.{sum_by-cons, sum_by-append}
use Rattle.bit_grammar.specs.declared.shapes.Shapes.{Shapes}
use Rattle.bit_grammar.specs.Grammar.{Round, one_more, last, Rounds, Spells}
use Rattle.bit_grammar.specs.Marks.{Marks, no_marks, marked_block, marked_record, marked_definition, Item, block_item, record_item, definition_item, item_then, marks_of}
use Rattle.bit_grammar.specs.FormatInput.{AreMarkedBlocks}
use Rattle.bit_grammar.specs.Blocks.{Limits, Handed, Scope, BlockHead, enter, end_of_block, nested, item_after, item, block, top_block}
use Rattle.bit_grammar.specs.Whole.{Things}
use Rattle.bit_grammar.specs.Tally.{blocks_in, block_bits, bits_in, own_bits}

-- ---- sums over marks

-- the blocks directly in a block have no more bits than it, to any depth
abbrev pub AreWithin : Marks → Type 0
AreWithin no_marks = Unit {0}
AreWithin (marked_block mark inner rest) = (bits_in inner ≤ block_bits mark) × AreWithin inner × AreWithin rest
AreWithin (marked_record mark rest) = AreWithin rest
AreWithin (marked_definition mark rest) = AreWithin rest

-- the own bits of all blocks are the bits of those at this level
pub own_sum : (marks : Marks) → AreWithin marks → sum_by own_bits (blocks_in marks) ≡ bits_in marks
own_sum no_marks within = refl
own_sum (marked_record mark rest) within = own_sum rest within
own_sum (marked_definition mark rest) within = own_sum rest within
own_sum (marked_block mark inner rest) within =
    let inside = own_sum inner within.1 in
    let others = own_sum rest within.2 in
    sum_by-cons own_bits (record { mark = mark; inner = inner }) (blocks_in inner ++ blocks_in rest)
    ∙ ap (λ (n : ℕ). block_bits mark - bits_in inner + n) (sum_by-append own_bits (blocks_in inner) (blocks_in rest))
    ∙ (let fits = within.0 in omega (arith, fits, inside, others))

abbrev alone : Item → Marks
alone x = item_then x no_marks

bits_then : (x : Item) (rest : Marks) → bits_in (item_then x rest) ≡ bits_in (alone x) + bits_in rest
bits_then (block_item mark inner) rest = omega arith
bits_then (record_item mark) rest = omega arith
bits_then (definition_item mark) rest = omega arith

within_then : (x : Item) (rest : Marks) → AreWithin (alone x) → AreWithin rest → AreWithin (item_then x rest)
within_then (block_item mark inner) rest one others = (one.0, one.1, others)
within_then (record_item mark) rest one others = others
within_then (definition_item mark) rest one others = others

only_then : (x : Item) (rest : Marks) → AreMarkedBlocks (alone x) → AreMarkedBlocks rest → AreMarkedBlocks (item_then x rest)
only_then (block_item mark inner) rest one others = others
only_then (record_item mark) rest one others = absurd one
only_then (definition_item mark) rest one others = absurd one

-- ---- an item from bit first up to bit after

-- an item whose blocks have no more bits
pub record ItemPlaced (first after : ℕ) (x : Item) : Type 0 where
  pub few : first + bits_in (alone x) ≤ after
  pub within : AreWithin (alone x)

-- an item, or the end at this bit
abbrev RoundPlaced : (first after : ℕ) → Round Scope Item (ℕ × Handed) → Type 0
RoundPlaced first after (one_more x t) = ItemPlaced first after x
RoundPlaced first after (last e) = e.0 ≡ after

-- a block, with its bits
pub record BlockPlaced (first after : ℕ) (x : Item) : Type 0 where
  pub only : AreMarkedBlocks (alone x)
  pub all : first + bits_in (alone x) ≡ after
  pub within : AreWithin (alone x)

abbrev ArePlaced : Shapes → (limit depth : ℕ) → Type 0
ArePlaced shapes limit depth = (first : ℕ) (handed : Handed) (p : ℕ) (s : List Bool) (v : Item × Handed) → first ≤ p → Spells (block shapes depth limit first handed) p s v → BlockPlaced first (p + length s) v.0

end_placed : (h : BlockHead) (p : ℕ) (s : List Bool) (after : ℕ) → Spells (end_of_block h) p s after → after ≡ p + length s
unfolding end_of_block
end_placed h p s after k =
    let i = k.5 in
    let j = i.5 in
    omega (arith, ap length k.3, length-append k.0 k.1, ap length i.3, length-append i.0 i.1, ap length j.3, length-append j.0 j.1, ap length i.4.0, i.4.1, ap length j.4.0, ap length j.5.0, j.5.1)

-- a record or a definition
no_blocks : (first p : ℕ) (s : List Bool) (x : Item) → first ≤ p → bits_in (alone x) ≡ 0 → AreWithin (alone x) → ItemPlaced first (p + length s) x
no_blocks first p s x le none within = record { few = omega (arith, le, none); within = within }

after_placed : (shapes : Shapes) (limit depth : ℕ) → ArePlaced shapes limit depth → (h : BlockHead) (first : ℕ) (scope : Scope) (id p : ℕ) (s : List Bool) (x : Round Scope Item (ℕ × Handed)) → first ≤ p
    → Spells (item_after shapes (block shapes depth limit) h limit first scope id) p s x → RoundPlaced first (p + length s) x
unfolding item_after nested
after_placed shapes limit depth inner h first scope id p s x le (inl k) =
    let e = k.1 in
    let there : e.2 ≡ p + length s = omega (arith, end_placed h p e.0 e.2 e.4, ap length e.3, length-append e.0 e.1, ap length e.5.0) in
    subst (RoundPlaced first (p + length s)) (sym e.5.1) there
after_placed shapes limit depth inner h first scope id p s x le (inr (e, inl k)) =
    let n = k.1 in
    let m = n.4 in
    let b = m.5 in
    let f = inner first scope.handed (p + length m.0) b.0 b.2 (omega (arith, le)) b.4 in
    let len : p + length m.0 + length b.0 ≡ p + length s = omega (arith, ap length n.3, length-append n.0 n.1, ap length n.5.0, ap length m.3, length-append m.0 m.1, ap length b.3, length-append b.0 b.1, ap length b.5.0) in
    let here : ItemPlaced first (p + length s) b.2.0 = record { few = omega (arith, f.all, len); within = f.within } in
    let made : n.2.0 ≡ b.2.0 = ap (λ (y : Item × Scope). y.0) b.5.1 in
    subst (RoundPlaced first (p + length s)) (sym n.5.1) (subst (ItemPlaced first (p + length s)) (sym made) here)
after_placed shapes limit depth inner h first scope id p s x le (inr (e, inr (e', inl k))) =
    let n = k.1 in
    subst (RoundPlaced first (p + length s)) (sym n.5.1) (no_blocks first p s (definition_item n.2.0) le refl tt)
after_placed shapes limit depth inner h first scope id p s x le (inr (e, inr (e', inr k))) =
    let n = k.1 in
    subst (RoundPlaced first (p + length s)) (sym n.5.1) (no_blocks first p s (record_item n.2.0) le refl tt)

item_placed : (shapes : Shapes) (limit depth : ℕ) → ArePlaced shapes limit depth → (h : BlockHead) (scope : Scope) (p : ℕ) (s : List Bool) (x : Round Scope Item (ℕ × Handed)) → Spells (item shapes (block shapes depth limit) h limit scope) p s x → RoundPlaced p (p + length s) x
unfolding item
item_placed shapes limit depth inner h scope p s x k =
    let i = k.5 in
    let same : k.2 ≡ p = k.4.1 in
    let le : k.2 ≤ p + length k.0 + length i.0 = omega (arith, same) in
    let f = after_placed shapes limit depth inner h k.2 scope i.2 (p + length k.0 + length i.0) i.1 x le i.5 in
    let end : p + length k.0 + length i.0 + length i.1 ≡ p + length s = omega (arith, ap length k.3, length-append k.0 k.1, ap length i.3, length-append i.0 i.1) in
    subst (λ (n : ℕ). RoundPlaced n (p + length s) x) same (subst (λ (n : ℕ). RoundPlaced k.2 n x) end f)

abbrev Body : Shapes → (limit depth : ℕ) → BlockHead → List Item → Scope → ℕ → List Bool → ℕ × Handed → Type 0
Body shapes limit depth h xs scope p s e = Rounds (λ scope p s x. Spells (item shapes (block shapes depth limit) h limit scope) p s x) xs scope p s e

-- a body from bit p up to bit after
pub record BodyPlaced (p after : ℕ) (xs : List Item) (end : ℕ) : Type 0 where
  pub there : end ≡ after
  pub few : p + bits_in (marks_of xs) ≤ after
  pub within : AreWithin (marks_of xs)

body_placed : (shapes : Shapes) (limit depth : ℕ) → ArePlaced shapes limit depth → (h : BlockHead) (xs : List Item) (scope : Scope) (p : ℕ) (s : List Bool) (e : ℕ × Handed) → Body shapes limit depth h xs scope p s e → BodyPlaced p (p + length s) xs e.0
body_placed shapes limit depth inner h [] scope p s e k = record { there = item_placed shapes limit depth inner h scope p s (last e) k; few = omega arith; within = tt }
body_placed shapes limit depth inner h (x ∷ xs) scope p s e k =
    let f = item_placed shapes limit depth inner h scope p k.0 (one_more x k.2) k.5 in
    let g = body_placed shapes limit depth inner h xs k.2 (p + length k.0) k.1 e k.6 in
    let len : length s ≡ length k.0 + length k.1 = ap length k.3 ∙ length-append k.0 k.1 in
    record {
      there = omega (arith, g.there, len);
      few = omega (arith, f.few, g.few, len, bits_then x (marks_of xs));
      within = within_then x (marks_of xs) f.within g.within;
    }

pub block_placed : (shapes : Shapes) (limit depth : ℕ) → ArePlaced shapes limit depth
unfolding block
block_placed shapes limit zero first handed p s v le k = absurd k
block_placed shapes limit (suc depth) first handed p s v le k =
    let m = k.5 in
    let g = body_placed shapes limit depth (block_placed shapes limit depth) k.2 m.2.0 (enter k.2.id handed) (p + length k.0) m.0 m.2.1 m.4 in
    let len : p + length k.0 + length m.0 ≡ p + length s = omega (arith, ap length k.3, length-append k.0 k.1, ap length m.3, length-append m.0 m.1, ap length m.5.0) in
    let made : v.0 ≡ _ = ap (λ (y : Item × Handed). y.0) m.5.1 in
    subst (BlockPlaced first (p + length s)) (sym made) (record {
      only = tt;
      all = omega (arith, le, g.there, len);
      within = (omega (arith, le, g.there, g.few), g.within, tt);
    })

top_placed : (limits : Limits) (handed : Handed) (p : ℕ) (s : List Bool) (v : Item × Handed) → Spells (top_block limits handed) p s v → BlockPlaced p (p + length s) v.0
unfolding top_block
top_placed limits handed p s v k =
    let i = k.5 in
    let j = i.5 in
    let same : k.2 ≡ p = k.4.1 in
    let le : k.2 ≤ p + length k.0 + length i.0 + length j.0 = omega (arith, same) in
    let f = block_placed limits.shapes limits.values limits.depth k.2 handed (p + length k.0 + length i.0 + length j.0) j.1 v le j.5 in
    let end : p + length k.0 + length i.0 + length j.0 + length j.1 ≡ p + length s = omega (arith, ap length k.3, length-append k.0 k.1, ap length i.3, length-append i.0 i.1, ap length j.3, length-append j.0 j.1) in
    subst (λ (n : ℕ). BlockPlaced n (p + length s) v.0) same (subst (λ (n : ℕ). BlockPlaced k.2 n v.0) end f)

-- blocks from bit p up to the end
pub record AllPlaced (p after : ℕ) (xs : List Item) (end : ℕ) : Type 0 where
  pub only : AreMarkedBlocks (marks_of xs)
  pub there : end ≡ after
  pub all : p + bits_in (marks_of xs) ≡ after
  pub within : AreWithin (marks_of xs)

pub blocks_placed : (limits : Limits) (xs : List Item) (handed : Handed) (p : ℕ) (r : List Bool) (after : ℕ) → Things (λ handed p s x. Spells (top_block limits handed) p s x) xs handed p r after → AllPlaced p (p + length r) xs after
blocks_placed limits [] handed p r after k = record { only = tt; there = omega (arith, k.1, ap length k.0); all = omega (arith, ap length k.0); within = tt }
blocks_placed limits (x ∷ xs) handed p r after k =
    let f = top_placed limits handed p k.0 (x, k.2) k.5 in
    let g = blocks_placed limits xs k.2 (p + length k.0) k.1 after k.6 in
    let len : length r ≡ length k.0 + length k.1 = ap length k.3 ∙ length-append k.0 k.1 in
    record {
      only = only_then x (marks_of xs) f.only g.only;
      there = omega (arith, g.there, len);
      all = omega (arith, f.all, g.all, len, bits_then x (marks_of xs));
      within = within_then x (marks_of xs) f.within g.within;
    }
