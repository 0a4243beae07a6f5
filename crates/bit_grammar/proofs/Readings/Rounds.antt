-- No round is idle: a body and a stream stop by the fault of an item.
use Rattle.std.proofs.Common.{ℕ, ◌+◌, ◌≤◌, Bool, List, [], ◌∷◌, length, arith, inl, inr}
use Rattle.bit_grammar.specs.declared.shapes.Shapes.{Shapes}
use Rattle.bit_grammar.specs.Grammar.{Fault, Grammar, Round, rounds, Spells, Stops, Halts}
use Rattle.bit_grammar.specs.Marks.{Item}
use Rattle.bit_grammar.specs.Blocks.{Limits, Handed, Scope, BlockHead, item, top_block}
use Rattle.bit_grammar.specs.Whole.{until_end, Broken, StopsAll}
use Rattle.bit_grammar.proofs.Readings.Items.{item_takes, top_takes}

pub item_some : (shapes : Shapes) (inner : ℕ → Handed → Grammar (Item × Handed)) (h : BlockHead) (limit : ℕ) (scope : Scope) (p : ℕ) (x : Round Scope Item (ℕ × Handed)) → 1 ≤ h.width → Spells (item shapes inner h limit scope) p [] x → ⊥
item_some shapes inner h limit scope p x wide k = absurd (omega (arith, wide, item_takes shapes inner h limit scope p [] x k))

pub block_some : (limits : Limits) (handed : Handed) (p : ℕ) (v : Item × Handed) → Spells (top_block limits handed) p [] v → ⊥
block_some limits handed p v k = absurd (omega (arith, top_takes limits handed p [] v k))

items_halt : (idle other : Fault) (shapes : Shapes) (inner : ℕ → Handed → Grammar (Item × Handed)) (h : BlockHead) (limit : ℕ) → 1 ≤ h.width → (xs : List Item) (scope : Scope) (p : ℕ) (r : List Bool) (fault : Fault)
    → Halts idle (λ scope p s x. Spells (item shapes inner h limit scope) p s x) (λ scope p r fault. Stops (item shapes inner h limit scope) p r fault) xs scope p r fault
    → Halts other (λ scope p s x. Spells (item shapes inner h limit scope) p s x) (λ scope p r fault. Stops (item shapes inner h limit scope) p r fault) xs scope p r fault
items_halt idle other shapes inner h limit wide [] scope p r fault (inl k) = inl k
items_halt idle other shapes inner h limit wide [] scope p r fault (inr k) = absurd (item_some shapes inner h limit scope p _ wide k.2)
items_halt idle other shapes inner h limit wide (x ∷ xs) scope p r fault k = (k.0, k.1, k.2, k.3, k.4, k.5, items_halt idle other shapes inner h limit wide xs k.2 (p + length k.0) k.1 fault k.6)

pub body_halts : (idle other : Fault) (shapes : Shapes) (inner : ℕ → Handed → Grammar (Item × Handed)) (h : BlockHead) (limit : ℕ) (scope : Scope) (p : ℕ) (r : List Bool) (fault : Fault) → 1 ≤ h.width → Stops (rounds idle (item shapes inner h limit) scope) p r fault → Stops (rounds other (item shapes inner h limit) scope) p r fault
body_halts idle other shapes inner h limit scope p r fault wide k = (k.0, items_halt idle other shapes inner h limit wide k.0 scope p r fault k.1)

blocks_break : (idle other : Fault) (limits : Limits) (xs : List Item) (handed : Handed) (p : ℕ) (r : List Bool) (fault : Fault)
    → Broken idle (λ handed p s x. Spells (top_block limits handed) p s x) (λ handed p r fault. Stops (top_block limits handed) p r fault) xs handed p r fault
    → Broken other (λ handed p s x. Spells (top_block limits handed) p s x) (λ handed p r fault. Stops (top_block limits handed) p r fault) xs handed p r fault
blocks_break idle other limits [] handed p r fault (some, inl k) = (some, inl k)
blocks_break idle other limits [] handed p r fault (some, inr k) = absurd (block_some limits handed p k.0 k.1)
blocks_break idle other limits (x ∷ xs) handed p r fault k = (k.0, k.1, k.2, k.3, k.4, k.5, blocks_break idle other limits xs k.2 (p + length k.0) k.1 fault k.6)

pub stream_breaks : (idle other : Fault) (limits : Limits) (handed : Handed) (p : ℕ) (r : List Bool) (fault : Fault) → StopsAll (until_end idle (top_block limits) handed) p r fault → StopsAll (until_end other (top_block limits) handed) p r fault
stream_breaks idle other limits handed p r fault k = (k.0, blocks_break idle other limits k.0 handed p r fault k.1)
