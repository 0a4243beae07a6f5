-- Blocks at the top and streams, by the rules and in the words of the format.
use Rattle.std.proofs.Common.{◌≡◌, ℕ, zero, suc, ◌+◌, ◌≤◌, ◌<◌, Bool, List, [], ◌∷◌, ◌++◌, length, refl, sym, ap, subst, ◌∙◌, arith}
use Rattle.std.specs.Prelude.{◌↔◌}
use Rattle.std.proofs.lemmas.Bool.{eqb-true}
use Rattle.std.proofs.lemmas.List.{length-append}
use Rattle.bit_grammar.specs.declared.shapes.Shapes.{Shapes}
use Rattle.bit_grammar.specs.Grammar.{Spells}
use Rattle.bit_grammar.specs.FormatFields.{IsFixed}
use Rattle.bit_grammar.specs.Marks.{BlockMark, Marks, no_marks, marked_block, marked_record, marked_definition, Item, block_item, record_item, definition_item, item_then, marks_of, depth_in, values_in}
use Rattle.bit_grammar.specs.Blocks.{Limits, Handed, nothing_handed, block, top_block}
use Rattle.bit_grammar.specs.Terms.{Table, no_definitions, Head, Marked}
use Rattle.bit_grammar.specs.FormatBlocks.{Context, top_with, HoldsDefinable, IsBlock, AreItems, PassIn}
use Rattle.bit_grammar.specs.FormatInput.{AreMarkedBlocks}
use Rattle.bit_grammar.specs.Whole.{Things, SpellsAll}
use Rattle.bit_grammar.specs.Input.{top_blocks, stream}
use Rattle.bit_grammar.proofs.Words.Fields.{fixed_is, is_fixed}
use Rattle.bit_grammar.proofs.Readings.Items.{top_takes}
use Rattle.bit_grammar.proofs.WholeInputs.Limits.{block_fitted}
use Rattle.bit_grammar.proofs.NormalForms.SpelledParts.{Spelled, then_spelled, here_spelled, judge_spelled}
use Rattle.bit_grammar.proofs.Readings.Parts.{apart, from_here, after_judge}
use Rattle.bit_grammar.proofs.Words.Contexts.{entered_lawful, table_lawful, items_lawful}
use Rattle.bit_grammar.proofs.Words.Marked.{IsMarked, item_first, items_of, marks_again, BlockAfter, IsAfter, with_id, without_id}
use Rattle.bit_grammar.proofs.Words.BlockWords.{block_is}
use Rattle.bit_grammar.proofs.Words.WordBlocks.{block_spelled, items_spelled}

-- ---- a block

-- a block after its id leaves lawful definitions if those before it were lawful
after_lawful : (inner : Marks) (first : ℕ) (table : Table) (p : ℕ) (mark : BlockMark) (s : List Bool) (new : Table) → HoldsDefinable table → BlockAfter (AreItems inner) first table p mark s new → HoldsDefinable new
after_lawful inner first table p mark s new ok k = subst HoldsDefinable (sym k.handed) (table_lawful k.inner (items_lawful inner _ _ _ k.inner k.inside (entered_lawful (top_with table) mark.id mark.width ok)))

-- a block at the top: its id, and what comes after it
record TopIs (x : Item) (handed : Handed) (p : ℕ) (s : List Bool) (new : Handed) : Type 0 where
  enter : List Bool
  rest : List Bool
  parts : s ≡ enter ++ rest
  enters : IsFixed 2 1 enter
  block : IsAfter x p handed.table (p + length enter) rest new.table

top_is : (limits : Limits) (handed : Handed) (p : ℕ) (s : List Bool) (v : Item × Handed) → HoldsDefinable handed.table → Spelled (top_block limits handed) p s v → TopIs v.0 handed p s v.1
unfolding top_block
top_is limits handed p s v ok k =
    let a = apart (from_here k) in
    let j = after_judge a.two in
    record { enter = a.front; rest = a.others; parts = a.parts; enters = subst (λ (i : ℕ). IsFixed 2 i a.front) (eqb-true _ _ j.held) (fixed_is 2 p a.front a.value a.one.is); block = block_is limits.shapes limits.values limits.depth p handed _ a.others v ok j.then }

-- what a block at the top adds to the values and the depth
record TopFits (limits : Limits) (handed : Handed) (mark : BlockMark) (inner : Marks) (new : Handed) : Type 0 where
  sum : new.used ≡ handed.used + values_in inner
  few : new.used ≤ limits.values
  deep : suc (depth_in inner) ≤ limits.depth
  passes : PassIn limits.shapes inner

top_fits : (limits : Limits) (handed new : Handed) (p : ℕ) (s : List Bool) (mark : BlockMark) (inner : Marks) → handed.used ≤ limits.values → Spelled (top_block limits handed) p s (block_item mark inner, new) → TopFits limits handed mark inner new
unfolding top_block
top_fits limits handed new p s mark inner fits k =
    let a = apart (from_here k) in
    let j = after_judge a.two in
    let f = block_fitted limits.shapes limits.values limits.depth p handed _ a.others (block_item mark inner, new) j.then.is in
    record { sum = f.sum; few = f.within fits; deep = f.shallow; passes = f.passes }

top_spelled : (limits : Limits) (handed : Handed) (p : ℕ) (enter rest s : List Bool) (mark : BlockMark) (inner : Marks) (table : Table) → HoldsDefinable handed.table → handed.used + values_in inner ≤ limits.values → suc (depth_in inner) ≤ limits.depth → PassIn limits.shapes inner
    → s ≡ enter ++ rest → IsFixed 2 1 enter → BlockAfter (AreItems inner) p handed.table (p + length enter) mark rest table
    → Spelled (top_block limits handed) p s (block_item mark inner, record { table = table; used = handed.used + values_in inner })
unfolding top_block
top_spelled limits handed p enter rest s mark inner table ok fits deep passes parts is k =
    let b = block_spelled inner (items_spelled inner) limits.shapes limits.values limits.depth p handed (p + length enter) rest mark table ok fits deep passes k in
    subst (λ (t : List Bool). Spelled (top_block limits handed) p t (block_item mark inner, record { table = table; used = handed.used + values_in inner })) (sym parts)
    (here_spelled _ (then_spelled _ (record { is = is_fixed 2 p enter 1 is }) (judge_spelled _ _ _ refl b)))

-- a block at the top, in the words of the format
block_words : (x : Item) (handed : Handed) (p : ℕ) (s : List Bool) (new : Handed) → TopIs x handed p s new → IsMarked x (top_with handed.table) p s (top_with new.table)
block_words (block_item mark inner) handed p s new k = subst (λ (t : List Bool). IsBlock (AreItems inner) (top_with handed.table) p mark t (top_with new.table)) (sym k.parts) (with_id (AreItems inner) (top_with handed.table) p mark k.enter k.rest new.table refl k.enters k.block)
block_words (record_item mark) handed p s new k = absurd k.block
block_words (definition_item mark) handed p s new k = absurd k.block

top_lawful : (x : Item) (handed : Handed) (p : ℕ) (s : List Bool) (new : Handed) → HoldsDefinable handed.table → TopIs x handed p s new → HoldsDefinable new.table
top_lawful (block_item mark inner) handed p s new ok k = after_lawful inner p handed.table (p + length k.enter) mark k.rest new.table ok k.block
top_lawful (record_item mark) handed p s new ok k = absurd k.block
top_lawful (definition_item mark) handed p s new ok k = absurd k.block

-- what is spelled at the top leaves lawful definitions if those before it were lawful
pub block_leaves : (limits : Limits) (handed : Handed) (p : ℕ) (s : List Bool) (v : Item × Handed) → HoldsDefinable handed.table → Spells (top_block limits handed) p s v → HoldsDefinable v.1.table
block_leaves limits handed p s v ok k = top_lawful v.0 handed p s v.1 ok (top_is limits handed p s v ok (record { is = k }))

-- what is spelled is a block
block_only : (shapes : Shapes) (limit depth first : ℕ) (handed : Handed) (p : ℕ) (s : List Bool) (v : Item × Handed) → Spells (block shapes depth limit first handed) p s v → (mark : BlockMark) × (inner : Marks) × (v.0 ≡ block_item mark inner)
unfolding block
block_only shapes limit zero first handed p s v k = absurd k
block_only shapes limit (suc depth) first handed p s v k = (_, _, ap (λ (w : Item × Handed). w.0) k.5.5.1)

pub top_only : (limits : Limits) (handed : Handed) (p : ℕ) (s : List Bool) (v : Item × Handed) → Spells (top_block limits handed) p s v → (mark : BlockMark) × (inner : Marks) × (v.0 ≡ block_item mark inner)
unfolding top_block
top_only limits handed p s v k = block_only limits.shapes limits.values limits.depth _ handed _ _ v k.5.5.5

pub block_agrees : (limits : Limits) (handed new : Handed) (p : ℕ) (s : List Bool) (mark : BlockMark) (inner : Marks) → handed.used ≤ limits.values → HoldsDefinable handed.table
    → (Spells (top_block limits handed) p s (block_item mark inner, new) ↔ (IsBlock (AreItems inner) (top_with handed.table) p mark s (top_with new.table) × (new.used ≡ handed.used + values_in inner) × (new.used ≤ limits.values) × (suc (depth_in inner) ≤ limits.depth) × PassIn limits.shapes inner))
block_agrees limits handed new p s mark inner fits ok = (there, back)
  where
    there : Spells (top_block limits handed) p s (block_item mark inner, new) → IsBlock (AreItems inner) (top_with handed.table) p mark s (top_with new.table) × (new.used ≡ handed.used + values_in inner) × (new.used ≤ limits.values) × (suc (depth_in inner) ≤ limits.depth) × PassIn limits.shapes inner
    there k =
        let f = top_fits limits handed new p s mark inner fits (record { is = k }) in
        (block_words (block_item mark inner) handed p s new (top_is limits handed p s (block_item mark inner, new) ok (record { is = k })), f.sum, f.few, f.deep, f.passes)

    back : IsBlock (AreItems inner) (top_with handed.table) p mark s (top_with new.table) × (new.used ≡ handed.used + values_in inner) × (new.used ≤ limits.values) × (suc (depth_in inner) ≤ limits.depth) × PassIn limits.shapes inner → Spells (top_block limits handed) p s (block_item mark inner, new)
    back k =
        let w = without_id (AreItems inner) (top_with handed.table) p mark s (top_with new.table) k.0 in
        let table : new.table ≡ w.table = ap (λ (c : Context). c.table) w.handed in
        let one = top_spelled limits handed p w.enter w.rest s mark inner w.table ok (omega (arith, k.1, k.2)) k.3 k.4 w.parts w.enters w.block in
        let same : record { table = w.table; used = handed.used + values_in inner } ≡ new = ap (λ (t : Table). record { table = t; used = handed.used + values_in inner }) (sym table) ∙ ap (λ (n : ℕ). record { table = new.table; used = n }) (sym k.1) in
        subst (λ (t : Handed). Spells (top_block limits handed) p s (block_item mark inner, t)) same one.is

-- ---- blocks up to the end

-- blocks that fill the bits
pub record BlocksAre (marks : Marks) (table : Table) (p : ℕ) (r : List Bool) (after : ℕ) : Type 0 where
  pub left : Context
  pub only : AreMarkedBlocks marks
  pub items : AreItems marks (top_with table) p r left
  pub ends : after ≡ p + length r

abbrev Blocks : Limits → List Item → Handed → ℕ → List Bool → ℕ → Type 0
Blocks limits xs handed p r after = Things (λ handed p s x. Spells (top_block limits handed) p s x) xs handed p r after

block_then : (x : Item) (rest : Marks) (handed : Handed) (p : ℕ) (s : List Bool) (new : Handed) → TopIs x handed p s new → AreMarkedBlocks rest → AreMarkedBlocks (item_then x rest)
block_then (block_item mark inner) rest handed p s new k ok = ok
block_then (record_item mark) rest handed p s new k ok = absurd k.block
block_then (definition_item mark) rest handed p s new k ok = absurd k.block

things_are : (limits : Limits) (xs : List Item) (handed : Handed) (p : ℕ) (r : List Bool) (after : ℕ) → HoldsDefinable handed.table → Blocks limits xs handed p r after → BlocksAre (marks_of xs) handed.table p r after
things_are limits [] handed p r after ok k = record { left = top_with handed.table; only = tt; items = (k.0, refl); ends = omega (arith, k.1, ap length k.0) }
things_are limits (x ∷ xs) handed p r after ok k =
    let first = k.0 in
    let one = top_is limits handed p first (x, k.2) ok (record { is = k.5 }) in
    let others = things_are limits xs k.2 (p + length first) k.1 after (top_lawful x handed p first k.2 ok one) k.6 in
    record {
      left = others.left;
      only = block_then x (marks_of xs) handed p first k.2 one others.only;
      items = item_first x (marks_of xs) (top_with handed.table) (top_with k.2.table) others.left p first k.1 r k.3 (block_words x handed p first k.2 one) others.items;
      ends = omega (arith, others.ends, ap length k.3, length-append first k.1);
    }

things_spelled : (limits : Limits) (marks : Marks) (handed : Handed) (p : ℕ) (r : List Bool) (after : ℕ) → HoldsDefinable handed.table → handed.used + values_in marks ≤ limits.values → depth_in marks ≤ limits.depth → PassIn limits.shapes marks → BlocksAre marks handed.table p r after
    → Blocks limits (items_of marks) handed p r after
things_spelled limits no_marks handed p r after ok fits deep passes k = (k.items.0, omega (arith, k.ends, ap length k.items.0))
things_spelled limits (marked_record mark rest) handed p r after ok fits deep passes k = absurd k.only
things_spelled limits (marked_definition mark rest) handed p r after ok fits deep passes k = absurd k.only
things_spelled limits (marked_block mark inner rest) handed p r after ok fits deep passes k =
    let i = k.items in
    let first = i.0 in
    let w = without_id (AreItems inner) (top_with handed.table) p mark first i.2 i.4 in
    let new : Handed = record { table = w.table; used = handed.used + values_in inner } in
    let one = top_spelled limits handed p w.enter w.rest first mark inner w.table ok (omega (arith, fits)) (omega (arith, deep)) passes.0 w.parts w.enters w.block in
    let some : 0 < length first = omega (arith, top_takes limits handed p first (block_item mark inner, new) one.is) in
    let rest_are = subst (λ (c : Context). AreItems rest c (p + length first) i.1 k.left) w.handed i.5 in
    let others = things_spelled limits rest new (p + length first) i.1 after (after_lawful inner p handed.table _ mark w.rest w.table ok w.block) (omega (arith, fits)) (omega (arith, deep)) passes.1
    (record { left = k.left; only = k.only; items = rest_are; ends = omega (arith, k.ends, ap length i.3, length-append first i.1) }) in
    (first, i.1, new, i.3, some, one.is, others)

-- ---- a stream after its magic

pub record StreamIs (head : Head) (p : ℕ) (r : List Bool) (m : Marked) : Type 0 where
  pub begins : m.head ≡ head
  pub blocks : BlocksAre m.blocks no_definitions p r m.after

pub stream_is : (limits : Limits) (head : Head) (p : ℕ) (r : List Bool) (m : Marked) → SpellsAll (stream limits head) p r m → StreamIs head p r m
unfolding stream top_blocks
stream_is limits head p r m k =
    let b = things_are limits k.0.0 nothing_handed p r k.0.1 (λ id. tt) k.1 in
    subst (StreamIs head p r) (sym k.2) (record { begins = refl; blocks = b })

pub stream_spelled : (limits : Limits) (p : ℕ) (r : List Bool) (m : Marked) → depth_in m.blocks ≤ limits.depth → values_in m.blocks ≤ limits.values → PassIn limits.shapes m.blocks → BlocksAre m.blocks no_definitions p r m.after → SpellsAll (stream limits m.head) p r m
unfolding stream top_blocks
stream_spelled limits p r m deep fits passes k =
    let things = things_spelled limits m.blocks nothing_handed p r m.after (λ id. tt) (omega (arith, fits)) deep passes k in
    ((items_of m.blocks, m.after), things, ap (λ (b : Marks). record m { blocks = b }) (sym (marks_again m.blocks)))
