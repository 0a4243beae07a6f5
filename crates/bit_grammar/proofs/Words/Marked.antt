-- Items and blocks in the words of the format, in the order of the rules.
use Rattle.std.proofs.Common.{◌≡◌, ℕ, ◌+◌, ◌*◌, ◌^◌, ◌<◌, ◌≤◌, Bool, List, [], ◌∷◌, ◌++◌, length, None, refl, sym, ap, ◌∙◌, append_assoc, arith}
use Rattle.std.proofs.lemmas.List.{length-append}
use Rattle.bit_grammar.specs.Grammar.{Round, one_more, last}
use Rattle.bit_grammar.specs.FormatFields.{IsFixed, IsVbr, IsPadding}
use Rattle.bit_grammar.specs.Marks.{BlockMark, Marks, no_marks, marked_block, marked_record, marked_definition, Item, block_item, record_item, definition_item, item_then, marks_of}
use Rattle.bit_grammar.specs.Blocks.{Handed, Scope, leave, BlockHead}
use Rattle.bit_grammar.specs.Terms.{Table}
use Rattle.bit_grammar.specs.FormatBlocks.{Context, top_with, context_inside, table_after, IsDefine, IsNote, IsBlock, AreItems}
use Rattle.bit_grammar.proofs.Words.Contexts.{context_of}

-- ---- items

-- one item, by its mark
abbrev pub IsMarked : Item → Context → ℕ → List Bool → Context → Type 0
IsMarked (block_item mark inner) c p s new = IsBlock (AreItems inner) c p mark s new
IsMarked (record_item mark) c p s new = IsNote c p mark s new
IsMarked (definition_item mark) c p s new = IsDefine c p mark s new

-- an item, and those after it
pub item_first : (x : Item) (rest : Marks) (c new left : Context) (p : ℕ) (first others s : List Bool) → s ≡ first ++ others → IsMarked x c p first new → AreItems rest new (p + length first) others left → AreItems (item_then x rest) c p s left
item_first (block_item mark inner) rest c new left p first others s parts h k = (first, others, new, parts, h, k)
item_first (record_item mark) rest c new left p first others s parts h k = (first, others, new, parts, h, k)
item_first (definition_item mark) rest c new left p first others s parts h k = (first, others, new, parts, h, k)

-- the items in order
abbrev pub items_of : Marks → List Item
items_of no_marks = []
items_of (marked_block mark inner rest) = block_item mark inner ∷ items_of rest
items_of (marked_record mark rest) = record_item mark ∷ items_of rest
items_of (marked_definition mark rest) = definition_item mark ∷ items_of rest

pub marks_again : (marks : Marks) → marks_of (items_of marks) ≡ marks
marks_again no_marks = refl
marks_again (marked_block mark inner rest) = ap (marked_block mark inner) (marks_again rest)
marks_again (marked_record mark rest) = ap (marked_record mark) (marks_again rest)
marks_again (marked_definition mark rest) = ap (marked_definition mark) (marks_again rest)

-- ---- blocks

-- The end of a block with this head: the id 0 and the padding, if the length is right; the bit after it, and what is passed on.
pub record EndIs (h : BlockHead) (scope : Scope) (p : ℕ) (s : List Bool) (e : ℕ × Handed) : Type 0 where
  pub leaves : List Bool
  pub padding : List Bool
  pub parts : s ≡ leaves ++ padding
  pub ends : IsFixed h.width 0 leaves
  pub closed : IsPadding (p + length leaves) padding
  pub measured : h.body + 32 * h.words ≡ p + length s
  pub after : e.0 ≡ p + length s
  pub handed : e.1 ≡ leave scope.info scope.handed

-- one round in a block with this head
abbrev pub RoundIs : BlockHead → Scope → ℕ → List Bool → Round Scope Item (ℕ × Handed) → Type 0
RoundIs h scope p s (one_more x t) = IsMarked x (context_of h.width scope) p s (context_of h.width t)
RoundIs h scope p s (last e) = EndIs h scope p s e

-- a block after its abbreviation id, which began at `first`: all of it that depends on the table alone
pub record BlockAfter (Inside : Context → ℕ → List Bool → Context → Type 0) (first : ℕ) (table : Table) (p : ℕ) (mark : BlockMark) (s : List Bool) (new : Table) : Type 0 where
  pub id : List Bool
  pub width : List Bool
  pub padding : List Bool
  pub size : List Bool
  pub items : List Bool
  pub leave : List Bool
  pub last : List Bool
  pub words : ℕ
  pub inner : Context
  pub parts : s ≡ (id ++ (width ++ (padding ++ size))) ++ (items ++ (leave ++ last))
  pub named : IsVbr 8 mark.id id
  pub id_small : mark.id < 2 ^ 32
  pub wide : IsVbr 4 mark.width width
  pub width_lawful : (1 ≤ mark.width) × (mark.width ≤ 32)
  pub padded : IsPadding (p + length id + length width) padding
  pub sized : IsFixed 32 words size
  pub inside : Inside (context_inside (top_with table) mark.id mark.width) mark.body items inner
  pub leaves : IsFixed mark.width 0 leave
  pub closed : IsPadding (mark.body + length items + length leave) last
  pub measured : length items + length leave + length last ≡ 32 * words
  pub handed : new ≡ table_after inner
  pub begins : mark.first ≡ first
  pub body : mark.body ≡ p + length (id ++ (width ++ (padding ++ size)))
  pub after : mark.after ≡ p + length s

-- a block item after its abbreviation id
abbrev pub IsAfter : Item → (first : ℕ) → Table → ℕ → List Bool → Table → Type 0
IsAfter (block_item mark inner) first table p s new = BlockAfter (AreItems inner) first table p mark s new
IsAfter (record_item mark) first table p s new = ⊥
IsAfter (definition_item mark) first table p s new = ⊥

-- a block is one after its abbreviation id
pub with_id : (Inside : Context → ℕ → List Bool → Context → Type 0) (c : Context) (p : ℕ) (mark : BlockMark) (enter s : List Bool) (new : Table) → c.info ≡ None → IsFixed c.width 1 enter
    → BlockAfter Inside p c.table (p + length enter) mark s new → IsBlock Inside c p mark (enter ++ s) (record c { table = new })
with_id Inside c p mark enter s new none enters k =
    let head : List Bool = k.id ++ (k.width ++ (k.padding ++ k.size)) in
    let rest : List Bool = k.items ++ (k.leave ++ k.last) in
    record {
      enter = enter;
      id = k.id;
      width = k.width;
      padding = k.padding;
      size = k.size;
      items = k.items;
      leave = k.leave;
      last = k.last;
      words = k.words;
      inner = k.inner;
      parts = ap (λ (t : List Bool). enter ++ t) k.parts ∙ sym (append_assoc enter head rest);
      outside = none;
      enters = enters;
      named = k.named;
      id_small = k.id_small;
      wide = k.wide;
      width_lawful = k.width_lawful;
      padded = k.padded;
      sized = k.sized;
      inside = k.inside;
      leaves = k.leaves;
      closed = k.closed;
      measured = k.measured;
      handed = ap (λ (t : Table). record c { table = t }) k.handed;
      first = k.begins;
      body = omega (arith, k.body, length-append enter head);
      after = omega (arith, k.after, length-append enter s);
    }

-- what comes after a block's abbreviation id
pub record WithoutId (Inside : Context → ℕ → List Bool → Context → Type 0) (c : Context) (p : ℕ) (mark : BlockMark) (s : List Bool) (new : Context) : Type 0 where
  pub enter : List Bool
  pub rest : List Bool
  pub table : Table
  pub parts : s ≡ enter ++ rest
  pub outside : c.info ≡ None
  pub enters : IsFixed c.width 1 enter
  pub block : BlockAfter Inside p c.table (p + length enter) mark rest table
  pub handed : new ≡ record c { table = table }

pub without_id : (Inside : Context → ℕ → List Bool → Context → Type 0) (c : Context) (p : ℕ) (mark : BlockMark) (s : List Bool) (new : Context) → IsBlock Inside c p mark s new → WithoutId Inside c p mark s new
without_id Inside c p mark s new k =
    let head : List Bool = k.id ++ (k.width ++ (k.padding ++ k.size)) in
    let rest : List Bool = k.items ++ (k.leave ++ k.last) in
    let parts : s ≡ k.enter ++ (head ++ rest) = k.parts ∙ append_assoc k.enter head rest in
    record {
      enter = k.enter;
      rest = head ++ rest;
      table = table_after k.inner;
      parts = parts;
      outside = k.outside;
      enters = k.enters;
      block = record {
        id = k.id;
        width = k.width;
        padding = k.padding;
        size = k.size;
        items = k.items;
        leave = k.leave;
        last = k.last;
        words = k.words;
        inner = k.inner;
        parts = refl;
        named = k.named;
        id_small = k.id_small;
        wide = k.wide;
        width_lawful = k.width_lawful;
        padded = k.padded;
        sized = k.sized;
        inside = k.inside;
        leaves = k.leaves;
        closed = k.closed;
        measured = k.measured;
        handed = refl;
        begins = k.first;
        body = omega (arith, k.body, length-append k.enter head);
        after = omega (arith, k.after, ap length parts, length-append k.enter (head ++ rest));
      };
      handed = k.handed;
    }
