-- Blocks and their items, in the words of the format. There are no limits here, and a definition may have its operands in any
-- order; if their order is judged at the definition, PassIn says so of a whole tree. Source: "LLVM Bitcode File Format",
-- "Abbreviation IDs", "Blocks", "ENTER_SUBBLOCK Encoding", "END_BLOCK Encoding", "Standard Blocks", "#0 - BLOCKINFO Block". This
-- project's own: the bounds of block ids and widths; that a BLOCKINFO block contains no block, makes a table of its own that
-- replaces the one before, and contains only records that name a block until one is named.
use Rattle.std.specs.Prelude.{◌≡◌, ℕ, ◌+◌, ◌-◌, ◌*◌, ◌^◌, ◌<◌, ◌≤◌, Bool, List, [], ◌∷◌, ◌++◌, length, Option, Some, None, slice_get, ◌⊎◌}
use Rattle.std.specs.List.{AllByRecursion}
use Rattle.bit_grammar.specs.declared.op.Op.{Op}
use Rattle.bit_grammar.specs.declared.shapes.Shapes.{Shapes}
use Rattle.bit_grammar.specs.FormatFields.{IsFixed, IsVbr, IsPadding}
use Rattle.bit_grammar.specs.FormatDefinition.{Definable, InOrder, PassesShape, IsDefinition}
use Rattle.bit_grammar.specs.Terms.{CodeAndValues, Table, no_definitions, BlockInfo, info_for, defined_at}
use Rattle.bit_grammar.specs.FormatRecord.{IsUnabbreviated, IsAbbreviated}
use Rattle.bit_grammar.specs.Forest.{set_bid}
use Rattle.bit_grammar.specs.Marks.{BlockMark, RecordMark, DefinitionMark, Marks, no_marks, marked_block, marked_record, marked_definition}

-- The state at an item: the width of abbreviation ids, the definitions in force, the table of those that BLOCKINFO blocks made, and
-- in a BLOCKINFO block the described block and the table that it makes.
pub record Context : Type 0 where
  pub width : ℕ
  pub definitions : List (List Op)
  pub table : Table
  pub info : Option BlockInfo

-- at the top, with this table: ids of two bits, and no definitions in force
abbrev pub top_with : Table → Context
top_with table = record { width = 2; definitions = []; table = table; info = None }

-- at a stream's beginning: the table is empty
abbrev pub top_context : Context
top_context = top_with no_definitions

-- in a block: ids of its own width, and the definitions that the table has for it; none of the block around it
abbrev pub context_inside : Context → (id width : ℕ) → Context
context_inside c id width = record {
  width = width;
  definitions = c.table id;
  table = c.table;
  info = info_for id;
}

abbrev pub made_or : Table → Option BlockInfo → Table
made_or table None = table
made_or table (Some info) = info.made

-- the table after a block: the one that a BLOCKINFO block made, else the one at the block's end
abbrev pub table_after : Context → Table
table_after c = made_or c.table c.info

-- a table that holds only what can be defined
abbrev pub HoldsDefinable : Table → Type 0
HoldsDefinable table = (id : ℕ) → AllByRecursion Definable (table id)

-- ---- definitions

-- A definition is the block's own, after its others; in a BLOCKINFO block, which needs a described block, it is the last of those
-- for that block, and the BLOCKINFO block has none of its own.
abbrev pub Defined : Option BlockInfo → List Op → Context → Context → Type 0
Defined None ops c new = new ≡ record c { definitions = c.definitions ++ ops ∷ [] }
Defined (Some info) ops c new = (id : ℕ) × (info.described ≡ Some id)
    × (new ≡ record c { info = Some (record info { made = defined_at id ops info.made }) })

-- an item that begins at bit p with this abbreviation id, and the bits after the id
abbrev pub IsItem : Context → (id : ℕ) → (List Bool → List Bool → Type 0) → List Bool → Type 0
IsItem c id Rest s = (head rest : List Bool) × (s ≡ head ++ rest) × IsFixed c.width id head
    × Rest head rest

-- DEFINE_ABBREV
abbrev pub IsDefine : Context → ℕ → DefinitionMark → List Bool → Context → Type 0
IsDefine c p mark s new =
    IsItem c 2 (λ head rest. IsDefinition mark.ops rest) s
    × Defined c.info mark.ops c new
    × (mark.first ≡ p)
    × (mark.after ≡ p + length s)

-- ---- records

-- By id 3 unabbreviated; by an id from 4 on by the definition numbered id - 4 of those in force, whose operands are in a
-- lawful order.
abbrev pub IsRecord : Context → (id p : ℕ) → CodeAndValues → List Bool → Type 0
IsRecord c id p e s = ((id ≡ 3) × IsUnabbreviated e s)
    ⊎ ((4 ≤ id) × (ops : List Op) × (slice_get c.definitions (id - 4) ≡ Some ops) × InOrder ops
    × IsAbbreviated ops p e s)

-- In a BLOCKINFO block a record of code 1 names the block that is described from then on, by its first value; a record of any other
-- code is allowed only if a block is described.
abbrev pub Described : Option BlockInfo → CodeAndValues → Context → Context → Type 0
Described None e c new = new ≡ c
Described (Some info) e c new =
    ((e.code ≡ set_bid) × (id : ℕ) × (slice_get e.values 0 ≡ Some id) × (id < 2 ^ 32)
    × (new ≡ record c { info = Some (record info { described = Some id }) }))
    ⊎ ((e.code ≡ set_bid → ⊥) × ((id : ℕ) × (info.described ≡ Some id)) × (new ≡ c))

abbrev pub entry_of_mark : RecordMark → CodeAndValues
entry_of_mark mark = record { code = mark.code; values = mark.values }

abbrev pub IsNote : Context → ℕ → RecordMark → List Bool → Context → Type 0
IsNote c p mark s new =
    IsItem c mark.abbreviation (λ head rest. IsRecord c mark.abbreviation (p + length head)
    (entry_of_mark mark) rest) s
    × Described c.info (entry_of_mark mark) c new
    × (mark.first ≡ p)
    × (mark.after ≡ p + length s)

-- ---- blocks

-- A block that begins at bit p, with items by Inside: ENTER_SUBBLOCK with the id in VBR 8, the width in VBR 4, padding and the
-- length in 32 bits; the items; END_BLOCK with padding. The length counts the words from the body's first bit to the end of the
-- last padding. The block leaves the table, and all else as it was.
pub record IsBlock (Inside : Context → ℕ → List Bool → Context → Type 0) (c : Context) (p : ℕ)
    (mark : BlockMark) (s : List Bool) (new : Context) : Type 0 where
  -- the bits of its parts
  pub enter : List Bool
  pub id : List Bool
  pub width : List Bool
  pub padding : List Bool
  pub size : List Bool
  pub items : List Bool
  pub leave : List Bool
  pub last : List Bool
  pub words : ℕ
  pub inner : Context
  pub parts : s ≡ (enter ++ (id ++ (width ++ (padding ++ size)))) ++ (items ++ (leave ++ last))
  pub outside : c.info ≡ None
  pub enters : IsFixed c.width 1 enter
  pub named : IsVbr 8 mark.id id
  pub id_small : mark.id < 2 ^ 32
  pub wide : IsVbr 4 mark.width width
  pub width_lawful : (1 ≤ mark.width) × (mark.width ≤ 32)
  pub padded : IsPadding (p + length enter + length id + length width) padding
  pub sized : IsFixed 32 words size
  pub inside : Inside (context_inside c mark.id mark.width) mark.body items inner
  pub leaves : IsFixed mark.width 0 leave
  pub closed : IsPadding (mark.body + length items + length leave) last
  pub measured : length items + length leave + length last ≡ 32 * words
  pub handed : new ≡ record c { table = table_after inner }
  pub first : mark.first ≡ p
  pub body : mark.body ≡ p + length (enter ++ (id ++ (width ++ (padding ++ size))))
  pub after : mark.after ≡ p + length s

-- items in order, the first of which begins at bit p, each in the context that those before it leave
abbrev pub AreItems : Marks → Context → ℕ → List Bool → Context → Type 0
AreItems no_marks c p s left = (s ≡ []) × (left ≡ c)
AreItems (marked_definition mark rest) c p s left = (first others : List Bool) × (new : Context)
    × (s ≡ first ++ others) × IsDefine c p mark first new
    × AreItems rest new (p + length first) others left
AreItems (marked_record mark rest) c p s left = (first others : List Bool) × (new : Context)
    × (s ≡ first ++ others) × IsNote c p mark first new
    × AreItems rest new (p + length first) others left
AreItems (marked_block mark inner rest) c p s left = (first others : List Bool) × (new : Context)
    × (s ≡ first ++ others) × IsBlock (AreItems inner) c p mark first new
    × AreItems rest new (p + length first) others left

-- ---- the order of operands, if it is judged at the definition

-- all definitions pass
abbrev pub PassIn : Shapes → Marks → Type 0
PassIn shapes no_marks = Unit {0}
PassIn shapes (marked_block mark inner rest) = PassIn shapes inner × PassIn shapes rest
PassIn shapes (marked_record mark rest) = PassIn shapes rest
PassIn shapes (marked_definition mark rest) = PassesShape shapes mark.ops × PassIn shapes rest
