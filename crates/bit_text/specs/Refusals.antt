-- Why a text is refused at a line, in the words of the format.
use Rattle.std.specs.Prelude.{◌≡◌, ℕ, suc, ◌+◌, ◌-◌, ◌*◌, ◌^◌, ◌<◌, ◌≤◌, ◌⊎◌, min, List, [], ◌∷◌, ◌++◌, length, replicate, codes}
use Rattle.std.specs.List.{AllByRecursion}
use Rattle.bit_grammar.specs.Blocks.{Limits}
use Rattle.bit_grammar.specs.Forest.{Tree, Fit, forest_values, wrapper_magic}
use Rattle.bit_grammar.specs.FormatListing.{AreParts, AreDigits, IsNumber, SpellsNumbers, Item, of_block, of_record, IsItem, Entry, IsEntry, IsFreeLine, IsMagicLine, AreListing}
use Rattle.bit_fields.specs.Opening.{magic_number}
use Rattle.bit_text.specs.declared.reason.TextReason.{TextReason}
use Rattle.bit_text.specs.declared.reason.TextReason.TheVariants.{NoMagic, WrapperMagic, BadLine, NumberTooLarge, BadIndentation, TooDeep, TooManyValues, Misplaced}
use Rattle.bit_text.specs.Entries.{entries_of, AreOfTree}

-- ---- numbers that are too large

-- a word begins with digits that spell 2^64 or more
abbrev pub BeginsTooLarge : (word : List ℕ) → Type 0
BeginsTooLarge word = (digits rest : List ℕ) × (n : ℕ) × (2 ^ 64 ≤ n)
    × (((word ≡ digits ++ rest) × AreDigits 10 digits n)
    ⊎ ((word ≡ codes "0x" ++ (digits ++ rest)) × AreDigits 16 digits n))

-- the first of words that spells no number begins so
abbrev pub FirstTooLarge : (words : List (List ℕ)) → Type 0
FirstTooLarge [] = ⊥
FirstTooLarge (word ∷ words) = BeginsTooLarge word
    ⊎ ((n : ℕ) × IsNumber word n × FirstTooLarge words)

abbrev pub SpellsTooLarge : (text : List ℕ) → Type 0
SpellsTooLarge text = (words : List (List ℕ)) × AreParts 32 text words × FirstTooLarge words

-- a text has the word of an item, and then a number that is too large, after others that are not; or a block id of 2^32 or more
abbrev pub IsTooLarge : (text : List ℕ) → Type 0
IsTooLarge text = (numbers : List ℕ)
    × (((text ≡ codes "record " ++ numbers) × SpellsTooLarge numbers)
    ⊎ ((text ≡ codes "block " ++ numbers) × (SpellsTooLarge numbers
    ⊎ ((id : ℕ) × SpellsNumbers numbers (id ∷ []) × (2 ^ 32 ≤ id)))))

-- ---- lines

-- a line is such a text after spaces
abbrev pub HasAfterSpaces : (List ℕ → Type 0) → (line : List ℕ) → Type 0
HasAfterSpaces Is line = (spaces : ℕ) × (text : List ℕ) × (line ≡ replicate spaces 32 ++ text)
    × Is text

abbrev pub IsSomeItem : (text : List ℕ) → Type 0
IsSomeItem text = (item : Item) × IsItem text item

abbrev pub AreFree : (lines : List (List ℕ)) → Type 0
AreFree lines = AllByRecursion IsFreeLine lines

-- lines list a tree within the limits
abbrev pub LinesList : Limits → (lines : List (List ℕ)) → Tree → Type 0
LinesList limits lines tree = (magic : List ℕ) × (entries : List Entry)
    × AreListing lines magic entries × AreOfTree limits magic entries tree

-- ---- items

-- how many blocks are open after an item with so many around it
abbrev pub open_with : (around : ℕ) → Item → ℕ
open_with around (of_block id) = suc around
open_with around (of_record code values) = around

-- the same after items, if so many were open before
abbrev pub blocks_open : ℕ → List Entry → ℕ
blocks_open before [] = before
blocks_open before (e ∷ entries) = blocks_open (open_with e.around e.item) entries

-- an entry after the items of a tree, in blocks that are open there
abbrev pub Follows : Tree → (line : List ℕ) → Entry → Type 0
Follows tree line e = IsEntry line e × (e.around ≤ blocks_open 0 (entries_of 0 tree.blocks))

abbrev pub PassesDepth : Limits → (around : ℕ) → Item → Type 0
PassesDepth limits around (of_block id) = limits.depth < suc around
PassesDepth limits around (of_record code values) = ⊥

abbrev pub PassesValues : Limits → Tree → Item → Type 0
PassesValues limits tree (of_block id) = ⊥
PassesValues limits tree (of_record code values) = limits.values
    < forest_values tree.blocks + length values

-- ---- the reasons

-- a line after those before it is refused for this reason
abbrev pub Breaks : Limits → (before : List (List ℕ)) → (line : List ℕ) → TextReason → Type 0
Breaks limits before line NoMagic = AreFree before × (IsFreeLine line → ⊥)
    × ((magic : List ℕ) → IsMagicLine line magic → ⊥)
Breaks limits before line WrapperMagic = AreFree before × (magic : List ℕ) × IsMagicLine line magic
    × (magic_number magic ≡ wrapper_magic)
Breaks limits before line BadLine = (tree : Tree) × LinesList limits before tree
    × (IsFreeLine line → ⊥) × (HasAfterSpaces IsSomeItem line → ⊥)
    × (HasAfterSpaces IsTooLarge line → ⊥)
Breaks limits before line NumberTooLarge = (tree : Tree) × LinesList limits before tree
    × HasAfterSpaces IsTooLarge line
Breaks limits before line BadIndentation = (tree : Tree) × LinesList limits before tree
    × (spaces : ℕ) × (text : List ℕ) × (line ≡ replicate spaces 32 ++ text) × IsSomeItem text
    × ((around : ℕ) → spaces ≡ 2 * around → blocks_open 0 (entries_of 0 tree.blocks) < around)
Breaks limits before line TooDeep = (tree : Tree) × LinesList limits before tree × (e : Entry)
    × Follows tree line e × PassesDepth limits e.around e.item
Breaks limits before line TooManyValues = (tree : Tree) × LinesList limits before tree × (e : Entry)
    × Follows tree line e × PassesValues limits tree e.item
Breaks limits before line Misplaced = (tree : Tree) × LinesList limits before tree × (e : Entry)
    × Follows tree line e × (PassesDepth limits e.around e.item → ⊥)
    × (PassesValues limits tree e.item → ⊥)
    × ((other : Tree) → Fit other
    → entries_of 0 other.blocks ≡ entries_of 0 tree.blocks ++ e ∷ [] → ⊥)

-- the number of a line after so many, counted from 1; the greatest number is that of each line after it
abbrev pub number_after : ℕ → ℕ
number_after before = min (suc before) (2 ^ 64 - 1)

-- a text is refused for this reason at the line of this number
pub record IsRefused (limits : Limits) (text : List ℕ) (reason : TextReason) (number : ℕ) : Type 0 where
  pub before : List (List ℕ)
  pub line : List ℕ
  pub after : List (List ℕ)
  pub parts : AreParts 10 text (before ++ line ∷ after)
  pub breaks : Breaks limits before line reason
  pub numbered : number ≡ number_after (length before)

-- a text has no magic, and its last line has this number
pub record HasNoMagic (text : List ℕ) (number : ℕ) : Type 0 where
  pub lines : List (List ℕ)
  pub parts : AreParts 10 text lines
  pub free : AreFree lines
  pub numbered : number ≡ min (length lines) (2 ^ 64 - 1)
