-- The normal form of a tree: one spelling of it, without definitions and wrapper, each number in its shortest form.
-- This project's own.
use Rattle.std.specs.Prelude.{◌≡◌, ℕ, ◌+◌, ◌/◌, ◌≤◌, Bool, false, List, [], ◌∷◌, ◌++◌, length, replicate}
use Rattle.bit_grammar.specs.Bits.{bits_of}
use Rattle.bit_grammar.specs.Fields.{padding_length}
use Rattle.bit_grammar.specs.FormatFields.{shortest}
use Rattle.bit_grammar.specs.Forest.{Forest, empty, a_block, a_record, Tree}
use Rattle.bit_grammar.specs.Setting.{Setting}
use Rattle.bit_grammar.specs.Under.{under}
use Rattle.bit_grammar.specs.Blocks.{Limits}
use Rattle.bit_grammar.specs.declared.shapes.Shapes.TheVariants.{AtDefinition}
use Rattle.bit_grammar.specs.Input.{tree_of, SpellsInput}
use Rattle.bit_grammar.specs.Terms.{Marked}

-- bits that depend on the position of the first of them
abbrev pub Text : Type 0
Text = ℕ → List Bool

-- the same bits at each position
abbrev pub put : List Bool → Text
put s p = s

-- one text, and another after it
abbrev pub chain : Text → Text → Text
chain a b p = (let s = a p in s ++ b (p + length s))

-- zeros up to the next multiple of 32
abbrev pub padding : Text
padding p = replicate (padding_length p) false

abbrev pub values_bits : List ℕ → List Bool
values_bits [] = []
values_bits (v ∷ vs) = shortest 6 v ++ values_bits vs

-- a record after its abbreviation id: the code, the number of values, and each value
abbrev pub entry_text : ℕ → List ℕ → List Bool
entry_text code values = shortest 6 code ++ (shortest 6 (length values) ++ values_bits values)

-- a block after its abbreviation id, up to its body: its id, the width 2, padding, and its length in words
abbrev pub head_text : (id words : ℕ) → Text
head_text id words = chain (put (shortest 8 id))
    (chain (put (shortest 4 2)) (chain padding (put (bits_of 32 words))))

-- a block after its abbreviation id: the length is that of its own body
abbrev pub block_text : ℕ → Text → Text
block_text id body p = (let b = body (p + length (head_text id 0 p))
    in head_text id (length b / 32) p ++ b)

abbrev pub end_text : Text
end_text = chain (put (bits_of 2 0)) padding

-- items in order
unfoldable pub normal : Forest → Text
normal empty = put []
normal (a_block id inner rest) = chain (chain (put (bits_of 2 1))
    (block_text id (chain (normal inner) end_text))) (normal rest)
normal (a_record code values rest) = chain (chain (put (bits_of 2 3))
    (put (entry_text code values))) (normal rest)

-- the magic, and the blocks
unfoldable pub normal_form : Tree → List Bool
normal_form tree = chain (put (bits_of 32 tree.magic)) (normal tree.blocks) 0

-- The greatest limits. A block's length in words can count this many bytes: 4 * (2^32 - 1).
abbrev pub most_bytes : ℕ
most_bytes = 17179869180

abbrev pub most_depth : ℕ
most_depth = 255

abbrev pub most_values : ℕ
most_values = 4294967295

-- the limits if none are given
abbrev pub usual_limits : Limits
usual_limits = record { bytes = 1073741824; depth = 64; values = 134217728; shapes = AtDefinition }

-- limits within which each length of a normal form fits its field
pub record Capped (limits : Limits) : Type 0 where
  pub bytes : limits.bytes ≤ most_bytes
  pub depth : limits.depth ≤ most_depth
  pub values : limits.values ≤ most_values

-- these bytes spell a marked tree with this tree under a setting
abbrev pub HasTree : Setting → Limits → List ℕ → Tree → Type 0
HasTree setting limits bytes tree = (m : Marked) × SpellsInput limits bytes m
    × (under setting (tree_of m) ≡ tree)
