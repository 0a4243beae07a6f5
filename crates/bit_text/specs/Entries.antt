-- Which text lists which tree, in the words of the format.
use Rattle.std.specs.Prelude.{◌≡◌, ℕ, suc, List, [], ◌∷◌, ◌++◌}
use Rattle.bit_grammar.specs.Blocks.{Limits}
use Rattle.bit_grammar.specs.Forest.{Forest, empty, a_block, a_record, Tree}
use Rattle.bit_grammar.specs.FormatListing.{of_block, of_record, Entry, IsListing}
use Rattle.bit_fields.specs.Opening.{magic_number}
use Rattle.bit_norm.specs.Telling.{IsFit}

-- the items of a forest in order, with `around` blocks around it
abbrev pub entries_of : (around : ℕ) → Forest → List Entry
entries_of around empty = []
entries_of around (a_block id inner others) = record { around = around; item = of_block id }
    ∷ (entries_of (suc around) inner ++ entries_of around others)
entries_of around (a_record code values others) = record {
  around = around;
  item = of_record code values;
} ∷ entries_of around others

-- a magic and items are those of a tree within the limits
pub record AreOfTree (limits : Limits) (magic : List ℕ) (entries : List Entry) (tree : Tree) : Type 0 where
  pub number : magic_number magic ≡ tree.magic
  pub items : entries ≡ entries_of 0 tree.blocks
  pub fit : IsFit limits tree

-- a text lists a tree within the limits
abbrev pub Lists : Limits → (text : List ℕ) → Tree → Type 0
Lists limits text tree = (magic : List ℕ) × (entries : List Entry) × IsListing text magic entries
    × AreOfTree limits magic entries tree
