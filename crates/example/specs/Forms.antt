-- What a normal form is.
use Rattle.std.specs.Prelude.{◌≡◌, ℕ, List}
use Rattle.bit_grammar.specs.Bits.{bits_of_bytes}
use Rattle.bit_grammar.specs.Blocks.{Limits}
use Rattle.bit_grammar.specs.Forest.{Tree}
use Rattle.bit_grammar.specs.Normal.{HasTree, normal_form}
use Rattle.bit_grammar.specs.Setting.{keep}

-- these bytes are the normal form of the tree that the bytes of an input spell
abbrev pub IsNormalForm : Limits → (input form : List ℕ) → Type 0
IsNormalForm limits input form = (tree : Tree) × HasTree keep limits input tree
    × (bits_of_bytes form ≡ normal_form tree)
