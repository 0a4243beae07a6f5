-- The normal form of the tree that a listing spells.
use Rattle.std.specs.Prelude.{◌≡◌, ◌<◌, ⊤, ℕ, List, Ok, Err}
use Rattle.bit_grammar.specs.Bits.{bits_of_bytes}
use Rattle.bit_grammar.specs.Blocks as blocks
use Rattle.bit_grammar.specs.Forest.{Tree}
use Rattle.bit_grammar.specs.Normal.{HasTree, normal_form}
use Rattle.bit_grammar.specs.Setting.{keep}
use Rattle.bit_grammar.specs.Size.{size_of}
use Rattle.bit_text.specs.Listings.{reading_of}
use Rattle.bit_c.specs.declared.outcome.Outcome.{Outcome}
use Rattle.bit_c.specs.declared.outcome.Outcome.TheVariants.{RefusedLine, TooLong, Memory}

-- bytes are the normal form of the tree that a listing spells, and are accepted with that tree
abbrev pub IsFormOf : blocks.Limits → (listing : List ℕ) → List ℕ → Type 0
IsFormOf limits listing bytes = (tree : Tree) × (reading_of limits listing ≡ Ok tree)
    × (bits_of_bytes bytes ≡ normal_form tree) × HasTree keep limits bytes tree

-- Why no form was made: the listing is refused at its first line that no listing has there; or the form has more bytes than the
-- limit; or an allocation failed.
abbrev pub FailsListing : blocks.Limits → (listing : List ℕ) → Outcome → Type 0
FailsListing limits listing (RefusedLine reason line) = reading_of limits listing
    ≡ Err (reason, line)
FailsListing limits listing TooLong = (tree : Tree) × (reading_of limits listing ≡ Ok tree)
    × (limits.bytes < size_of tree)
FailsListing limits listing Memory = ⊤
FailsListing limits listing outcome = ⊥
