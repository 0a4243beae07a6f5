-- The result of analysing an input.
use Rattle.std.specs.Prelude.{◌≡◌, ℕ, ◌+◌, List}
use Rattle.bit_grammar.specs.Blocks.{Limits}
use Rattle.bit_grammar.specs.Input.{SpellsInput}
use Rattle.bit_grammar.specs.Terms.{Marked}
use Rattle.bit_grammar.specs.Tally.{Tally, tally_of, bits_of_rows}

-- the bytes spell a marked tree whose tally this is, and the bits of its rows and of the magic are those of the stream
abbrev pub HasTally : Limits → List ℕ → Tally → Type 0
HasTally limits bytes tally = (m : Marked) × SpellsInput limits bytes m × (tally ≡ tally_of m)
    × (32 + bits_of_rows tally ≡ tally.bits)
