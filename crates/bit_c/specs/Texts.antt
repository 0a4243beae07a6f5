-- The texts that calls make of an input.
use Rattle.std.specs.Prelude.{◌≡◌, ◌<◌, ℕ, List}
use Rattle.bit_grammar.specs.Setting.{Setting}
use Rattle.bit_grammar.specs.Bits.{bits_of_bytes}
use Rattle.bit_grammar.specs.Forest.{Tree}
use Rattle.bit_grammar.specs.Blocks as blocks
use Rattle.bit_grammar.specs.Normal.{HasTree, normal_form}
use Rattle.bit_grammar.specs.Size.{size_of}
use Rattle.bit_grammar.specs.Tally.{Tally}
use Rattle.bit_grammar.specs.Texts.{report_of, listing_of}
use Rattle.bit_scan.specs.Analysing.{HasTally}
use Rattle.bit_c.specs.declared.outcome.Outcome.{Outcome}
use Rattle.bit_c.specs.declared.outcome.Outcome.TheVariants.{TooLong}
use Rattle.bit_c.specs.declared.texts.Text.{Text}
use Rattle.bit_c.specs.declared.texts.Text.TheVariants.{Form, Report, Listing}
use Rattle.bit_c.specs.Calls.{FailsCall}
use Rattle.bit_c.specs.Handing.{HandsText}

-- A text is the normal form of the tree that the bytes spell under a setting, the report of their analysis, or the listing of
-- that tree.
abbrev pub IsTextOf : Text → Setting → blocks.Limits → List ℕ → List ℕ → Type 0
IsTextOf Form setting limits bytes text = (tree : Tree) × HasTree setting limits bytes tree
    × (bits_of_bytes text ≡ normal_form tree)
IsTextOf (Report keys) setting limits bytes text = (tally : Tally) × HasTally limits bytes tally
    × (text ≡ report_of tally)
IsTextOf Listing setting limits bytes text = (tree : Tree) × HasTree setting limits bytes tree
    × (text ≡ listing_of tree)

-- Why a text was not made: the bytes break with this fault; or an allocation failed; or their normal form has more bytes than the
abbrev pub FailsText : Text → Setting → blocks.Limits → List ℕ → Outcome → Type 0
FailsText Form setting limits bytes TooLong = (tree : Tree) × HasTree setting limits bytes tree
    × (limits.bytes < size_of tree)
FailsText text setting limits bytes outcome = FailsCall limits bytes outcome

-- The text was handed out; or the room is too small for it; or nothing was handed out, for this reason.
abbrev pub GivesText : Text → Setting → blocks.Limits → List ℕ → List ℕ → ℕ → List ℕ → Outcome
    → Type 0
GivesText text setting limits bytes = HandsText (IsTextOf text setting limits bytes)
    (FailsText text setting limits bytes)
