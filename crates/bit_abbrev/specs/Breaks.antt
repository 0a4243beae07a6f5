-- Where a list of operands breaks the rules for abbreviations. Source: "Abbreviations", and this project's own choices.
use Rattle.std.specs.Prelude.{◌≡◌, ◌≢◌, ◌⊎◌, ℕ, ◌+◌, ◌^◌, ◌<◌, length, List, [], ◌∷◌, Option, Some, None, if◌then◌else◌}
use Rattle.bit_grammar.specs.declared.op.Op.{Op}
use Rattle.bit_grammar.specs.declared.op.Op.TheVariants.{Literal, Fixed, Vbr, Array, Blob}
use Rattle.bit_grammar.specs.declared.op.Place.{Place}
use Rattle.bit_grammar.specs.declared.reason.Reason.{Reason}
use Rattle.bit_grammar.specs.declared.reason.Reason.TheVariants.{AbbrevEmpty, AbbrevShape, FieldWidth}
use Rattle.bit_grammar.specs.Definition.{fits, fixed_lawful, vbr_lawful, kind_of}
use Rattle.bit_grammar.specs.FormatDefinition.{op_at, IsElement}

-- ---- in the words of the format

-- The operand at an index is where it may not be: an array or a blob is the first, an array is not the last but one, no element
-- follows an array, or a blob is not the last.
pub data BreaksShape (ops : List Op) (i : ℕ) : Type 0 where
  first_array : i ≡ 0 → op_at ops i ≡ Array → BreaksShape ops i
  first_blob : i ≡ 0 → op_at ops i ≡ Blob → BreaksShape ops i
  array_place : op_at ops i ≡ Array → i + 2 ≢ length ops → BreaksShape ops i
  no_element : (before : ℕ) → i ≡ before + 1 → op_at ops before ≡ Array
      → (IsElement (op_at ops i) → ⊥) → BreaksShape ops i
  blob_place : op_at ops i ≡ Blob → i + 1 ≢ length ops → BreaksShape ops i

-- a width is over 32, or a VBR's is 1
abbrev pub BreaksWidth : Op → Type 0
BreaksWidth (Fixed width) = 32 < width
BreaksWidth (Vbr width) = (32 < width) ⊎ (width ≡ 1)
BreaksWidth _ = ⊥

-- the operand at an index breaks the rules with this reason; the shape is judged before the width
abbrev pub BreaksAt : List Op → ℕ → Reason → Type 0
BreaksAt ops i reason = (i < length ops) × (((reason ≡ AbbrevShape) × BreaksShape ops i)
    ⊎ ((reason ≡ FieldWidth) × (BreaksShape ops i → ⊥) × BreaksWidth (op_at ops i)))

-- no operand breaks the rules
abbrev pub NoneBreaks : List Op → Type 0
NoneBreaks ops = (i : ℕ) (reason : Reason) → BreaksAt ops i reason → ⊥

-- the first break of a list: it is empty, or the operand at the least index that breaks
abbrev pub IsFirstBreak : List Op → ℕ → Reason → Type 0
IsFirstBreak [] i reason = (i ≡ 0) × (reason ≡ AbbrevEmpty)
IsFirstBreak (op ∷ ops) i reason = BreaksAt (op ∷ ops) i reason
    × ((j : ℕ) (other : Reason) → j < i → BreaksAt (op ∷ ops) j other → ⊥)

-- a literal has at most 64 bits, as each one of the code has
abbrev pub LiteralFits : Op → Type 0
LiteralFits (Literal v) = v < 2 ^ 64
LiteralFits _ = Unit {0}

-- ---- how it is judged, from left to right

-- the break of an operand's width
abbrev pub width_break : Op → Option Reason
width_break (Fixed width) = if fixed_lawful width then None else Some FieldWidth
width_break (Vbr width) = if vbr_lawful width then None else Some FieldWidth
width_break _ = None

-- the break of an operand at a place, with `after` operands after it
abbrev pub break_of : Place → (after : ℕ) → Op → Option Reason
break_of place after op = if fits place after (kind_of op) then width_break op else Some AbbrevShape
