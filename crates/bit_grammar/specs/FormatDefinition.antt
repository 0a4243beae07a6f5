-- The definition of an abbreviation in the words of the format.
-- Source: "LLVM Bitcode File Format", "Abbreviation IDs", "Abbreviations", "DEFINE_ABBREV Encoding". This project's
-- own: the bounds of the widths, that there is an operand, that the first is no array and no blob, and that an array's
-- element is a plain field.
use Rattle.std.specs.Prelude.{◌≡◌, ℕ, ◌+◌, ◌^◌, ◌<◌, ◌≤◌, ◌≢◌, length, get_or, Bool, true, false, List, [], ◌∷◌, ◌++◌}
use Rattle.std.specs.List.{AllByRecursion}
use Rattle.bit_grammar.specs.declared.op.Op.{Op}
use Rattle.bit_grammar.specs.declared.op.Op.TheVariants.{Literal, Fixed, Vbr, Array, Char6, Blob}
use Rattle.bit_grammar.specs.declared.shapes.Shapes.{Shapes}
use Rattle.bit_grammar.specs.declared.shapes.Shapes.TheVariants.{AtDefinition, AtUse}
use Rattle.bit_grammar.specs.FormatFields.{IsFixed, IsVbr}

-- ---- what a lawful list of operands is

-- the operand at an index; past the end a literal in its place
abbrev pub op_at : List Op → ℕ → Op
op_at ops i = get_or ops i (Literal 0)

-- an operand that may be the element of an array
abbrev pub IsElement : Op → Type 0
IsElement (Fixed width) = Unit {0}
IsElement (Vbr width) = Unit {0}
IsElement Char6 = Unit {0}
IsElement _ = ⊥

-- widths are at most 32, a VBR's is not 1, and a literal has at most 64 bits
abbrev pub HasLawfulValue : Op → Type 0
HasLawfulValue (Literal v) = v < 2 ^ 64
HasLawfulValue (Fixed width) = width ≤ 32
HasLawfulValue (Vbr width) = (width ≤ 32) × (width ≢ 1)
HasLawfulValue _ = Unit {0}

-- what can be defined: there is an operand, and each has a lawful value
pub record Definable (ops : List Op) : Type 0 where
  pub some : 0 < length ops
  pub values : AllByRecursion HasLawfulValue ops

-- A lawful order, without which no record may use the operands: the first is no array and no blob; an array is the last but one,
-- and an element follows it; a blob is the last.
pub record InOrder (ops : List Op) : Type 0 where
  pub first : (op_at ops 0 ≢ Array) × (op_at ops 0 ≢ Blob)
  pub array : (i : ℕ) → op_at ops i ≡ Array → i + 2 ≡ length ops
  pub element : (i : ℕ) → op_at ops i ≡ Array → IsElement (op_at ops (i + 1))
  pub blob : (i : ℕ) → op_at ops i ≡ Blob → i + 1 ≡ length ops

-- what can be defined and used
pub record Lawful (ops : List Op) : Type 0 where
  pub some : 0 < length ops
  pub order : InOrder ops
  pub values : AllByRecursion HasLawfulValue ops

-- the judgement of the order where the operands are defined
abbrev pub PassesShape : Shapes → List Op → Type 0
PassesShape AtDefinition ops = InOrder ops
PassesShape AtUse ops = Unit {0}

-- ---- how it is spelled

-- an encoding: a zero bit, three bits of its number, and the bits after them
abbrev pub IsEncoding : (number : ℕ) → (List Bool → Type 0) → List Bool → Type 0
IsEncoding number Value s = (code value : List Bool) × (s ≡ false ∷ (code ++ value))
    × IsFixed 3 number code × Value value

abbrev pub IsNothing : List Bool → Type 0
IsNothing s = s ≡ []

-- An operand: a one bit and the value in VBR 8 for a literal, else its encoding, with the width in VBR 5 if it has one.
abbrev pub IsOperand : Op → List Bool → Type 0
IsOperand (Literal v) s = (value : List Bool) × (s ≡ true ∷ value) × IsVbr 8 v value
IsOperand (Fixed width) s = IsEncoding 1 (IsVbr 5 width) s
IsOperand (Vbr width) s = IsEncoding 2 (IsVbr 5 width) s
IsOperand Array s = IsEncoding 3 IsNothing s
IsOperand Char6 s = IsEncoding 4 IsNothing s
IsOperand Blob s = IsEncoding 5 IsNothing s

-- operands, one after another
abbrev pub AreOperands : List Op → List Bool → Type 0
AreOperands [] s = s ≡ []
AreOperands (op ∷ ops) s = (first others : List Bool) × (s ≡ first ++ others) × IsOperand op first
    × AreOperands ops others

-- a definition, after its abbreviation id: the number of operands in VBR 5, and the operands, in any order
pub record IsDefinition (ops : List Op) (s : List Bool) : Type 0 where
  pub definable : Definable ops
  pub count : List Bool
  pub operands : List Bool
  pub parts : s ≡ count ++ operands
  pub counted : IsVbr 5 (length ops) count
  pub spelled : AreOperands ops operands
