-- The definition of an abbreviation, after the abbreviation id.
-- Source: "LLVM Bitcode File Format", "Abbreviation IDs", "Abbreviations", "DEFINE_ABBREV Encoding". This project's
-- own: the bounds of the widths, that there is an operand, that the first is no array and no blob, and that an array's
-- element is a plain field.
use Rattle.std.specs.Prelude.{ℕ, zero, suc, Bool, true, false, not, ◌&&◌, List, [], ◌∷◌, nat_lt, nat_le, ◌==◌, length}
use Rattle.bit_grammar.specs.declared.op.Op.{Op}
use Rattle.bit_grammar.specs.declared.op.Kind.{Kind}
use Rattle.bit_grammar.specs.declared.op.Kind.TheVariants.{Literal as literal, Fixed as fixed_width, Vbr as vbr_width, Array as array, Char6 as char6, Blob as blob}
use Rattle.bit_grammar.specs.declared.op.Place.{Place}
use Rattle.bit_grammar.specs.declared.op.Place.TheVariants.{First as first, Element as element, Later as later}
use Rattle.bit_grammar.specs.declared.op.Op.TheVariants.{Literal, Fixed, Vbr, Array, Char6, Blob}
use Rattle.bit_grammar.specs.declared.shapes.Shapes.{Shapes}
use Rattle.bit_grammar.specs.declared.shapes.Shapes.TheVariants.{AtDefinition, AtUse}
use Rattle.bit_grammar.specs.declared.reason.Reason.TheVariants.{AbbrevEmpty, AbbrevEncoding, AbbrevShape, FieldWidth}
use Rattle.bit_grammar.specs.Grammar.{at, Grammar, gives, refuses, position, choose, ◌>>=◌, ◌>>◌, judge}
use Rattle.bit_grammar.specs.Fields.{fixed, vbr}

-- an encoding by its number, which begins at this bit
abbrev pub encoding : (first_bit : ℕ) → ℕ → Grammar Kind
encoding first_bit n =
    choose (n == 1) (gives fixed_width) (
    choose (n == 2) (gives vbr_width) (
    choose (n == 3) (gives array) (
    choose (n == 4) (gives char6) (
    choose (n == 5) (gives blob) (
    refuses (at AbbrevEncoding first_bit))))))

-- the flag, and the encoding if there is one
unfoldable pub kind : Grammar Kind
kind = do
  flag ← fixed 1
  choose (flag == 1) (gives literal) (do
    first_bit ← position
    n ← fixed 3
    encoding first_bit n)

-- whether an operand of this kind may be there, with `after` operands after it: an array only with one operand after it, a blob
-- only with none, neither as the first, and only a plain field as an element
abbrev pub fits : Place → (after : ℕ) → Kind → Bool
fits element after literal = false
fits element after array = false
fits element after blob = false
fits first after array = false
fits first after blob = false
fits later after array = after == 1
fits later after blob = after == 0
fits place after _ = true

-- the judgement of that at the definition; if shapes are judged at their use, all pass
abbrev pub passes : Shapes → (fits : Bool) → Bool
passes AtDefinition fits = fits
passes AtUse fits = true

abbrev pub fixed_lawful : ℕ → Bool
fixed_lawful width = nat_le width 32

abbrev pub vbr_lawful : ℕ → Bool
vbr_lawful width = nat_le width 32 && not (width == 1)

-- the value of an operand of this kind
unfoldable pub valued : Kind → Grammar Op
valued literal = vbr 8 >>= λ v. gives (Literal v)
valued fixed_width = do
  first_bit ← position
  width ← vbr 5
  judge (fixed_lawful width) FieldWidth first_bit
  gives (Fixed width)
valued vbr_width = do
  first_bit ← position
  width ← vbr 5
  judge (vbr_lawful width) FieldWidth first_bit
  gives (Vbr width)
valued array = gives Array
valued char6 = gives Char6
valued blob = gives Blob

unfoldable pub operand : Shapes → Place → (after : ℕ) → Grammar Op
operand shapes place after = do
  first_bit ← position
  k ← kind
  judge (passes shapes (fits place after k)) AbbrevShape first_bit
  valued k

-- the place after an operand
abbrev pub place_after : Op → Place
place_after Array = element
place_after _ = later

unfoldable pub operands : Shapes → (count : ℕ) → Place → Grammar (List Op)
operands shapes zero place = gives []
operands shapes (suc after) place = do
  op ← operand shapes place after
  others ← operands shapes after (place_after op)
  gives (op ∷ others)

-- the number of operands, and the operands
unfoldable pub definition : Shapes → Grammar (List Op)
definition shapes = do
  first_bit ← position
  count ← vbr 5
  judge (nat_lt 0 count) AbbrevEmpty first_bit
  operands shapes count first

-- ---- the shape of a whole list

abbrev pub kind_of : Op → Kind
kind_of (Literal v) = literal
kind_of (Fixed width) = fixed_width
kind_of (Vbr width) = vbr_width
kind_of Array = array
kind_of Char6 = char6
kind_of Blob = blob

-- whether operands, the first of which is at this place, are in a lawful order: each is allowed at its place
abbrev pub in_order : Place → List Op → Bool
in_order place [] = true
in_order place (op ∷ others) = fits place (length others) (kind_of op)
    && in_order (place_after op) others

-- whether a record may use these operands
abbrev pub has_shape : List Op → Bool
has_shape ops = in_order first ops
