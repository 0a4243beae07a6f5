-- How the fields of a record are laid out, if all of them but an array's are read by one look at the definition.
use Rattle.std.specs.Prelude.{◌≡◌, ℕ, ◌≤◌, true, List, [], ◌∷◌, ◌++◌, length}
use Rattle.std.specs.List.{AllByRecursion}
use Rattle.bit_grammar.specs.declared.op.Op.{Op}
use Rattle.bit_grammar.specs.declared.op.Op.TheVariants.{Literal, Fixed, Vbr, Array, Char6}
use Rattle.bit_grammar.specs.Definition.{has_shape}
use Rattle.bit_abbrev.specs.declared.layout.Layout.{Layout}
use Rattle.bit_abbrev.specs.declared.layout.Layout.TheVariants as layout

-- an operand that gives one value, and whose field is fixed or has chunks
abbrev pub IsSingle : Op → Type 0
IsSingle (Literal value) = Unit {0}
IsSingle (Fixed width) = width ≤ 32
IsSingle (Vbr width) = (2 ≤ width) × (width ≤ 32)
IsSingle Char6 = Unit {0}
IsSingle _ = ⊥

abbrev pub AreSingles : List Op → Type 0
AreSingles ops = AllByRecursion IsSingle ops

-- At most 32 operands in a lawful order: the code, single operands, and then nothing, or an array of single operands.
abbrev pub HasLayout : List Op → Layout → Type 0
HasLayout ops layout.Singles = (has_shape ops ≡ true) × (length ops ≤ 32) × (code : ℕ) × (others : List Op)
    × (ops ≡ Literal code ∷ others) × AreSingles others
HasLayout ops layout.Coded = (has_shape ops ≡ true) × (length ops ≤ 32) × (first : Op) × (others : List Op)
    × (ops ≡ first ∷ others) × IsSingle first × AreSingles others
HasLayout ops layout.List = (has_shape ops ≡ true) × (length ops ≤ 32) × (first : Op) × (others : List Op)
    × (element : Op) × (ops ≡ first ∷ (others ++ Array ∷ element ∷ [])) × IsSingle first
    × AreSingles others × IsSingle element
HasLayout ops layout.Odd = Unit {0}
