-- Operands as they are held.
use Rattle.std.specs.Prelude.{◌≡◌, true, ◌++◌, ℕ, ◌+◌, ◌*◌, ◌%◌, ◌^◌, ◌≤◌, List, [], ◌∷◌}
use Rattle.std.specs.List.{AllByRecursion}
use Rattle.bit_grammar.specs.declared.op.Op.{Op}
use Rattle.bit_grammar.specs.declared.op.Op.TheVariants as op
use Rattle.bit_grammar.specs.declared.op.Place.TheVariants.{Later}
use Rattle.bit_grammar.specs.Definition.{has_shape, in_order}
use Rattle.bit_grammar.specs.Record.{singles}
use Rattle.bit_abbrev.specs.declared.held_op.HeldOp.{HeldOp}
use Rattle.bit_abbrev.specs.declared.held_op.HeldOp.TheVariants.{Literal, Great, More, Fixed, Vbr, Array, Char6, Blob, End}

-- what the further bytes of a literal add to it, in units of 256
abbrev pub more : List HeldOp → ℕ
more (More byte ∷ held) = (byte + 256 * more held) % 2 ^ 56
more _ = 0

-- the operands of the first definition
abbrev pub ops_in : List HeldOp → List Op
ops_in [] = []
ops_in (End ∷ held) = []
ops_in (Literal byte ∷ held) = op.Literal byte ∷ ops_in held
ops_in (Great byte ∷ held) = op.Literal (byte + 256 * more held) ∷ ops_in held
ops_in (More byte ∷ held) = ops_in held
ops_in (Fixed width ∷ held) = op.Fixed width ∷ ops_in held
ops_in (Vbr width ∷ held) = op.Vbr width ∷ ops_in held
ops_in (Array ∷ held) = op.Array ∷ ops_in held
ops_in (Char6 ∷ held) = op.Char6 ∷ ops_in held
ops_in (Blob ∷ held) = op.Blob ∷ ops_in held

-- it ends in the list
abbrev pub Ends : List HeldOp → Type 0
Ends [] = ⊥
Ends (End ∷ held) = Unit {0}
Ends (_ ∷ held) = Ends held

abbrev pub IsOperand : HeldOp → Type 0
IsOperand End = ⊥
IsOperand _ = Unit {0}

-- no definition ends in the list
abbrev pub NoneEnds : List HeldOp → Type 0
NoneEnds held = AllByRecursion IsOperand held

-- held in one place
abbrev pub IsSmall : Op → Type 0
IsSmall (op.Literal value) = value ≤ 255
IsSmall _ = Unit {0}

-- a list that begins with another one
pub record Extends (old new : List HeldOp) : Type 0 where
  pub added : List HeldOp
  pub is : new ≡ old ++ added

-- operands, and no end of a definition, were added to a list
pub record Holds (old new : List HeldOp) (ops : List Op) : Type 0 where
  pub more_held : Extends old new
  pub same : ops_in more_held.added ≡ ops
  pub whole : more more_held.added ≡ 0
  pub none : NoneEnds more_held.added

-- operands in a lawful order: the first one, and those behind it, so many of which give one value each
pub record IsLawfulFrom (ops : List Op) (first : Op) (others : List Op) (count : ℕ) : Type 0 where
  pub parts : ops ≡ first ∷ others
  pub shape : has_shape ops ≡ true
  pub order : in_order Later others ≡ true
  pub many : count ≡ singles others
