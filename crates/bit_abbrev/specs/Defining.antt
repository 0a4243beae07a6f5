-- Reading a definition in parts.
use Rattle.std.specs.Prelude.{ℕ, List, Result, Ok, Err}
use Rattle.bit_grammar.specs.declared.op.Op.{Op}
use Rattle.bit_grammar.specs.declared.op.Place.TheVariants.{First}
use Rattle.bit_grammar.specs.declared.shapes.Shapes.{Shapes}
use Rattle.bit_grammar.specs.Grammar.{Grammar}
use Rattle.bit_grammar.specs.Definition.{operands, definition}
use Rattle.bit_fields.specs.declared.fault.Fault.{Fault}
use Rattle.bit_fields.specs.Reader.{Reader, Took, Why, Takes}

-- the number of operands was read: whatever operands are read from here complete a definition
abbrev pub TakesCount : Shapes → Reader → Result ℕ Fault → Reader → Type 0
TakesCount shapes a (Ok count) b = (result : Result (List Op) Fault) (c : Reader)
    → Takes (operands shapes count First) b result c → Takes (definition shapes) a result c
TakesCount shapes a (Err fault) b = Why (definition shapes) a fault b

-- operands that were added to a list, of which this is true
abbrev pub AddsOps : {T : Type 0} → (added : T → List Op → T → Type 0) → (old new : T) → (List Op → Type 0) → Type 0
AddsOps added old new Are = (ops : List Op) × added old ops new × Are ops

-- operands were read by a rule, and this is true of them
abbrev pub AddsRead : Grammar (List Op) → Reader → Result (Unit {0}) Fault → Reader → (List Op → Type 0) → Type 0
AddsRead rule a (Ok _) b Are = (ops : List Op) × Took rule a ops b × Are ops
AddsRead rule a (Err fault) b Are = Why rule a fault b
