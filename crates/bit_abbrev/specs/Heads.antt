-- Definitions whose operands stand in one list.
use Rattle.std.specs.Prelude.{◌≤◌, List, length, map, drop}
use Rattle.std.specs.List.{AllByRecursion}
use Rattle.bit_grammar.specs.declared.op.Op.{Op}
use Rattle.bit_grammar.specs.FormatDefinition.{Definable}
use Rattle.bit_abbrev.specs.declared.held.Head.{Head}
use Rattle.bit_abbrev.specs.declared.held_op.HeldOp.{HeldOp}
use Rattle.bit_abbrev.specs.HeldOps.{ops_in, Ends}

-- the operands of a definition
abbrev pub ops_of : (all : List HeldOp) → Head → List Op
ops_of all head = ops_in (drop head.start all)

-- They are in the list of all, and their end is.
abbrev pub IsHeld : (all : List HeldOp) → Head → Type 0
IsHeld all head = (head.start ≤ length all) × Ends (drop head.start all) × Definable (ops_of all head)

abbrev pub AreHeld : (all : List HeldOp) → List Head → Type 0
AreHeld all heads = AllByRecursion (IsHeld all) heads

-- the definitions
abbrev pub all_held : (all : List HeldOp) → List Head → List (List Op)
all_held all heads = map (ops_of all) heads
