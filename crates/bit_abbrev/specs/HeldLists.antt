-- Definitions in order, each with the id of the blocks that it is for.
use Rattle.std.specs.Prelude.{◌≡◌, ℕ, ◌≤◌, List, length, map, nat_eq, slice_range}
use Rattle.std.specs.List.{filter}
use Rattle.std.specs.List.Sorted.{IsNonDecreasingBy}
use Rattle.bit_grammar.specs.declared.op.Op.{Op}
use Rattle.bit_abbrev.specs.declared.held.Head.{Head}
use Rattle.bit_abbrev.specs.declared.held.Run.{Run}
use Rattle.bit_abbrev.specs.declared.held_op.HeldOp.{HeldOp}
use Rattle.bit_abbrev.specs.Heads.{ops_of}

-- all definitions, whatever their ids
abbrev pub all_of : List (ℕ × List Op) → List (List Op)
all_of list = map (λ e. e.1) list

-- the definitions for a block id
abbrev pub held_for : List (ℕ × List Op) → ℕ → List (List Op)
held_for list id = all_of (filter (λ e. nat_eq id e.0) list)

-- the definitions as they are held: their operands stand in one list
abbrev pub held_shown : (all : List HeldOp) → List Head → List (ℕ × List Op)
held_shown all heads = map (λ h. (h.id, ops_of all h)) heads

-- where the definitions for a block id are
abbrev pub heads_at : List Head → ℕ → List Head
heads_at heads id = filter (λ h. nat_eq id h.id) heads

-- the definitions are in the order of block ids
abbrev pub InOrder : List (ℕ × List Op) → Type 0
InOrder list = IsNonDecreasingBy (λ e. e.0) list

-- a run is in the list
abbrev pub IsWithin : Run → List (ℕ × List Op) → Type 0
IsWithin run list = (run.start ≤ run.end) × (run.end ≤ length list)

-- the definitions of a run
abbrev pub run_in : List (ℕ × List Op) → Run → List (List Op)
run_in list run = all_of (slice_range list run.start run.end)

-- the run of the definitions for a block id
abbrev pub IsRunOf : List (ℕ × List Op) → ℕ → Run → Type 0
IsRunOf list id run = IsWithin run list × (run_in list run ≡ held_for list id)
