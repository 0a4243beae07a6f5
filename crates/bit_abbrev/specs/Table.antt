-- The table of the definitions that BLOCKINFO blocks make, as the list of its entries.
use Rattle.std.specs.Prelude.{ℕ, List, [], map, nat_eq, unwrap_or}
use Rattle.std.specs.Map.{lookup}
use Rattle.std.specs.Global.{Vec}
use Rattle.bit_grammar.specs.declared.op.Op.{Op}

-- the definitions for a block id; none if it has no entry
abbrev pub definitions_at : List (ℕ × List (List Op)) → ℕ → List (List Op)
definitions_at table id = unwrap_or (lookup (nat_eq id) table) []

-- the entries, with each vector as the list of its definitions
abbrev pub table_shown : List (ℕ × Vec (List Op)) → List (ℕ × List (List Op))
table_shown entries = map (λ e. (e.0, e.1.items)) entries
