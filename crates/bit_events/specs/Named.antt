-- Sorted names, and the lists that they were made of.
use Rattle.std.specs.Prelude.{ℕ, List, map}
use Rattle.std.specs.BTreeSet.{BTreeSet, IsFromIterResult}
use Rattle.std.specs.Ordering.{nat_cmp, ordering_then}
use Rattle.std.specs.declared.cmp.Ordering.{Ordering}
use Rattle.bit_grammar.specs.declared.info.RecordName.{RecordName}
use Rattle.bit_grammar.specs.Setting.{Setting}
use Rattle.bit_events.specs.declared.names.Ordered.{Ordered}

-- the order of pairs
abbrev pub pair_cmp : ℕ × ℕ → ℕ × ℕ → Ordering
pair_cmp x y = ordering_then (nat_cmp x.0 y.0) (nat_cmp x.1 y.1)

-- a set has these ids
abbrev pub HasIds : List ℕ → BTreeSet ℕ → Type 0
HasIds ids ordered = IsFromIterResult nat_cmp ids ordered

-- a set has these pairs
abbrev pub HasPairs : List (ℕ × ℕ) → BTreeSet (ℕ × ℕ) → Type 0
HasPairs pairs ordered = IsFromIterResult pair_cmp pairs ordered

abbrev pub block_of : RecordName → ℕ
block_of name = name.block

abbrev pub pair_of : RecordName → ℕ × ℕ
pair_of name = (name.block, name.code)

-- the sorted names are those of a setting
pub record HasNames (setting : Setting) (ordered : Ordered) : Type 0 where
  pub blocks : HasIds setting.blocks ordered.blocks
  pub holders : HasIds (map block_of setting.records) ordered.holders
  pub records : HasPairs (map pair_of setting.records) ordered.records
