-- The operands of a definition after the first one. Source: "LLVM Bitcode File Format", "Abbreviation IDs", "DEFINE_ABBREV
-- Encoding".
use Rattle.std.specs.Prelude.{◌≡◌, ℕ, ◌+◌, ◌-◌, List, length, take, drop}
use Rattle.bit_grammar.specs.declared.op.Op.{Op}
use Rattle.bit_grammar.specs.declared.op.Op.TheVariants.{Array, Blob}
use Rattle.bit_grammar.specs.FormatDefinition.{op_at, IsElement}
use Rattle.bit_grammar.specs.Record.{singles}
use Rattle.bit_abbrev.specs.declared.tail.Tail.{Tail}
use Rattle.bit_abbrev.specs.declared.tail.Tail.TheVariants as tail

-- an array is the last but one, and an element follows it; a blob is the last
pub record OthersInOrder (ops : List Op) : Type 0 where
  pub array : (i : ℕ) → op_at ops i ≡ Array → i + 2 ≡ length ops
  pub element : (i : ℕ) → op_at ops i ≡ Array → IsElement (op_at ops (i + 1))
  pub blob : (i : ℕ) → op_at ops i ≡ Blob → i + 1 ≡ length ops

-- all operands but the first one, which gives the code
abbrev pub others_of : List Op → List Op
others_of ops = take (length ops - 1) (drop 1 ops)

-- how many operands follow those that stand for one value each
abbrev pub tail_length : Tail → ℕ
tail_length tail.Nothing = 0
tail_length tail.Blob = 1
tail_length tail.Array = 2

-- what follows those operands
abbrev pub HasTail : List Op → Tail → Type 0
HasTail ops tail = length ops ≡ 1 + (singles (others_of ops) + tail_length tail)
