-- The effect of writing a normal form.
use Rattle.std.specs.Prelude.{◌≡◌, ℕ, ◌+◌, ◌^◌, ◌<◌, ◌≤◌, true, Bool, List, ◌++◌, length, IsSome, Result, Ok, Err, ◌⊎◌}
use Rattle.bit_grammar.specs.Bits.{bits_of, bits_of_bytes}
use Rattle.bit_grammar.specs.FormatFields.{shortest}
use Rattle.bit_grammar.specs.Forest.{Forest, Tree}
use Rattle.bit_grammar.specs.Normal.{Text, put, chain, padding, entry_text, block_text, end_text, normal, normal_form}
use Rattle.bit_grammar.specs.Size.{size_of}
use Rattle.bit_fields.specs.Devices.{Outgoing, IsSpent, known_bytes}
use Rattle.bit_fields.specs.Writer.{Writer}
use Rattle.bit_fields.specs.declared.fault.Fault.{Fault}
use Rattle.bit_fields.specs.declared.fault.Fault.TheVariants.{Refused, Read, Write, Memory, OutputTooLong, Failed}

-- ---- parts of a normal form

-- what comes in a record before its values
abbrev pub record_front : (code count : ℕ) → List Bool
record_front code count = bits_of 2 3 ++ (shortest 6 code ++ shortest 6 count)

-- a record
abbrev pub record_text : (code : ℕ) → List ℕ → Text
record_text code values = chain (put (bits_of 2 3)) (put (entry_text code values))

-- a block with these items
abbrev pub whole_block : (id : ℕ) → Forest → Text
whole_block id inner = chain (put (bits_of 2 1)) (block_text id (chain (normal inner) end_text))

-- what comes in a block before its length
abbrev pub enter_text : (id : ℕ) → Text
enter_text id = chain (put (bits_of 2 1)) (chain (put (shortest 8 id))
    (chain (put (shortest 4 2)) padding))

-- a writer has not failed, and its position is so low that after these bits the words of each block fit 32 bits
pub record HasRoom (w : Writer) (bits : List Bool) : Type 0 where
  pub live : w.live ≡ true
  pub fits : w.position + length bits < 2 ^ 37

-- ---- the whole

-- a sink took bytes with these bits, and nothing else
pub record GainedBits (bits : List Bool) (old new : Outgoing) : Type 0 where
  pub failures : new.failures ≡ old.failures
  pub tells : IsSome old.bytes → IsSome new.bytes
  pub bytes : IsSome old.bytes → (more : List ℕ)
      × (known_bytes new.bytes ≡ known_bytes old.bytes ++ more) × (bits_of_bytes more ≡ bits)

-- a sink failed, or was exhausted: it took a prefix of the bytes with these bits, and nothing else
pub record GainedFront (bits : List Bool) (old new : Outgoing) : Type 0 where
  pub why : (old.failures < new.failures) ⊎ IsSpent old
  pub tells : IsSome old.bytes → IsSome new.bytes
  pub bytes : IsSome old.bytes → (more : List ℕ) × (rest : List Bool)
      × (known_bytes new.bytes ≡ known_bytes old.bytes ++ more)
      × (bits_of_bytes more ++ rest ≡ bits)

-- A sink took the normal form of a tree, and the result is its length in bytes; or a prefix of it; or nothing, because it has more
-- bytes than the limit.
abbrev pub WritesForm : Tree → (limit : ℕ) → Outgoing → Result ℕ Fault → Outgoing → Type 0
WritesForm tree limit old (Ok count) new = (size_of tree ≤ limit) × (count ≡ size_of tree)
    × GainedBits (normal_form tree) old new
WritesForm tree limit old (Err Write) new = (size_of tree ≤ limit)
    × GainedFront (normal_form tree) old new
WritesForm tree limit old (Err OutputTooLong) new = (limit < size_of tree) × (new ≡ old)
WritesForm tree limit old (Err (Refused reason bit)) new = ⊥
WritesForm tree limit old (Err Read) new = ⊥
WritesForm tree limit old (Err Memory) new = ⊥
WritesForm tree limit old (Err Failed) new = ⊥
