-- The model of a bit writer, and the effect of its calls.
use Rattle.std.specs.Prelude.{◌≡◌, ℕ, ◌+◌, ◌%◌, ◌<◌, ◌≤◌, Bool, true, false, List, ◌++◌, length, IsSome, Result, Ok, Err, ◌⊎◌}
use Rattle.bit_grammar.specs.Bits.{bits_of_bytes}
use Rattle.bit_fields.specs.Devices.{Outgoing, IsSpent, known_bytes}
use Rattle.bit_fields.specs.declared.fault.Fault.{Fault}
use Rattle.bit_fields.specs.declared.fault.Fault.TheVariants.{Refused, Read, Write, Memory, OutputTooLong, Failed}

pub record Writer : Type 0 where
  -- no call has failed
  pub live : Bool
  -- how many bits were written
  pub position : ℕ
  -- bits that the sink has not taken yet
  pub held : List Bool
  pub outgoing : Outgoing

-- at most a word of bits is held, and the sink took whole bytes
pub record IsWriter (w : Writer) : Type 0 where
  pub most : length w.held ≤ 64
  pub whole : w.live ≡ true → length w.held % 8 ≡ w.position % 8

-- it is known which bytes the sink took
abbrev pub TellsTaken : Writer → Type 0
TellsTaken w = IsSome w.outgoing.bytes

-- the bits of what the sink took
abbrev pub taken_bits : Writer → List Bool
taken_bits w = bits_of_bytes (known_bytes w.outgoing.bytes)

-- these bits, and those that the sink has not taken yet
abbrev pub written_bits : Writer → List Bool
written_bits w = taken_bits w ++ w.held

-- the sink took these bytes
abbrev pub GainedBytes : Writer → List ℕ → Writer → Type 0
GainedBytes old more new = known_bytes new.outgoing.bytes ≡ known_bytes old.outgoing.bytes ++ more

-- the sink has all its earlier bytes, and possibly more
abbrev pub Grows : Writer → Writer → Type 0
Grows old new = (more : List ℕ) × GainedBytes old more new

-- bits were written, after those written before
pub record Wrote (old : Writer) (spelling : List Bool) (new : Writer) : Type 0 where
  pub was_live : old.live ≡ true
  pub live : new.live ≡ true
  pub position : new.position ≡ old.position + length spelling
  pub failures : new.outgoing.failures ≡ old.outgoing.failures
  pub tells : TellsTaken old → TellsTaken new
  pub kept : TellsTaken old → Grows old new
  pub written : TellsTaken old → written_bits new ≡ written_bits old ++ spelling

-- the sink failed, or was exhausted, while bits were written: it has all its earlier bytes and a prefix of these bits
pub record LostBits (old : Writer) (spelling : List Bool) (new : Writer) : Type 0 where
  pub was_live : old.live ≡ true
  pub failed : new.live ≡ false
  pub why : (old.outgoing.failures < new.outgoing.failures) ⊎ IsSpent old.outgoing
  pub tells : TellsTaken old → TellsTaken new
  pub kept : TellsTaken old → Grows old new
  pub front : TellsTaken old → (rest : List Bool)
      × (taken_bits new ++ rest ≡ written_bits old ++ spelling)

-- a writer that holds the bits of these bytes
abbrev pub writer_holding : Writer → List ℕ → Writer
writer_holding w bytes = record w { held = bits_of_bytes bytes }

-- one call, or several in turn, that write these bits; after a failure nothing more is written
abbrev pub Writes : List Bool → Writer → Result (Unit {0}) Fault → Writer → Type 0
Writes spelling old (Ok _) new = Wrote old spelling new
Writes spelling old (Err Write) new = LostBits old spelling new
Writes spelling old (Err Failed) new = (old.live ≡ false) × (new ≡ old)
Writes spelling old (Err (Refused reason bit)) new = ⊥
Writes spelling old (Err Read) new = ⊥
Writes spelling old (Err Memory) new = ⊥
Writes spelling old (Err OutputTooLong) new = ⊥
