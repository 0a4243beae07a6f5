-- The end of a stream, and of its input.
use Rattle.std.specs.Prelude.{◌≡◌, ℕ, ◌-◌, ◌*◌, ◌^◌, ◌<◌, ◌≤◌, min, Bool, true, false, if◌then◌else◌, ◌&&◌, [], length, Result, Ok, Err, nat_lt}
use Rattle.bit_grammar.specs.declared.reason.Reason.TheVariants.{TooLong, WrapperSize}
use Rattle.bit_grammar.specs.Grammar as grammar
use Rattle.bit_grammar.specs.Grammar.{at}
use Rattle.bit_fields.specs.declared.fault.Fault.{Fault}
use Rattle.bit_fields.specs.declared.fault.Fault.TheVariants.{Refused, Read, Write, Memory, OutputTooLong, Failed}
use Rattle.bit_fields.specs.Devices.{known_bytes}
use Rattle.bit_fields.specs.Reader.{Reader, Extent, TellsBytes, GoesOn, StopsReading, Loses}

-- the bit after the last one of a stream
abbrev pub stream_end : Extent → ℕ
stream_end e = 8 * min e.end e.total

-- the bit after the last one of a stream within the limit on bytes
abbrev pub reach_of : Extent → ℕ
reach_of e = 8 * min (min e.end e.limit) e.total

-- the stream has no byte left
abbrev pub IsThrough : Reader → Type 0
IsThrough r = r.live ≡ true → TellsBytes r → r.position ≡ stream_end r.extent

-- ---- whether the stream has no byte left

-- nothing was taken
pub record Stays (old new : Reader) : Type 0 where
  pub was_live : old.live ≡ true
  pub live : new.live ≡ true
  pub goes_on : GoesOn old new
  pub position : new.position ≡ old.position
  pub end : new.extent.end ≡ old.extent.end
  pub limit : new.extent.limit ≡ old.extent.limit
  pub extent : TellsBytes old → new.extent ≡ old.extent
  pub left : TellsBytes old → new.left ≡ old.left

-- True at the end of the stream, and false before it; or the position is at the limit on bytes, and the stream goes on.
abbrev pub LooksForEnd : Reader → Result Bool Fault → Reader → Type 0
LooksForEnd old (Ok true) new = Stays old new
    × (TellsBytes old → (old.position ≡ stream_end old.extent) × (old.left ≡ []))
LooksForEnd old (Ok false) new = Stays old new
    × (TellsBytes old → (old.position < stream_end old.extent) × (0 < length old.left))
LooksForEnd old (Err (Refused reason bit)) new = StopsReading old new
    × ((reason ≡ TooLong) × (bit ≡ 8 * old.extent.limit))
    × (TellsBytes old → (old.position ≡ 8 * old.extent.limit)
    × (8 * old.extent.limit < stream_end old.extent))
LooksForEnd old (Err Read) new = Loses old new
LooksForEnd old (Err Failed) new = (old.live ≡ false) × (new ≡ old)
LooksForEnd old (Err Memory) new = ⊥
LooksForEnd old (Err Write) new = ⊥
LooksForEnd old (Err OutputTooLong) new = ⊥

-- ---- the end of the input

-- a wrapper ends the stream
abbrev pub is_in_wrapper : Extent → Bool
is_in_wrapper e = nat_lt e.end (2 ^ 64 - 1)

-- the verdict on an input whose stream has no byte left
abbrev pub verdict : Extent → Result (Unit {0}) grammar.Fault
verdict e = if is_in_wrapper e && nat_lt e.total e.end then Err (at WrapperSize 96)
    else (if nat_lt e.limit e.total then Err (at TooLong (8 * e.limit)) else Ok tt)

-- a stream that ends before this bit is within the limit on bytes, and fills its wrapper, if it has one
pub record FillsStream (e : Extent) (p : ℕ) : Type 0 where
  pub within : p ≤ 8 * e.limit
  pub wrapped : e.end < 2 ^ 64 - 1 → p ≡ 8 * e.end

-- the input is complete and within the limit, and its source has no byte left
pub record Closed (old new : Reader) : Type 0 where
  pub stops : StopsReading old new
  pub fills : FillsStream old.extent old.position
  pub whole : TellsBytes old → verdict old.extent ≡ Ok tt
  pub none : TellsBytes old → known_bytes new.incoming.to_come ≡ []

-- the effect of closing
abbrev pub Closes : Reader → Result (Unit {0}) Fault → Reader → Type 0
Closes old (Ok _) new = Closed old new
Closes old (Err (Refused reason bit)) new = StopsReading old new
    × (TellsBytes old → verdict old.extent ≡ Err (at reason bit))
Closes old (Err Read) new = Loses old new
Closes old (Err Failed) new = (old.live ≡ false) × (new ≡ old)
Closes old (Err Memory) new = ⊥
Closes old (Err Write) new = ⊥
Closes old (Err OutputTooLong) new = ⊥
