-- The part of a text that a sink took.
use Rattle.std.specs.Prelude.{◌≡◌, ℕ, ◌<◌, List, ◌++◌, Result, Ok, Err, ◌⊎◌}
use Rattle.std.specs.Io.KnownBytes.{Appends}
use Rattle.bit_fields.specs.Devices.{Outgoing, IsSpent}
use Rattle.bit_fields.specs.declared.fault.Fault.{Fault}
use Rattle.bit_fields.specs.declared.fault.Fault.TheVariants.{Refused, Read, Write, Memory, OutputTooLong, Failed}

-- all of it, and nothing else
pub record TookText (text : List ℕ) (old new : Outgoing) : Type 0 where
  pub bytes : Appends old.bytes new.bytes text
  pub failures : new.failures ≡ old.failures

-- a prefix of it, and nothing else
pub record TookFront (text : List ℕ) (old new : Outgoing) : Type 0 where
  pub front : List ℕ
  pub rest : List ℕ
  pub split : text ≡ front ++ rest
  pub bytes : Appends old.bytes new.bytes front

-- the sink failed, or its counter was exhausted
abbrev pub HasFailed : Outgoing → Outgoing → Type 0
HasFailed old new = (old.failures < new.failures) ⊎ IsSpent old

-- A sink took a text; or a prefix of it, because it failed, or because an allocation failed.
abbrev pub WritesText : List ℕ → Outgoing → Result (Unit {0}) Fault → Outgoing → Type 0
WritesText text old (Ok _) new = TookText text old new
WritesText text old (Err Write) new = TookFront text old new × HasFailed old new
WritesText text old (Err Memory) new = TookFront text old new × (new.failures ≡ old.failures)
WritesText text old (Err (Refused reason bit)) new = ⊥
WritesText text old (Err Read) new = ⊥
WritesText text old (Err OutputTooLong) new = ⊥
WritesText text old (Err Failed) new = ⊥
