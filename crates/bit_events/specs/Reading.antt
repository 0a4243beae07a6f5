-- The effect of reading a whole input.
use Rattle.std.specs.Prelude.{◌≡◌, ℕ, ◌+◌, List, [], IsSome, Result, Ok, Err}
use Rattle.bit_grammar.specs.Grammar.{at}
use Rattle.bit_grammar.specs.Blocks.{Limits}
use Rattle.bit_grammar.specs.Input.{BreaksInput}
use Rattle.bit_fields.specs.declared.fault.Fault.{Fault}
use Rattle.bit_fields.specs.declared.fault.Fault.TheVariants.{Refused, Read, Write, Memory, OutputTooLong, Failed}
use Rattle.bit_fields.specs.Devices.{Incoming, Spends, Fails, known_bytes}

-- at most one byte past the limit was taken, in at most as many pulls, and the source did not fail
abbrev pub Spent : Limits → Incoming → Incoming → Type 0
Spent limits i now = Spends i (limits.bytes + 1) now 0

-- the same, but the source failed, once, or was exhausted
abbrev pub LostInput : Limits → Incoming → Incoming → Type 0
LostInput limits i now = Fails i (limits.bytes + 1) now 0

-- The result is true of the input and no byte is left; or the input breaks the rules; or the source failed; or out of memory.
abbrev pub ReadsWhole : {A : Type 0} → (List ℕ → A → Type 0) → Limits → Incoming → Result A Fault
    → Incoming → Type 0
ReadsWhole Holds limits i (Ok a) now = Spent limits i now
    × (IsSome i.to_come → Holds (known_bytes i.to_come) a × (known_bytes now.to_come ≡ []))
ReadsWhole Holds limits i (Err (Refused reason bit)) now = Spent limits i now
    × (IsSome i.to_come → BreaksInput limits (known_bytes i.to_come) (at reason bit))
ReadsWhole Holds limits i (Err Read) now = LostInput limits i now
ReadsWhole Holds limits i (Err Memory) now = Spent limits i now
ReadsWhole Holds limits i (Err Write) now = ⊥
ReadsWhole Holds limits i (Err OutputTooLong) now = ⊥
ReadsWhole Holds limits i (Err Failed) now = ⊥
