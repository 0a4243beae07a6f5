-- The effect of assembling a text.
use Rattle.std.specs.Prelude.{◌≡◌, ℕ, ◌+◌, ◌⊎◌, List, [], ◌++◌, IsSome, Result, Ok, Err}
use Rattle.std.specs.Io.KnownBytes.{Consumes, IsAtEnd}
use Rattle.bit_grammar.specs.Blocks.{Limits}
use Rattle.bit_grammar.specs.Forest.{Tree}
use Rattle.bit_grammar.specs.Normal.{HasTree}
use Rattle.bit_grammar.specs.Setting.{keep}
use Rattle.bit_fields.specs.Devices.{Incoming, Outgoing, IsWorn, known_bytes}
use Rattle.bit_fields.specs.declared.fault.Fault.{Fault}
use Rattle.bit_fields.specs.declared.fault.Fault.TheVariants.{Read, Write, Memory, OutputTooLong, Failed, Refused as RefusedBits}
use Rattle.bit_norm.specs.Telling.{IsFit}
use Rattle.bit_norm.specs.Writing.{WritesForm}
use Rattle.bit_text.specs.declared.reason.TextReason.{TextReason}
use Rattle.bit_text.specs.declared.fault.AssembleFault.{AssembleFault}
use Rattle.bit_text.specs.declared.fault.AssembleFault.TheVariants.{Refused, Fault as FaultOf}
use Rattle.bit_text.specs.declared.assembler.Assembler.{Assembler}
use Rattle.bit_text.specs.Numbers.{parts_after}
use Rattle.bit_text.specs.Listings.{Standing, lines_read, next_line, reading_of}
use Rattle.bit_text.specs.Stops.{IsAt}

-- what a reader after these calls makes of the rest of its text
abbrev pub outlook : Standing → Assembler → (rest : List ℕ) → Result Tree (TextReason × ℕ)
outlook now a rest = lines_read a.limits a.number now (parts_after 10 a.line.items rest)

-- A line was read; or it is refused; or an allocation failed.
abbrev pub EndsLine : Assembler → Result Standing TextReason → Result (Unit {0}) AssembleFault
    → Assembler → Type 0
EndsLine old wanted (Ok _) new = (later : Standing) × (wanted ≡ Ok later)
    × IsAt new.limits later new.writer × (new.limits ≡ old.limits)
    × (new.number ≡ next_line old.number) × (new.line.items ≡ [])
EndsLine old wanted (Err (Refused reason line)) new = (wanted ≡ Err reason)
    × (line ≡ next_line old.number)
EndsLine old wanted (Err (FaultOf fault)) new = fault ≡ Memory

-- Bytes were read; or a line that they end is refused, whatever follows; or an allocation failed.
abbrev pub TakesBytes : Standing → List ℕ → Assembler → Result (Unit {0}) AssembleFault
    → Assembler → Type 0
TakesBytes now bytes old (Ok _) new = (later : Standing) × IsAt new.limits later new.writer
    × (new.limits ≡ old.limits)
    × ((rest : List ℕ) → outlook now old (bytes ++ rest) ≡ outlook later new rest)
TakesBytes now bytes old (Err (Refused reason line)) new = (rest : List ℕ)
    → outlook now old (bytes ++ rest) ≡ Err (reason, line)
TakesBytes now bytes old (Err (FaultOf fault)) new = fault ≡ Memory

-- the bytes that a sink took, if they are known, are accepted with this tree
abbrev pub TookTree : Limits → Tree → Outgoing → Result ℕ Fault → Outgoing → Type 0
TookTree limits tree old (Ok count) new = IsSome old.bytes → (more : List ℕ)
    × (known_bytes new.bytes ≡ known_bytes old.bytes ++ more) × HasTree keep limits more tree
TookTree limits tree old (Err fault) new = Unit {0}

-- a text spells a tree that keeps to the limits, and its normal form was used in this way
pub record Writes (wanted : Result Tree (TextReason × ℕ)) (limits : Limits) (old : Outgoing)
    (answer : Result ℕ Fault) (new : Outgoing) : Type 0 where
  pub tree : Tree
  pub spells : wanted ≡ Ok tree
  pub fit : IsFit limits tree
  pub writes : WritesForm tree limits.bytes old answer new
  pub accepted : TookTree limits tree old answer new

-- The sink took the normal form of the tree that a text spells, or a prefix of it, or nothing because it is too long; or the text
-- is refused, or an allocation failed, and the sink took nothing.
abbrev pub Finishes : Result Tree (TextReason × ℕ) → Limits → Outgoing → Result ℕ AssembleFault
    → Outgoing → Type 0
Finishes wanted limits old (Ok count) new = Writes wanted limits old (Ok count) new
Finishes wanted limits old (Err (Refused reason line)) new = (wanted ≡ Err (reason, line))
    × (new ≡ old)
Finishes wanted limits old (Err (FaultOf Write)) new = Writes wanted limits old (Err Write) new
Finishes wanted limits old (Err (FaultOf OutputTooLong)) new = Writes wanted limits old
    (Err OutputTooLong) new
Finishes wanted limits old (Err (FaultOf Memory)) new = new ≡ old
Finishes wanted limits old (Err (FaultOf Read)) new = ⊥
Finishes wanted limits old (Err (FaultOf Failed)) new = ⊥
Finishes wanted limits old (Err (FaultOf (RefusedBits reason bit))) new = ⊥

-- ---- the source

-- a source gave these bytes
pub record Took (text : List ℕ) (old new : Incoming) : Type 0 where
  pub bytes : Consumes old.to_come new.to_come text
  pub failures : new.failures ≡ old.failures

-- it gave these, and has no more
pub record TookAll (text : List ℕ) (old new : Incoming) : Type 0 where
  pub took : Took text old new
  pub end : IsAtEnd new.to_come

-- it failed once, or its counter is exhausted
abbrev pub HasFailed : Incoming → Incoming → Type 0
HasFailed old new = (new.failures ≡ old.failures + 1) ⊎ IsWorn new

-- All bytes of a source were read; or a line was refused, whatever follows; or the source or an allocation failed.
abbrev pub TakesAll : Standing → Incoming → Assembler → Result (Unit {0}) AssembleFault → Incoming
    → Assembler → Type 0
TakesAll now i old (Ok _) later new = (text : List ℕ) × TookAll text i later
    × TakesBytes now text old (Ok tt) new
TakesAll now i old (Err (Refused reason line)) later new = (text : List ℕ) × Took text i later
    × TakesBytes now text old (Err (Refused reason line)) new
TakesAll now i old (Err (FaultOf Read)) later new = HasFailed i later
TakesAll now i old (Err (FaultOf Memory)) later new = later.failures ≡ i.failures
TakesAll now i old (Err (FaultOf Write)) later new = ⊥
TakesAll now i old (Err (FaultOf OutputTooLong)) later new = ⊥
TakesAll now i old (Err (FaultOf Failed)) later new = ⊥
TakesAll now i old (Err (FaultOf (RefusedBits reason bit))) later new = ⊥

-- ---- the whole

-- the text of a source is read as this, or begins with a text that is, whatever follows
abbrev pub IsRead : Limits → Incoming → Result Tree (TextReason × ℕ) → Incoming → Type 0
IsRead limits i answer later = (text : List ℕ) × (TookAll text i later × (reading_of limits text ≡ answer)
    ⊎ Took text i later × ((rest : List ℕ) → reading_of limits (text ++ rest) ≡ answer))

-- the whole text of a source was read, and used in this way
abbrev pub ReadsAndFinishes : Limits → Incoming → Outgoing → Result ℕ AssembleFault → Incoming
    → Outgoing → Type 0
ReadsAndFinishes limits i old answer later new = (text : List ℕ) × TookAll text i later
    × Finishes (reading_of limits text) limits old answer new

-- The sink took the normal form of the tree that the text spells, the bytes of which are accepted with that tree, and the result is
-- its length in bytes; or a prefix of it; or nothing, because it has more bytes than the limit; or the text is refused at its first
-- line that no listing has there, or was not read, and the sink took nothing.
abbrev pub Assembles : Limits → Incoming → Outgoing → Result ℕ AssembleFault → Incoming → Outgoing
    → Type 0
Assembles limits i old (Ok count) later new = ReadsAndFinishes limits i old (Ok count) later new
Assembles limits i old (Err (Refused reason line)) later new = IsRead limits i (Err (reason, line))
    later × (new ≡ old)
Assembles limits i old (Err (FaultOf Write)) later new = ReadsAndFinishes limits i old
    (Err (FaultOf Write)) later new
Assembles limits i old (Err (FaultOf OutputTooLong)) later new = ReadsAndFinishes limits i old
    (Err (FaultOf OutputTooLong)) later new
Assembles limits i old (Err (FaultOf Read)) later new = HasFailed i later × (new ≡ old)
Assembles limits i old (Err (FaultOf Memory)) later new = (later.failures ≡ i.failures)
    × (new ≡ old)
Assembles limits i old (Err (FaultOf Failed)) later new = ⊥
Assembles limits i old (Err (FaultOf (RefusedBits reason bit))) later new = ⊥
