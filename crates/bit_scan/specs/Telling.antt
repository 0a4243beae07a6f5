-- What writing the events of an input does.
use Rattle.std.specs.Prelude.{◌≡◌, ◌⊎◌, ℕ, ◌+◌, List, [], ◌++◌, Option, Some, None, IsSome, Result, Ok, Err}
use Rattle.bit_grammar.specs.Grammar.{at}
use Rattle.bit_grammar.specs.Blocks.{Limits}
use Rattle.bit_grammar.specs.EventTexts.{outlook_end}
use Rattle.bit_grammar.specs.Machine.{Event, Ending, accepted, broke, Told}
use Rattle.bit_grammar.specs.Outlook.{Outlook, outlook}
use Rattle.bit_fields.specs.declared.fault.Fault.{Fault}
use Rattle.bit_fields.specs.declared.fault.Fault.TheVariants.{Refused, Read, Write, Memory, OutputTooLong, Failed}
use Rattle.bit_fields.specs.Devices.{Incoming, Outgoing, Spends, Fails, known_bytes}
use Rattle.std.specs.declared.alloc.AllocError.{AllocError}
use Rattle.bit_events.specs.Coming.{Coming, TellsComing}
use Rattle.bit_events.specs.Gathering.{open_behind}
use Rattle.bit_scan.specs.declared.format.EventStyle.{EventStyle}
use Rattle.bit_scan.specs.Printing.{Printing, Printed, PrintedAll, PrintedFront, Prints}
use Rattle.bit_scan.specs.Styles.{head_as, styled_event, styled_lines, styled_outlook, styled_told}
use Rattle.bit_scan.specs.Written.{TookText, TookFront, HasFailed}

-- ---- a whole input

-- all is accepted, at some bit
abbrev pub IsAccepted : Ending → Type 0
IsAccepted end = (bit : ℕ) × (end ≡ accepted bit)

-- The contract of a call that writes the text of an outlook and returns how it ends. The sink took all of the text if the input is
-- accepted, and then no byte remains, and also if the input is refused. Otherwise it took a prefix, because the source failed, the
-- sink failed, or an allocation failed.
abbrev pub WritesToEnd : List ℕ → Ending → Incoming → Outgoing → Result (Unit {0}) Fault → Incoming
    → Outgoing → Type 0
WritesToEnd text end i old (Ok _) now new = TookText text old new × IsAccepted end
    × (IsSome i.to_come → known_bytes now.to_come ≡ [])
WritesToEnd text end i old (Err (Refused reason bit)) now new = TookText text old new
    × (end ≡ broke (at reason bit))
WritesToEnd text end i old (Err Read) now new = TookFront text old new
    × (new.failures ≡ old.failures)
WritesToEnd text end i old (Err Write) now new = TookFront text old new × HasFailed old new
WritesToEnd text end i old (Err Memory) now new = TookFront text old new
    × (new.failures ≡ old.failures)
WritesToEnd text end i old (Err OutputTooLong) now new = ⊥
WritesToEnd text end i old (Err Failed) now new = ⊥

-- The calls of the source, by the result. The source did not fail, or it failed once if the result is `Read`. If the sink or an
-- allocation failed, either is possible.
abbrev pub PaidBy : Result (Unit {0}) Fault → Incoming → (before : ℕ) → Incoming → (after : ℕ)
    → Type 0
PaidBy (Ok _) i before now after = Spends i before now after
PaidBy (Err (Refused reason bit)) i before now after = Spends i before now after
PaidBy (Err Read) i before now after = Fails i before now after
PaidBy (Err Write) i before now after = Spends i before now after ⊎ Fails i before now after
PaidBy (Err Memory) i before now after = Spends i before now after ⊎ Fails i before now after
PaidBy (Err OutputTooLong) i before now after = ⊥
PaidBy (Err Failed) i before now after = ⊥

-- the outlook of an input, if the bytes of its source are known
abbrev pub IsTold : Limits → Incoming → Outlook → Type 0
IsTold limits i told = IsSome i.to_come → outlook limits (known_bytes i.to_come) ≡ told

-- the text of an input's outlook was written, up to the returned end
abbrev pub TellsInput : EventStyle → Limits → Incoming → Outgoing → Result (Unit {0}) Fault → Incoming
    → Outgoing → Type 0
TellsInput style limits i old answer now new =
    PaidBy answer i (limits.bytes + 1) now 0
    × (told : Outlook)
    × IsTold limits i told
    × WritesToEnd (styled_outlook style told) (outlook_end told) i old answer now new

-- ---- by way of a printer

-- A last text was printed, nothing is buffered, and the earlier fault is returned. Or not all of it was printed, and the fault of
-- that printing is returned.
abbrev pub PrintsLast : List ℕ → Fault → Printing → Fault → Printing → Type 0
PrintsLast text fault old answer new = ((answer ≡ fault) × PrintedAll text old new)
    ⊎ Prints text old (Err answer) new

-- what such a call does to a printer
abbrev pub PrintsToEnd : List ℕ → Ending → Incoming → Printing → Result (Unit {0}) Fault → Incoming
    → Printing → Type 0
PrintsToEnd text end i old (Ok _) now new = PrintedAll text old new × IsAccepted end
    × (IsSome i.to_come → known_bytes now.to_come ≡ [])
PrintsToEnd text end i old (Err (Refused reason bit)) now new = PrintedAll text old new
    × (end ≡ broke (at reason bit))
PrintsToEnd text end i old (Err Read) now new = PrintedFront text old new
    × (new.outgoing.failures ≡ old.outgoing.failures)
PrintsToEnd text end i old (Err Write) now new = PrintedFront text old new
    × HasFailed old.outgoing new.outgoing
PrintsToEnd text end i old (Err Memory) now new = PrintedFront text old new
    × (new.outgoing.failures ≡ old.outgoing.failures)
PrintsToEnd text end i old (Err OutputTooLong) now new = ⊥
PrintsToEnd text end i old (Err Failed) now new = ⊥

-- a text of the remaining events was printed, up to the returned end
abbrev pub TellsBy : (Told → List ℕ) → Coming → Printing → Result (Unit {0}) Fault → Coming
    → Printing → Type 0
TellsBy text old before answer new after =
    PaidBy answer old.incoming old.budget new.incoming new.budget
    × (told : Told)
    × (TellsComing old → old.told ≡ told)
    × PrintsToEnd (text told) told.1 old.incoming before answer new.incoming after

-- so were the lines of the remaining events, with `around` blocks open before the first
abbrev pub TellsRest : EventStyle → (around : ℕ) → Coming → Printing → Result (Unit {0}) Fault
    → Coming → Printing → Type 0
TellsRest style around = TellsBy (styled_told style around)

-- so were the line of the magic and those of all events
abbrev pub TellsAll : EventStyle → Coming → Printing → Result (Unit {0}) Fault → Coming → Printing
    → Type 0
TellsAll style old = TellsBy (λ told. head_as style.format old.head ++ styled_told style 0 told) old

-- ---- as events are gathered

-- the lines of these events were printed, with `around` blocks open before the first and `now` after the last
pub record WroteLines (style : EventStyle) (around : ℕ) (before : Printing) (events : List Event) (now : ℕ)
    (after : Printing) : Type 0 where
  pub printed : Printed (styled_lines style around events) before after
  pub now_is : now ≡ open_behind events around

-- Not all of the line of this event was printed, because of the fault that is kept. Each call is for an event.
abbrev pub FailsLine : EventStyle → (around : ℕ) → Printing → Option Event → (stopped : Option Fault)
    → Printing → Type 0
FailsLine style around before None stopped after = ⊥
FailsLine style around before (Some event) None after = ⊥
FailsLine style around before (Some event) (Some fault) after = Prints (styled_event style around event)
    before (Err fault) after

-- the fault of a line is kept
abbrev pub KeepsFault : Result (Unit {0}) Fault → (old : Option Fault) → Result (Unit {0}) AllocError
    → (new : Option Fault) → Type 0
KeepsFault done old (Ok _) new = (done ≡ Ok tt) × (new ≡ old)
KeepsFault done old (Err _) new = (fault : Fault) × (done ≡ Err fault) × (new ≡ Some fault)
