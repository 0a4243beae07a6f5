-- The listing of an input, event by event.
use Rattle.std.specs.Prelude.{◌≡◌, ◌⊎◌, ℕ, List, [], ◌∷◌, ◌++◌, if◌then◌else◌, Option, Some, None, Result, Ok, Err}
use Rattle.bit_grammar.specs.Blocks.{Limits}
use Rattle.bit_grammar.specs.Terms.{Head}
use Rattle.bit_grammar.specs.Machine.{Event, Told}
use Rattle.bit_grammar.specs.Normal.{Capped}
use Rattle.bit_grammar.specs.Outlook.{outlook}
use Rattle.bit_grammar.specs.Setting.{Setting}
use Rattle.bit_grammar.specs.Under.{events_under}
use Rattle.bit_grammar.specs.Steps.{open_after}
use Rattle.bit_grammar.specs.Texts.{event_text, events_text}
use Rattle.bit_fields.specs.declared.fault.Fault.{Fault}
use Rattle.bit_fields.specs.declared.fault.Fault.TheVariants.{Memory}
use Rattle.bit_fields.specs.Devices.{Outgoing}
use Rattle.bit_events.specs.Standing.{OpenUnder, leaves, stands_after, left_of}
use Rattle.bit_scan.specs.Lines.{listing_head}
use Rattle.bit_scan.specs.Printing.{Printing, Printed, Prints}
use Rattle.bit_scan.specs.Written.{WritesText}

-- the line of a head's magic, and those of its events that are kept under the setting
abbrev pub told_text : Setting → Head → Told → List ℕ
told_text setting head told = listing_head head.magic
    ++ events_text 0 (events_under setting [] told.0)

-- the lines of the events that are kept, with `around` kept blocks around the first
abbrev pub left_text : (around : ℕ) → OpenUnder → List Event → List ℕ
left_text around standing events = events_text around (left_of standing events)

-- the line of an event, with `around` kept blocks around it, if it is kept; and how many are around what follows
abbrev pub line_left : OpenUnder → (around : ℕ) → Event → List ℕ
line_left stood around event = if leaves stood event then event_text around event else []

abbrev pub around_after : OpenUnder → (around : ℕ) → Event → ℕ
around_after stood around event = if leaves stood event then open_after event around else around

-- how many kept blocks are around what follows events, and the state after them
abbrev pub around_behind : OpenUnder → (around : ℕ) → List Event → ℕ
around_behind stood around [] = around
around_behind stood around (event ∷ events) = around_behind (stands_after event stood)
    (around_after stood around event) events

abbrev pub stands_behind : List Event → OpenUnder → OpenUnder
stands_behind [] stood = stood
stands_behind (event ∷ events) stood = stands_behind events (stands_after event stood)

-- the lines of those of these events that are kept were printed
pub record WroteLeft (stood : OpenUnder) (around : ℕ) (before : Printing) (events : List Event)
    (stands : OpenUnder) (now : ℕ) (after : Printing) : Type 0 where
  pub printed : Printed (left_text around stood events) before after
  pub stands_is : stands ≡ stands_behind events stood
  pub now_is : now ≡ around_behind stood around events

-- Not all of the line of this event was printed, because of the fault that is kept. Each call is for an event.
abbrev pub FailsLeft : OpenUnder → (around : ℕ) → Printing → Option Event → (stopped : Option Fault)
    → Printing → Type 0
FailsLeft stood around before None stopped after = ⊥
FailsLeft stood around before (Some event) None after = ⊥
FailsLeft stood around before (Some event) (Some fault) after = Prints (line_left stood around event)
    before (Err fault) after

-- A sink took the text of the kept events of some bytes, or a prefix of it; or an allocation failed, and the sink took nothing.
abbrev pub ListsBytes : Setting → Limits → List ℕ → Outgoing → Result (Unit {0}) Fault → Outgoing
    → Type 0
ListsBytes setting limits bytes old answer new = (Capped limits × (x : Head × Told)
    × (outlook limits bytes ≡ Ok x) × WritesText (told_text setting x.0 x.1) old answer new)
    ⊎ ((answer ≡ Err Memory) × (new ≡ old))
