-- Events one at a time, as C sees them.
use Rattle.std.specs.Prelude.{◌≡◌, ◌⊎◌, ℕ, List, [], length, map, Option, Some, None, Result, Ok, Err, MatchOption}
use Rattle.bit_grammar.specs.Blocks as blocks
use Rattle.bit_grammar.specs.Machine.{Event, enters, defines, notes, leaves}
use Rattle.bit_grammar.specs.declared.op.Op.{Op}
use Rattle.bit_grammar.specs.declared.op.Op.TheVariants.{Literal, Fixed, Vbr, Array, Char6, Blob}
use Rattle.bit_fields.specs.declared.fault.Fault.{Fault}
use Rattle.bit_fields.specs.declared.fault.Fault.TheVariants.{Memory}
use Rattle.bit_fields.specs.Opening.{magic_number}
use Rattle.bit_fields.specs.Devices.{Account}
use Rattle.bit_events.specs.Coming.{Coming, Goes}
use Rattle.bit_events.specs.Events.{Begun}
use Rattle.bit_c.specs.declared.asking.BsMagicBytes.{BsMagicBytes}
use Rattle.bit_c.specs.declared.event.BsEvent.{BsEvent}
use Rattle.bit_c.specs.declared.home.Home.{Home}
use Rattle.bit_c.specs.declared.home.Home.TheVariants as home
use Rattle.bit_c.specs.declared.home.Reading.{Reading}
use Rattle.bit_c.specs.declared.input_bytes.Bytes.{Bytes}
use Rattle.bit_c.specs.declared.operand.BsOperand.{BsOperand}
use Rattle.bit_c.specs.declared.outcome.Outcome.{Outcome}
use Rattle.bit_c.specs.declared.outcome.Outcome.TheVariants.{Done, Closed}
use Rattle.bit_c.specs.Bytes.{ComesBack, bytes_in, whole}
use Rattle.bit_c.specs.Calls.{FailsCall}
use Rattle.bit_c.specs.Ending.{ended_by}
use Rattle.bit_c.specs.Handing.{HandsOut, LeavesRoom}
use Rattle.bit_c.specs.Limiting.{Within}
use Rattle.bit_c.specs.Opened.{reading_of}

-- an event as C sees it, or that none remains; fields that its kind does not have are 0
abbrev pub event_told : Option Event → BsEvent
event_told None = record { kind = 0; id = 0; width = 0; code = 0; count = 0; first = 0; after = 0 }
event_told (Some (enters o)) = record {
  kind = 1;
  id = o.id;
  width = o.width;
  code = 0;
  count = 0;
  first = o.first;
  after = o.body;
}
event_told (Some (defines mark)) = record {
  kind = 2;
  id = 0;
  width = 0;
  code = 0;
  count = 0;
  first = mark.first;
  after = mark.after;
}
event_told (Some (notes mark)) =
    record {
      kind = 3;
      id = mark.abbreviation;
      width = 0;
      code = mark.code;
      count = length mark.values;
      first = mark.first;
      after = mark.after;
    }
event_told (Some (leaves after)) = record {
  kind = 4;
  id = 0;
  width = 0;
  code = 0;
  count = 0;
  first = 0;
  after = after;
}

-- an operand as C sees it: the format's number of its kind, which a literal does not have
abbrev pub operand_told : Op → BsOperand
operand_told (Literal value) = record { kind = 0; value = value }
operand_told (Fixed width) = record { kind = 1; value = width }
operand_told (Vbr width) = record { kind = 2; value = width }
operand_told Array = record { kind = 3; value = 0 }
operand_told Char6 = record { kind = 4; value = 0 }
operand_told Blob = record { kind = 5; value = 0 }

-- the operands of an event, which only a definition has
abbrev pub operands_in : Event → List BsOperand
operands_in (defines mark) = map operand_told mark.ops
operands_in (enters o) = []
operands_in (notes mark) = []
operands_in (leaves after) = []

abbrev pub operands_if_any : Option Event → List BsOperand
operands_if_any None = []
operands_if_any (Some event) = operands_in event

-- The contract of a call for the next event, which sets it and its operands. If an allocation for the operands fails, the event is
-- lost.
abbrev pub Gets : Coming → Result BsEvent Fault → List BsOperand → Coming → Type 0
Gets old (Ok e) operands new = (event : Option Event) × (e ≡ event_told event)
    × (operands ≡ operands_if_any event) × Goes old (Ok event) new
Gets old (Err Memory) operands new = Goes old (Err Memory) new
    ⊎ ((event : Event) × Goes old (Ok (Some event)) new)
Gets old (Err fault) operands new = Goes old (Err fault) new

-- ---- a handle

-- the events of the bytes were begun
abbrev pub IsBegun : blocks.Limits → List ℕ → Reading → Type 0
IsBegun limits bytes new = (new.fault ≡ None) × (new.operands.items ≡ [])
    × ((accounts : List Account) × Begun limits (whole bytes accounts) new.events)

-- the events of the bytes were begun; or not, for this reason, and owned bytes come back
abbrev pub BeginsReading : blocks.Limits → Bytes → Result Reading (Outcome × Bytes) → Type 0
BeginsReading limits bytes (Ok new) = IsBegun limits (bytes_in bytes) new
BeginsReading limits bytes (Err why) = FailsCall limits (bytes_in bytes) why.0 × ComesBack bytes why.1

-- The events of the bytes are begun in a handle; or the handle is closed, for this reason.
abbrev pub OpensHandle : blocks.Limits → List ℕ → Option Reading → Outcome → Type 0
OpensHandle limits bytes (Some new) Done = IsBegun limits bytes new
OpensHandle limits bytes (Some new) outcome = ⊥
OpensHandle limits bytes None outcome = FailsCall limits bytes outcome

-- a handle holds events or nothing
abbrev pub HoldsNoOther : Option Home → Type 0
HoldsNoOther new = reading_of new ≡ None → new ≡ None

-- the events of the bytes replaced the input; or not, for this reason, and the input has the same bytes
abbrev pub ReplacesInput : blocks.Limits → List ℕ → Home → Outcome → Type 0
ReplacesInput limits bytes (home.Reading new) Done = IsBegun limits bytes new
ReplacesInput limits bytes (home.Input new) outcome = FailsCall limits bytes outcome
    × (new.items ≡ bytes)
ReplacesInput limits bytes new outcome = ⊥

-- the same for an object that may be no input
abbrev pub BeginsIn : blocks.Limits → Home → Home → Outcome → Type 0
BeginsIn limits (home.Input bytes) new outcome = ReplacesInput limits bytes.items new outcome
BeginsIn limits old new outcome = (outcome ≡ Closed) × (new ≡ old)

-- the same with limits that may be past their caps
abbrev pub BeginsWithin : blocks.Limits → Home → Home → Outcome → Type 0
BeginsWithin limits (home.Input bytes) new outcome = Within limits (new ≡ home.Input bytes)
    (ReplacesInput limits bytes.items new) outcome
BeginsWithin limits old new outcome = (outcome ≡ Closed) × (new ≡ old)

-- The events of the input that a handle gathers were begun, and replaced the input; or not, for this reason, and the input has the
-- same bytes; or the handle gathers none, the outcome reports that, and the handle is unchanged. A closed handle has an input of no
-- bytes, and stays closed if its events were not begun.
abbrev pub BeginsFed : blocks.Limits → Option Home → Option Home → Outcome → Type 0
BeginsFed limits (Some old) (Some new) outcome = BeginsWithin limits old new outcome
BeginsFed limits (Some old) None outcome = ⊥
BeginsFed limits None new outcome = Within limits (new ≡ None)
    (OpensHandle limits [] (reading_of new)) outcome × HoldsNoOther new

-- the result of a call for the next event was set, and a fault is kept
abbrev pub KeepsAnswer : (old : Reading) → (before : BsEvent) → Result BsEvent Fault → Reading
    → BsEvent → Outcome → Type 0
KeepsAnswer old before (Ok e) new after outcome = (outcome ≡ Done) × (after ≡ e)
    × (new.fault ≡ None)
KeepsAnswer old before (Err fault) new after outcome = (outcome ≡ ended_by 0 fault)
    × (after ≡ before) × (new.fault ≡ Some fault)

-- a call for the next event of events that met no fault
abbrev pub GoesOnReading : (old : Reading) → (before : BsEvent) → Reading → BsEvent → Outcome
    → Type 0
GoesOnReading old before new after outcome = (answer : Result BsEvent Fault)
    × Gets old.events answer new.operands.items new.events × KeepsAnswer old before answer new after outcome

-- a call for the next event after a fault returns that fault again, and changes nothing
abbrev pub SaysAgain : Reading → BsEvent → Fault → Reading → BsEvent → Outcome → Type 0
SaysAgain old before fault new after outcome = (outcome ≡ ended_by 0 fault) × (new ≡ old)
    × (after ≡ before)

abbrev pub StepsReading : Reading → BsEvent → Reading → BsEvent → Outcome → Type 0
StepsReading old before new after outcome = MatchOption old.fault
    (GoesOnReading old before new after outcome)
    (λ fault. SaysAgain old before fault new after outcome)

-- The next event of a handle. A closed handle stays closed, and the call returns `Closed`.
abbrev pub Nexts : Option Reading → BsEvent → Option Reading → BsEvent → Outcome → Type 0
Nexts None before None after outcome = (outcome ≡ Closed) × (after ≡ before)
Nexts None before (Some new) after outcome = ⊥
Nexts (Some old) before None after outcome = ⊥
Nexts (Some old) before (Some new) after outcome = StepsReading old before new after outcome

-- what a handle holds that is no events is unchanged
abbrev pub KeepsOther : Option Home → Option Home → Type 0
KeepsOther old new = reading_of old ≡ None → new ≡ old

-- the same for the object of an open handle
abbrev pub NextsIn : Home → BsEvent → Home → BsEvent → Outcome → Type 0
NextsIn (home.Reading old) before (home.Reading new) after outcome = StepsReading old before new
    after outcome
NextsIn (home.Reading old) before new after outcome = ⊥
NextsIn old before new after outcome = (outcome ≡ Closed) × (after ≡ before) × (new ≡ old)

-- ---- queries between two events

-- the values of the record returned last
abbrev pub values_held : Reading → List ℕ
values_held reading = reading.events.held

-- the operands of the event returned last
abbrev pub operands_held : Reading → List BsOperand
operands_held reading = reading.operands.items

-- these were handed out; or the earlier fault was returned, and nothing was handed out
abbrev pub Lists : {A : Type 0} → (Reading → List A) → Reading → List A → ℕ → List A → Outcome
    → Type 0
Lists held reading old needed new outcome = MatchOption reading.fault
    (HandsOut (held reading) old needed new outcome)
    (λ fault. (outcome ≡ ended_by 0 fault) × LeavesRoom old needed new)

-- the same for a handle; for a closed one the outcome is `Closed`
abbrev pub ListsOf : {A : Type 0} → (Reading → List A) → Option Reading → List A → ℕ → List A
    → Outcome → Type 0
ListsOf held None old needed new outcome = (outcome ≡ Closed) × LeavesRoom old needed new
ListsOf held (Some reading) old needed new outcome = Lists held reading old needed new outcome

-- The magic of the stream was set. If the handle is closed or holds a text, the outcome is `Closed`, and nothing was set.
abbrev pub TellsMagic : Option Reading → BsMagicBytes → BsMagicBytes → Outcome → Type 0
TellsMagic None old new outcome = (outcome ≡ Closed) × (new ≡ old)
TellsMagic (Some reading) old new outcome = (outcome ≡ Done)
    × (magic_number new.bytes ≡ reading.events.head.magic)
