-- Gathering what is buffered, before a reader takes it.
use Rattle.std.specs.Prelude.{◌≡◌, ℕ, ◌+◌, ◌-◌, ◌≤◌, List, ◌∷◌, ◌++◌, Bool, Option, Some, None, length, slice_get, vec_len}
use Rattle.bit_grammar.specs.Grammar.{Grammar}
use Rattle.bit_grammar.specs.declared.op.Op.{Op}
use Rattle.bit_grammar.specs.Blocks.{Limits, Handed, entry}
use Rattle.bit_grammar.specs.Machine as machine
use Rattle.bit_grammar.specs.Machine.{Event, step_of}
use Rattle.bit_fields.specs.Buffered.{BufferedBits, Reads, Sees, reader_further, reader_at}
use Rattle.bit_fields.specs.Reader.{Reader, TellsBytes, Took}
use Rattle.bit_fields.specs.declared.fault.Fault.{Fault}
use Rattle.bit_events.specs.declared.frame.Frame.{Frame}
use Rattle.bit_events.specs.declared.machine.Machine.{Machine}
use Rattle.bit_events.specs.declared.machine.Step.{Step}
use Rattle.bit_events.specs.FrameView.{frame_shown, frames_shown}
use Rattle.bit_events.specs.Folding.{GathersFirst, GathersSome}
use Rattle.bit_events.specs.Next.{left_to_tell}
use Rattle.bit_events.specs.MachineView.{bit_after, machine_shown, record_of, step_shown, LeavesMachine}

-- the values read come after the earlier ones
abbrev pub AddsBehind : (List ℕ → Type 0) → (before after : List ℕ) → Type 0
AddsBehind Reads before after = (list : List ℕ) × (after ≡ before ++ list) × Reads list

-- What a look-up of an id's definition found is the one in force. If it found none, there is none, unless a miss gives no reason.
abbrev pub IsDefinition : {M : Type 0} → (faults : M → Fault → Type 0) → List (List Op) → (id : ℕ)
    → Option (List Op) → Type 0
IsDefinition faults definitions id (Some ops) = slice_get definitions (id - 4) ≡ Some ops
IsDefinition {M} faults definitions id None = (miss : M) (fault : Fault) → faults miss fault
    → slice_get definitions (id - 4) ≡ None

-- A record with this id, which began at `first`, is read up to a bit, with these definitions in force and at most `room` values.
abbrev pub ReadsTo : (definitions : List (List Op)) → (room id first : ℕ) → BufferedBits → (code : ℕ)
    → List ℕ → (after : ℕ) → Type 0
ReadsTo definitions room id first a code values after = (b : BufferedBits) × (b.position ≡ after)
    × (length values ≤ room) × Took (entry room first id definitions) (reader_at a)
    (record { code = code; values = values }) (reader_at b)

-- the machine after a record with these values, in the innermost block f, which is no BLOCKINFO block
abbrev pub after_record : machine.Frame → List machine.Frame → Handed → List ℕ → machine.Machine
after_record f outer handed values = record {
  frames = f ∷ outer;
  handed = record { table = handed.table; used = handed.used + length values };
}

-- a record is read with its id and code, if this is the innermost block, which is no BLOCKINFO block, with at most `room` values
abbrev pub SeesRecord : Frame → (room : ℕ) → BufferedBits → (read : ℕ × ℕ) → List ℕ → BufferedBits → Type 0
SeesRecord f room a read list b = (limits : Limits) (outer : List machine.Frame) (handed : Handed)
    → limits.values - handed.used ≡ room
    → Reads (step_of limits (frame_shown f ∷ outer) handed) a (
      record_of read.0 list a.position (read.1, b.position),
      after_record (frame_shown f) outer
          handed list,
    ) b

-- the later buffered bits are a suffix of the earlier ones
abbrev pub Passed : BufferedBits → BufferedBits → Type 0
Passed a b = (bits : List Bool) × (a.bits ≡ bits ++ b.bits)
    × (b.position ≡ a.position + length bits)

-- For each reader before `a` and each machine with this innermost block and `used` values: events were gathered up to `b`, the
-- machine has `now_used` values, and the reader is then before `b`.
pub record GathersTo {G : Type 0} (gathered : G → List Event → G → Type 0) (limits : Limits)
    (f : Frame) (used : ℕ) (a : BufferedBits) (g : G) (now_used : ℕ) (b : BufferedBits) (h : G) : Type 0 where
  pub passed : Passed a b
  pub gathers : (m : Machine) (outer : List machine.Frame) (r : Reader)
      → frames_shown m.frames.items ≡ frame_shown f ∷ outer → m.used ≡ used → Sees r a
      → GathersSome gathered limits m r g (record m { used = now_used })
      (reader_further r (b.position - a.position)) h
      × Sees (reader_further r (b.position - a.position)) b

-- the same, up to a bit
abbrev pub GathersRun : {G : Type 0} → (G → List Event → G → Type 0) → Limits → Frame → (used : ℕ)
    → BufferedBits → G → (now_used after : ℕ) → G → Type 0
GathersRun gathered limits f used a g now_used after h = (b : BufferedBits) × (b.position ≡ after)
    × GathersTo gathered limits f used a g now_used b h

-- For each reader before `a`: the first of its remaining events were gathered, and there it stopped.
abbrev pub StopsOn : {G : Type 0} → (G → List Event → G → Type 0)
    → (G → Option Event → G → Type 0) → Limits → Machine → BufferedBits → G → G → Type 0
StopsOn gathered fails limits m a g h = (r : Reader) → Sees r a
    → GathersFirst gathered fails (TellsBytes r) (left_to_tell limits m r) (vec_len m.frames) g h

-- The same for each machine with this innermost block and `used` values.
abbrev pub StopsRun : {G : Type 0} → (G → List Event → G → Type 0)
    → (G → Option Event → G → Type 0) → Limits → Frame → (used : ℕ) → BufferedBits → G → G → Type 0
StopsRun gathered fails limits f used a g h = (m : Machine) (outer : List machine.Frame)
    → frames_shown m.frames.items ≡ frame_shown f ∷ outer → m.used ≡ used
    → StopsOn gathered fails limits m a g h

-- ---- blocks

-- the rule reads this value from the buffered bits, up to a bit
abbrev pub ReadsUpTo : {A : Type 0} → Grammar A → BufferedBits → A → (after : ℕ) → Type 0
ReadsUpTo rule a value after = (b : BufferedBits) × (b.position ≡ after) × Reads rule a value b

-- by a rule this event was found in the buffered bits
pub record FindsHere (rule : Grammar (Event × machine.Machine)) (deepest : ℕ) (m : Machine)
    (a : BufferedBits) (event : Event) (n : Machine) (b : BufferedBits) : Type 0 where
  pub reads : Reads rule a (event, machine_shown n) b
  pub leaves : LeavesMachine deepest m (reader_at a) event n (reader_at b)

-- By a rule a step was found in the buffered bits, up to the bit after it, with any values for a record; or the machine is as before.
abbrev pub StepsHere : Grammar (Event × machine.Machine) → (deepest : ℕ) → Machine → BufferedBits
    → Option Step → Machine → Type 0
StepsHere rule deepest m a None n = n ≡ m
StepsHere rule deepest m a (Some step) n = (b : BufferedBits) × (b.position ≡ bit_after step)
    × ((list : List ℕ) → FindsHere rule deepest m a (step_shown n list step) n b)

-- For each reader before `a`: events were gathered up to `b`, and the reader is then before `b`.
pub record GathersOn {G : Type 0} (gathered : G → List Event → G → Type 0) (limits : Limits)
    (m : Machine) (a : BufferedBits) (g : G) (n : Machine) (b : BufferedBits) (h : G) : Type 0 where
  pub passed : Passed a b
  pub gathers : (r : Reader) → Sees r a
      → GathersSome gathered limits m r g n (reader_further r (b.position - a.position)) h
      × Sees (reader_further r (b.position - a.position)) b

-- the same, up to a bit
abbrev pub GathersUpTo : {G : Type 0} → (G → List Event → G → Type 0) → Limits → Machine
    → BufferedBits → G → Machine → (after : ℕ) → G → Type 0
GathersUpTo gathered limits m a g n after h = (b : BufferedBits) × (b.position ≡ after)
    × GathersOn gathered limits m a g n b h
