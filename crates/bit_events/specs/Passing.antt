-- Records that are passed over: they are gathered without their values being read into a value sink.
use Rattle.std.specs.Prelude.{◌≡◌, ℕ, ◌+◌, ◌-◌, ◌<◌, ◌≤◌, List, [], ◌∷◌, ◌++◌, Option, Some, None, map, length, sum_by}
use Rattle.bit_grammar.specs.declared.op.Op.{Op}
use Rattle.bit_grammar.specs.Blocks.{Limits}
use Rattle.bit_grammar.specs.Machine.{Event, notes}
use Rattle.bit_grammar.specs.Marks.{RecordMark}
use Rattle.bit_fields.specs.Buffered.{BufferedBits}
use Rattle.bit_fields.specs.PlacedView.{placed}
use Rattle.bit_fields.specs.declared.placed.PlacedBits.{PlacedBits}
use Rattle.bit_events.specs.declared.frame.Frame.{Frame}
use Rattle.bit_events.specs.declared.passing.CountedRecord.{CountedRecord}
use Rattle.bit_events.specs.declared.passing.PassedRun.{PassedRun}
use Rattle.bit_events.specs.Gathering.{left_open}
use Rattle.bit_events.specs.Runs.{GathersRun, GathersTo}

-- the record that was counted, with these values
abbrev pub mark_of : CountedRecord → List ℕ → RecordMark
mark_of r list = record { abbreviation = r.id; code = r.code; values = list; first = r.first; after = r.after }

-- after counting some records, one more was counted
abbrev pub CountsOne : {C : Type 0} → (C → List RecordMark → C → Type 0) → C → RecordMark → C → Type 0
CountsOne {C} counted old mark new = (first : C) (done : List RecordMark) → counted first done old
    → counted first (done ++ mark ∷ []) new

-- events were added to a list of them
abbrev pub collected : List Event → List Event → List Event → Type 0
collected first done last = done ≡ first ++ last

-- how many values records have
abbrev pub values_of : List RecordMark → ℕ
values_of records = sum_by (λ (mark : RecordMark). length mark.values) records

-- These records come first in the buffered bits, in a block with ids of this width and these definitions in force, and have at most
-- `room` values.
pub record PassesRecords (width : ℕ) (definitions : List (List Op)) (room : ℕ) (a : BufferedBits)
    (records : List RecordMark) (run : PassedRun) : Type 0 where
  pub less : run.room ≤ room
  pub spent : run.room + values_of records ≡ room
  pub passes : (limits : Limits) (f : Frame) (used : ℕ) → f.head.width ≡ width → f.info ≡ None
      → f.definitions.all ≡ definitions → limits.values - used ≡ room
      → GathersRun collected limits f used a [] (used + (room - run.room)) run.after
      (map notes records)

-- These records come first in the buffered bits, up to bits before which `left` values may still come.
pub record PassedTo (width : ℕ) (definitions : List (List Op)) (room : ℕ) (a : BufferedBits)
    (records : List RecordMark) (left : ℕ) (b : BufferedBits) : Type 0 where
  pub less : left ≤ room
  pub spent : left + values_of records ≡ room
  pub passes : (limits : Limits) (f : Frame) (used : ℕ) → f.head.width ≡ width → f.info ≡ None
      → f.definitions.all ≡ definitions → limits.values - used ≡ room
      → GathersTo collected limits f used a [] (used + (room - left)) b (map notes records)

-- Records that come first were counted, up to bits before which `left` values may still come. So they come behind any others up to the
-- first bits, and were counted after any others.
pub record PassesOn {C : Type 0} (counted : C → List RecordMark → C → Type 0) (width : ℕ) (definitions : List (List Op))
    (old : C) (room : ℕ) (a : BufferedBits) (new : C) (left : ℕ) (b : BufferedBits) : Type 0 where
  pub records : List RecordMark
  pub counts : (first : C) (done : List RecordMark) → counted first done old → counted first (done ++ records) new
  pub passes : (most : ℕ) (first : BufferedBits) (others : List RecordMark)
      → PassedTo width definitions most first others room a
      → PassedTo width definitions most first (others ++ records) left b

-- a record was passed over and counted, or nothing changed
abbrev pub StepsOn : {C : Type 0} → (C → List RecordMark → C → Type 0) → (width : ℕ) → (definitions : List (List Op))
    → (old : C) → (room : ℕ) → BufferedBits → (new : C) → Option (PlacedBits × ℕ) → Type 0
StepsOn counted width definitions old room a new None = new ≡ old
StepsOn counted width definitions old room a new (Some step) = PassesOn counted width definitions old room a new step.1
    (placed step.0)

-- After gathering some events that leave a block open, these records were gathered.
abbrev pub GathersRecords : {G : Type 0} → (G → List Event → G → Type 0) → G → List RecordMark → G → Type 0
GathersRecords {G} gathered old records new = (first : G) (done : List Event) → gathered first done old
    → 0 < left_open done → gathered first (done ++ map notes records) new

-- No more values may come than before. In a block with these definitions in force, the records that come first in the buffered bits
-- were gathered.
abbrev pub PassesRun : {G : Type 0} → (G → List Event → G → Type 0) → (width : ℕ)
    → (definitions : List (List Op)) → (room : ℕ) → BufferedBits → G → PassedRun → G → Type 0
PassesRun gathered width definitions room a old run new = (run.room ≤ room)
    × ((records : List RecordMark) × PassesRecords width definitions room a records run
    × GathersRecords gathered old records new)
