-- The effect of comparing two inputs that begin with the same bytes: the events in these are passed over.
use Rattle.std.specs.Prelude.{◌≡◌, ◌≢◌, ◌<◌, ◌≤◌, ◌+◌, ◌-◌, ◌^◌, ◌⊎◌, ℕ, Bool, true, false, List, [], ◌++◌, map, Option, Some, None, Result, Ok, Err, length, take}
use Rattle.bit_grammar.specs.Setting.{Setting}
use Rattle.bit_grammar.specs.Blocks.{Limits}
use Rattle.bit_grammar.specs.Terms.{Head}
use Rattle.bit_grammar.specs.Marks.{RecordMark}
use Rattle.bit_grammar.specs.Machine.{Event, notes, accepted}
use Rattle.bit_fields.specs.Devices.{Incoming, Begins}
use Rattle.bit_events.specs.Coming.{Coming, TellsComing}
use Rattle.bit_events.specs.Gathering.{left_open}
use Rattle.bit_events.specs.Reading.{Spent}
use Rattle.bit_norm.specs.Entries as tree
use Rattle.bit_norm.specs.Entries.{behind_magic, magics_apart, difference_shown}
use Rattle.bit_norm.specs.Fronts.{EndWithin, SharesFront}
use Rattle.bit_events.specs.Standing.{stands_after}
use Rattle.bit_norm.specs.InStep.{Compared, Said, TakesSign, Tallied, AnswersFound, Finishes, NotRead, ReadBeside, here, said_left, stand_behind}
use Rattle.bit_norm.specs.declared.comparing.SameFault.{SameFault}
use Rattle.bit_norm.specs.declared.differences.Difference.{Difference}
use Rattle.bit_norm.specs.declared.in_step.EqualRecords.{EqualRecords}
use Rattle.bit_norm.specs.declared.in_step.Found.{Found}

-- The state of a comparison, the bit up to which nothing is compared, whether the same bytes are all of the first input, and how many
-- events in them were passed over.
pub record Comparing : Type 0 where
  pub compared : Compared
  pub passed_to : ℕ
  pub whole : Bool
  pub passed : ℕ

-- an input whose remaining events are these
abbrev pub telling : Coming → List Event → Coming
telling c events = record c {
  told = (events, accepted c.position);
  incoming = record c.incoming { to_come = Some [] };
}

abbrev pub first_telling : Compared → List Event → Compared
first_telling c events = record c { first = telling c.first events }

-- In front of the place where both are read in step: these events of the second were passed over. Nothing was read of the first, but
-- whatever follows them in both, they are those of a comparison with a first input that has them too.
pub record InFront (begun : Comparing) (events : List Event) (last : Comparing) : Type 0 where
  pub found : last.compared.found ≡ None
  pub passed_to : last.passed_to ≡ begun.passed_to
  pub whole : last.whole ≡ begun.whole
  pub some : 0 < last.passed_to
  pub within : EndWithin last.passed_to events
  pub many : length events ≡ last.passed
  pub first : last.compared.first ≡ begun.compared.first
  pub ends : last.compared.first_ended ≡ last.compared.second_ended
  pub blocks : last.compared.first_blocks ≡ last.compared.second_blocks
  pub tallied : (rest : List Event) → Tallied (first_telling begun.compared (events ++ rest)) events
      (first_telling last.compared rest)

-- the first input has the events of the second that end in the same bytes
abbrev pub Shares : Comparing → List Event → Type 0
Shares begun events = SharesFront begun.whole begun.passed_to begun.compared.first.told.0 events

-- Before the place where both are read in step; behind it, if the first input has the events in the same bytes; or behind a difference.
pub data Matches (begun : Comparing) (events : List Event) (last : Comparing) : Type 0 where
  in_front : InFront begun events last → Matches begun events last
  in_step : last.compared.found ≡ None → last.passed_to ≡ 0
      → (Shares begun events → Tallied begun.compared events last.compared) → Matches begun events last
  apart : (f : Found) → last.compared.found ≡ Some f → last.passed_to ≡ 2 ^ 64 - 1
      → (Shares begun events → Tallied begun.compared events last.compared) → Matches begun events last

-- The first input was read up to the place: its events in the same bytes, or, if all its bytes are the same, none of them is left.
pub record GoesInStep (all : Bool) (old new : Comparing) : Type 0 where
  pub passed_to : new.passed_to ≡ 0
  pub tells : TellsComing old.compared.first → TellsComing new.compared.first
  pub rest : new.compared ≡ record old.compared { first = new.compared.first }
  pub front : all ≡ false → TellsComing old.compared.first → (front : List Event)
      × (length front ≡ old.passed)
      × (old.compared.first.told.0 ≡ front ++ new.compared.first.told.0)
  pub none : all ≡ true → new.compared.first.told.0 ≡ []

-- an event that ends at this bit is not compared; or from here on both are read in step
abbrev pub PassesEvent : (after : ℕ) → Comparing → Bool → Comparing → Type 0
PassesEvent after old true new = (0 < old.passed_to) × (after ≤ old.passed_to)
    × (new ≡ record old { passed = old.passed + 1 })
PassesEvent after old false new = ((old.passed_to ≡ 0) × (new ≡ old))
    ⊎ ((0 < old.passed_to) × (old.passed_to < after) × GoesInStep old.whole old new)

-- a sign of the second, which begins and ends at these bits, was compared with the next entry of the first
pub record Takes (old : Comparing) (sign : tree.Sign) (bit ended : ℕ) (new : Comparing) : Type 0 where
  pub takes : old.compared.found ≡ None → TakesSign old.compared sign bit ended new.compared
  pub on : new.compared.found ≡ None → new.passed_to ≡ old.passed_to
  pub over : old.compared.found ≡ None → (f : Found) → new.compared.found ≡ Some f
      → new.passed_to ≡ 2 ^ 64 - 1

-- a sign that is not compared, and the place after it
pub record PassesSign (old : Comparing) (sign : tree.Sign) (ended : ℕ) (new : Comparing) : Type 0 where
  pub moves : (before behind : ℕ) → here new.compared behind
      ≡ stand_behind (here old.compared before) sign behind
  pub is : new ≡ record old {
    compared = record old.compared {
      within = new.compared.within;
      items = new.compared.items;
      first_ended = ended;
      second_ended = ended;
    };
  }

-- the sign of an event, if it is kept; that of an end begins where what comes before it ended
abbrev pub said_here : Compared → Event → Option Said
said_here c event = said_left c.second_blocks c.second_ended event

-- the place, and where it ended, after a sign, if there is one
abbrev pub place_after : Compared → Option Said → Compared → Type 0
place_after old None new = new ≡ old
place_after old (Some x) new = ((before behind : ℕ) → here new behind
    ≡ stand_behind (here old before) x.sign behind) × (new ≡ record old {
      within = new.within;
      items = new.items;
      first_ended = x.ended;
      second_ended = x.ended;
    })

-- the same open blocks after an event
abbrev pub first_behind : Event → Compared → Compared
first_behind event c = record c { first_blocks = stands_after event c.first_blocks }

abbrev pub second_behind : Event → Compared → Compared
second_behind event c = record c { second_blocks = stands_after event c.second_blocks }

-- An event that is not compared was taken: in front of the place in both inputs, and behind a difference in the second.
pub record PassesBy (event : Event) (old new : Comparing) : Type 0 where
  pub passed_to : new.passed_to ≡ old.passed_to
  pub whole : new.whole ≡ old.whole
  pub passed : new.passed ≡ old.passed
  pub both : old.compared.found ≡ None → place_after (first_behind event (second_behind event old.compared))
      (said_here old.compared event) new.compared
  pub apart : (f : Found) → old.compared.found ≡ Some f → new.compared ≡ second_behind event old.compared

-- the comparison at what was counted of records in the same bytes
abbrev pub at_records : Comparing → EqualRecords → Comparing
at_records c r = record c {
  compared = record c.compared { items = r.items; first_ended = r.ended; second_ended = r.ended };
  passed = r.passed;
}

-- These records were counted: a comparison in front of them is behind them.
pub record CountsEqual (first : EqualRecords) (records : List RecordMark) (last : EqualRecords) : Type 0 where
  pub blocks : last.blocks ≡ first.blocks
  pub equal : last.equal ≡ first.equal
  pub passes : (begun c : Comparing) (done : List Event) → c.compared.second_blocks ≡ first.blocks.now
      → c.passed_to ≡ first.equal → at_records c first ≡ c → InFront begun done c → 0 < left_open done
      → InFront begun (done ++ map notes records) (at_records c last)

-- The end of the second, whose magic ends at this bit, was compared with the first as well, once that was read up to the place; or the
-- difference was found before.
abbrev pub FinishesAll : (behind_magic : ℕ) → Comparing → Option Difference → Type 0
FinishesAll behind_magic c answer = (AnswersFound c.compared answer × ((f : Found) × (c.compared.found ≡ Some f)))
    ⊎ ((c.compared.found ≡ None) × (c.passed_to ≡ 0) × Finishes behind_magic c.compared answer)
    ⊎ ((c.compared.found ≡ None) × (0 < c.passed_to) × ((step : Comparing)
    × GoesInStep false c step × Finishes behind_magic step.compared answer))

-- the result for two inputs with these heads: their magics differ, or else the result of the comparison
pub data Concludes (first second : Head) (c : Comparing) (answer : Option Difference) : Type 0 where
  other_magic : first.magic ≢ second.magic → (difference : Difference) → answer ≡ Some difference
      → difference_shown difference ≡ magics_apart first second → Concludes first second c answer
  same_magic : first.magic ≡ second.magic → FinishesAll (behind_magic second) c answer
      → Concludes first second c answer

-- The effect of reading an input in step with bytes, of which the first `equal` are said to be the same: if they are not, nothing is
-- said of a difference.
abbrev pub ComparesBehind : Setting → Limits → (bytes : List ℕ) → (equal : ℕ) → Incoming
    → Result (Option Difference) SameFault → Incoming → Type 0
ComparesBehind setting limits bytes equal j (Ok answer) later = Spent limits j later
    × (Begins j.to_come (take equal bytes) → ReadBeside setting limits bytes j answer later)
ComparesBehind setting limits bytes equal j (Err e) later = NotRead setting limits e.which e.fault j
    later
