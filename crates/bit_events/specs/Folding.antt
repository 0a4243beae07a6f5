-- Reading an input into a gatherer.
use Rattle.std.specs.Prelude.{◌≡◌, ℕ, ◌<◌, ◌≤◌, ◌%◌, Bool, true, false, List, [], ◌++◌, vec_len, Option, Result, Ok, Err}
use Rattle.bit_grammar.specs.Grammar as grammar
use Rattle.bit_grammar.specs.Grammar.{at}
use Rattle.bit_grammar.specs.Blocks.{Limits}
use Rattle.bit_grammar.specs.Input.{SpellsInput}
use Rattle.bit_grammar.specs.Terms.{Head, Marked}
use Rattle.bit_grammar.specs.Normal.{Capped}
use Rattle.bit_grammar.specs.Machine.{Event, flat, accepted, broke, Told}
use Rattle.bit_fields.specs.declared.fault.Fault.{Fault}
use Rattle.bit_fields.specs.declared.fault.Fault.TheVariants.{Refused, Read, Write, Memory, OutputTooLong, Failed}
use Rattle.bit_fields.specs.Devices.{known_bytes}
use Rattle.bit_fields.specs.Reader.{Reader, TellsBytes, GoesOn, StopsReading, Loses}
use Rattle.bit_events.specs.declared.machine.Machine.{Machine}
use Rattle.bit_events.specs.Coming.{EndsStream, Coming, TellsComing, Pays, StopsEvents, LosesEvents, going, over, failed}
use Rattle.bit_events.specs.Gathering.{left_open, Stops}
use Rattle.bit_events.specs.Next.{LeadsOn, left_to_tell}

-- these events were read and gathered, and others are left
pub record GathersSome {G : Type 0} (gathered : G → List Event → G → Type 0) (limits : Limits)
    (m : Machine) (a : Reader) (g : G) (n : Machine) (b : Reader) (h : G) : Type 0 where
  pub events : List Event
  pub live : b.live ≡ true
  pub pays : GoesOn a b
  pub forward : a.position ≤ b.position
  pub aligned : vec_len n.frames ≡ 0 → b.position % 8 ≡ 0
  pub told : TellsBytes a → left_to_tell limits m a
      ≡ (events ++ (left_to_tell limits n b).0, (left_to_tell limits n b).1)
  pub leads : LeadsOn limits m a events n b
  pub gathers : (first : G) (done : List Event) → gathered first done g
      → left_open done ≡ vec_len m.frames → gathered first (done ++ events) h
      × (left_open (done ++ events) ≡ vec_len n.frames)

-- these are all events, and they leave no block open
pub record GathersAll {G : Type 0} (gathered : G → List Event → G → Type 0) (limits : Limits)
    (m : Machine) (a : Reader) (g : G) (n : Machine) (b : Reader) (h : G) : Type 0 where
  pub events : List Event
  pub closed : vec_len n.frames ≡ 0
  pub stopped : b.live ≡ false
  pub pays : GoesOn a b
  pub told : TellsBytes a → left_to_tell limits m a ≡ (events, accepted b.position)
  -- the reader where its stream ended
  pub ended : Reader
  pub leads : LeadsOn limits m a events n ended
  pub ends : EndsStream ended
  pub position : b.position ≡ ended.position
  pub none : TellsBytes a → known_bytes b.incoming.to_come ≡ []
  pub gathers : (first : G) (done : List Event) → gathered first done g
      → left_open done ≡ vec_len m.frames → gathered first (done ++ events) h
      × (left_open (done ++ events) ≡ 0)

-- All events before a fault were gathered: those told, if they are known, with `count` blocks open before them.
pub record GathersBefore {G : Type 0} (gathered : G → List Event → G → Type 0) (Known : Type 0)
    (all : Told) (count : ℕ) (g : G) (fault : grammar.Fault) (h : G) : Type 0 where
  pub events : List Event
  pub told : Known → all ≡ (events, broke fault)
  pub gathers : (first : G) (done : List Event) → gathered first done g → left_open done ≡ count
      → gathered first (done ++ events) h

-- The first of the events were gathered, and there it stopped.
pub record GathersFirst {G : Type 0} (gathered : G → List Event → G → Type 0)
    (fails : G → Option Event → G → Type 0) (Known : Type 0) (all : Told) (count : ℕ)
    (g h : G) : Type 0 where
  pub events : List Event
  pub rest : List Event
  pub before : G
  pub told : Known → all.0 ≡ events ++ rest
  pub gathers : (first : G) (done : List Event) → gathered first done g → left_open done ≡ count
      → gathered first (done ++ events) before
  pub stops : Stops fails before rest h

-- Why events are left that were not gathered: the events end with this fault; the source failed; or out of memory.
abbrev pub MissesEvents : {G : Type 0} → (G → List Event → G → Type 0)
    → (G → Option Event → G → Type 0) → Limits → Machine → Reader → G → Fault → Reader → G → Type 0
MissesEvents gathered fails limits m a g (Refused reason bit) b h = StopsReading a b
    × GathersBefore gathered (TellsBytes a) (left_to_tell limits m a) (vec_len m.frames) g
    (at reason bit) h
MissesEvents gathered fails limits m a g Read b h = Loses a b
    × GathersFirst gathered fails (TellsBytes a) (left_to_tell limits m a) (vec_len m.frames) g h
MissesEvents gathered fails limits m a g Memory b h = StopsReading a b
    × GathersFirst gathered fails (TellsBytes a) (left_to_tell limits m a) (vec_len m.frames) g h
MissesEvents gathered fails limits m a g Failed b h = ⊥
MissesEvents gathered fails limits m a g Write b h = ⊥
MissesEvents gathered fails limits m a g OutputTooLong b h = ⊥

-- what is buffered was read and gathered, possibly nothing
abbrev pub TakesRun : {G : Type 0} → (G → List Event → G → Type 0)
    → (G → Option Event → G → Type 0) → Limits → Machine → Reader → G
    → Result (Unit {0}) Fault → Machine → Reader → G → Type 0
TakesRun gathered fails limits m a g (Ok _) n b h = GathersSome gathered limits m a g n b h
TakesRun gathered fails limits m a g (Err fault) n b h = MissesEvents gathered fails limits m a g
    fault b h

-- one more event was read and gathered, or none was left
abbrev pub TakesNext : {G : Type 0} → (G → List Event → G → Type 0)
    → (G → Option Event → G → Type 0) → Limits → Machine → Reader → G
    → Result Bool Fault → Machine → Reader → G → Type 0
TakesNext gathered fails limits m a g (Ok true) n b h = GathersSome gathered limits m a g n b h
    × (a.position < b.position)
TakesNext gathered fails limits m a g (Ok false) n b h = GathersAll gathered limits m a g n b h
TakesNext gathered fails limits m a g (Err fault) n b h = MissesEvents gathered fails limits m a g
    fault b h

abbrev pub TakesAll : {G : Type 0} → (G → List Event → G → Type 0)
    → (G → Option Event → G → Type 0) → Limits → Machine → Reader → G
    → Result (Unit {0}) Fault → Machine → Reader → G → Type 0
TakesAll gathered fails limits m a g (Ok _) n b h = GathersAll gathered limits m a g n b h
TakesAll gathered fails limits m a g (Err fault) n b h = MissesEvents gathered fails limits m a g
    fault b h

-- a call ran out of memory, unless its source failed
abbrev pub Lost : Reader → Fault → Reader → Type 0
Lost old Read new = Loses old new
Lost old Memory new = StopsReading old new
Lost old (Refused reason bit) new = ⊥
Lost old Failed new = ⊥
Lost old Write new = ⊥
Lost old OutputTooLong new = ⊥

-- ---- the rest of an input that is read event by event

-- all remaining events were gathered
pub record EndsGathered {G : Type 0} (gathered : G → List Event → G → Type 0) (old : Coming) (g : G)
    (new : Coming) (h : G) : Type 0 where
  pub events : List Event
  pub held_on : old.stage ≡ failed → ⊥
  pub ends : new.stage ≡ over
  pub pays : Pays old new
  pub head : new.head ≡ old.head
  pub none_open : new.depth ≡ 0
  pub told : TellsComing old → old.told ≡ (events, accepted new.position)
  pub over_told : new.told ≡ ([], accepted new.position)
  pub none : old.stage ≡ going → TellsComing old → known_bytes new.incoming.to_come ≡ []
  pub gathers : (first : G) (done : List Event) → gathered first done g
      → left_open done ≡ old.depth → gathered first (done ++ events) h

-- The effect of gathering the remaining events. After a refusal all those before its bit were gathered, and after another fault
-- the first of them. After an earlier fault nothing changes.
abbrev pub GathersRest : {G : Type 0} → (G → List Event → G → Type 0)
    → (G → Option Event → G → Type 0) → Coming → G → Result (Unit {0}) Fault → Coming → G → Type 0
GathersRest gathered fails old g (Ok _) new h = EndsGathered gathered old g new h
GathersRest gathered fails old g (Err (Refused reason bit)) new h = StopsEvents old new
    × GathersBefore gathered (TellsComing old) old.told old.depth g (at reason bit) h
GathersRest gathered fails old g (Err Read) new h = LosesEvents old new
    × GathersFirst gathered fails (TellsComing old) old.told old.depth g h
GathersRest gathered fails old g (Err Memory) new h = StopsEvents old new
    × GathersFirst gathered fails (TellsComing old) old.told old.depth g h
GathersRest gathered fails old g (Err Failed) new h = (old.stage ≡ failed) × (new ≡ old) × (h ≡ g)
GathersRest gathered fails old g (Err Write) new h = ⊥
GathersRest gathered fails old g (Err OutputTooLong) new h = ⊥

-- ---- a whole input

-- the bytes spell a marked tree with this head that ends before this bit, and its events were gathered
pub record Gathered {G : Type 0} (gathered : G → List Event → G → Type 0) (limits : Limits)
    (bytes : List ℕ) (first : G) (head : Head) (last : G) (after : ℕ) : Type 0 where
  pub capped : Capped limits
  pub marked : Marked
  pub spelled : SpellsInput limits bytes marked
  pub is_head : marked.head ≡ head
  pub is_after : marked.after ≡ after
  pub gathers : gathered first (flat marked.blocks []) last
