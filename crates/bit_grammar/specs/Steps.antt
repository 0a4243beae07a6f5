-- The remaining events of a stream, step by step; and what is true of them: they are well nested, with the values of their records.
-- This project's own.
use Rattle.std.specs.Prelude.{◌≡◌, ℕ, suc, ◌+◌, ◌-◌, ◌<◌, ◌≤◌, Bool, List, [], ◌∷◌, ◌++◌, length}
use Rattle.bit_grammar.specs.Grammar.{Spells, Stops}
use Rattle.bit_grammar.specs.Blocks.{Limits}
use Rattle.bit_grammar.specs.Machine.{Event, enters, defines, notes, leaves, Frame, Machine, step, Ending, accepted, broke}

-- the ids of each open block have a width
abbrev pub AreWide : List Frame → Type 0
AreWide [] = Unit {0}
AreWide (f ∷ frames) = (1 ≤ f.head.width) × AreWide frames

-- no block is open, and no bit is left
abbrev pub IsOver : Machine → List Bool → Type 0
IsOver m r = (m.frames ≡ []) × (r ≡ [])

-- The events end at position p: all is over, and accepted; or it isn't over, and in r, which is the rest of the stream, the next
-- step breaks with the fault.
abbrev pub EndsThere : Limits → Machine → ℕ → List Bool → Ending → Type 0
EndsThere limits m p r (accepted q) = IsOver m r × (q ≡ p)
EndsThere limits m p r (broke fault) = (IsOver m r → ⊥) × Stops (step limits m) p r fault

-- The bits r, which are the rest of the stream from position p on, are steps of the machine, each of some bits, with these events;
-- and after the last step, such an end.
abbrev pub Steps : Limits → Machine → ℕ → List Bool → List Event → Ending → Type 0
Steps limits m p r [] ending = EndsThere limits m p r ending
Steps limits m p r (event ∷ events) ending = (first others : List Bool) × (new : Machine)
    × (r ≡ first ++ others) × (0 < length first) × Spells (step limits m) p first (event, new)
    × Steps limits new (p + length first) others events ending

-- the bits s, from position p on, are steps of the machine, each of some bits, with these events, and lead to another machine
abbrev pub Leads : Limits → Machine → ℕ → List Bool → List Event → Machine → Type 0
Leads limits m p s [] new = (s ≡ []) × (new ≡ m)
Leads limits m p s (event ∷ events) new = (first others : List Bool) × (mid : Machine)
    × (s ≡ first ++ others) × (0 < length first) × Spells (step limits m) p first (event, mid)
    × Leads limits mid (p + length first) others events new

-- ---- open blocks

-- how many blocks are open after an event, with this many before it
abbrev pub open_after : Event → ℕ → ℕ
open_after (enters o) count = suc count
open_after (defines mark) count = count
open_after (notes mark) count = count
open_after (leaves after) count = count - 1

-- an event is allowed with `count` blocks open, nested at most `deepest` deep
abbrev pub MayStand : (deepest : ℕ) → Event → (count : ℕ) → Type 0
MayStand deepest (enters o) count = count < deepest
MayStand deepest (defines mark) count = 0 < count
MayStand deepest (notes mark) count = 0 < count
MayStand deepest (leaves after) count = 0 < count

-- events with `count` blocks open before them and `left` after them: nested at most `deepest` deep, items only in a block, and an
-- end only of an open block
abbrev pub IsNested : (deepest count : ℕ) → List Event → (left : ℕ) → Type 0
IsNested deepest count [] left = left ≡ count
IsNested deepest count (event ∷ events) left = MayStand deepest event count
    × IsNested deepest (open_after event count) events left

-- Such a run and its end: no block is open at the end if the stream is accepted.
abbrev pub EndsNested : (deepest count : ℕ) → List Event → Ending → Type 0
EndsNested deepest count events (accepted q) = IsNested deepest count events 0
EndsNested deepest count events (broke fault) = (left : ℕ) × (left ≤ deepest)
    × IsNested deepest count events left

-- ---- values

-- how many values the record of an event has
abbrev pub values_told : Event → ℕ
values_told (enters o) = 0
values_told (defines mark) = 0
values_told (notes mark) = length mark.values
values_told (leaves after) = 0

-- how many values all records have
abbrev pub all_values_told : List Event → ℕ
all_values_told [] = 0
all_values_told (event ∷ events) = values_told event + all_values_told events
