-- How far the first events of a stream reach, and the first events of two streams that begin with the same bytes. This project's own.
use Rattle.std.specs.Prelude.{◌≡◌, ℕ, ◌<◌, ◌≤◌, Bool, true, List, [], ◌∷◌, ◌++◌}
use Rattle.bit_grammar.specs.Machine.{Event, enters, defines, notes, leaves}

-- the bit after an event; of a block's beginning, the bit where its items begin
abbrev pub ends_at : Event → ℕ
ends_at (enters o) = o.body
ends_at (defines mark) = mark.after
ends_at (notes mark) = mark.after
ends_at (leaves after) = after

-- each of them ends at this bit or before it
abbrev pub EndWithin : (bit : ℕ) → List Event → Type 0
EndWithin bit [] = Unit {0}
EndWithin bit (event ∷ events) = (ends_at event ≤ bit) × EndWithin bit events

-- What an input with the events `first` has in common with one that has `events`, if both have the same bytes up to a bit: the events
-- that end there. If these are all bytes of it (`whole`) and a later event of the other one ends behind the bit, it has no others.
pub record SharesFront (whole : Bool) (bit : ℕ) (first events : List Event) : Type 0 where
  pub same : (front rest : List Event) → events ≡ front ++ rest → EndWithin bit front
      → (others : List Event) × (first ≡ front ++ others)
  pub all : whole ≡ true → (front : List Event) (event : Event) (rest : List Event)
      → events ≡ front ++ event ∷ rest → EndWithin bit front → bit < ends_at event → first ≡ front
