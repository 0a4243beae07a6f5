-- The events of a whole input, also of one that breaks.
-- This project's own.
use Rattle.std.specs.Prelude.{◌≡◌, ℕ, ◌+◌, ◌*◌, Bool, false, List, ◌++◌, length, take, Some, None}
use Rattle.bit_grammar.specs.Grammar.{Spells}
use Rattle.bit_grammar.specs.Fields.{fixed}
use Rattle.bit_grammar.specs.Forest.{wrapper_magic}
use Rattle.bit_grammar.specs.Blocks.{Limits}
use Rattle.bit_grammar.specs.Input.{wrapper_and_gap, inner_magic, is_wrapped, front_of}
use Rattle.bit_grammar.specs.Terms.{Wrapper, Head}
use Rattle.bit_grammar.specs.Machine.{Event, Ending, at_start}
use Rattle.bit_grammar.specs.Steps.{Steps}

-- These bits begin with a head: the magic alone, or the wrapper's, the rest of its header, the gap, and the stream's; r is the rest
-- of the stream after it, from position p on.
pub data Heads (bits : List Bool) (head : Head) (p : ℕ) (r : List Bool) : Type 0 where
  bare : (magic : List Bool) → bits ≡ magic ++ r → Spells (fixed 32) 0 magic head.magic
      → is_wrapped head.magic ≡ false → head.wrapper ≡ None → p ≡ length magic → Heads bits head p r
  in_wrapper : (w : Wrapper) (front header rest magic : List Bool)
      → bits ≡ front ++ (header ++ rest) → Spells (fixed 32) 0 front wrapper_magic
      → Spells wrapper_and_gap (length front) header w
      → take (8 * w.size) rest ≡ magic ++ r → Spells inner_magic (length front + length header)
      magic head.magic → head.wrapper ≡ Some w → p ≡ length front + length header + length magic
      → Heads bits head p r

-- the events of a stream with this head in these bits: those of its steps, whatever ends them
abbrev pub EventsIn : Limits → List Bool → Head → List Event → Type 0
EventsIn limits bits head events = (p : ℕ) × (r : List Bool) × (ending : Ending)
    × Heads bits head p r × Steps limits at_start p r events ending

-- the events of an input within the limit on bytes
abbrev pub HasEvents : Limits → List ℕ → Head → List Event → Type 0
HasEvents limits bytes head events = EventsIn limits (front_of limits bytes) head events
