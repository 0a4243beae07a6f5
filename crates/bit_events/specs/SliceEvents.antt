-- The state of reading the events of a slice.
use Rattle.std.specs.Prelude.{◌≡◌, ◌-◌, ◌%◌, ◌≤◌, Bool, true, false, Option, vec_len, length}
use Rattle.bit_grammar.specs.Blocks.{Limits}
use Rattle.bit_fields.specs.Buffered.{BufferedBits, Sees, reader_further}
use Rattle.bit_fields.specs.Reader.{Reader, TellsBytes}
use Rattle.bit_events.specs.declared.machine.Step.{Step}
use Rattle.bit_events.specs.declared.machine.Machine.{Machine}
use Rattle.bit_events.specs.Events.{IsClosed}

-- the reader, once it has taken what was read from the buffer
abbrev pub reader_seen : Reader → BufferedBits → Reader
reader_seen r a = reader_further r (a.position - r.position)

-- The invariant between calls: at most as many blocks are open as the limit allows. A reader that has not failed, once it has caught
-- up, is after all events so far, and outside of all blocks at a whole byte, unless the rest was dropped.
pub record SeesEvents (is_over : Bool) (limits : Limits) (m : Machine) (found : Option Step)
    (r : Reader) (a : BufferedBits) : Type 0 where
  pub depth : vec_len m.frames ≤ limits.depth
  pub behind : r.live ≡ true → r.position ≤ a.position
  pub there : r.live ≡ true → TellsBytes r → a.position - r.position ≤ length r.left
  pub sees : r.live ≡ true → Sees (reader_seen r a) a
  pub aligned : is_over ≡ false → r.live ≡ true → vec_len m.frames ≡ 0 → a.position % 8 ≡ 0
  pub closed : is_over ≡ true → IsClosed m found
