-- The model of an open block of the program.
use Rattle.std.specs.Prelude.{◌≡◌, ℕ, ◌^◌, List, [], ◌∷◌, Option, Some, None, nat_lt, if◌then◌else◌}
use Rattle.bit_grammar.specs.declared.op.Op.{Op}
use Rattle.bit_grammar.specs.Terms.{BlockInfo}
use Rattle.bit_grammar.specs.Blocks.{Handed, defined}
use Rattle.bit_grammar.specs.Machine.{scope_of}
use Rattle.bit_grammar.specs.Machine as machine
use Rattle.bit_abbrev.specs.Ready.{table_of}
use Rattle.bit_events.specs.HeadView.{head_shown}
use Rattle.bit_events.specs.declared.frame.Describing.{Describing}
use Rattle.bit_events.specs.declared.frame.Frame.{Frame}

abbrev pub describing_shown : Describing → BlockInfo
describing_shown d = record { described = d.described; made = table_of d.made.made }

abbrev pub info_shown : Option Describing → Option BlockInfo
info_shown None = None
info_shown (Some d) = Some (describing_shown d)

-- a value as a block id, if it is one
abbrev pub described_value : Option ℕ → Option ℕ
described_value None = None
described_value (Some id) = if nat_lt id (2 ^ 32) then Some id else None

-- the first value of a record as a block id, if there is one and it fits
abbrev pub described_id : List ℕ → Option ℕ
described_id [] = None
described_id (id ∷ values) = described_value (Some id)

abbrev pub frame_shown : Frame → machine.Frame
frame_shown f = record {
  head = head_shown f.head;
  definitions = f.definitions.all;
  info = info_shown f.info;
}

-- the last definition that a block made: its own, or in a BLOCKINFO block one of the table
abbrev pub newest_of : Option (List Op) → Option Describing → Option (List Op)
newest_of own None = own
newest_of own (Some d) = d.made.newest

abbrev pub newest_in : Frame → Option (List Op)
newest_in f = newest_of f.definitions.newest f.info

-- the same, if it is ready
abbrev pub ready_of : Option (List Op) → Option Describing → Option (List Op)
ready_of own None = own
ready_of own (Some d) = d.made.ready

abbrev pub ready_in : Frame → Option (List Op)
ready_in f = ready_of f.definitions.ready f.info

-- a definition was added, which is the last one
pub record AddsDefinition (old new : Frame) (ops : List Op) : Type 0 where
  pub made : (handed : Handed) → scope_of (frame_shown new) handed
      ≡ defined (info_shown old.info) ops (scope_of (frame_shown old) handed)
  pub last : newest_in new ≡ Some ops

-- ---- the open blocks

-- open blocks, the outermost first, within others
abbrev pub frames_onto : List Frame → List machine.Frame → List machine.Frame
frames_onto [] outer = outer
frames_onto (f ∷ frames) outer = frames_onto frames (frame_shown f ∷ outer)

-- open blocks, the outermost first, as a list with the innermost first
abbrev pub frames_shown : List Frame → List machine.Frame
frames_shown frames = frames_onto frames []
