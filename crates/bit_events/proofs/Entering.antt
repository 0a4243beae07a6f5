-- Entering a block and leaving it.
use Rattle.std.proofs.Common.{◌≡◌, ℕ, List, [], ◌∷◌, ◌++◌, Option, refl}
use Rattle.bit_grammar.specs.Blocks.{enter}
use Rattle.bit_grammar.specs.Terms.{info_for}
use Rattle.bit_grammar.specs.Machine as machine
use Rattle.bit_grammar.specs.Machine.{inside}
use Rattle.bit_abbrev.specs.InForce.{DefinitionsInForce}
use Rattle.bit_abbrev.specs.Ready.{InfoLists, table_of}
use Rattle.bit_events.specs.declared.head.BlockHead.{BlockHead}
use Rattle.bit_events.specs.declared.frame.Describing.{Describing}
use Rattle.bit_events.specs.declared.frame.Frame.{Frame}
use Rattle.bit_events.specs.HeadView.{head_shown}
use Rattle.bit_events.specs.FrameView.{info_shown, frames_shown}
use Rattle.bit_events.proofs.Stepping.{frames-push}

abbrev machine_with : List Frame → InfoLists → ℕ → machine.Machine
machine_with frames table used = record { frames = frames_shown frames; handed = record { table = table_of table; used = used } }

-- a block is open
pub entered : (frames : List Frame) (head : BlockHead) (definitions : DefinitionsInForce) (info : Option Describing) (table : InfoLists) (used : ℕ) → definitions.all ≡ table_of table head.id → info_shown info ≡ info_for head.id → machine_with (frames ++ record { head = head; definitions = definitions; info = info } ∷ []) table used ≡ inside (head_shown head) (frames_shown frames) (enter head.id (record { table = table_of table; used = used }))
entered frames head definitions info table used is described = rw (frames-push, is, described) refl
