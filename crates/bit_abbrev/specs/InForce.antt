-- The definitions in force in a block.
use Rattle.std.specs.Prelude.{List, Option}
use Rattle.std.specs.Option.{option_map}
use Rattle.bit_grammar.specs.declared.op.Op.{Op}
use Rattle.bit_abbrev.specs.declared.finished.FinishedInfo.{FinishedInfo}
use Rattle.bit_abbrev.specs.declared.found.Found.{Found}
use Rattle.bit_abbrev.specs.declared.found.Found.TheVariants as found
use Rattle.bit_abbrev.specs.Ready.{InfoLists}

-- the definitions in force in a block, the last one that the block made, and the same if it is ready
pub record DefinitionsInForce : Type 0 where
  pub all : List (List Op)
  pub newest : Option (List Op)
  pub ready : Option (List Op)

-- those of a finished table
abbrev pub finished : FinishedInfo → InfoLists
finished table = record { ready = table.groups.items; later = table.later }

-- a definition that was found
abbrev pub found_ops : Found → List Op
found_ops (found.Ready ready) = ready.now
found_ops (found.Held held) = held

abbrev pub found_if_any : Option Found → Option (List Op)
found_if_any found = option_map found_ops found
