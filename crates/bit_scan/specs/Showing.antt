-- What writing the listing of an input does.
use Rattle.std.specs.Prelude.{◌≡◌, ◌⊎◌, Result, Ok, Err}
use Rattle.bit_grammar.specs.Setting.{Setting}
use Rattle.bit_grammar.specs.Forest.{Tree}
use Rattle.bit_grammar.specs.Blocks.{Limits}
use Rattle.bit_grammar.specs.Texts.{listing_of}
use Rattle.bit_fields.specs.declared.fault.Fault.{Fault}
use Rattle.bit_fields.specs.declared.fault.Fault.TheVariants.{Refused, Read, Write, Memory, OutputTooLong, Failed}
use Rattle.bit_fields.specs.Devices.{Incoming, Outgoing}
use Rattle.bit_events.specs.Reading.{ReadsWhole}
use Rattle.bit_tree.specs.Reading.{HasFit}
use Rattle.bit_scan.specs.Written.{WritesText}

-- this tree of an input was kept under a setting, or the input was not read
abbrev pub ReadsLeft : Setting → Limits → Incoming → Result Tree Fault → Incoming → Type 0
ReadsLeft setting limits = ReadsWhole (HasFit setting limits) limits

-- an input was read, and this happened to the listing of its kept tree
abbrev pub ReadsAndLists : Setting → Limits → Incoming → Outgoing → Result (Unit {0}) Fault
    → Incoming → Outgoing → Type 0
ReadsAndLists setting limits i old answer now new = (tree : Tree)
    × ReadsLeft setting limits i (Ok tree) now × WritesText (listing_of tree) old answer new

-- an input was not read, and nothing was written
abbrev pub ListsNothing : Setting → Limits → Incoming → Outgoing → Fault → Incoming → Outgoing
    → Type 0
ListsNothing setting limits i old fault now new = ReadsLeft setting limits i (Err fault) now
    × (new ≡ old)

-- The sink took the listing of the kept tree of the input, or a prefix of it; or the input was not read, and the sink took
-- nothing.
abbrev pub Shows : Setting → Limits → Incoming → Outgoing → Result (Unit {0}) Fault → Incoming
    → Outgoing → Type 0
Shows setting limits i old (Ok _) now new = ReadsAndLists setting limits i old (Ok tt) now new
Shows setting limits i old (Err Write) now new = ReadsAndLists setting limits i old (Err Write) now
    new
Shows setting limits i old (Err Memory) now new = ListsNothing setting limits i old Memory now new
    ⊎ ReadsAndLists setting limits i old (Err Memory) now new
Shows setting limits i old (Err (Refused reason bit)) now new = ListsNothing setting limits i old
    (Refused reason bit) now new
Shows setting limits i old (Err Read) now new = ListsNothing setting limits i old Read now new
Shows setting limits i old (Err OutputTooLong) now new = ⊥
Shows setting limits i old (Err Failed) now new = ⊥
