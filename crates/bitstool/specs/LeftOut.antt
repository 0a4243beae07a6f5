-- The part of a tree that a command leaves out.
use Rattle.bit_grammar.specs.Setting.{Setting}
use Rattle.bitstool.specs.declared.task.LeftOut.{LeftOut}

-- as a setting
abbrev pub setting_for : LeftOut → Setting
setting_for left = record { blocks = left.blocks.items; records = left.records.items }
