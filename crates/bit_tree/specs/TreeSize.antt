-- How large trees are.
use Rattle.std.specs.Prelude.{ℕ, ◌+◌}
use Rattle.bit_grammar.specs.Forest.{Forest, empty, a_block, a_record}
use Rattle.bit_grammar.specs.Marks.{Marks, no_marks, marked_block, marked_record, marked_definition}

-- how many blocks and records there are, at every level
abbrev pub forest_size : Forest → ℕ
forest_size empty = 0
forest_size (a_block id inner rest) = forest_size inner + forest_size rest + 1
forest_size (a_record code values rest) = forest_size rest + 1

-- how many blocks, records and definitions there are, at every level
abbrev pub marks_size : Marks → ℕ
marks_size no_marks = 0
marks_size (marked_block mark inner rest) = marks_size inner + marks_size rest + 1
marks_size (marked_record mark rest) = marks_size rest + 1
marks_size (marked_definition mark rest) = marks_size rest + 1
