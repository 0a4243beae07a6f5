-- The calls of a tree.
use Rattle.std.specs.Prelude.{List, ◌∷◌}
use Rattle.bit_grammar.specs.Forest.{Forest, empty, a_block, a_record}
use Rattle.bit_norm.specs.Telling.{Call, begins, holds, ends}

-- the calls that tell a forest, and those after it
abbrev pub calls_of : Forest → (after : List Call) → List Call
calls_of empty after = after
calls_of (a_block id inner others) after = begins id ∷ calls_of inner (ends ∷ calls_of others after)
calls_of (a_record code values others) after = holds code values ∷ calls_of others after
