-- The tree of events.
use Rattle.std.specs.Prelude.{ℕ, zero, suc, List, [], ◌∷◌}
use Rattle.bit_grammar.specs.Forest.{Forest, empty, a_block, a_record}
use Rattle.bit_grammar.specs.Machine.{Event, enters, defines, notes, leaves}

-- the items of events in the blocks that are open before them: in the innermost (level 0), in the one around it (level 1), and so
-- on
abbrev pub told_at_level : List Event → (level : ℕ) → Forest
told_at_level [] level = empty
told_at_level (enters opened ∷ events) zero = a_block opened.id (told_at_level events 0)
    (told_at_level events 1)
told_at_level (enters opened ∷ events) (suc level) = told_at_level events (suc (suc level))
told_at_level (defines mark ∷ events) level = told_at_level events level
told_at_level (notes mark ∷ events) zero = a_record mark.code mark.values (told_at_level events 0)
told_at_level (notes mark ∷ events) (suc level) = told_at_level events (suc level)
told_at_level (leaves after ∷ events) zero = empty
told_at_level (leaves after ∷ events) (suc level) = told_at_level events level
