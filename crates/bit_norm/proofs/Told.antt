-- The tree of the events of marks.
use Rattle.std.proofs.Common.{◌≡◌, ℕ, suc, List, [], ◌∷◌, refl, ◌∙◌}
use Rattle.bit_grammar.specs.Forest.{Forest, empty, a_block, a_record}
use Rattle.bit_grammar.specs.Machine.{Event, leaves, flat}
use Rattle.bit_grammar.specs.Marks.{Marks, no_marks, marked_block, marked_record, marked_definition, forest_of}
use Rattle.bit_norm.specs.Told.{told_at_level}

-- the forest of marks, before another
abbrev forest_then : Marks → Forest → Forest
forest_then no_marks rest = rest
forest_then (marked_block mark inner others) rest =
    a_block mark.id (forest_of inner) (forest_then others rest)
forest_then (marked_record mark others) rest = a_record mark.code mark.values (forest_then others rest)
forest_then (marked_definition mark others) rest = forest_then others rest

forest_then-empty : (m : Marks) → forest_then m empty ≡ forest_of m
forest_then-empty no_marks = refl
forest_then-empty (marked_block mark inner rest) = rw (forest_then-empty rest) refl
forest_then-empty (marked_record mark rest) = rw (forest_then-empty rest) refl
forest_then-empty (marked_definition mark rest) = forest_then-empty rest

told_above : (m : Marks) (following : List Event) (level : ℕ) → told_at_level (flat m following) (suc level) ≡ told_at_level following (suc level)
told_above no_marks following level = refl
told_above (marked_block mark inner rest) following level =
    told_above inner (leaves mark.after ∷ flat rest following) (suc level) ∙ told_above rest following level
told_above (marked_record mark rest) following level = told_above rest following level
told_above (marked_definition mark rest) following level = told_above rest following level

told_here : (m : Marks) (following : List Event) → told_at_level (flat m following) 0 ≡ forest_then m (told_at_level following 0)
told_here no_marks following = refl
told_here (marked_block mark inner rest) following =
    let inside : told_at_level (flat inner (leaves mark.after ∷ flat rest following)) 0 ≡ forest_of inner =
    told_here inner (leaves mark.after ∷ flat rest following) ∙ forest_then-empty inner in
    let behind : told_at_level (flat inner (leaves mark.after ∷ flat rest following)) 1 ≡ forest_then rest (told_at_level following 0) =
    told_above inner (leaves mark.after ∷ flat rest following) 0 ∙ told_here rest following in
    rw (inside, behind) refl
told_here (marked_record mark rest) following = rw (told_here rest following) refl
told_here (marked_definition mark rest) following = told_here rest following

-- the events of marks have the forest of the marks
pub told_flat : (m : Marks) → told_at_level (flat m []) 0 ≡ forest_of m
told_flat m = told_here m [] ∙ forest_then-empty m
