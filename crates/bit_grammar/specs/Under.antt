-- Trees and events under a setting: which of their parts are kept. Source: this project's own.
use Rattle.std.specs.Prelude.{◌≡◌, ℕ, Bool, true, ◌&&◌, List, [], ◌∷◌, if◌then◌else◌}
use Rattle.std.specs.List.{list_all}
use Rattle.bit_grammar.specs.Setting.{Setting, keeps, keeps_record}
use Rattle.bit_grammar.specs.Forest.{Forest, empty, a_block, a_record, Tree}
use Rattle.bit_grammar.specs.Marks.{Marks, no_marks, marked_block, marked_record, marked_definition}
use Rattle.bit_grammar.specs.Machine.{Event, enters, defines, notes, leaves}

-- ---- trees

-- the kept items of a block with this id; at the top, where there are only blocks, the id is 0
abbrev pub items_under : Setting → (around : ℕ) → Forest → Forest
items_under setting around empty = empty
items_under setting around (a_block id inner rest) =
    if keeps setting id then a_block id (items_under setting id inner)
    (items_under setting around rest) else items_under setting around rest
items_under setting around (a_record code values rest) =
    if keeps_record setting around code then a_record code values (items_under setting around rest)
    else items_under setting around rest

-- a tree under a setting
abbrev pub under : Setting → Tree → Tree
under setting tree = record tree { blocks = items_under setting 0 tree.blocks }

-- the kept marks in a block with this id: those of kept items, and of the definitions beside them
abbrev pub marks_under : Setting → (around : ℕ) → Marks → Marks
marks_under setting around no_marks = no_marks
marks_under setting around (marked_block mark inner rest) =
    if keeps setting mark.id then marked_block mark (marks_under setting mark.id inner)
    (marks_under setting around rest) else marks_under setting around rest
marks_under setting around (marked_record mark rest) =
    if keeps_record setting around mark.code then marked_record mark
    (marks_under setting around rest) else marks_under setting around rest
marks_under setting around (marked_definition mark rest) = marked_definition mark
    (marks_under setting around rest)

-- no item of a block with this id is named, at any depth
abbrev pub HasNoneNamed : Setting → (around : ℕ) → Forest → Type 0
HasNoneNamed setting around empty = Unit {0}
HasNoneNamed setting around (a_block id inner rest) = (keeps setting id ≡ true)
    × HasNoneNamed setting id inner × HasNoneNamed setting around rest
HasNoneNamed setting around (a_record code values rest) = (keeps_record setting around code ≡ true)
    × HasNoneNamed setting around rest

-- ---- events

-- the ids of the open blocks, the innermost first, after an event
abbrev pub ids_after : Event → List ℕ → List ℕ
ids_after (enters o) ids = o.id ∷ ids
ids_after (defines mark) ids = ids
ids_after (notes mark) ids = ids
ids_after (leaves after) [] = []
ids_after (leaves after) (id ∷ ids) = ids

-- the same after events in order
abbrev pub ids_behind : List Event → List ℕ → List ℕ
ids_behind [] ids = ids
ids_behind (event ∷ events) ids = ids_behind events (ids_after event ids)

-- the id of the innermost open block, and 0 if none is open
abbrev pub innermost : List ℕ → ℕ
innermost [] = 0
innermost (id ∷ ids) = id

-- whether an event is kept with these blocks open before it: each of them is kept, and the block or record too
abbrev pub is_left : Setting → (ids : List ℕ) → Event → Bool
is_left setting ids (enters o) = list_all (keeps setting) (o.id ∷ ids)
is_left setting ids (defines mark) = list_all (keeps setting) ids
is_left setting ids (notes mark) = list_all (keeps setting) ids
    && keeps_record setting (innermost ids) mark.code
is_left setting ids (leaves after) = list_all (keeps setting) ids

-- the kept events in order, with these blocks open before the first
abbrev pub events_under : Setting → (ids : List ℕ) → List Event → List Event
events_under setting ids [] = []
events_under setting ids (event ∷ events) = (let others = events_under setting (ids_after event ids)
    events in if is_left setting ids event then event ∷ others else others)
