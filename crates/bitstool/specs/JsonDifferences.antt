-- The line of JSON that reports whether two inputs are the same, and where they first differ, as ASCII codes.
use Rattle.std.specs.Prelude.{◌⊎◌, ℕ, ◌<◌, List, [], ◌∷◌, ◌++◌, Option, Some, None, codes, flat_map}
use Rattle.std.specs.List.{AllByRecursion}
use Rattle.bit_grammar.specs.Texts.{hex_text, magic_bytes}
use Rattle.bit_norm.specs.declared.differences.OpenBlock.{OpenBlock}
use Rattle.bit_norm.specs.declared.differences.ValueDifference.{ValueDifference}
use Rattle.bit_norm.specs.Entries.{Place, at_magic, at_item, What, the_magic, the_block, the_record, the_end, Seen}
use Rattle.bit_scan.specs.Json.{field_json, object, object_front, text_part}
use Rattle.bit_scan.specs.ObjectLines.{IsLineOf, IsLineValue, IsObject, IsSimple}

-- an open block, with a comma after it
abbrev pub open_json : OpenBlock → List ℕ
open_json block = object (codes "block")
    ((codes "id", block.id) ∷ (codes "item", block.items) ∷ []) ++ codes ","

-- the open blocks from the outermost one, and the number of items before the place
abbrev pub place_json : Place → List ℕ
place_json at_magic = object (codes "magic") []
place_json (at_item within items) = flat_map open_json within
    ++ object (codes "item") ((codes "item", items) ∷ [])

-- the item there, at a bit, up to the end of the object
abbrev pub what_json : (bit : ℕ) → What → List ℕ
what_json bit (the_magic magic) = text_part (codes "magic") ((codes "bit", bit) ∷ [])
    (codes "magic") (flat_map hex_text (magic_bytes magic))
what_json bit (the_block id) = object_front (codes "block")
    ((codes "bit", bit) ∷ (codes "id", id) ∷ [])
what_json bit (the_record code count) = object_front (codes "record")
    ((codes "bit", bit) ∷ (codes "code", code) ∷ (codes "count", count) ∷ [])
what_json bit the_end = object_front (codes "end") ((codes "bit", bit) ∷ [])

-- a value of a record, by its index
abbrev pub value_json : (index value : ℕ) → List ℕ
value_json index value = flat_map field_json
    ((codes "index", index) ∷ (codes "value", value) ∷ [])

-- the value of the first record, and of the second, if values differ
abbrev pub first_json : Option ValueDifference → List ℕ
first_json None = []
first_json (Some value) = value_json value.index value.first

abbrev pub second_json : Option ValueDifference → List ℕ
second_json None = []
second_json (Some value) = value_json value.index value.second

-- the line: that they differ, the place, and the item there in each
abbrev pub difference_json : Seen → List ℕ
difference_json seen =
    codes "{\"kind\":\"different\",\"at\":[" ++ place_json seen.place
    ++ codes "],\"first\":" ++ what_json seen.first.bit seen.first.what ++ first_json seen.value
    ++ codes "},\"second\":" ++ what_json seen.second.bit seen.second.what
    ++ second_json seen.value ++ codes "}}\n"

-- ---- the grammar of the line

-- one object; its values are those of other lines, or objects of strings and numbers
abbrev pub IsDifferenceLine : (bound : ℕ) → List ℕ → Type 0
IsDifferenceLine bound line = IsLineOf (λ text. IsLineValue bound text
    ⊎ IsObject (IsSimple bound) text) line

-- each number of a report is below the bound
pub record BlockFits (bound : ℕ) (block : OpenBlock) : Type 0 where
  pub id : block.id < bound
  pub items : block.items < bound

abbrev pub PlaceFits : (bound : ℕ) → Place → Type 0
PlaceFits bound at_magic = Unit {0}
PlaceFits bound (at_item within items) = AllByRecursion (BlockFits bound) within
    × (items < bound)

abbrev pub WhatFits : (bound : ℕ) → What → Type 0
WhatFits bound (the_magic magic) = Unit {0}
WhatFits bound (the_block id) = id < bound
WhatFits bound (the_record code count) = (code < bound) × (count < bound)
WhatFits bound the_end = Unit {0}

abbrev pub ValueFits : (bound : ℕ) → Option ValueDifference → Type 0
ValueFits bound None = Unit {0}
ValueFits bound (Some value) = (value.index < bound) × (value.first < bound)
    × (value.second < bound)

pub record SeenFits (bound : ℕ) (seen : Seen) : Type 0 where
  pub place : PlaceFits bound seen.place
  pub first_bit : seen.first.bit < bound
  pub first : WhatFits bound seen.first.what
  pub second_bit : seen.second.bit < bound
  pub second : WhatFits bound seen.second.what
  pub value : ValueFits bound seen.value
