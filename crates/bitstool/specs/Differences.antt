-- The lines that report whether two inputs are the same, and where they first differ, as ASCII codes.
use Rattle.std.specs.Prelude.{ℕ, List, [], ◌++◌, Option, Some, None, codes, decimal, flat_map}
use Rattle.bit_grammar.specs.Texts.{magic_text}
use Rattle.bit_norm.specs.declared.differences.OpenBlock.{OpenBlock}
use Rattle.bit_norm.specs.declared.differences.ValueDifference.{ValueDifference}
use Rattle.bit_norm.specs.Entries.{Place, at_magic, at_item, What, the_magic, the_block, the_record, the_end, Standing, Seen}
use Rattle.bitstool.specs.declared.task.Explain.{Explain}
use Rattle.bitstool.specs.declared.task.Explain.TheVariants.{Word, Lines, Json}
use Rattle.bitstool.specs.JsonDifferences.{difference_json}

-- an open block
abbrev pub open_text : OpenBlock → List ℕ
open_text block = codes "block " ++ decimal block.id ++ codes " item " ++ decimal block.items
    ++ codes ", "

-- the open blocks from the outermost one, and the number of items before the place
abbrev pub place_text : Place → List ℕ
place_text at_magic = codes "magic"
place_text (at_item within items) = flat_map open_text within ++ (codes "item " ++ decimal items)

-- the item there
abbrev pub what_text : What → List ℕ
what_text (the_magic magic) = magic_text magic
what_text (the_block id) = codes "block " ++ decimal id
what_text (the_record code count) = codes "record " ++ decimal code ++ codes " count "
    ++ decimal count
what_text the_end = codes "end"

-- a value of a record, by its index
abbrev pub value_text : (index value : ℕ) → List ℕ
value_text index value = codes ", value " ++ decimal index ++ codes " is " ++ decimal value

-- the value of the first record, and of the second, if values differ
abbrev pub first_value : Option ValueDifference → List ℕ
first_value None = []
first_value (Some value) = value_text value.index value.first

abbrev pub second_value : Option ValueDifference → List ℕ
second_value None = []
second_value (Some value) = value_text value.index value.second

-- the line of one input, up to the value
abbrev pub standing_text : List ℕ → Standing → List ℕ
standing_text which standing = which ++ (codes " bit " ++ decimal standing.bit ++ codes ": ")
    ++ what_text standing.what

-- the lines: that they differ, the place, and the item there in each
abbrev pub difference_text : Seen → List ℕ
difference_text seen =
    codes "different\nat " ++ place_text seen.place ++ codes "\n"
    ++ standing_text (codes "first") seen.first ++ first_value seen.value ++ codes "\n"
    ++ standing_text (codes "second") seen.second ++ second_value seen.value ++ codes "\n"

-- the report on two inputs that differ: a word; or, explained, lines of text, or a line of JSON
abbrev pub different_text : Explain → Seen → List ℕ
different_text Word seen = codes "different\n"
different_text Lines seen = difference_text seen
different_text Json seen = difference_json seen

-- and on two that do not: a word, or a line of JSON
abbrev pub same_text : Explain → List ℕ
same_text Word = codes "same\n"
same_text Lines = codes "same\n"
same_text Json = codes "{\"kind\":\"same\"}\n"
