-- Worked texts, by hand from docs/FORMAT.md.
use Rattle.std.proofs.Common.{◌≡◌, refl, ℕ, List, [], ◌∷◌, ◌++◌, Result, Ok, Err, arith}
use Rattle.std.specs.Prelude.{codes, flat_map}
use Rattle.bit_grammar.specs.Blocks.{Limits}
use Rattle.bit_grammar.specs.Forest.{Forest, empty, a_block, a_record, Tree}
use Rattle.bit_grammar.specs.FormatListing.{Item, of_block, of_record, Entry}
use Rattle.bit_grammar.specs.Normal.{Capped}
use Rattle.bit_grammar.specs.declared.shapes.Shapes.TheVariants.{AtDefinition}
use Rattle.bit_text.specs.declared.reason.TextReason.{TextReason}
use Rattle.bit_text.specs.declared.reason.TextReason.TheVariants.{NoMagic, WrapperMagic, BadLine, NumberTooLarge, BadIndentation, TooDeep, TooManyValues, Misplaced}
use Rattle.bit_text.specs.Numbers.{number}
use Rattle.bit_text.specs.Entries.{entries_of, Lists}
use Rattle.bit_text.specs.Listings.{reading_of}
use Rattle.bit_text.specs.Refusals.{blocks_open}
use Rattle.bit_text.proofs.InWords.{text_lists}
use Rattle.bit_text.proofs.Spelled.{listed_read}

-- lines, each with its line feed
abbrev text : List (List ℕ) → List ℕ
text lines = flat_map (λ line. line ++ 10 ∷ []) lines

-- at most two blocks around one another, and three values
abbrev few : Limits
few = record { bytes = 100; depth = 2; values = 3; shapes = AtDefinition }

-- the tree of the usual magic and these blocks
abbrev usual : Forest → Tree
usual blocks = record { magic = 0xDEC04342; blocks = blocks }

capped : Capped few
capped = record { bytes = omega arith; depth = omega arith; values = omega arith }

abbrev entry : ℕ → Item → Entry
entry around item = record { around = around; item = item }

abbrev first_lines : List (List ℕ)
first_lines = codes "# x" ∷ codes "magic 4243c0de" ∷ codes "block 8" ∷ []

-- what a text with these lines after the first ones is read as
abbrev read : List (List ℕ) → Result Tree (TextReason × ℕ)
read lines = reading_of few (text (first_lines ++ lines))

-- ---- numbers

decimal_number : number (codes "0018446744073709551615") ≡ Ok 0xFFFFFFFFFFFFFFFF
decimal_number = refl

hexadecimal_number : number (codes "0x1eF") ≡ Ok 495
hexadecimal_number = refl

too_large : number (codes "18446744073709551616") ≡ Err NumberTooLarge
too_large = refl

no_digits : number (codes "0x") ≡ Err BadLine
no_digits = refl

no_number : number [] ≡ Err BadLine
no_number = refl

other_digit : number (codes "1f") ≡ Err BadLine
other_digit = refl

-- ---- trees

no_items : read [] ≡ Ok (usual (a_block 8 empty empty))
no_items = refl

one_record : read (codes "  record 1 30" ∷ []) ≡ Ok (usual (a_block 8 (a_record 1 (30 ∷ []) empty) empty))
one_record = refl

-- an item further out ends the blocks that it is not in
nested : read (codes "  block 0" ∷ codes "    record 1 7" ∷ [] ∷ codes "  record 2" ∷ codes "   #" ∷ codes "block 0x8" ∷ [])
    ≡ Ok (usual (a_block 8 (a_block 0 (a_record 1 (7 ∷ []) empty) (a_record 2 [] empty)) (a_block 8 empty empty)))
nested = refl

-- the last line needs no line feed
unended : reading_of few (codes "magic 4243c0de") ≡ Ok (usual empty)
unended = refl

-- the items of a tree, each with the blocks around it
items : entries_of 0 (a_block 8 (a_block 0 (a_record 1 (7 ∷ []) empty) (a_record 2 [] empty)) (a_block 8 empty empty))
    ≡ entry 0 (of_block 8) ∷ entry 1 (of_block 0) ∷ entry 2 (of_record 1 (7 ∷ [])) ∷ entry 1 (of_record 2 []) ∷ entry 0 (of_block 8) ∷ []
items = refl

-- a record leaves the blocks open that are around it
after_items : blocks_open 0 (entry 0 (of_block 8) ∷ entry 1 (of_block 0) ∷ entry 2 (of_record 1 (7 ∷ [])) ∷ entry 1 (of_record 2 []) ∷ []) ≡ 1
after_items = refl

-- comments and other spellings are listings of the same tree
listed : Lists few (text (codes "#" ∷ codes "magic 4243c0de" ∷ codes "   # x" ∷ codes "block 0x08" ∷ [])) (usual (a_block 8 empty empty))
listed = text_lists few (text (codes "#" ∷ codes "magic 4243c0de" ∷ codes "   # x" ∷ codes "block 0x08" ∷ [])) (usual (a_block 8 empty empty)) capped refl

-- a text that is refused lists nothing: in more blocks than are open, with an odd number of spaces, outside all blocks
refused_lists_none : (lines : List (List ℕ)) (refusal : TextReason × ℕ) (tree : Tree) → read lines ≡ Err refusal → Lists few (text (first_lines ++ lines)) tree → ⊥
refused_lists_none lines refusal tree refused lists = let spelled = listed_read few (text (first_lines ++ lines)) tree lists in absurd cc

too_far_lists_none : (tree : Tree) → Lists few (text (first_lines ++ codes "    record 1" ∷ [])) tree → ⊥
too_far_lists_none tree = refused_lists_none (codes "    record 1" ∷ []) (BadIndentation, 4) tree refl

odd_lists_none : (tree : Tree) → Lists few (text (first_lines ++ codes "   record 1" ∷ [])) tree → ⊥
odd_lists_none tree = refused_lists_none (codes "   record 1" ∷ []) (BadIndentation, 4) tree refl

outside_lists_none : (tree : Tree) → Lists few (text (first_lines ++ codes "record 1" ∷ [])) tree → ⊥
outside_lists_none tree = refused_lists_none (codes "record 1" ∷ []) (Misplaced, 4) tree refl

-- ---- refusals

nothing : reading_of few [] ≡ Err (NoMagic, 1)
nothing = refl

only_free : reading_of few (text ([] ∷ codes " # x" ∷ [])) ≡ Err (NoMagic, 3)
only_free = refl

lone_feed : reading_of few (10 ∷ []) ≡ Err (NoMagic, 2)
lone_feed = refl

block_first : reading_of few (text ([] ∷ codes "block 8" ∷ [])) ≡ Err (NoMagic, 2)
block_first = refl

capital_magic : reading_of few (text (codes "magic 4243C0DE" ∷ [])) ≡ Err (NoMagic, 1)
capital_magic = refl

wrapper : reading_of few (text (codes "magic dec0170b" ∷ [])) ≡ Err (WrapperMagic, 1)
wrapper = refl

second_magic : read (codes "magic 4243c0de" ∷ []) ≡ Err (BadLine, 4)
second_magic = refl

second_of_wrapper : read (codes "magic dec0170b" ∷ []) ≡ Err (BadLine, 4)
second_of_wrapper = refl

-- the word, the numbers and their count come before the indentation
other_word : read (codes " blocks 1" ∷ []) ≡ Err (BadLine, 4)
other_word = refl

odd_pair : read (codes " block 1 2" ∷ []) ≡ Err (BadLine, 4)
odd_pair = refl

-- a number is judged digit by digit, a block id of 2^32 after the count
large_pair : read (codes "  block 4294967296 1" ∷ []) ≡ Err (BadLine, 4)
large_pair = refl

long_then_other : read (codes "  block 18446744073709551616x" ∷ []) ≡ Err (NumberTooLarge, 4)
long_then_other = refl

other_then_long : read (codes "  record x 18446744073709551616" ∷ []) ≡ Err (BadLine, 4)
other_then_long = refl

two_spaces : read (codes "  record 1  2" ∷ []) ≡ Err (BadLine, 4)
two_spaces = refl

two_ids : read (codes "  block 1 2" ∷ []) ≡ Err (BadLine, 4)
two_ids = refl

large_id : read (codes "  block 4294967296" ∷ []) ≡ Err (NumberTooLarge, 4)
large_id = refl

odd : read (codes " record 1" ∷ []) ≡ Err (BadIndentation, 4)
odd = refl

too_far : read (codes "    record 1" ∷ []) ≡ Err (BadIndentation, 4)
too_far = refl

deep : read (codes "  block 1" ∷ codes "    block 1" ∷ []) ≡ Err (TooDeep, 5)
deep = refl

many : read (codes "  record 1 1 2" ∷ codes "  record 1 3 4" ∷ []) ≡ Err (TooManyValues, 5)
many = refl

outside : read (codes "record 1" ∷ []) ≡ Err (Misplaced, 4)
outside = refl

no_set_bid : read (codes "  block 0" ∷ codes "    record 2" ∷ []) ≡ Err (Misplaced, 5)
no_set_bid = refl
