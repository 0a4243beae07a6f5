-- What a line of a listing says.
use Rattle.std.specs.Prelude.{ℕ, suc, ◌+◌, ◌*◌, ◌^◌, ◌==◌, nat_lt, Bool, true, ◌&&◌, ◌||◌, List, [], ◌∷◌, length, slice_index, drop, codes, Option, Some, None, Result, Ok, Err, if◌then◌else◌}
use Rattle.std.specs.Char.{digit_value}
use Rattle.bit_norm.specs.Telling.{Call, begins, holds}
use Rattle.bit_text.specs.declared.reason.TextReason.{TextReason}
use Rattle.bit_text.specs.declared.reason.TextReason.TheVariants.{BadLine, NumberTooLarge}
use Rattle.bit_text.specs.Numbers.{behind, and_then, words, numbers_after}

-- how many spaces are at the beginning of a line
abbrev pub spaces : List ℕ → ℕ
spaces [] = 0
spaces (b ∷ line) = if b == 32 then suc (spaces line) else 0

-- the line without them
abbrev pub content : List ℕ → List ℕ
content line = drop (spaces line) line

-- whether it says nothing: it is empty or a comment
abbrev pub is_free : (content : List ℕ) → Bool
is_free [] = true
is_free (b ∷ text) = b == 35

-- ---- the magic

-- one of 0 to 9 and a to f
abbrev pub is_low_digit : ℕ → Bool
is_low_digit b = nat_lt (digit_value b) 16 && (nat_lt b 65 || nat_lt 96 b)

-- the byte that two digits spell
abbrev pub byte_of : (high low : ℕ) → Option ℕ
byte_of high low = if is_low_digit high && is_low_digit low
    then Some (digit_value high * 16 + digit_value low) else None

abbrev pub four : (a b c d : Option ℕ) → Option (List ℕ)
four (Some a) (Some b) (Some c) (Some d) = Some (a ∷ b ∷ c ∷ d ∷ [])
four a b c d = None

-- the bytes that eight digits spell
abbrev pub four_bytes : Option (List ℕ) → Option (List ℕ)
four_bytes None = None
four_bytes (Some text) = if length text == 8 then four
    (byte_of (slice_index text 0) (slice_index text 1))
    (byte_of (slice_index text 2) (slice_index text 3))
    (byte_of (slice_index text 4) (slice_index text 5))
    (byte_of (slice_index text 6) (slice_index text 7)) else None

-- the magic of a line
abbrev pub magic_of : List ℕ → Option (List ℕ)
magic_of line = four_bytes (behind (codes "magic ") line)

-- ---- items

-- a record, by its numbers
abbrev pub record_of : List ℕ → Result Call TextReason
record_of [] = Err BadLine
record_of (code ∷ values) = Ok (holds code values)

-- a block, by its numbers
abbrev pub block_of : List ℕ → Result Call TextReason
block_of (id ∷ []) = if nat_lt id (2 ^ 32) then Ok (begins id) else Err NumberTooLarge
block_of numbers = Err BadLine

abbrev pub record_or_block : (numbers id : Option (List ℕ)) → Result Call TextReason
record_or_block (Some text) id = and_then (numbers_after [] (words text)) record_of
record_or_block None (Some text) = and_then (numbers_after [] (words text)) block_of
record_or_block None None = Err BadLine

-- the beginning of a block or the record that a line has after its spaces
abbrev pub item_of : List ℕ → Result Call TextReason
item_of content = record_or_block (behind (codes "record ") content) (behind (codes "block ") content)
