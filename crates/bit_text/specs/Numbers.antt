-- The parts of a text, and the numbers in it.
use Rattle.std.specs.Prelude.{ℕ, ◌+◌, ◌*◌, ◌^◌, ◌==◌, nat_lt, List, [], ◌∷◌, ◌++◌, codes, Option, Some, None, Result, Ok, Err, if◌then◌else◌}
use Rattle.std.specs.Char.{digit_value}
use Rattle.bit_text.specs.declared.reason.TextReason.{TextReason}
use Rattle.bit_text.specs.declared.reason.TextReason.TheVariants.{BadLine, NumberTooLarge}

-- what a text has between separators, after the front of its first part
abbrev pub parts_after : (separator : ℕ) → (front : List ℕ) → List ℕ → List (List ℕ)
parts_after separator front [] = front ∷ []
parts_after separator front (b ∷ text) = if b == separator then front ∷ parts_after separator [] text
    else parts_after separator (front ++ b ∷ []) text

-- the lines of a text; the last one has no line feed
abbrev pub lines : List ℕ → List (List ℕ)
lines text = parts_after 10 [] text

-- the words of a line, one space between them
abbrev pub words : List ℕ → List (List ℕ)
words text = parts_after 32 [] text

-- what comes after this front, if a text begins with it
abbrev pub behind : (front text : List ℕ) → Option (List ℕ)
behind [] text = Some text
behind (c ∷ front) [] = None
behind (c ∷ front) (b ∷ text) = if b == c then behind front text else None

-- a result, then what is made of it
abbrev pub and_then : {A B : Type 0} → Result A TextReason → (A → Result B TextReason)
    → Result B TextReason
and_then (Ok a) next = next a
and_then (Err reason) next = Err reason

-- the number that digits spell in a base after those of n
abbrev pub digits_after : (base n : ℕ) → List ℕ → Result ℕ TextReason
digits_after base n [] = Ok n
digits_after base n (b ∷ digits) = if nat_lt (digit_value b) base then (if nat_lt
    (n * base + digit_value b) (2 ^ 64) then digits_after base (n * base + digit_value b) digits
    else Err NumberTooLarge) else Err BadLine

-- the number that digits spell in a base, at least one
abbrev pub digits : (base : ℕ) → List ℕ → Result ℕ TextReason
digits base [] = Err BadLine
digits base (b ∷ text) = digits_after base 0 (b ∷ text)

abbrev pub hexadecimal_or_decimal : Option (List ℕ) → List ℕ → Result ℕ TextReason
hexadecimal_or_decimal (Some text) word = digits 16 text
hexadecimal_or_decimal None word = digits 10 word

-- the number that a word spells: hexadecimal after `0x`, else decimal
abbrev pub number : List ℕ → Result ℕ TextReason
number word = hexadecimal_or_decimal (behind (codes "0x") word) word

-- the numbers of words, after those before them
abbrev pub numbers_after : List ℕ → List (List ℕ) → Result (List ℕ) TextReason
numbers_after before [] = Ok before
numbers_after before (word ∷ words) = and_then (number word)
    (λ n. numbers_after (before ++ n ∷ []) words)
