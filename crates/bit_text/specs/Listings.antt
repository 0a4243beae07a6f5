-- What the lines of a text spell together.
use Rattle.std.specs.Prelude.{ℕ, ◌+◌, ◌-◌, ◌/◌, ◌%◌, ◌^◌, ◌==◌, min, nat_lt, List, [], ◌∷◌, ◌++◌, length, replicate, Option, Some, None, Result, Ok, Err, if◌then◌else◌}
use Rattle.bit_grammar.specs.Blocks.{Limits}
use Rattle.bit_grammar.specs.Forest.{Tree, wrapper_magic}
use Rattle.bit_fields.specs.Opening.{magic_number}
use Rattle.bit_norm.specs.Telling.{Call, begins, holds, ends, Where, at_top, fits, where_after, tree_told}
use Rattle.bit_text.specs.declared.reason.TextReason.{TextReason}
use Rattle.bit_text.specs.declared.reason.TextReason.TheVariants.{NoMagic, WrapperMagic, BadIndentation, Misplaced, TooDeep, TooManyValues}
use Rattle.bit_text.specs.Numbers.{lines, and_then}
use Rattle.bit_text.specs.Lines.{spaces, content, is_free, magic_of, item_of}

-- before a line: no magic yet; or a magic, and the calls that the lines after it tell
pub data Standing : Type 0 where
  at_start : Standing
  behind_magic : (magic : List ℕ) → List Call → Standing

-- why a call does not fit
abbrev pub misfit : Limits → Where → Call → TextReason
misfit limits w (begins id) = if nat_lt w.depth limits.depth then Misplaced else TooDeep
misfit limits w (holds code values) = if nat_lt limits.values (w.values + length values)
    then TooManyValues else Misplaced
misfit limits w ends = Misplaced

-- the ends of the blocks that an item after so many spaces is not in
abbrev pub ends_before : Where → (spaces : ℕ) → List Call
ends_before w spaces = replicate (w.depth - spaces / 2) ends

-- these calls, if the last one fits after the others
abbrev pub if_last_fits : Limits → Where → (closing : List Call) → Call
    → Result (List Call) TextReason
if_last_fits limits w closing call = if fits limits (where_after closing w) call
    then Ok (closing ++ call ∷ []) else Err (misfit limits (where_after closing w) call)

-- the calls of an item after so many spaces: two for each block around it
abbrev pub item_calls : Limits → Where → (spaces : ℕ) → Call → Result (List Call) TextReason
item_calls limits w spaces call = if nat_lt w.depth (spaces / 2) then Err BadIndentation
    else (if spaces % 2 == 0 then if_last_fits limits w (ends_before w spaces) call
    else Err BadIndentation)

-- a listing begins with this magic
abbrev pub begun : Option (List ℕ) → Result Standing TextReason
begun None = Err NoMagic
begun (Some magic) = if magic_number magic == wrapper_magic then Err WrapperMagic
    else Ok (behind_magic magic [])

-- what a line that is not free adds
abbrev pub said : Limits → Standing → (line : List ℕ) → Result Standing TextReason
said limits at_start line = begun (magic_of line)
said limits (behind_magic magic calls) line = and_then (item_of (content line))
    (λ call. and_then (item_calls limits (where_after calls at_top) (spaces line) call)
    (λ more. Ok (behind_magic magic (calls ++ more))))

-- what a line adds
abbrev pub after_line : Limits → Standing → (line : List ℕ) → Result Standing TextReason
after_line limits now line = if is_free (content line) then Ok now else said limits now line

-- the tree that calls tell, if the blocks that are open after them end
abbrev pub told_all : (magic : List ℕ) → List Call → Tree
told_all magic calls = tree_told magic (calls ++ replicate (where_after calls at_top).depth ends)

-- the tree of a text that ends with the line of this number
abbrev pub at_end : (number : ℕ) → Standing → Result Tree (TextReason × ℕ)
at_end number at_start = Err (NoMagic, number)
at_end number (behind_magic magic calls) = Ok (told_all magic calls)

-- a line of this number was read, then others; or it is refused
abbrev pub goes_on : (number : ℕ) → Result Standing TextReason
    → (Standing → Result Tree (TextReason × ℕ)) → Result Tree (TextReason × ℕ)
goes_on number (Ok now) next = next now
goes_on number (Err reason) next = Err (reason, number)

-- the number of the line after the one of this number; the greatest one stays
abbrev pub next_line : ℕ → ℕ
next_line number = min (number + 1) (2 ^ 64 - 1)

-- what lines spell after those before them; or the first one that no listing has there
abbrev pub lines_read : Limits → (number : ℕ) → Standing → List (List ℕ)
    → Result Tree (TextReason × ℕ)
lines_read limits number now [] = at_end number now
lines_read limits number now (line ∷ lines) = goes_on (next_line number) (after_line limits now line)
    (λ later. lines_read limits (next_line number) later lines)

-- the tree that a text spells; or why it is no listing, and the number of the first line that no listing has there
abbrev pub reading_of : Limits → (text : List ℕ) → Result Tree (TextReason × ℕ)
reading_of limits text = lines_read limits 0 at_start (lines text)
