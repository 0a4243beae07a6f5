-- Numbers that are too large.
use Rattle.std.proofs.Common.{◌≡◌, refl, ℕ, ◌+◌, ◌*◌, ◌^◌, ◌<◌, ◌≤◌, Bool, true, false, nat_eq, nat_lt, List, [], ◌∷◌, ◌++◌, length, Option, Some, None, Result, Ok, Err, inl, inr, if◌then◌else◌, sym, ◌∙◌, ap, subst, arith}
use Rattle.std.specs.Prelude.{codes}
use Rattle.std.specs.Char.{digit_value}
use Rattle.std.specs.Str.Parse.{AllDigits, digits_value_after}
use Rattle.bit_grammar.specs.FormatListing.{AreDigits, SpellsNumbers}
use Rattle.bit_norm.specs.Telling.{begins}
use Rattle.bit_text.specs.declared.reason.TextReason.{TextReason}
use Rattle.bit_text.specs.declared.reason.TextReason.TheVariants.{NoMagic, WrapperMagic, BadLine, NumberTooLarge, BadIndentation, TooDeep, TooManyValues, Misplaced}
use Rattle.bit_text.specs.Numbers.{and_then, behind, digits, digits_after, hexadecimal_or_decimal, number, numbers_after, words}
use Rattle.bit_text.specs.Lines.{item_of, record_of, block_of, record_or_block}
use Rattle.bit_text.specs.Refusals.{BeginsTooLarge, FirstTooLarge, SpellsTooLarge, IsTooLarge}
use Rattle.bit_text.proofs.Decimals.{is_below, same_none, no_x}
use Rattle.bit_text.proofs.Fitting.{is_lower}
use Rattle.bit_text.proofs.FromWords.{only_parts, number_read, numbers_read, BeginsItem}
use Rattle.bit_text.proofs.InWords.{at_most, behind_of, number_is, numbers_are, parts_are}
use Rattle.bit_text.proofs.Spelling.{other_byte}
use Rattle.bit_text.proofs.Tellings.{not_below}

-- ---- which reasons a line has by itself

abbrev pub IsOfLine : TextReason → Type 0
IsOfLine BadLine = Unit {0}
IsOfLine NumberTooLarge = Unit {0}
IsOfLine NoMagic = ⊥
IsOfLine WrapperMagic = ⊥
IsOfLine BadIndentation = ⊥
IsOfLine TooDeep = ⊥
IsOfLine TooManyValues = ⊥
IsOfLine Misplaced = ⊥

abbrev pub OnlyLine : {A : Type 0} → Result A TextReason → Type 0
OnlyLine (Ok a) = Unit {0}
OnlyLine (Err reason) = IsOfLine reason

only_then : {A B : Type 0} (r : Result A TextReason) (next : A → Result B TextReason) → OnlyLine r → ((a : A) → OnlyLine (next a)) → OnlyLine (and_then r next)
only_then (Ok a) next h more = more a
only_then (Err reason) next h more = h

only_digit : (digit below : Bool) (rest : Result ℕ TextReason) → OnlyLine rest → OnlyLine (if digit then (if below then rest else Err NumberTooLarge) else Err BadLine)
only_digit true true rest h = h
only_digit true false rest h = tt
only_digit false below rest h = tt

only_digits : (base n : ℕ) (ds : List ℕ) → OnlyLine (digits_after base n ds)
only_digits base n [] = tt
only_digits base n (c ∷ ds) = only_digit (nat_lt (digit_value c) base) (nat_lt (n * base + digit_value c) (2 ^ 64)) (digits_after base (n * base + digit_value c) ds) (only_digits base (n * base + digit_value c) ds)

some_only : (base : ℕ) (text : List ℕ) → OnlyLine (digits base text)
some_only base [] = tt
some_only base (c ∷ text) = only_digits base 0 (c ∷ text)

only_number : (front : Option (List ℕ)) (word : List ℕ) → OnlyLine (hexadecimal_or_decimal front word)
only_number (Some text) word = some_only 16 text
only_number None word = some_only 10 word

only_numbers : (before : List ℕ) (parts : List (List ℕ)) → OnlyLine (numbers_after before parts)
only_numbers before [] = tt
only_numbers before (word ∷ parts) = only_then (number word) (λ n. numbers_after (before ++ n ∷ []) parts) (only_number (behind (codes "0x") word) word) (λ n. only_numbers (before ++ n ∷ []) parts)

only_record : (numbers : List ℕ) → OnlyLine (record_of numbers)
only_record [] = tt
only_record (code ∷ values) = tt

only_id : (t : Bool) (id : ℕ) → OnlyLine (if t then Ok (begins id) else Err NumberTooLarge)
only_id true id = tt
only_id false id = tt

only_block : (numbers : List ℕ) → OnlyLine (block_of numbers)
only_block [] = tt
only_block (id ∷ []) = only_id (nat_lt id (2 ^ 32)) id
only_block (id ∷ other ∷ others) = tt

only_either : (numbers id : Option (List ℕ)) → OnlyLine (record_or_block numbers id)
only_either (Some text) id = only_then (numbers_after [] (words text)) record_of (only_numbers [] (words text)) only_record
only_either None (Some text) = only_then (numbers_after [] (words text)) block_of (only_numbers [] (words text)) only_block
only_either None None = tt

pub item_only : (text : List ℕ) → OnlyLine (item_of text)
item_only text = only_either (behind (codes "record ") text) (behind (codes "block ") text)

-- ---- digits

-- digits after n begin with some that spell 2^64 or more
record Front (base n : ℕ) (ds : List ℕ) : Type 0 where
  pub front : List ℕ
  pub rest : List ℕ
  pub parts : ds ≡ front ++ rest
  pub some : 0 < length front
  pub digits : AllDigits base front
  pub over : 2 ^ 64 ≤ digits_value_after base n front

front_by : (digit below : Bool) (base n c : ℕ) (ds : List ℕ) → nat_lt (digit_value c) base ≡ digit → nat_lt (n * base + digit_value c) (2 ^ 64) ≡ below
    → (n * base + digit_value c < 2 ^ 64 → digits_after base (n * base + digit_value c) ds ≡ Err NumberTooLarge → Front base (n * base + digit_value c) ds)
    → (if digit then (if below then digits_after base (n * base + digit_value c) ds else Err NumberTooLarge) else Err BadLine) ≡ Err NumberTooLarge → Front base n (c ∷ ds)
front_by true true base n c ds is small more h =
    let f = more (is_lower (n * base + digit_value c) (2 ^ 64) small) h in
    record { front = c ∷ f.front; rest = f.rest; parts = ap (λ (s : List ℕ). c ∷ s) f.parts; some = omega arith; digits = (is_lower (digit_value c) base is, f.digits); over = f.over }
front_by true false base n c ds is large more h =
    record { front = c ∷ []; rest = ds; parts = refl; some = omega arith; digits = (is_lower (digit_value c) base is, tt); over = at_most (n * base + digit_value c) (2 ^ 64) large }
front_by false below base n c ds is small more h = absurd cc

front_of : (base n : ℕ) (ds : List ℕ) → n < 2 ^ 64 → digits_after base n ds ≡ Err NumberTooLarge → Front base n ds
front_of base n [] small h = absurd cc
front_of base n (c ∷ ds) small h =
    let next = n * base + digit_value c in
    front_by (nat_lt (digit_value c) base) (nat_lt next (2 ^ 64)) base n c ds refl refl (λ less e. front_of base next ds less e) h

some_front : (base : ℕ) (text : List ℕ) → digits base text ≡ Err NumberTooLarge → Front base 0 text
some_front base [] h = absurd cc
some_front base (c ∷ text) h = front_of base 0 (c ∷ text) (omega arith) h

over_by : (t : Bool) (r : Result ℕ TextReason) → (t ≡ true → r ≡ Err NumberTooLarge) → (if t then r else Err NumberTooLarge) ≡ Err NumberTooLarge
over_by true r more = more refl
over_by false r more = refl

over_read : (base n : ℕ) (front rest : List ℕ) → n < 2 ^ 64 → AllDigits base front → 2 ^ 64 ≤ digits_value_after base n front → digits_after base n (front ++ rest) ≡ Err NumberTooLarge
over_read base n [] rest small all over = absurd (omega (arith, small, over))
over_read base n (c ∷ front) rest small all over =
    let next = n * base + digit_value c in
    ap (λ (t : Bool). if t then (if nat_lt next (2 ^ 64) then digits_after base next (front ++ rest) else Err NumberTooLarge) else Err BadLine) (is_below (digit_value c) base all.0)
    ∙ over_by (nat_lt next (2 ^ 64)) (digits_after base next (front ++ rest)) (λ less. over_read base next front rest (is_lower next (2 ^ 64) less) all.1 over)

-- ---- words

word_over : (front : Option (List ℕ)) (word : List ℕ) → ((text : List ℕ) → front ≡ Some text → word ≡ codes "0x" ++ text) → hexadecimal_or_decimal front word ≡ Err NumberTooLarge → BeginsTooLarge word
word_over (Some text) word is h =
    let f = some_front 16 text h in
    (f.front, f.rest, digits_value_after 16 0 f.front, f.over, inr (is text refl ∙ ap (λ (t : List ℕ). codes "0x" ++ t) f.parts, record { some = f.some; digits = f.digits; value = refl }))
word_over None word is h =
    let f = some_front 10 word h in
    (f.front, f.rest, digits_value_after 10 0 f.front, f.over, inl (f.parts, record { some = f.some; digits = f.digits; value = refl }))

decimal_over : (ds rest : List ℕ) (n : ℕ) → 2 ^ 64 ≤ n → AreDigits 10 ds n → number (ds ++ rest) ≡ Err NumberTooLarge
decimal_over [] rest n large is = absurd (omega (arith, is.some))
decimal_over (c ∷ []) rest n large is = absurd (omega (arith, is.digits.0, is.value, large))
decimal_over (c ∷ d ∷ ds) rest n large is =
    let bare : behind (codes "0x") (c ∷ d ∷ (ds ++ rest)) ≡ None = rw (other_byte d 120 (no_x d is.digits.1.0)) (same_none (nat_eq c 48)) in
    let over : 2 ^ 64 ≤ digits_value_after 10 0 (c ∷ d ∷ ds) = subst (λ (m : ℕ). 2 ^ 64 ≤ m) (sym is.value) large in
    ap (λ (f : Option (List ℕ)). hexadecimal_or_decimal f (c ∷ d ∷ (ds ++ rest))) bare ∙ over_read 10 0 (c ∷ d ∷ ds) rest (omega arith) is.digits over

hexadecimal_over : (ds rest : List ℕ) (n : ℕ) → 2 ^ 64 ≤ n → AreDigits 16 ds n → digits 16 (ds ++ rest) ≡ Err NumberTooLarge
hexadecimal_over [] rest n large is = absurd (omega (arith, is.some))
hexadecimal_over (c ∷ ds) rest n large is =
    let over : 2 ^ 64 ≤ digits_value_after 16 0 (c ∷ ds) = subst (λ (m : ℕ). 2 ^ 64 ≤ m) (sym is.value) large in
    over_read 16 0 (c ∷ ds) rest (omega arith) is.digits over

over_word : (word : List ℕ) → BeginsTooLarge word → number word ≡ Err NumberTooLarge
over_word word (ds, rest, n, large, inl (same, is)) = ap number same ∙ decimal_over ds rest n large is
over_word word (ds, rest, n, large, inr (same, is)) = ap number same ∙ hexadecimal_over ds rest n large is

first_over_then : (r : Result ℕ TextReason) (word before : List ℕ) (parts : List (List ℕ)) → number word ≡ r → ((n : ℕ) → numbers_after (before ++ n ∷ []) parts ≡ Err NumberTooLarge → FirstTooLarge parts)
    → and_then r (λ n. numbers_after (before ++ n ∷ []) parts) ≡ Err NumberTooLarge → FirstTooLarge (word ∷ parts)
first_over_then (Ok n) word before parts is more h = inr (n, number_is (behind (codes "0x") word) word n (λ text e. behind_of (codes "0x") word text e) is, more n h)
first_over_then (Err reason) word before parts is more h =
    let same : reason ≡ NumberTooLarge = cc in
    inl (word_over (behind (codes "0x") word) word (λ text e. behind_of (codes "0x") word text e) (is ∙ ap Err same))

first_over : (before : List ℕ) (parts : List (List ℕ)) → numbers_after before parts ≡ Err NumberTooLarge → FirstTooLarge parts
first_over before [] h = absurd cc
first_over before (word ∷ parts) h = first_over_then (number word) word before parts refl (λ n e. first_over (before ++ n ∷ []) parts e) h

over_first : (before : List ℕ) (parts : List (List ℕ)) → FirstTooLarge parts → numbers_after before parts ≡ Err NumberTooLarge
over_first before [] h = absurd h
over_first before (word ∷ parts) (inl h) = ap (λ r. and_then r (λ n. numbers_after (before ++ n ∷ []) parts)) (over_word word h)
over_first before (word ∷ parts) (inr (n, is, more)) = ap (λ r. and_then r (λ m. numbers_after (before ++ m ∷ []) parts)) (number_read word n is) ∙ over_first (before ++ n ∷ []) parts more

numbers_over : (text : List ℕ) → numbers_after [] (words text) ≡ Err NumberTooLarge → SpellsTooLarge text
numbers_over text h = (words text, parts_are 32 text, first_over [] (words text) h)

over_numbers : (text : List ℕ) → SpellsTooLarge text → numbers_after [] (words text) ≡ Err NumberTooLarge
over_numbers text (parts, are, is) = ap (numbers_after []) (only_parts 32 text parts are) ∙ over_first [] parts is

-- ---- items

record_over : (r : Result (List ℕ) TextReason) → and_then r record_of ≡ Err NumberTooLarge → r ≡ Err NumberTooLarge
record_over (Ok []) h = absurd cc
record_over (Ok (code ∷ values)) h = absurd cc
record_over (Err reason) h = let same : reason ≡ NumberTooLarge = cc in ap Err same

id_over : (t : Bool) (id : ℕ) (numbers : List ℕ) → nat_lt id (2 ^ 32) ≡ t → numbers_after [] (words numbers) ≡ Ok (id ∷ []) → (if t then Ok (begins id) else Err NumberTooLarge) ≡ Err NumberTooLarge → (id : ℕ) × SpellsNumbers numbers (id ∷ []) × (2 ^ 32 ≤ id)
id_over true id numbers small is h = absurd cc
id_over false id numbers large is h = (id, numbers_are numbers (id ∷ []) is, at_most id (2 ^ 32) large)

block_over : (r : Result (List ℕ) TextReason) (text numbers : List ℕ) → text ≡ codes "block " ++ numbers → numbers_after [] (words numbers) ≡ r → and_then r block_of ≡ Err NumberTooLarge → IsTooLarge text
block_over (Ok []) text numbers same is h = absurd cc
block_over (Ok (id ∷ [])) text numbers same is h = (numbers, inr (same, inr (id_over (nat_lt id (2 ^ 32)) id numbers refl is h)))
block_over (Ok (id ∷ other ∷ others)) text numbers same is h = absurd cc
block_over (Err reason) text numbers same is h =
    let large : reason ≡ NumberTooLarge = cc in
    (numbers, inr (same, inl (numbers_over numbers (is ∙ ap Err large))))

either_over : (numbers id : Option (List ℕ)) (text : List ℕ) → ((n : List ℕ) → numbers ≡ Some n → text ≡ codes "record " ++ n) → ((n : List ℕ) → id ≡ Some n → text ≡ codes "block " ++ n)
    → record_or_block numbers id ≡ Err NumberTooLarge → IsTooLarge text
either_over (Some n) id text of one h = (n, inl (of n refl, numbers_over n (record_over (numbers_after [] (words n)) h)))
either_over None (Some n) text of one h = block_over (numbers_after [] (words n)) text n (one n refl) refl h
either_over None None text of one h = absurd cc

pub item_over : (text : List ℕ) → item_of text ≡ Err NumberTooLarge → IsTooLarge text
item_over text h =
    either_over (behind (codes "record ") text) (behind (codes "block ") text) text (λ n e. behind_of (codes "record ") text n e) (λ n e. behind_of (codes "block ") text n e) h

begins_record : (text numbers : List ℕ) → text ≡ codes "record " ++ numbers → numbers_after [] (words numbers) ≡ Err NumberTooLarge → BeginsItem text (Err NumberTooLarge)
begins_record text numbers same large = record {
  first = 114;
  rest = 101 ∷ 99 ∷ 111 ∷ 114 ∷ 100 ∷ 32 ∷ numbers;
  same = same;
  no_space = refl;
  no_comment = refl;
  read = ap (λ r. and_then r record_of) large;
}

begins_block : (text numbers : List ℕ) → text ≡ codes "block " ++ numbers → and_then (numbers_after [] (words numbers)) block_of ≡ Err NumberTooLarge → BeginsItem text (Err NumberTooLarge)
begins_block text numbers same large = record {
  first = 98;
  rest = 108 ∷ 111 ∷ 99 ∷ 107 ∷ 32 ∷ numbers;
  same = same;
  no_space = refl;
  no_comment = refl;
  read = large;
}

pub over_item : (text : List ℕ) → IsTooLarge text → BeginsItem text (Err NumberTooLarge)
over_item text (numbers, inl (same, is)) = begins_record text numbers same (over_numbers numbers is)
over_item text (numbers, inr (same, inl is)) = begins_block text numbers same (ap (λ r. and_then r block_of) (over_numbers numbers is))
over_item text (numbers, inr (same, inr (id, is, large))) = begins_block text numbers same (ap (λ r. and_then r block_of) (numbers_read numbers (id ∷ []) is) ∙ rw (not_below id (2 ^ 32) large) refl)
