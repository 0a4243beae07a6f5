-- What is read is fit.
use Rattle.std.proofs.Common.{◌≡◌, ◌≢◌, refl, ℕ, zero, suc, ◌+◌, ◌-◌, ◌*◌, ◌/◌, ◌%◌, ◌^◌, ◌<◌, ◌≤◌, Bool, true, false, nat_eq, nat_lt, List, [], ◌∷◌, ◌++◌, length, replicate, Option, Some, None, Result, Ok, Err, if◌then◌else◌, subst, arith, append-nil}
use Rattle.std.specs.List.{AllByRecursion}
use Rattle.std.specs.Char.{digit_value}
use Rattle.std.specs.Prelude.{codes, slice_index}
use Rattle.std.proofs.lemmas.Bool.Decides.{nat_tests}
use Rattle.bit_grammar.specs.Bits.{bits_of_bytes}
use Rattle.bit_grammar.proofs.Bits.Numbers.{number_below}
use Rattle.bit_grammar.specs.Blocks.{Limits}
use Rattle.bit_grammar.specs.Forest.{Tree, wrapper_magic}
use Rattle.bit_grammar.specs.Normal.{Capped}
use Rattle.bit_fields.specs.Opening.{magic_number}
use Rattle.bit_norm.specs.Telling.{Call, begins, holds, ends, Where, at_top, fits, after_call, where_after, InRange, AreFit, IsFit}
use Rattle.bit_norm.proofs.Telling.{tree_fit}
use Rattle.bit_text.specs.declared.reason.TextReason.{TextReason}
use Rattle.bit_text.specs.declared.reason.TextReason.TheVariants.{WrapperMagic, BadLine, NumberTooLarge, BadIndentation}
use Rattle.bit_text.specs.Numbers.{behind, and_then, digits, digits_after, hexadecimal_or_decimal, number, numbers_after, words, lines}
use Rattle.bit_text.specs.Lines.{content, spaces, is_free, byte_of, four, four_bytes, magic_of, record_of, block_of, record_or_block, item_of}
use Rattle.bit_text.specs.Listings.{Standing, at_start, behind_magic, begun, misfit, ends_before, if_last_fits, item_calls, said, after_line, at_end, goes_on, told_all, lines_read, next_line, reading_of}
use Rattle.bit_text.proofs.Decimals.{is_below}

pub is_lower : (a b : ℕ) → nat_lt a b ≡ true → a < b
is_lower a b h = grind (arith, nat_tests)

pub is_other : (a b : ℕ) → nat_eq a b ≡ false → a ≡ b → ⊥
is_other a b h e = grind (arith, nat_tests)

-- ---- numbers

digit_small : (digit below : Bool) (next m : ℕ) (rest : Result ℕ TextReason) → (next < 2 ^ 64 → rest ≡ Ok m → m < 2 ^ 64) → nat_lt next (2 ^ 64) ≡ below
    → (if digit then (if below then rest else Err NumberTooLarge) else Err BadLine) ≡ Ok m → m < 2 ^ 64
digit_small true true next m rest more is h = more (is_lower next (2 ^ 64) is) h
digit_small true false next m rest more is h = absurd cc
digit_small false below next m rest more is h = absurd cc

digits_small : (base n : ℕ) (text : List ℕ) (m : ℕ) → n < 2 ^ 64 → digits_after base n text ≡ Ok m → m < 2 ^ 64
digits_small base n [] m small h = let e : n ≡ m = cc in subst (λ (k : ℕ). k < 2 ^ 64) e small
digits_small base n (b ∷ text) m small h =
    let next = n * base + digit_value b in
    digit_small (nat_lt (digit_value b) base) (nat_lt next (2 ^ 64)) next m (digits_after base next text) (λ e k. digits_small base next text m e k) refl h

some_digits_small : (base : ℕ) (text : List ℕ) (m : ℕ) → digits base text ≡ Ok m → m < 2 ^ 64
some_digits_small base [] m h = absurd cc
some_digits_small base (b ∷ text) m h = digits_small base 0 (b ∷ text) m (omega arith) h

word_small : (front : Option (List ℕ)) (word : List ℕ) (m : ℕ) → hexadecimal_or_decimal front word ≡ Ok m → m < 2 ^ 64
word_small (Some text) word m h = some_digits_small 16 text m h
word_small None word m h = some_digits_small 10 word m h

abbrev Small : List ℕ → Type 0
Small values = AllByRecursion (λ v. v < 2 ^ 64) values

small_more : (values : List ℕ) (v : ℕ) → Small values → v < 2 ^ 64 → Small (values ++ v ∷ [])
small_more [] v all h = (h, tt)
small_more (w ∷ values) v all h = (all.0, small_more values v all.1 h)

number_then : (word : Result ℕ TextReason) (before all : List ℕ) (others : ℕ → Result (List ℕ) TextReason) → ((m : ℕ) → word ≡ Ok m → m < 2 ^ 64) → Small before
    → ((m : ℕ) → Small (before ++ m ∷ []) → others m ≡ Ok all → Small all) → and_then word others ≡ Ok all → Small all
number_then (Ok m) before all others below small more h = more m (small_more before m small (below m refl)) h
number_then (Err reason) before all others below small more h = absurd cc

numbers_small : (before : List ℕ) (parts : List (List ℕ)) (all : List ℕ) → Small before → numbers_after before parts ≡ Ok all → Small all
numbers_small before [] all small h = let e : before ≡ all = cc in subst Small e small
numbers_small before (word ∷ parts) all small h =
    number_then (number word) before all (λ n. numbers_after (before ++ n ∷ []) parts) (λ m e. word_small (behind (codes "0x") word) word m e) small
    (λ m s e. numbers_small (before ++ m ∷ []) parts all s e) h

-- ---- items

record_in_range : (numbers : List ℕ) (call : Call) → Small numbers → record_of numbers ≡ Ok call → InRange call
record_in_range [] call small h = absurd cc
record_in_range (code ∷ values) call small h = let e : holds code values ≡ call = cc in subst InRange e small

id_in_range : (t : Bool) (id : ℕ) (call : Call) → nat_lt id (2 ^ 32) ≡ t → (if t then Ok (begins id) else Err NumberTooLarge) ≡ Ok call → InRange call
id_in_range true id call is h = let e : begins id ≡ call = cc in subst InRange e (is_lower id (2 ^ 32) is)
id_in_range false id call is h = absurd cc

block_in_range : (numbers : List ℕ) (call : Call) → block_of numbers ≡ Ok call → InRange call
block_in_range [] call h = absurd cc
block_in_range (id ∷ []) call h = id_in_range (nat_lt id (2 ^ 32)) id call refl h
block_in_range (id ∷ other ∷ numbers) call h = absurd cc

numbers_in_range : (numbers : Result (List ℕ) TextReason) (item : List ℕ → Result Call TextReason) (call : Call) → ((all : List ℕ) → numbers ≡ Ok all → Small all) → ((all : List ℕ) → Small all → item all ≡ Ok call → InRange call)
    → and_then numbers item ≡ Ok call → InRange call
numbers_in_range (Ok all) item call small range h = range all (small all refl) h
numbers_in_range (Err reason) item call small range h = absurd cc

either_in_range : (numbers id : Option (List ℕ)) (call : Call) → record_or_block numbers id ≡ Ok call → InRange call
either_in_range (Some text) id call h = numbers_in_range (numbers_after [] (words text)) record_of call (λ all e. numbers_small [] (words text) all tt e) (λ all s e. record_in_range all call s e) h
either_in_range None (Some text) call h = numbers_in_range (numbers_after [] (words text)) block_of call (λ all e. numbers_small [] (words text) all tt e) (λ all s e. block_in_range all call e) h
either_in_range None None call h = absurd cc

-- ---- calls

pub ends_fit : (limits : Limits) (k : ℕ) (w : Where) (rest : List Call) → k ≤ w.depth → AreFit limits (where_after (replicate k ends) w) rest → AreFit limits w (replicate k ends ++ rest)
ends_fit limits zero w rest h fit = fit
ends_fit limits (suc k) w rest h fit = (is_below 0 w.depth (omega (arith, h)), tt, ends_fit limits k (after_call ends w) rest (omega (arith, h)) fit)

pub fit_append : (limits : Limits) (calls more : List Call) (w : Where) → AreFit limits w calls → AreFit limits (where_after calls w) more → AreFit limits w (calls ++ more)
fit_append limits [] more w fit rest = rest
fit_append limits (call ∷ calls) more w fit rest = (fit.0, fit.1, fit_append limits calls more (after_call call w) fit.2 rest)

last_fits : (limits : Limits) (w : Where) (k : ℕ) (call : Call) (more : List Call) (t : Bool) → k ≤ w.depth → InRange call → fits limits (where_after (replicate k ends) w) call ≡ t
    → (if t then Ok (replicate k ends ++ call ∷ []) else Err (misfit limits (where_after (replicate k ends) w) call)) ≡ Ok more → AreFit limits w more
last_fits limits w k call more true h range is e = let same : replicate k ends ++ call ∷ [] ≡ more = cc in subst (AreFit limits w) same (ends_fit limits k w (call ∷ []) h (is, range, tt))
last_fits limits w k call more false h range is e = absurd cc

item_fits : (limits : Limits) (w : Where) (spaces : ℕ) (call : Call) (more : List Call) (far odd : Bool) → InRange call
    → (if far then Err BadIndentation else (if odd then if_last_fits limits w (ends_before w spaces) call else Err BadIndentation)) ≡ Ok more → AreFit limits w more
item_fits limits w spaces call more true odd range h = absurd cc
item_fits limits w spaces call more false true range h = last_fits limits w (w.depth - spaces / 2) call more (fits limits (where_after (ends_before w spaces) w) call) (omega arith) range refl h
item_fits limits w spaces call more false false range h = absurd cc

-- ---- lines

-- what is read so far is fit
abbrev pub Good : Limits → Standing → Type 0
Good limits at_start = Unit {0}
Good limits (behind_magic magic calls) = (magic_number magic < 2 ^ 32) × (magic_number magic ≢ wrapper_magic) × AreFit limits at_top calls

four_small : (a b c d : Option ℕ) (magic : List ℕ) → four a b c d ≡ Some magic → magic_number magic < 2 ^ 32
four_small (Some a) (Some b) (Some c) (Some d) magic h =
    let e : a ∷ b ∷ c ∷ d ∷ [] ≡ magic = cc in
    subst (λ (m : List ℕ). magic_number m < 2 ^ 32) e (number_below (bits_of_bytes (a ∷ b ∷ c ∷ d ∷ [])))
four_small (Some a) (Some b) (Some c) None magic h = absurd cc
four_small (Some a) (Some b) None d magic h = absurd cc
four_small (Some a) None c d magic h = absurd cc
four_small None b c d magic h = absurd cc

magic_small : (text : Option (List ℕ)) (magic : List ℕ) → four_bytes text ≡ Some magic → magic_number magic < 2 ^ 32
magic_small None magic h = absurd cc
magic_small (Some text) magic h =
    by_length (nat_eq (length text) 8) (byte_of (slice_index text 0) (slice_index text 1)) (byte_of (slice_index text 2) (slice_index text 3)) (byte_of (slice_index text 4) (slice_index text 5)) (byte_of (slice_index text 6) (slice_index text 7)) magic h
  where
    by_length : (t : Bool) (a b c d : Option ℕ) (magic : List ℕ) → (if t then four a b c d else None) ≡ Some magic → magic_number magic < 2 ^ 32
    by_length true a b c d magic h = four_small a b c d magic h
    by_length false a b c d magic h = absurd cc

pub begun_good : (limits : Limits) (found : Option (List ℕ)) (later : Standing) → ((magic : List ℕ) → found ≡ Some magic → magic_number magic < 2 ^ 32) → begun found ≡ Ok later → Good limits later
begun_good limits None later small h = absurd cc
begun_good limits (Some magic) later small h = bare (nat_eq (magic_number magic) wrapper_magic) refl h
  where
    bare : (t : Bool) → nat_eq (magic_number magic) wrapper_magic ≡ t → (if t then Err WrapperMagic else Ok (behind_magic magic [])) ≡ Ok later → Good limits later
    bare true is e = absurd cc
    bare false is e = let same : behind_magic magic [] ≡ later = cc in subst (Good limits) same (small magic refl, is_other (magic_number magic) wrapper_magic is, tt)

more_good : (limits : Limits) (magic : List ℕ) (calls : List Call) (r : Result (List Call) TextReason) (later : Standing) → Good limits (behind_magic magic calls) → ((more : List Call) → r ≡ Ok more → AreFit limits (where_after calls at_top) more)
    → and_then r (λ more. Ok (behind_magic magic (calls ++ more))) ≡ Ok later → Good limits later
more_good limits magic calls (Ok more) later good fit h =
    let same : behind_magic magic (calls ++ more) ≡ later = cc in
    subst (Good limits) same (good.0, good.1, fit_append limits calls more at_top good.2 (fit more refl))
more_good limits magic calls (Err reason) later good fit h = absurd cc

item_good : (limits : Limits) (magic : List ℕ) (calls : List Call) (spaces : ℕ) (item : Result Call TextReason) (later : Standing) → Good limits (behind_magic magic calls) → ((call : Call) → item ≡ Ok call → InRange call)
    → and_then item (λ call. and_then (item_calls limits (where_after calls at_top) spaces call) (λ more. Ok (behind_magic magic (calls ++ more)))) ≡ Ok later → Good limits later
item_good limits magic calls spaces (Ok call) later good range h =
    let w = where_after calls at_top in
    more_good limits magic calls (item_calls limits w spaces call) later good (λ more e. item_fits limits w spaces call more (nat_lt w.depth (spaces / 2)) (nat_eq (spaces % 2) 0) (range call refl) e) h
item_good limits magic calls spaces (Err reason) later good range h = absurd cc

said_good : (limits : Limits) (now : Standing) (line : List ℕ) (later : Standing) → Good limits now → said limits now line ≡ Ok later → Good limits later
said_good limits at_start line later good h = begun_good limits (magic_of line) later (λ magic e. magic_small (behind (codes "magic ") line) magic e) h
said_good limits (behind_magic magic calls) line later good h =
    item_good limits magic calls (spaces line) (item_of (content line)) later good (λ call e. either_in_range (behind (codes "record ") (content line)) (behind (codes "block ") (content line)) call e) h

pub line_good : (limits : Limits) (now : Standing) (line : List ℕ) (later : Standing) → Good limits now → after_line limits now line ≡ Ok later → Good limits later
line_good limits now line later good h = by_free (is_free (content line)) h
  where
    by_free : (t : Bool) → (if t then Ok now else said limits now line) ≡ Ok later → Good limits later
    by_free true e = let same : now ≡ later = cc in subst (Good limits) same good
    by_free false e = said_good limits now line later good e

-- ---- the whole

end_fit : (limits : Limits) (number : ℕ) (now : Standing) (tree : Tree) → Capped limits → Good limits now → at_end number now ≡ Ok tree → IsFit limits tree
end_fit limits number at_start tree capped good h = absurd cc
end_fit limits number (behind_magic magic calls) tree capped good h =
    let d = (where_after calls at_top).depth in
    let w = where_after calls at_top in
    let same : told_all magic calls ≡ tree = cc in
    let closing : AreFit limits w (replicate d ends) = subst (AreFit limits w) (append-nil (replicate d ends)) (ends_fit limits d w [] (omega arith) tt) in
    subst (IsFit limits) same (tree_fit limits magic (calls ++ replicate d ends) capped good.0 good.1 (fit_append limits calls (replicate d ends) at_top good.2 closing))

next_fit : (limits : Limits) (number : ℕ) (r : Result Standing TextReason) (next : Standing → Result Tree (TextReason × ℕ)) (tree : Tree) → ((later : Standing) → r ≡ Ok later → Good limits later)
    → ((later : Standing) → Good limits later → next later ≡ Ok tree → IsFit limits tree) → goes_on number r next ≡ Ok tree → IsFit limits tree
next_fit limits number (Ok later) next tree good fit h = fit later (good later refl) h
next_fit limits number (Err reason) next tree good fit h = absurd cc

pub lines_fit : (limits : Limits) (number : ℕ) (now : Standing) (lines : List (List ℕ)) (tree : Tree) → Capped limits → Good limits now → lines_read limits number now lines ≡ Ok tree → IsFit limits tree
lines_fit limits number now [] tree capped good h = end_fit limits number now tree capped good h
lines_fit limits number now (line ∷ lines) tree capped good h =
    next_fit limits (next_line number) (after_line limits now line) (λ later. lines_read limits (next_line number) later lines) tree (λ later e. line_good limits now line later good e)
    (λ later g e. lines_fit limits (next_line number) later lines tree capped g e) h

pub read_fit : (limits : Limits) (text : List ℕ) (tree : Tree) → Capped limits → reading_of limits text ≡ Ok tree → IsFit limits tree
read_fit limits text tree capped h = lines_fit limits 0 at_start (lines text) tree capped tt h
