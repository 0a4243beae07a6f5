-- What is read of a text is what it lists, in the words of the format.
use Rattle.std.proofs.Common.{◌≡◌, refl, ℕ, suc, ◌+◌, ◌*◌, ◌/◌, ◌%◌, ◌^◌, ◌<◌, ◌≤◌, ◌⊎◌, inl, inr, Bool, true, false, nat_eq, nat_lt, List, [], ◌∷◌, ◌++◌, ◌&&◌, length, drop, replicate, Option, Some, None, Result, Ok, Err, if◌then◌else◌, sym, ◌∙◌, ap, subst, arith, append_assoc, append-nil}
use Rattle.std.specs.Prelude.{codes, flat_map, slice_index}
use Rattle.std.specs.List.{AllByRecursion}
use Rattle.std.specs.Fmt.{digit_glyph}
use Rattle.std.specs.Char.{digit_value}
use Rattle.std.specs.Str.Parse.{AllDigits, digits_value_after}
use Rattle.std.proofs.lemmas.Bool.Decides.{nat_tests}
use Rattle.bit_grammar.specs.Blocks.{Limits}
use Rattle.bit_grammar.specs.Forest.{Tree, wrapper_magic}
use Rattle.bit_grammar.specs.Texts.{hex_text}
use Rattle.bit_grammar.specs.Normal.{Capped}
use Rattle.bit_fields.specs.Opening.{magic_number}
use Rattle.bit_grammar.specs.FormatListing.{AreParts, AreDigits, IsNumber, SpellEach, SpellsNumbers, Item, of_block, of_record, IsItem, Entry, IsEntry, IsFree, IsFreeLine, HaveEntries, IsMagicLine, AreListing}
use Rattle.bit_norm.specs.Telling.{Call, begins, holds, Where, at_top, fits, where_after, AreFit}
use Rattle.bit_text.specs.declared.reason.TextReason.{TextReason}
use Rattle.bit_text.specs.declared.reason.TextReason.TheVariants.{WrapperMagic, BadLine, NumberTooLarge, BadIndentation}
use Rattle.bit_text.specs.Numbers.{and_then, behind, digits, digits_after, hexadecimal_or_decimal, number, numbers_after, parts_after, lines, words}
use Rattle.bit_text.specs.Lines.{spaces, content, is_free, is_low_digit, byte_of, four, four_bytes, magic_of, item_of, record_of, block_of, record_or_block}
use Rattle.bit_text.specs.Listings.{Standing, at_start, behind_magic, begun, misfit, ends_before, item_calls, said, after_line, goes_on, told_all, lines_read, next_line, reading_of}
use Rattle.bit_text.specs.Refusals.{LinesList}
use Rattle.bit_text.specs.Entries.{entries_of, Lists}
use Rattle.bit_text.proofs.Decimals.{Lacks, lacks_append}
use Rattle.bit_text.proofs.Entries.{called, open_after, told_with, entries_told, entry_told, entries_of_told}
use Rattle.bit_text.proofs.Fitting.{is_lower, is_other, Good, line_good, lines_fit}
use Rattle.bit_text.proofs.FromWords.{behind_each}

pub at_most : (a b : ℕ) → nat_lt a b ≡ false → b ≤ a
at_most a b h = grind (arith, nat_tests)

pub is_same : (a b : ℕ) → nat_eq a b ≡ true → a ≡ b
is_same a b h = grind (arith, nat_tests)

-- ---- numbers

next_digit : (digit below : Bool) (base c next m : ℕ) (rest : Result ℕ TextReason) → nat_lt (digit_value c) base ≡ digit → nat_lt next (2 ^ 64) ≡ below
    → (if digit then (if below then rest else Err NumberTooLarge) else Err BadLine) ≡ Ok m → (digit_value c < base) × (next < 2 ^ 64) × (rest ≡ Ok m)
next_digit true true base c next m rest d l h = (is_lower (digit_value c) base d, is_lower next (2 ^ 64) l, h)
next_digit true false base c next m rest d l h = absurd cc
next_digit false below base c next m rest d l h = absurd cc

digits_are : (base n m : ℕ) (ds : List ℕ) → n < 2 ^ 64 → digits_after base n ds ≡ Ok m → AllDigits base ds × (digits_value_after base n ds ≡ m) × (m < 2 ^ 64)
digits_are base n m [] small h = let e : n ≡ m = cc in (tt, e, subst (λ (k : ℕ). k < 2 ^ 64) e small)
digits_are base n m (c ∷ ds) small h =
    let next = n * base + digit_value c in
    let one = next_digit (nat_lt (digit_value c) base) (nat_lt next (2 ^ 64)) base c next m (digits_after base next ds) refl refl h in
    let more = digits_are base next m ds one.1 one.2 in
    ((one.0, more.0), more.1, more.2)

some_digits : (base : ℕ) (text : List ℕ) (n : ℕ) → digits base text ≡ Ok n → AreDigits base text n × (n < 2 ^ 64)
some_digits base [] n h = absurd cc
some_digits base (c ∷ text) n h =
    let p = digits_are base 0 n (c ∷ text) (omega arith) h in
    (record { some = omega arith; digits = p.0; value = p.1 }, p.2)

front_same : (t : Bool) (b c : ℕ) (text front rest : List ℕ) (r : Option (List ℕ)) → nat_eq b c ≡ t → (r ≡ Some rest → text ≡ front ++ rest) → (if t then r else None) ≡ Some rest → b ∷ text ≡ c ∷ (front ++ rest)
front_same true b c text front rest r same more h =
    let first : b ≡ c = is_same b c same in
    let others : text ≡ front ++ rest = more h in
    cc
front_same false b c text front rest r same more h = absurd cc

pub behind_of : (front text rest : List ℕ) → behind front text ≡ Some rest → text ≡ front ++ rest
behind_of [] text rest h = let e : text ≡ rest = cc in e
behind_of (c ∷ front) [] rest h = absurd cc
behind_of (c ∷ front) (b ∷ text) rest h = front_same (nat_eq b c) b c text front rest (behind front text) refl (behind_of front text rest) h

pub number_is : (front : Option (List ℕ)) (word : List ℕ) (n : ℕ) → ((text : List ℕ) → front ≡ Some text → word ≡ codes "0x" ++ text) → hexadecimal_or_decimal front word ≡ Ok n → IsNumber word n
number_is (Some text) word n is h = let p = some_digits 16 text n h in (inr (text, is text refl, p.0), p.1)
number_is None word n is h = let p = some_digits 10 word n h in (inl p.0, p.1)

word_then : (r : Result ℕ TextReason) (word before all : List ℕ) (others : List (List ℕ)) → ((n : ℕ) → r ≡ Ok n → IsNumber word n)
    → ((n : ℕ) → numbers_after (before ++ n ∷ []) others ≡ Ok all → (ns : List ℕ) × (all ≡ (before ++ n ∷ []) ++ ns) × SpellEach others ns)
    → and_then r (λ n. numbers_after (before ++ n ∷ []) others) ≡ Ok all → (ns : List ℕ) × (all ≡ before ++ ns) × SpellEach (word ∷ others) ns
word_then (Ok n) word before all others is more h =
    let p = more n h in
    (n ∷ p.0, p.1 ∙ append_assoc before (n ∷ []) p.0, (n, p.0, refl, is n refl, p.2))
word_then (Err reason) word before all others is more h = absurd cc

words_are : (before all : List ℕ) (parts : List (List ℕ)) → numbers_after before parts ≡ Ok all → (ns : List ℕ) × (all ≡ before ++ ns) × SpellEach parts ns
words_are before all [] h = let e : all ≡ before = cc in ([], e ∙ sym (append-nil before), refl)
words_are before all (word ∷ parts) h =
    word_then (number word) word before all parts (λ n e. number_is (behind (codes "0x") word) word n (λ text is. behind_of (codes "0x") word text is) e)
    (λ n k. words_are (before ++ n ∷ []) all parts k) h

part_joined : (t : Bool) (separator : ℕ) (front : List ℕ) (b : ℕ) (text : List ℕ) → nat_eq b separator ≡ t → behind_each separator (parts_after separator [] text) ≡ separator ∷ text
    → behind_each separator (parts_after separator (front ++ b ∷ []) text) ≡ separator ∷ ((front ++ b ∷ []) ++ text)
    → behind_each separator (if t then front ∷ parts_after separator [] text else parts_after separator (front ++ b ∷ []) text) ≡ separator ∷ (front ++ b ∷ text)
part_joined true separator front b text same ended more = ap (λ (s : List ℕ). separator ∷ (front ++ s)) ended ∙ ap (λ (c : ℕ). separator ∷ (front ++ c ∷ text)) (sym (is_same b separator same))
part_joined false separator front b text same ended more = more ∙ ap (λ (s : List ℕ). separator ∷ s) (append_assoc front (b ∷ []) text)

parts_joined : (separator : ℕ) (front text : List ℕ) → behind_each separator (parts_after separator front text) ≡ separator ∷ (front ++ text)
parts_joined separator front [] = refl
parts_joined separator front (b ∷ text) = part_joined (nat_eq b separator) separator front b text refl (parts_joined separator [] text) (parts_joined separator (front ++ b ∷ []) text)

part_apart : (t : Bool) (separator : ℕ) (front : List ℕ) (b : ℕ) (text : List ℕ) → nat_eq b separator ≡ t → Lacks separator front → AllByRecursion (λ p. Lacks separator p) (parts_after separator [] text)
    → (Lacks separator (front ++ b ∷ []) → AllByRecursion (λ p. Lacks separator p) (parts_after separator (front ++ b ∷ []) text))
    → AllByRecursion (λ p. Lacks separator p) (if t then front ∷ parts_after separator [] text else parts_after separator (front ++ b ∷ []) text)
part_apart true separator front b text same lacks ended more = (lacks, ended)
part_apart false separator front b text same lacks ended more = more (lacks_append separator front (b ∷ []) lacks (is_other b separator same, tt))

parts_apart : (separator : ℕ) (front text : List ℕ) → Lacks separator front → AllByRecursion (λ p. Lacks separator p) (parts_after separator front text)
parts_apart separator front [] lacks = (lacks, tt)
parts_apart separator front (b ∷ text) lacks = part_apart (nat_eq b separator) separator front b text refl lacks (parts_apart separator [] text tt) (parts_apart separator (front ++ b ∷ []) text)

pub parts_are : (separator : ℕ) (text : List ℕ) → AreParts separator text (parts_after separator [] text)
parts_are separator text = record { joined = sym (parts_joined separator [] text); apart = parts_apart separator [] text tt }

pub numbers_are : (text all : List ℕ) → numbers_after [] (words text) ≡ Ok all → SpellsNumbers text all
numbers_are text all h =
    let p = words_are [] all (words text) h in
    (words text, parts_are 32 text, subst (SpellEach (words text)) (sym p.1) p.2)

-- ---- items

-- a text is an item with this call
abbrev pub ReadAs : (text : List ℕ) → Call → Type 0
ReadAs text call = (item : Item) × (call ≡ called item) × IsItem text item

record_is : (text numbers all : List ℕ) (call : Call) → text ≡ codes "record " ++ numbers → numbers_after [] (words numbers) ≡ Ok all → record_of all ≡ Ok call → ReadAs text call
record_is text numbers [] call is read h = absurd cc
record_is text numbers (code ∷ values) call is read h =
    let e : holds code values ≡ call = cc in
    (of_record code values, sym e, (numbers, is, numbers_are numbers (code ∷ values) read))

id_is : (t : Bool) (id : ℕ) (text numbers : List ℕ) (call : Call) → nat_lt id (2 ^ 32) ≡ t → text ≡ codes "block " ++ numbers → numbers_after [] (words numbers) ≡ Ok (id ∷ [])
    → (if t then Ok (begins id) else Err NumberTooLarge) ≡ Ok call → ReadAs text call
id_is true id text numbers call small is read h =
    let e : begins id ≡ call = cc in
    (of_block id, sym e, (numbers, is, numbers_are numbers (id ∷ []) read, is_lower id (2 ^ 32) small))
id_is false id text numbers call small is read h = absurd cc

block_is : (text numbers all : List ℕ) (call : Call) → text ≡ codes "block " ++ numbers → numbers_after [] (words numbers) ≡ Ok all → block_of all ≡ Ok call → ReadAs text call
block_is text numbers [] call is read h = absurd cc
block_is text numbers (id ∷ []) call is read h = id_is (nat_lt id (2 ^ 32)) id text numbers call refl is read h
block_is text numbers (id ∷ other ∷ others) call is read h = absurd cc

numbers_then : (r : Result (List ℕ) TextReason) (item : List ℕ → Result Call TextReason) (text : List ℕ) (call : Call) → ((all : List ℕ) → r ≡ Ok all → item all ≡ Ok call → ReadAs text call) → and_then r item ≡ Ok call → ReadAs text call
numbers_then (Ok all) item text call read h = read all refl h
numbers_then (Err reason) item text call read h = absurd cc

either_is : (numbers id : Option (List ℕ)) (text : List ℕ) (call : Call) → ((n : List ℕ) → numbers ≡ Some n → text ≡ codes "record " ++ n) → ((n : List ℕ) → id ≡ Some n → text ≡ codes "block " ++ n)
    → record_or_block numbers id ≡ Ok call → ReadAs text call
either_is (Some n) id text call of one h = numbers_then (numbers_after [] (words n)) record_of text call (λ all e i. record_is text n all call (of n refl) e i) h
either_is None (Some n) text call of one h = numbers_then (numbers_after [] (words n)) block_of text call (λ all e i. block_is text n all call (one n refl) e i) h
either_is None None text call of one h = absurd cc

pub item_is : (text : List ℕ) (call : Call) → item_of text ≡ Ok call → ReadAs text call
item_is text call h =
    either_is (behind (codes "record ") text) (behind (codes "block ") text) text call (λ n e. behind_of (codes "record ") text n e) (λ n e. behind_of (codes "block ") text n e) h

-- ---- lines

space_is : (t : Bool) (b : ℕ) (line : List ℕ) → nat_eq b 32 ≡ t → line ≡ replicate (spaces line) 32 ++ drop (spaces line) line
    → b ∷ line ≡ replicate (if t then suc (spaces line) else 0) 32 ++ drop (if t then suc (spaces line) else 0) (b ∷ line)
space_is true b line same more = ap (λ (l : List ℕ). b ∷ l) more ∙ ap (λ (c : ℕ). c ∷ (replicate (spaces line) 32 ++ drop (spaces line) line)) (is_same b 32 same)
space_is false b line same more = refl

pub spaces_are : (line : List ℕ) → line ≡ replicate (spaces line) 32 ++ content line
spaces_are [] = refl
spaces_are (b ∷ line) = space_is (nat_eq b 32) b line refl (spaces_are line)

pub says_nothing : (text : List ℕ) → is_free text ≡ true → IsFree text
says_nothing [] h = tt
says_nothing (b ∷ text) h = is_same b 35 h

still_open : (deep even fit : Bool) (n : ℕ) (w : Where) (calls more : List Call) (reason : TextReason) → nat_lt w.depth (n / 2) ≡ deep → nat_eq (n % 2) 0 ≡ even
    → (if deep then Err BadIndentation else (if even then (if fit then Ok calls else Err reason) else Err BadIndentation)) ≡ Ok more → (n / 2 ≤ w.depth) × (n % 2 ≡ 0) × (calls ≡ more)
still_open false true true n w calls more reason here is h = (at_most w.depth (n / 2) here, is_same (n % 2) 0 is, cc)
still_open false true false n w calls more reason here is h = absurd cc
still_open false false fit n w calls more reason here is h = absurd cc
still_open true even fit n w calls more reason here is h = absurd cc

-- a line says nothing, or has an entry
abbrev pub LineIs : (magic : List ℕ) → List Call → (line : List ℕ) → Standing → Type 0
LineIs magic calls line later = (IsFreeLine line × (later ≡ behind_magic magic calls))
    ⊎ ((e : Entry) × (later ≡ behind_magic magic (told_with calls e)) × (e.around ≤ open_after calls) × IsEntry line e)

entry_is : (limits : Limits) (magic : List ℕ) (calls more : List Call) (line : List ℕ) (call : Call) (later : Standing) → item_of (content line) ≡ Ok call
    → item_calls limits (where_after calls at_top) (spaces line) call ≡ Ok more → behind_magic magic (calls ++ more) ≡ later → LineIs magic calls line later
entry_is limits magic calls more line call later item read same =
    let w = where_after calls at_top in
    let closing = ends_before w (spaces line) in
    let p = item_is (content line) call item in
    let q = still_open (nat_lt w.depth (spaces line / 2)) (nat_eq (spaces line % 2) 0) (fits limits (where_after closing w) call) (spaces line) w (closing ++ call ∷ []) more (misfit limits (where_after closing w) call) refl refl read in
    let e : Entry = record { around = spaces line / 2; item = p.0 } in
    let twice : spaces line ≡ 2 * (spaces line / 2) = omega (arith, q.1) in
    let told : later ≡ behind_magic magic (told_with calls e) =
    sym same
    ∙ ap (λ (m : List Call). behind_magic magic (calls ++ m)) (sym q.2 ∙ ap (λ (c : Call). closing ++ c ∷ []) p.1)
    ∙ ap (λ (cs : List Call). behind_magic magic cs) (sym (append_assoc calls closing (called p.0 ∷ []))) in
    inr (e, told, q.0, (content line, spaces_are line ∙ ap (λ (n : ℕ). replicate n 32 ++ content line) twice, p.2))

more_then : (r : Result (List Call) TextReason) (magic : List ℕ) (calls : List Call) (line : List ℕ) (later : Standing) → ((more : List Call) → r ≡ Ok more → behind_magic magic (calls ++ more) ≡ later → LineIs magic calls line later)
    → and_then r (λ more. Ok (behind_magic magic (calls ++ more))) ≡ Ok later → LineIs magic calls line later
more_then (Ok more) magic calls line later is h = let e : behind_magic magic (calls ++ more) ≡ later = cc in is more refl e
more_then (Err reason) magic calls line later is h = absurd cc

item_then : (limits : Limits) (r : Result Call TextReason) (magic : List ℕ) (calls : List Call) (line : List ℕ) (later : Standing) → item_of (content line) ≡ r
    → and_then r (λ call. and_then (item_calls limits (where_after calls at_top) (spaces line) call) (λ more. Ok (behind_magic magic (calls ++ more)))) ≡ Ok later → LineIs magic calls line later
item_then limits (Ok call) magic calls line later item h =
    more_then (item_calls limits (where_after calls at_top) (spaces line) call) magic calls line later (λ more read same. entry_is limits magic calls more line call later item read same) h
item_then limits (Err reason) magic calls line later item h = absurd cc

pub free_or_said : (limits : Limits) (t : Bool) (magic : List ℕ) (calls : List Call) (line : List ℕ) (later : Standing) → is_free (content line) ≡ t
    → (if t then Ok (behind_magic magic calls) else said limits (behind_magic magic calls) line) ≡ Ok later → LineIs magic calls line later
free_or_said limits true magic calls line later free h =
    let e : later ≡ behind_magic magic calls = cc in
    inl ((spaces line, content line, spaces_are line, says_nothing (content line) free), e)
free_or_said limits false magic calls line later free h = item_then limits (item_of (content line)) magic calls line later refl h

-- lines have entries, which calls tell with those before them, and so a tree
record TreeOf (limits : Limits) (magic : List ℕ) (calls : List Call) (lines : List (List ℕ)) (tree : Tree) : Type 0 where
  pub all : List Call
  pub entries : List Entry
  pub have : HaveEntries lines entries
  pub told : entries_told 0 all ≡ entries_told 0 calls ++ entries
  pub fit : AreFit limits at_top all
  pub is : tree ≡ told_all magic all

line_and_others : (limits : Limits) (magic : List ℕ) (calls : List Call) (line : List ℕ) (others : List (List ℕ)) (later : Standing) (tree : Tree) (read : Standing → Result Tree (TextReason × ℕ)) → LineIs magic calls line later → Good limits later
    → ((told : List Call) → Good limits (behind_magic magic told) → read (behind_magic magic told) ≡ Ok tree → TreeOf limits magic told others tree) → read later ≡ Ok tree → TreeOf limits magic calls (line ∷ others) tree
line_and_others limits magic calls line others later tree read (inl (free, same)) good more h =
    let p = more calls (subst (Good limits) same good) (ap read (sym same) ∙ h) in
    record { all = p.all; entries = p.entries; have = inl (free, p.have); told = p.told; fit = p.fit; is = p.is }
line_and_others limits magic calls line others later tree read (inr (e, same, deep, is)) good more h =
    let p = more (told_with calls e) (subst (Good limits) same good) (ap read (sym same) ∙ h) in
    record {
      all = p.all;
      entries = e ∷ p.entries;
      have = inr (e, p.entries, refl, is, p.have);
      told = p.told ∙ ap (λ (es : List Entry). es ++ p.entries) (entry_told calls e deep) ∙ append_assoc (entries_told 0 calls) (e ∷ []) p.entries;
      fit = p.fit;
      is = p.is;
    }

line_then : (limits : Limits) (number : ℕ) (r : Result Standing TextReason) (magic : List ℕ) (calls : List Call) (line : List ℕ) (others : List (List ℕ)) (tree : Tree) (read : Standing → Result Tree (TextReason × ℕ))
    → ((later : Standing) → r ≡ Ok later → LineIs magic calls line later × Good limits later)
    → ((told : List Call) → Good limits (behind_magic magic told) → read (behind_magic magic told) ≡ Ok tree → TreeOf limits magic told others tree) → goes_on number r read ≡ Ok tree → TreeOf limits magic calls (line ∷ others) tree
line_then limits number (Ok later) magic calls line others tree read is more h = let p = is later refl in line_and_others limits magic calls line others later tree read p.0 p.1 more h
line_then limits number (Err reason) magic calls line others tree read is more h = absurd cc

lines_are : (limits : Limits) (number : ℕ) (magic : List ℕ) (calls : List Call) (lines : List (List ℕ)) (tree : Tree) → Good limits (behind_magic magic calls) → lines_read limits number (behind_magic magic calls) lines ≡ Ok tree → TreeOf limits magic calls lines tree
lines_are limits number magic calls [] tree good h =
    let e : tree ≡ told_all magic calls = cc in
    record { all = calls; entries = []; have = refl; told = sym (append-nil (entries_told 0 calls)); fit = good.2; is = e }
lines_are limits number magic calls (line ∷ lines) tree good h =
    let next = next_line number in
    let now = behind_magic magic calls in
    line_then limits next (after_line limits now line) magic calls line lines tree (λ later. lines_read limits next later lines)
    (λ later e. (free_or_said limits (is_free (content line)) magic calls line later refl e, line_good limits now line later good e))
    (λ told g k. lines_are limits next magic told lines tree g k) h

-- ---- the magic

glyph_back : (d : ℕ) → is_low_digit d ≡ true → (digit_value d < 16) × (digit_glyph false (digit_value d) ≡ d)
glyph_back d h = (grind (arith, nat_tests), grind (arith, nat_tests))

both_low : (s t : Bool) (x b : ℕ) → (if s && t then Some x else None) ≡ Some b → (s ≡ true) × (t ≡ true) × (x ≡ b)
both_low true true x b h = (refl, refl, cc)
both_low true false x b h = absurd cc
both_low false t x b h = absurd cc

two_digits : (high low b : ℕ) → byte_of high low ≡ Some b → (b < 256) × (hex_text b ≡ high ∷ low ∷ [])
two_digits high low b h =
    let p = both_low (is_low_digit high) (is_low_digit low) (digit_value high * 16 + digit_value low) b h in
    let first = glyph_back high p.0 in
    let second = glyph_back low p.1 in
    let above : b / 16 ≡ digit_value high = omega (arith, p.2, first.0, second.0) in
    let below : b % 16 ≡ digit_value low = omega (arith, p.2, first.0, second.0) in
    let small : b < 256 = omega (arith, p.2, first.0, second.0) in
    (small, rw (above, below, first.1, second.1) refl)

four_are : (a b c d : Option ℕ) (magic : List ℕ) → four a b c d ≡ Some magic
    → (w x y z : ℕ) × (a ≡ Some w) × (b ≡ Some x) × (c ≡ Some y) × (d ≡ Some z) × (magic ≡ w ∷ x ∷ y ∷ z ∷ [])
four_are (Some w) (Some x) (Some y) (Some z) magic h = (w, x, y, z, refl, refl, refl, refl, cc)
four_are (Some w) (Some x) (Some y) None magic h = absurd cc
four_are (Some w) (Some x) None d magic h = absurd cc
four_are (Some w) None c d magic h = absurd cc
four_are None b c d magic h = absurd cc

eight : (text : List ℕ) → length text ≡ 8 → text ≡ slice_index text 0 ∷ slice_index text 1 ∷ slice_index text 2 ∷ slice_index text 3 ∷ slice_index text 4 ∷ slice_index text 5 ∷ slice_index text 6 ∷ slice_index text 7 ∷ []
eight (a ∷ b ∷ c ∷ d ∷ e ∷ f ∷ g ∷ h ∷ []) same = refl
eight [] same = absurd (omega (arith, same))
eight (a ∷ []) same = absurd (omega (arith, same))
eight (a ∷ b ∷ []) same = absurd (omega (arith, same))
eight (a ∷ b ∷ c ∷ []) same = absurd (omega (arith, same))
eight (a ∷ b ∷ c ∷ d ∷ []) same = absurd (omega (arith, same))
eight (a ∷ b ∷ c ∷ d ∷ e ∷ []) same = absurd (omega (arith, same))
eight (a ∷ b ∷ c ∷ d ∷ e ∷ f ∷ []) same = absurd (omega (arith, same))
eight (a ∷ b ∷ c ∷ d ∷ e ∷ f ∷ g ∷ []) same = absurd (omega (arith, same))
eight (a ∷ b ∷ c ∷ d ∷ e ∷ f ∷ g ∷ h ∷ i ∷ text) same = absurd (omega (arith, same))

four_bytes_are : (line text magic : List ℕ) (w x y z : ℕ) → magic ≡ w ∷ x ∷ y ∷ z ∷ [] → length text ≡ 8 → line ≡ codes "magic " ++ text → AllByRecursion (λ b. b < 256) (w ∷ x ∷ y ∷ z ∷ [])
    → hex_text w ≡ slice_index text 0 ∷ slice_index text 1 ∷ [] → hex_text x ≡ slice_index text 2 ∷ slice_index text 3 ∷ [] → hex_text y ≡ slice_index text 4 ∷ slice_index text 5 ∷ [] → hex_text z ≡ slice_index text 6 ∷ slice_index text 7 ∷ []
    → IsMagicLine line magic
four_bytes_are line text magic w x y z same long is small first second third last =
    let digits : text ≡ flat_map hex_text (w ∷ x ∷ y ∷ z ∷ []) =
    eight text long
    ∙ sym (ap (λ (p : List ℕ). p ++ (hex_text x ++ (hex_text y ++ (hex_text z ++ [])))) first
    ∙ ap (λ (p : List ℕ). (slice_index text 0 ∷ slice_index text 1 ∷ []) ++ (p ++ (hex_text y ++ (hex_text z ++ [])))) second
    ∙ ap (λ (p : List ℕ). (slice_index text 0 ∷ slice_index text 1 ∷ []) ++ ((slice_index text 2 ∷ slice_index text 3 ∷ []) ++ (p ++ (hex_text z ++ [])))) third
    ∙ ap (λ (p : List ℕ). (slice_index text 0 ∷ slice_index text 1 ∷ []) ++ ((slice_index text 2 ∷ slice_index text 3 ∷ []) ++ ((slice_index text 4 ∷ slice_index text 5 ∷ []) ++ (p ++ [])))) last) in
    rw same (record { four = refl; bytes = small; text = is ∙ ap (λ (t : List ℕ). codes "magic " ++ t) digits })

magic_by : (t : Bool) (line text magic : List ℕ) → nat_eq (length text) 8 ≡ t → line ≡ codes "magic " ++ text
    → (if t then four (byte_of (slice_index text 0) (slice_index text 1)) (byte_of (slice_index text 2) (slice_index text 3)) (byte_of (slice_index text 4) (slice_index text 5)) (byte_of (slice_index text 6) (slice_index text 7)) else None) ≡ Some magic
    → IsMagicLine line magic
magic_by true line text magic same is h =
    let p = four_are (byte_of (slice_index text 0) (slice_index text 1)) (byte_of (slice_index text 2) (slice_index text 3)) (byte_of (slice_index text 4) (slice_index text 5)) (byte_of (slice_index text 6) (slice_index text 7)) magic h in
    let w = two_digits (slice_index text 0) (slice_index text 1) p.0 p.4 in
    let x = two_digits (slice_index text 2) (slice_index text 3) p.1 p.5 in
    let y = two_digits (slice_index text 4) (slice_index text 5) p.2 p.6 in
    let z = two_digits (slice_index text 6) (slice_index text 7) p.3 p.7 in
    four_bytes_are line text magic p.0 p.1 p.2 p.3 p.8 (is_same (length text) 8 same) is (w.0, (x.0, (y.0, (z.0, tt)))) w.1 x.1 y.1 z.1
magic_by false line text magic same is h = absurd cc

magic_then : (front : Option (List ℕ)) (line magic : List ℕ) → ((text : List ℕ) → front ≡ Some text → line ≡ codes "magic " ++ text) → four_bytes front ≡ Some magic → IsMagicLine line magic
magic_then (Some text) line magic is h = magic_by (nat_eq (length text) 8) line text magic refl (is text refl) h
magic_then None line magic is h = absurd cc

pub magic_is : (line magic : List ℕ) → magic_of line ≡ Some magic → IsMagicLine line magic
magic_is line magic h = magic_then (behind (codes "magic ") line) line magic (λ text e. behind_of (codes "magic ") line text e) h

-- ---- the whole

-- a line before the items says nothing, or has the magic
abbrev pub FirstIs : (line : List ℕ) → Standing → Type 0
FirstIs line later = (IsFreeLine line × (later ≡ at_start)) ⊎ ((magic : List ℕ) × (later ≡ behind_magic magic []) × IsMagicLine line magic)

begun_by : (t : Bool) (line magic : List ℕ) (later : Standing) → IsMagicLine line magic → (if t then Err WrapperMagic else Ok (behind_magic magic [])) ≡ Ok later → FirstIs line later
begun_by true line magic later is h = absurd cc
begun_by false line magic later is h = let e : later ≡ behind_magic magic [] = cc in inr (magic, e, is)

begun_is : (r : Option (List ℕ)) (line : List ℕ) (later : Standing) → ((magic : List ℕ) → r ≡ Some magic → IsMagicLine line magic) → begun r ≡ Ok later → FirstIs line later
begun_is None line later is h = absurd cc
begun_is (Some magic) line later is h = begun_by (nat_eq (magic_number magic) wrapper_magic) line magic later (is magic refl) h

pub first_is : (limits : Limits) (t : Bool) (line : List ℕ) (later : Standing) → is_free (content line) ≡ t → (if t then Ok at_start else said limits at_start line) ≡ Ok later → FirstIs line later
first_is limits true line later free h = let e : later ≡ at_start = cc in inl ((spaces line, content line, spaces_are line, says_nothing (content line) free), e)
first_is limits false line later free h = begun_is (magic_of line) line later (λ magic e. magic_is line magic e) h

-- lines have a magic, and then entries that tell a tree
record ListTree (limits : Limits) (lines : List (List ℕ)) (tree : Tree) : Type 0 where
  pub magic : List ℕ
  pub all : List Call
  pub are : AreListing lines magic (entries_told 0 all)
  pub fit : AreFit limits at_top all
  pub is : tree ≡ told_all magic all

first_and_others : (limits : Limits) (line : List ℕ) (others : List (List ℕ)) (later : Standing) (tree : Tree) (read : Standing → Result Tree (TextReason × ℕ)) → FirstIs line later → Good limits later → (read at_start ≡ Ok tree → ListTree limits others tree)
    → ((magic : List ℕ) → Good limits (behind_magic magic []) → read (behind_magic magic []) ≡ Ok tree → TreeOf limits magic [] others tree) → read later ≡ Ok tree → ListTree limits (line ∷ others) tree
first_and_others limits line others later tree read (inl (free, same)) good more items h =
    let p = more (ap read (sym same) ∙ h) in
    record { magic = p.magic; all = p.all; are = inl (free, p.are); fit = p.fit; is = p.is }
first_and_others limits line others later tree read (inr (magic, same, is)) good more items h =
    let p = items magic (subst (Good limits) same good) (ap read (sym same) ∙ h) in
    record { magic = magic; all = p.all; are = inr (is, subst (HaveEntries others) (sym p.told) p.have); fit = p.fit; is = p.is }

first_then : (limits : Limits) (number : ℕ) (r : Result Standing TextReason) (line : List ℕ) (others : List (List ℕ)) (tree : Tree) (read : Standing → Result Tree (TextReason × ℕ))
    → ((later : Standing) → r ≡ Ok later → FirstIs line later × Good limits later) → (read at_start ≡ Ok tree → ListTree limits others tree)
    → ((magic : List ℕ) → Good limits (behind_magic magic []) → read (behind_magic magic []) ≡ Ok tree → TreeOf limits magic [] others tree) → goes_on number r read ≡ Ok tree → ListTree limits (line ∷ others) tree
first_then limits number (Ok later) line others tree read is more items h = let p = is later refl in first_and_others limits line others later tree read p.0 p.1 more items h
first_then limits number (Err reason) line others tree read is more items h = absurd cc

all_lines_are : (limits : Limits) (number : ℕ) (lines : List (List ℕ)) (tree : Tree) → lines_read limits number at_start lines ≡ Ok tree → ListTree limits lines tree
all_lines_are limits number [] tree h = absurd cc
all_lines_are limits number (line ∷ lines) tree h =
    let next = next_line number in
    first_then limits next (after_line limits at_start line) line lines tree (λ later. lines_read limits next later lines)
    (λ later e. (first_is limits (is_free (content line)) line later refl e, line_good limits at_start line later tt e))
    (λ k. all_lines_are limits next lines tree k) (λ magic good k. lines_are limits next magic [] lines tree good k) h

pub lines_list : (limits : Limits) (lines : List (List ℕ)) (tree : Tree) → Capped limits → lines_read limits 0 at_start lines ≡ Ok tree → LinesList limits lines tree
lines_list limits lines tree capped h =
    let p = all_lines_are limits 0 lines tree h in (
      p.magic,
      entries_told 0 p.all,
      p.are,
      record {
        number = sym (ap (λ (t : Tree). t.magic) p.is);
        items = entries_of_told limits p.all p.fit ∙ ap (λ (t : Tree). entries_of 0 t.blocks) (sym p.is);
        fit = lines_fit limits 0 at_start lines tree capped tt h;
      },
    )

pub text_lists : (limits : Limits) (text : List ℕ) (tree : Tree) → Capped limits → reading_of limits text ≡ Ok tree → Lists limits text tree
text_lists limits text tree capped h =
    let p = lines_list limits (lines text) tree capped h in
    (p.0, p.1, (lines text, parts_are 10 text, p.2), p.3)
