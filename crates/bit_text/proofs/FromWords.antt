-- What the words of the format say of a line is read there.
use Rattle.std.proofs.Common.{◌≡◌, refl, ℕ, zero, suc, ◌^◌, ◌<◌, Bool, true, false, nat_eq, List, [], ◌∷◌, ◌++◌, length, drop, replicate, Option, Some, Result, Ok, inl, inr, if◌then◌else◌, sym, ◌∙◌, ap, arith, append_assoc, append-nil}
use Rattle.std.specs.Prelude.{codes, flat_map}
use Rattle.std.specs.List.{AllByRecursion}
use Rattle.std.specs.Str.Parse.{digits_value_after}
use Rattle.bit_grammar.specs.Texts.{hex_text}
use Rattle.bit_grammar.specs.FormatListing.{AreParts, IsNumber, SpellEach, SpellsNumbers, Item, of_block, of_record, IsItem, IsFree, IsFreeLine, IsMagicLine}
use Rattle.bit_norm.specs.Telling.{Call}
use Rattle.bit_text.specs.declared.reason.TextReason.{TextReason}
use Rattle.bit_text.specs.Numbers.{and_then, hexadecimal_or_decimal, number, numbers_after, parts_after, words}
use Rattle.bit_text.specs.Lines.{spaces, content, is_free, magic_of, item_of, record_of, block_of}
use Rattle.bit_text.specs.Listings.{Standing, said, after_line}
use Rattle.bit_grammar.specs.Blocks.{Limits}
use Rattle.bit_text.proofs.Decimals.{Lacks, digits_read, digits_some, not_hexadecimal, parts_over, is_below}
use Rattle.bit_text.proofs.Entries.{called}
use Rattle.bit_text.proofs.Spelling.{same_byte}
use Rattle.bit_text.proofs.Written.{byte_back, content_of, dropped}

-- ---- parts

-- parts with a separator before each
abbrev pub behind_each : (separator : ℕ) → List (List ℕ) → List ℕ
behind_each separator parts = flat_map (λ part. separator ∷ part) parts

joined_parts : (separator : ℕ) (part : List ℕ) (parts : List (List ℕ)) → Lacks separator part → AllByRecursion (λ p. Lacks separator p) parts → parts_after separator [] (part ++ behind_each separator parts) ≡ part ∷ parts
joined_parts separator part [] lacks all = parts_over separator [] part [] lacks
joined_parts separator part (other ∷ parts) lacks all =
    let rest = other ++ behind_each separator parts in
    parts_over separator [] part (separator ∷ rest) lacks
    ∙ ap (λ (t : Bool). if t then part ∷ parts_after separator [] rest else parts_after separator (part ++ separator ∷ []) rest) (same_byte separator separator refl)
    ∙ ap (λ (ps : List (List ℕ)). part ∷ ps) (joined_parts separator other parts all.0 all.1)

tail_same : (b : ℕ) (s t : List ℕ) → b ∷ s ≡ b ∷ t → s ≡ t
tail_same b s t h = cc

-- a text has only these parts
pub only_parts : (separator : ℕ) (text : List ℕ) (parts : List (List ℕ)) → AreParts separator text parts → parts_after separator [] text ≡ parts
only_parts separator text [] is = let e = is.joined in absurd cc
only_parts separator text (part ∷ parts) is =
    ap (parts_after separator []) (tail_same separator text (part ++ behind_each separator parts) is.joined) ∙ joined_parts separator part parts is.apart.0 is.apart.1

-- ---- numbers

pub number_read : (word : List ℕ) (n : ℕ) → IsNumber word n → number word ≡ Ok n
number_read word n (inl is, small) =
    let below : digits_value_after 10 0 word < 2 ^ 64 = rw is.value small in
    ap (λ (f : Option (List ℕ)). hexadecimal_or_decimal f word) (not_hexadecimal word is.digits)
    ∙ digits_some 10 word is.some
    ∙ digits_read 10 (λ n d. omega arith) 0 word is.digits below
    ∙ ap Ok is.value
number_read word n (inr (text, same, is), small) =
    let below : digits_value_after 16 0 text < 2 ^ 64 = rw is.value small in
    ap number same
    ∙ digits_some 16 text is.some
    ∙ digits_read 16 (λ n d. omega arith) 0 text is.digits below
    ∙ ap Ok is.value

each_read : (before : List ℕ) (parts : List (List ℕ)) (ns : List ℕ) → SpellEach parts ns → numbers_after before parts ≡ Ok (before ++ ns)
each_read before [] ns is = ap Ok (sym (append-nil before) ∙ ap (λ (ms : List ℕ). before ++ ms) (sym is))
each_read before (word ∷ parts) ns (n, others, same, first, rest) =
    ap (λ r. and_then r (λ m. numbers_after (before ++ m ∷ []) parts)) (number_read word n first)
    ∙ each_read (before ++ n ∷ []) parts others rest
    ∙ ap Ok (append_assoc before (n ∷ []) others ∙ ap (λ (ms : List ℕ). before ++ ms) (sym same))

pub numbers_read : (text ns : List ℕ) → SpellsNumbers text ns → numbers_after [] (words text) ≡ Ok ns
numbers_read text ns (parts, are, is) = ap (numbers_after []) (only_parts 32 text parts are) ∙ each_read [] parts ns is

-- ---- items

-- this is read of a text, which begins neither with a space nor as a comment
pub record BeginsItem (text : List ℕ) (found : Result Call TextReason) : Type 0 where
  pub first : ℕ
  pub rest : List ℕ
  pub same : text ≡ first ∷ rest
  pub no_space : nat_eq first 32 ≡ false
  pub no_comment : nat_eq first 35 ≡ false
  pub read : item_of (first ∷ rest) ≡ found

pub item_read : (text : List ℕ) (item : Item) → IsItem text item → BeginsItem text (Ok (called item))
item_read text (of_block id) (numbers, same, is, small) = record {
  first = 98;
  rest = 108 ∷ 111 ∷ 99 ∷ 107 ∷ 32 ∷ numbers;
  same = same;
  no_space = refl;
  no_comment = refl;
  read = ap (λ r. and_then r block_of) (numbers_read numbers (id ∷ []) is) ∙ rw (is_below id (2 ^ 32) small) refl;
}
item_read text (of_record code values) (numbers, same, is) = record {
  first = 114;
  rest = 101 ∷ 99 ∷ 111 ∷ 114 ∷ 100 ∷ 32 ∷ numbers;
  same = same;
  no_space = refl;
  no_comment = refl;
  read = ap (λ r. and_then r record_of) (numbers_read numbers (code ∷ values) is);
}

-- ---- lines

only_spaces : (n : ℕ) → spaces (replicate n 32 ++ []) ≡ n
only_spaces zero = refl
only_spaces (suc n) = ap suc (only_spaces n)

free_content : (n : ℕ) (text : List ℕ) → IsFree text → is_free (content (replicate n 32 ++ text)) ≡ true
free_content n [] free = ap (λ (k : ℕ). is_free (drop k (replicate n 32 ++ []))) (only_spaces n) ∙ ap is_free (dropped n [])
free_content n (b ∷ text) free =
    let other : nat_eq b 32 ≡ false = rw free refl in
    ap is_free (content_of n b text other) ∙ same_byte b 35 free

pub free_read : (limits : Limits) (now : Standing) (line : List ℕ) → IsFreeLine line → after_line limits now line ≡ Ok now
free_read limits now line (n, text, same, free) =
    ap (λ (t : Bool). if t then Ok now else said limits now line) (ap (λ (l : List ℕ). is_free (content l)) same ∙ free_content n text free)

-- ---- the magic

magic_text_read : (magic : List ℕ) → length magic ≡ 4 → AllByRecursion (λ b. b < 256) magic → magic_of (codes "magic " ++ flat_map hex_text magic) ≡ Some magic
magic_text_read (a ∷ b ∷ c ∷ d ∷ []) four small = rw (byte_back a small.0, byte_back b small.1.0, byte_back c small.1.1.0, byte_back d small.1.1.1.0) refl
magic_text_read [] four small = absurd (omega (arith, four))
magic_text_read (a ∷ []) four small = absurd (omega (arith, four))
magic_text_read (a ∷ b ∷ []) four small = absurd (omega (arith, four))
magic_text_read (a ∷ b ∷ c ∷ []) four small = absurd (omega (arith, four))
magic_text_read (a ∷ b ∷ c ∷ d ∷ e ∷ magic) four small = absurd (omega (arith, four))

pub magic_read_of : (line magic : List ℕ) → IsMagicLine line magic → magic_of line ≡ Some magic
magic_read_of line magic is = ap magic_of is.text ∙ magic_text_read magic is.four is.bytes

pub magic_not_free : (line magic : List ℕ) → IsMagicLine line magic → is_free (content line) ≡ false
magic_not_free line magic is = ap (λ (l : List ℕ). is_free (content l)) is.text
