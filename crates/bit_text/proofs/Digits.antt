-- Numbers whose digits are taken one by one.
use Rattle.std.proofs.Common.{◌≡◌, refl, ℕ, ◌+◌, ◌-◌, ◌*◌, ◌^◌, ◌<◌, ◌≤◌, Bool, true, false, nat_eq, nat_lt, List, [], ◌∷◌, ◌++◌, length, take, drop, get_or, None, Result, Ok, Err, if◌then◌else◌, ◌∙◌, ap, arith}
use Rattle.std.specs.Prelude.{codes}
use Rattle.std.specs.Char.{digit_value}
use Rattle.std.proofs.lemmas.List.{length-drop, length-take-le, at_drop_all}
use Rattle.bit_text.specs.declared.reason.TextReason.{TextReason}
use Rattle.bit_text.specs.declared.reason.TextReason.TheVariants.{BadLine, NumberTooLarge}
use Rattle.bit_text.specs.Numbers.{and_then, behind, digits_after, hexadecimal_or_decimal, number, numbers_after, parts_after, words}
use Rattle.bit_text.specs.Places.{IsNumber, IsWord}
use Rattle.bit_text.proofs.Decimals.{same_none}
use Rattle.bit_text.proofs.Spelling.{other_byte, part_ends, part_goes_on, part_more, too_short}

-- ---- one number

-- what a result says of another, both behind one test
behind_test : (t : Bool) (x y z : Result ℕ TextReason) (m : ℕ) (reason : TextReason) → (x ≡ Ok m → y ≡ z) → (if t then x else Err reason) ≡ Ok m → (if t then y else Err reason) ≡ z
behind_test true x y z m reason f h = f h
behind_test false x y z m reason f h = absurd cc

one_more : (base n m b : ℕ) (ds : List ℕ) → digits_after base n ds ≡ Ok m → digits_after base n (ds ++ b ∷ []) ≡ digits_after base m (b ∷ [])
one_more base n m b [] h = let same : n ≡ m = cc in ap (λ k. digits_after base k (b ∷ [])) same
one_more base n m b (c ∷ ds) h =
    let more = n * base + digit_value c in
    let end = digits_after base m (b ∷ []) in
    let one = digits_after base more ds in
    let two = digits_after base more (ds ++ b ∷ []) in
    let fits = nat_lt more (2 ^ 64) in
    behind_test (nat_lt (digit_value c) base) (if fits then one else Err NumberTooLarge) (if fits then two else Err NumberTooLarge) end m BadLine (behind_test fits one two end m NumberTooLarge (one_more base more m b ds)) h

never : (t u : Bool) (m : ℕ) → (if t then (if u then Err BadLine else Err NumberTooLarge) else Err BadLine) ≡ Ok m → ⊥
never true true m h = cc
never true false m h = cc
never false u m h = cc

-- 32 and 120 are no digits
no_space : (n b m : ℕ) → digits_after 10 n (b ∷ []) ≡ Ok m → b ≡ 32 → ⊥
no_space n b m h e = let k : digits_after 10 n (32 ∷ []) ≡ Ok m = rw e at h in cc

no_x : (c d : ℕ) (word : List ℕ) (m : ℕ) → digits_after 10 0 (c ∷ d ∷ word) ≡ Ok m → d ≡ 120 → ⊥
no_x c d word m h e = never (nat_lt (digit_value c) 10) (nat_lt (0 * 10 + digit_value c) (2 ^ 64)) m (rw e at h)

plain : (word : List ℕ) (n : ℕ) → 0 < length word → digits_after 10 0 word ≡ Ok n → number word ≡ Ok n
plain [] n some h = absurd (omega (arith, some))
plain (c ∷ []) n some h = too_short (c ∷ []) (omega arith) ∙ h
plain (c ∷ d ∷ word) n some h =
    let bare : behind (codes "0x") (c ∷ d ∷ word) ≡ None = rw (other_byte d 120 (no_x c d word n h)) (same_none (nat_eq c 48)) in
    ap (λ f. hexadecimal_or_decimal f (c ∷ d ∷ word)) bare ∙ h

-- ---- the digits of a word

pub no_digits : (text : List ℕ) (from : ℕ) → from ≤ length text → IsNumber text from from 0
no_digits text from h = let none : from - from ≡ 0 = omega arith in record { low = omega arith; high = h; parts = rw none refl; digits = rw none refl }

pub digit_more : (text : List ℕ) (from i n more : ℕ) → i < length text → digits_after 10 n (get_or text i 0 ∷ []) ≡ Ok more → IsNumber text from i n → IsNumber text from (i + 1) more
digit_more text from i n more k digit is = record {
  low = omega (arith, is.low);
  high = omega (arith, k);
  parts = is.parts ∙ part_goes_on 32 text from i is.low k (no_space n (get_or text i 0) more digit);
  digits = ap (digits_after 10 0) (part_more text from i is.low k) ∙ one_more 10 0 n (get_or text i 0) (take (i - from) (drop from text)) is.digits ∙ digit;
}

pub digit_next : (text : List ℕ) (from i j n more : ℕ) → j ≡ i + 1 → i < length text → digits_after 10 n (get_or text i 0 ∷ []) ≡ Ok more → IsNumber text from i n → IsNumber text from j more
digit_next text from i j n more e k digit is = rw e (digit_more text from i n more k digit is)

pub word_there : (text : List ℕ) (from to n : ℕ) → get_or text to 0 ≡ 32 → IsNumber text from to n → IsWord text from to n
word_there text from to n same is = record { number = is; ends = λ a b. same }

-- ---- the numbers of a text

-- numbers of a text are read, and the next word begins here; or all are read, and this is behind its end
pub record Reading (text read : List ℕ) (from : ℕ) : Type 0 where
  pub within : from ≤ length text + 1
  pub rest : from ≤ length text → numbers_after [] (words text) ≡ numbers_after read (words (drop from text))
  pub done : length text < from → numbers_after [] (words text) ≡ Ok read

added : (text read : List ℕ) (n from to : ℕ) (others : List (List ℕ)) → from < to → IsNumber text from to n → numbers_after read (take (to - from) (drop from text) ∷ others) ≡ numbers_after (read ++ n ∷ []) others
added text read n from to others some is =
    let few : to - from ≤ length (drop from text) = simp length-drop (omega (arith, is.high)) in
    let long : 0 < length (take (to - from) (drop from text)) = rw (length-take-le (to - from) (drop from text) few) (omega (arith, some)) in
    ap (λ w. and_then w (λ m. numbers_after (read ++ m ∷ []) others)) (plain (take (to - from) (drop from text)) n long is.digits)

pub word_done : (text read : List ℕ) (n from to next : ℕ) → next ≡ to + 1 → from < to → IsWord text from to n → Reading text read from → Reading text (read ++ n ∷ []) next
word_done text read n from to next e some is r =
    let start = r.rest (omega (arith, some, is.number.high)) ∙ ap (numbers_after read) is.number.parts in
    rw e (record {
      within = omega (arith, is.number.high);
      rest = λ h. start ∙ ap (numbers_after read) (part_ends 32 text (take (to - from) (drop from text)) to (omega (arith, h)) (is.ends some (omega (arith, h)))) ∙ added text read n from to (words (drop (to + 1) text)) some is.number;
      done = λ h. start ∙ at_drop_all (λ (d : List ℕ). numbers_after read (parts_after 32 (take (to - from) (drop from text)) d)) text to (omega (arith, h)) ∙ added text read n from to [] some is.number;
    })
