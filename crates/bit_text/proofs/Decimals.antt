-- The numbers and the magic of a listing are read back.
use Rattle.std.proofs.Common.{◌≡◌, refl, ℕ, ◌+◌, ◌*◌, ◌^◌, ◌<◌, ◌≤◌, Bool, true, false, nat_eq, nat_lt, List, [], ◌∷◌, ◌++◌, length, Option, None, Ok, if◌then◌else◌, sym, ◌∙◌, ap, arith, append_assoc, append-nil}
use Rattle.std.specs.Prelude.{codes, decimal}
use Rattle.std.specs.Char.{digit_value}
use Rattle.std.specs.List.{AllByRecursion}
use Rattle.std.specs.Str.Parse.{AllDigits, digits_value, digits_value_after}
use Rattle.std.proofs.lemmas.Bool.Decides.{nat_tests}
use Rattle.std.proofs.lemmas.Fmt.{decimal_is_IsNumeral}
use Rattle.bit_grammar.specs.Texts.{values_text}
use Rattle.bit_text.specs.Numbers.{behind, digits, digits_after, parts_after, and_then, number, hexadecimal_or_decimal, numbers_after}
use Rattle.bit_text.proofs.Spelling.{other_byte}

-- ---- one number

pub is_below : (a b : ℕ) → a < b → nat_lt a b ≡ true
is_below a b h = grind (arith, nat_tests)

-- a digit more makes no number of this base smaller
abbrev pub Grows : (base : ℕ) → Type 0
Grows base = (n d : ℕ) → n ≤ n * base + d

pub after_ge : (base : ℕ) → Grows base → (n : ℕ) (ds : List ℕ) → n ≤ digits_value_after base n ds
after_ge base grows n [] = omega arith
after_ge base grows n (c ∷ ds) = omega (arith, grows n (digit_value c), after_ge base grows (n * base + digit_value c) ds)

pub digits_some : (base : ℕ) (text : List ℕ) → 0 < length text → digits base text ≡ digits_after base 0 text
digits_some base [] h = absurd (omega arith)
digits_some base (b ∷ text) h = refl

pub digits_read : (base : ℕ) → Grows base → (n : ℕ) (ds : List ℕ) → AllDigits base ds → digits_value_after base n ds < 2 ^ 64 → digits_after base n ds ≡ Ok (digits_value_after base n ds)
digits_read base grows n [] all small = refl
digits_read base grows n (c ∷ ds) all small =
    let more = after_ge base grows (n * base + digit_value c) ds in
    let digit : nat_lt (digit_value c) base ≡ true = is_below (digit_value c) base all.0 in
    let fits : nat_lt (n * base + digit_value c) (2 ^ 64) ≡ true = is_below (n * base + digit_value c) (2 ^ 64) (omega (arith, more, small)) in
    rw (digit, fits) (digits_read base grows (n * base + digit_value c) ds all.1 small)

pub same_none : (t : Bool) → let none : Option (List ℕ) = None in (if t then none else none) ≡ none
same_none true = refl
same_none false = refl

pub no_x : (d : ℕ) → digit_value d < 10 → d ≡ 120 → ⊥
no_x d h e = let k : digit_value 120 < 10 = rw e at h in absurd (omega (arith, k))

pub not_hexadecimal : (ds : List ℕ) → AllDigits 10 ds → behind (codes "0x") ds ≡ None
not_hexadecimal [] all = refl
not_hexadecimal (c ∷ []) all = same_none (nat_eq c 48)
not_hexadecimal (c ∷ d ∷ ds) all = rw (other_byte d 120 (no_x d all.1.0)) (same_none (nat_eq c 48))

pub decimal_read : (n : ℕ) → n < 2 ^ 64 → number (decimal n) ≡ Ok n
decimal_read n h =
    let is = decimal_is_IsNumeral n h in
    let small : digits_value 10 (decimal n) < 2 ^ 64 = rw is.1 h in
    ap (λ f. hexadecimal_or_decimal f (decimal n)) (not_hexadecimal (decimal n) is.0.1)
    ∙ digits_some 10 (decimal n) is.0.0
    ∙ digits_read 10 (λ n d. omega arith) 0 (decimal n) is.0.1 small
    ∙ ap Ok is.1

-- ---- the numbers of a record

-- a text without this byte
abbrev pub Lacks : (b : ℕ) → List ℕ → Type 0
Lacks b text = AllByRecursion (λ c. c ≡ b → ⊥) text

pub parts_over : (separator : ℕ) (front text rest : List ℕ) → Lacks separator text → parts_after separator front (text ++ rest) ≡ parts_after separator (front ++ text) rest
parts_over separator front [] rest h = ap (λ f. parts_after separator f rest) (sym (append-nil front))
parts_over separator front (b ∷ text) rest h =
    rw (other_byte b separator h.0) (parts_over separator (front ++ b ∷ []) text rest h.1 ∙ ap (λ f. parts_after separator f rest) (append_assoc front (b ∷ []) text))

pub lacks_append : (b : ℕ) (text others : List ℕ) → Lacks b text → Lacks b others → Lacks b (text ++ others)
lacks_append b [] others h k = k
lacks_append b (c ∷ text) others h k = (h.0, lacks_append b text others h.1 k)

no_digit : (b c : ℕ) → 10 ≤ digit_value b → digit_value c < 10 → c ≡ b → ⊥
no_digit b c h k e = let l : digit_value b < 10 = rw e at k in absurd (omega (arith, h, l))

digits_lack : (b : ℕ) (ds : List ℕ) → 10 ≤ digit_value b → AllDigits 10 ds → Lacks b ds
digits_lack b [] h all = tt
digits_lack b (c ∷ ds) h all = (no_digit b c h all.0, digits_lack b ds h all.1)

pub decimal_lacks : (b n : ℕ) → 10 ≤ digit_value b → n < 2 ^ 64 → Lacks b (decimal n)
decimal_lacks b n h small = digits_lack b (decimal n) h (decimal_is_IsNumeral n small).0.1

pub numbers_read : (before : List ℕ) (code : ℕ) (values : List ℕ) → code < 2 ^ 64 → AllByRecursion (λ v. v < 2 ^ 64) values → numbers_after before (parts_after 32 (decimal code) (values_text values)) ≡ Ok (before ++ code ∷ values)
numbers_read before code [] h all = ap (λ r. and_then r (λ n. Ok (before ++ n ∷ []))) (decimal_read code h)
numbers_read before code (v ∷ values) h all =
    let others = parts_after 32 [] (decimal v ++ values_text values) in
    ap (λ r. and_then r (λ n. numbers_after (before ++ n ∷ []) others)) (decimal_read code h)
    ∙ ap (numbers_after (before ++ code ∷ [])) (parts_over 32 [] (decimal v) (values_text values) (decimal_lacks 32 v (omega arith) all.0))
    ∙ numbers_read (before ++ code ∷ []) v values all.0 all.1
    ∙ ap Ok (append_assoc before (code ∷ []) (v ∷ values))
