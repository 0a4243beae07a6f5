-- Parts of texts, and numbers.
use Rattle.std.proofs.Common.{◌≡◌, refl, ℕ, ◌+◌, ◌-◌, ◌<◌, ◌≤◌, Bool, true, false, nat_eq, ◌&&◌, List, [], ◌∷◌, ◌++◌, length, take, drop, get_or, Option, Some, None, Result, Ok, Err, MatchOption, IfSome, Bor, if◌then◌else◌, sym, ◌∙◌, ap, arith}
use Rattle.std.specs.Cmp.Lexicographic.{pointwise}
use Rattle.std.proofs.lemmas.List.{length-drop, take_more, get_or-drop, at_drop_more}
use Rattle.std.proofs.lemmas.Bool.Decides.{nat_tests}
use Rattle.bit_text.specs.declared.reason.TextReason.{TextReason}
use Rattle.bit_text.specs.Numbers.{behind, digits, parts_after, words, and_then, number, hexadecimal_or_decimal, numbers_after}
use Rattle.bit_text.specs.Stops.{ReadsNumbers}
use Rattle.bit_text.specs.declared.numbers.Stop.{Stop}
use Rattle.bit_text.specs.declared.numbers.Stop.TheVariants.{Refused, Memory}

-- ---- fronts

none_so : (t rest : Bool) (r : Option (List ℕ)) → (rest ≡ false → r ≡ None) → (t && rest) ≡ false → (if t then r else None) ≡ None
none_so true rest r f h = f h
none_so false rest r f h = refl

some_so : (t rest : Bool) (r : Option (List ℕ)) (after : List ℕ) → (rest ≡ true → r ≡ Some after) → (t && rest) ≡ true → (if t then r else None) ≡ Some after
some_so true rest r after f h = f h
some_so false rest r after f h = absurd cc

behind_none : (front text : List ℕ) → pointwise nat_eq (take (length front) text) front ≡ false → behind front text ≡ None
behind_none [] text h = absurd cc
behind_none (c ∷ front) [] h = refl
behind_none (c ∷ front) (b ∷ text) h = none_so (nat_eq b c) (pointwise nat_eq (take (length front) text) front) (behind front text) (behind_none front text) h

behind_some : (front text : List ℕ) → pointwise nat_eq (take (length front) text) front ≡ true → behind front text ≡ Some (drop (length front) text)
behind_some [] text h = refl
behind_some (c ∷ front) [] h = absurd cc
behind_some (c ∷ front) (b ∷ text) h = some_so (nat_eq b c) (pointwise nat_eq (take (length front) text) front) (behind front text) (drop (length front) text) (behind_some front text) h

pub behind_is : (front text : List ℕ) (r : Option (Bor (List ℕ))) → MatchOption r (pointwise nat_eq (take (length front) text) front ≡ false) (λ x. (pointwise nat_eq (take (length front) text) front ≡ true) × (x.now ≡ drop (length front) text) × (length x.now + length front ≡ length text)) → MatchOption r (behind front text ≡ None) (λ rest. behind front text ≡ Some rest.now)
behind_is front text None h = behind_none front text h
behind_is front text (Some x) h = behind_some front text h.0 ∙ ap Some (sym h.1)

pub after_is : (front text : List ℕ) (r : Option (Bor (List ℕ))) → MatchOption r (pointwise nat_eq (take (length front) text) front ≡ false) (λ x. (pointwise nat_eq (take (length front) text) front ≡ true) × (x.now ≡ drop (length front) text) × (length x.now + length front ≡ length text)) → IfSome r (λ rest. (rest.now ≡ drop (length front) text) × (length rest.now + length front ≡ length text))
after_is front text None h = tt
after_is front text (Some x) h = (h.1, h.2)

-- ---- parts

pub part_more : (text : List ℕ) (from i : ℕ) → from ≤ i → i < length text → take (i + 1 - from) (drop from text) ≡ take (i - from) (drop from text) ++ get_or text i 0 ∷ []
part_more text from i h k =
    let e : i + 1 - from ≡ i - from + 1 = omega arith in
    let few : i - from < length (drop from text) = simp length-drop (omega arith) in
    let at : from + (i - from) ≡ i = omega arith in
    rw e (take_more (drop from text) (i - from) 0 few ∙ ap (λ b. take (i - from) (drop from text) ++ b ∷ []) (get_or-drop from text (i - from) 0 ∙ ap (λ k. get_or text k 0) at))

pub same_byte : (b c : ℕ) → b ≡ c → nat_eq b c ≡ true
same_byte b c h = grind (arith, nat_tests)

pub other_byte : (b c : ℕ) → (b ≡ c → ⊥) → nat_eq b c ≡ false
other_byte b c h = grind (arith, nat_tests)

pub part_goes_on : (separator : ℕ) (text : List ℕ) (from i : ℕ) → from ≤ i → i < length text → (get_or text i 0 ≡ separator → ⊥)
    → parts_after separator (take (i - from) (drop from text)) (drop i text) ≡ parts_after separator (take (i + 1 - from) (drop from text)) (drop (i + 1) text)
part_goes_on separator text from i h k other =
    let front = take (i - from) (drop from text) in
    let b = get_or text i 0 in
    let rest = drop (i + 1) text in
    at_drop_more (parts_after separator front) text i 0 k
    ∙ ap (λ t. if t then front ∷ parts_after separator [] rest else parts_after separator (front ++ b ∷ []) rest) (other_byte b separator other)
    ∙ ap (λ f. parts_after separator f rest) (sym (part_more text from i h k))

pub part_ends : (separator : ℕ) (text front : List ℕ) (i : ℕ) → i < length text → get_or text i 0 ≡ separator
    → parts_after separator front (drop i text) ≡ front ∷ parts_after separator [] (drop (i + 1) text)
part_ends separator text front i k same =
    let b = get_or text i 0 in
    let rest = drop (i + 1) text in
    at_drop_more (parts_after separator front) text i 0 k
    ∙ ap (λ t. if t then front ∷ parts_after separator [] rest else parts_after separator (front ++ b ∷ []) rest) (same_byte b separator same)

-- ---- numbers

last_read : (word : Result ℕ TextReason) (before read : List ℕ) (others : List (List ℕ)) → and_then word (λ n. Ok (before ++ n ∷ [])) ≡ Ok read → and_then word (λ n. numbers_after (before ++ n ∷ []) others) ≡ numbers_after read others
last_read (Ok n) before read others h = let e : before ++ n ∷ [] ≡ read = cc in ap (λ ns. numbers_after ns others) e
last_read (Err reason) before read others h = absurd cc

last_refused : (word : Result ℕ TextReason) (before : List ℕ) (reason : TextReason) (others : List (List ℕ)) → and_then word (λ n. Ok (before ++ n ∷ [])) ≡ Err reason → and_then word (λ n. numbers_after (before ++ n ∷ []) others) ≡ Err reason
last_refused (Ok n) before reason others h = absurd cc
last_refused (Err r) before reason others h = let e : r ≡ reason = cc in ap Err e

-- the numbers of a text behind those before it, of whose words these are read and the next begins here
abbrev pub NumbersFrom : (before text read : List ℕ) (from i : ℕ) → Type 0
NumbersFrom before text read from i = numbers_after before (words text) ≡ numbers_after read (parts_after 32 (take (i - from) (drop from text)) (drop i text))

pub word_goes_on : (before text read : List ℕ) (from i : ℕ) → from ≤ i → i < length text → (get_or text i 0 ≡ 32 → ⊥) → NumbersFrom before text read from i → NumbersFrom before text read from (i + 1)
word_goes_on before text read from i h k other far = far ∙ ap (numbers_after read) (part_goes_on 32 text from i h k other)

pub word_read : (before text read more : List ℕ) (from i : ℕ) → i < length text → get_or text i 0 ≡ 32 → numbers_after read (take (i - from) (drop from text) ∷ []) ≡ Ok more → NumbersFrom before text read from i → NumbersFrom before text more (i + 1) (i + 1)
word_read before text read more from i k same word far =
    let front = take (i - from) (drop from text) in
    let others = parts_after 32 [] (drop (i + 1) text) in
    let none : i + 1 - (i + 1) ≡ 0 = omega arith in
    rw none (far ∙ ap (numbers_after read) (part_ends 32 text front i k same) ∙ last_read (number front) read more others word)

pub word_refused : (before text read : List ℕ) (reason : TextReason) (from i : ℕ) → i < length text → get_or text i 0 ≡ 32 → numbers_after read (take (i - from) (drop from text) ∷ []) ≡ Err reason → NumbersFrom before text read from i → numbers_after before (words text) ≡ Err reason
word_refused before text read reason from i k same word far =
    let front = take (i - from) (drop from text) in
    let others = parts_after 32 [] (drop (i + 1) text) in
    far ∙ ap (numbers_after read) (part_ends 32 text front i k same) ∙ last_refused (number front) read reason others word

pub word_stopped : (before text read more : List ℕ) (stop : Stop) (from i : ℕ) → i < length text → get_or text i 0 ≡ 32 → ReadsNumbers (numbers_after read (take (i - from) (drop from text) ∷ [])) (Err stop) more → NumbersFrom before text read from i → ReadsNumbers (numbers_after before (words text)) (Err stop) more
word_stopped before text read more (Refused reason) from i k same word far = word_refused before text read reason from i k same word far
word_stopped before text read more Memory from i k same word far = tt

-- ---- no hexadecimal number

pub too_short : (word : List ℕ) → length word < 2 → number word ≡ digits 10 word
too_short [] h = refl
too_short (b ∷ []) h = by (nat_eq b 48)
  where
    by : (t : Bool) → hexadecimal_or_decimal (if t then None else None) (b ∷ []) ≡ digits 10 (b ∷ [])
    by true = refl
    by false = refl
too_short (b ∷ c ∷ word) h = absurd (omega (arith, h))

pub not_zero_first : (word : List ℕ) → (get_or word 0 0 ≡ 48 → ⊥) → number word ≡ digits 10 word
not_zero_first [] h = refl
not_zero_first (b ∷ word) h = rw (other_byte b 48 h) refl
