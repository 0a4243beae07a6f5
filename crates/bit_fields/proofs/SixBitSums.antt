-- The numbers that end in each chunk of six bits of a word, counted by one product.
use Rattle.std.proofs.Common.{◌≡◌, ℕ, zero, suc, ◌+◌, ◌*◌, ◌-◌, ◌/◌, ◌%◌, ◌^◌, ◌<◌, ◌≤◌, Bool, true, false, eqb, List, [], ◌∷◌, length, refl, sym, ap, ◌∙◌, subst, arith, bit_and, inl, inr}
use Rattle.std.specs.Int.{w64, bit_at, bit_not, trailing_zeros}
use Rattle.std.proofs.lemmas.Bool.{cases_lt, eqb-true}
use Rattle.std.proofs.lemmas.Nat.{shr-shr, pow-add, pow_pos, and_block, and-not, and_le_r, and_mask, and_mod, mod_low, leading_length, ones_cat, shl-shr}
use Rattle.std.specs.Int.Count.{count_leading_zeros}
use Rattle.std.specs.Int.RustNames.{count_ones}
use Rattle.std.proofs.lemmas.Nat.Bits.{and_pow, bit_at_not, bit_at-lt, bit_at-trailing_zeros}
use Rattle.std.proofs.Math.Nat.{mod-eq_of_lt}
use Rattle.std.proofs.Math.Pow.{pow_mono, mod-mod-pow}
use Rattle.bit_grammar.specs.Bits.{bit}
use Rattle.bit_fields.specs.Short.{EndsChunks}
use Rattle.bit_fields.specs.SixBits.{Begins, NoneFollows}
use Rattle.bit_fields.specs.SixEnds.{EndsWith, Runs, lasts, tops}
use Rattle.bit_fields.proofs.SixBits.{length-lasts, runs_within, runs_many, runs_none, begins}

-- the lowest bit of each of k chunks
abbrev pub ones : ℕ → ℕ
ones zero = 0
ones (suc k) = 1 + 64 * ones k

-- the lowest bit of each chunk that ends a number
abbrev pub marked : List Bool → ℕ
marked [] = 0
marked (last ∷ ends) = bit last + 64 * marked ends

-- how many numbers end
abbrev pub ended : List Bool → ℕ
ended [] = 0
ended (last ∷ ends) = bit last + ended ends

-- in each chunk, how many numbers end there or before, and `before` more
abbrev pub sums : (before : ℕ) → List Bool → ℕ
sums before [] = 0
sums before (last ∷ ends) = before + bit last + 64 * sums (before + bit last) ends

pub bit_most : (b : Bool) → bit b ≤ 1
bit_most true = omega arith
bit_most false = omega arith

pub six_more : (n : ℕ) → 2 ^ (6 * suc n) ≡ 64 * 2 ^ (6 * n)
six_more n = let e : 6 * suc n ≡ 6 + 6 * n = omega arith in ap (λ (k : ℕ). 2 ^ k) e ∙ pow-add 2 6 (6 * n)

-- ---- the marks of a word

-- the top bits of one chunk and of those above it
tops_apart : (k high low : ℕ) → low < 64 → bit_and (high * 64 + low) (tops (suc k)) ≡ bit_and high (tops k) * 64 + (low / 32 % 2) * 32
tops_apart k high low lt = and_block 6 high (tops k) low 32 lt (omega arith) ∙ ap (λ (x : ℕ). bit_and high (tops k) * 64 + x) (and_pow low 5)

pub bit-eqb_none : (r : ℕ) → r < 2 → r + bit (eqb r 0) ≡ 1
bit-eqb_none zero lt = refl
bit-eqb_none (suc zero) lt = refl
bit-eqb_none (suc (suc r)) lt = absurd (omega (arith, lt))

-- each top bit is set, or marked
tops_marked : (k word : ℕ) → bit_and word (tops k) + 32 * marked (lasts k word) ≡ tops k
tops_marked zero word = none (bit_and word 0) (and_zero word)
  where
    none : (x : ℕ) → x ≡ 0 → x + 32 * 0 ≡ 0
    none x is = omega (arith, is)

    and_zero : (word : ℕ) → bit_and word 0 ≡ 0
    and_zero word = let one : word % 1 ≡ 0 = omega arith in and_mask word 0 ∙ one
tops_marked (suc k) word =
    let parts : word ≡ word / 64 * 64 + word % 64 = omega arith in
    let same : word % 64 / 32 % 2 ≡ word / 32 % 2 = omega arith in
    let apart : bit_and word (tops (suc k)) ≡ bit_and (word / 64) (tops k) * 64 + (word % 64 / 32 % 2) * 32 = ap (λ (w : ℕ). bit_and w (tops (suc k))) parts ∙ tops_apart k (word / 64) (word % 64) (omega arith) in
    omega (arith, apart, same, tops_marked k (word / 64), bit-eqb_none (word / 32 % 2) (omega arith))

pub ends_marked : (k word ends : ℕ) → tops k < 2 ^ 64 → word < 2 ^ 64 → ends ≡ bit_and (2 ^ 64 - 1 - word) (tops k) → ends ≡ 32 * marked (lasts k word)
ends_marked k word ends small fits is =
    let both : bit_and (2 ^ 64 - 1 - word) (tops k) + bit_and word (tops k) ≡ tops k = and-not 64 word (tops k) fits small in
    only ends (bit_and (2 ^ 64 - 1 - word) (tops k)) (bit_and word (tops k)) (32 * marked (lasts k word)) (tops k) is both (tops_marked k word)
  where
    only : (ends not_there there marks all : ℕ) → ends ≡ not_there → not_there + there ≡ all → there + marks ≡ all → ends ≡ marks
    only ends not_there there marks all is one other = omega (arith, is, one, other)

-- ---- the product

ones_next : (k : ℕ) → ones k + 2 ^ (6 * k) ≡ 1 + 64 * ones k
ones_next zero = refl
ones_next (suc k) = omega (arith, ones_next k, six_more k)

product_step : (a e n p s q : ℕ) → n + p ≡ 1 + 64 * n → (a + e) * n ≡ s + p * q → (a + 64 * e) * (1 + 64 * n) ≡ a + 64 * s + 64 * p * (q + e)
product_step a e n p s q next is =
    let swapped : e * (n + p) ≡ e * (1 + 64 * n) = ap (λ (x : ℕ). e * x) next in
    omega (arith, swapped, is)

product_sums : (ends : List Bool) (before : ℕ) → (high : ℕ) × ((before + marked ends) * ones (length ends) ≡ sums before ends + 2 ^ (6 * length ends) * high)
product_sums [] before = (0, omega arith)
product_sums (last ∷ ends) before =
    let later = product_sums ends (before + bit last) in
    let step = product_step (before + bit last) (marked ends) (ones (length ends)) (2 ^ (6 * length ends)) (sums (before + bit last) ends) later.0 (ones_next (length ends)) later.1 in
    (later.0 + marked ends, rw six_more (ap (λ (x : ℕ). x * ones (suc (length ends))) (let e : before + (bit last + 64 * marked ends) ≡ before + bit last + 64 * marked ends = omega arith in e) ∙ step))

sums_below : (ends : List Bool) (before : ℕ) → before + length ends < 64 → sums before ends < 2 ^ (6 * length ends)
sums_below [] before few = omega arith
sums_below (last ∷ ends) before few = omega (arith, few, bit_most last, sums_below ends (before + bit last) (omega (arith, few, bit_most last)), six_more (length ends))

pub sums_are : (word ends sum : ℕ) → ends ≡ 32 * marked (lasts 9 word) → sum ≡ bit_and (ends / 2 ^ 5 * ones 9 % 2 ^ 64) (2 ^ 54 - 1) → sum ≡ sums 0 (lasts 9 word)
sums_are word ends sum ends_is sum_is =
    let marks : List Bool = lasts 9 word in
    let shifted : ends / 2 ^ 5 ≡ 0 + marked marks = shift (marked marks) ends ends_is in
    let product = product_sums marks 0 in
    let whole : (0 + marked marks) * ones 9 ≡ product.0 * 2 ^ 54 + sums 0 marks = turned (sums 0 marks) product.0 ((0 + marked marks) * ones 9) product.1 in
    sum_is ∙ and_mask (ends / 2 ^ 5 * ones 9 % 2 ^ 64) 54 ∙ mod-mod-pow (ends / 2 ^ 5 * ones 9) 10 54 ∙ ap (λ (x : ℕ). x * ones 9 % 2 ^ 54) shifted ∙ ap (λ (x : ℕ). x % 2 ^ 54) whole ∙ mod_low product.0 54 (sums 0 marks) (sums_below marks 0 (omega arith))
  where
    shift : (marks ends : ℕ) → ends ≡ 32 * marks → ends / 2 ^ 5 ≡ 0 + marks
    shift marks ends is = omega (arith, is)

    turned : (low high all : ℕ) → all ≡ low + 2 ^ 54 * high → all ≡ high * 2 ^ 54 + low
    turned low high all is = omega (arith, is)

-- ---- all numbers

last_sum : (n : ℕ) (ends : List Bool) (before : ℕ) → length ends ≡ suc n → before + length ends < 64 → sums before ends / 2 ^ (6 * n) ≡ before + ended ends
last_sum n [] before many few = absurd (omega (arith, many))
last_sum zero (last ∷ []) before many few = omega arith
last_sum zero (last ∷ other ∷ ends) before many few = absurd (omega (arith, many))
last_sum (suc n) (last ∷ ends) before many few =
    let rest : ℕ = sums (before + bit last) ends in
    let place : 6 + 6 * n ≡ 6 * suc n = omega arith in
    let low : (before + bit last + 64 * rest) / 64 ≡ rest = above (before + bit last) rest (omega (arith, few, bit_most last)) in
    let later = last_sum n ends (before + bit last) (omega (arith, many)) (omega (arith, few, bit_most last)) in
    ap (λ (i : ℕ). (before + bit last + 64 * rest) / 2 ^ i) (sym place) ∙ sym (shr-shr (before + bit last + 64 * rest) 6 (6 * n)) ∙ ap (λ (x : ℕ). x / 2 ^ (6 * n)) low ∙ later ∙ omega arith
  where
    above : (low high : ℕ) → low < 64 → (low + 64 * high) / 64 ≡ high
    above low high lt = omega (arith, lt)

pub total_is : (word sum total : ℕ) → sum ≡ sums 0 (lasts 9 word) → total ≡ sum / 2 ^ 48 → total ≡ ended (lasts 9 word)
total_is word sum total sum_is is = is ∙ ap (λ (x : ℕ). x / 2 ^ 48) sum_is ∙ last_sum 8 (lasts 9 word) 0 refl (omega arith) ∙ omega arith

-- the chunks up to the last one that ends a number
pub record Last (ends : List Bool) : Type 0 where
  pub chunks : ℕ
  pub runs : Runs ends (ended ends) chunks
  pub below : 32 * marked ends < 2 ^ (6 * chunks)
  pub some : 0 < chunks → 2 ^ (6 * chunks) ≤ 64 * marked ends

last_one : (last : Bool) (ends : List Bool) (r : Last ends) → (chunks : ℕ) → r.chunks ≡ chunks → Last (last ∷ ends)
last_one last ends r (suc chunks) is =
    let later : Runs ends (ended ends) (suc chunks) = subst (Runs ends (ended ends)) is r.runs in
    let power = ap (λ (k : ℕ). 2 ^ (6 * k)) is in
    let most : 32 * marked ends < 2 ^ (6 * suc chunks) = subst (λ (x : ℕ). 32 * marked ends < x) power r.below in
    let least : 2 ^ (6 * suc chunks) ≤ 64 * marked ends = subst (λ (x : ℕ). x ≤ 64 * marked ends) power (r.some (omega (arith, is))) in
    record {
      chunks = suc (suc chunks);
      runs = longer last later;
      below = omega (arith, most, bit_most last, six_more (suc chunks));
      some = λ some. omega (arith, least, six_more (suc chunks));
    }
  where
    longer : (last : Bool) → Runs ends (ended ends) (suc chunks) → Runs (last ∷ ends) (bit last + ended ends) (suc (suc chunks))
    longer true h = (ended ends, omega arith, h)
    longer false h = (omega arith, subst (λ (n : ℕ). Runs ends n (suc chunks)) (let e : ended ends ≡ 0 + ended ends = omega arith in e) h)
last_one true ends r zero is =
    let none : Runs ends (ended ends) 0 = subst (Runs ends (ended ends)) is r.runs in
    let empty : 32 * marked ends < 1 = subst (λ (k : ℕ). 32 * marked ends < 2 ^ (6 * k)) is r.below in
    record { chunks = 1; runs = (ended ends, omega arith, none); below = omega (arith, empty); some = λ some. omega arith }
last_one false ends r zero is =
    let none : ended ends ≡ 0 = subst (Runs ends (ended ends)) is r.runs in
    let empty : 32 * marked ends < 1 = subst (λ (k : ℕ). 32 * marked ends < 2 ^ (6 * k)) is r.below in
    record { chunks = 0; runs = omega (arith, none); below = omega (arith, empty); some = λ some. absurd (omega (arith, some)) }

pub last_of : (ends : List Bool) → Last ends
last_of [] = record { chunks = 0; runs = refl; below = omega arith; some = λ some. absurd (omega (arith, some)) }
last_of (last ∷ ends) = let r = last_of ends in last_one last ends r r.chunks refl

-- chunks of a number end one
ended_some : (k chunks word : ℕ) → chunks ≤ k → EndsChunks 5 chunks word → 1 ≤ ended (lasts k word)
ended_some k zero word few ends = absurd ends
ended_some zero (suc chunks) word few ends = absurd (omega (arith, few))
ended_some (suc k) (suc zero) word few ends = omega (arith, bit-eqb_none (word / 32 % 2) (omega arith), ends)
ended_some (suc k) (suc (suc chunks)) word few ends = omega (arith, ended_some k (suc chunks) (word / 64) (omega (arith, few)) ends.1)

ended_next : (last : Bool) (marks : List Bool) (count chunks after : ℕ) → ((others : ℕ) → Runs marks others chunks → ended marks ≡ others + after) → Runs (last ∷ marks) count (suc chunks) → ended (last ∷ marks) ≡ count + after
ended_next true marks count chunks after later h = omega (arith, later h.0 h.2, h.1)
ended_next false marks count chunks after later h = omega (arith, later count h.1)

-- how many end after some numbers
pub ended_after : (k count chunks more word : ℕ) → k ≡ chunks + more → Runs (lasts k word) count chunks → ended (lasts k word) ≡ count + ended (lasts more (word / 2 ^ (6 * chunks)))
ended_after k count zero more word k_is h =
    let same : k ≡ more = omega (arith, k_is) in
    let here : word ≡ word / 2 ^ (6 * 0) = omega arith in
    let all : ended (lasts k word) ≡ ended (lasts more (word / 2 ^ (6 * 0))) = ap (λ (n : ℕ). ended (lasts n word)) same ∙ ap (λ (w : ℕ). ended (lasts more w)) here in
    omega (arith, all, h)
ended_after zero count (suc chunks) more word k_is h = absurd h
ended_after (suc k) count (suc chunks) more word k_is h =
    let place : 6 + 6 * chunks ≡ 6 * suc chunks = omega arith in
    let behind : word / 64 / 2 ^ (6 * chunks) ≡ word / 2 ^ (6 * suc chunks) = shr-shr word 6 (6 * chunks) ∙ ap (λ (i : ℕ). word / 2 ^ i) place in
    ended_next (eqb (word / 32 % 2) 0) (lasts k (word / 64)) count chunks (ended (lasts more (word / 2 ^ (6 * suc chunks))))
    (λ others runs. ended_after k others chunks more (word / 64) (omega (arith, k_is)) runs ∙ ap (λ (w : ℕ). others + ended (lasts more w)) behind) h

none_follows : (word chunks bits : ℕ) → Runs (lasts 9 word) (ended (lasts 9 word)) chunks → bits ≡ 6 * chunks → NoneFollows word bits
unfolding NoneFollows
none_follows word chunks bits runs is = λ more within ends.
    let nine : chunks ≤ 9 = runs_within (lasts 9 word) (ended (lasts 9 word)) chunks runs in
    let after = ended_after 9 (ended (lasts 9 word)) chunks (9 - chunks) word (omega (arith, nine)) runs in
    let moved : EndsChunks 5 more (word / 2 ^ (6 * chunks)) = subst (λ (n : ℕ). EndsChunks 5 more (word / 2 ^ n)) is ends in
    contradicts (ended (lasts 9 word)) (ended (lasts (9 - chunks) (word / 2 ^ (6 * chunks)))) after (ended_some (9 - chunks) more (word / 2 ^ (6 * chunks)) (omega (arith, within, is)) moved)
  where
    contradicts : (count after : ℕ) → count ≡ count + after → 1 ≤ after → ⊥
    contradicts count after same some = omega (arith, same, some)

-- a number's length in bits lies between powers of two
length_between : (m n x : ℕ) → x < 2 ^ m → 2 ^ m ≤ 2 * x + 1 → x < 2 ^ n → (0 < n → 2 ^ n ≤ 2 * x) → m ≡ n
length_between m n x below some low high = elim (cases_lt m n) [
  | inl lt ↦ let wide : 2 ^ suc m ≤ 2 ^ n = pow_mono {i = suc m} {j = n} lt in let twice : 2 ^ (1 + m) ≡ 2 * 2 ^ m = pow-add 2 1 m in let one : 2 ^ suc m ≡ 2 ^ (1 + m) = ap (λ (k : ℕ). 2 ^ k) (let e : suc m ≡ 1 + m = omega arith in e) in absurd (omega (arith, wide, twice, one, below, high (omega (arith, lt))))
  | inr le ↦ elim (cases_lt n m) [
    | inl lt ↦ let wide : 2 ^ suc n ≤ 2 ^ m = pow_mono {i = suc n} {j = m} lt in let twice : 2 ^ (1 + n) ≡ 2 * 2 ^ n = pow-add 2 1 n in let one : 2 ^ suc n ≡ 2 ^ (1 + n) = ap (λ (k : ℕ). 2 ^ k) (let e : suc n ≡ 1 + n = omega arith in e) in absurd (omega (arith, wide, twice, one, some, low))
    | inr ge ↦ omega (arith, le, ge)
  ]
]

-- where the last one ends
pub last_place : (marks : List Bool) (last : Last marks) (ends : ℕ) → last.chunks ≤ 9 → ends ≡ 32 * marked marks → count_leading_zeros 64 ends + 6 * last.chunks ≡ 64
last_place marks last ends nine is =
    let below : ends < 2 ^ (6 * last.chunks) = subst (λ (x : ℕ). x < 2 ^ (6 * last.chunks)) (sym is) last.below in
    let wide : 2 ^ (6 * last.chunks) ≤ 2 ^ 64 = pow_mono {i = 6 * last.chunks} {j = 64} (omega (arith, nine)) in
    let long = leading_length 64 ends (omega (arith, below, wide)) in
    let same : long.0 ≡ 6 * last.chunks = length_between long.0 (6 * last.chunks) ends long.2 long.3 below (λ some. omega (arith, is, last.some (omega (arith, some)))) in
    omega (arith, long.1, same)

-- ---- some of the numbers

-- the chunks up to the one where enough numbers have ended: its top bit is the lowest that is set
record Reached (k x : ℕ) (ends : List Bool) (count : ℕ) : Type 0 where
  pub before : ℕ
  pub high : ℕ
  pub reached : bit_and x (tops k) ≡ 2 ^ (6 * before + 5) * (1 + 2 * high)
  pub runs : Runs ends count (suc before)

-- chunks above one where too few have ended
reached_later : (k high low : ℕ) (last : Bool) (ends : List Bool) (count more : ℕ) → low < 32 → ((chunks : ℕ) → Runs ends count (suc chunks) → Runs (last ∷ ends) more (suc (suc chunks))) → Reached k high ends count → Reached (suc k) (high * 64 + low) (last ∷ ends) more
reached_later k high low last ends count more lt longer r =
    let none : low / 32 % 2 ≡ 0 = omega (arith, lt) in
    let apart = tops_apart k high low (omega (arith, lt)) in
    let e : 6 * suc r.before + 5 ≡ 6 + (6 * r.before + 5) = omega arith in
    let power : 2 ^ (6 * suc r.before + 5) ≡ 64 * 2 ^ (6 * r.before + 5) = ap (λ (i : ℕ). 2 ^ i) e ∙ pow-add 2 6 (6 * r.before + 5) in
    record { before = suc r.before; high = r.high; reached = apart ∙ rw (none, r.reached, power) (omega arith); runs = longer r.before r.runs }

reached_here : (k high : ℕ) (ends : List Bool) → Reached (suc k) (high * 64 + 32) (true ∷ ends) 1
reached_here k high ends = record {
  before = 0;
  high = bit_and high (tops k);
  reached = tops_apart k high 32 (omega arith) ∙ turned (bit_and high (tops k));
  runs = (0, refl, refl);
}
  where
    turned : (x : ℕ) → x * 64 + (32 / 32 % 2) * 32 ≡ 2 ^ (6 * 0 + 5) * (1 + 2 * x)
    turned x = omega arith

raised_step : (sum rest n first : ℕ) → first + 64 * sum + rest * (1 + 64 * n) ≡ (sum + rest * n) * 64 + (first + rest)
raised_step sum rest n first = omega arith

-- the sums raised by `rest`, so that the top bit is set where `most` numbers have ended
reach : (ends : List Bool) (before wanted most rest : ℕ) → most ≡ before + suc wanted → suc wanted ≤ ended ends → rest + most ≡ 32 → Reached (length ends) (sums before ends + rest * ones (length ends)) ends (suc wanted)
reach [] before wanted most rest most_is there rest_is = absurd (omega (arith, there))
reach (true ∷ ends) before zero most rest most_is there rest_is =
    let x : ℕ = sums (before + 1) ends + rest * ones (length ends) in
    let low : before + 1 + rest ≡ 32 = omega (arith, most_is, rest_is) in
    let is : sums before (true ∷ ends) + rest * ones (suc (length ends)) ≡ x * 64 + 32 = raised_step (sums (before + 1) ends) rest (ones (length ends)) (before + 1) ∙ ap (λ (y : ℕ). x * 64 + y) low in
    subst (λ (y : ℕ). Reached (suc (length ends)) y (true ∷ ends) 1) (sym is) (reached_here (length ends) x ends)
reach (true ∷ ends) before (suc wanted) most rest most_is there rest_is =
    let x : ℕ = sums (before + 1) ends + rest * ones (length ends) in
    let later = reach ends (before + 1) wanted most rest (omega (arith, most_is)) (omega (arith, there)) rest_is in
    subst (λ (y : ℕ). Reached (suc (length ends)) y (true ∷ ends) (suc (suc wanted))) (sym (raised_step (sums (before + 1) ends) rest (ones (length ends)) (before + 1)))
    (reached_later (length ends) x (before + 1 + rest) true ends (suc wanted) (suc (suc wanted)) (omega (arith, most_is, rest_is)) (λ chunks h. (suc wanted, refl, h)) later)
reach (false ∷ ends) before wanted most rest most_is there rest_is =
    let x : ℕ = sums (before + 0) ends + rest * ones (length ends) in
    let later = reach ends (before + 0) wanted most rest (omega (arith, most_is)) (omega (arith, there)) rest_is in
    subst (λ (y : ℕ). Reached (suc (length ends)) y (false ∷ ends) (suc wanted)) (sym (raised_step (sums (before + 0) ends) rest (ones (length ends)) (before + 0)))
    (reached_later (length ends) x (before + 0 + rest) false ends (suc wanted) (suc wanted) (omega (arith, most_is, rest_is)) (λ chunks h. (omega arith, h)) later)

-- the lowest bit that is set
pub low_set : (x t high : ℕ) → x ≡ 2 ^ t * (1 + 2 * high) → bit_at x t ≡ 1
low_set x t high is =
    let turned : x ≡ (1 + 2 * high) * 2 ^ t = omega (arith, is) in
    let odd : (1 + 2 * high) % 2 ≡ 1 = omega arith in
    ap (λ (y : ℕ). y / 2 ^ t % 2) turned ∙ ap (λ (y : ℕ). y % 2) (shl-shr (1 + 2 * high) t) ∙ odd

-- a bit below it
pub low_clear : (x t high z more : ℕ) → x ≡ 2 ^ t * (1 + 2 * high) → t ≡ z + suc more → bit_at x z ≡ 0
low_clear x t high z more is e =
    let power : 2 ^ t ≡ 2 ^ z * (2 * 2 ^ more) = ap (λ (k : ℕ). 2 ^ k) (e ∙ (let e : z + suc more ≡ z + (1 + more) = omega arith in e)) ∙ pow-add 2 z (1 + more) ∙ ap (λ (y : ℕ). 2 ^ z * y) (pow-add 2 1 more) in
    let turned : x ≡ (2 * (2 ^ more * (1 + 2 * high))) * 2 ^ z = is ∙ rw power (omega arith) in
    ap (λ (y : ℕ). y / 2 ^ z % 2) turned ∙ ap (λ (y : ℕ). y % 2) (shl-shr (2 * (2 ^ more * (1 + 2 * high))) z) ∙ even (2 ^ more * (1 + 2 * high))
  where
    even : (y : ℕ) → 2 * y % 2 ≡ 0
    even y = omega arith

pub lowest_is : (x t high : ℕ) → x < 2 ^ 64 → x ≡ 2 ^ t * (1 + 2 * high) → trailing_zeros w64 x ≡ t
lowest_is x t high fits is =
    let some : 0 < x = omega (arith, is, pow_pos t) in
    let found : (trailing_zeros w64 x < 64) × (bit_at x (trailing_zeros w64 x) ≡ 1) × ((i : ℕ) → i < trailing_zeros w64 x → bit_at x i ≡ 0) = bit_at-trailing_zeros w64 x some fits in
    only (trailing_zeros w64 x) found.1 found.2
  where
    only : (z : ℕ) → bit_at x z ≡ 1 → ((i : ℕ) → i < z → bit_at x i ≡ 0) → z ≡ t
    only z set none = elim (cases_lt z t) [
      | inl lt ↦ let e : t ≡ z + suc (t - suc z) = omega (arith, lt) in absurd (omega (arith, set, low_clear x t high z (t - suc z) is e))
      | inr le ↦ elim (cases_lt t z) [ inl lt ↦ absurd (omega (arith, none t lt, low_set x t high is)) | inr ge ↦ omega (arith, le, ge) ]
    ]

-- the last chunk's top bit is 0
runs_last : (k word count chunks : ℕ) → Runs (lasts k word) count (suc chunks) → bit_at word (6 * chunks + 5) ≡ 0
runs_last zero word count chunks h = absurd h
runs_last (suc k) word count chunks h = by_first (eqb (word / 2 ^ 5 % 2) 0) chunks refl (λ others chunks h. runs_last k (word / 64) others chunks h) h
  where
    moved : (chunks : ℕ) → bit_at (word / 64) (6 * chunks + 5) ≡ 0 → bit_at word (6 * suc chunks + 5) ≡ 0
    moved chunks off = let e : 6 * suc chunks + 5 ≡ 6 + (6 * chunks + 5) = omega arith in ap (bit_at word) e ∙ sym (ap (λ (y : ℕ). y % 2) (shr-shr word 6 (6 * chunks + 5))) ∙ off

    by_first : (last : Bool) (chunks : ℕ) → eqb (word / 2 ^ 5 % 2) 0 ≡ last → ((others chunks : ℕ) → Runs (lasts k (word / 64)) others (suc chunks) → bit_at (word / 64) (6 * chunks + 5) ≡ 0) → Runs (last ∷ lasts k (word / 64)) count (suc chunks) → bit_at word (6 * chunks + 5) ≡ 0
    by_first true zero is later h = eqb-true (word / 2 ^ 5 % 2) 0 is
    by_first true (suc chunks) is later h = moved chunks (later h.0 chunks h.2)
    by_first false zero is later h = absurd (omega (arith, h.0))
    by_first false (suc chunks) is later h = moved chunks (later count chunks h.1)

-- ---- as the code finds them

-- whole numbers at the front of a word's chunks
pub record Ran (word count bits : ℕ) : Type 0 where
  pub begins : Begins word count bits
  pub ends : EndsWith word count bits
  pub within : bits ≤ 54
  pub none : count ≡ 0 → bits ≡ 0
  pub some : 6 * count ≤ bits

ran : (word count bits chunks : ℕ) → Runs (lasts 9 word) count chunks → bits ≡ 6 * chunks → Ran word count bits
ran word count bits chunks h is =
    let nine : chunks ≤ 9 = runs_within (lasts 9 word) count chunks h in
    let many : count ≤ chunks = runs_many (lasts 9 word) count chunks h in
    record {
      begins = subst (Begins word count) (sym is) (begins word count chunks h);
      ends = record { chunks = chunks; is = is; runs = h };
      within = omega (arith, nine, is);
      none = λ none. is ∙ ap (λ (n : ℕ). 6 * n) (runs_none (lasts 9 word) count chunks h none);
      some = omega (arith, many, is);
    }

-- the sums of a word's chunks, as the code finds them
pub record Summed (word ends sum total : ℕ) : Type 0 where
  pub fits : word < 2 ^ 64
  pub ends_are : ends ≡ bit_and (2 ^ 64 - 1 - word) (tops 9)
  pub sum_is : sum ≡ bit_and (ends / 2 ^ 5 * ones 9 % 2 ^ 64) (2 ^ 54 - 1)
  pub total_is : total ≡ sum / 2 ^ 48

-- the code's terms
abbrev pub ends_in : (word : ℕ) → ℕ
ends_in word = bit_and (2 ^ 64 - 1 - word) (tops 9)

-- of the top bits that mark the ends
abbrev pub sum_of : (marks : ℕ) → ℕ
sum_of marks = bit_and (marks / 2 ^ 5 * ones 9 % 2 ^ 64) (2 ^ 54 - 1)

abbrev pub sum_in : (word : ℕ) → ℕ
sum_in word = sum_of (ends_in word)

pub summed : (word : ℕ) → word < 2 ^ 64 → Summed word (ends_in word) (sum_in word) (sum_in word / 2 ^ 48)
summed word fits = record { fits = fits; ends_are = refl; sum_is = refl; total_is = refl }

marks_of : {word ends sum total : ℕ} → Summed word ends sum total → ends ≡ 32 * marked (lasts 9 word)
marks_of {word} {ends} s = ends_marked 9 word ends (omega arith) s.fits s.ends_are

sums_of : {word ends sum total : ℕ} → Summed word ends sum total → sum ≡ sums 0 (lasts 9 word)
sums_of {word} {ends} {sum} s = sums_are word ends sum (marks_of s) s.sum_is

total_of : {word ends sum total : ℕ} → Summed word ends sum total → total ≡ ended (lasts 9 word)
total_of {word} {ends} {sum} {total} s = total_is word sum total (sums_of s) s.total_is

pub ended_most : (ends : List Bool) → ended ends ≤ length ends
ended_most [] = omega arith
ended_most (last ∷ ends) = omega (arith, bit_most last, ended_most ends)

pub nine_at_most : {word ends sum total : ℕ} → Summed word ends sum total → total ≤ 9
nine_at_most {word} s = omega (arith, total_of s, ended_most (lasts 9 word), length-lasts 9 word)

pub all_ran : {word ends sum total : ℕ} → Summed word ends sum total → Ran word total (64 - count_leading_zeros 64 ends) × NoneFollows word (64 - count_leading_zeros 64 ends)
all_ran {word} {ends} {sum} {total} s =
    let last = last_of (lasts 9 word) in
    let nine : last.chunks ≤ 9 = runs_within (lasts 9 word) (ended (lasts 9 word)) last.chunks last.runs in
    let bits : 64 - count_leading_zeros 64 ends ≡ 6 * last.chunks = omega (arith, last_place (lasts 9 word) last ends nine (marks_of s)) in (
      subst (λ (n : ℕ). Ran word n (64 - count_leading_zeros 64 ends)) (sym (total_of s)) (ran word (ended (lasts 9 word)) (64 - count_leading_zeros 64 ends) last.chunks last.runs bits),
      none_follows word last.chunks (64 - count_leading_zeros 64 ends) last.runs bits,
    )

-- the first chunks where so many numbers have ended, and the last bit of these chunks
pub some_ended : {word ends sum total : ℕ} (most : ℕ) → Summed word ends sum total → 0 < most → most ≤ total
    → Ran word most (trailing_zeros w64 (bit_and (sum + (32 - most) * ones 9) (tops 9)) + 1) × (bit_at word (trailing_zeros w64 (bit_and (sum + (32 - most) * ones 9) (tops 9))) ≡ 0) × (0 < bit_and (sum + (32 - most) * ones 9) (tops 9))
some_ended {word} {ends} {sum} {total} most s some fewer =
    let nine : total ≤ 9 = nine_at_most s in
    let wanted : most ≡ suc (most - 1) = omega (arith, some) in
    let found = reach (lasts 9 word) 0 (most - 1) most (32 - most) (omega (arith, wanted)) (omega (arith, wanted, fewer, total_of s)) (omega (arith, nine, fewer)) in
    let x : ℕ = bit_and (sum + (32 - most) * ones 9) (tops 9) in
    let x_is : x ≡ 2 ^ (6 * found.before + 5) * (1 + 2 * found.high) = ap (λ (y : ℕ). bit_and (y + (32 - most) * ones 9) (tops 9)) (sums_of s) ∙ found.reached in
    let fits : x < 2 ^ 64 = omega (arith, and_le_r (sum + (32 - most) * ones 9) (tops 9)) in
    let place : trailing_zeros w64 x ≡ 6 * found.before + 5 = lowest_is x (6 * found.before + 5) found.high fits x_is in (
      subst (λ (n : ℕ). Ran word n (trailing_zeros w64 x + 1)) (sym wanted) (ran word (suc (most - 1)) (trailing_zeros w64 x + 1) (suc found.before) found.runs (omega (arith, place))),
      ap (bit_at word) place ∙ runs_last 9 word (suc (most - 1)) found.before found.runs,
      omega (arith, x_is, pow_pos (6 * found.before + 5)),
    )

pub some_ran : {word ends sum total : ℕ} (most : ℕ) → Summed word ends sum total → 0 < most → most < total → Ran word most (trailing_zeros w64 (bit_and (sum + (32 - most) * ones 9) (tops 9)) + 1)
some_ran most s some fewer = (some_ended most s some (omega (arith, fewer))).0

-- ---- the chunk where enough numbers have ended, if there is one

-- the code's term, of the top bits that mark the ends
abbrev pub reached_in : (marks count : ℕ) → ℕ
reached_in marks count = bit_and ((marks / 2 ^ 5 * ones 9 % 2 ^ 64 + (32 - count) * ones 9 % 2 ^ 64) % 2 ^ 64) (tops 9)

tops_cut : (x : ℕ) → bit_and x (tops 9) ≡ bit_and (x % 2 ^ 54) (tops 9)
tops_cut x =
    let small : bit_and x (tops 9) < 2 ^ 54 = omega (arith, and_le_r x (tops 9)) in
    sym (mod-eq_of_lt small) ∙ and_mod x (tops 9) 54

sums_cut : (x r sum : ℕ) → sum ≡ x % 2 ^ 54 → r < 2 ^ 64 → (x + r % 2 ^ 64) % 2 ^ 64 % 2 ^ 54 ≡ (sum + r) % 2 ^ 54
sums_cut x r sum is small =
    let whole : r % 2 ^ 64 ≡ r = mod-eq_of_lt small in
    let parts : (x + r) % 2 ^ 54 ≡ (sum + r) % 2 ^ 54 = omega (arith, is) in
    ap (λ (y : ℕ). (x + y) % 2 ^ 64 % 2 ^ 54) whole ∙ mod-mod-pow (x + r) 10 54 ∙ parts

reached_is : (marks count : ℕ) → reached_in marks count ≡ bit_and (sum_of marks + (32 - count) * ones 9) (tops 9)
reached_is marks count =
    let x : ℕ = marks / 2 ^ 5 * ones 9 % 2 ^ 64 in
    let r : ℕ = (32 - count) * ones 9 in
    let small : r < 2 ^ 64 = omega arith in
    tops_cut ((x + r % 2 ^ 64) % 2 ^ 64) ∙ ap (λ (y : ℕ). bit_and y (tops 9)) (sums_cut x r (sum_of marks) (and_mask x 54) small) ∙ sym (tops_cut (sum_of marks + r))

none_reached : (ends : List Bool) (before most rest : ℕ) → before + ended ends < most → rest + most ≡ 32 → bit_and (sums before ends + rest * ones (length ends)) (tops (length ends)) ≡ 0
none_reached [] before most rest few is = nothing (bit_and (0 + rest * 0) 0) (and_le_r (0 + rest * 0) 0)
  where
    nothing : (x : ℕ) → x ≤ 0 → x ≡ 0
    nothing x le = omega (arith, le)
none_reached (last ∷ ends) before most rest few is =
    let x : ℕ = sums (before + bit last) ends + rest * ones (length ends) in
    let low : ℕ = before + bit last + rest in
    let lt : low < 32 = omega (arith, few, is) in
    let off : low / 32 % 2 ≡ 0 = omega (arith, lt) in
    let later : bit_and x (tops (length ends)) ≡ 0 = none_reached ends (before + bit last) most rest (omega (arith, few)) is in
    ap (λ (y : ℕ). bit_and y (tops (suc (length ends)))) (raised_step (sums (before + bit last) ends) rest (ones (length ends)) (before + bit last)) ∙ tops_apart (length ends) x low (omega (arith, lt)) ∙ rw (off, later) refl

-- of a word whose complement this is
summed_of : (ends : ℕ) → ends < 2 ^ 64 → Summed (bit_not w64 ends) (bit_and ends (tops 9)) (sum_of (bit_and ends (tops 9))) (sum_of (bit_and ends (tops 9)) / 2 ^ 48)
summed_of ends fits =
    let same : ends ≡ 2 ^ 64 - 1 - bit_not w64 ends = omega (arith, fits) in
    record { fits = omega arith; ends_are = ap (λ (x : ℕ). bit_and x (tops 9)) same; sum_is = refl; total_is = refl }

pub end_ran : (ends count : ℕ) → ends < 2 ^ 64 → 0 < count → count ≤ 32 → (reached_in (bit_and ends (tops 9)) count ≡ 0 → ⊥)
    → Ran (bit_not w64 ends) count (trailing_zeros w64 (reached_in (bit_and ends (tops 9)) count) + 1) × (bit_at ends (trailing_zeros w64 (reached_in (bit_and ends (tops 9)) count)) ≡ 1)
end_ran ends count fits some few reached = ran_to (bit_and ends (tops 9)) (sum_of (bit_and ends (tops 9)) / 2 ^ 48) (summed_of ends fits) reached
  where
    word : ℕ
    word = bit_not w64 ends

    enough : (marks total : ℕ) → Summed word marks (sum_of marks) total → (reached_in marks count ≡ 0 → ⊥) → count ≤ total
    enough marks total s reached = elim (cases_lt total count) [
      | inl lt ↦ absurd (reached (reached_is marks count ∙ ap (λ (y : ℕ). bit_and (y + (32 - count) * ones 9) (tops 9)) (sums_of s) ∙ none_reached (lasts 9 word) 0 count (32 - count) (omega (arith, lt, total_of s)) (omega (arith, few))))
      | inr le ↦ le
    ]

    last : (t : ℕ) → Ran word count (t + 1) → bit_at word t ≡ 0 → bit_at ends t ≡ 1
    last t r off = omega (arith, bit_at_not w64 ends t fits (omega (arith, r.within)), off, bit_at-lt ends t)

    ran_to : (marks total : ℕ) → Summed word marks (sum_of marks) total → (reached_in marks count ≡ 0 → ⊥) → Ran word count (trailing_zeros w64 (reached_in marks count) + 1) × (bit_at ends (trailing_zeros w64 (reached_in marks count)) ≡ 1)
    ran_to marks total s reached =
        let found = some_ended count s some (enough marks total s reached) in
        let r = subst (λ (x : ℕ). Ran word count (trailing_zeros w64 x + 1) × (bit_at word (trailing_zeros w64 x) ≡ 0)) (sym (reached_is marks count)) (found.0, found.1) in
        (r.0, last (trailing_zeros w64 (reached_in marks count)) r.0 r.1)

-- how many 1s mark the ends
ones_marked : (ends : List Bool) → count_ones (32 * marked ends) ≡ ended ends
unfolding count_ones
ones_marked [] = refl
ones_marked (last ∷ ends) =
    let apart : 32 * (bit last + 64 * marked ends) ≡ 32 * marked ends * 2 ^ 6 + 32 * bit last = omega arith in
    ap count_ones apart ∙ ones_cat 6 (32 * marked ends) (32 * bit last) (omega (arith, bit_most last)) ∙ omega (arith, ones_marked ends, one last)
  where
    one : (last : Bool) → count_ones (32 * bit last) ≡ bit last
    one true = refl
    one false = refl

pub marked_in : (k ends : ℕ) → tops k < 2 ^ 64 → ends < 2 ^ 64 → bit_and ends (tops k) ≡ 32 * marked (lasts k (bit_not w64 ends))
marked_in k ends small fits =
    let same : ends ≡ 2 ^ 64 - 1 - bit_not w64 ends = omega (arith, fits) in
    ends_marked k (bit_not w64 ends) (bit_and ends (tops k)) small (omega arith) (ap (λ (x : ℕ). bit_and x (tops k)) same)

pub ones_in : (k ends : ℕ) → tops k < 2 ^ 64 → ends < 2 ^ 64 → count_ones (bit_and ends (tops k)) ≡ ended (lasts k (bit_not w64 ends))
ones_in k ends small fits = ap count_ones (marked_in k ends small fits) ∙ ones_marked (lasts k (bit_not w64 ends))

pub none_ran : (ends count : ℕ) → ends < 2 ^ 64 → 0 < count → reached_in (bit_and ends (tops 9)) count ≡ 0 → count_ones (bit_and ends (tops 9)) < count
none_ran ends count fits some none =
    let marks : ℕ = bit_and ends (tops 9) in
    let s = summed_of ends fits in
    elim (cases_lt (count_ones marks) count) [
      | inl lt ↦ lt
      | inr le ↦ absurd (omega (arith, (some_ended count s some (omega (arith, le, ones_in 9 ends (omega arith) fits, total_of s))).2, reached_is marks count, none))
    ]
