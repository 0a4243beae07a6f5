-- Values of numbers in chunks of six bits.
use Rattle.std.proofs.Common.{◌≡◌, ℕ, zero, suc, ◌+◌, ◌*◌, ◌-◌, ◌/◌, ◌%◌, ◌^◌, ◌<◌, ◌≤◌, take, refl, sym, ap, ◌∙◌, subst, arith, bit_and, bit_or}
use Rattle.std.specs.Int.{w64, bit_not, trailing_zeros}
use Rattle.std.specs.Int.Bits.{and_zero_r, or_zero_r}
use Rattle.std.proofs.lemmas.Nat.{and_block, and_mask, and_shr, mod_below, one_shl, or_block, pow-add, pow_pos, shr-shr, shr_split}
use Rattle.std.proofs.lemmas.Nat.Bits.{and_high}
use Rattle.std.proofs.Math.Nat.{mod-eq_of_lt}
use Rattle.std.proofs.Math.Pow.{pow_mono}
use Rattle.bit_grammar.specs.Bits.{bits_of}
use Rattle.bit_grammar.specs.Fields.{vbr}
use Rattle.bit_fields.specs.Buffered.{BufferedBits, Reads, beyond}
use Rattle.bit_fields.specs.Short.{payload_number}
use Rattle.bit_fields.specs.SixEnds.{tops}
use Rattle.bit_fields.proofs.PlacedNumbers.{NumberEnds, listed_tops, number_ends, number_reads}
use Rattle.bit_fields.proofs.Placing.{or_above}
use Rattle.bit_fields.proofs.Short.{gathered_cut}

-- ---- fields, joined in pairs

-- two fields of n bits, with r bits between them, as one
abbrev pair : (n r x : ℕ) → ℕ
pair n r x = x % 2 ^ n + x / 2 ^ (r + n) % 2 ^ n * 2 ^ n

-- the pairs of groups of s bits, so many, and above them what a mask leaves
abbrev pairs : (n r s count top x : ℕ) → ℕ
pairs n r s zero top x = bit_and x top
pairs n r s (suc count) top x = pairs n r s count top (x / 2 ^ s) * 2 ^ s + pair n r x

-- the same mask for each group, below another mask
abbrev masks : (s group count top : ℕ) → ℕ
masks s group zero top = top
masks s group (suc count) top = masks s group count top * 2 ^ s + group

one_group : (s x mask group : ℕ) → group < 2 ^ s → bit_and x (mask * 2 ^ s + group) ≡ bit_and (x / 2 ^ s) mask * 2 ^ s + bit_and x group
one_group s x mask group below =
    let none : group ≡ 0 * 2 ^ s + group = omega arith in
    let low : 0 * 2 ^ s + bit_and (x % 2 ^ s) group ≡ bit_and (x % 2 ^ s) group = omega arith in
    let alone : bit_and x group ≡ bit_and (x % 2 ^ s) group = ap (bit_and x) none ∙ split 0 ∙ ap (λ (y : ℕ). y * 2 ^ s + bit_and (x % 2 ^ s) group) (and_zero_r (x / 2 ^ s)) ∙ low in
    split mask ∙ ap (λ (y : ℕ). bit_and (x / 2 ^ s) mask * 2 ^ s + y) (sym alone)
  where
    split : (m : ℕ) → bit_and x (m * 2 ^ s + group) ≡ bit_and (x / 2 ^ s) m * 2 ^ s + bit_and (x % 2 ^ s) group
    split m = ap (λ (y : ℕ). bit_and y (m * 2 ^ s + group)) (sym (shr_split x s)) ∙ and_block s (x / 2 ^ s) m (x % 2 ^ s) group (mod_below x (2 ^ s) (pow_pos s)) below

pairs_joined : (n r s count top x : ℕ) → n + n ≤ s → bit_or (bit_and x (masks s (2 ^ n - 1) count top)) (bit_and (x / 2 ^ r) (masks s (2 ^ (n + n) - 2 ^ n) count 0)) ≡ pairs n r s count top x
pairs_joined n r s zero top x wide = ap (bit_or (bit_and x top)) (and_zero_r (x / 2 ^ r)) ∙ or_zero_r (bit_and x top)
pairs_joined n r s (suc count) top x wide =
    let a : ℕ = masks s (2 ^ n - 1) count top in
    let b : ℕ = masks s (2 ^ (n + n) - 2 ^ n) count 0 in
    let up : ℕ = x / 2 ^ s in
    let first : ℕ = x % 2 ^ n in
    let second : ℕ = x / 2 ^ (r + n) % 2 ^ n in
    let both : 2 ^ (n + n) ≤ 2 ^ s = pow_mono {i = n + n} {j = s} wide in
    let square : 2 ^ (n + n) ≡ 2 ^ n * 2 ^ n = pow-add 2 n n in
    let first_below : first < 2 ^ n = mod_below x (2 ^ n) (pow_pos n) in
    let second_below : second < 2 ^ n = mod_below (x / 2 ^ (r + n)) (2 ^ n) (pow_pos n) in
    let one : 2 ^ n ≤ 2 ^ (n + n) = pow_mono {i = n} {j = n + n} (omega arith) in
    let wide_second : second * 2 ^ n < 2 ^ (n + n) = subst (λ (y : ℕ). second * 2 ^ n < y) (sym square) (below second (2 ^ n) second_below (pow_pos n)) in
    let low : bit_and x (a * 2 ^ s + (2 ^ n - 1)) ≡ bit_and up a * 2 ^ s + first = one_group s x a (2 ^ n - 1) (omega (arith, both, one, pow_pos n)) ∙ ap (λ (y : ℕ). bit_and up a * 2 ^ s + y) (and_mask x n) in
    let place : r + s ≡ s + r = omega arith in
    let same : x / 2 ^ r / 2 ^ s ≡ up / 2 ^ r = shr-shr x r s ∙ ap (λ (k : ℕ). x / 2 ^ k) place ∙ sym (shr-shr x s r) in
    let field : bit_and (x / 2 ^ r) (2 ^ (n + n) - 2 ^ n) ≡ second * 2 ^ n = and_high (x / 2 ^ r) n n ∙ ap (λ (y : ℕ). y % 2 ^ n * 2 ^ n) (shr-shr x r n) in
    let high : bit_and (x / 2 ^ r) (b * 2 ^ s + (2 ^ (n + n) - 2 ^ n)) ≡ bit_and (up / 2 ^ r) b * 2 ^ s + second * 2 ^ n = one_group s (x / 2 ^ r) b (2 ^ (n + n) - 2 ^ n) (omega (arith, both, one, pow_pos n)) ∙ ap (λ (y : ℕ). bit_and y b * 2 ^ s + bit_and (x / 2 ^ r) (2 ^ (n + n) - 2 ^ n)) same ∙ ap (λ (y : ℕ). bit_and (up / 2 ^ r) b * 2 ^ s + y) field in
    let parts = or_block s (bit_and up a) (bit_and (up / 2 ^ r) b) first (second * 2 ^ n) (omega (arith, first_below, one, both)) (omega (arith, wide_second, both)) in
    ap (bit_or (bit_and x (a * 2 ^ s + (2 ^ n - 1)))) high ∙ ap (λ (y : ℕ). bit_or y (bit_and (up / 2 ^ r) b * 2 ^ s + second * 2 ^ n)) low ∙ parts
    ∙ ap (λ (y : ℕ). bit_or (bit_and up a) (bit_and (up / 2 ^ r) b) * 2 ^ s + y) (or_above first second n first_below) ∙ ap (λ (y : ℕ). y * 2 ^ s + pair n r x) (pairs_joined n r s count top up wide)
  where
    below : (i m : ℕ) → i < m → 0 < m → i * m < m * m
    below i m lt some = grind arith

-- ---- as the code joins them

abbrev two_in : (x : ℕ) → ℕ
two_in x = bit_or (bit_and x 8727855102029855) (bit_and x 136372735969216 / 2)

abbrev four_in : (two : ℕ) → ℕ
four_in two = bit_or (bit_and two 17163092991) (bit_and two 70300028891136 / 4)

abbrev eight_in : (four : ℕ) → ℕ
eight_in four = bit_or (bit_and four 1048575) (bit_and four 17592169267200 / 16)

abbrev nine_in : (x : ℕ) → ℕ
nine_in x = bit_or (eight_in (four_in (two_in x))) (bit_and (two_in x) 8725724278030336 / 256)

-- the payloads of two chunks
abbrev two_payloads : (x : ℕ) → ℕ
two_payloads x = pair 5 1 x

two_below : (x : ℕ) → two_payloads x < 1024
two_below x = omega arith

two_first : (count x : ℕ) → payload_number 5 (suc (suc count)) x ≡ two_payloads x + 1024 * payload_number 5 count (x / 4096)
two_first count x =
    let sum : (y : ℕ) → x % 32 + 32 * (x / 64 % 32 + 32 * y) ≡ two_payloads x + 1024 * y = λ y. omega arith in
    sum (payload_number 5 count (x / 64 / 64)) ∙ ap (λ (y : ℕ). two_payloads x + 1024 * payload_number 5 count y) (shr-shr x 6 6)

-- the payloads of two chunks each, in twelve bits, and above them the ninth chunk's
abbrev spread : (a b c d e : ℕ) → ℕ
spread a b c d e = (((e * 4096 + d) * 4096 + c) * 4096 + b) * 4096 + a

two_is : (x e : ℕ) → x / 4096 / 4096 / 4096 / 4096 % 32 ≡ e → two_in x ≡ spread (two_payloads x) (two_payloads (x / 4096)) (two_payloads (x / 4096 / 4096)) (two_payloads (x / 4096 / 4096 / 4096)) e
two_is x e is =
    ap (bit_or (bit_and x 8727855102029855)) (and_shr x 136372735969216 1) ∙ pairs_joined 5 1 12 4 31 x (omega arith)
    ∙ ap (λ (y : ℕ). spread (two_payloads x) (two_payloads (x / 4096)) (two_payloads (x / 4096 / 4096)) (two_payloads (x / 4096 / 4096 / 4096)) y) (and_mask (x / 4096 / 4096 / 4096 / 4096) 5 ∙ is)

four_is : (a b c d e : ℕ) → a < 1024 → b < 1024 → c < 1024 → d < 1024 → four_in (spread a b c d e) ≡ (d * 1024 + c) * 16777216 + (b * 1024 + a)
four_is a b c d e la lb lc ld =
    let two : ℕ = spread a b c d e in
    let none : bit_and (two / 16777216 / 16777216) 0 ≡ 0 = and_zero_r (two / 16777216 / 16777216) in
    let low : pair 10 2 two ≡ b * 1024 + a = omega (arith, la, lb) in
    let high : pair 10 2 (two / 16777216) ≡ d * 1024 + c = omega (arith, la, lb, lc, ld) in
    ap (bit_or (bit_and two 17163092991)) (and_shr two 70300028891136 2) ∙ pairs_joined 10 2 24 2 0 two (omega arith) ∙ omega (arith, none, low, high)

eight_is : (low high : ℕ) → low < 1048576 → high < 1048576 → eight_in (high * 16777216 + low) ≡ high * 1048576 + low
eight_is low high few small =
    let four : ℕ = high * 16777216 + low in
    let none : bit_and (four / 281474976710656) 0 ≡ 0 = and_zero_r (four / 281474976710656) in
    let both : pair 20 4 four ≡ high * 1048576 + low = omega (arith, few, small) in
    ap (bit_or (bit_and four 1048575)) (and_shr four 17592169267200 4) ∙ pairs_joined 20 4 48 1 0 four (omega arith) ∙ omega (arith, none, both)

spread_joined : (a b c d e : ℕ) → a < 1024 → b < 1024 → c < 1024 → d < 1024 → e < 32 → bit_or (eight_in (four_in (spread a b c d e))) (bit_and (spread a b c d e) 8725724278030336 / 256) ≡ a + 1024 * (b + 1024 * (c + 1024 * (d + 1024 * e)))
spread_joined a b c d e la lb lc ld le =
    let two : ℕ = spread a b c d e in
    let low : ℕ = (d * 1024 + c) * 1048576 + (b * 1024 + a) in
    let eight : eight_in (four_in two) ≡ low = ap eight_in (four_is a b c d e la lb lc ld) ∙ eight_is (b * 1024 + a) (d * 1024 + c) (omega (arith, la, lb)) (omega (arith, lc, ld)) in
    let top : two / 281474976710656 % 32 ≡ e = omega (arith, la, lb, lc, ld, le) in
    let ninth : bit_and two 8725724278030336 ≡ e * 281474976710656 = and_high two 5 48 ∙ ap (λ (y : ℕ). y * 281474976710656) top in
    let moved : bit_and two 8725724278030336 / 256 ≡ e * 1099511627776 = omega (arith, ninth) in
    ap (λ (y : ℕ). bit_or y (bit_and two 8725724278030336 / 256)) eight ∙ ap (bit_or low) moved ∙ or_above low e 40 (omega (arith, la, lb, lc, ld)) ∙ omega arith

nine_joined : (x : ℕ) → nine_in x ≡ payload_number 5 9 x
nine_joined x =
    let y : ℕ = x / 4096 in
    let z : ℕ = y / 4096 in
    let u : ℕ = z / 4096 in
    let e : ℕ = u / 4096 % 32 in
    let last : payload_number 5 1 (u / 4096) ≡ e = omega arith in
    let all : payload_number 5 9 x ≡ two_payloads x + 1024 * (two_payloads y + 1024 * (two_payloads z + 1024 * (two_payloads u + 1024 * e))) = rw (two_first 7 x, two_first 5 y, two_first 3 z, two_first 1 u, last) refl in
    ap (λ (t : ℕ). bit_or (eight_in (four_in t)) (bit_and t 8725724278030336 / 256)) (two_is x e refl) ∙ spread_joined (two_payloads x) (two_payloads y) (two_payloads z) (two_payloads u) e (two_below x) (two_below y) (two_below z) (two_below u) (omega arith) ∙ sym all

-- only some chunks, with no bits behind them
pub chunks_joined : (count x : ℕ) → count ≤ 9 → x < 2 ^ (6 * count) → nine_in x ≡ payload_number 5 count x
chunks_joined count x few below =
    let whole : count + (9 - count) ≡ 9 = omega (arith, few) in
    let cut : x % 2 ^ (6 * count) ≡ x = mod-eq_of_lt below in
    nine_joined x ∙ ap (λ (k : ℕ). payload_number 5 k x) (sym whole) ∙ ap (payload_number 5 (count + (9 - count))) (sym cut) ∙ gathered_cut 5 count (9 - count) x

-- ---- the first bits of a word

low_bits : (len word : ℕ) → len ≤ 54 → bit_and word (1 * 2 ^ len % 2 ^ 64 - 1) ≡ word % 2 ^ len
low_bits len word few = rw (one_shl len 64 (omega (arith, few))) (and_mask word len)

pub one_payload : (count word len : ℕ) → len ≡ 6 * count → len ≡ 6 → bit_and word 31 ≡ payload_number 5 count word
one_payload count word len is six =
    let one : 1 ≡ count = omega (arith, is, six) in
    subst (λ (k : ℕ). bit_and word 31 ≡ payload_number 5 k word) one (omega (arith, and_mask word 5))

-- what is said of the first bits, so many, is said of all bits
pub cut_joined : (count word len value : ℕ) → len ≡ 6 * count → len ≤ 54 → ((k : ℕ) → k ≤ 9 → bit_and word (1 * 2 ^ len % 2 ^ 64 - 1) < 2 ^ (6 * k) → value ≡ payload_number 5 k (bit_and word (1 * 2 ^ len % 2 ^ 64 - 1))) → value ≡ payload_number 5 count word
cut_joined count word len value is few joined =
    let low : bit_and word (1 * 2 ^ len % 2 ^ 64 - 1) ≡ word % 2 ^ (6 * count) = low_bits len word few ∙ ap (λ (k : ℕ). word % 2 ^ k) is in
    let none : count + 0 ≡ count = omega arith in
    let whole : payload_number 5 count (word % 2 ^ (6 * count)) ≡ payload_number 5 count word = subst (λ (k : ℕ). payload_number 5 k (word % 2 ^ (6 * count)) ≡ payload_number 5 count word) none (gathered_cut 5 count 0 word) in
    joined count (omega (arith, is, few)) (omega (arith, low, mod_below word (2 ^ (6 * count)) (pow_pos (6 * count)))) ∙ ap (payload_number 5 count) low ∙ whole

-- ---- the first number of a load

-- where it ends
pub six_ends : (ends : ℕ) → ends < 2 ^ 64 → (bit_and ends (tops 9) ≡ 0 → ⊥) → NumberEnds 6 (trailing_zeros w64 (bit_and ends (tops 9)) + 1) (bit_not w64 ends)
six_ends ends fits some = number_ends 6 (tops 9) ends (trailing_zeros w64 (bit_and ends (tops 9)) + 1) (omega arith) (listed_tops 6 (omega arith) (omega arith)) fits some refl

-- it has whole chunks
pub six_few : (len word : ℕ) → NumberEnds 6 len word → (0 < len) × (len ≤ 54)
six_few len word here = (omega (arith, here.whole), omega (arith, here.whole, here.short))

pub six_read : (len word value : ℕ) (a : BufferedBits) → bits_of len word ≡ take len a.bits → NumberEnds 6 len word → ((count : ℕ) → len ≡ 6 * count → value ≡ payload_number 5 count word) → Reads (vbr 6) a value (beyond a len)
six_read len word value a front here joined = number_reads 6 len word value a (omega arith) front here (joined (suc here.count) (omega (arith, here.whole)))
