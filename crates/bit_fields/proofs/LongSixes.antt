-- Numbers of ten to thirteen chunks of six bits: nine chunks of a word, and the other ones of the next word.
use Rattle.std.proofs.Common.{◌≡◌, ℕ, zero, suc, ◌+◌, ◌*◌, ◌-◌, ◌/◌, ◌%◌, ◌^◌, ◌<◌, ◌≤◌, Bool, List, ◌++◌, take, drop, Ok, refl, sym, ap, ◌∙◌, subst, arith, bit_and, inl, inr}
use Rattle.std.specs.Int.{w64, bit_at, bit_not}
use Rattle.std.proofs.lemmas.Bool.{cases_lt}
use Rattle.std.proofs.lemmas.List.{take-append-drop}
use Rattle.std.proofs.lemmas.Nat.{and_mask, mod_below, mod_low, pow_pos, shr_high}
use Rattle.std.proofs.lemmas.Nat.Bits.{bit_at_and, bit_at_not, bit_at_ones, bit_at-lt, bit_at-zero}
use Rattle.std.proofs.Math.Seq.{take-add}
use Rattle.bit_grammar.specs.Bits.{bits_of}
use Rattle.bit_grammar.specs.Grammar.{reading}
use Rattle.bit_grammar.specs.Fields.{vbr}
use Rattle.bit_fields.specs.Buffered.{BufferedBits, beyond}
use Rattle.bit_fields.specs.Short.{EndsChunks, payload_number}
use Rattle.bit_fields.specs.Placed.{HasNumbers, Shows}
use Rattle.bit_fields.specs.SixEnds.{tops}
use Rattle.bit_fields.proofs.BitLaws.{bits_of-split, drop-bits_of}
use Rattle.bit_fields.proofs.EndMarks.{bit_behind, same_bits, ends_chunks}
use Rattle.bit_fields.proofs.Placing.{has_one, set_bit, clear_bit}
use Rattle.bit_fields.proofs.Short.{fitting_reads}

-- ---- two words as one

-- nine chunks of a word, and another word above them
abbrev joined : (low high : ℕ) → ℕ
joined low high = high * 2 ^ 54 + low % 2 ^ 54

nine_below : (low : ℕ) → low % 2 ^ 54 < 2 ^ 54
nine_below low = mod_below low (2 ^ 54) (pow_pos 54)

cut_bit : (x i : ℕ) → i < 54 → bit_at (x % 2 ^ 54) i ≡ bit_at x i
cut_bit x i lt =
    let both : bit_at (bit_and x (2 ^ 54 - 1)) i ≡ bit_at x i = omega (arith, bit_at_and x (2 ^ 54 - 1) i, bit_at_ones 54 i lt, bit_at-lt x i) in
    ap (λ (y : ℕ). bit_at y i) (sym (and_mask x 54)) ∙ both

low_bit : (low high i : ℕ) → i < 54 → bit_at (joined low high) i ≡ bit_at low i
low_bit low high i lt = sym (cut_bit (joined low high) i lt) ∙ ap (λ (y : ℕ). bit_at y i) (mod_low high 54 (low % 2 ^ 54) (nine_below low)) ∙ cut_bit low i lt

high_is : (low high : ℕ) → joined low high / 2 ^ 54 ≡ high
high_is low high = shr_high high 54 (low % 2 ^ 54) (nine_below low)

high_bit : (low high i : ℕ) → bit_at (joined low high) (54 + i) ≡ bit_at high i
high_bit low high i = sym (bit_behind (joined low high) 54 i) ∙ ap (λ (y : ℕ). bit_at y i) (high_is low high)

joined_bits : (low high n : ℕ) → bits_of (54 + n) (joined low high) ≡ bits_of 54 low ++ bits_of n high
joined_bits low high n =
    bits_of-split 54 n (joined low high) ∙ ap (λ (s : List Bool). s ++ bits_of n (joined low high / 2 ^ 54)) (same_bits 54 (joined low high) low (λ i lt. low_bit low high i lt)) ∙ ap (λ (y : ℕ). bits_of 54 low ++ bits_of n y) (high_is low high)

-- ---- chunks that go on

tops_at : (k j : ℕ) → j < k → bit_at (tops k) (j * 6 + 5) ≡ 1
tops_at zero j lt = absurd (omega (arith, lt))
tops_at (suc k) zero lt = first (tops k)
  where
    first : (high : ℕ) → bit_at (high * 64 + 32) 5 ≡ 1
    first high = omega arith
tops_at (suc k) (suc j) lt =
    let e : suc j * 6 + 5 ≡ 6 + (j * 6 + 5) = omega arith in
    ap (bit_at (tops (suc k))) e ∙ sym (bit_behind (tops (suc k)) 6 (j * 6 + 5)) ∙ ap (λ (y : ℕ). bit_at y (j * 6 + 5)) (shr_high (tops k) 6 32 (omega arith)) ∙ tops_at k j (omega (arith, lt))

none_ends : (k j ends : ℕ) → bit_and ends (tops k) ≡ 0 → j < k → bit_at ends (j * 6 + 5) ≡ 0
none_ends k j ends none lt =
    let clear : bit_at (bit_and ends (tops k)) (j * 6 + 5) ≡ 0 = ap (λ (y : ℕ). bit_at y (j * 6 + 5)) none ∙ bit_at-zero (j * 6 + 5) in
    omega (arith, clear, bit_at_and ends (tops k) (j * 6 + 5), tops_at k j lt, bit_at-lt ends (j * 6 + 5))

-- Nine chunks go on, and a word shows the bits behind them.
pub record NineGoOn (ends more : ℕ) (a : BufferedBits) : Type 0 where
  pub first : ends < 2 ^ 64
  pub second : more < 2 ^ 64
  pub front : bits_of 54 (bit_not w64 ends) ≡ take 54 a.bits
  pub on : bit_and ends (tops 9) ≡ 0
  pub shows : Shows more (drop 54 a.bits)

pub nine_go_on : (ends more : ℕ) (a b : BufferedBits) → ends < 2 ^ 64 → more < 2 ^ 64 → bits_of 54 (bit_not w64 ends) ≡ take 54 a.bits → bit_and ends (tops 9) ≡ 0 → b ≡ beyond a 54 → Shows more b.bits → NineGoOn ends more a
nine_go_on ends more a b first second front on b_is shows = record { first = first; second = second; front = front; on = on; shows = subst (λ (x : BufferedBits). Shows more x.bits) b_is shows }

-- ---- the number

-- the last payload is within the number's 64 bits
last_fits : (k word : ℕ) → k ≤ 3 → (k ≡ 3 → bit_at word 76 ≡ 0) → word / 2 ^ ((9 + k) * 6) % 2 ^ 5 < 2 ^ (64 - (9 + k) * 5)
last_fits zero word few top = omega arith
last_fits (suc zero) word few top = omega arith
last_fits (suc (suc zero)) word few top = omega arith
last_fits (suc (suc (suc zero))) word few top = below (word / 2 ^ 72) (bit_behind word 72 4 ∙ top refl)
  where
    below : (x : ℕ) → bit_at x 4 ≡ 0 → x % 2 ^ 5 < 2 ^ 4
    below x off = omega (arith, off)
last_fits (suc (suc (suc (suc k)))) word few top = absurd (omega (arith, few))

joined_reads : (k word p : ℕ) (rest : List Bool) → k ≤ 3 → EndsChunks 5 (suc (9 + k)) word → (k ≡ 3 → bit_at word 76 ≡ 0) → reading (vbr 6) p (bits_of (suc (9 + k) * 6) word ++ rest) ≡ Ok (payload_number 5 (suc (9 + k)) word, p + suc (9 + k) * 6, rest)
unfolding vbr
joined_reads k word p rest few ends top =
    let bits : ℕ = suc (9 + k) * 6 in
    let whole : bits ≡ bits + 0 = omega arith in
    let read = fitting_reads (9 + k) 5 p 13 64 bits word p rest ends (omega (arith, few)) (omega arith) (omega (arith, few)) (last_fits k word few top) in
    read ∙ ap (λ (s : List Bool). Ok (payload_number 5 (suc (9 + k)) word, p + bits, s ++ rest)) (ap (λ (n : ℕ). drop bits (bits_of n word)) whole ∙ drop-bits_of bits 0 word)

pub long_reads : (k : ℕ) {ends more : ℕ} {a : BufferedBits} → NineGoOn ends more a → k ≤ 3 → bit_at more (k * 6 + 5) ≡ 1 → ((j : ℕ) → j < k → bit_at more (j * 6 + 5) ≡ 0) → (k ≡ 3 → bit_at more 22 ≡ 1) → HasNumbers 6 1 a (54 + suc k * 6)
long_reads k {ends} {more} {a} nine few set clear fifth =
    let low : ℕ = bit_not w64 ends in
    let high : ℕ = bit_not w64 more in
    let word : ℕ = joined low high in
    let n : ℕ = suc k * 6 in
    let flipped : (i : ℕ) → i < 64 → bit_at word (54 + i) ≡ 1 - bit_at more i = λ i lt. high_bit low high i ∙ bit_at_not w64 more i nine.second lt in
    let off : bit_at word ((9 + k) * 6 + 5) ≡ 0 = ap (bit_at word) (let e : (9 + k) * 6 + 5 ≡ 54 + (k * 6 + 5) = omega arith in e) ∙ omega (arith, flipped (k * 6 + 5) (omega (arith, few)), set) in
    let on : (j : ℕ) → j < 9 + k → bit_at word (j * 6 + 5) ≡ 1 = λ j lt. elim (cases_lt j 9) [
      | inl less ↦ low_bit low high (j * 6 + 5) (omega (arith, less)) ∙ omega (arith, bit_at_not w64 ends (j * 6 + 5) nine.first (omega (arith, less)), none_ends 9 j ends nine.on less)
      | inr le ↦
          let i : ℕ = j - 9 in
          ap (bit_at word) (let e : j * 6 + 5 ≡ 54 + (i * 6 + 5) = omega (arith, le) in e) ∙ omega (arith, flipped (i * 6 + 5) (omega (arith, few, lt, le)), clear i (omega (arith, lt, le)))
    ] in
    let top : k ≡ 3 → bit_at word 76 ≡ 0 = λ e. omega (arith, flipped 22 (omega arith), fifth e) in
    let next : suc (k * 6 + 5) ≡ n = omega arith in
    let later : bits_of n high ≡ take n (drop 54 a.bits) = subst (λ (m : ℕ). bits_of m high ≡ take m (drop 54 a.bits)) next (nine.shows.front (k * 6 + 5) set) in
    let front : bits_of (54 + n) word ≡ take (54 + n) a.bits = joined_bits low high n ∙ ap (λ (s : List Bool). s ++ bits_of n high) nine.front ∙ ap (λ (s : List Bool). take 54 a.bits ++ s) later ∙ sym (take-add 54 n a.bits) in
    let all : a.bits ≡ bits_of (54 + n) word ++ drop (54 + n) a.bits = sym (take-append-drop (54 + n) a.bits) ∙ ap (λ (s : List Bool). s ++ drop (54 + n) a.bits) (sym front) in
    let bits : suc (9 + k) * 6 ≡ 54 + n = omega arith in
    let read : reading (vbr 6) a.position (bits_of (54 + n) word ++ drop (54 + n) a.bits) ≡ Ok (payload_number 5 (suc (9 + k)) word, a.position + (54 + n), drop (54 + n) a.bits) =
    subst (λ (m : ℕ). reading (vbr 6) a.position (bits_of m word ++ drop (54 + n) a.bits) ≡ Ok (payload_number 5 (suc (9 + k)) word, a.position + m, drop (54 + n) a.bits)) bits (joined_reads k word a.position (drop (54 + n) a.bits) few (ends_chunks 5 (9 + k) word off on) top) in
    has_one 6 (payload_number 5 (suc (9 + k)) word) (54 + n) a (ap (reading (vbr 6) a.position) all ∙ read)

pub has_ten : {ends more : ℕ} {a : BufferedBits} → NineGoOn ends more a → (bit_and more 32 ≡ 0 → ⊥) → HasNumbers 6 1 a 60
has_ten {ends} {more} nine some = long_reads 0 nine (omega arith) (set_bit more 5 some) (λ j lt. absurd (omega (arith, lt))) (λ e. absurd (omega (arith, e)))

pub has_eleven : {ends more : ℕ} {a : BufferedBits} → NineGoOn ends more a → bit_and more 32 ≡ 0 → (bit_and more 2048 ≡ 0 → ⊥) → HasNumbers 6 1 a 66
has_eleven {ends} {more} nine first some = long_reads 1 nine (omega arith) (set_bit more 11 some) on (λ e. absurd (omega (arith, e)))
  where
    on : (j : ℕ) → j < 1 → bit_at more (j * 6 + 5) ≡ 0
    on zero lt = clear_bit more 5 first
    on (suc j) lt = absurd (omega (arith, lt))

pub has_twelve : {ends more : ℕ} {a : BufferedBits} → NineGoOn ends more a → bit_and more 32 ≡ 0 → bit_and more 2048 ≡ 0 → (bit_and more 131072 ≡ 0 → ⊥) → HasNumbers 6 1 a 72
has_twelve {ends} {more} nine first second some = long_reads 2 nine (omega arith) (set_bit more 17 some) on (λ e. absurd (omega (arith, e)))
  where
    on : (j : ℕ) → j < 2 → bit_at more (j * 6 + 5) ≡ 0
    on zero lt = clear_bit more 5 first
    on (suc zero) lt = clear_bit more 11 second
    on (suc (suc j)) lt = absurd (omega (arith, lt))

-- the last chunk's fifth bit is 0
pub has_thirteen : {ends more : ℕ} {a : BufferedBits} → NineGoOn ends more a → bit_and more 32 ≡ 0 → bit_and more 2048 ≡ 0 → bit_and more 131072 ≡ 0 → bit_and more 12582912 ≡ 12582912 → HasNumbers 6 1 a 78
has_thirteen {ends} {more} nine first second third both = long_reads 3 nine (omega arith) (one 23 refl) on (λ e. one 22 refl)
  where
    one : (i : ℕ) → bit_at 12582912 i ≡ 1 → bit_at more i ≡ 1
    one i top = omega (arith, bit_at_and more 12582912 i, ap (λ (x : ℕ). bit_at x i) both, top, bit_at-lt more i)

    on : (j : ℕ) → j < 3 → bit_at more (j * 6 + 5) ≡ 0
    on zero lt = clear_bit more 5 first
    on (suc zero) lt = clear_bit more 11 second
    on (suc (suc zero)) lt = clear_bit more 17 third
    on (suc (suc (suc j))) lt = absurd (omega (arith, lt))
