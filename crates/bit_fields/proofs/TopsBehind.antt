-- Numbers behind bits of a load.
use Rattle.std.proofs.Common.{◌≡◌, ℕ, zero, suc, ◌+◌, ◌*◌, ◌-◌, ◌/◌, ◌%◌, ◌^◌, ◌<◌, ◌≤◌, refl, sym, ap, ◌∙◌, subst, arith, bit_and, get_or}
use Rattle.std.specs.Int.{w64, trailing_zeros}
use Rattle.std.proofs.lemmas.Nat.{and_block, and_le_l, and_comm, mod-pow-add, pow-add, pow_pos, shl-shr, shr_below, shr_le, shr_split}
use Rattle.std.proofs.lemmas.Nat.Bits.{bit_at-trailing_zeros}
use Rattle.std.proofs.Math.Nat.{mod-lt, mul-mod_left}
use Rattle.bit_fields.specs.Buffered.{BufferedBits, beyond}
use Rattle.bit_fields.specs.Placed.{AreTopsBehind, HasNumbers, Shows}
use Rattle.bit_fields.proofs.EndMarks.{all_cleared, cleared_by, clears, clears_high, clears_most, split_low}
use Rattle.bit_fields.proofs.Placing.{has_few, shows_after}
use Rattle.bit_fields.proofs.PlacedNumbers.{listed_tops}
use Rattle.bit_fields.specs.declared.placed.numbers.TheConstants.{TOPS_OF}
use Rattle.bit_fields.proofs.SixBitSums.{lowest_is}

-- high bits of a mask do not matter to a word that has none
and_low : (k a b : ℕ) → a < 2 ^ k → bit_and a (b % 2 ^ k) ≡ bit_and a b
and_low k a b lt =
    let some = pow_pos k in
    let both : bit_and (0 * 2 ^ k + a) (b / 2 ^ k * 2 ^ k + b % 2 ^ k) ≡ bit_and 0 (b / 2 ^ k) * 2 ^ k + bit_and a (b % 2 ^ k) = and_block k 0 (b / 2 ^ k) a (b % 2 ^ k) lt (mod-lt b some) in
    let none : bit_and 0 (b / 2 ^ k) ≡ 0 = omega (arith, and_le_l 0 (b / 2 ^ k)) in
    let zeros : a ≡ 0 * 2 ^ k + a = omega arith in
    let high : 0 * 2 ^ k + bit_and a (b % 2 ^ k) ≡ bit_and a (b % 2 ^ k) = omega arith in
    sym (ap (λ (x : ℕ). bit_and x b) zeros ∙ ap (bit_and (0 * 2 ^ k + a)) (sym (shr_split b k)) ∙ both ∙ ap (λ (x : ℕ). x * 2 ^ k + bit_and a (b % 2 ^ k)) none ∙ high)

-- a mask that is moved up shows what comes there
and_behind : (s ends tops : ℕ) → s < 64 → ends < 2 ^ 64 → bit_and ends (tops * 2 ^ s % 2 ^ 64) ≡ 2 ^ s * bit_and (ends / 2 ^ s) tops
and_behind s ends tops few fits =
    let some = pow_pos s in
    let width : 64 - s + s ≡ 64 = omega (arith, few) in
    let high : tops * 2 ^ s / 2 ^ s ≡ tops = shl-shr tops s in
    let low : tops * 2 ^ s % 2 ^ s ≡ 0 = mul-mod_left tops (2 ^ s) in
    let parts : tops * 2 ^ s % 2 ^ 64 ≡ tops % 2 ^ (64 - s) * 2 ^ s + 0 =
    ap (λ (k : ℕ). tops * 2 ^ s % 2 ^ k) (sym width) ∙ mod-pow-add (tops * 2 ^ s) (64 - s) s
    ∙ ap (λ (x : ℕ). x % 2 ^ (64 - s) * 2 ^ s + tops * 2 ^ s % 2 ^ s) high ∙ ap (λ (x : ℕ). tops % 2 ^ (64 - s) * 2 ^ s + x) low in
    let both : bit_and (ends / 2 ^ s * 2 ^ s + ends % 2 ^ s) (tops % 2 ^ (64 - s) * 2 ^ s + 0) ≡ bit_and (ends / 2 ^ s) (tops % 2 ^ (64 - s)) * 2 ^ s + bit_and (ends % 2 ^ s) 0 = and_block s (ends / 2 ^ s) (tops % 2 ^ (64 - s)) (ends % 2 ^ s) 0 (mod-lt ends some) some in
    let none : bit_and (ends % 2 ^ s) 0 ≡ 0 = omega (arith, and_comm (ends % 2 ^ s) 0, and_le_l 0 (ends % 2 ^ s)) in
    let small : ends / 2 ^ s < 2 ^ (64 - s) = shr_below ends (64 - s) s (subst (λ (k : ℕ). ends < 2 ^ k) (sym width) fits) in
    let turned : bit_and (ends / 2 ^ s) tops * 2 ^ s + 0 ≡ 2 ^ s * bit_and (ends / 2 ^ s) tops = omega arith in
    ap (λ (x : ℕ). bit_and x (tops * 2 ^ s % 2 ^ 64)) (sym (shr_split ends s)) ∙ ap (bit_and (ends / 2 ^ s * 2 ^ s + ends % 2 ^ s)) parts ∙ both
    ∙ ap (λ (x : ℕ). bit_and (ends / 2 ^ s) (tops % 2 ^ (64 - s)) * 2 ^ s + x) none
    ∙ ap (λ (x : ℕ). x * 2 ^ s + 0) (and_low (64 - s) (ends / 2 ^ s) tops small) ∙ turned

-- numbers behind bits that are skipped
pub has_behind : (n tops ends s count others left len : ℕ) (a : BufferedBits) → 2 ≤ n → n ≤ 32 → s < 64 → AreTopsBehind n s tops → ends < 2 ^ 64 → Shows ends a.bits → count ≡ suc others → left ≡ cleared_by others (bit_and ends tops) → (left ≡ 0 → ⊥) → len ≡ trailing_zeros w64 left + 1
    → ((first : ℕ) × (len ≡ s + first) × HasNumbers n count (beyond a s) first) × (len ≤ 64)
has_behind n tops ends s count others left len a two most few behind fits shows count_is left_is some len_is =
    let from : ℕ = get_or TOPS_OF n 0 in
    let mask : ℕ = bit_and (ends / 2 ^ s) from in
    let later : ends / 2 ^ s < 2 ^ 64 = omega (arith, shr_le ends s, fits) in
    let small : mask < 2 ^ 64 = omega (arith, and_le_l (ends / 2 ^ s) from, later) in
    let moved : bit_and ends tops ≡ 2 ^ s * mask = ap (bit_and ends) behind ∙ and_behind s ends from few fits in
    let whole : bit_and ends tops < 2 ^ 64 = omega (arith, and_le_l ends tops, fits) in
    let all : left ≡ 2 ^ s * clears others mask = left_is ∙ all_cleared others (bit_and ends tops) whole ∙ ap (clears others) moved ∙ clears_high others s mask in
    let positive : 0 < clears others mask = more (clears others mask) all in
    let low = split_low (clears others mask) (clears others mask) (omega arith) positive in
    let left_small : left < 2 ^ 64 = omega (arith, left_is ∙ all_cleared others (bit_and ends tops) whole, clears_most others (bit_and ends tops), whole) in
    let split : left ≡ 2 ^ (s + low.0) * (1 + 2 * low.1) = all ∙ ap (λ (x : ℕ). 2 ^ s * x) low.2 ∙ joined low.0 (1 + 2 * low.1) in
    let here : trailing_zeros w64 left ≡ s + low.0 = lowest_is left (s + low.0) low.1 left_small split in
    let there : trailing_zeros w64 (cleared_by others mask) ≡ low.0 = ap (trailing_zeros w64) (all_cleared others mask small) ∙ lowest_is (clears others mask) low.0 low.1 (omega (arith, clears_most others mask, small)) low.2 in
    let first : ℕ = trailing_zeros w64 (cleared_by others mask) + 1 in
    let h = has_few n from (ends / 2 ^ s) count others (cleared_by others mask) first (beyond a s) two (listed_tops n two most) later (shows_after s ends a.bits fits shows) count_is refl (λ none. omega (arith, none, all_cleared others mask small, positive)) refl in
    let within = (bit_at-trailing_zeros w64 left (not_none left some) left_small).0 in
    ((first, omega (arith, len_is, here, there), h.0), omega (arith, len_is, within))
  where
    not_none : (x : ℕ) → (x ≡ 0 → ⊥) → 0 < x
    not_none zero none = absurd (none refl)
    not_none (suc x) none = omega arith

    more : (x : ℕ) → left ≡ 2 ^ s * x → 0 < x
    more zero is = absurd (some (is ∙ omega arith))
    more (suc x) is = omega arith

    joined : (k x : ℕ) → 2 ^ s * (2 ^ k * x) ≡ 2 ^ (s + k) * x
    joined k x = let both = pow-add 2 s k in let turned : 2 ^ s * (2 ^ k * x) ≡ 2 ^ s * 2 ^ k * x = omega arith in turned ∙ ap (λ (y : ℕ). y * x) (sym both)
