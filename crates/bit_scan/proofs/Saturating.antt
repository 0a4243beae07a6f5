-- Sums that saturate at the greatest number of 64 bits.
use Rattle.std.proofs.Common.{◌≡◌, ℕ, ◌+◌, ◌-◌, ◌<◌, min, arith}
use Rattle.bit_grammar.specs.Bits.{saturated}

-- a sum with a saturated number is the saturated sum
pub sum_stops : (v n more : ℕ) → v ≡ saturated n → min (v + more) 18446744073709551615 ≡ saturated (n + more)
sum_stops v n more is = omega (arith, is)

-- a number that fits is not cut
pub fits_stays : (n : ℕ) → n < 18446744073709551616 → saturated n ≡ n
fits_stays n fits = omega arith

-- the rest of what fits, without a saturated number
pub rest_stops : (whole v n : ℕ) → whole < 18446744073709551616 → v ≡ saturated n → whole - v ≡ whole - n
rest_stops whole v n fits is = omega (arith, is)
