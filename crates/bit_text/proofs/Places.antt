-- The ends of lines, found by sixteen bytes at once.
use Rattle.std.proofs.Common.{◌≡◌, ℕ, ◌+◌, ◌≤◌, Bool, not, List, length, map, arith, eqb}
use Rattle.std.specs.List.{prefix_len}
use Rattle.std.specs.Simd.Lanes.{chunk, mask_l}
use Rattle.std.proofs.lemmas.Simd.{none_from_empty_mask, run_in_chunk_le, run_in_chunk_fails, run_in_chunk_stops}
use Rattle.bit_text.specs.Places.{IsLineEnd}

-- whether a byte is a line feed
abbrev pub feeds : ℕ → Bool
feeds b = eqb b 10

pub no_feed : (text : List ℕ) (i : ℕ) → i + 16 ≤ length text → mask_l (map feeds (chunk i 16 text)) ≡ 0 → IsLineEnd text i (i + 16) (i + 16)
no_feed text i room none = record {
  low = omega arith;
  high = omega arith;
  before = none_from_empty_mask feeds text i 16 0 room none;
  feed = λ h. absurd (omega (arith, h));
}

pub first_feed : (text : List ℕ) (i n : ℕ) → i + 16 ≤ length text → n ≡ prefix_len (λ b. not (feeds b)) (chunk i 16 text) → IsLineEnd text i (i + 16) (i + n)
first_feed text i n room is = record {
  low = omega arith;
  high = omega (arith, run_in_chunk_le feeds text i 16 n 0 room is);
  before = run_in_chunk_fails feeds text i 16 n 0 room is;
  feed = λ h. run_in_chunk_stops feeds text i 16 n 0 room is (omega (arith, h));
}
