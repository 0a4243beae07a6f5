-- Places in a text.
use Rattle.std.specs.Prelude.{◌≡◌, ◌==◌, ℕ, ◌-◌, ◌<◌, ◌≤◌, true, false, List, [], length, take, drop, slice_index, Ok}
use Rattle.bit_text.specs.Numbers.{digits_after, parts_after}

-- the first line feed from one place up to another is here, or there is none and this is the other
pub record IsLineEnd (text : List ℕ) (from to place : ℕ) : Type 0 where
  pub low : from ≤ place
  pub high : place ≤ to
  pub before : (k : ℕ) → from ≤ k → k < place → (slice_index text k == 10) ≡ false
  pub feed : place < to → (slice_index text place == 10) ≡ true

-- the bytes from one place up to another are decimal digits that spell n, so they are within one word
pub record IsNumber (text : List ℕ) (from to n : ℕ) : Type 0 where
  pub low : from ≤ to
  pub high : to ≤ length text
  pub parts : parts_after 32 [] (drop from text) ≡ parts_after 32 (take (to - from) (drop from text)) (drop to text)
  pub digits : digits_after 10 0 (take (to - from) (drop from text)) ≡ Ok n

-- the same within each front of the text that has these bytes
abbrev pub IsRun : (text : List ℕ) → (from to n : ℕ) → Type 0
IsRun text from to n = (end : ℕ) → to ≤ end → end ≤ length text → IsNumber (take end text) from to n

-- the same, and a space or the end of the text is behind them, if there are any
pub record IsWord (text : List ℕ) (from to n : ℕ) : Type 0 where
  pub number : IsNumber text from to n
  pub ends : from < to → to < length text → slice_index text to ≡ 32
