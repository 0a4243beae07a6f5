-- The fields in the words of the format.
-- Source: "LLVM Bitcode File Format", "Primitives": "Fixed Width Integers", "Variable Width Integers", "6-bit
-- characters", "Word Alignment". This project's own: the bounds of a VBR.
use Rattle.std.specs.Prelude.{◌≡◌, ℕ, zero, suc, ◌+◌, ◌-◌, ◌*◌, ◌/◌, ◌%◌, ◌^◌, ◌<◌, ◌≤◌, Bool, true, false, List, [], ◌∷◌, ◌++◌, length, nat_lt, if◌then◌else◌, codes}
use Rattle.std.specs.List.{AllByRecursion}
use Rattle.bit_grammar.specs.Bits.{bit, number, bits_of}
use Rattle.bit_grammar.specs.Terms.{chunk_limit, character}

-- the sum over the bits, from the one numbered i on, of the bit times 2 ^ i
abbrev pub sum_of_bits : (i : ℕ) → List Bool → ℕ
sum_of_bits i [] = 0
sum_of_bits i (b ∷ bits) = bit b * 2 ^ i + sum_of_bits (suc i) bits

-- s is n bits that spell v, the lowest bit first
pub record IsFixed (n v : ℕ) (s : List Bool) : Type 0 where
  pub length : length s ≡ n
  pub value : v ≡ sum_of_bits 0 s

-- chunks with these payloads: the top bit is one in each but the last
abbrev pub chunk_spelling : List (List Bool) → List Bool
chunk_spelling [] = []
chunk_spelling (last ∷ []) = last ++ false ∷ []
chunk_spelling (first ∷ second ∷ others) = first ++ true ∷ chunk_spelling (second ∷ others)

-- the sum over the chunks, from the one numbered j on, of the payload times 2 ^ (j * payload bits)
abbrev pub weighted_sum : (payload : ℕ) → (j : ℕ) → List (List Bool) → ℕ
weighted_sum payload j [] = 0
weighted_sum payload j (first ∷ others) = number first * 2 ^ (j * payload)
    + weighted_sum payload (suc j) others

-- s is chunks of n bits that spell v: at least one and at most the permitted number, the value below 2 ^ 64
pub record IsVbr (n v : ℕ) (s : List Bool) : Type 0 where
  pub payloads : List (List Bool)
  pub some : 1 ≤ length payloads
  pub few : length payloads ≤ chunk_limit (n - 1)
  pub wide : AllByRecursion (λ payload. length payload ≡ n - 1) payloads
  pub bits : s ≡ chunk_spelling payloads
  pub value : v ≡ weighted_sum (n - 1) 0 payloads
  pub below : v < 2 ^ 64

-- the characters in the order of their numbers, as ASCII codes
abbrev pub characters : List ℕ
characters = codes "abcdefghijklmnopqrstuvwxyzABCDEFGHIJKLMNOPQRSTUVWXYZ0123456789._"

-- s is six bits, and v the ASCII code of the character with their number
pub record IsChar6 (v : ℕ) (s : List Bool) : Type 0 where
  pub place : ℕ
  pub bits : IsFixed 6 place s
  pub value : v ≡ character place

-- s, which begins at bit p, is zeros only, fewer than 32, and ends at a multiple of 32
pub record IsPadding (p : ℕ) (s : List Bool) : Type 0 where
  pub zeros : AllByRecursion (λ b. b ≡ false) s
  pub few : length s < 32
  pub aligned : (p + length s) % 32 ≡ 0

-- ---- the shortest VBR

-- the payloads of the fewest chunks that spell a number, at most `permitted`
abbrev pub shortest_payloads : (payload permitted : ℕ) → ℕ → List (List Bool)
shortest_payloads payload zero v = []
shortest_payloads payload (suc permitted) v = bits_of payload v
    ∷ (if nat_lt v (2 ^ payload) then [] else shortest_payloads payload permitted (v / 2 ^ payload))

-- the shortest VBR of width n that spells v
abbrev pub shortest : (n v : ℕ) → List Bool
shortest n v = chunk_spelling (shortest_payloads (n - 1) (chunk_limit (n - 1)) v)
