-- The lengths of the texts of a normal form.
use Rattle.std.proofs.Common.{◌≡◌, ℕ, ◌+◌, ◌*◌, ◌/◌, false, ◌++◌, length, arith}
use Rattle.std.proofs.lemmas.List.{length-append, length-replicate}
use Rattle.bit_grammar.specs.Bits.{bits_of}
use Rattle.bit_grammar.specs.Fields.{padding_length}
use Rattle.bit_grammar.specs.FormatFields.{shortest}
use Rattle.bit_grammar.specs.Normal.{padding, head_text}
use Rattle.bit_grammar.proofs.Bits.Numbers.{length-bits_of}

pub pad_length : (p : ℕ) → length (padding p) ≡ padding_length p
pad_length p = length-replicate (padding_length p) false

pub pad_ends : (p : ℕ) → (k : ℕ) × (p + length (padding p) ≡ 32 * k)
pad_ends p = ((p + padding_length p) / 32, omega (arith, pad_length p))

pub head_length : (id words q : ℕ) → length (head_text id words q) ≡ length (head_text id 0 q)
head_length id words q =
    let a = shortest 8 id in
    let b = shortest 4 2 in
    let z = padding (q + length a + length b) in
    omega (
      arith,
      length-append a (b ++ (z ++ bits_of 32 words)),
      length-append b (z ++ bits_of 32 words),
      length-append z (bits_of 32 words),
      length-append a (b ++ (z ++ bits_of 32 0)),
      length-append b (z ++ bits_of 32 0),
      length-append z (bits_of 32 0),
      length-bits_of 32 words,
      length-bits_of 32 0,
    )

-- a body begins at a multiple of 32
pub body_aligned : (id q : ℕ) → (k : ℕ) × (q + length (head_text id 0 q) ≡ 32 * k)
body_aligned id q =
    let a = shortest 8 id in
    let b = shortest 4 2 in
    let z = padding (q + length a + length b) in
    let k = pad_ends (q + length a + length b) in
    (k.0 + 1, omega (arith, k.1, length-append a (b ++ (z ++ bits_of 32 0)), length-append b (z ++ bits_of 32 0), length-append z (bits_of 32 0), length-bits_of 32 0))
