-- The tables of the chunks of numbers of eight bits.
use Rattle.std.proofs.Common.{◌≡◌, ℕ, zero, suc, ◌+◌, ◌*◌, ◌/◌, ◌^◌, ◌<◌, ◌≤◌, List, [], ◌∷◌, get_or, refl, ap, ◌∙◌, arith}
use Rattle.bit_grammar.specs.Bits.{bits_of}
use Rattle.bit_grammar.specs.FormatFields.{shortest}
use Rattle.bit_fields.proofs.WriterChunks.{short_spelled, short_below}
use Rattle.bit_fields.specs.declared.pen.TheConstants.{BYTE_CHUNKS, BYTE_BITS}

-- whether a number of ten bits has a second chunk
abbrev more : ℕ → ℕ
more n = (n + 992) / 1024

abbrev chunks : ℕ → ℕ
chunks n = n + 32 * (n / 32 + more n)

abbrev bits : ℕ → ℕ
bits n = 6 + 6 * more n

-- the values of a function from a number on
abbrev rows : (ℕ → ℕ) → (first count : ℕ) → List ℕ
rows f first zero = []
rows f first (suc count) = f first ∷ rows f (suc first) count

row_at : (f : ℕ → ℕ) (first count i : ℕ) → i < count → get_or (rows f first count) i 0 ≡ f (first + i)
row_at f first zero i h = absurd (omega arith)
row_at f first (suc count) zero h = let same : first + 0 ≡ first = omega arith in rw same refl
row_at f first (suc count) (suc i) h =
    let next : suc first + i ≡ first + suc i = omega arith in
    row_at f (suc first) count i (omega arith) ∙ ap f next

are_chunks : BYTE_CHUNKS ≡ rows chunks 0 256
are_chunks = refl

are_bits : BYTE_BITS ≡ rows bits 0 256
are_bits = refl

pub chunks_at : (n : ℕ) → n < 256 → get_or BYTE_CHUNKS n 0 ≡ chunks n
chunks_at n h = ap (λ (l : List ℕ). get_or l n 0) are_chunks ∙ rw zero_plus at (row_at chunks 0 256 n h)
  where
    zero_plus : 0 + n ≡ n
    zero_plus = omega arith

pub bits_at : (n : ℕ) → n < 256 → get_or BYTE_BITS n 0 ≡ bits n
bits_at n h = ap (λ (l : List ℕ). get_or l n 0) are_bits ∙ rw zero_plus at (row_at bits 0 256 n h)
  where
    zero_plus : 0 + n ≡ n
    zero_plus = omega arith

pub byte_spelled : (n : ℕ) → n < 256 → bits_of (get_or BYTE_BITS n 0) (get_or BYTE_CHUNKS n 0) ≡ shortest 6 n
byte_spelled n h = rw (chunks_at n h, bits_at n h) (short_spelled n (more n) (chunks n) (omega arith) refl refl)

pub byte_short : (n : ℕ) → n < 256 → (get_or BYTE_CHUNKS n 0 < 2 ^ get_or BYTE_BITS n 0) × (get_or BYTE_BITS n 0 ≤ 12)
byte_short n h = rw (chunks_at n h, bits_at n h) (short_below n (more n) (chunks n) (omega arith) refl refl, omega arith)
