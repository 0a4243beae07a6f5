-- Bits that are stored into bytes at a position.
use Rattle.std.proofs.Common.{◌≡◌, ℕ, zero, suc, ◌+◌, ◌-◌, ◌*◌, ◌/◌, ◌%◌, ◌^◌, ◌<◌, ◌≤◌, Bool, true, false, leb, List, [], ◌∷◌, ◌++◌, length, replicate, take, drop, set, get_or, bit_and, refl, sym, ap, ◌∙◌, subst, arith, append_assoc, drop-cons, add-one, inl, inr}
use Rattle.std.proofs.lemmas.List.{append-nil, length-append, length-set, length-drop, drop_all, length-take-le, length-replicate, replicate-append-replicate, set-append_right, set_split, take_at, drop_at, take-append-drop}
use Rattle.std.proofs.lemmas.Nat.{and_mask, one_shl, shl_whole, shl_below, pow_pos, mod_below, div_below, le_bytes_4}
use Rattle.std.proofs.lemmas.Bool.{cases_lt, lt-leb, le-leb}
use mir.Val.{bool_byte}
use Rattle.std.specs.Int.{w32, w64, to_le_bytes, from_le_bytes}
use Rattle.bit_grammar.specs.Bits.{number, bits_of, bits_of_bytes}
use Rattle.bit_grammar.specs.FormatFields.{shortest}
use Rattle.bit_grammar.proofs.Bits.Numbers.{length-bits_of, number-append, number_below, pow_mono}
use Rattle.bit_grammar.proofs.NormalForms.Sizes.{short_length, short_range}
use Rattle.bit_fields.proofs.BitLaws.{number-bits_mod, take-bits_of, bits_of-above, bits_of-split, bits_of-mod, bits_of_bytes-append, length-bits_of_bytes, le_bytes_bits, le_bytes_bits_32, left_after, pushed_is, pushed_below}
use Rattle.bit_grammar.specs.Normal.{values_bits}
use Rattle.bit_fields.proofs.WriterChunks.{short_spelled}
use Rattle.bit_fields.specs.Pens.{BeginWith, HoldBits, Puts, KeepsFront, TakesBack}

-- ---- in parts

held_is : (bytes : List ℕ) (s t : List Bool) → s ≡ t → HoldBits bytes s → HoldBits bytes t
held_is bytes s t is h = subst (λ (b : List Bool). HoldBits bytes b) is h

pub puts_nothing : (at : ℕ) (bytes : List ℕ) → Puts [] at bytes at bytes
puts_nothing at bytes = record {
  same = refl;
  ends = omega arith;
  holds = λ bits len h. held_is bytes bits (bits ++ []) (sym (append-nil bits)) h;
}

pub puts_then : (s t : List Bool) (at mid after : ℕ) (a b c : List ℕ) → Puts s at a mid b → Puts t mid b after c → Puts (s ++ t) at a after c
puts_then s t at mid after a b c p q = record {
  same = q.same ∙ p.same;
  ends = omega (arith, p.ends, q.ends, length-append s t);
  holds = λ bits len h. held_is c ((bits ++ s) ++ t) (bits ++ (s ++ t)) (append_assoc bits s t) (q.holds (bits ++ s) (omega (arith, len, p.ends, length-append bits s)) (p.holds bits len h));
}

pub puts_as : (s t : List Bool) (at after : ℕ) (a b : List ℕ) → s ≡ t → Puts s at a after b → Puts t at a after b
puts_as s t at after a b is p = subst (λ (u : List Bool). Puts u at a after b) is p

held_begun : (bytes : List ℕ) (bits : List Bool) → HoldBits bytes bits → BeginWith bytes bits
held_begun bytes bits h = (replicate (8 - length bits % 8) false ++ h.0, h.1)

begun_less : (bytes : List ℕ) (s t : List Bool) → BeginWith bytes (s ++ t) → BeginWith bytes s
begun_less bytes s t h = (t ++ h.0, h.1 ∙ append_assoc s t h.0)

pub puts_keeps : (s : List Bool) (at after : ℕ) (a b : List ℕ) → Puts s at a after b → KeepsFront at a b
puts_keeps s at after a b p = record {
  same = p.same;
  front = λ bits len h. begun_less b bits s (held_begun b (bits ++ s) (p.holds bits len h));
}

pub keeps_then : (s : List Bool) (at mid : ℕ) (a b c : List ℕ) → Puts s at a mid b → KeepsFront mid b c → KeepsFront at a c
keeps_then s at mid a b c p k = record {
  same = k.same ∙ p.same;
  front = λ bits len h. begun_less c bits s (k.front (bits ++ s) (omega (arith, len, p.ends, length-append bits s)) (p.holds bits len h));
}

pub takes_back_holds : (at : ℕ) (a b c : List ℕ) → KeepsFront at a b → TakesBack at b c → ((bits : List Bool) → length bits ≡ at → HoldBits a bits → HoldBits c bits)
takes_back_holds at a b c k t = λ bits len h. t.holds bits len (k.front bits len h)

-- ---- eight bytes that are stored

abbrev pub eight_stored : List ℕ → ℕ → List ℕ → List ℕ
eight_stored bytes i e =
    set (set (set (set (set (set (set (set bytes i (get_or e 0 0)) (i + 1) (get_or e 1 0)) (i + 2) (get_or e 2 0)) (i + 3) (get_or e 3 0)) (i + 4) (get_or e 4 0)) (i + 5) (get_or e 5 0)) (i + 6) (get_or e 6 0)) (i + 7) (get_or e 7 0)

set_after : (a b : List ℕ) (i j y : ℕ) → length a ≡ i → set (a ++ b) (i + j) y ≡ a ++ set b j y
set_after a b i j y len = let e : i + j - i ≡ j = omega arith in set-append_right a b i (i + j) y len (omega arith) ∙ ap (λ (k : ℕ). a ++ set b k y) e

stored_after : (a b e : List ℕ) (i : ℕ) → length a ≡ i → eight_stored (a ++ b) i e ≡ a ++ eight_stored b 0 e
stored_after a b e i len =
    let first : set (a ++ b) i (get_or e 0 0) ≡ a ++ set b 0 (get_or e 0 0) = ap (λ (k : ℕ). set (a ++ b) k (get_or e 0 0)) (omega arith) ∙ set_after a b i 0 (get_or e 0 0) len in
    rw (first, set_after a _ i 1 (get_or e 1 0) len, set_after a _ i 2 (get_or e 2 0) len, set_after a _ i 3 (get_or e 3 0) len, set_after a _ i 4 (get_or e 4 0) len, set_after a _ i 5 (get_or e 5 0) len, set_after a _ i 6 (get_or e 6 0) len, set_after a _ i 7 (get_or e 7 0) len) refl

stored_first : (b e : List ℕ) → 8 ≤ length b → eight_stored b 0 e ≡ get_or e 0 0 ∷ get_or e 1 0 ∷ get_or e 2 0 ∷ get_or e 3 0 ∷ get_or e 4 0 ∷ get_or e 5 0 ∷ get_or e 6 0 ∷ get_or e 7 0 ∷ drop 8 b
stored_first [] e long = absurd (omega arith)
stored_first (a ∷ []) e long = absurd (omega arith)
stored_first (a ∷ b ∷ []) e long = absurd (omega arith)
stored_first (a ∷ b ∷ c ∷ []) e long = absurd (omega arith)
stored_first (a ∷ b ∷ c ∷ d ∷ []) e long = absurd (omega arith)
stored_first (a ∷ b ∷ c ∷ d ∷ f ∷ []) e long = absurd (omega arith)
stored_first (a ∷ b ∷ c ∷ d ∷ f ∷ g ∷ []) e long = absurd (omega arith)
stored_first (a ∷ b ∷ c ∷ d ∷ f ∷ g ∷ h ∷ []) e long = absurd (omega arith)
stored_first (a ∷ b ∷ c ∷ d ∷ f ∷ g ∷ h ∷ i ∷ s) e long = refl

stored_is : (bytes : List ℕ) (i v : ℕ) → i + 8 ≤ length bytes → eight_stored bytes i (to_le_bytes w64 v) ≡ take i bytes ++ (to_le_bytes w64 v ++ drop 8 (drop i bytes))
stored_is bytes i v there =
    ap (λ (s : List ℕ). eight_stored s i (to_le_bytes w64 v)) (sym (take-append-drop i bytes))
    ∙ stored_after (take i bytes) (drop i bytes) (to_le_bytes w64 v) i (length-take-le i bytes (omega arith))
    ∙ ap (λ (s : List ℕ). take i bytes ++ s) (stored_first (drop i bytes) (to_le_bytes w64 v) (omega (arith, length-drop i bytes)))

stored_length : (bytes e : List ℕ) (i : ℕ) → length (eight_stored bytes i e) ≡ length bytes
stored_length bytes e i =
    rw (length-set _ (i + 7) (get_or e 7 0), length-set _ (i + 6) (get_or e 6 0), length-set _ (i + 5) (get_or e 5 0), length-set _ (i + 4) (get_or e 4 0), length-set _ (i + 3) (get_or e 3 0), length-set _ (i + 2) (get_or e 2 0), length-set _ (i + 1) (get_or e 1 0), length-set bytes i (get_or e 0 0)) refl

-- ---- the byte with the next bit

split_same : (a b c d : List Bool) (n : ℕ) → length a ≡ n → length c ≡ n → a ++ b ≡ c ++ d → (a ≡ c) × (b ≡ d)
split_same a b c d n first second is = (sym (take_at a b n first) ∙ ap (take n) is ∙ take_at c d n second, sym (drop_at a b n first) ∙ ap (drop n) is ∙ drop_at c d n second)

byte_between : (i : ℕ) (bytes : List ℕ) → i < length bytes → bits_of_bytes bytes ≡ bits_of_bytes (take i bytes) ++ (bits_of 8 (get_or bytes i 0) ++ bits_of_bytes (drop (suc i) bytes))
byte_between i bytes lt =
    ap bits_of_bytes (sym (take-append-drop i bytes))
    ∙ bits_of_bytes-append (take i bytes) (drop i bytes)
    ∙ ap (λ (s : List ℕ). bits_of_bytes (take i bytes) ++ bits_of_bytes s) (drop-cons bytes i 0 lt)

-- the bits before a byte, its low bits and the others, of bytes that begin with some bits
record ByteOf (bytes : List ℕ) (bits more : List Bool) (i r : ℕ) : Type 0 where
  pub front : List Bool
  pub low : List Bool
  pub len : length low ≡ r
  pub is : bits ≡ front ++ low
  pub before : bits_of_bytes (take i bytes) ≡ front
  pub after : bits_of 8 (get_or bytes i 0) ++ bits_of_bytes (drop (suc i) bytes) ≡ low ++ more

byte_of : (bytes : List ℕ) (bits more : List Bool) (at : ℕ) → length bits ≡ at → at < 8 * length bytes → bits_of_bytes bytes ≡ bits ++ more → ByteOf bytes bits more (at / 8) (at % 8)
byte_of bytes bits more at len there is =
    let i = at / 8 in
    let front = take (8 * i) bits in
    let low = drop (8 * i) bits in
    let parts : bits ≡ front ++ low = sym (take-append-drop (8 * i) bits) in
    let wide : length front ≡ 8 * i = length-take-le (8 * i) bits (omega (arith, len)) in
    let place : length (bits_of_bytes (take i bytes)) ≡ 8 * i = omega (arith, length-bits_of_bytes (take i bytes), length-take-le i bytes (omega arith)) in
    let whole : bits_of_bytes (take i bytes) ++ (bits_of 8 (get_or bytes i 0) ++ bits_of_bytes (drop (suc i) bytes)) ≡ front ++ (low ++ more) =
    sym (byte_between i bytes (omega arith)) ∙ is ∙ ap (λ (s : List Bool). s ++ more) parts ∙ append_assoc front low more in
    let both = split_same _ _ front (low ++ more) (8 * i) place wide whole in
    record { front = front; low = low; len = length-drop (8 * i) bits ∙ omega (arith, len); is = parts; before = both.0; after = both.1 }

number_zeros : (k : ℕ) → number (replicate k false) ≡ 0
number_zeros zero = refl
number_zeros (suc k) = omega (arith, number_zeros k)

zeros_of : (k : ℕ) → bits_of k 0 ≡ replicate k false
zeros_of zero = refl
zeros_of (suc k) = ap (λ (s : List Bool). false ∷ s) (zeros_of k)

-- a byte with zeros after its low bits
low_byte : (byte r : ℕ) (low others more : List Bool) → byte < 256 → r ≤ 8 → length low ≡ r → bits_of 8 byte ++ others ≡ low ++ (replicate (8 - r) false ++ more) → (byte < 2 ^ r) × (bits_of r byte ≡ low)
low_byte byte r low others more small few len is =
    let zeros = replicate (8 - r) false in
    let wide : length (low ++ zeros) ≡ 8 = omega (arith, length-append low zeros, length-replicate (8 - r) false, len) in
    let eight : bits_of 8 byte ≡ low ++ zeros = (split_same (bits_of 8 byte) others (low ++ zeros) more 8 (length-bits_of 8 byte) wide (is ∙ sym (append_assoc low zeros more))).0 in
    let value : byte % 2 ^ 8 ≡ number low + 2 ^ length low * number zeros = sym (number-bits_mod 8 byte) ∙ ap number eight ∙ number-append low zeros in
    let none : 2 ^ length low * number zeros ≡ 0 = rw (number_zeros (8 - r)) (omega arith) in
    let below : number low < 2 ^ r = subst (λ (k : ℕ). number low < 2 ^ k) len (number_below low) in
    (omega (arith, value, none, below), sym (take-bits_of r 8 byte few) ∙ ap (take r) eight ∙ take_at low zeros r len)

word_bits : (byte value r n k : ℕ) (low : List Bool) → byte < 2 ^ r → value < 2 ^ n → r + (n + k) ≡ 64 → bits_of r byte ≡ low → bits_of 64 (byte + value * 2 ^ r) ≡ low ++ (bits_of n value ++ replicate k false)
word_bits byte value r n k low small fits all is =
    let none : value / 2 ^ n ≡ 0 = let b : value / 2 ^ n < 1 = div_below value (2 ^ n) 1 (pow_pos n) (omega (arith, fits)) in omega arith in
    ap (λ (w : ℕ). bits_of w (byte + value * 2 ^ r)) (sym all)
    ∙ bits_of-above r (n + k) byte value small
    ∙ ap (λ (s : List Bool). s ++ bits_of (n + k) value) is
    ∙ ap (λ (s : List Bool). low ++ s) (bits_of-split n k value ∙ ap (λ (v : ℕ). bits_of n value ++ bits_of k v) none ∙ ap (λ (s : List Bool). bits_of n value ++ s) (zeros_of k))

regroup : (a b c d e : List Bool) → a ++ ((b ++ (c ++ d)) ++ e) ≡ ((a ++ b) ++ c) ++ (d ++ e)
regroup a b c d e =
    ap (λ (s : List Bool). a ++ s) (append_assoc b (c ++ d) e ∙ ap (λ (s : List Bool). b ++ s) (append_assoc c d e))
    ∙ sym (append_assoc a b (c ++ (d ++ e)))
    ∙ sym (append_assoc (a ++ b) c (d ++ e))

zeros_cut : (m k : ℕ) (rest : List Bool) → m ≤ k → replicate k false ++ rest ≡ replicate m false ++ (replicate (k - m) false ++ rest)
zeros_cut m k rest le =
    let e : m + (k - m) ≡ k = omega arith in
    ap (λ (s : List Bool). s ++ rest) (sym (replicate-append-replicate m (k - m) false ∙ ap (λ (j : ℕ). replicate j false) e)) ∙ append_assoc (replicate m false) (replicate (k - m) false) rest

-- at least the byte of the next bit has zeros
zeros_enough : (at n len : ℕ) → n ≤ 56 → len ≡ at + n → 8 - len % 8 ≤ 64 - (at % 8 + n)
zeros_enough at n len few is = omega (arith, is, few)

held_after : (bytes : List ℕ) (bits : List Bool) (at n value : ℕ) → length bits ≡ at → n ≤ 56 → value < 2 ^ n → at + 64 ≤ 8 * length bytes → get_or bytes (at / 8) 0 < 256 → HoldBits bytes bits
    → HoldBits (eight_stored bytes (at / 8) (to_le_bytes w64 (get_or bytes (at / 8) 0 + value * 2 ^ (at % 8)))) (bits ++ bits_of n value)
held_after bytes bits at n value len few fits room small h =
    let i = at / 8 in
    let r = at % 8 in
    let k = 64 - (r + n) in
    let byte = get_or bytes i 0 in
    let word = byte + value * 2 ^ r in
    let behind = drop 8 (drop i bytes) in
    let zeros : replicate (8 - length bits % 8) false ++ h.0 ≡ replicate (8 - r) false ++ h.0 = ap (λ (m : ℕ). replicate (8 - m % 8) false ++ h.0) len in
    let b = byte_of bytes bits (replicate (8 - r) false ++ h.0) at len (omega (arith, room)) (h.1 ∙ ap (λ (s : List Bool). bits ++ s) zeros) in
    let low = low_byte byte r b.low (bits_of_bytes (drop (suc i) bytes)) h.0 small (omega arith) b.len b.after in
    let all : r + (n + k) ≡ 64 = omega (arith, few) in
    let new = bits ++ bits_of n value in
    let count : length new ≡ at + n = omega (arith, length-append bits (bits_of n value), length-bits_of n value, len) in
    let m = 8 - length new % 8 in (
      replicate (k - m) false ++ bits_of_bytes behind,
      ap bits_of_bytes (stored_is bytes i word (omega (arith, room)))
          ∙ bits_of_bytes-append (take i bytes) (to_le_bytes w64 word ++ behind)
          ∙ ap (λ (s : List Bool). s ++ bits_of_bytes (to_le_bytes w64 word ++ behind)) b.before
          ∙ ap (λ (s : List Bool). b.front ++ s) (bits_of_bytes-append (to_le_bytes w64 word) behind ∙ ap (λ (s : List Bool). s ++ bits_of_bytes behind) (le_bytes_bits word ∙ word_bits byte value r n k b.low low.0 fits all low.1))
          ∙ regroup b.front b.low (bits_of n value) (replicate k false) (bits_of_bytes behind)
          ∙ ap (λ (s : List Bool). (s ++ bits_of n value) ++ (replicate k false ++ bits_of_bytes behind)) (sym b.is)
          ∙ ap (λ (s : List Bool). new ++ s) (zeros_cut m k (bits_of_bytes behind) (zeros_enough at n (length new) few count)),
    )

-- a value at its place in the byte with the next bit
pub placed_is : (at n value : ℕ) → n ≤ 56 → value < 2 ^ n → value * 2 ^ bit_and at 7 % 2 ^ 64 ≡ value * 2 ^ (at % 8)
placed_is at n value few fits =
    let low : bit_and at 7 ≡ at % 8 = and_mask at 3 in
    ap (λ (k : ℕ). value * 2 ^ k % 2 ^ 64) low ∙ shl_whole value n (at % 8) 64 fits (omega (arith, few))

pub placed_below : (at n value : ℕ) → n ≤ 56 → value < 2 ^ n → value * 2 ^ (at % 8) < 2 ^ 63
placed_below at n value few fits = omega (arith, shl_below value n (at % 8) fits, pow_mono (n + at % 8) 63 (omega (arith, few)))

pub put_holds : (bytes eight : List ℕ) (at n value byte : ℕ) → n ≤ 56 → value < 2 ^ n → at + 64 ≤ 8 * length bytes → byte < 256 → byte ≡ get_or bytes (at / 8) 0 → eight ≡ to_le_bytes w64 (byte + value * 2 ^ bit_and at 7 % 2 ^ 64)
    → Puts (bits_of n value) at bytes (at + n) (eight_stored bytes (at / 8) eight)
put_holds bytes eight at n value byte few fits room small byte_is is =
    let whole : eight ≡ to_le_bytes w64 (get_or bytes (at / 8) 0 + value * 2 ^ (at % 8)) = is ∙ ap (λ (x : ℕ). to_le_bytes w64 (byte + x)) (placed_is at n value few fits) ∙ ap (λ (x : ℕ). to_le_bytes w64 (x + value * 2 ^ (at % 8))) byte_is in
    record {
      same = stored_length bytes eight (at / 8);
      ends = ap (λ (k : ℕ). at + k) (sym (length-bits_of n value));
      holds = λ bits len h. subst (λ (s : List ℕ). HoldBits (eight_stored bytes (at / 8) s) (bits ++ bits_of n value)) (sym whole) (held_after bytes bits at n value len few fits room (omega (arith, small, byte_is)) h);
    }

-- ---- chunks of six bits

-- how many bits a number has in chunks of six bits
pub six_range : (v : ℕ) → (6 ≤ length (shortest 6 v)) × (length (shortest 6 v) ≤ 78)
six_range v = let range = short_range 6 v (omega arith) in (omega (arith, range.0, short_length 6 v (omega arith)), omega (arith, range.1, short_length 6 v (omega arith)))

-- a number above another one
pub two_joined : (i j x y : ℕ) (s t : List Bool) → x < 2 ^ i → y < 2 ^ j → i + j ≤ 64 → bits_of i x ≡ s → bits_of j y ≡ t
    → (x + y * 2 ^ i % 2 ^ 64 < 2 ^ (i + j)) × (bits_of (i + j) (x + y * 2 ^ i % 2 ^ 64) ≡ s ++ t)
two_joined i j x y s t low high room first second =
    rw (pushed_is i x j y high room) (
      pushed_below i x j y low high,
      bits_of-above i j x y low ∙ ap (λ (u : List Bool). u ++ bits_of j y) first ∙ ap (λ (u : List Bool). s ++ u) second,
    )

-- ---- chunks of a number of ten bits

some_more : (value more : ℕ) → value < 1024 → more ≡ bool_byte (leb 32 value) → more ≡ (value + 992) / 1024
some_more value more few is = elim (cases_lt value 32) [
  | inl lt ↦ let no : leb 32 value ≡ false = lt-leb _ _ lt in is ∙ rw no (omega arith)
  | inr le ↦ let yes : leb 32 value ≡ true = le-leb _ _ le in is ∙ rw yes (omega arith)
]

pub ten_spelled : (value more : ℕ) → value < 1024 → more ≡ bool_byte (leb 32 value) → bits_of (6 + 6 * more) (value + 32 * (value / 32 + more)) ≡ shortest 6 value
ten_spelled value more few is = short_spelled value more _ few (some_more value more few is) refl

-- ---- bits that are dropped

masked : (byte r : ℕ) → r ≤ 8 → bits_of 8 (byte % 2 ^ r) ≡ bits_of r byte ++ replicate (8 - r) false
masked byte r few =
    let e : r + (8 - r) ≡ 8 = omega arith in
    let none : byte % 2 ^ r / 2 ^ r ≡ 0 = let b : byte % 2 ^ r / 2 ^ r < 1 = div_below (byte % 2 ^ r) (2 ^ r) 1 (pow_pos r) (omega (arith, mod_below byte (2 ^ r) (pow_pos r))) in omega arith in
    ap (λ (k : ℕ). bits_of k (byte % 2 ^ r)) (sym e)
    ∙ bits_of-split r (8 - r) (byte % 2 ^ r)
    ∙ ap (λ (s : List Bool). s ++ bits_of (8 - r) (byte % 2 ^ r / 2 ^ r)) (bits_of-mod r byte)
    ∙ ap (λ (s : List Bool). bits_of r byte ++ s) (ap (bits_of (8 - r)) none ∙ zeros_of (8 - r))

held_before : (bytes : List ℕ) (bits : List Bool) (at : ℕ) → length bits ≡ at → at < 8 * length bytes → BeginWith bytes bits → HoldBits (set bytes (at / 8) (get_or bytes (at / 8) 0 % 2 ^ (at % 8))) bits
held_before bytes bits at len there h =
    let i = at / 8 in
    let r = at % 8 in
    let byte = get_or bytes i 0 in
    let behind = bits_of_bytes (drop (suc i) bytes) in
    let b = byte_of bytes bits h.0 at len there h.1 in
    let few : r ≤ 8 = omega arith in
    let e : r + (8 - r) ≡ 8 = omega arith in
    let high = bits_of (8 - r) (byte / 2 ^ r) in
    let parts : bits_of 8 byte ≡ bits_of r byte ++ high = ap (λ (k : ℕ). bits_of k byte) (sym e) ∙ bits_of-split r (8 - r) byte in
    let low : bits_of r byte ≡ b.low = (split_same (bits_of r byte) (high ++ behind) b.low h.0 r (length-bits_of r byte) b.len (sym (append_assoc (bits_of r byte) high behind) ∙ ap (λ (s : List Bool). s ++ behind) (sym parts) ∙ b.after)).0 in
    let zeros = replicate (8 - r) false in (
      behind,
      ap bits_of_bytes (set_split bytes i (byte % 2 ^ r) (omega (arith, there)))
          ∙ bits_of_bytes-append (take i bytes) (byte % 2 ^ r ∷ drop (suc i) bytes)
          ∙ ap (λ (s : List Bool). s ++ (bits_of 8 (byte % 2 ^ r) ++ behind)) b.before
          ∙ ap (λ (s : List Bool). b.front ++ (s ++ behind)) (masked byte r few ∙ ap (λ (s : List Bool). s ++ zeros) low)
          ∙ ap (λ (s : List Bool). b.front ++ s) (append_assoc b.low zeros behind)
          ∙ sym (append_assoc b.front b.low (zeros ++ behind))
          ∙ ap (λ (s : List Bool). s ++ (zeros ++ behind)) (sym b.is)
          ∙ ap (λ (k : ℕ). bits ++ (replicate (8 - k % 8) false ++ behind)) (sym len),
    )

-- a mask of fewer than eight bits
mask_is : (at : ℕ) → 1 * 2 ^ bit_and at 7 % 2 ^ 32 - 1 ≡ 2 ^ (at % 8) - 1
mask_is at =
    let low : bit_and at 7 ≡ at % 8 = and_mask at 3 in
    let whole : 1 * 2 ^ (at % 8) % 2 ^ 32 ≡ 2 ^ (at % 8) = one_shl (at % 8) 32 (omega arith) in
    rw (low, whole) refl

pub dropped_holds : (bytes : List ℕ) (at : ℕ) → at < 8 * length bytes → TakesBack at bytes (set bytes (at / 8) (bit_and (get_or bytes (at / 8) 0) ((1 * 2 ^ bit_and at 7 % 2 ^ 32 - 1))))
dropped_holds bytes at there =
    let is : bit_and (get_or bytes (at / 8) 0) ((1 * 2 ^ bit_and at 7 % 2 ^ 32 - 1)) ≡ get_or bytes (at / 8) 0 % 2 ^ (at % 8) = ap (bit_and (get_or bytes (at / 8) 0)) (mask_is at) ∙ and_mask (get_or bytes (at / 8) 0) (at % 8) in
    rw is (record { same = length-set bytes (at / 8) (get_or bytes (at / 8) 0 % 2 ^ (at % 8)); holds = λ bits len h. held_before bytes bits at len there h })

-- ---- more chunks

pub ten_range : (v : ℕ) → v < 1024 → length (shortest 6 v) ≤ 12
ten_range v few =
    let more = (v + 992) / 1024 in
    let is = short_spelled v more (v + 32 * (v / 32 + more)) few refl refl in
    omega (arith, ap length is, length-bits_of (6 + 6 * more) (v + 32 * (v / 32 + more)), few)

-- two chunks below others
pub low_joined : (value low chunks bits : ℕ) → low < 4096 → chunks < 2 ^ bits → bits_of bits chunks ≡ shortest 6 (value / 1024) → bits_of 12 low ++ shortest 6 (value / 1024) ≡ shortest 6 value
    → (low + 4096 * chunks < 2 ^ (bits + 12)) × (bits_of (bits + 12) (low + 4096 * chunks) ≡ shortest 6 value)
low_joined value low chunks bits few below high whole =
    let width : bits + 12 ≡ 12 + bits = omega arith in
    let word : low + 4096 * chunks ≡ low + chunks * 2 ^ 12 = omega arith in
    let small : low < 2 ^ 12 = omega (arith, few) in
    rw (width, word) (pushed_below 12 low bits chunks small below, bits_of-above 12 bits low chunks small ∙ ap (λ (s : List Bool). bits_of 12 low ++ s) high ∙ whole)

-- ---- some of the bits were stored

pub record Storing (at : ℕ) (old : List ℕ) (now : ℕ) (new : List ℕ) (all left : List Bool) : Type 0 where
  pub done : List Bool
  pub puts : Puts done at old now new
  pub is : done ++ left ≡ all

pub storing_starts : (at : ℕ) (old : List ℕ) (all : List Bool) → Storing at old at old all all
storing_starts at old all = record { done = []; puts = puts_nothing at old; is = refl }

pub storing_as : (at : ℕ) (old : List ℕ) (now : ℕ) (new : List ℕ) (all s t : List Bool) → s ≡ t → Storing at old now new all s → Storing at old now new all t
storing_as at old now new all s t is g = subst (λ (u : List Bool). Storing at old now new all u) is g

pub storing_goes_on : (at : ℕ) (old : List ℕ) (now : ℕ) (new : List ℕ) (after : ℕ) (newer : List ℕ) (all s left : List Bool) → Storing at old now new all (s ++ left) → Puts s now new after newer → Storing at old after newer all left
storing_goes_on at old now new after newer all s left g puts = record {
  done = g.done ++ s;
  puts = puts_then g.done s at now after old new newer g.puts puts;
  is = append_assoc g.done s left ∙ g.is;
}

pub storing_ends : (at : ℕ) (old : List ℕ) (now : ℕ) (new : List ℕ) (after : ℕ) (newer : List ℕ) (all s : List Bool) → Storing at old now new all s → Puts s now new after newer → Puts all at old after newer
storing_ends at old now new after newer all s g puts = puts_as (g.done ++ s) all at after old newer g.is (puts_then g.done s at now after old new newer g.puts puts)

pub storing_ended : (at : ℕ) (old : List ℕ) (now : ℕ) (new : List ℕ) (all : List Bool) → Storing at old now new all [] → Puts all at old now new
storing_ended at old now new all g = puts_as g.done all at now old new (sym (append-nil g.done) ∙ g.is) g.puts

pub storing_place : (at : ℕ) (old : List ℕ) (now : ℕ) (new : List ℕ) (all left : List Bool) → Storing at old now new all left → (now + length left ≡ at + length all) × (length new ≡ length old)
storing_place at old now new all left g = (omega (arith, g.puts.ends, ap length g.is, length-append g.done left), g.puts.same)

-- the bits of a great number
pub great_room : (at : ℕ) (old : List ℕ) (now : ℕ) (new : List ℕ) (value rest : ℕ) → Storing at old now new (shortest 6 value) (shortest 6 rest) → at + 142 ≤ 8 * length old → 8 * length old < 2 ^ 64
    → (now + 64 ≤ 8 * length new) × (8 * length new < 2 ^ 64)
great_room at old now new value rest g room counted =
    let place = storing_place at old now new (shortest 6 value) (shortest 6 rest) g in
    let whole = six_range value in
    (omega (arith, place.0, place.1, whole.1, room), omega (arith, place.1, counted))

-- ---- numbers joined

pub chunks_are : (value : ℕ) (a b : ℕ × ℕ) → a ≡ b → bits_of b.1 b.0 ≡ shortest 6 value → bits_of a.1 a.0 ≡ shortest 6 value
chunks_are value a b is spelled = ap (λ (p : ℕ × ℕ). bits_of p.1 p.0) is ∙ spelled

pub four_joined : (i j k l a b c d : ℕ) (s t u v : List Bool) → a < 2 ^ i → b < 2 ^ j → c < 2 ^ k → d < 2 ^ l → i ≤ 12 → j ≤ 12 → k ≤ 12 → l ≤ 12
    → bits_of i a ≡ s → bits_of j b ≡ t → bits_of k c ≡ u → bits_of l d ≡ v
    → ((a + b * 2 ^ i % 2 ^ 64) + (c + d * 2 ^ k % 2 ^ 64) * 2 ^ (i + j) % 2 ^ 64 < 2 ^ (i + j + (k + l)))
    × (bits_of (i + j + (k + l)) ((a + b * 2 ^ i % 2 ^ 64) + (c + d * 2 ^ k % 2 ^ 64) * 2 ^ (i + j) % 2 ^ 64) ≡ (s ++ t) ++ (u ++ v))
    × ((a + b * 2 ^ i % 2 ^ 64) + (c + d * 2 ^ k % 2 ^ 64) * 2 ^ (i + j) % 2 ^ 64 < 2 ^ 48)
four_joined i j k l a b c d s t u v la lb lc ld fi fj fk fl sa sb sc sd =
    let one = two_joined i j a b s t la lb (omega arith) sa sb in
    let two = two_joined k l c d u v lc ld (omega arith) sc sd in
    let all = two_joined (i + j) (k + l) (a + b * 2 ^ i % 2 ^ 64) (c + d * 2 ^ k % 2 ^ 64) (s ++ t) (u ++ v) one.0 two.0 (omega arith) one.1 two.1 in
    (all.0, all.1, omega (arith, all.0, pow_mono (i + j + (k + l)) 48 (omega arith)))

-- ---- lists of numbers

-- Some numbers were stored, and there is room for those that are left.
pub record Filling (f : List ℕ → List Bool) (most spare at : ℕ) (old : List ℕ) (now : ℕ) (new : List ℕ) (all left : List ℕ) : Type 0 where
  pub stored : Storing at old now new (f all) (f left)
  pub room : now + (most * length left + spare) ≤ 8 * length new
  pub counted : 8 * length new < 2 ^ 64

pub filling_starts : (f : List ℕ → List Bool) (most spare at : ℕ) (old all : List ℕ) → at + (most * length all + spare) ≤ 8 * length old → 8 * length old < 2 ^ 64 → Filling f most spare at old at old all all
filling_starts f most spare at old all room counted = record { stored = storing_starts at old (f all); room = room; counted = counted }

pub filling_as : (f : List ℕ → List Bool) (most spare at : ℕ) (old : List ℕ) (now : ℕ) (new all s t : List ℕ) → s ≡ t → Filling f most spare at old now new all s → Filling f most spare at old now new all t
filling_as f most spare at old now new all s t is g = subst (λ (l : List ℕ). Filling f most spare at old now new all l) is g

pub filling_goes_on : (f : List ℕ → List Bool) (most spare at : ℕ) (old : List ℕ) (now : ℕ) (new : List ℕ) (after : ℕ) (newer all left next : List ℕ) (s : List Bool)
    → Filling f most spare at old now new all left → Puts s now new after newer → f left ≡ s ++ f next → length s + most * length next ≤ most * length left → Filling f most spare at old after newer all next
filling_goes_on f most spare at old now new after newer all left next s g puts is fits = record {
  stored = storing_goes_on at old now new after newer (f all) s (f next) (storing_as at old now new (f all) (f left) (s ++ f next) is g.stored) puts;
  room = omega (arith, g.room, puts.ends, puts.same, fits);
  counted = omega (arith, g.counted, puts.same);
}

pub filling_ended : (f : List ℕ → List Bool) (most spare at : ℕ) (old : List ℕ) (now : ℕ) (new all left : List ℕ) → f left ≡ [] → Filling f most spare at old now new all left → Puts (f all) at old now new
filling_ended f most spare at old now new all left none g = storing_ended at old now new (f all) (storing_as at old now new (f all) (f left) [] none g.stored)

-- four numbers come next
values_four : (a b c d : ℕ) (others : List ℕ) → values_bits (a ∷ b ∷ c ∷ d ∷ others) ≡ ((shortest 6 a ++ shortest 6 b) ++ (shortest 6 c ++ shortest 6 d)) ++ values_bits others
values_four a b c d others = four (shortest 6 a) (shortest 6 b) (shortest 6 c) (shortest 6 d) (values_bits others)
  where
    four : (s t u v rest : List Bool) → s ++ (t ++ (u ++ (v ++ rest))) ≡ ((s ++ t) ++ (u ++ v)) ++ rest
    four s t u v rest = sym (append_assoc (s ++ t) (u ++ v) rest ∙ append_assoc s t ((u ++ v) ++ rest) ∙ ap (λ (x : List Bool). s ++ (t ++ x)) (append_assoc u v rest))

-- numbers that are bytes
abbrev pub AreBytes : List ℕ → Type 0
AreBytes s = (k : ℕ) → get_or s k 0 < 256

pub later_bytes : (s : List ℕ) → 4 ≤ length s → AreBytes s → AreBytes (take (length s - 4) (drop 4 s))
later_bytes s many small = subst AreBytes (left_after 4 s) (later s many small)
  where
    later : (t : List ℕ) → 4 ≤ length t → AreBytes t → AreBytes (drop 4 t)
    later [] many small k = absurd (omega arith)
    later (a ∷ []) many small k = absurd (omega arith)
    later (a ∷ b ∷ []) many small k = absurd (omega arith)
    later (a ∷ b ∷ c ∷ []) many small k = absurd (omega arith)
    later (a ∷ b ∷ c ∷ d ∷ t) many small k = small (suc (suc (suc (suc k))))

four_small : (a b c d : ℕ) → a < 256 → b < 256 → c < 256 → d < 256 → AreBytes (a ∷ b ∷ c ∷ d ∷ [])
four_small a b c d la lb lc ld zero = la
four_small a b c d la lb lc ld (suc zero) = lb
four_small a b c d la lb lc ld (suc (suc zero)) = lc
four_small a b c d la lb lc ld (suc (suc (suc zero))) = ld
four_small a b c d la lb lc ld (suc (suc (suc (suc k)))) = omega arith

four_front : (s : List ℕ) → 4 ≤ length s → s ≡ get_or s 0 0 ∷ get_or s 1 0 ∷ get_or s 2 0 ∷ get_or s 3 0 ∷ drop 4 s
four_front [] many = absurd (omega arith)
four_front (a ∷ []) many = absurd (omega arith)
four_front (a ∷ b ∷ []) many = absurd (omega arith)
four_front (a ∷ b ∷ c ∷ []) many = absurd (omega arith)
four_front (a ∷ b ∷ c ∷ d ∷ s) many = refl

four_is : (a b c d a' b' c' d' : ℕ) (s : List ℕ) → a ≡ a' → b ≡ b' → c ≡ c' → d ≡ d' → a ∷ b ∷ c ∷ d ∷ s ≡ a' ∷ b' ∷ c' ∷ d' ∷ s
four_is a b c d a' b' c' d' s ea eb ec ed = rw (ea, eb, ec, ed) refl

four_length : (s t u v : List Bool) (most : ℕ) → length s ≤ most → length t ≤ most → length u ≤ most → length v ≤ most → length ((s ++ t) ++ (u ++ v)) ≤ 4 * most
four_length s t u v most a b c d = omega (arith, length-append (s ++ t) (u ++ v), length-append s t, length-append u v)

-- four numbers were stored
pub numbers_next : (most spare : ℕ) (at : ℕ) (old : List ℕ) (now : ℕ) (new : List ℕ) (after : ℕ) (newer all rest : List ℕ) (a b c d : ℕ)
    → 4 ≤ length rest → a ≡ get_or rest 0 0 → b ≡ get_or rest 1 0 → c ≡ get_or rest 2 0 → d ≡ get_or rest 3 0
    → length (shortest 6 a) ≤ most → length (shortest 6 b) ≤ most → length (shortest 6 c) ≤ most → length (shortest 6 d) ≤ most
    → Filling values_bits most spare at old now new all rest → Puts ((shortest 6 a ++ shortest 6 b) ++ (shortest 6 c ++ shortest 6 d)) now new after newer
    → Filling values_bits most spare at old after newer all (take (length rest - 4) (drop 4 rest))
numbers_next most spare at old now new after newer all rest a b c d some ea eb ec ed la lb lc ld g puts =
    let four = (shortest 6 a ++ shortest 6 b) ++ (shortest 6 c ++ shortest 6 d) in
    let others = drop 4 rest in
    let front : rest ≡ a ∷ b ∷ c ∷ d ∷ others = four_front rest some ∙ sym (four_is a b c d (get_or rest 0 0) (get_or rest 1 0) (get_or rest 2 0) (get_or rest 3 0) others ea eb ec ed) in
    let len : length four ≤ 4 * most = four_length (shortest 6 a) (shortest 6 b) (shortest 6 c) (shortest 6 d) most la lb lc ld in
    let many : most * (4 + length others) ≡ 4 * most + most * length others = omega arith in
    let count : length rest ≡ 4 + length others = omega (arith, length-drop 4 rest, some) in
    filling_as values_bits most spare at old after newer all others (take (length rest - 4) (drop 4 rest)) (left_after 4 rest)
    (filling_goes_on values_bits most spare at old now new after newer all rest others four g puts (ap values_bits front ∙ values_four a b c d others) (rw (count, many) (omega (arith, len))))

-- one number was stored
pub numbers_one : (most spare : ℕ) (at : ℕ) (old : List ℕ) (now : ℕ) (new : List ℕ) (after : ℕ) (newer all rest : List ℕ) (i v : ℕ) → i < length rest → v ≡ get_or rest i 0 → length (shortest 6 v) ≤ most
    → Filling values_bits most spare at old now new all (drop i rest) → Puts (shortest 6 v) now new after newer → Filling values_bits most spare at old after newer all (drop (i + 1) rest)
numbers_one most spare at old now new after newer all rest i v lt is few g puts =
    let next : drop i rest ≡ v ∷ drop (i + 1) rest = rw add-one (drop-cons rest i 0 lt ∙ ap (λ (x : ℕ). x ∷ drop (suc i) rest) (sym is)) in
    let count : length (drop i rest) ≡ 1 + length (drop (i + 1) rest) = omega (arith, length-drop i rest, length-drop (i + 1) rest, lt) in
    let many : most * (1 + length (drop (i + 1) rest)) ≡ most + most * length (drop (i + 1) rest) = omega arith in
    filling_goes_on values_bits most spare at old now new after newer all (drop i rest) (drop (i + 1) rest) (shortest 6 v) g puts (ap values_bits next) (rw (count, many) (omega (arith, few)))

pub numbers_ended : (most spare at : ℕ) (old : List ℕ) (now : ℕ) (new all rest : List ℕ) (i : ℕ) → length rest ≤ i → Filling values_bits most spare at old now new all (drop i rest) → Puts (values_bits all) at old now new
numbers_ended most spare at old now new all rest i le g = filling_ended values_bits most spare at old now new all (drop i rest) (ap values_bits (drop_all i rest le)) g

-- the first two of four numbers were stored
pub second_room : (now mid a b : ℕ) (new newer rest : List ℕ) → 4 ≤ length rest → Puts (shortest 6 a ++ shortest 6 b) now new mid newer → now + (78 * length rest + 64) ≤ 8 * length new → mid + 220 ≤ 8 * length newer
second_room now mid a b new newer rest some puts room = omega (arith, puts.ends, puts.same, length-append (shortest 6 a) (shortest 6 b), (six_range a).1, (six_range b).1, room, some)

-- four bytes were stored
pub bytes_next : (at : ℕ) (old : List ℕ) (now : ℕ) (new : List ℕ) (after : ℕ) (newer all rest : List ℕ) (n : ℕ)
    → 4 ≤ length rest → AreBytes rest → n ≡ from_le_bytes w32 (get_or rest 0 0 ∷ get_or rest 1 0 ∷ get_or rest 2 0 ∷ get_or rest 3 0 ∷ [])
    → Filling bits_of_bytes 8 64 at old now new all rest → Puts (bits_of 32 n) now new after newer → Filling bits_of_bytes 8 64 at old after newer all (take (length rest - 4) (drop 4 rest))
bytes_next at old now new after newer all rest n some small is g puts =
    let four = get_or rest 0 0 ∷ get_or rest 1 0 ∷ get_or rest 2 0 ∷ get_or rest 3 0 ∷ [] in
    let others = drop 4 rest in
    let spelled : bits_of_bytes four ≡ bits_of 32 n = ap bits_of_bytes (sym (le_bytes_4 four n refl (four_small _ _ _ _ (small 0) (small 1) (small 2) (small 3)) is)) ∙ le_bytes_bits_32 n in
    filling_as bits_of_bytes 8 64 at old after newer all others (take (length rest - 4) (drop 4 rest)) (left_after 4 rest)
    (filling_goes_on bits_of_bytes 8 64 at old now new after newer all rest others (bits_of 32 n) g puts
    (ap bits_of_bytes (four_front rest some) ∙ bits_of_bytes-append four others ∙ ap (λ (s : List Bool). s ++ bits_of_bytes others) spelled)
    (omega (arith, length-bits_of 32 n, length-drop 4 rest, some)))

-- one byte was stored
pub bytes_one : (at : ℕ) (old : List ℕ) (now : ℕ) (new : List ℕ) (after : ℕ) (newer all rest : List ℕ) (i v : ℕ) → i < length rest → v ≡ get_or rest i 0
    → Filling bits_of_bytes 8 64 at old now new all (drop i rest) → Puts (bits_of 8 v) now new after newer → Filling bits_of_bytes 8 64 at old after newer all (drop (i + 1) rest)
bytes_one at old now new after newer all rest i v lt is g puts =
    let next : drop i rest ≡ v ∷ drop (i + 1) rest = rw add-one (drop-cons rest i 0 lt ∙ ap (λ (x : ℕ). x ∷ drop (suc i) rest) (sym is)) in
    filling_goes_on bits_of_bytes 8 64 at old now new after newer all (drop i rest) (drop (i + 1) rest) (bits_of 8 v) g puts (ap bits_of_bytes next)
    (omega (arith, length-bits_of 8 v, length-drop i rest, length-drop (i + 1) rest, lt))

pub bytes_ended : (at : ℕ) (old : List ℕ) (now : ℕ) (new all rest : List ℕ) (i : ℕ) → length rest ≤ i → Filling bits_of_bytes 8 64 at old now new all (drop i rest) → Puts (bits_of_bytes all) at old now new
bytes_ended at old now new all rest i le g = filling_ended bits_of_bytes 8 64 at old now new all (drop i rest) (ap bits_of_bytes (drop_all i rest le)) g
