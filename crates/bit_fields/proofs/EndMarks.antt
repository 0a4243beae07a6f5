-- Numbers in chunks of n bits of a word, the last bits of which another word marks.
use Rattle.std.proofs.Common.{◌≡◌, ℕ, zero, suc, ◌+◌, ◌*◌, ◌-◌, ◌/◌, ◌%◌, ◌^◌, ◌<◌, ◌≤◌, Bool, List, [], ◌∷◌, ◌++◌, length, Ok, refl, sym, ap, ◌∙◌, subst, arith, bit_and, inl, inr}
use Rattle.std.specs.Int.{bit_at}
use Rattle.std.specs.Int.Bits.{and_self}
use Rattle.std.proofs.lemmas.Bool.{cases_lt}
use Rattle.std.proofs.lemmas.Nat.{shr-shr, shr_high, pow_pos, pow-add, and_block, and_le_l, div-add-mod', mul-le}
use Rattle.std.proofs.lemmas.Nat.Bits.{bit_at-suc, bit_at_lowest}
use Rattle.std.proofs.Math.Nat.{mul-mod_left, mul-add-mod_self_right}
use Rattle.bit_grammar.specs.Bits.{bits_of}
use Rattle.bit_grammar.specs.Grammar.{repeat, reading}
use Rattle.bit_grammar.specs.Fields.{vbr}
use Rattle.bit_grammar.specs.Terms.{chunk_limit}
use Rattle.bit_fields.specs.Short.{EndsChunks, payload_number}
use Rattle.bit_fields.proofs.BitLaws.{pow_next, drop-bits_of}
use Rattle.bit_fields.proofs.Chunks.{limit_times}
use Rattle.bit_fields.proofs.Short.{short_reads}
use Rattle.bit_fields.proofs.SixBitSums.{lowest_is, low_set, low_clear}

-- ---- bits

pub bit_behind : (x n i : ℕ) → bit_at (x / 2 ^ n) i ≡ bit_at x (n + i)
bit_behind x n i = ap (λ (y : ℕ). y % 2) (shr-shr x n i)

-- the low bits of numbers that have the same bits there
pub same_bits : (count x y : ℕ) → ((i : ℕ) → i < count → bit_at x i ≡ bit_at y i) → bits_of count x ≡ bits_of count y
same_bits zero x y same = refl
same_bits (suc count) x y same =
    let low : x % 2 ≡ y % 2 = sym (bit_at_lowest x) ∙ same 0 (omega arith) ∙ bit_at_lowest y in
    let later = same_bits count (x / 2) (y / 2) (λ i lt. sym (bit_at-suc x i) ∙ same (suc i) (omega (arith, lt)) ∙ bit_at-suc y i) in
    rw (low, later) refl

-- ---- the lowest 1

split_by : (r fuel x : ℕ) → x % 2 ≡ r → r < 2 → 0 < x → (0 < x / 2 → (s : ℕ) × (high : ℕ) × (x / 2 ≡ 2 ^ s * (1 + 2 * high))) → (s : ℕ) × (high : ℕ) × (x ≡ 2 ^ s * (1 + 2 * high))
split_by zero fuel x is lt some half =
    let h = half (omega (arith, is, some)) in
    let twice : x ≡ 2 * (x / 2) = omega (arith, is) in
    (suc h.0, h.1, rw (pow_next h.0) (omega (arith, twice, h.2)))
split_by (suc zero) fuel x is lt some half = (0, x / 2, omega (arith, is))
split_by (suc (suc r)) fuel x is lt some half = absurd (omega (arith, lt))

pub split_low : (fuel x : ℕ) → x ≤ fuel → 0 < x → (s : ℕ) × (high : ℕ) × (x ≡ 2 ^ s * (1 + 2 * high))
split_low zero x few some = absurd (omega (arith, few, some))
split_low (suc fuel) x few some = split_by (x % 2) fuel x refl (omega arith) some (λ more. split_low fuel (x / 2) (omega (arith, few, some)) more)

-- without its lowest 1
abbrev pub cleared : ℕ → ℕ
cleared x = bit_and x (x - 1)

and_none : (x : ℕ) → bit_and 0 x ≡ 0
and_none x = omega (arith, and_le_l 0 x)

cleared_high : (m y : ℕ) → cleared (2 ^ m * y) ≡ 2 ^ m * cleared y
cleared_high m zero =
    let none : 2 ^ m * 0 ≡ 0 = omega arith in
    let right : 2 ^ m * bit_and 0 (0 - 1) ≡ 0 = rw (and_none (0 - 1)) none in
    ap cleared none ∙ and_none (0 - 1) ∙ sym right
cleared_high m (suc y) =
    let one : suc y - 1 ≡ y = omega arith in
    let some = pow_pos m in
    let whole : 2 ^ m * suc y ≡ suc y * 2 ^ m + 0 = omega arith in
    let less : 2 ^ m * suc y - 1 ≡ y * 2 ^ m + (2 ^ m - 1) = omega (arith, some) in
    let both : bit_and (suc y * 2 ^ m + 0) (y * 2 ^ m + (2 ^ m - 1)) ≡ bit_and (suc y) y * 2 ^ m + bit_and 0 (2 ^ m - 1) = and_block m (suc y) y 0 (2 ^ m - 1) (omega (arith, some)) (omega (arith, some)) in
    let turned : bit_and (suc y) y * 2 ^ m + 0 ≡ 2 ^ m * bit_and (suc y) y = omega arith in
    ap (λ (z : ℕ). bit_and z (2 ^ m * suc y - 1)) whole ∙ ap (bit_and (suc y * 2 ^ m + 0)) less ∙ both ∙ ap (λ (z : ℕ). bit_and (suc y) y * 2 ^ m + z) (and_none (2 ^ m - 1)) ∙ turned ∙ ap (λ (z : ℕ). 2 ^ m * bit_and (suc y) z) (sym one)

cleared_odd : (h : ℕ) → cleared (1 + 2 * h) ≡ 2 * h
cleared_odd h =
    let whole : 1 + 2 * h ≡ h * 2 ^ 1 + 1 = omega arith in
    let less : 1 + 2 * h - 1 ≡ h * 2 ^ 1 + 0 = omega arith in
    let both : bit_and (h * 2 ^ 1 + 1) (h * 2 ^ 1 + 0) ≡ bit_and h h * 2 ^ 1 + 0 = and_block 1 h h 1 0 (omega arith) (omega arith) in
    let turned : h * 2 ^ 1 + 0 ≡ 2 * h = omega arith in
    ap (λ (z : ℕ). bit_and z (1 + 2 * h - 1)) whole ∙ ap (bit_and (h * 2 ^ 1 + 1)) less ∙ both ∙ ap (λ (z : ℕ). z * 2 ^ 1 + 0) (and_self h) ∙ turned

cleared_low : (x s high : ℕ) → x ≡ 2 ^ s * (1 + 2 * high) → cleared x ≡ 2 ^ suc s * high
cleared_low x s high is =
    let turned : 2 ^ s * (2 * high) ≡ 2 * 2 ^ s * high = omega arith in
    ap cleared is ∙ cleared_high s (1 + 2 * high) ∙ ap (λ (z : ℕ). 2 ^ s * z) (cleared_odd high) ∙ turned ∙ ap (λ (z : ℕ). z * high) (sym (pow_next s))

-- without its lowest 1s, so many
abbrev pub clears : (count x : ℕ) → ℕ
clears zero x = x
clears (suc count) x = clears count (cleared x)

pub clears_high : (count m y : ℕ) → clears count (2 ^ m * y) ≡ 2 ^ m * clears count y
clears_high zero m y = refl
clears_high (suc count) m y = ap (clears count) (cleared_high m y) ∙ clears_high count m (cleared y)

pub clears_most : (count x : ℕ) → clears count x ≤ x
clears_most zero x = omega arith
clears_most (suc count) x = omega (arith, clears_most count (cleared x), and_le_l x (x - 1))

-- as the code clears them
abbrev pub cleared_by : (count x : ℕ) → ℕ
cleared_by zero x = x
cleared_by (suc count) x = cleared_by count (bit_and x ((x + (2 ^ 64 - 1)) % 2 ^ 64))

one_cleared : (x : ℕ) → x < 2 ^ 64 → bit_and x ((x + (2 ^ 64 - 1)) % 2 ^ 64) ≡ cleared x
one_cleared zero fits = and_none ((0 + (2 ^ 64 - 1)) % 2 ^ 64) ∙ sym (and_none (0 - 1))
one_cleared (suc x) fits = let e : (suc x + (2 ^ 64 - 1)) % 2 ^ 64 ≡ suc x - 1 = omega (arith, fits) in ap (bit_and (suc x)) e

pub all_cleared : (count x : ℕ) → x < 2 ^ 64 → cleared_by count x ≡ clears count x
all_cleared zero x fits = refl
all_cleared (suc count) x fits = all_cleared count (bit_and x ((x + (2 ^ 64 - 1)) % 2 ^ 64)) (omega (arith, and_le_l x ((x + (2 ^ 64 - 1)) % 2 ^ 64), fits)) ∙ ap (clears count) (one_cleared x fits)

-- ---- the chunks of a number

pub ends_chunks : (payload count word : ℕ) → bit_at word (count * suc payload + payload) ≡ 0 → ((j : ℕ) → j < count → bit_at word (j * suc payload + payload) ≡ 1) → EndsChunks payload (suc count) word
ends_chunks payload zero word off on = let e : 0 * suc payload + payload ≡ payload = omega arith in subst (λ (i : ℕ). bit_at word i ≡ 0) e off
ends_chunks payload (suc count) word off on =
    let first : 0 * suc payload + payload ≡ payload = omega arith in
    let place : (j : ℕ) → suc j * suc payload + payload ≡ suc payload + (j * suc payload + payload) = λ j. omega arith in
    let moved : (j b : ℕ) → bit_at word (suc j * suc payload + payload) ≡ b → bit_at (word / 2 ^ suc payload) (j * suc payload + payload) ≡ b = λ j b is. bit_behind word (suc payload) (j * suc payload + payload) ∙ ap (bit_at word) (sym (place j)) ∙ is in (
      subst (λ (i : ℕ). bit_at word i ≡ 1) first (on 0 (omega arith)),
      ends_chunks payload count (word / 2 ^ suc payload) (moved count 0 off) (λ j lt. moved j 1 (on (suc j) (omega (arith, lt)))),
    )

enough : (count limit payload : ℕ) → 63 < limit * payload → count * payload ≤ 57 → count ≤ limit
enough count limit payload many few = elim (cases_lt limit count) [ inl lt ↦ absurd (omega (arith, mul-le limit payload count payload (omega (arith, lt)) (omega arith), many, few)) | inr le ↦ le ]

pub chunks_read : (payload count word more p : ℕ) (rest : List Bool) → 1 ≤ payload → suc count * suc payload ≤ 57 → EndsChunks payload (suc count) word
    → reading (vbr (suc payload)) p (bits_of (suc count * suc payload + more) word ++ rest) ≡ Ok (payload_number payload (suc count) word, p + suc count * suc payload, bits_of more (word / 2 ^ (suc count * suc payload)) ++ rest)
unfolding vbr
chunks_read payload count word more p rest some few ends =
    let bits = suc count * suc payload in
    let read = short_reads (suc count) payload p (chunk_limit payload) 64 (bits + more) word p rest ends (enough (suc count) (chunk_limit payload) payload (limit_times payload some).0 (omega (arith, few))) (omega arith) (omega (arith, few)) in
    read ∙ ap (λ (s : List Bool). Ok (payload_number payload (suc count) word, p + bits, s ++ rest)) (drop-bits_of bits more word)

-- what the rule reads of the first bits of a word, whatever follows them
record FirstReads (n bits word : ℕ) : Type 0 where
  pub value : ℕ
  pub reads : (more p : ℕ) (rest : List Bool) → reading (vbr n) p (bits_of (bits + more) word ++ rest) ≡ Ok (value, p + bits, bits_of more (word / 2 ^ bits) ++ rest)

-- ---- marks

-- The 1s of a mask are the last bits of the chunks, below a limit, that are not followed by others of their number.
pub record Marks (n limit mask word : ℕ) : Type 0 where
  pub one : (i : ℕ) → bit_at mask i ≡ 1 → (i < limit) × (suc i % n ≡ 0) × (bit_at word i ≡ 0)
  pub none : (i : ℕ) → i < limit → suc i % n ≡ 0 → bit_at mask i ≡ 0 → bit_at word i ≡ 1

multiple : (n i : ℕ) → suc i % suc n ≡ 0 → (k : ℕ) × (suc i ≡ suc k * suc n)
multiple n i whole = least (suc i / suc n) refl
  where
    least : (q : ℕ) → suc i / suc n ≡ q → (k : ℕ) × (suc i ≡ suc k * suc n)
    least zero is = absurd (omega (arith, div-add-mod' (suc i) (suc n), ap (λ (q : ℕ). q * suc n) is, whole))
    least (suc k) is = (k, omega (arith, div-add-mod' (suc i) (suc n), ap (λ (q : ℕ). q * suc n) is, whole))

-- the chunks up to the lowest mark are a number
pub ends_marked : (payload limit mask word s high : ℕ) → Marks (suc payload) limit mask word → mask ≡ 2 ^ s * (1 + 2 * high) → (k : ℕ) × (suc s ≡ suc k * suc payload) × EndsChunks payload (suc k) word
ends_marked payload limit mask word s high m is =
    let here = m.one s (low_set mask s high is) in
    let k = multiple payload s here.1 in
    let place : s ≡ k.0 * suc payload + payload = omega (arith, k.1) in
    let off : bit_at word (k.0 * suc payload + payload) ≡ 0 = subst (λ (i : ℕ). bit_at word i ≡ 0) place here.2 in
    (k.0, k.1, ends_chunks payload k.0 word off (on k.0 place here.0))
  where
    on : (k : ℕ) → s ≡ k * suc payload + payload → s < limit → (j : ℕ) → j < k → bit_at word (j * suc payload + payload) ≡ 1
    on k place lt j less =
        let i : ℕ = j * suc payload + payload in
        let below : suc j * suc payload ≤ k * suc payload = mul-le (suc j) (suc payload) k (suc payload) (omega (arith, less)) (omega arith) in
        let gap : s ≡ i + suc (s - suc i) = omega (arith, place, below) in
        let e : suc i ≡ suc j * suc payload = omega arith in
        m.none i (omega (arith, gap, lt)) (ap (λ (x : ℕ). x % suc payload) e ∙ mul-mod_left (suc j) (suc payload)) (low_clear mask s high i (s - suc i) is gap)

first_marked : (payload limit mask word s high : ℕ) → 1 ≤ payload → limit ≤ 57 → Marks (suc payload) limit mask word → mask ≡ 2 ^ s * (1 + 2 * high) → FirstReads (suc payload) (suc s) word
first_marked payload limit mask word s high some short m is =
    let k = ends_marked payload limit mask word s high m is in
    let within : s < limit = (m.one s (low_set mask s high is)).0 in
    subst (λ (bits : ℕ). FirstReads (suc payload) bits word) (sym k.1) (record { value = payload_number payload (suc k.0) word; reads = λ more p rest. chunks_read payload k.0 word more p rest some (omega (arith, k.1, within, short)) k.2 })

pub lowest_gone : (mask s high : ℕ) → mask ≡ 2 ^ s * (1 + 2 * high) → mask / 2 ^ suc s ≡ high
lowest_gone mask s high is =
    let turned : 2 ^ s * (1 + 2 * high) ≡ high * (2 * 2 ^ s) + 2 ^ s = omega arith in
    let low : 2 ^ s < 2 ^ suc s = omega (arith, pow_next s, pow_pos s) in
    ap (λ (x : ℕ). x / 2 ^ suc s) (is ∙ turned ∙ ap (λ (x : ℕ). high * x + 2 ^ s) (sym (pow_next s))) ∙ shr_high high (suc s) (2 ^ s) low

pub behind_first : (n limit mask word s high : ℕ) → Marks n limit mask word → mask ≡ 2 ^ s * (1 + 2 * high) → Marks n (limit - suc s) high (word / 2 ^ suc s)
behind_first n limit mask word s high m is =
    record {
      one = λ i set. let there = m.one (suc s + i) (sym (same i) ∙ set) in (omega (arith, there.0), sym (later i) ∙ ap (λ (x : ℕ). x % n) (let e : suc s + suc i ≡ suc (suc s + i) = omega arith in e) ∙ there.1, bit_behind word (suc s) i ∙ there.2);
      none = λ i lt end clear. bit_behind word (suc s) i ∙ m.none (suc s + i) (omega (arith, lt)) (ap (λ (x : ℕ). x % n) (let e : suc (suc s + i) ≡ suc s + suc i = omega arith in e) ∙ later i ∙ end) (sym (same i) ∙ clear);
    }
  where
    first : suc s % n ≡ 0
    first = (m.one s (low_set mask s high is)).1

    later : (i : ℕ) → (suc s + suc i) % n ≡ suc i % n
    later i =
        let e : suc s + suc i ≡ suc s / n * n + suc i = omega (arith, div-add-mod' (suc s) n, first) in
        ap (λ (x : ℕ). x % n) e ∙ mul-add-mod_self_right (suc s / n) n (suc i)

    same : (i : ℕ) → bit_at high i ≡ bit_at mask (suc s + i)
    same i = ap (λ (x : ℕ). bit_at x i) (sym (lowest_gone mask s high is)) ∙ bit_behind mask (suc s) i

-- ---- numbers

-- so many numbers are read from the first bits of a word, whatever follows them
pub record WordReads (n count bits word : ℕ) : Type 0 where
  pub values : List ℕ
  pub many : length values ≡ count
  pub reads : (p : ℕ) (rest : List Bool) → reading (repeat count (vbr n)) p (bits_of bits word ++ rest) ≡ Ok (values, p + bits, rest)

no_numbers : (n word : ℕ) → WordReads n 0 0 word
no_numbers n word = record { values = []; many = refl; reads = λ p rest. let e : p ≡ p + 0 = omega arith in ap (λ (q : ℕ). Ok ([], q, rest)) e }

one_before : (n count first more bits word : ℕ) → bits ≡ first + more → FirstReads n first word → WordReads n count more (word / 2 ^ first) → WordReads n (suc count) bits word
one_before n count first more bits word is one others = record {
  values = one.value ∷ others.values;
  many = ap suc others.many;
  reads = λ p rest.
      let read = one.reads more p rest in
      let later = others.reads (p + first) rest in
      let place : p + first + more ≡ p + (first + more) = omega arith in
      rw (is, read, later, place) refl;
}

-- the last bit of so many numbers, at a place of a word
pub record EndsHere (n limit count t word : ℕ) : Type 0 where
  pub within : t < limit
  pub off : bit_at word t ≡ 0
  pub reads : WordReads n count (suc t) word

pub marked_reads : (count payload limit mask word t high : ℕ) → 1 ≤ payload → limit ≤ 57 → mask < 2 ^ 64 → Marks (suc payload) limit mask word → clears count mask ≡ 2 ^ t * (1 + 2 * high) → EndsHere (suc payload) limit (suc count) t word
marked_reads zero payload limit mask word t high some short fits m is =
    let here = m.one t (low_set mask t high is) in
    record {
      within = here.0;
      off = here.2;
      reads = one_before (suc payload) 0 (suc t) 0 (suc t) word (omega arith) (first_marked payload limit mask word t high some short m is) (no_numbers (suc payload) (word / 2 ^ suc t));
    }
marked_reads (suc count) payload limit mask word t high some short fits m is =
    let left : ℕ = clears (suc count) mask in
    let more : left ≤ mask = clears_most (suc count) mask in
    let first = split_low mask mask (omega arith) (omega (arith, more, is, pow_pos t)) in
    let s : ℕ = first.0 in
    let low : cleared mask ≡ 2 ^ suc s * first.1 = cleared_low mask s first.1 first.2 in
    let rest : ℕ = clears count first.1 in
    let same : left ≡ 2 ^ suc s * rest = ap (clears count) low ∙ clears_high count (suc s) first.1 in
    let last = split_low rest rest (omega arith) (positive rest s same (omega (arith, is, pow_pos t))) in
    let u : ℕ = last.0 in
    let place : t ≡ suc s + u = sym (lowest_is left t high (omega (arith, more, fits)) is) ∙ lowest_is left (suc s + u) last.1 (omega (arith, more, fits)) (same ∙ joined (suc s) u last.1 rest last.2) in
    let small : first.1 < 2 ^ 64 = omega (arith, low, and_le_l mask (mask - 1), mul-le 1 first.1 (2 ^ suc s) first.1 (pow_pos (suc s)) (omega arith), fits) in
    let later = marked_reads count payload (limit - suc s) first.1 (word / 2 ^ suc s) u last.1 some (omega (arith, short)) small (behind_first (suc payload) limit mask word s first.1 m first.2) last.2 in
    record {
      within = omega (arith, place, later.within);
      off = ap (bit_at word) place ∙ sym (bit_behind word (suc s) u) ∙ later.off;
      reads = one_before (suc payload) (suc count) (suc s) (suc u) (suc t) word (omega (arith, place)) (first_marked payload limit mask word s first.1 some short m first.2) later.reads;
    }
  where
    positive : (rest s : ℕ) → clears (suc count) mask ≡ 2 ^ suc s * rest → 0 < clears (suc count) mask → 0 < rest
    positive zero s same more = absurd (omega (arith, same, more))
    positive (suc rest) s same more = omega arith

    joined : (a b high rest : ℕ) → rest ≡ 2 ^ b * (1 + 2 * high) → 2 ^ a * rest ≡ 2 ^ (a + b) * (1 + 2 * high)
    joined a b high rest e = rw (e, pow-add 2 a b) (omega arith)
