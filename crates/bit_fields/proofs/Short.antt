-- Numbers in few chunks, taken at once: the word shows what the rule reads.
use Rattle.std.proofs.Common.{◌≡◌, ℕ, zero, suc, ◌+◌, ◌*◌, ◌-◌, ◌/◌, ◌%◌, ◌^◌, ◌<◌, ◌≤◌, Bool, true, false, ltb, leb, List, ◌++◌, length, get_or, take, drop, Ok, refl, sym, ap, ◌∙◌, subst, arith, bit_and, bit_or, ◌⊎◌, ◌≢◌, inl, inr, min, max}
use Rattle.std.specs.Int.{w64, bit_at, bit_not, trailing_zeros}
use Rattle.std.proofs.lemmas.Nat.Bits.{bit_at_and, bit_at_or, bit_at_not, bit_at-lt, bit_at-pow_same, bit_at-pow_other, bit_at-trailing_zeros}
use Rattle.std.proofs.lemmas.Bool.{cases_lt, lt-ltb, le-leb, lt-leb}
use Rattle.std.proofs.lemmas.Nat.{shr-shr, mod-pow-add, pow_pos, mod_below, div-mul-add, and_mask, one_shl, and_le_l, or_lt}
use Rattle.std.proofs.Math.Nat.{mod-eq_of_lt, div-eq_of_lt}
use Rattle.std.proofs.Math.Pow.{pow_mono, mod-mod-pow}
use Rattle.bit_grammar.specs.Bits.{bits_of, number}
use Rattle.bit_grammar.specs.Grammar.{reading}
use Rattle.bit_grammar.specs.Fields.{chunks, vbr}
use Rattle.bit_grammar.specs.Terms.{chunk_limit}
use Rattle.bit_grammar.proofs.Bits.Numbers.{length-bits_of}
use Rattle.bit_fields.specs.Short.{EndsChunks, EndsAt, payload_number}
use Rattle.bit_fields.specs.declared.window.TheConstants.{FOUR_TOPS}
use Rattle.bit_fields.proofs.BitLaws.{number-bits_mod, take-bits_of, window_rest, drop_more, bits_of-number}
use Rattle.bit_fields.proofs.Parts.{part_at}
use Rattle.bit_fields.proofs.Chunks.{chunk_step, after_number, limit_times}

-- ---- how many chunks

ends_next : (payload count word : ℕ) → word / 2 ^ payload % 2 ≡ 1 → EndsChunks payload count (word / 2 ^ suc payload) → EndsChunks payload (suc count) word
ends_next payload zero word goes ends = absurd ends
ends_next payload (suc count) word goes ends = (goes, ends)

-- a bit after the first chunk
behind_bit : (payload place word b : ℕ) → word / 2 ^ (suc payload + place) % 2 ≡ b → word / 2 ^ suc payload / 2 ^ place % 2 ≡ b
behind_bit payload place word b is = ap (λ (x : ℕ). x % 2) (shr-shr word (suc payload) place) ∙ is

ends_1 : (payload word : ℕ) → word / 2 ^ payload % 2 ≡ 0 → EndsChunks payload 1 word
ends_1 payload word off = off

ends_2 : (payload word : ℕ) → word / 2 ^ payload % 2 ≡ 1 → word / 2 ^ (suc payload + payload) % 2 ≡ 0 → EndsChunks payload 2 word
ends_2 payload word on off = ends_next payload 1 word on (ends_1 payload (word / 2 ^ suc payload) (behind_bit payload payload word 0 off))

ends_3 : (payload word : ℕ) → word / 2 ^ payload % 2 ≡ 1 → word / 2 ^ (suc payload + payload) % 2 ≡ 1 → word / 2 ^ (suc payload + (suc payload + payload)) % 2 ≡ 0 → EndsChunks payload 3 word
ends_3 payload word on second off = ends_next payload 2 word on (ends_2 payload (word / 2 ^ suc payload) (behind_bit payload payload word 1 second) (behind_bit payload (suc payload + payload) word 0 off))

ends_4 : (payload word : ℕ) → word / 2 ^ payload % 2 ≡ 1 → word / 2 ^ (suc payload + payload) % 2 ≡ 1 → word / 2 ^ (suc payload + (suc payload + payload)) % 2 ≡ 1 → word / 2 ^ (suc payload + (suc payload + (suc payload + payload))) % 2 ≡ 0 → EndsChunks payload 4 word
ends_4 payload word on second third off = ends_next payload 3 word on (ends_3 payload (word / 2 ^ suc payload) (behind_bit payload payload word 1 second) (behind_bit payload (suc payload + payload) word 1 third) (behind_bit payload (suc payload + (suc payload + payload)) word 0 off))

-- the continuation bits of four chunks
abbrev tops_of : (a b c d : ℕ) → ℕ
tops_of a b c d = bit_or (bit_or (bit_or (2 ^ a) (2 ^ b)) (2 ^ c)) (2 ^ d)

top_at : (a b c d i : ℕ) → bit_at (tops_of a b c d) i ≡ max (max (max (bit_at (2 ^ a) i) (bit_at (2 ^ b) i)) (bit_at (2 ^ c) i)) (bit_at (2 ^ d) i)
top_at a b c d i =
    bit_at_or (bit_or (bit_or (2 ^ a) (2 ^ b)) (2 ^ c)) (2 ^ d) i
    ∙ ap (λ (x : ℕ). max x (bit_at (2 ^ d) i)) (bit_at_or (bit_or (2 ^ a) (2 ^ b)) (2 ^ c) i ∙ ap (λ (x : ℕ). max x (bit_at (2 ^ c) i)) (bit_at_or (2 ^ a) (2 ^ b) i))

same_place : (i j : ℕ) → (i ≡ j) ⊎ (i ≢ j)
same_place i j = elim (cases_lt i j) [
  | inl lt ↦ inr (λ e. omega (arith, lt, e))
  | inr le ↦ elim (cases_lt j i) [ inl lt ↦ inr (λ e. omega (arith, lt, e)) | inr ge ↦ inl (omega (arith, le, ge)) ]
]

-- only these four places have a bit
one_of : (a b c d i : ℕ) → bit_at (tops_of a b c d) i ≡ 1 → (i ≡ a) ⊎ ((i ≡ b) ⊎ ((i ≡ c) ⊎ (i ≡ d)))
one_of a b c d i is = elim (same_place i a) [
  | inl e ↦ inl e
  | inr na ↦ elim (same_place i b) [
    | inl e ↦ inr (inl e)
    | inr nb ↦ elim (same_place i c) [
      | inl e ↦ inr (inr (inl e))
      | inr nc ↦ elim (same_place i d) [
        | inl e ↦ inr (inr (inr e))
        | inr nd ↦ absurd (omega (arith, is, top_at a b c d i, bit_at-pow_other a i na, bit_at-pow_other b i nb, bit_at-pow_other c i nc, bit_at-pow_other d i nd))
      ]
    ]
  ]
]

-- the lowest continuation bit that is 0 ends the number
record Lowest (word tops t : ℕ) : Type 0 where
  pub top : bit_at tops t ≡ 1
  pub off : bit_at word t ≡ 0
  pub on : (i : ℕ) → i < t → bit_at tops i ≡ 1 → bit_at word i ≡ 1

lowest : (word tops t : ℕ) → word < 2 ^ 64 → tops < 2 ^ 64 → 0 < bit_and tops (bit_not w64 word) → t ≡ trailing_zeros w64 (bit_and tops (bit_not w64 word)) → Lowest word tops t
lowest word tops t word_fits tops_fits some t_is =
    let lasts : ℕ = bit_and tops (bit_not w64 word) in
    let fits : lasts < 2 ^ 64 = omega (arith, and_le_l tops (bit_not w64 word), tops_fits) in
    let found : (t < 64) × (bit_at lasts t ≡ 1) × ((i : ℕ) → i < t → bit_at lasts i ≡ 0) = rw t_is (bit_at-trailing_zeros w64 lasts some fits) in
    let each : (i : ℕ) → i < 64 → bit_at lasts i ≡ min (bit_at tops i) (1 - bit_at word i) = λ i lt. bit_at_and tops (bit_not w64 word) i ∙ ap (min (bit_at tops i)) (bit_at_not w64 word i word_fits lt) in
    record {
      top = omega (arith, found.1, each t found.0, bit_at-lt tops t, bit_at-lt word t);
      off = omega (arith, found.1, each t found.0, bit_at-lt tops t, bit_at-lt word t);
      on = λ i lt top. omega (arith, found.2 i lt, each i (omega (arith, lt, found.0)), top, bit_at-lt word i);
    }

number_ends : (n word t : ℕ) → 2 ≤ n → Lowest word (tops_of (n - 1) (2 * n - 1) (3 * n - 1) (4 * n - 1)) t → EndsAt n (t + 1) word
number_ends n word t two low =
    let p : ℕ = n - 1 in
    let b_at : 2 * n - 1 ≡ suc (n - 1) + (n - 1) = omega (arith, two) in
    let c_at : 3 * n - 1 ≡ suc (n - 1) + (suc (n - 1) + (n - 1)) = omega (arith, two) in
    let d_at : 4 * n - 1 ≡ suc (n - 1) + (suc (n - 1) + (suc (n - 1) + (n - 1))) = omega (arith, two) in
    let moved : (i j : ℕ) (b : ℕ) → i ≡ j → bit_at word i ≡ b → bit_at word j ≡ b = λ i j b e is. subst (λ (k : ℕ). bit_at word k ≡ b) e is in
    let a_top : bit_at (tops_of (n - 1) (2 * n - 1) (3 * n - 1) (4 * n - 1)) (n - 1) ≡ 1 = omega (arith, top_at (n - 1) (2 * n - 1) (3 * n - 1) (4 * n - 1) (n - 1), bit_at-pow_same (n - 1), bit_at-lt (2 ^ (2 * n - 1)) (n - 1), bit_at-lt (2 ^ (3 * n - 1)) (n - 1), bit_at-lt (2 ^ (4 * n - 1)) (n - 1)) in
    let b_top : bit_at (tops_of (n - 1) (2 * n - 1) (3 * n - 1) (4 * n - 1)) (2 * n - 1) ≡ 1 = omega (arith, top_at (n - 1) (2 * n - 1) (3 * n - 1) (4 * n - 1) (2 * n - 1), bit_at-pow_same (2 * n - 1), bit_at-lt (2 ^ (n - 1)) (2 * n - 1), bit_at-lt (2 ^ (3 * n - 1)) (2 * n - 1), bit_at-lt (2 ^ (4 * n - 1)) (2 * n - 1)) in
    let c_top : bit_at (tops_of (n - 1) (2 * n - 1) (3 * n - 1) (4 * n - 1)) (3 * n - 1) ≡ 1 = omega (arith, top_at (n - 1) (2 * n - 1) (3 * n - 1) (4 * n - 1) (3 * n - 1), bit_at-pow_same (3 * n - 1), bit_at-lt (2 ^ (n - 1)) (3 * n - 1), bit_at-lt (2 ^ (2 * n - 1)) (3 * n - 1), bit_at-lt (2 ^ (4 * n - 1)) (3 * n - 1)) in
    elim (one_of (n - 1) (2 * n - 1) (3 * n - 1) (4 * n - 1) t low.top) [
      | inl e ↦ (1, omega arith, omega (arith, e, two), ends_1 (n - 1) word (moved t (n - 1) 0 e low.off))
      | inr (inl e) ↦ (2, omega arith, omega (arith, e, two), ends_2 (n - 1) word (low.on (n - 1) (omega (arith, e, two)) a_top) (moved t (suc (n - 1) + (n - 1)) 0 (e ∙ b_at) low.off))
      | inr (inr (inl e)) ↦ (3, omega arith, omega (arith, e, two), ends_3 (n - 1) word (low.on (n - 1) (omega (arith, e, two)) a_top) (moved (2 * n - 1) (suc (n - 1) + (n - 1)) 1 b_at (low.on (2 * n - 1) (omega (arith, e, two)) b_top)) (moved t (suc (n - 1) + (suc (n - 1) + (n - 1))) 0 (e ∙ c_at) low.off))
      | inr (inr (inr e)) ↦ (4, omega arith, omega (arith, e, two), ends_4 (n - 1) word (low.on (n - 1) (omega (arith, e, two)) a_top) (moved (2 * n - 1) (suc (n - 1) + (n - 1)) 1 b_at (low.on (2 * n - 1) (omega (arith, e, two)) b_top)) (moved (3 * n - 1) (suc (n - 1) + (suc (n - 1) + (n - 1))) 1 c_at (low.on (3 * n - 1) (omega (arith, e, two)) c_top)) (moved t (suc (n - 1) + (suc (n - 1) + (suc (n - 1) + (n - 1)))) 0 (e ∙ d_at) low.off))
    ]

-- ---- what the rule reads

-- a chunk is its payload with its continuation bit above it
chunk_is : (payload word : ℕ) → word % 2 ^ suc payload ≡ (word / 2 ^ payload % 2) * 2 ^ payload + word % 2 ^ payload
chunk_is payload word = let e : suc payload ≡ 1 + payload = omega arith in rw e (mod-pow-add word 1 payload)

payload_is : (payload word : ℕ) → word % 2 ^ suc payload % 2 ^ payload ≡ word % 2 ^ payload
payload_is payload word = let e : suc payload ≡ 1 + payload = omega arith in rw e (mod-mod-pow word 1 payload)

ends_there : (payload word : ℕ) → word / 2 ^ payload % 2 ≡ 0 → leb (2 ^ payload) (word % 2 ^ suc payload) ≡ false
ends_there payload word off =
    let e : word % 2 ^ suc payload ≡ 0 * 2 ^ payload + word % 2 ^ payload = chunk_is payload word ∙ ap (λ (k : ℕ). k * 2 ^ payload + word % 2 ^ payload) off in
    lt-leb (2 ^ payload) (word % 2 ^ suc payload) (omega (arith, e, mod_below word (2 ^ payload) (pow_pos payload)))

goes_there : (payload word : ℕ) → word / 2 ^ payload % 2 ≡ 1 → leb (2 ^ payload) (word % 2 ^ suc payload) ≡ true
goes_there payload word on =
    let e : word % 2 ^ suc payload ≡ 1 * 2 ^ payload + word % 2 ^ payload = chunk_is payload word ∙ ap (λ (k : ℕ). k * 2 ^ payload + word % 2 ^ payload) on in
    le-leb (2 ^ payload) (word % 2 ^ suc payload) (omega (arith, e))

fits_places : (payload places word : ℕ) → payload ≤ places → ltb (word % 2 ^ payload) (2 ^ places) ≡ true
fits_places payload places word le =
    let wide : 2 ^ payload ≤ 2 ^ places = pow_mono {i = payload} {j = places} le in
    lt-ltb (word % 2 ^ payload) (2 ^ places) (omega (arith, wide, mod_below word (2 ^ payload) (pow_pos payload)))

-- the first chunk of the bits of a word, and what follows it
first_reads : (payload first permitted places held word p : ℕ) (rest : List Bool) → suc payload ≤ held → reading (chunks payload first (suc permitted) places) p (bits_of held word ++ rest) ≡ reading (after_number payload first permitted places (word % 2 ^ suc payload)) (p + suc payload) (bits_of (held - suc payload) (word / 2 ^ suc payload) ++ rest)
first_reads payload first permitted places held word p rest there =
    let w : List Bool = bits_of held word in
    let many : suc payload ≤ length w = rw (length-bits_of held word) there in
    let chunk : number (take (suc payload) w) ≡ word % 2 ^ suc payload = ap number (take-bits_of (suc payload) held word there) ∙ number-bits_mod (suc payload) word in
    let behind : drop (suc payload) w ≡ bits_of (held - suc payload) (word / 2 ^ suc payload) = sym (window_rest held word (suc payload) w there refl) in
    sym (chunk_step payload first permitted places p (w ++ rest))
    ∙ rw (part_at (suc payload) first p w rest many, chunk, behind) refl

-- a number whose last payload, after `count` others, fits into the places that these leave
pub fitting_reads : (count payload first permitted places held word p : ℕ) (rest : List Bool) → EndsChunks payload (suc count) word → suc count ≤ permitted → suc count * suc payload ≤ held → count * payload ≤ places → word / 2 ^ (count * suc payload) % 2 ^ payload < 2 ^ (places - count * payload)
    → reading (chunks payload first permitted places) p (bits_of held word ++ rest) ≡ Ok (payload_number payload (suc count) word, p + suc count * suc payload, drop (suc count * suc payload) (bits_of held word) ++ rest)
fitting_reads zero payload first zero places held word p rest ends few there fits last = absurd (omega (arith, few))
fitting_reads zero payload first (suc permitted) places held word p rest ends few there fits last =
    let none : 0 * suc payload ≡ 0 = omega arith in
    let all : places - 0 * payload ≡ places = omega arith in
    let whole : word / 2 ^ (0 * suc payload) ≡ word = ap (λ (k : ℕ). word / 2 ^ k) none ∙ (let e : word / 2 ^ 0 ≡ word = omega arith in e) in
    let here : word % 2 ^ payload < 2 ^ places = subst (λ (k : ℕ). word % 2 ^ payload < 2 ^ k) all (subst (λ (x : ℕ). x % 2 ^ payload < 2 ^ (places - 0 * payload)) whole last) in
    let behind : bits_of (held - suc payload) (word / 2 ^ suc payload) ≡ drop (suc payload) (bits_of held word) = window_rest held word (suc payload) (bits_of held word) (omega (arith, there)) refl in
    let value : word % 2 ^ payload ≡ payload_number payload 1 word = omega arith in
    let bits : 1 * suc payload ≡ suc payload = omega arith in
    first_reads payload first permitted places held word p rest (omega (arith, there))
    ∙ rw (payload_is payload word, ends_there payload word ends, lt-ltb (word % 2 ^ payload) (2 ^ places) here, behind, bits, ← value) refl
fitting_reads (suc count) payload first zero places held word p rest ends few there fits last = absurd (omega (arith, few))
fitting_reads (suc count) payload first (suc permitted) places held word p rest ends few there fits last =
    let left : places - suc count * payload ≡ places - payload - count * payload = omega arith in
    let deeper : word / 2 ^ (suc count * suc payload) ≡ word / 2 ^ suc payload / 2 ^ (count * suc payload) = ap (λ (k : ℕ). word / 2 ^ k) (let e : suc count * suc payload ≡ suc payload + count * suc payload = omega arith in e) ∙ sym (shr-shr word (suc payload) (count * suc payload)) in
    let last_there : word / 2 ^ suc payload / 2 ^ (count * suc payload) % 2 ^ payload < 2 ^ (places - payload - count * payload) = subst (λ (k : ℕ). word / 2 ^ suc payload / 2 ^ (count * suc payload) % 2 ^ payload < 2 ^ k) left (subst (λ (x : ℕ). x % 2 ^ payload < 2 ^ (places - suc count * payload)) deeper last) in
    let behind : bits_of (held - suc payload) (word / 2 ^ suc payload) ≡ drop (suc payload) (bits_of held word) = window_rest held word (suc payload) (bits_of held word) (omega (arith, there)) refl in
    let later = fitting_reads count payload first permitted (places - payload) (held - suc payload) (word / 2 ^ suc payload) (p + suc payload) rest ends.1 (omega (arith, few)) (omega (arith, there)) (omega (arith, fits)) last_there in
    let dropped : drop (suc count * suc payload) (bits_of (held - suc payload) (word / 2 ^ suc payload)) ≡ drop (suc (suc count) * suc payload) (bits_of held word) = ap (drop (suc count * suc payload)) behind ∙ drop_more (suc payload) (suc count * suc payload) (bits_of held word) ∙ ap (λ (k : ℕ). drop k (bits_of held word)) {y = suc (suc count) * suc payload} (omega arith) in
    let place : p + suc payload + suc count * suc payload ≡ p + suc (suc count) * suc payload = omega arith in
    first_reads payload first permitted places held word p rest (omega (arith, there))
    ∙ rw (payload_is payload word, goes_there payload word ends.0, fits_places payload places word (omega (arith, fits)), later, dropped, place) refl

pub short_reads : (count payload first permitted places held word p : ℕ) (rest : List Bool) → EndsChunks payload count word → count ≤ permitted → count * suc payload ≤ held → count * payload ≤ places
    → reading (chunks payload first permitted places) p (bits_of held word ++ rest) ≡ Ok (payload_number payload count word, p + count * suc payload, drop (count * suc payload) (bits_of held word) ++ rest)
short_reads zero payload first permitted places held word p rest ends few there fits = absurd ends
short_reads (suc count) payload first permitted places held word p rest ends few there fits =
    let last : ℕ = word / 2 ^ (count * suc payload) in
    let wide : 2 ^ payload ≤ 2 ^ (places - count * payload) = pow_mono {i = payload} {j = places - count * payload} (omega (arith, fits)) in
    fitting_reads count payload first permitted places held word p rest ends few there (omega (arith, fits)) (omega (arith, wide, mod_below last (2 ^ payload) (pow_pos payload)))

-- ---- four chunks at most

enough : (count limit payload : ℕ) → count ≤ 4 → payload ≤ 13 → 63 < limit * payload → count ≤ limit
enough count limit payload few narrow many = elim (cases_lt limit 4) [ inl lt ↦ absurd (too_few limit lt many) | inr le ↦ omega (arith, few, le) ]
  where
    too_few : (limit : ℕ) → limit < 4 → 63 < limit * payload → ⊥
    too_few zero lt many = absurd (omega (arith, many))
    too_few (suc zero) lt many = absurd (omega (arith, many, narrow))
    too_few (suc (suc zero)) lt many = absurd (omega (arith, many, narrow))
    too_few (suc (suc (suc zero))) lt many = absurd (omega (arith, many, narrow))
    too_few (suc (suc (suc (suc k)))) lt many = absurd (omega (arith, lt))

pub four_at_most : (count n : ℕ) → count ≤ 4 → n ≤ 14 → n * count ≤ 56
four_at_most zero n few narrow = omega arith
four_at_most (suc zero) n few narrow = omega (arith, narrow)
four_at_most (suc (suc zero)) n few narrow = omega (arith, narrow)
four_at_most (suc (suc (suc zero))) n few narrow = omega (arith, narrow)
four_at_most (suc (suc (suc (suc zero)))) n few narrow = omega (arith, narrow)
four_at_most (suc (suc (suc (suc (suc k))))) n few narrow = absurd (omega (arith, few))

pub vbr_reads : (payload count p : ℕ) (w rest : List Bool) → 1 ≤ payload → payload ≤ 13 → count ≤ 4 → EndsChunks payload count (number w) → suc payload * count ≤ length w → reading (vbr (suc payload)) p (w ++ rest) ≡ Ok (payload_number payload count (number w), p + suc payload * count, drop (suc payload * count) w ++ rest)
unfolding vbr
vbr_reads payload count p w rest some narrow few ends there =
    let turned : count * suc payload ≡ suc payload * count = omega arith in
    let most : suc payload * count ≤ 56 = four_at_most count (suc payload) few (omega (arith, narrow)) in
    let read = short_reads count payload p (chunk_limit payload) 64 (length w) (number w) p rest ends (enough count (chunk_limit payload) payload few narrow (limit_times payload some).0) (omega (arith, there, turned)) (omega (arith, most)) in
    rw (bits_of-number w, turned) at read

-- ---- as a window holds them

pub word_is : (held word : ℕ) (s : List Bool) → bits_of held word ≡ s → word < 2 ^ held → number s ≡ word
word_is held word s is below = ap number (sym is) ∙ number-bits_mod held word ∙ mod-eq_of_lt below

gathered_none : (payload count : ℕ) → payload_number payload count 0 ≡ 0
gathered_none payload zero = refl
gathered_none payload (suc count) =
    let low : 0 % 2 ^ payload ≡ 0 = mod-eq_of_lt (pow_pos payload) in
    let high : 0 / 2 ^ suc payload ≡ 0 = div-eq_of_lt (pow_pos (suc payload)) in
    rw (low, high, gathered_none payload count) (omega arith)

-- after a cut, the chunks are zeros
pub gathered_cut : (payload count more word : ℕ) → payload_number payload (count + more) (word % 2 ^ (suc payload * count)) ≡ payload_number payload count word
gathered_cut payload zero more word =
    let none : suc payload * 0 ≡ 0 = omega arith in
    let cut : word % 1 ≡ 0 = omega arith in
    rw (none, cut) (gathered_none payload (0 + more))
gathered_cut payload (suc count) more word =
    let wide : suc payload * suc count ≡ suc payload * count + suc payload = omega arith in
    let longer : suc payload * count + suc payload ≡ suc payload * count + 1 + payload = omega arith in
    let low : word % 2 ^ (suc payload * count + suc payload) % 2 ^ payload ≡ word % 2 ^ payload = rw longer (mod-mod-pow word (suc payload * count + 1) payload) in
    let high : word % 2 ^ (suc payload * count + suc payload) / 2 ^ suc payload ≡ word / 2 ^ suc payload % 2 ^ (suc payload * count) =
    ap (λ (x : ℕ). x / 2 ^ suc payload) (mod-pow-add word (suc payload * count) (suc payload)) ∙ div-mul-add (word / 2 ^ suc payload % 2 ^ (suc payload * count)) (2 ^ suc payload) (word % 2 ^ suc payload) (mod_below word (2 ^ suc payload) (pow_pos (suc payload))) in
    let one : suc count + more ≡ suc (count + more) = omega arith in
    rw (one, wide, low, high, gathered_cut payload count more (word / 2 ^ suc payload)) refl

-- ---- as the code handles them

pub bits_end : (n held word t : ℕ) (s : List Bool) → 2 ≤ n → n ≤ 14 → held ≤ 64 → bits_of held word ≡ s → word < 2 ^ held → 0 < bit_and (tops_of (n - 1) (2 * n - 1) (3 * n - 1) (4 * n - 1)) (bit_not w64 word) → t ≡ trailing_zeros w64 (bit_and (tops_of (n - 1) (2 * n - 1) (3 * n - 1) (4 * n - 1)) (bit_not w64 word)) → tops_of (n - 1) (2 * n - 1) (3 * n - 1) (4 * n - 1) < 2 ^ 64 → EndsAt n (t + 1) (number s)
bits_end n held word t s two narrow most is below some t_is tops_fits =
    let wide : 2 ^ held ≤ 2 ^ 64 = pow_mono {i = held} {j = 64} most in
    rw (word_is held word s is below) (number_ends n word t two (lowest word (tops_of (n - 1) (2 * n - 1) (3 * n - 1) (4 * n - 1)) t (omega (arith, below, wide)) tops_fits some t_is))

pub gathered_as : (n bits count held word value : ℕ) (s : List Bool) → bits ≡ n * count → 2 ≤ n → n ≤ 14 → count ≤ 4 → bits_of held word ≡ s → word < 2 ^ held → value ≡ payload_number (n - 1) 4 (bit_and word (1 * 2 ^ bits % 2 ^ 64 - 1)) → value ≡ payload_number (n - 1) count (number s)
gathered_as n bits count held word value s bits_is two narrow few is below value_is =
    let most : n * count ≤ 56 = four_at_most count n few narrow in
    let width : n ≡ suc (n - 1) = omega (arith, two) in
    let whole : count + (4 - count) ≡ 4 = omega (arith, few) in
    let cut : payload_number (n - 1) 4 (word % 2 ^ (suc (n - 1) * count)) ≡ payload_number (n - 1) count word = subst (λ (k : ℕ). payload_number (n - 1) k (word % 2 ^ (suc (n - 1) * count)) ≡ payload_number (n - 1) count word) whole (gathered_cut (n - 1) count (4 - count) word) in
    let masked : bit_and word (1 * 2 ^ (n * count) % 2 ^ 64 - 1) ≡ word % 2 ^ (n * count) = rw (one_shl (n * count) 64 (omega (arith, most))) (and_mask word (n * count)) in
    value_is ∙ ap (payload_number (n - 1) 4) (ap (λ (k : ℕ). bit_and word (1 * 2 ^ k % 2 ^ 64 - 1)) bits_is ∙ masked ∙ ap (λ (m : ℕ). word % 2 ^ (m * count)) width) ∙ cut ∙ ap (payload_number (n - 1) count) (sym (word_is held word s is below))

payload_mask : (n x : ℕ) → n ≤ 14 → bit_and x (1 * 2 ^ (n - 1) % 2 ^ 64 - 1) ≡ x % 2 ^ (n - 1)
payload_mask n x narrow = rw (one_shl (n - 1) 64 (omega (arith, narrow))) (and_mask x (n - 1))

gathered_next : (payload count w v low high value : ℕ) → v ≡ w / 2 ^ suc payload → high ≡ payload_number payload count v → low ≡ w % 2 ^ payload → value ≡ low + 2 ^ payload * high → value ≡ payload_number payload (suc count) w
gathered_next payload count w v low high value v_is high_is low_is value_is = rw (low_is, high_is, v_is) at value_is

pub one_gathered : (n word value : ℕ) → 2 ≤ n → n ≤ 14 → value ≡ bit_and word (1 * 2 ^ (n - 1) % 2 ^ 64 - 1) → value ≡ payload_number (n - 1) 1 word
one_gathered n word value two narrow is = let e : word % 2 ^ (n - 1) ≡ word % 2 ^ (n - 1) + 2 ^ (n - 1) * 0 = omega arith in is ∙ payload_mask n word narrow ∙ e

pub more_gathered : (n count place next word high value : ℕ) → 2 ≤ n → n ≤ 14 → next ≡ place + n → high ≡ payload_number (n - 1) count (word / 2 ^ next) → value ≡ bit_and (word / 2 ^ place) (1 * 2 ^ (n - 1) % 2 ^ 64 - 1) + 2 ^ (n - 1) * high → value ≡ payload_number (n - 1) (suc count) (word / 2 ^ place)
more_gathered n count place next word high value two narrow next_is high_is value_is =
    let behind : place + suc (n - 1) ≡ next = omega (arith, two, next_is) in
    let moved : word / 2 ^ next ≡ word / 2 ^ place / 2 ^ suc (n - 1) = ap (λ (k : ℕ). word / 2 ^ k) (sym behind) ∙ sym (shr-shr word place (suc (n - 1))) in
    gathered_next (n - 1) count (word / 2 ^ place) (word / 2 ^ next) (bit_and (word / 2 ^ place) (1 * 2 ^ (n - 1) % 2 ^ 64 - 1)) high value moved high_is (payload_mask n (word / 2 ^ place) narrow) value_is

pub all_gathered : (n count word high value : ℕ) → 2 ≤ n → n ≤ 14 → high ≡ payload_number (n - 1) count (word / 2 ^ n) → value ≡ bit_and word (1 * 2 ^ (n - 1) % 2 ^ 64 - 1) + 2 ^ (n - 1) * high → value ≡ payload_number (n - 1) (suc count) word
all_gathered n count word high value two narrow high_is value_is =
    let width : n ≡ suc (n - 1) = omega (arith, two) in
    gathered_next (n - 1) count word (word / 2 ^ n) (bit_and word (1 * 2 ^ (n - 1) % 2 ^ 64 - 1)) high value (ap (λ (k : ℕ). word / 2 ^ k) width) high_is (payload_mask n word narrow) value_is

pub four_is : (n word third second value : ℕ) → 2 ≤ n → n ≤ 14 → third ≡ bit_and (word / 2 ^ (2 * n)) (1 * 2 ^ (n - 1) % 2 ^ 64 - 1) + 2 ^ (n - 1) * bit_and (word / 2 ^ (3 * n)) (1 * 2 ^ (n - 1) % 2 ^ 64 - 1) → second ≡ bit_and (word / 2 ^ n) (1 * 2 ^ (n - 1) % 2 ^ 64 - 1) + 2 ^ (n - 1) * third
    → value ≡ bit_and word (1 * 2 ^ (n - 1) % 2 ^ 64 - 1) + 2 ^ (n - 1) * second → value ≡ payload_number (n - 1) 4 word
four_is n word third second value two narrow third_is second_is value_is =
    let fourth = one_gathered n (word / 2 ^ (3 * n)) (bit_and (word / 2 ^ (3 * n)) (1 * 2 ^ (n - 1) % 2 ^ 64 - 1)) two narrow refl in
    let three = more_gathered n 1 (2 * n) (3 * n) word (bit_and (word / 2 ^ (3 * n)) (1 * 2 ^ (n - 1) % 2 ^ 64 - 1)) third two narrow (omega arith) fourth third_is in
    let two_up = more_gathered n 2 n (2 * n) word third second two narrow (omega arith) three second_is in
    all_gathered n 3 word second value two narrow two_up value_is

-- ---- the code's masks

-- the mask for each width
pub tops_listed : (n : ℕ) → 2 ≤ n → n ≤ 14 → get_or FOUR_TOPS n 0 ≡ tops_of (n - 1) (2 * n - 1) (3 * n - 1) (4 * n - 1)
tops_listed zero two narrow = absurd (omega (arith, two))
tops_listed (suc zero) two narrow = absurd (omega (arith, two))
tops_listed (suc (suc zero)) two narrow = refl
tops_listed (suc (suc (suc zero))) two narrow = refl
tops_listed (suc (suc (suc (suc zero)))) two narrow = refl
tops_listed (suc (suc (suc (suc (suc zero))))) two narrow = refl
tops_listed (suc (suc (suc (suc (suc (suc zero)))))) two narrow = refl
tops_listed (suc (suc (suc (suc (suc (suc (suc zero))))))) two narrow = refl
tops_listed (suc (suc (suc (suc (suc (suc (suc (suc zero)))))))) two narrow = refl
tops_listed (suc (suc (suc (suc (suc (suc (suc (suc (suc zero))))))))) two narrow = refl
tops_listed (suc (suc (suc (suc (suc (suc (suc (suc (suc (suc zero)))))))))) two narrow = refl
tops_listed (suc (suc (suc (suc (suc (suc (suc (suc (suc (suc (suc zero))))))))))) two narrow = refl
tops_listed (suc (suc (suc (suc (suc (suc (suc (suc (suc (suc (suc (suc zero)))))))))))) two narrow = refl
tops_listed (suc (suc (suc (suc (suc (suc (suc (suc (suc (suc (suc (suc (suc zero))))))))))))) two narrow = refl
tops_listed (suc (suc (suc (suc (suc (suc (suc (suc (suc (suc (suc (suc (suc (suc zero)))))))))))))) two narrow = refl
tops_listed (suc (suc (suc (suc (suc (suc (suc (suc (suc (suc (suc (suc (suc (suc (suc n))))))))))))))) two narrow = absurd (omega (arith, narrow))

pub bits_seen : (n held word tops : ℕ) (s : List Bool) → 2 ≤ n → n ≤ 14 → held ≤ 64 → bits_of held word ≡ s → word < 2 ^ held → tops ≡ tops_of (n - 1) (2 * n - 1) (3 * n - 1) (4 * n - 1) → (bit_and tops (bit_not w64 word) ≡ 0 → ⊥)
    → EndsAt n (trailing_zeros w64 (bit_and tops (bit_not w64 word)) + 1) (number s)
bits_seen n held word tops s two narrow most is below tops_is some =
    let fits : tops_of (n - 1) (2 * n - 1) (3 * n - 1) (4 * n - 1) < 2 ^ 64 =
    or_lt 64 (bit_or (bit_or (2 ^ (n - 1)) (2 ^ (2 * n - 1))) (2 ^ (3 * n - 1))) (2 ^ (4 * n - 1)) (or_lt 64 (bit_or (2 ^ (n - 1)) (2 ^ (2 * n - 1))) (2 ^ (3 * n - 1)) (or_lt 64 (2 ^ (n - 1)) (2 ^ (2 * n - 1)) (power (n - 1) (omega (arith, narrow))) (power (2 * n - 1) (omega (arith, narrow)))) (power (3 * n - 1) (omega (arith, narrow)))) (power (4 * n - 1) (omega (arith, narrow))) in
    let some_last : 0 < bit_and (tops_of (n - 1) (2 * n - 1) (3 * n - 1) (4 * n - 1)) (bit_not w64 word) = positive (bit_and (tops_of (n - 1) (2 * n - 1) (3 * n - 1) (4 * n - 1)) (bit_not w64 word)) (subst (λ (tops : ℕ). bit_and tops (bit_not w64 word) ≡ 0 → ⊥) tops_is some) in
    subst (λ (tops : ℕ). EndsAt n (trailing_zeros w64 (bit_and tops (bit_not w64 word)) + 1) (number s)) (sym tops_is)
    (bits_end n held word (trailing_zeros w64 (bit_and (tops_of (n - 1) (2 * n - 1) (3 * n - 1) (4 * n - 1)) (bit_not w64 word))) s two narrow most is below some_last refl fits)
  where
    power : (i : ℕ) → i < 64 → 2 ^ i < 2 ^ 64
    power i lt = let wide : 2 ^ i ≤ 2 ^ 63 = pow_mono {i = i} {j = 63} (omega (arith, lt)) in omega (arith, wide)

    positive : (x : ℕ) → (x ≡ 0 → ⊥) → 0 < x
    positive zero none = absurd (none refl)
    positive (suc x) none = omega arith
