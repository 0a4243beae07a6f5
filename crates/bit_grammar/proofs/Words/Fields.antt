-- What the fields spell, in the words of the format.
use Rattle.std.proofs.Common.{◌≡◌, ℕ, zero, suc, ◌+◌, ◌-◌, ◌*◌, ◌/◌, ◌%◌, ◌^◌, ◌<◌, ◌≤◌, Bool, true, false, cond, ltb, eqb, List, [], ◌∷◌, ◌++◌, length, take, get_or, replicate, refl, sym, ap, subst, ◌∙◌, append_assoc, arith, inl, inr}
use Rattle.std.specs.List.{AllByRecursion}
use Rattle.std.proofs.lemmas.Nat.{pow-add, shr_below, shr_high}
use Rattle.std.proofs.Math.Nat.{mul-le-mul_left, pow-suc}
use Rattle.std.proofs.lemmas.Bool.{cases_lt, ltb-true, lt-ltb, le-ltb, eqb-true}
use Rattle.std.proofs.lemmas.List.{append-nil, take_at, get_or_at, length-append, length-take-le, length-replicate}
use Rattle.bit_grammar.specs.declared.reason.Reason.TheVariants.{ValueTooWide, DirtyPadding}
use Rattle.bit_grammar.specs.Bits.{number, bits_of}
use Rattle.bit_grammar.specs.Grammar.{Grammar, gives, choose, ◌>>=◌, ◌>>◌, judge, Spells}
use Rattle.bit_grammar.specs.Fields.{next_of, fixed, chunks, vbr, char6, zeros, padding_length, align32}
use Rattle.bit_grammar.specs.Terms.{chunk_limit}
use Rattle.bit_grammar.specs.FormatFields.{sum_of_bits, chunk_spelling, weighted_sum, IsVbr, IsFixed, IsChar6, IsPadding, shortest_payloads, shortest}
use Rattle.bit_grammar.proofs.Readings.Deciding.{position-first, first-position, judged, judge-spells}
use Rattle.bit_grammar.proofs.Bits.Tables.{limit_enough}
use Rattle.bit_grammar.proofs.Bits.Numbers.{number_below, number_only, number-bits_of, number-low_bits, length-bits_of, pow_mono, parts_below, low_below, high_below}

-- ---- numbers of fixed width

sum-number : (i : ℕ) (s : List Bool) → sum_of_bits i s ≡ 2 ^ i * number s
sum-number i [] = omega arith
sum-number i (b ∷ s) = rw (sum-number (suc i) s, pow-suc) (omega arith)

-- the sum over the bits is the number that they spell
pub sum_is : (s : List Bool) → sum_of_bits 0 s ≡ number s
sum_is s = sum-number 0 s ∙ omega arith

pub fixed_is : (n p : ℕ) (s : List Bool) (v : ℕ) → Spells (fixed n) p s v → IsFixed n v s
unfolding fixed
fixed_is n p s v h =
    let k = position-first (λ start. next_of start n >>= λ x. gives (number x)) p s v h in
    let all : s ≡ k.2 = k.3 ∙ ap (λ (t : List Bool). k.0 ++ t) k.5.0 ∙ append-nil k.0 ∙ k.4.0 in
    record { length = ap length all ∙ k.4.1; value = k.5.1 ∙ sym (ap number all) ∙ sym (sum_is s) }

pub is_fixed : (n p : ℕ) (s : List Bool) (v : ℕ) → IsFixed n v s → Spells (fixed n) p s v
unfolding fixed
is_fixed n p s v h = first-position (λ start. next_of start n >>= λ x. gives (number x)) p s v (s, [], s, sym (append-nil s), (refl, h.length), (refl, h.value ∙ sum_is s))

-- ---- VBRs

-- the number that payloads spell
abbrev pub joined : (payload : ℕ) → List (List Bool) → ℕ
joined payload [] = 0
joined payload (first ∷ others) = number first + 2 ^ payload * joined payload others

pub record AreChunks (payload permitted places v : ℕ) (s : List Bool) : Type 0 where
  pub payloads : List (List Bool)
  pub some : 1 ≤ length payloads
  pub few : length payloads ≤ permitted
  pub wide : AllByRecursion (λ x. length x ≡ payload) payloads
  pub bits : s ≡ chunk_spelling payloads
  pub value : v ≡ joined payload payloads
  pub below : v < 2 ^ places

-- what follows a complete chunk with this payload and this continuation bit
abbrev after_chunk : (payload start permitted places low : ℕ) → Bool → Grammar ℕ
after_chunk payload start permitted places low more =
    judge (ltb low (2 ^ places)) ValueTooWide start >>
    choose more (chunks payload start permitted (places - payload) >>= λ high. gives (low + 2 ^ payload * high)) (gives low)

last_bit : (payload : ℕ) (chunk : List Bool) → length chunk ≡ suc payload → chunk ≡ take payload chunk ++ get_or chunk payload false ∷ []
last_bit zero (b ∷ []) h = refl
last_bit zero [] h = absurd (omega (arith, h))
last_bit zero (b ∷ c ∷ s) h = absurd (omega (arith, h))
last_bit (suc payload) [] h = absurd (omega (arith, h))
last_bit (suc payload) (b ∷ s) h = ap (λ (t : List Bool). b ∷ t) (last_bit payload s (omega (arith, h)))

chunked-more : (first : List Bool) (others : List (List Bool)) → 1 ≤ length others → chunk_spelling (first ∷ others) ≡ first ++ true ∷ chunk_spelling others
chunked-more first [] h = absurd (omega (arith, h))
chunked-more first (second ∷ others) h = refl

pub chunks_are : (payload start permitted places p : ℕ) (s : List Bool) (v : ℕ) → Spells (chunks payload start permitted places) p s v → AreChunks payload permitted places v s
chunks_are payload start zero places p s v h = absurd h
chunks_are payload start (suc permitted) places p s v h =
    let chunk : List Bool = h.2 in
    let low : List Bool = take payload chunk in
    let more : Bool = get_or chunk payload false in
    let parts : chunk ≡ low ++ more ∷ [] = last_bit payload chunk h.4.1 in
    let len : length low ≡ payload = length-take-le payload chunk (omega (arith, h.4.1)) in
    let start_of : s ≡ (low ++ more ∷ []) ++ h.1 = h.3 ∙ ap (λ (t : List Bool). t ++ h.1) (h.4.0 ∙ parts) in
    let j = judged (ltb (number low) (2 ^ places)) (record { reason = ValueTooWide; bit = start }) (choose more (chunks payload start permitted (places - payload) >>= λ high. gives (number low + 2 ^ payload * high)) (gives (number low))) (p + length h.0) h.1 v h.5 in
    let fits : number low < 2 ^ places = ltb-true _ _ j.0 in
    let narrow : number low < 2 ^ payload = subst (λ (k : ℕ). number low < 2 ^ k) len (number_below low) in
    elim j.1 [
      | inl goes_on ↦
          let both = goes_on.1 in
          let rest = chunks_are payload start permitted (places - payload) (p + length h.0) both.0 both.2 both.4 in
          let others : h.1 ≡ both.0 = both.3 ∙ ap (λ (t : List Bool). both.0 ++ t) both.5.0 ∙ append-nil both.0 in
          record {
            payloads = low ∷ rest.payloads;
            some = omega arith;
            few = omega (arith, rest.few);
            wide = (len, rest.wide);
            bits = start_of ∙ ap (λ (b : Bool). (low ++ b ∷ []) ++ h.1) goes_on.0 ∙ append_assoc low (true ∷ []) h.1 ∙ ap (λ (t : List Bool). low ++ true ∷ t) (others ∙ rest.bits) ∙ sym (chunked-more low rest.payloads rest.some);
            value = both.5.1 ∙ ap (λ (k : ℕ). number low + 2 ^ payload * k) rest.value;
            below = rw both.5.1 (parts_below (number low) both.2 payload places narrow fits rest.below);
          }
      | inr ends ↦
          record {
            payloads = low ∷ [];
            some = omega arith;
            few = omega arith;
            wide = (len, tt);
            bits = start_of ∙ ap (λ (t : List Bool). (low ++ more ∷ []) ++ t) ends.1.0 ∙ append-nil (low ++ more ∷ []) ∙ ap (λ (b : Bool). low ++ b ∷ []) ends.0;
            value = ends.1.1 ∙ omega arith;
            below = rw ends.1.1 fits;
          }
    ]

-- a chunk's payload and continuation bit, if it is known what follows it
chunk_spells : (payload start permitted places p : ℕ) (x : List Bool) (more : Bool) (others : List Bool) (v : ℕ) → length x ≡ payload
    → ((q : ℕ) → Spells (after_chunk payload start permitted places (number x) more) q others v) → Spells (chunks payload start (suc permitted) places) p ((x ++ more ∷ []) ++ others) v
chunk_spells payload start permitted places p x more others v len h =
    let chunk : List Bool = x ++ more ∷ [] in
    let q : ℕ = p + length chunk in
    let low : take payload chunk ≡ x = take_at x (more ∷ []) payload len in
    let top : get_or chunk payload false ≡ more = get_or_at x more [] false payload len in
    let one : Spells (after_chunk payload start permitted places (number x) (get_or chunk payload false)) q others v = subst (λ (b : Bool). Spells (after_chunk payload start permitted places (number x) b) q others v) (sym top) (h q) in
    let both : Spells (after_chunk payload start permitted places (number (take payload chunk)) (get_or chunk payload false)) q others v = subst (λ (y : List Bool). Spells (after_chunk payload start permitted places (number y) (get_or chunk payload false)) q others v) (sym low) one in
    (chunk, others, chunk, refl, (refl, omega (arith, length-append x (more ∷ []), len)), both)

pub chunks_spell : (payload start : ℕ) (xs : List (List Bool)) (permitted places p : ℕ) → 1 ≤ length xs → length xs ≤ permitted → AllByRecursion (λ x. length x ≡ payload) xs → joined payload xs < 2 ^ places → Spells (chunks payload start permitted places) p (chunk_spelling xs) (joined payload xs)
chunks_spell payload start [] permitted places p some few wide below = absurd (omega (arith, some))
chunks_spell payload start (x ∷ xs) zero places p some few wide below = absurd (omega (arith, few))
chunks_spell payload start (x ∷ []) (suc permitted) places p some few wide below =
    let small : ltb (number x) (2 ^ places) ≡ true = lt-ltb _ _ (omega (arith, below)) in
    let after : (q : ℕ) → Spells (after_chunk payload start permitted places (number x) false) q [] (joined payload (x ∷ [])) = λ q. judge-spells (ltb (number x) (2 ^ places)) (record { reason = ValueTooWide; bit = start }) (choose false (chunks payload start permitted (places - payload) >>= λ high. gives (number x + 2 ^ payload * high)) (gives (number x))) q [] (joined payload (x ∷ [])) small (inr (refl, (refl, omega arith))) in
    subst (λ (s : List Bool). Spells (chunks payload start (suc permitted) places) p s (joined payload (x ∷ []))) (append-nil (x ++ false ∷ [])) (chunk_spells payload start permitted places p x false [] (joined payload (x ∷ [])) wide.0 after)
chunks_spell payload start (x ∷ y ∷ xs) (suc permitted) places p some few wide below =
    let high : ℕ = joined payload (y ∷ xs) in
    let v : ℕ = joined payload (x ∷ y ∷ xs) in
    let small : ltb (number x) (2 ^ places) ≡ true = lt-ltb _ _ (low_below (number x) high payload places below) in
    let rest : (q : ℕ) → Spells (chunks payload start permitted (places - payload)) q (chunk_spelling (y ∷ xs)) high = λ q. chunks_spell payload start (y ∷ xs) permitted (places - payload) q (omega arith) (omega (arith, few)) wide.1 (high_below (number x) high payload places below) in
    let after : (q : ℕ) → Spells (after_chunk payload start permitted places (number x) true) q (chunk_spelling (y ∷ xs)) v = λ q. judge-spells (ltb (number x) (2 ^ places)) (record { reason = ValueTooWide; bit = start }) (choose true (chunks payload start permitted (places - payload) >>= λ h. gives (number x + 2 ^ payload * h)) (gives (number x))) q (chunk_spelling (y ∷ xs)) v small (inl (refl, (chunk_spelling (y ∷ xs), [], high, sym (append-nil (chunk_spelling (y ∷ xs))), rest q, (refl, refl)))) in
    subst (λ (s : List Bool). Spells (chunks payload start (suc permitted) places) p s v) (append_assoc x (true ∷ []) (chunk_spelling (y ∷ xs))) (chunk_spells payload start permitted places p x true (chunk_spelling (y ∷ xs)) v wide.0 after)

weighted-joined : (payload j : ℕ) (xs : List (List Bool)) → weighted_sum payload j xs ≡ 2 ^ (j * payload) * joined payload xs
weighted-joined payload j [] = omega arith
weighted-joined payload j (x ∷ xs) =
    let e : 2 ^ (suc j * payload) ≡ 2 ^ (j * payload) * 2 ^ payload = ap (λ (k : ℕ). 2 ^ k) (let e : suc j * payload ≡ j * payload + payload = omega arith in e) ∙ pow-add 2 (j * payload) payload in
    rw (weighted-joined payload (suc j) xs, e) (omega arith)

weighted_is : (payload : ℕ) (xs : List (List Bool)) → weighted_sum payload 0 xs ≡ joined payload xs
weighted_is payload xs =
    let none : 0 * payload ≡ 0 = omega arith in
    weighted-joined payload 0 xs ∙ ap (λ (k : ℕ). 2 ^ k * joined payload xs) none ∙ omega arith

-- a VBR is its chunks, at most the permitted number, and the weighted sum of their payloads
pub vbr_is : (n p : ℕ) (s : List Bool) (v : ℕ) → 2 ≤ n → Spells (vbr n) p s v → IsVbr n v s
unfolding vbr
vbr_is zero p s v wide h = absurd (omega (arith, wide))
vbr_is (suc payload) p s v wide h =
    let c = chunks_are payload p (chunk_limit payload) 64 p s v (position-first (λ start. chunks payload start (chunk_limit payload) 64) p s v h) in
    let same : suc payload - 1 ≡ payload = omega arith in
    record {
      payloads = c.payloads;
      some = c.some;
      few = rw same c.few;
      wide = rw same c.wide;
      bits = c.bits;
      value = rw same (c.value ∙ sym (weighted_is payload c.payloads));
      below = c.below;
    }

pub is_vbr : (n p : ℕ) (s : List Bool) (v : ℕ) → 2 ≤ n → IsVbr n v s → Spells (vbr n) p s v
unfolding vbr
is_vbr zero p s v wide h = absurd (omega (arith, wide))
is_vbr (suc payload) p s v wide h =
    let same : suc payload - 1 ≡ payload = omega arith in
    let few = rw same at h.few in
    let all = rw same at h.wide in
    let value : v ≡ joined payload h.payloads = (rw same at h.value) ∙ weighted_is payload h.payloads in
    rw (h.bits, value) (first-position (λ start. chunks payload start (chunk_limit payload) 64) p (chunk_spelling h.payloads) (joined payload h.payloads) (chunks_spell payload p h.payloads (chunk_limit payload) 64 p h.some few all (subst (λ (k : ℕ). k < 2 ^ 64) value h.below)))

-- ---- characters and padding

pub char6_is : (p : ℕ) (s : List Bool) (v : ℕ) → Spells char6 p s v → IsChar6 v s
unfolding char6
char6_is p s v h =
    let all : s ≡ h.0 = h.3 ∙ ap (λ (t : List Bool). h.0 ++ t) h.5.0 ∙ append-nil h.0 in
    record { place = h.2; bits = subst (λ (t : List Bool). IsFixed 6 h.2 t) (sym all) (fixed_is 6 p h.0 h.2 h.4); value = h.5.1 }

pub is_char6 : (p : ℕ) (s : List Bool) (v : ℕ) → IsChar6 v s → Spells char6 p s v
unfolding char6
is_char6 p s v h = (s, [], h.place, sym (append-nil s), is_fixed 6 p s h.place h.bits, (refl, h.value))

one_bit : (s : List Bool) → length s ≡ 1 → number s ≡ 0 → s ≡ false ∷ []
one_bit [] len e = absurd (omega (arith, len))
one_bit (true ∷ []) len e = absurd (omega (arith, e))
one_bit (false ∷ []) len e = refl
one_bit (b ∷ c ∷ s) len e = absurd (omega (arith, len))

pub zeros_are : (start count p : ℕ) (s : List Bool) (v : Unit {0}) → Spells (zeros start count) p s v → s ≡ replicate count false
zeros_are start zero p s v h = h.0
zeros_are start (suc count) p s v h =
    let k = position-first (λ place. next_of start 1 >>= λ x. judge (eqb (number x) 0) DirtyPadding place >> zeros start count) p s v h in
    let j = judged (eqb (number k.2) 0) (record { reason = DirtyPadding; bit = p }) (zeros start count) (p + length k.0) k.1 v k.5 in
    let first : k.2 ≡ false ∷ [] = one_bit k.2 k.4.1 (eqb-true _ _ j.0) in
    k.3 ∙ ap (λ (t : List Bool). t ++ k.1) (k.4.0 ∙ first) ∙ ap (λ (t : List Bool). false ∷ t) (zeros_are start count (p + length k.0) k.1 v j.1)

pub are_zeros : (start count p : ℕ) → Spells (zeros start count) p (replicate count false) tt
are_zeros start zero p = (refl, refl)
are_zeros start (suc count) p =
    first-position (λ place. next_of start 1 >>= λ x. judge (eqb (number x) 0) DirtyPadding place >> zeros start count) p (replicate (suc count) false) tt
    (false ∷ [], replicate count false, false ∷ [], refl, (refl, refl), judge-spells true (record { reason = DirtyPadding; bit = p }) (zeros start count) (p + 1) (replicate count false) tt refl (are_zeros start count (p + 1)))

replicate-zeros : (count : ℕ) → AllByRecursion (λ b. b ≡ false) (replicate count false)
replicate-zeros zero = tt
replicate-zeros (suc count) = (refl, replicate-zeros count)

zeros-replicate : (s : List Bool) → AllByRecursion (λ b. b ≡ false) s → s ≡ replicate (length s) false
zeros-replicate [] h = refl
zeros-replicate (b ∷ s) h = ap (λ (c : Bool). c ∷ s) h.0 ∙ ap (λ (t : List Bool). false ∷ t) (zeros-replicate s h.1)

gap_aligns : (p : ℕ) → (p + padding_length p) % 32 ≡ 0
gap_aligns p = omega arith

gap_few : (p : ℕ) → padding_length p < 32
gap_few p = omega arith

gap_only : (p n : ℕ) → n < 32 → (p + n) % 32 ≡ 0 → n ≡ padding_length p
gap_only p n few aligned = omega arith

pub align_is : (p : ℕ) (s : List Bool) (v : Unit {0}) → Spells align32 p s v → IsPadding p s
unfolding align32
align_is p s v h =
    let all : s ≡ replicate (padding_length p) false = zeros_are p (padding_length p) p s v (position-first (λ start. zeros start (padding_length start)) p s v h) in
    let len : length s ≡ padding_length p = ap length all ∙ length-replicate (padding_length p) false in
    record {
      zeros = rw all (replicate-zeros (padding_length p));
      few = rw len (gap_few p);
      aligned = rw len (gap_aligns p);
    }

pub is_align : (p : ℕ) (s : List Bool) → IsPadding p s → Spells align32 p s tt
unfolding align32
is_align p s h =
    let len : length s ≡ padding_length p = gap_only p (length s) h.few h.aligned in
    let all : s ≡ replicate (padding_length p) false = zeros-replicate s h.zeros ∙ ap (λ (n : ℕ). replicate n false) len in
    rw all (first-position (λ start. zeros start (padding_length start)) p (replicate (padding_length p) false) tt (are_zeros p (padding_length p) p))

-- ---- the shortest VBR

pub short_wide : (payload permitted v : ℕ) → AllByRecursion (λ x. length x ≡ payload) (shortest_payloads payload permitted v)
short_wide payload zero v = tt
short_wide payload (suc permitted) v =
    elim (ltb v (2 ^ payload)) as (λ b. AllByRecursion (λ x. length x ≡ payload) (bits_of payload v ∷ cond b [] (shortest_payloads payload permitted (v / 2 ^ payload)))) [
      | true ↦ (length-bits_of payload v, tt)
      | false ↦ (length-bits_of payload v, short_wide payload permitted (v / 2 ^ payload))
    ]

pub short_few : (payload permitted v : ℕ) → length (shortest_payloads payload permitted v) ≤ permitted
short_few payload zero v = omega arith
short_few payload (suc permitted) v =
    elim (ltb v (2 ^ payload)) as (λ b. suc (length (cond b [] (shortest_payloads payload permitted (v / 2 ^ payload)))) ≤ suc permitted) [
      | true ↦ omega arith
      | false ↦ omega (arith, short_few payload permitted (v / 2 ^ payload))
    ]

pub short_joined : (payload permitted v : ℕ) → v < 2 ^ (permitted * payload) → joined payload (shortest_payloads payload permitted v) ≡ v
short_joined payload zero v h =
    let none : 0 * payload ≡ 0 = omega arith in
    let one : v < 2 ^ 0 = rw none at h in
    omega (arith, one)
short_joined payload (suc permitted) v h =
    let e : suc permitted * payload ≡ permitted * payload + payload = omega arith in
    let high : v / 2 ^ payload < 2 ^ (permitted * payload) = shr_below v (permitted * payload) payload (rw e at h) in
    elim (cases_lt v (2 ^ payload)) [
      | inl lt ↦
          let is : ltb v (2 ^ payload) ≡ true = lt-ltb _ _ lt in
          rw (is, number-bits_of payload v lt) (omega arith)
      | inr le ↦
          let is : ltb v (2 ^ payload) ≡ false = le-ltb _ _ le in
          rw (is, short_joined payload permitted (v / 2 ^ payload) high) (number-low_bits payload v)
    ]

short_some : (payload permitted v : ℕ) → 1 ≤ permitted → 1 ≤ length (shortest_payloads payload permitted v)
short_some payload zero v h = absurd (omega (arith, h))
short_some payload (suc permitted) v h = omega arith

factor_some : (k m : ℕ) → 64 ≤ k * m → 1 ≤ k
factor_some zero m h = absurd (omega (arith, h))
factor_some (suc k) m h = omega arith

short_value : (n v : ℕ) → 2 ≤ n → v < 2 ^ 64 → joined (n - 1) (shortest_payloads (n - 1) (chunk_limit (n - 1)) v) ≡ v
short_value n v wide below =
    let payload : ℕ = n - 1 in
    let enough = limit_enough payload (omega arith) in
    short_joined payload (chunk_limit payload) v (omega (arith, below, pow_mono 64 (chunk_limit payload * payload) enough))

-- the shortest VBR is one
pub short_is_vbr : (n v : ℕ) → 2 ≤ n → v < 2 ^ 64 → IsVbr n v (shortest n v)
short_is_vbr n v wide below =
    let payload : ℕ = n - 1 in
    let enough = limit_enough payload (omega arith) in
    record {
      payloads = shortest_payloads payload (chunk_limit payload) v;
      some = short_some payload (chunk_limit payload) v (factor_some (chunk_limit payload) payload enough);
      few = short_few payload (chunk_limit payload) v;
      wide = short_wide payload (chunk_limit payload) v;
      bits = refl;
      value = sym (weighted_is payload (shortest_payloads payload (chunk_limit payload) v) ∙ short_value n v wide below);
      below = below;
    }

-- the payloads of a number of more than one chunk go on, with the number's high part
high_part : (payload : ℕ) (x : List Bool) (high v : ℕ) → length x ≡ payload → v ≡ number x + 2 ^ payload * high → v / 2 ^ payload ≡ high
high_part payload x high v len e =
    let narrow : number x < 2 ^ payload = subst (λ (k : ℕ). number x < 2 ^ k) len (number_below x) in
    let e' : v ≡ high * 2 ^ payload + number x = omega (arith, e) in
    ap (λ (k : ℕ). k / 2 ^ payload) e' ∙ shr_high high payload (number x) narrow

joined_some : (payload : ℕ) (xs : List (List Bool)) (low v : ℕ) → low < 2 ^ payload → v ≡ low + 2 ^ payload * joined payload xs → 2 ^ payload ≤ v → 1 ≤ length xs
joined_some payload [] low v narrow e le = absurd (omega (arith, e, narrow, le))
joined_some payload (x ∷ xs) low v narrow e le = omega arith

same_factor : (k a b : ℕ) → suc k * a ≡ suc k * b → a ≡ b
same_factor k a b e =
    elim (cases_lt a b) [
      | inl lt ↦ let more : suc k * suc a ≤ suc k * b = mul-le-mul_left (suc k) lt in absurd (omega (arith, e, more))
      | inr le ↦ elim (cases_lt b a) [
        | inl lt ↦ let more : suc k * suc b ≤ suc k * a = mul-le-mul_left (suc k) lt in absurd (omega (arith, e, more))
        | inr ge ↦ omega (arith, le, ge)
      ]
    ]

-- no chunks that spell a number are fewer than the shortest
pub short_least : (payload permitted v : ℕ) (xs : List (List Bool)) → AllByRecursion (λ x. length x ≡ payload) xs → 1 ≤ length xs → v ≡ joined payload xs → length (shortest_payloads payload permitted v) ≤ length xs
short_least payload zero v xs wide some value = omega arith
short_least payload (suc permitted) v [] wide some value = absurd (omega (arith, some))
short_least payload (suc permitted) v (x ∷ xs) wide some value =
    elim (cases_lt v (2 ^ payload)) [
      | inl lt ↦
          let is : ltb v (2 ^ payload) ≡ true = lt-ltb _ _ lt in
          rw is (omega arith)
      | inr le ↦
          let is : ltb v (2 ^ payload) ≡ false = le-ltb _ _ le in
          let high : v / 2 ^ payload ≡ joined payload xs = high_part payload x (joined payload xs) v wide.0 value in
          let narrow : number x < 2 ^ payload = subst (λ (k : ℕ). number x < 2 ^ k) wide.0 (number_below x) in
          let rest = short_least payload permitted (v / 2 ^ payload) xs wide.1 (joined_some payload xs (number x) v narrow value le) high in
          rw is (omega (arith, rest))
    ]

pub length-chunked : (payload : ℕ) (xs : List (List Bool)) → AllByRecursion (λ x. length x ≡ payload) xs → length (chunk_spelling xs) ≡ suc payload * length xs
length-chunked payload [] wide = omega arith
length-chunked payload (x ∷ []) wide = omega (arith, length-append x (false ∷ []), wide.0)
length-chunked payload (x ∷ y ∷ xs) wide = omega (arith, length-append x (true ∷ chunk_spelling (y ∷ xs)), wide.0, length-chunked payload (y ∷ xs) wide.1)

-- payloads of one width, as many and for the same number, are the same
pub joined_only : (payload : ℕ) (xs ys : List (List Bool)) → AllByRecursion (λ x. length x ≡ payload) xs → AllByRecursion (λ x. length x ≡ payload) ys → length xs ≡ length ys → joined payload xs ≡ joined payload ys → xs ≡ ys
joined_only payload [] [] wx wy len e = refl
joined_only payload [] (y ∷ ys) wx wy len e = absurd (omega (arith, len))
joined_only payload (x ∷ xs) [] wx wy len e = absurd (omega (arith, len))
joined_only payload (x ∷ xs) (y ∷ ys) wx wy len e =
    let high : joined payload xs ≡ joined payload ys = sym (high_part payload x (joined payload xs) (joined payload (x ∷ xs)) wx.0 refl) ∙ high_part payload y (joined payload ys) (joined payload (x ∷ xs)) wy.0 e in
    let low : number x ≡ number y = omega (arith, e, ap (λ (k : ℕ). 2 ^ payload * k) high) in
    let front : x ≡ y = number_only x y (wx.0 ∙ sym wy.0) low in
    ap (λ (z : List Bool). z ∷ xs) front ∙ ap (λ (zs : List (List Bool)). y ∷ zs) (joined_only payload xs ys wx.1 wy.1 (omega (arith, len)) high)

-- no VBR of the same width that spells a number is shorter, and no other one is as short
pub short_is_least : (n v : ℕ) (s : List Bool) → 2 ≤ n → IsVbr n v s → (length (shortest n v) ≤ length s) × (length s ≡ length (shortest n v) → s ≡ shortest n v)
short_is_least n v s two h =
    let payload : ℕ = n - 1 in
    let limit : ℕ = chunk_limit payload in
    let mine : List (List Bool) = shortest_payloads payload limit v in
    let value : v ≡ joined payload h.payloads = h.value ∙ weighted_is payload h.payloads in
    let least = short_least payload limit v h.payloads h.wide h.some value in
    let len_s : length s ≡ suc payload * length h.payloads = ap length h.bits ∙ length-chunked payload h.payloads h.wide in
    let len_mine : length (shortest n v) ≡ suc payload * length mine = length-chunked payload mine (short_wide payload limit v) in
    let same_value : joined payload h.payloads ≡ joined payload mine = sym value ∙ sym (short_value n v two h.below) in (
      omega (arith, len_s, len_mine, mul-le-mul_left (suc payload) least),
      λ len. h.bits ∙ ap chunk_spelling (joined_only payload h.payloads mine h.wide (short_wide payload limit v) (same_factor payload (length h.payloads) (length mine) (sym len_s ∙ len ∙ len_mine)) same_value),
    )
