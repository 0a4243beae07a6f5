-- Counting the chunks of a VBR.
use Rattle.std.proofs.Common.{◌≡◌, ℕ, zero, suc, ◌+◌, ◌*◌, ◌-◌, ◌/◌, ◌^◌, ◌<◌, ◌≤◌, true, false, ltb, max, refl, ap, ◌∙◌, subst, arith}
use Rattle.std.proofs.Math.Nat.{div-add-mod, div-le_of_le-mul, mul-le-mul_left, pow-suc}
use Rattle.std.proofs.Math.Pow.{pow_mono, shr_lt}
use Rattle.std.proofs.lemmas.Nat.{mod_below, pow_pos, pow-add, le-div}
use Rattle.std.proofs.lemmas.Bool.{lt-ltb, le-ltb}
use Rattle.bit_grammar.specs.Terms.{chunk_limit}
use Rattle.bit_grammar.specs.Size.{chunk_count, shortest_length}
use Rattle.bit_grammar.proofs.NormalForms.Sizes.{short_range}

-- the payloads of the permitted chunks hold every value of 64 bits
limit_is_enough : (payload : ℕ) → 0 < payload → 64 ≤ payload * chunk_limit payload
limit_is_enough payload some = omega (arith, div-add-mod (63 + payload) payload, mod_below (63 + payload) payload some)

limit_is_small : (payload : ℕ) → 0 < payload → chunk_limit payload ≤ 64
limit_is_small payload some = div-le_of_le-mul payload (omega arith)

-- at least one chunk is permitted
limit_is : (payload : ℕ) → 0 < payload → chunk_limit payload ≡ suc (chunk_limit payload - 1)
limit_is payload some = one_more payload (chunk_limit payload) (limit_is_enough payload some)
  where
    one_more : (payload limit : ℕ) → 64 ≤ payload * limit → limit ≡ suc (limit - 1)
    one_more payload zero enough = absurd (omega (arith, enough))
    one_more payload (suc limit) enough = let e : suc limit - 1 ≡ limit = omega arith in rw e refl

pub short_few : (n value : ℕ) → 2 ≤ n → n ≤ 32 → shortest_length n value ≤ 2048
short_few n value some few =
    let limit = chunk_limit (n - 1) in
    let small : n * limit ≤ n * 64 = mul-le-mul_left n (limit_is_small (n - 1) (omega arith)) in
    omega (arith, (short_range n value some).1, small)

-- chunks were counted, and at least one is permitted for the rest of the value
pub record Counting (n value bits rest : ℕ) : Type 0 where
  pub permitted : ℕ
  pub whole : bits + n * chunk_count (n - 1) (suc permitted) rest ≡ shortest_length n value + n
  pub below : rest < 2 ^ ((n - 1) * suc permitted)

pub counting_starts : (n value : ℕ) → 2 ≤ n → value < 2 ^ 64 → Counting n value n value
unfolding shortest_length
counting_starts n value some below =
    let is : chunk_limit (n - 1) ≡ suc (chunk_limit (n - 1) - 1) = limit_is (n - 1) (omega arith) in
    let enough : 64 ≤ (n - 1) * suc (chunk_limit (n - 1) - 1) = subst (λ k. 64 ≤ (n - 1) * k) is (limit_is_enough (n - 1) (omega arith)) in
    let counted : n * chunk_count (n - 1) (chunk_limit (n - 1)) value ≡ n * chunk_count (n - 1) (suc (chunk_limit (n - 1) - 1)) value = ap (λ k. n * chunk_count (n - 1) k value) is in
    record {
      permitted = chunk_limit (n - 1) - 1;
      whole = omega (arith, counted);
      below = omega (arith, below, pow_mono enough);
    }

count_of_one : (payload permitted rest : ℕ) → rest < 2 ^ payload → chunk_count payload (suc permitted) rest ≡ 1
count_of_one payload permitted rest lt = let is : ltb rest (2 ^ payload) ≡ true = lt-ltb _ _ lt in rw is refl

count_of_more : (payload permitted rest : ℕ) → 2 ^ payload ≤ rest → chunk_count payload (suc permitted) rest ≡ suc (chunk_count payload permitted (rest / 2 ^ payload))
count_of_more payload permitted rest le = let is : ltb rest (2 ^ payload) ≡ false = le-ltb _ _ le in rw is refl

-- the rest is more than one chunk holds: a second chunk is permitted
another : (payload permitted rest : ℕ) → 2 ^ payload ≤ rest → rest < 2 ^ (payload * suc permitted) → (fewer : ℕ) × (permitted ≡ suc fewer)
another payload zero rest le lt = let e : payload * 1 ≡ payload = omega arith in let one : rest < 2 ^ payload = rw e at lt in absurd (omega arith)
another payload (suc fewer) rest le lt = (fewer, refl)

pub counting_goes_on : (n value bits rest : ℕ) → 2 ≤ n → 2 ^ (n - 1) ≤ rest → Counting n value bits rest → Counting n value (bits + n) (rest / 2 ^ (n - 1))
counting_goes_on n value bits rest some le c =
    let k = another (n - 1) c.permitted rest le c.below in
    let more : (n - 1) * suc (suc k.0) ≡ (n - 1) * suc k.0 + (n - 1) = omega arith in
    let below : rest < 2 ^ ((n - 1) * suc k.0 + (n - 1)) = subst (λ x. rest < 2 ^ x) (ap (λ x. (n - 1) * suc x) k.1 ∙ more) c.below in
    let left = chunk_count (n - 1) (suc k.0) (rest / 2 ^ (n - 1)) in
    let counted : n * chunk_count (n - 1) (suc c.permitted) rest ≡ n * suc left = ap (λ x. n * chunk_count (n - 1) (suc x) rest) k.1 ∙ ap (λ x. n * x) (count_of_more (n - 1) (suc k.0) rest le) in
    record {
      permitted = k.0;
      whole = omega (arith, c.whole, counted);
      below = shr_lt ((n - 1) * suc k.0) (n - 1) below;
    }

-- no more chunks are counted than there are
pub counting_few : (n value bits rest : ℕ) → 2 ≤ n → n ≤ 32 → Counting n value bits rest → bits ≤ 2048
counting_few n value bits rest some few c =
    let least : n * 1 ≤ n * chunk_count (n - 1) (suc c.permitted) rest = mul-le-mul_left n (omega arith) in
    omega (arith, c.whole, least, short_few n value some few)

pub counting_ends : (n value bits rest : ℕ) → rest < 2 ^ (n - 1) → Counting n value bits rest → bits ≡ shortest_length n value
counting_ends n value bits rest lt c =
    let one : n * chunk_count (n - 1) (suc c.permitted) rest ≡ n * 1 = ap (λ x. n * x) (count_of_one (n - 1) c.permitted rest lt) in
    omega (arith, c.whole, one)

-- ---- chunks counted by the highest bit

-- the number of chunks after the first is set by the highest bit of the value
count_by_size : (payload permitted count value : ℕ) → 0 < payload → count ≤ permitted → 2 ^ (payload * count) ≤ max value 1 → value < 2 ^ (payload * suc count) → chunk_count payload (suc permitted) value ≡ suc count
count_by_size payload permitted zero value some few least most =
    let one : payload * 1 ≡ payload = omega arith in
    count_of_one payload permitted value (subst (λ k. value < 2 ^ k) one most)
count_by_size payload zero (suc count) value some few least most = absurd (omega arith)
count_by_size payload (suc permitted) (suc count) value some few least most =
    let width : payload * suc count ≡ payload * count + payload = omega arith in
    let above : payload * suc (suc count) ≡ payload * suc count + payload = omega arith in
    let two : 2 ^ 1 ≤ 2 ^ (payload * suc count) = pow_mono {i = 1} {j = payload * suc count} (omega (arith, width)) in
    let least_value : 2 ^ (payload * suc count) ≤ value = omega (arith, two, least) in
    let one : 2 ^ payload ≤ value = omega (arith, least_value, pow_mono {i = payload} {j = payload * suc count} (omega (arith, width))) in
    let product : 2 ^ (payload * count) * 2 ^ payload ≤ value = subst (λ k. k ≤ value) (ap (λ k. 2 ^ k) width ∙ pow-add 2 (payload * count) payload) least_value in
    let rest : 2 ^ (payload * count) ≤ value / 2 ^ payload = le-div (2 ^ (payload * count)) value (2 ^ payload) (pow_pos payload) product in
    let below : value / 2 ^ payload < 2 ^ (payload * suc count) = shr_lt (payload * suc count) payload (subst (λ k. value < 2 ^ k) above most) in
    count_of_more payload (suc permitted) value one
    ∙ ap suc (count_by_size payload permitted count (value / 2 ^ payload) some (omega arith) (omega (arith, rest)) below)

-- the chunks of six bits, by the place of the highest bit
pub six_by_size : (value top : ℕ) → 2 ^ top ≤ max value 1 → max value 1 < 2 * 2 ^ top → top < 64 → shortest_length 6 value ≡ 6 * (1 + top / 5)
unfolding shortest_length
six_by_size value top least most few =
    let count : ℕ = top / 5 in
    let low : 2 ^ (5 * count) ≤ 2 ^ top = pow_mono {i = 5 * count} {j = top} (omega arith) in
    let high : 2 ^ suc top ≤ 2 ^ (5 * suc count) = pow_mono {i = suc top} {j = 5 * suc count} (omega arith) in
    let twice : 2 ^ suc top ≡ 2 * 2 ^ top = rw pow-suc (omega arith) in
    let one : suc count ≡ 1 + count = omega arith in
    ap (λ k. 6 * k) (count_by_size 5 12 count value (omega arith) (omega arith) (omega (arith, low, least)) (omega (arith, most, twice, high)) ∙ one)
