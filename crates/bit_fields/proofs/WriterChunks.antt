-- The chunks of a VBR, written one after another.
use Rattle.std.proofs.Common.{◌≡◌, ℕ, zero, suc, inl, inr, ◌+◌, ◌*◌, ◌-◌, ◌/◌, ◌%◌, ◌^◌, ◌<◌, ◌≤◌, Bool, true, false, ltb, List, [], ◌∷◌, ◌++◌, length, bit_and, Result, Err, refl, sym, ap, ◌∙◌, subst, arith, append_assoc}
use Rattle.std.proofs.Math.Nat.{div-add-mod, div-le_of_le-mul, div-lt_self}
use Rattle.std.proofs.Math.Pow.{pow_mono, shr_lt}
use Rattle.std.proofs.lemmas.Nat.{and_mask, one_shl, mod_below, pow_pos}
use Rattle.std.proofs.lemmas.Bool.{lt-ltb, le-ltb, cases_lt}
use Rattle.bit_grammar.specs.Bits.{bits_of}
use Rattle.bit_grammar.specs.Terms.{chunk_limit}
use Rattle.bit_grammar.specs.FormatFields.{chunk_spelling, shortest_payloads, shortest}
use Rattle.bit_fields.specs.Writer.{Writer, Wrote, Writes}
use Rattle.bit_fields.specs.declared.fault.Fault.{Fault}
use Rattle.std.proofs.lemmas.List.{length-append}
use Rattle.bit_grammar.proofs.Bits.Numbers.{length-bits_of}
use Rattle.bit_fields.proofs.BitLaws.{bits_of-above, bits_of-mod}
use Rattle.bit_fields.proofs.WriterLaws.{wrote_nothing, wrote_then_wrote, wrote_then, not_written}

-- ---- one chunk

-- a chunk with another one after it, as it is computed
abbrev pub chunk : (n rest : ℕ) → ℕ
chunk n rest = bit_and rest (1 * 2 ^ (n - 1) % 2 ^ 64 - 1) + 1 * 2 ^ (n - 1) % 2 ^ 64

pub chunk_is : (n rest : ℕ) → n ≤ 32 → chunk n rest ≡ rest % 2 ^ (n - 1) + 1 * 2 ^ (n - 1)
chunk_is n rest few = rw (one_shl (n - 1) 64 (omega arith), and_mask rest (n - 1)) (omega arith)

width_is : (n : ℕ) → 2 ≤ n → n ≡ n - 1 + 1
width_is n some = omega arith

pub chunk_bits : (n rest : ℕ) → 2 ≤ n → n ≤ 32 → bits_of n (chunk n rest) ≡ bits_of (n - 1) rest ++ true ∷ []
chunk_bits n rest some few =
    let low : rest % 2 ^ (n - 1) < 2 ^ (n - 1) = mod_below rest (2 ^ (n - 1)) (pow_pos (n - 1)) in
    ap (bits_of n) (chunk_is n rest few)
    ∙ ap (λ k. bits_of k (rest % 2 ^ (n - 1) + 1 * 2 ^ (n - 1))) (width_is n some)
    ∙ bits_of-above (n - 1) 1 (rest % 2 ^ (n - 1)) 1 low
    ∙ ap (λ (s : List Bool). s ++ true ∷ []) (bits_of-mod (n - 1) rest)

pub last_bits : (n rest : ℕ) → 2 ≤ n → rest < 2 ^ (n - 1) → bits_of n rest ≡ bits_of (n - 1) rest ++ false ∷ []
last_bits n rest some lt =
    let e : rest ≡ rest + 0 * 2 ^ (n - 1) = omega arith in
    ap (bits_of n) e ∙ ap (λ k. bits_of k (rest + 0 * 2 ^ (n - 1))) (width_is n some) ∙ bits_of-above (n - 1) 1 rest 0 lt

-- ---- the chunks of a value

-- the chunks that spell the rest of a value, if `permitted` of them are allowed
abbrev pub tail : (payload permitted rest : ℕ) → List Bool
tail payload permitted rest = chunk_spelling (shortest_payloads payload permitted rest)

-- chunks of a value: one, or more than one
tail_last : (payload permitted rest : ℕ) → rest < 2 ^ payload → tail payload (suc permitted) rest ≡ bits_of payload rest ++ false ∷ []
tail_last payload permitted rest lt = let is : ltb rest (2 ^ payload) ≡ true = lt-ltb _ _ lt in rw is refl

tail_more : (payload permitted rest : ℕ) → 2 ^ payload ≤ rest → tail payload (suc (suc permitted)) rest ≡ (bits_of payload rest ++ true ∷ []) ++ tail payload (suc permitted) (rest / 2 ^ payload)
tail_more payload permitted rest le =
    let is : ltb rest (2 ^ payload) ≡ false = le-ltb _ _ le in
    rw is (sym (append_assoc (bits_of payload rest) (true ∷ []) (tail payload (suc permitted) (rest / 2 ^ payload))))

-- the payloads of the permitted chunks hold every value of 64 bits
limit_is_enough : (payload : ℕ) → 0 < payload → 64 ≤ payload * chunk_limit payload
limit_is_enough payload some = omega (arith, div-add-mod (63 + payload) payload, mod_below (63 + payload) payload some)

-- the permitted chunks are few: their bits can be counted
limit_is_small : (payload : ℕ) → 0 < payload → chunk_limit payload ≤ 64
limit_is_small payload some = div-le_of_le-mul payload (omega arith)

-- at least one chunk is permitted
limit_is : (payload : ℕ) → 0 < payload → chunk_limit payload ≡ suc (chunk_limit payload - 1)
limit_is payload some = one_more payload (chunk_limit payload) (limit_is_enough payload some)
  where
    one_more : (payload limit : ℕ) → 64 ≤ payload * limit → limit ≡ suc (limit - 1)
    one_more payload zero enough = absurd (omega (arith, enough))
    one_more payload (suc limit) enough = let e : suc limit - 1 ≡ limit = omega arith in rw e refl

-- the rest after a chunk is smaller
pub part_smaller : (n rest : ℕ) → 2 ≤ n → 2 ^ (n - 1) ≤ rest → rest / 2 ^ (n - 1) < rest
part_smaller n rest some le =
    let two : 2 ^ 1 ≤ 2 ^ (n - 1) = pow_mono {i = 1} {j = n - 1} (omega arith) in
    div-lt_self (omega (arith, two)) (omega (arith, two))

-- ---- chunks that were written

-- chunks were written, and at least one is permitted for the rest of the value
pub record Chunking (n value : ℕ) (start now : Writer) (rest : ℕ) : Type 0 where
  pub done : List Bool
  pub permitted : ℕ
  pub wrote : Wrote start done now
  pub whole : shortest n value ≡ done ++ tail (n - 1) (suc permitted) rest
  pub below : rest < 2 ^ ((n - 1) * suc permitted)
  pub room : now.position + 32 * suc permitted < 2 ^ 64

pub chunking_starts : (n value : ℕ) (start : Writer) → 2 ≤ n → n ≤ 32 → value < 2 ^ 64 → start.live ≡ true → start.position < 2 ^ 63 → Chunking n value start start value
chunking_starts n value start some few below live position =
    let is : chunk_limit (n - 1) ≡ suc (chunk_limit (n - 1) - 1) = limit_is (n - 1) (omega arith) in
    let enough : 64 ≤ (n - 1) * suc (chunk_limit (n - 1) - 1) = subst (λ k. 64 ≤ (n - 1) * k) is (limit_is_enough (n - 1) (omega arith)) in
    record {
      done = [];
      permitted = chunk_limit (n - 1) - 1;
      wrote = wrote_nothing start live;
      whole = ap (λ k. tail (n - 1) k value) is;
      below = omega (arith, below, pow_mono enough);
      room = omega (arith, position, limit_is_small (n - 1) (omega arith), is);
    }

-- the rest is more than one chunk holds: a second chunk is permitted
another : (payload permitted rest : ℕ) → 2 ^ payload ≤ rest → rest < 2 ^ (payload * suc permitted) → (fewer : ℕ) × (permitted ≡ suc fewer)
another payload zero rest le lt = let e : payload * 1 ≡ payload = omega arith in let one : rest < 2 ^ payload = rw e at lt in absurd (omega arith)
another payload (suc fewer) rest le lt = (fewer, refl)

-- one chunk of the rest, and what is then left
chunks_left : (n value rest permitted fewer : ℕ) (done : List Bool) → 2 ≤ n → n ≤ 32 → 2 ^ (n - 1) ≤ rest → shortest n value ≡ done ++ tail (n - 1) (suc permitted) rest → permitted ≡ suc fewer
    → shortest n value ≡ (done ++ bits_of n (chunk n rest)) ++ tail (n - 1) (suc fewer) (rest / 2 ^ (n - 1))
chunks_left n value rest permitted fewer done some few le whole is =
    let others : List Bool = tail (n - 1) (suc fewer) (rest / 2 ^ (n - 1)) in
    whole
    ∙ ap (λ (s : List Bool). done ++ s) (ap (λ k. tail (n - 1) (suc k) rest) is ∙ tail_more (n - 1) fewer rest le ∙ ap (λ (s : List Bool). s ++ others) (sym (chunk_bits n rest some few)))
    ∙ sym (append_assoc done (bits_of n (chunk n rest)) others)

pub chunking_goes_on : (n value : ℕ) (start now next : Writer) (rest : ℕ) → 2 ≤ n → n ≤ 32 → 2 ^ (n - 1) ≤ rest → Chunking n value start now rest → Wrote now (bits_of n (chunk n rest)) next → Chunking n value start next (rest / 2 ^ (n - 1))
chunking_goes_on n value start now next rest some few le c wrote =
    let k = another (n - 1) c.permitted rest le c.below in
    let more : (n - 1) * suc (suc k.0) ≡ (n - 1) * suc k.0 + (n - 1) = omega arith in
    let below : rest < 2 ^ ((n - 1) * suc k.0 + (n - 1)) = subst (λ x. rest < 2 ^ x) (ap (λ x. (n - 1) * suc x) k.1 ∙ more) c.below in
    record {
      done = c.done ++ bits_of n (chunk n rest);
      permitted = k.0;
      wrote = wrote_then_wrote start now next c.done (bits_of n (chunk n rest)) c.wrote wrote;
      whole = chunks_left n value rest c.permitted k.0 c.done some few le c.whole k.1;
      below = shr_lt ((n - 1) * suc k.0) (n - 1) below;
      room = omega (arith, c.room, k.1, wrote.position, length-bits_of n (chunk n rest));
    }

pub chunking_fails : (n value : ℕ) (start now next : Writer) (rest : ℕ) (fault : Fault) → 2 ≤ n → n ≤ 32 → 2 ^ (n - 1) ≤ rest → Chunking n value start now rest → Writes (bits_of n (chunk n rest)) now (Err fault) next → Writes (shortest n value) start (Err fault) next
chunking_fails n value start now next rest fault some few le c writes =
    let k = another (n - 1) c.permitted rest le c.below in
    let part : List Bool = c.done ++ bits_of n (chunk n rest) in
    subst (λ (s : List Bool). Writes s start (Err fault) next) (sym (chunks_left n value rest c.permitted k.0 c.done some few le c.whole k.1))
    (not_written part (tail (n - 1) (suc k.0) (rest / 2 ^ (n - 1))) start fault next (wrote_then start now next c.done (bits_of n (chunk n rest)) (Err fault) c.wrote writes))

pub chunking_ends : (n value : ℕ) (start now next : Writer) (rest : ℕ) (r : Result (Unit {0}) Fault) → 2 ≤ n → rest < 2 ^ (n - 1) → Chunking n value start now rest → Writes (bits_of n rest) now r next → Writes (shortest n value) start r next
chunking_ends n value start now next rest r some lt c writes =
    let is : shortest n value ≡ c.done ++ bits_of n rest = c.whole ∙ ap (λ (s : List Bool). c.done ++ s) (tail_last (n - 1) c.permitted rest lt ∙ sym (last_bits n rest some lt)) in
    subst (λ (s : List Bool). Writes s start r next) (sym is) (wrote_then start now next c.done (bits_of n rest) r c.wrote writes)

-- ---- chunks that are collected before they are written

-- chunks of a value were collected: at least one is permitted for its rest, and there is room for them
pub record Collecting (n value : ℕ) (chunks : List Bool) (rest : ℕ) : Type 0 where
  pub permitted : ℕ
  pub whole : shortest n value ≡ chunks ++ tail (n - 1) (suc permitted) rest
  pub below : rest < 2 ^ ((n - 1) * suc permitted)
  pub more : ℕ
  pub short : rest < 2 ^ ((n - 1) * suc more)
  pub room : length chunks + n * suc more ≤ 64

few_chunks : (a b : ℕ) → a + b ≡ 30 → 31 + suc a ≤ suc a * suc (suc b)
few_chunks a b e = omega (arith, e)

next_chunk : (payload permitted fewer rest : ℕ) → permitted ≡ suc fewer → rest < 2 ^ (payload * suc permitted) → rest < 2 ^ (payload * suc fewer + payload)
next_chunk payload permitted fewer rest is lt =
    let more : payload * suc (suc fewer) ≡ payload * suc fewer + payload = omega arith in
    subst (λ (e : ℕ). rest < 2 ^ e) (ap (λ k. payload * suc k) is ∙ more) lt

next_room : (n more fewer held : ℕ) → more ≡ suc fewer → held + n * suc more ≤ 64 → held + n + n * suc fewer ≤ 64
next_room n more fewer held is room =
    let next : n * suc (suc fewer) ≡ n + n * suc fewer = omega arith in
    let fits : held + n * suc (suc fewer) ≤ 64 = subst (λ k. held + n * suc k ≤ 64) is room in
    omega arith

-- the chunks of a value of 32 bits have room
chunks_fit : (n : ℕ) → 2 ≤ n → n ≤ 32 → (more : ℕ) × (32 ≤ (n - 1) * suc more) × (n * suc more ≤ 64)
chunks_fit n some few =
    let m : ℕ = n - 1 in
    let k : ℕ = (31 + m) / m in
    let whole : m * k + (31 + m) % m ≡ 31 + m = div-add-mod (31 + m) m in
    let part : (31 + m) % m < m = mod_below (31 + m) m (omega arith) in
    let one : suc (m - 1) ≡ m = omega arith in
    let two : suc (suc (31 - m)) ≡ 33 - m = omega arith in
    let most : 31 + m ≤ m * (33 - m) = rw (← two) (subst (λ j. 31 + j ≤ j * suc (suc (31 - m))) one (few_chunks (m - 1) (31 - m) (omega arith))) in
    let least : k ≤ 33 - m = div-le_of_le-mul m most in
    fits k (omega arith) (omega arith) least
  where
    fits : (k : ℕ) → 32 ≤ (n - 1) * k → (n - 1) * k ≤ 31 + (n - 1) → k ≤ 33 - (n - 1) → (more : ℕ) × (32 ≤ (n - 1) * suc more) × (n * suc more ≤ 64)
    fits zero enough most least = absurd (omega arith)
    fits (suc more) enough most least =
        let width : n ≡ suc (n - 1) = omega arith in
        let all : suc (n - 1) * suc more ≡ (n - 1) * suc more + suc more = omega arith in
        (more, enough, subst (λ j. j * suc more ≤ 64) (sym width) (omega arith))

pub collecting_starts : (n value : ℕ) → 2 ≤ n → n ≤ 32 → value < 2 ^ 32 → Collecting n value [] value
collecting_starts n value some few short =
    let is : chunk_limit (n - 1) ≡ suc (chunk_limit (n - 1) - 1) = limit_is (n - 1) (omega arith) in
    let enough : 64 ≤ (n - 1) * suc (chunk_limit (n - 1) - 1) = subst (λ k. 64 ≤ (n - 1) * k) is (limit_is_enough (n - 1) (omega arith)) in
    let fit = chunks_fit n some few in
    record {
      permitted = chunk_limit (n - 1) - 1;
      whole = ap (λ k. tail (n - 1) k value) is;
      below = omega (arith, short, pow_mono enough);
      more = fit.0;
      short = omega (arith, short, pow_mono fit.1);
      room = omega (arith, fit.2);
    }

pub collecting_room : (n value : ℕ) (chunks : List Bool) (rest : ℕ) → Collecting n value chunks rest → length chunks + n ≤ 64
collecting_room n value chunks rest c = let some : n * suc c.more ≡ n + n * c.more = omega arith in omega (arith, c.room)

pub collecting_goes_on : (n value : ℕ) (chunks next : List Bool) (rest : ℕ) → 2 ≤ n → n ≤ 32 → 2 ^ (n - 1) ≤ rest → Collecting n value chunks rest → next ≡ chunks ++ bits_of n (chunk n rest) → Collecting n value next (rest / 2 ^ (n - 1))
collecting_goes_on n value chunks next rest some few le c next_is =
    let k = another (n - 1) c.permitted rest le c.below in
    let j = another (n - 1) c.more rest le c.short in
    let len : length next ≡ length chunks + n = ap length next_is ∙ length-append chunks (bits_of n (chunk n rest)) ∙ ap (λ i. length chunks + i) (length-bits_of n (chunk n rest)) in
    record {
      permitted = k.0;
      whole = chunks_left n value rest c.permitted k.0 chunks some few le c.whole k.1 ∙ ap (λ (s : List Bool). s ++ tail (n - 1) (suc k.0) (rest / 2 ^ (n - 1))) (sym next_is);
      below = shr_lt ((n - 1) * suc k.0) (n - 1) (next_chunk (n - 1) c.permitted k.0 rest k.1 c.below);
      more = j.0;
      short = shr_lt ((n - 1) * suc j.0) (n - 1) (next_chunk (n - 1) c.more j.0 rest j.1 c.short);
      room = subst (λ i. i + n * suc j.0 ≤ 64) (sym len) (next_room n c.more j.0 (length chunks) j.1 c.room);
    }

pub collecting_ends : (n value : ℕ) (chunks : List Bool) (rest : ℕ) → 2 ≤ n → rest < 2 ^ (n - 1) → Collecting n value chunks rest → chunks ++ bits_of n rest ≡ shortest n value
collecting_ends n value chunks rest some lt c =
    sym (c.whole ∙ ap (λ (s : List Bool). chunks ++ s) (tail_last (n - 1) c.permitted rest lt ∙ sym (last_bits n rest some lt)))

-- ---- chunks that are added to a text

-- chunks of a value were added to a text, and at least one is permitted for its rest
pub record Spelling (n value : ℕ) (start now : List Bool) (rest : ℕ) : Type 0 where
  pub permitted : ℕ
  pub whole : start ++ shortest n value ≡ now ++ tail (n - 1) (suc permitted) rest
  pub below : rest < 2 ^ ((n - 1) * suc permitted)
  pub room : length now + 32 * suc permitted < 2 ^ 63

pub spelling_starts : (n value : ℕ) (start : List Bool) → 2 ≤ n → n ≤ 32 → value < 2 ^ 64 → length start < 2 ^ 62 → Spelling n value start start value
spelling_starts n value start some few below position =
    let is : chunk_limit (n - 1) ≡ suc (chunk_limit (n - 1) - 1) = limit_is (n - 1) (omega arith) in
    let enough : 64 ≤ (n - 1) * suc (chunk_limit (n - 1) - 1) = subst (λ k. 64 ≤ (n - 1) * k) is (limit_is_enough (n - 1) (omega arith)) in
    record {
      permitted = chunk_limit (n - 1) - 1;
      whole = ap (λ k. start ++ tail (n - 1) k value) is;
      below = omega (arith, below, pow_mono enough);
      room = omega (arith, position, limit_is_small (n - 1) (omega arith), is);
    }

pub spelling_goes_on : (n value : ℕ) (start now next : List Bool) (rest : ℕ) → 2 ≤ n → n ≤ 32 → 2 ^ (n - 1) ≤ rest → Spelling n value start now rest → next ≡ now ++ bits_of n (chunk n rest) → Spelling n value start next (rest / 2 ^ (n - 1))
spelling_goes_on n value start now next rest some few le c next_is =
    let k = another (n - 1) c.permitted rest le c.below in
    let others : List Bool = tail (n - 1) (suc k.0) (rest / 2 ^ (n - 1)) in
    let len : length next ≡ length now + n = ap length next_is ∙ length-append now (bits_of n (chunk n rest)) ∙ ap (λ i. length now + i) (length-bits_of n (chunk n rest)) in
    record {
      permitted = k.0;
      whole =
          c.whole
          ∙ ap (λ (s : List Bool). now ++ s) (ap (λ k. tail (n - 1) (suc k) rest) k.1 ∙ tail_more (n - 1) k.0 rest le ∙ ap (λ (s : List Bool). s ++ others) (sym (chunk_bits n rest some few)))
          ∙ sym (append_assoc now (bits_of n (chunk n rest)) others)
          ∙ ap (λ (s : List Bool). s ++ others) (sym next_is);
      below = shr_lt ((n - 1) * suc k.0) (n - 1) (next_chunk (n - 1) c.permitted k.0 rest k.1 c.below);
      room = omega (arith, c.room, k.1, len);
    }

pub spelling_ends : (n value : ℕ) (start now : List Bool) (rest : ℕ) → 2 ≤ n → rest < 2 ^ (n - 1) → Spelling n value start now rest → now ++ bits_of n rest ≡ start ++ shortest n value
spelling_ends n value start now rest some lt c =
    sym (c.whole ∙ ap (λ (s : List Bool). now ++ s) (tail_last (n - 1) c.permitted rest lt ∙ sym (last_bits n rest some lt)))

-- ---- numbers of one chunk of six bits, or two

one_chunk : (value more word : ℕ) → value < 32 → more ≡ (value + 992) / 1024 → word ≡ value + 32 * (value / 32 + more) → (more ≡ 0) × (word ≡ value)
one_chunk value more word lt more_is word_is = (omega (arith, lt, more_is), omega (arith, lt, more_is, word_is))

two_chunks : (value more word : ℕ) → value < 1024 → 32 ≤ value → more ≡ (value + 992) / 1024 → word ≡ value + 32 * (value / 32 + more) → (more ≡ 1) × (word ≡ value % 32 + 32 + (value / 32) * 64)
two_chunks value more word few le more_is word_is = (omega (arith, few, le, more_is), omega (arith, few, le, more_is, word_is))

pub short_below : (value more word : ℕ) → value < 1024 → more ≡ (value + 992) / 1024 → word ≡ value + 32 * (value / 32 + more) → word < 2 ^ (6 + 6 * more)
short_below value more word few more_is word_is = elim (cases_lt value 32) [ inl lt ↦ one lt | inr le ↦ two le ]
  where
    one : value < 32 → word < 2 ^ (6 + 6 * more)
    one lt = let e = one_chunk value more word lt more_is word_is in subst (λ (k : ℕ). word < 2 ^ (6 + 6 * k)) (sym e.0) (omega (arith, e.1, lt))

    two : 32 ≤ value → word < 2 ^ (6 + 6 * more)
    two le = let e = two_chunks value more word few le more_is word_is in subst (λ (k : ℕ). word < 2 ^ (6 + 6 * k)) (sym e.0) (omega (arith, e.1, few))

pub short_spelled : (value more word : ℕ) → value < 1024 → more ≡ (value + 992) / 1024 → word ≡ value + 32 * (value / 32 + more) → bits_of (6 + 6 * more) word ≡ shortest 6 value
short_spelled value more word few more_is word_is = elim (cases_lt value 32) [ inl lt ↦ one lt | inr le ↦ two le ]
  where
    starts : Spelling 6 value [] [] value
    starts = spelling_starts 6 value [] (omega arith) (omega arith) (omega (arith, few)) (omega arith)

    one : value < 32 → bits_of (6 + 6 * more) word ≡ shortest 6 value
    one lt =
        let e = one_chunk value more word lt more_is word_is in
        ap (λ (k : ℕ). bits_of (6 + 6 * k) word) e.0 ∙ ap (bits_of 6) e.1 ∙ spelling_ends 6 value [] [] value (omega arith) lt starts

    two : 32 ≤ value → bits_of (6 + 6 * more) word ≡ shortest 6 value
    two le =
        let e = two_chunks value more word few le more_is word_is in
        let low : value % 32 + 32 < 64 = omega arith in
        let first : chunk 6 value ≡ value % 32 + 32 = chunk_is 6 value (omega arith) ∙ omega arith in
        let goes : Spelling 6 value [] (bits_of 6 (chunk 6 value)) (value / 32) = spelling_goes_on 6 value [] [] (bits_of 6 (chunk 6 value)) value (omega arith) (omega arith) le starts refl in
        ap (λ (k : ℕ). bits_of (6 + 6 * k) word) e.0
        ∙ ap (bits_of 12) e.1
        ∙ bits_of-above 6 6 (value % 32 + 32) (value / 32) low
        ∙ ap (λ (k : ℕ). bits_of 6 k ++ bits_of 6 (value / 32)) (sym first)
        ∙ spelling_ends 6 value [] (bits_of 6 (chunk 6 value)) (value / 32) (omega arith) (omega (arith, few)) goes

-- what comes in a record before its values, of a code and a count in one chunk each
pub front_spelled : (code count word : ℕ) → code < 32 → count < 32 → word ≡ 3 + 4 * (code + 64 * count) → bits_of 14 word ≡ bits_of 2 3 ++ (shortest 6 code ++ shortest 6 count)
front_spelled code count word few also is =
    let all : word ≡ 3 + (code + 64 * count) * 2 ^ 2 = omega (arith, is) in
    let both : code + 64 * count ≡ code + count * 2 ^ 6 = omega arith in
    ap (bits_of 14) all
    ∙ bits_of-above 2 12 3 (code + 64 * count) (omega arith)
    ∙ ap (λ (k : ℕ). bits_of 2 3 ++ bits_of 12 k) both
    ∙ ap (λ (s : List Bool). bits_of 2 3 ++ s) (bits_of-above 6 6 code count (omega (arith, few)) ∙ ap (λ (s : List Bool). s ++ bits_of 6 count) (alone code few) ∙ ap (λ (s : List Bool). shortest 6 code ++ s) (alone count also))
  where
    alone : (v : ℕ) → v < 32 → bits_of 6 v ≡ shortest 6 v
    alone v lt = short_spelled v 0 v (omega (arith, lt)) (omega (arith, lt)) (omega (arith, lt))

-- ---- numbers of more than two chunks of six bits

one_more : (payload rest : ℕ) → rest < 2 ^ (payload * 1) → rest < 2 ^ payload
one_more payload rest lt = let e : payload * 1 ≡ payload = omega arith in rw e at lt

-- how many chunks are permitted does not matter, if they are enough
tail_same : (payload p q rest : ℕ) → rest < 2 ^ (payload * suc p) → rest < 2 ^ (payload * suc q) → tail payload (suc p) rest ≡ tail payload (suc q) rest
tail_same payload zero q rest lt also = tail_last payload 0 rest (one_more payload rest lt) ∙ sym (tail_last payload q rest (one_more payload rest lt))
tail_same payload (suc p) zero rest lt also = tail_last payload (suc p) rest (one_more payload rest also) ∙ sym (tail_last payload 0 rest (one_more payload rest also))
tail_same payload (suc p) (suc q) rest lt also = elim (cases_lt rest (2 ^ payload)) [
  | inl one ↦ tail_last payload (suc p) rest one ∙ sym (tail_last payload (suc q) rest one)
  | inr le ↦
      tail_more payload p rest le
      ∙ ap (λ (s : List Bool). (bits_of payload rest ++ true ∷ []) ++ s) (tail_same payload p q (rest / 2 ^ payload) (shr_lt (payload * suc p) payload (next_chunk payload (suc p) p rest refl lt)) (shr_lt (payload * suc q) payload (next_chunk payload (suc q) q rest refl also)))
      ∙ sym (tail_more payload q rest le)
]

-- a chunk with others after it
six_more : (value : ℕ) → 32 ≤ value → value < 2 ^ 64 → shortest 6 value ≡ bits_of 6 (chunk 6 value) ++ shortest 6 (value / 32)
six_more value le below =
    let rest : value / 2 ^ 5 < 2 ^ 59 = shr_lt 59 5 below in
    tail_more 5 11 value le
    ∙ ap (λ (s : List Bool). s ++ tail 5 12 (value / 32)) (sym (chunk_bits 6 value (omega arith) (omega arith)))
    ∙ ap (λ (s : List Bool). bits_of 6 (chunk 6 value) ++ s) (tail_same 5 11 12 (value / 32) (omega (arith, rest)) (omega (arith, rest)))

-- two chunks with others after them
pub two_spelled : (value word : ℕ) → 1024 ≤ value → value < 2 ^ 64 → word ≡ value % 32 + 64 * (value / 32 % 32) + 2080 → bits_of 12 word ++ shortest 6 (value / 1024) ≡ shortest 6 value
two_spelled value word some below word_is =
    let low : chunk 6 value ≡ value % 32 + 32 = chunk_is 6 value (omega arith) ∙ omega arith in
    let high : chunk 6 (value / 32) ≡ value / 32 % 32 + 32 = chunk_is 6 (value / 32) (omega arith) ∙ omega arith in
    let word_of : word ≡ chunk 6 value + chunk 6 (value / 32) * 2 ^ 6 = omega (arith, word_is, low, high) in
    let few : chunk 6 value < 2 ^ 6 = omega (arith, low) in
    let others : value / 32 / 32 ≡ value / 1024 = omega arith in
    ap (λ (s : List Bool). s ++ shortest 6 (value / 1024)) (ap (bits_of 12) word_of ∙ bits_of-above 6 6 (chunk 6 value) (chunk 6 (value / 32)) few)
    ∙ append_assoc (bits_of 6 (chunk 6 value)) (bits_of 6 (chunk 6 (value / 32))) (shortest 6 (value / 1024))
    ∙ ap (λ (k : ℕ). bits_of 6 (chunk 6 value) ++ (bits_of 6 (chunk 6 (value / 32)) ++ shortest 6 k)) (sym others)
    ∙ ap (λ (s : List Bool). bits_of 6 (chunk 6 value) ++ s) (sym (six_more (value / 32) (omega arith) (omega (arith, below))))
    ∙ sym (six_more value (omega arith) below)
