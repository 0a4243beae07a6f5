-- The last chunk of a number in chunks of six bits: if its payload is not 0, the number needs all of its chunks.
use Rattle.std.proofs.Common.{◌≡◌, ℕ, zero, suc, ◌+◌, ◌*◌, ◌-◌, ◌/◌, ◌^◌, ◌<◌, ◌≤◌, Bool, true, false, List, [], ◌∷◌, ◌++◌, length, take, drop, Result, Ok, Err, refl, sym, ap, ◌∙◌, subst, arith, append_assoc}
use Rattle.std.specs.List.{AllByRecursion}
use Rattle.std.proofs.lemmas.List.{take_at, drop_at, length-append}
use Rattle.std.proofs.lemmas.Nat.{pow-add}
use Rattle.bit_grammar.specs.Bits.{number, bits_of}
use Rattle.bit_grammar.specs.Grammar.{Fault, reading}
use Rattle.bit_grammar.specs.Fields.{chunks, vbr}
use Rattle.bit_grammar.specs.FormatFields.{chunk_spelling}
use Rattle.bit_grammar.proofs.Bits.Numbers.{number-bits_of}
use Rattle.bit_grammar.proofs.Readings.Deciding.{position-first}
use Rattle.bit_grammar.proofs.Words.Fields.{chunks_are, joined, length-chunked}
use Rattle.bit_fields.specs.Buffered.{BufferedBits, Reads, beyond}
use Rattle.bit_fields.specs.Placed.{HasNumbers}
use Rattle.bit_fields.specs.SixBits.{NeedsAll}
use Rattle.bit_fields.proofs.BitLaws.{drop_more}
use Rattle.bit_fields.proofs.BufferedReads.{reads_passed}

-- ---- payloads

-- the bits after the first chunk
behind_chunk : (m : ℕ) (x s rest : List Bool) → length x ≡ 5 → drop (6 + m) ((x ++ true ∷ s) ++ rest) ≡ drop m (s ++ rest)
behind_chunk m x s rest five =
    let parts : (x ++ true ∷ s) ++ rest ≡ (x ++ true ∷ []) ++ (s ++ rest) = ap (λ (t : List Bool). t ++ rest) (sym (append_assoc x (true ∷ []) s)) ∙ append_assoc (x ++ true ∷ []) s rest in
    sym (drop_more 6 m ((x ++ true ∷ s) ++ rest)) ∙ ap (λ (t : List Bool). drop m (drop 6 t)) parts ∙ ap (drop m) (drop_at (x ++ true ∷ []) (s ++ rest) 6 (omega (arith, length-append x (true ∷ []), five)))

-- the number is at least the worth of its last chunk
last_worth : (xs : List (List Bool)) (n : ℕ) (rest : List Bool) → AllByRecursion (λ x. length x ≡ 5) xs → 1 ≤ length xs → n ≡ 6 * (length xs - 1) → (number (take 5 (drop n (chunk_spelling xs ++ rest))) ≡ 0 → ⊥) → 2 ^ (5 * (length xs - 1)) ≤ joined 5 xs
last_worth [] n rest wide some n_is full = absurd (omega (arith, some))
last_worth (x ∷ []) n rest wide some n_is full = positive (number x) (λ none. full (ap number payload ∙ none))
  where
    payload : take 5 (drop n ((x ++ false ∷ []) ++ rest)) ≡ x
    payload = let first : n ≡ 0 = omega (arith, n_is) in ap (λ (k : ℕ). take 5 (drop k ((x ++ false ∷ []) ++ rest))) first ∙ ap (take 5) (append_assoc x (false ∷ []) rest) ∙ take_at x (false ∷ rest) 5 wide.0

    positive : (low : ℕ) → (low ≡ 0 → ⊥) → 1 ≤ low + 2 ^ 5 * 0
    positive zero not_zero = absurd (not_zero refl)
    positive (suc low) not_zero = omega arith
last_worth (x ∷ y ∷ xs) n rest wide some n_is full =
    let m : ℕ = 6 * (length (y ∷ xs) - 1) in
    let place : n ≡ 6 + m = omega (arith, n_is) in
    let behind : drop n ((x ++ true ∷ chunk_spelling (y ∷ xs)) ++ rest) ≡ drop m (chunk_spelling (y ∷ xs) ++ rest) = ap (λ (k : ℕ). drop k ((x ++ true ∷ chunk_spelling (y ∷ xs)) ++ rest)) place ∙ behind_chunk m x (chunk_spelling (y ∷ xs)) rest wide.0 in
    let later = last_worth (y ∷ xs) m rest wide.1 (omega arith) refl (λ none. full (ap (λ (t : List Bool). number (take 5 t)) behind ∙ none)) in
    let places : 5 * (length (x ∷ y ∷ xs) - 1) ≡ 5 + 5 * (length (y ∷ xs) - 1) = omega arith in
    let power = ap (λ (k : ℕ). 2 ^ k) places ∙ pow-add 2 5 (5 * (length (y ∷ xs) - 1)) in
    omega (arith, later, power)

-- ---- numbers

-- a number whose last chunk has a payload that is not 0 needs all of its chunks
pub last_needed : (value len : ℕ) (a : BufferedBits) → Reads (vbr 6) a value (beyond a len) → 6 < len → (number (take 5 (drop (len - 6) a.bits)) ≡ 0 → ⊥) → NeedsAll value len
unfolding vbr
last_needed value len a seen long full =
    let p = reads_passed (vbr 6) a value (beyond a len) seen in
    let c = chunks_are 5 a.position 13 64 a.position p.0 value (position-first (λ start. chunks 5 start 13 64) a.position p.0 value p.3) in
    let whole : len ≡ 6 * length c.payloads = omega (arith, p.2, ap length c.bits, length-chunked 5 c.payloads c.wide) in
    let bits : a.bits ≡ chunk_spelling c.payloads ++ drop len a.bits = p.1 ∙ ap (λ (s : List Bool). s ++ drop len a.bits) c.bits in
    let worth = last_worth c.payloads (len - 6) (drop len a.bits) c.wide c.some (omega (arith, whole)) (λ none. full (ap (λ (s : List Bool). number (take 5 (drop (len - 6) s))) bits ∙ none)) in
    let count : length c.payloads - 1 ≡ len / 6 - 1 = omega (arith, whole) in
    λ more. subst (λ (n : ℕ). 2 ^ (5 * n) ≤ value) count (subst (λ (v : ℕ). 2 ^ (5 * (length c.payloads - 1)) ≤ v) (sym c.value) worth)

-- one number was read
pub one_number : (len : ℕ) (a : BufferedBits) → HasNumbers 6 1 a len → (value : ℕ) × Reads (vbr 6) a value (beyond a len)
one_number len a h = go (reading (vbr 6) a.position a.bits) refl
  where
    same_ok : (x y : List ℕ × ℕ × List Bool) → ◌≡◌ {A = Result (List ℕ × ℕ × List Bool) Fault} (Ok x) (Ok y) → x ≡ y
    same_ok x y e = cc

    not_ok : (x : List ℕ × ℕ × List Bool) (fault : Fault) → ◌≡◌ {A = Result (List ℕ × ℕ × List Bool) Fault} (Err fault) (Ok x) → ⊥
    not_ok x fault e = cc

    go : (r : Result (ℕ × ℕ × List Bool) Fault) → reading (vbr 6) a.position a.bits ≡ r → (value : ℕ) × Reads (vbr 6) a value (beyond a len)
    go (Err fault) is = absurd (not_ok (h.1.0, a.position + len, drop len a.bits) fault (sym (rw is refl) ∙ h.1.2))
    go (Ok x) is =
        let same = same_ok (x.0 ∷ [], x.1, x.2) (h.1.0, a.position + len, drop len a.bits) (sym (rw is refl) ∙ h.1.2) in
        (x.0, is ∙ ap (λ (z : List ℕ × ℕ × List Bool). Ok (x.0, z.1, z.2)) same)

-- the payload of the last chunk was seen in a word
pub needs_its_last : (value len word : ℕ) (a b : BufferedBits) → Reads (vbr 6) a value (beyond a len) → 6 < len → b ≡ beyond a (len - 6) → bits_of 5 word ≡ take 5 b.bits → word < 2 ^ 5 → (word ≡ 0 → ⊥) → NeedsAll value len
needs_its_last value len word a b seen long b_is front below some =
    let payload : number (take 5 (drop (len - 6) a.bits)) ≡ word = ap (λ (x : BufferedBits). number (take 5 x.bits)) (sym b_is) ∙ ap number (sym front) ∙ number-bits_of 5 word below in
    last_needed value len a seen long (λ none. some (sym payload ∙ none))
