-- Numbers in chunks of six bits of a word, each in its shortest spelling.
use Rattle.std.proofs.Common.{◌≡◌, ℕ, zero, suc, ◌+◌, ◌*◌, ◌-◌, ◌/◌, ◌%◌, ◌^◌, ◌<◌, ◌≤◌, min, max, Bool, true, false, eqb, ltb, List, [], ◌∷◌, ◌++◌, length, take, drop, Ok, refl, sym, ap, ◌∙◌, subst, arith, append_assoc, bit_and, bit_or}
use Rattle.std.specs.List.{AllByRecursion}
use Rattle.std.specs.Int.{w64, bit_at}
use Rattle.std.proofs.lemmas.Bool.{lt-ltb, le-ltb}
use Rattle.std.proofs.lemmas.List.{take_at, drop_at, append-nil, length-append}
use Rattle.std.proofs.lemmas.Nat.{pow-add, shr-shr, and_block, and_mask, and_le_r, or_lt, one_shl, shl_whole}
use Rattle.std.proofs.lemmas.Nat.Bits.{bit_at_and, bit_at_or, bit_at_not, bit_at_ones, bit_at_cat_low, bit_at_cat_high, bit_at-zero}
use Rattle.bit_grammar.specs.Bits.{bit, number, bits_of}
use Rattle.bit_grammar.specs.Grammar.{repeat, Spells, reading}
use Rattle.bit_grammar.specs.Fields.{chunks, vbr}
use Rattle.bit_grammar.specs.FormatFields.{chunk_spelling, shortest_payloads, shortest}
use Rattle.bit_grammar.specs.Normal.{values_bits}
use Rattle.bit_grammar.proofs.Bits.Numbers.{number_below, length-bits_of}
use Rattle.bit_grammar.proofs.Readings.Deciding.{is_spelled, position-first}
use Rattle.bit_grammar.proofs.Readings.Sequences.{made}
use Rattle.bit_grammar.proofs.Words.Fields.{AreChunks, chunks_are, joined, length-chunked}
use Rattle.bit_fields.specs.SixBits.{NeedsAll, Shortest}
use Rattle.bit_fields.specs.SixEnds.{tops}
use Rattle.bit_fields.proofs.BitLaws.{number-bits_mod, take-bits_of, bits_of-split, bits_of-number, bits_of-mod}
use Rattle.bit_fields.proofs.SixBits.{any_after, length-front}

-- ---- payloads

-- the last payload is not 0, or it is the only one
abbrev pub Needed : List (List Bool) → Type 0
Needed [] = Unit {0}
Needed (x ∷ []) = Unit {0}
Needed (x ∷ y ∷ []) = number y ≡ 0 → ⊥
Needed (x ∷ y ∷ z ∷ xs) = Needed (y ∷ z ∷ xs)

needed_later : (x y : List Bool) (xs : List (List Bool)) → Needed (x ∷ y ∷ xs) → Needed (y ∷ xs)
needed_later x y [] h = tt
needed_later x y (z ∷ xs) h = h

-- more than one chunk spell a greater number than one chunk can
above_one : (x y : List Bool) (xs : List (List Bool)) → Needed (x ∷ y ∷ xs) → joined 5 (y ∷ xs) ≡ 0 → ⊥
above_one x y [] h none = h (omega (arith, none))
above_one x y (z ∷ xs) h none = above_one y z xs h (omega (arith, none))

five_bits : (x : List Bool) (v high : ℕ) → length x ≡ 5 → v ≡ number x + 2 ^ 5 * high → (bits_of 5 v ≡ x) × (v / 2 ^ 5 ≡ high)
five_bits x v high five is =
    let below : number x < 2 ^ 5 = subst (λ (k : ℕ). number x < 2 ^ k) five (number_below x) in
    let low : v % 2 ^ 5 ≡ number x = omega (arith, is, below) in
    (sym (bits_of-mod 5 v) ∙ ap (bits_of 5) low ∙ ap (λ (k : ℕ). bits_of k (number x)) (sym five) ∙ bits_of-number x, omega (arith, is, below))

payloads_are : (permitted v : ℕ) (xs : List (List Bool)) → AllByRecursion (λ x. length x ≡ 5) xs → 1 ≤ length xs → length xs ≤ permitted → v ≡ joined 5 xs → Needed xs → shortest_payloads 5 permitted v ≡ xs
payloads_are permitted v [] wide some few is needed = absurd (omega (arith, some))
payloads_are zero v (x ∷ xs) wide some few is needed = absurd (omega (arith, few))
payloads_are (suc permitted) v (x ∷ []) wide some few is needed =
    let below : number x < 2 ^ 5 = subst (λ (k : ℕ). number x < 2 ^ k) wide.0 (number_below x) in
    let one : ltb v (2 ^ 5) ≡ true = lt-ltb v (2 ^ 5) (omega (arith, is, below)) in
    rw one (ap (λ (y : List Bool). y ∷ []) (five_bits x v 0 wide.0 is).0)
payloads_are (suc permitted) v (x ∷ y ∷ xs) wide some few is needed =
    let high = above_one x y xs needed in
    let parts = five_bits x v (joined 5 (y ∷ xs)) wide.0 is in
    let more : ltb v (2 ^ 5) ≡ false = le-ltb v (2 ^ 5) (great (joined 5 (y ∷ xs)) high is) in
    let later = payloads_are permitted (v / 2 ^ 5) (y ∷ xs) wide.1 (omega arith) (omega (arith, few)) parts.1 (needed_later x y xs needed) in
    rw (more, parts.0, later) refl
  where
    great : (high : ℕ) → (high ≡ 0 → ⊥) → v ≡ number x + 2 ^ 5 * high → 2 ^ 5 ≤ v
    great zero some is = absurd (some refl)
    great (suc high) some is = omega (arith, is)

-- ---- the chunks of a word

-- a chunk that ends a number after another chunk is not 0, in the first bits of a word
abbrev pub Full : (word bits : ℕ) → Type 0
Full word bits = (i : ℕ) → 6 * i + 12 ≤ bits → word / 2 ^ (6 * i + 5) % 2 ≡ 1 → word / 2 ^ (6 * i + 11) % 2 ≡ 0 → word / 2 ^ (6 * i + 6) % 2 ^ 5 ≡ 0 → ⊥

full_later : (word bits : ℕ) → Full word (6 + bits) → Full (word / 2 ^ 6) bits
full_later word bits full = λ i within on off none. full (suc i) (omega (arith, within)) (moved i 5 (λ x. x % 2 ≡ 1) on) (moved i 11 (λ x. x % 2 ≡ 0) off) (moved i 6 (λ x. x % 2 ^ 5 ≡ 0) none)
  where
    moved : (i place : ℕ) (P : ℕ → Type 0) → P (word / 2 ^ 6 / 2 ^ (6 * i + place)) → P (word / 2 ^ (6 * suc i + place))
    moved i place P h = let e : 6 + (6 * i + place) ≡ 6 * suc i + place = omega arith in subst P (shr-shr word 6 (6 * i + place) ∙ ap (λ (k : ℕ). word / 2 ^ k) e) h

bit-eqb_one : (r : ℕ) → r < 2 → bit (eqb r 1) ≡ r
bit-eqb_one zero lt = refl
bit-eqb_one (suc zero) lt = refl
bit-eqb_one (suc (suc r)) lt = absurd (omega (arith, lt))

-- a chunk of a word
record Chunk (word more : ℕ) (x : List Bool) (top : Bool) (others : List Bool) : Type 0 where
  pub payload : number x ≡ word % 2 ^ 5
  pub goes_on : word / 2 ^ 5 % 2 ≡ bit top
  pub behind : bits_of more (word / 2 ^ 6) ≡ others

same_tail : (a b : Bool) (s t : List Bool) → a ∷ s ≡ b ∷ t → (a ≡ b) × (s ≡ t)
same_tail a b s t e = (cc, cc)

chunk_of : (n more word : ℕ) (x : List Bool) (top : Bool) (others : List Bool) → n ≡ 6 + more → length x ≡ 5 → bits_of n word ≡ x ++ top ∷ others → Chunk word more x top others
chunk_of n more word x top others n_is five is =
    let e : n ≡ 5 + suc more = omega (arith, n_is) in
    let both : bits_of 5 word ++ bits_of (suc more) (word / 2 ^ 5) ≡ x ++ top ∷ others = sym (bits_of-split 5 (suc more) word) ∙ ap (λ (k : ℕ). bits_of k word) (sym e) ∙ is in
    let low : bits_of 5 word ≡ x = sym (take_at (bits_of 5 word) (bits_of (suc more) (word / 2 ^ 5)) 5 (length-bits_of 5 word)) ∙ ap (take 5) both ∙ take_at x (top ∷ others) 5 five in
    let high : bits_of (suc more) (word / 2 ^ 5) ≡ top ∷ others = sym (drop_at (bits_of 5 word) (bits_of (suc more) (word / 2 ^ 5)) 5 (length-bits_of 5 word)) ∙ ap (drop 5) both ∙ drop_at x (top ∷ others) 5 five in
    let parts = same_tail (eqb (word / 2 ^ 5 % 2) 1) top (bits_of more (word / 2 ^ 5 / 2)) others high in
    record {
      payload = ap number (sym low) ∙ number-bits_mod 5 word;
      goes_on = sym (bit-eqb_one (word / 2 ^ 5 % 2) (omega arith)) ∙ ap bit parts.0;
      behind = ap (bits_of more) (sym (shr-shr word 5 1)) ∙ parts.1;
    }

-- what follows a number in a word
record Rest (others : List Bool) (more : ℕ) : Type 0 where
  pub word : ℕ
  pub bits : bits_of more word ≡ others
  pub full : Full word more

-- the second chunk is the last
second_needed : (word more : ℕ) (x y others : List Bool) → Chunk word (6 + more) x true (y ++ false ∷ others) → length y ≡ 5 → Full word (6 + (6 + more)) → number y ≡ 0 → ⊥
second_needed word more x y others first five full none =
    let second = chunk_of (6 + more) more (word / 2 ^ 6) y false others refl five first.behind in
    full 0 (omega arith) first.goes_on (ap (λ (v : ℕ). v % 2) (sym (shr-shr word 6 5)) ∙ second.goes_on) (sym second.payload ∙ none)

rest_of : (xs : List (List Bool)) (n more word : ℕ) (others : List Bool) → AllByRecursion (λ x. length x ≡ 5) xs → 1 ≤ length xs → n ≡ 6 * length xs + more → bits_of n word ≡ chunk_spelling xs ++ others → Full word n → Rest others more × Needed xs
rest_of [] n more word others wide some n_is is full = absurd (omega (arith, some))
rest_of (x ∷ []) n more word others wide some n_is is full =
    let e : n ≡ 6 + more = omega (arith, n_is) in
    let c = chunk_of n more word x false others e wide.0 (is ∙ append_assoc x (false ∷ []) others) in
    (record { word = word / 2 ^ 6; bits = c.behind; full = full_later word more (subst (Full word) e full) }, tt)
rest_of (x ∷ y ∷ []) n more word others wide some n_is is full =
    let e : n ≡ 6 + (6 + more) = omega (arith, n_is) in
    let c = chunk_of n (6 + more) word x true ((y ++ false ∷ []) ++ others) e wide.0 (is ∙ append_assoc x (true ∷ (y ++ false ∷ [])) others) in
    let later = rest_of (y ∷ []) (6 + more) more (word / 2 ^ 6) others wide.1 (omega arith) (omega arith) c.behind (full_later word (6 + more) (subst (Full word) e full)) in
    let alone : Chunk word (6 + more) x true (y ++ false ∷ others) = record { payload = c.payload; goes_on = c.goes_on; behind = c.behind ∙ append_assoc y (false ∷ []) others } in
    (later.0, second_needed word more x y others alone wide.1.0 (subst (Full word) e full))
rest_of (x ∷ y ∷ z ∷ xs) n more word others wide some n_is is full =
    let left : ℕ = 6 * length (y ∷ z ∷ xs) + more in
    let e : n ≡ 6 + left = omega (arith, n_is) in
    let c = chunk_of n left word x true (chunk_spelling (y ∷ z ∷ xs) ++ others) e wide.0 (is ∙ append_assoc x (true ∷ chunk_spelling (y ∷ z ∷ xs)) others) in
    rest_of (y ∷ z ∷ xs) left more (word / 2 ^ 6) others wide.1 (omega arith) refl c.behind (full_later word left (subst (Full word) e full))

-- ---- numbers

chunks_of_number : (p : ℕ) (s : List Bool) (v : ℕ) → Spells (vbr 6) p s v → AreChunks 5 13 64 v s
unfolding vbr
chunks_of_number p s v h = chunks_are 5 p 13 64 p s v (position-first (λ start. chunks 5 start 13 64) p s v h)

number_is : (v : ℕ) (s : List Bool) (c : AreChunks 5 13 64 v s) → Needed c.payloads → shortest 6 v ≡ s
number_is v s c needed = ap chunk_spelling (payloads_are 13 v c.payloads c.wide c.some c.few c.value needed) ∙ sym c.bits

-- the number is at least the worth of its last chunk, which is not 0 then
needed_great : (xs : List (List Bool)) → AllByRecursion (λ x. length x ≡ 5) xs → (2 ≤ length xs → 2 ^ (5 * (length xs - 1)) ≤ joined 5 xs) → Needed xs
needed_great [] wide great = tt
needed_great (x ∷ []) wide great = tt
needed_great (x ∷ y ∷ []) wide great = λ none. (
    let below : number x < 2 ^ 5 = subst (λ (k : ℕ). number x < 2 ^ k) wide.0 (number_below x) in
    omega (arith, great (omega arith), below, none)
    )
needed_great (x ∷ y ∷ z ∷ xs) wide great = needed_great (y ∷ z ∷ xs) wide.1 (λ two. (
    let below : number x < 2 ^ 5 = subst (λ (k : ℕ). number x < 2 ^ k) wide.0 (number_below x) in
    let places : 5 * (length (x ∷ y ∷ z ∷ xs) - 1) ≡ 5 + 5 * (length (y ∷ z ∷ xs) - 1) = omega arith in
    let power = ap (λ (k : ℕ). 2 ^ k) places ∙ pow-add 2 5 (5 * (length (y ∷ z ∷ xs) - 1)) in
    omega (arith, great (omega arith), power, below)
    ))

-- a number that needs all of its chunks is in its shortest spelling
pub needs_shortest : (p v bits : ℕ) (s : List Bool) → Spells (vbr 6) p s v → length s ≡ bits → NeedsAll v bits → shortest 6 v ≡ s
needs_shortest p v bits s h len needs =
    let c = chunks_of_number p s v h in
    let long : bits ≡ 6 * length c.payloads = sym len ∙ ap length c.bits ∙ length-chunked 5 c.payloads c.wide in
    let last : bits / 6 - 1 ≡ length c.payloads - 1 = omega (arith, long) in
    number_is v s c (needed_great c.payloads c.wide (λ two. subst (λ (n : ℕ). 2 ^ (5 * n) ≤ joined 5 c.payloads) last (subst (λ (n : ℕ). 2 ^ (5 * (bits / 6 - 1)) ≤ n) c.value (needs (omega (arith, long, two))))))

values_are : (count p n word : ℕ) (s : List Bool) (vs : List ℕ) → Spells (repeat count (vbr 6)) p s vs → bits_of n word ≡ s → Full word n → values_bits vs ≡ s
values_are zero p n word s vs h is full = ap values_bits h.1 ∙ sym h.0
values_are (suc count) p n word s vs h is full =
    let m = made (repeat count (vbr 6)) (λ xs. h.2 ∷ xs) (p + length h.0) h.1 vs h.5 in
    let c = chunks_of_number p h.0 h.2 h.4 in
    let parts : bits_of n word ≡ chunk_spelling c.payloads ++ h.1 = is ∙ h.3 ∙ ap (λ (t : List Bool). t ++ h.1) c.bits in
    let long : n ≡ 6 * length c.payloads + length h.1 = omega (arith, length-bits_of n word, ap length parts, length-append (chunk_spelling c.payloads) h.1, length-chunked 5 c.payloads c.wide) in
    let r = rest_of c.payloads n (length h.1) word h.1 c.wide c.some long parts full in
    let later = values_are count (p + length h.0) (length h.1) r.0.word h.1 m.0 m.1 r.0.bits r.0.full in
    ap values_bits m.2 ∙ ap (λ (t : List Bool). t ++ values_bits m.0) (number_is h.2 h.0 c r.1) ∙ ap (λ (t : List Bool). h.0 ++ t) later ∙ sym h.3

pub full_shortest : (word bits : ℕ) → bits ≤ 54 → Full word bits → Shortest word bits
unfolding Shortest
full_shortest word bits most full = λ count first values e.
    let s : List Bool = take bits (bits_of 54 word) in
    let found = is_spelled (repeat count (vbr 6)) first s values (first + bits) [] e in
    let whole : found.0 ≡ s = sym (found.1 ∙ append-nil found.0) in
    values_are count first bits word s values (subst (λ (t : List Bool). Spells (repeat count (vbr 6)) first t values) whole found.3) (sym (take-bits_of bits 54 word most)) full

-- numbers in their shortest spelling, whatever follows them
pub front_bits : (word count bits first : ℕ) (rest : List Bool) (values : List ℕ) → bits ≤ 54 → reading (repeat count (vbr 6)) first (take bits (bits_of 54 word) ++ rest) ≡ Ok (values, first + bits, rest) → Shortest word bits → values_bits values ≡ take bits (bits_of 54 word)
unfolding Shortest
front_bits word count bits first rest values most e forms =
    let front : List Bool = take bits (bits_of 54 word) in
    forms count first values (ap (reading (repeat count (vbr 6)) first) (sym (append-nil front)) ∙ any_after (repeat count (vbr 6)) first bits front rest values (length-front word bits most) e [])

-- ---- as the code finds it

-- the payload of each of k chunks
abbrev pub payloads : ℕ → ℕ
payloads zero = 0
payloads (suc k) = payloads k * 64 + 31

tops_set : (k i : ℕ) → i < k → bit_at (tops k) (6 * i + 5) ≡ 1
tops_set zero i lt = absurd (omega (arith, lt))
tops_set (suc k) zero lt = bit_at_cat_low (tops k) 6 32 5 (omega arith)
tops_set (suc k) (suc i) lt =
    let e : 6 * suc i + 5 - 6 ≡ 6 * i + 5 = omega arith in
    bit_at_cat_high (tops k) 6 32 (6 * suc i + 5) (omega arith) (omega arith) ∙ ap (bit_at (tops k)) e ∙ tops_set k i (omega (arith, lt))

-- a payload and all ones, above a chunk
worth_apart : (k word : ℕ) → bit_and word (payloads (suc k)) + payloads (suc k) ≡ (bit_and (word / 64) (payloads k) + payloads k) * 64 + (word % 2 ^ 5 + 31)
worth_apart k word =
    let parts : word ≡ word / 64 * 64 + word % 64 = omega arith in
    let low : word % 64 % 2 ^ 5 ≡ word % 2 ^ 5 = omega arith in
    ap (λ (x : ℕ). x + payloads (suc k)) (ap (λ (w : ℕ). bit_and w (payloads (suc k))) parts ∙ and_block 6 (word / 64) (payloads k) (word % 64) 31 (omega arith) (omega arith) ∙ ap (λ (x : ℕ). bit_and (word / 64) (payloads k) * 64 + x) (and_mask (word % 64) 5 ∙ low))
    ∙ regroup (bit_and (word / 64) (payloads k)) (payloads k) (word % 2 ^ 5)
  where
    regroup : (a p low : ℕ) → a * 64 + low + (p * 64 + 31) ≡ (a + p) * 64 + (low + 31)
    regroup a p low = omega arith

-- a payload of 0 and all ones carry nothing into the top bit
worth_none : (k i word : ℕ) → i < k → word / 2 ^ (6 * i) % 2 ^ 5 ≡ 0 → bit_at (bit_and word (payloads k) + payloads k) (6 * i + 5) ≡ 0
worth_none zero i word lt none = absurd (omega (arith, lt))
worth_none (suc k) zero word lt none =
    let low : word % 2 ^ 5 + 31 ≡ 31 = omega (arith, none) in
    ap (λ (x : ℕ). bit_at x 5) (worth_apart k word) ∙ bit_at_cat_low (bit_and (word / 64) (payloads k) + payloads k) 6 (word % 2 ^ 5 + 31) 5 (omega arith) ∙ ap (λ (x : ℕ). bit_at x 5) low
worth_none (suc k) (suc i) word lt none =
    let e : 6 * suc i + 5 - 6 ≡ 6 * i + 5 = omega arith in
    let place : 6 + 6 * i ≡ 6 * suc i = omega arith in
    let later : word / 64 / 2 ^ (6 * i) % 2 ^ 5 ≡ 0 = ap (λ (x : ℕ). x % 2 ^ 5) (shr-shr word 6 (6 * i) ∙ ap (λ (n : ℕ). word / 2 ^ n) place) ∙ none in
    ap (λ (x : ℕ). bit_at x (6 * suc i + 5)) (worth_apart k word) ∙ bit_at_cat_high (bit_and (word / 64) (payloads k) + payloads k) 6 (word % 2 ^ 5 + 31) (6 * suc i + 5) (omega arith) (omega arith) ∙ ap (bit_at (bit_and (word / 64) (payloads k) + payloads k)) e ∙ worth_none k i (word / 64) (omega (arith, lt)) later

-- the top bit of a chunk after one that goes on
later_set : (word i : ℕ) → i < 9 → word / 2 ^ (6 * i + 5) % 2 ≡ 1 → bit_at (bit_and word (tops 9) * 2 ^ 6 % 2 ^ 64) (6 * i + 11) ≡ 1
later_set word i lt on =
    let marks : ℕ = bit_and word (tops 9) in
    let below : marks < 2 ^ 54 = omega (arith, and_le_r word (tops 9)) in
    let whole : marks * 2 ^ 6 % 2 ^ 64 ≡ marks * 2 ^ 6 + 0 = shl_whole marks 54 6 64 below (omega arith) ∙ omega arith in
    let e : 6 * i + 11 - 6 ≡ 6 * i + 5 = omega arith in
    let set : bit_at marks (6 * i + 5) ≡ 1 = bit_at_and word (tops 9) (6 * i + 5) ∙ ap (λ (x : ℕ). min x (bit_at (tops 9) (6 * i + 5))) on ∙ ap (min 1) (tops_set 9 i lt) in
    ap (λ (x : ℕ). bit_at x (6 * i + 11)) whole ∙ bit_at_cat_high marks 6 0 (6 * i + 11) (omega arith) (omega arith) ∙ ap (bit_at marks) e ∙ set

-- neither the word nor the payloads have the top bit
neither_set : (word worth j : ℕ) → word < 2 ^ 64 → worth < 2 ^ 64 → j < 64 → bit_at word j ≡ 0 → bit_at worth j ≡ 0 → bit_at (2 ^ 64 - 1 - bit_or word worth) j ≡ 1
neither_set word worth j word_fits worth_fits lt off none =
    bit_at_not w64 (bit_or word worth) j (or_lt 64 word worth word_fits worth_fits) lt ∙ ap (λ (x : ℕ). 1 - x) (bit_at_or word worth j ∙ ap (λ (x : ℕ). max x (bit_at worth j)) off ∙ ap (max 0) none)

-- the code's terms
abbrev worth_in : (word : ℕ) → ℕ
worth_in word = bit_and word (payloads 9) + payloads 9

abbrev pub idle_in : (word bits : ℕ) → ℕ
idle_in word bits = bit_and (bit_and (bit_and word (tops 9) * 2 ^ 6 % 2 ^ 64) (2 ^ 64 - 1 - bit_or word (worth_in word))) (1 * 2 ^ bits % 2 ^ 64 - 1)

idle_set : (word bits i : ℕ) → word < 2 ^ 64 → bits ≤ 54 → 6 * i + 12 ≤ bits → word / 2 ^ (6 * i + 5) % 2 ≡ 1 → word / 2 ^ (6 * i + 11) % 2 ≡ 0 → word / 2 ^ (6 * i + 6) % 2 ^ 5 ≡ 0 → bit_at (idle_in word bits) (6 * i + 11) ≡ 1
idle_set word bits i fits most within on off none =
    let j : ℕ = 6 * i + 11 in
    let place : 6 * suc i + 5 ≡ 6 * i + 11 = omega arith in
    let start : 6 * i + 6 ≡ 6 * suc i = omega arith in
    let worth_fits : worth_in word < 2 ^ 64 = omega (arith, and_le_r word (payloads 9)) in
    let worth : bit_at (worth_in word) j ≡ 0 = ap (bit_at (worth_in word)) (sym place) ∙ worth_none 9 (suc i) word (omega (arith, within, most)) (ap (λ (n : ℕ). word / 2 ^ n % 2 ^ 5) (sym start) ∙ none) in
    let first : bit_at (bit_and word (tops 9) * 2 ^ 6 % 2 ^ 64) j ≡ 1 = later_set word i (omega (arith, within, most)) on in
    let second : bit_at (2 ^ 64 - 1 - bit_or word (worth_in word)) j ≡ 1 = neither_set word (worth_in word) j fits worth_fits (omega (arith, within, most)) off worth in
    let third : bit_at (1 * 2 ^ bits % 2 ^ 64 - 1) j ≡ 1 = ap (λ (x : ℕ). bit_at (x - 1) j) (one_shl bits 64 (omega (arith, most))) ∙ bit_at_ones bits j (omega (arith, within)) in
    bit_at_and (bit_and (bit_and word (tops 9) * 2 ^ 6 % 2 ^ 64) (2 ^ 64 - 1 - bit_or word (worth_in word))) (1 * 2 ^ bits % 2 ^ 64 - 1) j
    ∙ ap (λ (x : ℕ). min x (bit_at (1 * 2 ^ bits % 2 ^ 64 - 1) j)) (bit_at_and (bit_and word (tops 9) * 2 ^ 6 % 2 ^ 64) (2 ^ 64 - 1 - bit_or word (worth_in word)) j ∙ ap (λ (x : ℕ). min x (bit_at (2 ^ 64 - 1 - bit_or word (worth_in word)) j)) first ∙ ap (min 1) second)
    ∙ ap (min 1) third

pub none_idle : (word bits : ℕ) → word < 2 ^ 64 → bits ≤ 54 → idle_in word bits ≡ 0 → Shortest word bits
none_idle word bits fits most none = full_shortest word bits most (λ i within on off empty. zero_bit (6 * i + 11) (sym (ap (λ (x : ℕ). bit_at x (6 * i + 11)) none) ∙ idle_set word bits i fits most within on off empty))
  where
    zero_bit : (j : ℕ) → bit_at 0 j ≡ 1 → ⊥
    zero_bit j set = omega (arith, set, bit_at-zero j)
