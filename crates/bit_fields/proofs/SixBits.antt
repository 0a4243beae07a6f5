-- Numbers in chunks of six bits, read from a word that shows which chunks end them.
use Rattle.std.proofs.Common.{◌≡◌, ℕ, zero, suc, ◌+◌, ◌*◌, ◌-◌, ◌/◌, ◌%◌, ◌^◌, ◌<◌, ◌≤◌, Bool, true, false, eqb, List, [], ◌∷◌, ◌++◌, length, take, drop, Ok, refl, sym, ap, ◌∙◌, subst, arith, append_assoc}
use Rattle.std.proofs.lemmas.Bool.{eqb-true, eqb-false}
use Rattle.std.proofs.lemmas.List.{drop_at, take_at, take-append-drop, length-take-le}
use Rattle.std.proofs.lemmas.Nat.{shr-shr}
use Rattle.bit_grammar.specs.Bits.{bits_of}
use Rattle.bit_grammar.specs.Grammar.{Grammar, repeat, reading}
use Rattle.bit_grammar.specs.Fields.{vbr}
use Rattle.bit_grammar.proofs.Bits.Numbers.{length-bits_of}
use Rattle.bit_grammar.proofs.Readings.Deciding.{reads, is_spelled}
use Rattle.bit_fields.specs.Short.{EndsChunks, payload_number}
use Rattle.bit_fields.specs.SixBits.{Begins}
use Rattle.bit_fields.specs.SixEnds.{Runs, lasts}
use Rattle.bit_fields.proofs.BitLaws.{window_rest, bits_of-split}
use Rattle.bit_fields.proofs.Short.{short_reads}

-- ---- the chunks that end a number

pub length-lasts : (k word : ℕ) → length (lasts k word) ≡ k
length-lasts zero word = refl
length-lasts (suc k) word = ap suc (length-lasts k (word / 64))

pub runs_within : (ends : List Bool) (count chunks : ℕ) → Runs ends count chunks → chunks ≤ length ends
runs_within ends count zero h = omega arith
runs_within [] count (suc chunks) h = absurd h
runs_within (true ∷ ends) count (suc chunks) h = omega (arith, runs_within ends h.0 chunks h.2)
runs_within (false ∷ ends) count (suc chunks) h = omega (arith, runs_within ends count chunks h.1)

-- each number has a chunk
pub runs_many : (ends : List Bool) (count chunks : ℕ) → Runs ends count chunks → count ≤ chunks
runs_many ends count zero h = omega (arith, h)
runs_many [] count (suc chunks) h = absurd h
runs_many (true ∷ ends) count (suc chunks) h = omega (arith, h.1, runs_many ends h.0 chunks h.2)
runs_many (false ∷ ends) count (suc chunks) h = omega (arith, runs_many ends count chunks h.1)

-- no numbers have no chunks
pub runs_none : (ends : List Bool) (count chunks : ℕ) → Runs ends count chunks → count ≡ 0 → chunks ≡ 0
runs_none ends count zero h none = refl
runs_none [] count (suc chunks) h none = absurd h
runs_none (true ∷ ends) count (suc chunks) h none = absurd (omega (arith, h.1, none))
runs_none (false ∷ ends) count (suc chunks) h none = absurd (omega (arith, h.0, runs_none ends count chunks h.1 none))

-- ---- the first number

-- the first number of chunks, and the others
record First (k word count chunks : ℕ) : Type 0 where
  pub first : ℕ
  pub others : ℕ
  pub left : ℕ
  pub more : ℕ
  pub count_is : count ≡ suc others
  pub chunks_are : chunks ≡ first + left
  pub some : 0 < first
  pub ends : EndsChunks 5 first word
  pub runs : Runs (lasts more (word / 2 ^ (6 * first))) others left

one_more : (first word : ℕ) → word / 2 ^ 5 % 2 ≡ 1 → 0 < first → EndsChunks 5 first (word / 2 ^ 6) → EndsChunks 5 (suc first) word
one_more zero word goes some ends = absurd ends
one_more (suc first) word goes some ends = (goes, ends)

goes_on : (word : ℕ) → eqb (word / 2 ^ 5 % 2) 0 ≡ false → word / 2 ^ 5 % 2 ≡ 1
goes_on word is = let some : word / 2 ^ 5 % 2 ≡ 0 → ⊥ = eqb-false (word / 2 ^ 5 % 2) 0 is in odd (word / 2 ^ 5) some
  where
    odd : (x : ℕ) → (x % 2 ≡ 0 → ⊥) → x % 2 ≡ 1
    odd x some = omega (arith, some)

behind_one : (k word count chunks : ℕ) → word / 2 ^ 5 % 2 ≡ 1 → First k (word / 2 ^ 6) count chunks → First (suc k) word count (suc chunks)
behind_one k word count chunks goes f =
    let place : 6 + 6 * f.first ≡ 6 * suc f.first = omega arith in
    let behind : word / 2 ^ 6 / 2 ^ (6 * f.first) ≡ word / 2 ^ (6 * suc f.first) = shr-shr word 6 (6 * f.first) ∙ ap (λ (i : ℕ). word / 2 ^ i) place in
    record {
      first = suc f.first;
      others = f.others;
      left = f.left;
      more = f.more;
      count_is = f.count_is;
      chunks_are = omega (arith, f.chunks_are);
      some = omega arith;
      ends = one_more f.first word goes f.some f.ends;
      runs = subst (λ (w : ℕ). Runs (lasts f.more w) f.others f.left) behind f.runs;
    }

by_top : (k word count chunks : ℕ) (last : Bool) → eqb (word / 2 ^ 5 % 2) 0 ≡ last → ((chunks : ℕ) → Runs (lasts k (word / 2 ^ 6)) count (suc chunks) → First k (word / 2 ^ 6) count (suc chunks)) → Runs (last ∷ lasts k (word / 2 ^ 6)) count (suc chunks) → First (suc k) word count (suc chunks)
by_top k word count chunks true is later h = record {
  first = 1;
  others = h.0;
  left = chunks;
  more = k;
  count_is = h.1;
  chunks_are = omega arith;
  some = omega arith;
  ends = eqb-true (word / 2 ^ 5 % 2) 0 is;
  runs = h.2;
}
by_top k word count zero false is later h = absurd (omega (arith, h.0))
by_top k word count (suc chunks) false is later h = behind_one k word count (suc chunks) (goes_on word is) (later chunks h.1)

first_number : (k word count chunks : ℕ) → Runs (lasts k word) count (suc chunks) → First k word count (suc chunks)
first_number zero word count chunks h = absurd h
first_number (suc k) word count chunks h = by_top k word count chunks (eqb (word / 2 ^ 5 % 2) 0) refl (λ chunks h. first_number k (word / 2 ^ 6) count chunks h) h

-- ---- what the rule reads

number_reads : (first chunks word p : ℕ) (rest : List Bool) → first ≤ chunks → first ≤ 12 → EndsChunks 5 first word
    → reading (vbr 6) p (bits_of (6 * chunks) word ++ rest) ≡ Ok (payload_number 5 first word, p + 6 * first, bits_of (6 * (chunks - first)) (word / 2 ^ (6 * first)) ++ rest)
unfolding vbr
number_reads first chunks word p rest few short ends =
    let read = short_reads first 5 p 13 64 (6 * chunks) word p rest ends (omega (arith, short)) (omega (arith, few)) (omega (arith, short)) in
    let turned : first * 6 ≡ 6 * first = omega arith in
    let held : 6 * chunks - 6 * first ≡ 6 * (chunks - first) = omega arith in
    let behind : drop (6 * first) (bits_of (6 * chunks) word) ≡ bits_of (6 * (chunks - first)) (word / 2 ^ (6 * first)) = sym (window_rest (6 * chunks) word (6 * first) (bits_of (6 * chunks) word) (omega (arith, few)) refl) ∙ ap (λ (n : ℕ). bits_of n (word / 2 ^ (6 * first))) held in
    read ∙ rw (turned, behind) refl

abbrev pub ReadsRun : (word count chunks p : ℕ) (rest : List Bool) → Type 0
ReadsRun word count chunks p rest = (values : List ℕ) × (length values ≡ count) × (reading (repeat count (vbr 6)) p (bits_of (6 * chunks) word ++ rest) ≡ Ok (values, p + 6 * chunks, rest))

one_before : (word others first left p : ℕ) (rest : List Bool) → first ≤ 12 → EndsChunks 5 first word → ReadsRun (word / 2 ^ (6 * first)) others left (p + 6 * first) rest → ReadsRun word (suc others) (first + left) p rest
one_before word others first left p rest short ends later =
    let one = number_reads first (first + left) word p rest (omega arith) short ends in
    let behind : first + left - first ≡ left = omega arith in
    let place : p + 6 * first + 6 * left ≡ p + 6 * (first + left) = omega arith in
    (payload_number 5 first word ∷ later.0, ap suc later.1, rw (one, behind, later.2, place) refl)

run_reads : (fuel k word count chunks p : ℕ) (rest : List Bool) → chunks ≤ fuel → chunks ≤ 9 → Runs (lasts k word) count chunks → ReadsRun word count chunks p rest
run_reads fuel k word count zero p rest few nine h =
    let place : p ≡ p + 6 * 0 = omega arith in
    subst (λ (n : ℕ). ReadsRun word n 0 p rest) (sym h) ([], refl, ap (λ (q : ℕ). Ok ([], q, rest)) place)
run_reads zero k word count (suc chunks) p rest few nine h = absurd (omega (arith, few))
run_reads (suc fuel) k word count (suc chunks) p rest few nine h =
    let f = first_number k word count chunks h in
    let later = run_reads fuel f.more (word / 2 ^ (6 * f.first)) f.others f.left (p + 6 * f.first) rest (omega (arith, f.chunks_are, f.some, few)) (omega (arith, f.chunks_are, nine)) f.runs in
    let all = one_before word f.others f.first f.left p rest (omega (arith, f.chunks_are, nine)) f.ends later in
    rw (f.count_is, f.chunks_are) all

-- ---- a number that begins before a word

-- the first chunks of a word go on
abbrev pub Opens : (count word : ℕ) → Type 0
Opens zero word = Unit {0}
Opens (suc count) word = (word / 2 ^ 5 % 2 ≡ 1) × Opens count (word / 2 ^ 6)

-- a word behind more of its chunks
pub behind_more : (word i j : ℕ) → word / 2 ^ (6 * i) / 2 ^ (6 * j) ≡ word / 2 ^ (6 * (i + j))
behind_more word i j = let e : 6 * i + 6 * j ≡ 6 * (i + j) = omega arith in shr-shr word (6 * i) (6 * j) ∙ ap (λ (n : ℕ). word / 2 ^ n) e

behind_next : (word begun : ℕ) → word / 2 ^ (6 * suc begun) ≡ word / 2 ^ 6 / 2 ^ (6 * begun)
behind_next word begun = let e : 6 * suc begun ≡ 6 + 6 * begun = omega arith in ap (λ (n : ℕ). word / 2 ^ n) e ∙ sym (shr-shr word 6 (6 * begun))

begun_ends : (begun first word : ℕ) → Opens begun word → 0 < first → EndsChunks 5 first (word / 2 ^ (6 * begun)) → EndsChunks 5 (begun + first) word
begun_ends zero first word opens some ends =
    let same : first ≡ 0 + first = omega arith in
    let here : word / 2 ^ (6 * 0) ≡ word = omega arith in
    subst (λ (k : ℕ). EndsChunks 5 k word) same (subst (EndsChunks 5 first) here ends)
begun_ends (suc begun) first word opens some ends =
    let next : suc (begun + first) ≡ suc begun + first = omega arith in
    let later = begun_ends begun first (word / 2 ^ 6) opens.1 some (subst (EndsChunks 5 first) (behind_next word begun) ends) in
    subst (λ (k : ℕ). EndsChunks 5 k word) next (one_more (begun + first) word opens.0 (omega (arith, some)) later)

before_end : (count word : ℕ) → EndsChunks 5 (suc count) word → Opens count word
before_end zero word ends = tt
before_end (suc count) word ends = (ends.0, before_end count (word / 2 ^ 6) ends.1)

-- numbers that end in chunks behind some that go on, if the first one is not long
pub begun_reads : (begun k count chunks word p : ℕ) (rest : List Bool) → chunks ≤ 8 → Opens begun word → ((more : ℕ) → more ≤ 8 → Opens more (word / 2 ^ (6 * begun)) → begun + more ≤ 11) → Runs (lasts k (word / 2 ^ (6 * begun))) count (suc chunks) → ReadsRun word count (begun + suc chunks) p rest
begun_reads begun k count chunks word p rest nine opens near runs =
    let behind : ℕ = word / 2 ^ (6 * begun) in
    let f = first_number k behind count chunks runs in
    let next : f.first ≡ suc (f.first - 1) = omega (arith, f.some) in
    let goes : Opens (f.first - 1) behind = before_end (f.first - 1) behind (subst (λ (n : ℕ). EndsChunks 5 n behind) next f.ends) in
    let short : begun + f.first ≤ 12 = omega (arith, near (f.first - 1) (omega (arith, f.chunks_are, nine)) goes, f.some) in
    let runs_on : Runs (lasts f.more (word / 2 ^ (6 * (begun + f.first)))) f.others f.left = subst (λ (w : ℕ). Runs (lasts f.more w) f.others f.left) (behind_more word begun f.first) f.runs in
    let later = run_reads f.left f.more (word / 2 ^ (6 * (begun + f.first))) f.others f.left (p + 6 * (begun + f.first)) rest (omega arith) (omega (arith, f.chunks_are, nine)) runs_on in
    let all = one_before word f.others (begun + f.first) f.left p rest short (begun_ends begun f.first word opens f.some f.ends) later in
    let whole : begun + suc chunks ≡ begun + f.first + f.left = omega (arith, f.chunks_are) in
    rw (f.count_is, whole) all

-- numbers at the front of the bits of a word
pub begins : (word count chunks : ℕ) → Runs (lasts 9 word) count chunks → Begins word count (6 * chunks)
unfolding Begins
begins word count chunks h = λ first rest.
    let nine : chunks ≤ 9 = runs_within (lasts 9 word) count chunks h in
    let left : List Bool = bits_of (54 - 6 * chunks) (word / 2 ^ (6 * chunks)) in
    let run = run_reads chunks 9 word count chunks first (left ++ rest) (omega arith) nine h in
    let whole : 6 * chunks + (54 - 6 * chunks) ≡ 54 = omega (arith, nine) in
    let split : bits_of 54 word ≡ bits_of (6 * chunks) word ++ left = ap (λ (n : ℕ). bits_of n word) (sym whole) ∙ bits_of-split (6 * chunks) (54 - 6 * chunks) word in
    let behind : drop (6 * chunks) (bits_of 54 word) ≡ left = ap (drop (6 * chunks)) split ∙ drop_at (bits_of (6 * chunks) word) left (6 * chunks) (length-bits_of (6 * chunks) word) in
    let all : bits_of 54 word ++ rest ≡ bits_of (6 * chunks) word ++ (left ++ rest) = ap (λ (s : List Bool). s ++ rest) split ∙ append_assoc (bits_of (6 * chunks) word) left rest in
    (run.0, run.1, ap (reading (repeat count (vbr 6)) first) all ∙ run.2 ∙ ap (λ (s : List Bool). Ok (run.0, first + 6 * chunks, s ++ rest)) (sym behind))

-- ---- for callers

-- a rule that took exactly some bits takes them whatever follows
pub any_after : {A : Type 0} (rule : Grammar A) (first bits : ℕ) (front rest : List Bool) (value : A) → length front ≡ bits → reading rule first (front ++ rest) ≡ Ok (value, first + bits, rest) → (other : List Bool) → reading rule first (front ++ other) ≡ Ok (value, first + bits, other)
any_after rule first bits front rest value long e other =
    let found = is_spelled rule first (front ++ rest) value (first + bits) rest e in
    let many : length found.0 ≡ bits = omega (arith, found.2) in
    let same : found.0 ≡ front = sym (take_at found.0 rest bits many) ∙ ap (take bits) (sym found.1) ∙ take_at front rest bits long in
    ap (λ (s : List Bool). reading rule first (s ++ other)) (sym same) ∙ reads rule first found.0 value other found.3 ∙ ap (λ (n : ℕ). Ok (value, first + n, other)) many

-- the bits of a word in two parts
word_apart : (word bits : ℕ) (rest : List Bool) → bits_of 54 word ++ rest ≡ take bits (bits_of 54 word) ++ (drop bits (bits_of 54 word) ++ rest)
word_apart word bits rest = ap (λ (s : List Bool). s ++ rest) (sym (take-append-drop bits (bits_of 54 word))) ∙ append_assoc (take bits (bits_of 54 word)) (drop bits (bits_of 54 word)) rest

pub length-front : (word bits : ℕ) → bits ≤ 54 → length (take bits (bits_of 54 word)) ≡ bits
length-front word bits most = length-take-le bits (bits_of 54 word) (omega (arith, most, length-bits_of 54 word))

-- the numbers alone, whatever follows them
pub begun_front : (word count bits first : ℕ) (rest : List Bool) → bits ≤ 54 → Begins word count bits → (values : List ℕ) × (length values ≡ count) × (reading (repeat count (vbr 6)) first (take bits (bits_of 54 word) ++ rest) ≡ Ok (values, first + bits, rest))
unfolding Begins
begun_front word count bits first rest most begun =
    let read = begun first [] in
    let apart = ap (reading (repeat count (vbr 6)) first) (sym (word_apart word bits [])) ∙ read.2 in
    (read.0, read.1, any_after (repeat count (vbr 6)) first bits (take bits (bits_of 54 word)) (drop bits (bits_of 54 word) ++ []) read.0 (length-front word bits most) apart rest)
