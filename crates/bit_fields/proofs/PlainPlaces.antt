-- Records that are not abbreviated, in placed bits.
use Rattle.std.proofs.Common.{◌≡◌, ℕ, ◌+◌, ◌*◌, ◌-◌, ◌%◌, ◌^◌, ◌<◌, ◌≤◌, Bool, List, ◌++◌, length, take, drop, sym, ap, ◌∙◌, subst, arith, bit_and}
use Rattle.std.proofs.lemmas.List.{take-append-drop}
use Rattle.std.proofs.lemmas.Nat.{and_mask, mod_below, one_shl, pow-add, pow_pos}
use Rattle.std.proofs.Math.Pow.{pow_mono}
use Rattle.bit_grammar.specs.Bits.{bits_of}
use Rattle.bit_grammar.specs.Grammar.{repeat, reading}
use Rattle.bit_grammar.specs.Fields.{vbr}
use Rattle.bit_fields.specs.Buffered.{BufferedBits, Reads, beyond}
use Rattle.bit_fields.specs.Pens.{HasWord, TakesPlain}
use Rattle.bit_fields.specs.Placed.{HasShortest}
use Rattle.bit_fields.specs.SixBits.{Begins, HasCount, NeedsAll, Shortest}
use Rattle.bit_fields.proofs.BitLaws.{bits_of-above, bits_of-mod, take-bits_of}
use Rattle.bit_fields.proofs.BufferedReads.{reads_there}
use Rattle.bit_fields.proofs.PlainRecords.{word_taken, number_taken, plain_taken}
use Rattle.bit_fields.proofs.SixBits.{begun_front}
use Rattle.bit_fields.proofs.SixBitForms.{front_bits}

-- ---- numbers, each in its shortest spelling

pub shortest_one : (value len : ℕ) (a : BufferedBits) → Reads (vbr 6) a value (beyond a len) → NeedsAll value len → HasShortest 1 a len
shortest_one value len a seen needs = (omega (arith, reads_there (vbr 6) a value (beyond a len) seen), number_taken value len a (beyond a len) seen (omega arith) needs)

-- the numbers that a word begins with
pub shortest_begun : (count len word : ℕ) (a : BufferedBits) → len ≤ 54 → len ≤ length a.bits → bits_of len word ≡ take len a.bits → Begins word count len → Shortest word len → HasShortest count a len
shortest_begun count len word a few there is begins shortest = (there, word_taken count len word a is begins shortest few)

-- ---- a record

pub count_there : (code count : ℕ) (a b c d : BufferedBits) → b ≡ c → Reads (vbr 6) a code b → Reads (vbr 6) c count d → HasCount a count
count_there code count a b c d same first second = (code, b, d, first, subst (λ (x : BufferedBits). Reads (vbr 6) x count d) (sym same) second)

-- ---- a short record as one word: its abbreviation id, and the bits after it

plain_word : (n x : ℕ) → bits_of (n + 2) (3 + 4 * x) ≡ bits_of 2 3 ++ bits_of n x
plain_word n x =
    let turned : 3 + 4 * x ≡ 3 + x * 2 ^ 2 = omega arith in
    let places : n + 2 ≡ 2 + n = omega arith in
    ap (bits_of (n + 2)) turned ∙ ap (λ (k : ℕ). bits_of k (3 + x * 2 ^ 2)) places ∙ bits_of-above 2 n 3 x (omega arith)

pub plain_below : (n x : ℕ) → x < 2 ^ n → 3 + 4 * x < 2 ^ (n + 2)
plain_below n x below = omega (arith, below, pow-add 2 n 2)

pub word_below : (n x : ℕ) → n ≤ 54 → x < 2 ^ n → x < 2 ^ 54
word_below n x few below = omega (arith, below, pow_mono {i = n} {j = 54} few)

-- numbers at the front of a word
pub word_there : (count len word : ℕ) (a : BufferedBits) → len ≤ 54 → len ≤ length a.bits → bits_of len word ≡ take len a.bits → Begins word count len → Shortest word len → HasWord count a (bit_and word (1 * 2 ^ len % 2 ^ 64 - 1)) len
word_there count len word a few there is begins shortest =
    let rest : List Bool = drop len a.bits in
    let run = begun_front word count len a.position rest few begins in
    let front : take len (bits_of 54 word) ≡ take len a.bits = take-bits_of len 54 word few ∙ is in
    let all : a.bits ≡ take len (bits_of 54 word) ++ rest = sym (take-append-drop len a.bits) ∙ ap (λ (s : List Bool). s ++ rest) (sym front) in
    let kept : bit_and word (1 * 2 ^ len % 2 ^ 64 - 1) ≡ word % 2 ^ len = rw (one_shl len 64 (omega (arith, few))) (and_mask word len) in
    record {
      values = run.0;
      many = run.1;
      there = there;
      few = few;
      below = omega (arith, kept, mod_below word (2 ^ len) (pow_pos len));
      reads = ap (reading (repeat count (vbr 6)) a.position) all ∙ run.2;
      spelled = ap (bits_of len) kept ∙ bits_of-mod len word ∙ sym (take-bits_of len 54 word few) ∙ sym (front_bits word count len a.position rest run.0 few run.2 shortest);
    }

pub plain_there : (room count word len : ℕ) (a : BufferedBits) → count ≤ room → HasCount a count → HasWord (count + 2) a word len → TakesPlain room count a (bits_of (len + 2) (3 + 4 * word)) (beyond a (len + 2 - 2))
plain_there room count word len a few front has =
    let same : len ≡ len + 2 - 2 = omega arith in
    subst (λ (n : ℕ). TakesPlain room count a (bits_of (len + 2) (3 + 4 * word)) (beyond a n)) same
    (plain_taken room front.0 count len a front.1 front.2 has.values (bits_of (len + 2) (3 + 4 * word)) few front.3 front.4 has.there has.reads has.many (plain_word len word ∙ ap (λ (s : List Bool). bits_of 2 3 ++ s) has.spelled))
