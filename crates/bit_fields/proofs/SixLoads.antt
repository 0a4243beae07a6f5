-- Numbers in chunks of six bits of a load, one after another.
use Rattle.std.proofs.Common.{◌≡◌, ℕ, zero, suc, ◌+◌, ◌*◌, ◌-◌, ◌/◌, ◌^◌, ◌<◌, ◌≤◌, length, take, drop, refl, sym, ap, ◌∙◌, subst, arith, bit_and}
use Rattle.std.specs.Int.{w64, bit_at, bit_not, trailing_zeros}
use Rattle.std.proofs.lemmas.List.{drop-take, length-drop}
use Rattle.std.proofs.lemmas.Nat.{and_le_l, shr_le}
use Rattle.std.proofs.lemmas.Nat.Bits.{bit_at_and, bit_at-lt}
use Rattle.bit_grammar.specs.Bits.{bits_of}
use Rattle.bit_fields.specs.Buffered.{BufferedBits, beyond}
use Rattle.bit_fields.specs.Pens.{TakesNumber}
use Rattle.bit_fields.specs.Placed.{Shows}
use Rattle.bit_fields.specs.Short.{payload_number}
use Rattle.bit_fields.specs.SixEnds.{tops}
use Rattle.bit_fields.proofs.BitLaws.{drop-bits_of}
use Rattle.bit_fields.proofs.EndMarks.{Marks, behind_first, bit_behind, ends_marked, lowest_gone, split_low}
use Rattle.bit_fields.proofs.PlacedNumbers.{NumberEnds, few_taken, listed_tops}
use Rattle.bit_fields.proofs.Placing.{marks_of}
use Rattle.bit_fields.proofs.SixBitSums.{low_set, lowest_is}
use Rattle.bit_fields.proofs.SixValues.{six_read}

-- The 1s of a mask are the last bits of the numbers at the low end of a word, and bits begin with the word's bits up to each of them.
pub record Loads (word mask : ℕ) (a : BufferedBits) : Type 0 where
  pub limit : ℕ
  pub few : limit ≤ 57
  pub small : mask < 2 ^ 64
  pub marks : Marks 6 limit mask word
  pub there : (i : ℕ) → bit_at mask i ≡ 1 → i < length a.bits
  pub front : (i : ℕ) → bit_at mask i ≡ 1 → bits_of (suc i) word ≡ take (suc i) a.bits

pub loads_first : (ends : ℕ) (a : BufferedBits) → ends < 2 ^ 64 → Shows ends a.bits → Loads (bit_not w64 ends) (bit_and ends (tops 9)) a
loads_first ends a fits shows = record {
  limit = 57;
  few = omega arith;
  small = omega (arith, and_le_l ends (tops 9), fits);
  marks = marks_of 6 (tops 9) ends (listed_tops 6 (omega arith) (omega arith)) fits;
  there = λ i set. shows.there i (end i set);
  front = λ i set. shows.front i (end i set);
}
  where
    end : (i : ℕ) → bit_at (bit_and ends (tops 9)) i ≡ 1 → bit_at ends i ≡ 1
    end i set = omega (arith, bit_at_and ends (tops 9) i, set, bit_at-lt ends i, bit_at-lt (tops 9) i)

-- The first number of a load, and the load without it.
pub record LoadsNumber (word mask len : ℕ) (a : BufferedBits) : Type 0 where
  pub ends : NumberEnds 6 len word
  pub there : len ≤ length a.bits
  pub front : bits_of len word ≡ take len a.bits
  pub rest : Loads (word / 2 ^ len) (mask / 2 ^ len) (beyond a len)

pub loads_number : (word mask : ℕ) (a : BufferedBits) → Loads word mask a → (mask ≡ 0 → ⊥) → LoadsNumber word mask (trailing_zeros w64 mask + 1) a
loads_number word mask a l some =
    let low = split_low mask mask (omega arith) (positive mask some) in
    let place : suc low.0 ≡ trailing_zeros w64 mask + 1 = omega (arith, lowest_is mask low.0 low.1 l.small low.2) in
    subst (λ (len : ℕ). LoadsNumber word mask len a) place (at_lowest low.0 low.1 low.2)
  where
    positive : (x : ℕ) → (x ≡ 0 → ⊥) → 0 < x
    positive zero none = absurd (none refl)
    positive (suc x) none = omega arith

    at_lowest : (s high : ℕ) → mask ≡ 2 ^ s * (1 + 2 * high) → LoadsNumber word mask (suc s) a
    at_lowest s high is =
        let set : bit_at mask s ≡ 1 = low_set mask s high is in
        let k = ends_marked 5 l.limit mask word s high l.marks is in
        let behind : mask / 2 ^ suc s ≡ high = lowest_gone mask s high is in
        let later : (i : ℕ) → bit_at (mask / 2 ^ suc s) i ≡ 1 → bit_at mask (suc s + i) ≡ 1 = λ i top. sym (bit_behind mask (suc s) i) ∙ top in
        record {
          ends = record { count = k.0; whole = k.1; short = omega (arith, (l.marks.one s set).0, l.few); ends = k.2 };
          there = omega (arith, l.there s set);
          front = l.front s set;
          rest = record {
            limit = l.limit - suc s;
            few = omega (arith, l.few);
            small = omega (arith, shr_le mask (suc s), l.small);
            marks = subst (λ (m : ℕ). Marks 6 (l.limit - suc s) m (word / 2 ^ suc s)) (sym behind) (behind_first 6 l.limit mask word s high l.marks is);
            there = λ i top. omega (arith, l.there (suc s + i) (later i top), length-drop (suc s) a.bits);
            front = λ i top.
                let next : suc (suc s + i) ≡ suc s + suc i = omega arith in
                let all : bits_of (suc s + suc i) word ≡ take (suc s + suc i) a.bits = subst (λ (k : ℕ). bits_of k word ≡ take k a.bits) next (l.front (suc s + i) (later i top)) in
                sym (drop-bits_of (suc s) (suc i) word) ∙ ap (drop (suc s)) all ∙ drop-take (suc s) (suc i) a.bits;
          };
        }

-- it is taken
pub load_taken : (word mask len value : ℕ) (a b : BufferedBits) → LoadsNumber word mask len a → ((count : ℕ) → len ≡ 6 * count → value ≡ payload_number 5 count word) → b ≡ beyond a len → TakesNumber 6 0 a value b
load_taken word mask len value a b n joined b_is = few_taken 6 0 len value a b n.there n.ends.short (six_read len word value a n.front n.ends joined) b_is
