-- Numbers in chunks of six bits of loads that are eight chunks apart, wherever numbers end.
use Rattle.std.proofs.Common.{◌≡◌, ℕ, zero, suc, ◌+◌, ◌*◌, ◌-◌, ◌/◌, ◌%◌, ◌^◌, ◌<◌, ◌≤◌, ◌⊎◌, Bool, eqb, List, ◌++◌, length, take, drop, Ok, refl, sym, ap, ◌∙◌, subst, arith, bit_and, inl, inr}
use Rattle.std.specs.Int.{w64, bit_not, leading_zeros, trailing_zeros}
use Rattle.std.specs.Int.Count.{count_leading_zeros, leading_unique, trailing_of_zero}
use Rattle.std.specs.Int.RustNames.{count_ones}
use Rattle.std.proofs.lemmas.Bool.{cases_lt}
use Rattle.std.proofs.lemmas.List.{drop_at, length-drop}
use Rattle.std.proofs.lemmas.Nat.{leading_le, mod-pow-add, pow-add, and_le_r, shr-shr}
use Rattle.bit_grammar.specs.Bits.{bit, bits_of, bits_of_bytes, number}
use Rattle.bit_grammar.specs.Grammar.{repeat, reading}
use Rattle.bit_grammar.specs.Fields.{vbr}
use Rattle.bit_grammar.proofs.Bits.Numbers.{length-bits_of}
use Rattle.bit_fields.specs.Buffered.{BufferedBits, beyond}
use Rattle.bit_fields.specs.Placed.{HasNumbers}
use Rattle.bit_fields.specs.SixEnds.{EndsWith, Runs, lasts, tops}
use Rattle.bit_fields.proofs.BitLaws.{bits_of-number, bits_of-split, drop-bits_of, drop_more, take-bits_of, number-bits_mod}
use Rattle.bit_fields.proofs.EndMarks.{split_low}
use Rattle.bit_fields.proofs.Placing.{has_both, has_none, length_at}
use Rattle.bit_fields.proofs.SixBits.{Opens, ReadsRun, begun_reads, length-lasts, runs_within}
use Rattle.bit_fields.proofs.SixBitSums.{Last, bit-eqb_none, ended, ended_after, ended_most, last_of, last_place, lowest_is, marked, marked_in, ones_in, six_more}

-- ---- chunks that go on

goes : (r : ℕ) → r < 2 → bit (eqb r 0) ≡ 0 → r ≡ 1
goes r lt none = omega (arith, bit-eqb_none r lt, none)

none_begun : (k word : ℕ) → ended (lasts k word) ≡ 0 → Opens k word
none_begun zero word none = tt
none_begun (suc k) word none = (goes (word / 32 % 2) (omega arith) (omega (arith, none)), none_begun k (word / 64) (omega (arith, none)))

-- no mark is in chunks that go on, and those behind them are marked above
none_marked : (k count word : ℕ) → k ≤ count → Opens count word → marked (lasts k word) ≡ 0
none_marked zero count word few begun = refl
none_marked (suc k) zero word few begun = absurd (omega (arith, few))
none_marked (suc k) (suc count) word few begun = omega (arith, bit-eqb_none (word / 32 % 2) (omega arith), begun.0, none_marked k count (word / 64) (omega (arith, few)) begun.1)

marked_behind : (count k word : ℕ) → count ≤ k → Opens count word → (high : ℕ) × (marked (lasts k word) ≡ 2 ^ (6 * count) * high)
marked_behind zero k word few begun = (marked (lasts k word), omega arith)
marked_behind (suc count) zero word few begun = absurd (omega (arith, few))
marked_behind (suc count) (suc k) word few begun =
    let later = marked_behind count k (word / 64) (omega (arith, few)) begun.1 in
    let none : bit (eqb (word / 32 % 2) 0) ≡ 0 = omega (arith, bit-eqb_none (word / 32 % 2) (omega arith), begun.0) in
    (later.0, rw (six_more count, none, later.1) (omega arith))

zeros_least : (n x high : ℕ) → n ≤ 64 → x < 2 ^ 64 → x ≡ 2 ^ n * high → n ≤ trailing_zeros w64 x
zeros_least n x zero few fits is =
    let none : x ≡ 0 = omega (arith, is) in
    subst (λ (y : ℕ). n ≤ trailing_zeros w64 y) (sym none) (omega (arith, trailing_of_zero 64, few))
zeros_least n x (suc high) few fits is =
    let low = split_low (suc high) (suc high) (omega arith) (omega arith) in
    let whole : x ≡ 2 ^ (n + low.0) * (1 + 2 * low.1) = is ∙ ap (λ (y : ℕ). 2 ^ n * y) low.2 ∙ rw (pow-add 2 n low.0) (omega arith) in
    omega (arith, lowest_is x (n + low.0) low.1 fits whole)

-- ---- loads

-- a load shows the bits from a place on
pub record Shown (ends at : ℕ) (s : List Bool) : Type 0 where
  pub fits : ends < 2 ^ 64
  pub there : at + 54 ≤ length s
  pub front : bits_of 54 (bit_not w64 ends) ≡ take 54 (drop at s)

lasts_low : (k more word : ℕ) → lasts k (word % 2 ^ (6 * k + more)) ≡ lasts k word
lasts_low zero more word = refl
lasts_low (suc k) more word =
    let e : 6 * suc k + more ≡ 6 * k + more + 6 = omega arith in
    let cut : ℕ = word / 2 ^ 6 % 2 ^ (6 * k + more) in
    let parts : word % 2 ^ (6 * suc k + more) ≡ cut * 64 + word % 64 = ap (λ (n : ℕ). word % 2 ^ n) e ∙ mod-pow-add word (6 * k + more) 6 in
    let low : word % 2 ^ (6 * suc k + more) / 32 % 2 ≡ word / 32 % 2 = ap (λ (w : ℕ). w / 32 % 2) parts ∙ omega arith in
    let high : word % 2 ^ (6 * suc k + more) / 64 ≡ cut = ap (λ (w : ℕ). w / 64) parts ∙ omega arith in
    rw (low, high, lasts_low k more (word / 64)) refl

-- the bits behind a place, as a number's
bits_behind : (at : ℕ) (s : List Bool) → at ≤ length s → drop at s ≡ bits_of (length s - at) (number s / 2 ^ at)
bits_behind at s there =
    let e : length s ≡ at + (length s - at) = omega (arith, there) in
    ap (drop at) (sym (bits_of-number s) ∙ ap (λ (n : ℕ). bits_of n (number s)) e) ∙ drop-bits_of at (length s - at) (number s)

pub shown_lasts : (k ends at : ℕ) (s : List Bool) → k ≤ 9 → Shown ends at s → lasts k (bit_not w64 ends) ≡ lasts k (number s / 2 ^ at)
shown_lasts k ends at s few shown =
    let word : ℕ = bit_not w64 ends in
    let there : ℕ = number s / 2 ^ at in
    let nine : 54 ≤ length s - at = omega (arith, shown.there) in
    let front : bits_of 54 word ≡ bits_of 54 there = shown.front ∙ ap (take 54) (bits_behind at s (omega (arith, shown.there))) ∙ take-bits_of 54 (length s - at) there nine in
    let same : word % 2 ^ 54 ≡ there % 2 ^ 54 = sym (number-bits_mod 54 word) ∙ ap number front ∙ number-bits_mod 54 there in
    let e : 6 * k + (54 - 6 * k) ≡ 54 = omega (arith, few) in
    let cut = λ (w : ℕ). ap (λ (n : ℕ). lasts k (w % 2 ^ n)) (sym e) ∙ lasts_low k (54 - 6 * k) w in
    sym (cut word) ∙ ap (lasts k) same ∙ cut there

shown_marks : (k ends at : ℕ) (s : List Bool) → k ≤ 9 → tops k < 2 ^ 64 → Shown ends at s → bit_and ends (tops k) ≡ 32 * marked (lasts k (number s / 2 ^ at))
shown_marks k ends at s few small shown = marked_in k ends small shown.fits ∙ ap (λ (marks : List Bool). 32 * marked marks) (shown_lasts k ends at s few shown)

shown_ones : (k ends at : ℕ) (s : List Bool) → k ≤ 9 → tops k < 2 ^ 64 → Shown ends at s → count_ones (bit_and ends (tops k)) ≡ ended (lasts k (number s / 2 ^ at))
shown_ones k ends at s few small shown = ones_in k ends small shown.fits ∙ ap ended (shown_lasts k ends at s few shown)

pub shown_at : (ends place shift from : ℕ) (bytes : List ℕ) → ends < 2 ^ 64 → shift < 8 → from ≤ 8 * place + shift → 8 ≤ length bytes - place → ((n : ℕ) → n ≤ 57 → bits_of n (bit_not w64 ends) ≡ take n (drop (8 * place + shift) (bits_of_bytes bytes))) → Shown ends (8 * place + shift - from) (drop from (bits_of_bytes bytes))
shown_at ends place shift from bytes fits low on there front =
    let sum : from + (8 * place + shift - from) ≡ 8 * place + shift = omega (arith, on) in
    let same : drop (8 * place + shift - from) (drop from (bits_of_bytes bytes)) ≡ drop (8 * place + shift) (bits_of_bytes bytes) = drop_more from (8 * place + shift - from) (bits_of_bytes bytes) ∙ ap (λ (n : ℕ). drop n (bits_of_bytes bytes)) sum in
    record { fits = fits; there = omega (arith, length_at from bytes, low, on, there); front = front 54 (omega arith) ∙ ap (take 54) (sym same) }

-- ---- numbers up to a load

-- So many numbers come first. Behind them chunks go on up to a place: so many as have no mark at the end of the eight chunks before.
pub record Passed (count before at : ℕ) (s : List Bool) : Type 0 where
  pub begun : ℕ
  pub from : ℕ
  pub lead : count_leading_zeros 64 before ≡ 16 + 6 * begun
  pub at_is : at ≡ from + 6 * begun
  pub there : at ≤ length s
  pub has : (start : ℕ) → HasNumbers 6 count (record { position = start; bits = s }) from
  pub on : Opens begun (number s / 2 ^ from)

pub none_passed : (count at : ℕ) (s : List Bool) → count ≡ 0 → at ≡ 0 → Passed count (tops 8) at s
none_passed count at s none here = record {
  begun = 0;
  from = 0;
  lead = sym (leading_unique 64 (tops 8) 16 48 (omega arith) (omega arith) (omega arith));
  at_is = omega (arith, here);
  there = omega (arith, here);
  has = λ start. subst (λ (n : ℕ). HasNumbers 6 n (record { position = start; bits = s }) 0) (sym none) (has_none 6 (record { position = start; bits = s }));
  on = tt;
}

-- the number that goes on is not long
abbrev pub IsNear : (before ends : ℕ) → Type 0
IsNear before ends = (bit_and ends (tops 4) ≡ 0 → ⊥) ⊎ (leading_zeros w64 before + trailing_zeros w64 (bit_and ends (tops 9)) ≤ 69)

near : (begun before ends at count : ℕ) (s : List Bool) → count_leading_zeros 64 before ≡ 16 + 6 * begun → Shown ends at s → IsNear before ends → count ≤ 8 → Opens count (number s / 2 ^ at) → (count < 4) ⊎ (begun + count ≤ 8)
near begun before ends at count s lead shown (inl some) few on = elim (cases_lt count 4) [
  | inl lt ↦ inl lt
  | inr le ↦ absurd (some (shown_marks 4 ends at s (omega arith) (omega arith) shown ∙ ap (λ (x : ℕ). 32 * x) (none_marked 4 count (number s / 2 ^ at) le on)))
]
near begun before ends at count s lead shown (inr short) few on =
    let high = marked_behind count 9 (number s / 2 ^ at) (omega (arith, few)) on in
    let x : ℕ = bit_and ends (tops 9) in
    let is : x ≡ 2 ^ (6 * count) * (32 * high.0) = shown_marks 9 ends at s (omega arith) (omega arith) shown ∙ ap (λ (y : ℕ). 32 * y) high.1 ∙ omega arith in
    inr (omega (arith, short, lead, zeros_least (6 * count) x (32 * high.0) (omega (arith, few)) (omega (arith, and_le_r ends (tops 9))) is))

few_begun : (begun before : ℕ) → count_leading_zeros 64 before ≡ 16 + 6 * begun → begun ≤ 8
few_begun begun before lead = omega (arith, leading_le 64 before, lead)

-- a place behind another one
further_down : (from n at : ℕ) (s : List Bool) → at ≡ from + n → number s / 2 ^ from / 2 ^ n ≡ number s / 2 ^ at
further_down from n at s is = shr-shr (number s) from n ∙ ap (λ (i : ℕ). number s / 2 ^ i) (sym is)

-- numbers that end in the chunks of a load
pub more_passed : (count before ends at k more chunks start : ℕ) (s : List Bool) → Passed count before at s → Shown ends at s → IsNear before ends → k ≤ 9 → Runs (lasts k (number s / 2 ^ at)) more (suc chunks) → HasNumbers 6 (count + more) (record { position = start; bits = s }) (at + 6 * suc chunks)
more_passed count before ends at k more chunks start s p shown is_near nine runs =
    let a : BufferedBits = record { position = start; bits = s } in
    let word : ℕ = number s / 2 ^ p.from in
    let total : ℕ = p.begun + suc chunks in
    let few : suc chunks ≤ k = omega (arith, runs_within (lasts k (number s / 2 ^ at)) more (suc chunks) runs, length-lasts k (number s / 2 ^ at)) in
    let behind : word / 2 ^ (6 * p.begun) ≡ number s / 2 ^ at = further_down p.from (6 * p.begun) at s p.at_is in
    let short : (next : ℕ) → next ≤ 8 → Opens next (word / 2 ^ (6 * p.begun)) → p.begun + next ≤ 11 = λ next le on. elim (near p.begun before ends at next s p.lead shown is_near le (subst (Opens next) behind on)) [
      | inl lt ↦ omega (arith, lt, few_begun p.begun before p.lead)
      | inr sum ↦ omega (arith, sum)
    ] in
    let enough : p.from + 6 * total ≤ length s = omega (arith, few, nine, shown.there, p.at_is) in
    let rest : ℕ = length s - p.from - 6 * total in
    let whole : length s - p.from ≡ 6 * total + rest = omega (arith, enough) in
    let later : List Bool = bits_of rest (word / 2 ^ (6 * total)) in
    let read : ReadsRun word more total (start + p.from) later = begun_reads p.begun k more chunks word (start + p.from) later (omega (arith, few, nine)) p.on short (subst (λ (w : ℕ). Runs (lasts k w) more (suc chunks)) (sym behind) runs) in
    let split : drop p.from s ≡ bits_of (6 * total) word ++ later = bits_behind p.from s (omega (arith, enough)) ∙ ap (λ (n : ℕ). bits_of n word) whole ∙ bits_of-split (6 * total) rest word in
    let left : drop (6 * total) (drop p.from s) ≡ later = ap (drop (6 * total)) split ∙ drop_at (bits_of (6 * total) word) later (6 * total) (length-bits_of (6 * total) word) in
    let has : HasNumbers 6 more (beyond a p.from) (6 * total) = (omega (arith, enough, length-drop p.from s), (read.0, read.1, ap (reading (repeat more (vbr 6)) (start + p.from)) split ∙ read.2 ∙ ap (λ (r : List Bool). Ok (read.0, start + p.from + 6 * total, r)) (sym left))) in
    has_both 6 count more (count + more) p.from (6 * total) (at + 6 * suc chunks) a refl (omega (arith, p.at_is)) (p.has start) has

-- the step to the next load
pub next_load : (count before ends at : ℕ) (s : List Bool) → Passed count before at s → Shown ends at s → IsNear before ends → Passed (count + count_ones (bit_and ends (tops 8))) (bit_and ends (tops 8)) (at + 48) s
next_load count before ends at s p shown is_near = by_last (last_of marks).chunks refl
  where
    word : ℕ
    word = number s / 2 ^ at

    marks : List Bool
    marks = lasts 8 word

    last : Last marks
    last = last_of marks

    many : count_ones (bit_and ends (tops 8)) ≡ ended marks
    many = shown_ones 8 ends at s (omega arith) (omega arith) shown

    within : last.chunks ≤ 8
    within = omega (arith, runs_within marks (ended marks) last.chunks last.runs, length-lasts 8 word)

    lead : count_leading_zeros 64 (bit_and ends (tops 8)) + 6 * last.chunks ≡ 64
    lead = last_place marks last (bit_and ends (tops 8)) (omega (arith, within)) (shown_marks 8 ends at s (omega arith) (omega arith) shown)

    -- no chunk behind the last end ends a number
    on : Opens (8 - last.chunks) (word / 2 ^ (6 * last.chunks))
    on = none_begun (8 - last.chunks) (word / 2 ^ (6 * last.chunks)) (omega (arith, ended_after 8 (ended marks) last.chunks (8 - last.chunks) word (omega (arith, within)) last.runs))

    by_last : (chunks : ℕ) → last.chunks ≡ chunks → Passed (count + count_ones (bit_and ends (tops 8))) (bit_and ends (tops 8)) (at + 48) s
    by_last zero is =
        let none : ended marks ≡ 0 = subst (Runs marks (ended marks)) is last.runs in
        let all : Opens 8 word = none_begun 8 word none in
        let first : p.begun ≡ 0 = elim (near p.begun before ends at 8 s p.lead shown is_near (omega arith) all) [ inl lt ↦ absurd (omega (arith, lt)) | inr sum ↦ omega (arith, sum) ] in
        let here : at ≡ p.from = omega (arith, p.at_is, first) in
        let same : count ≡ count + count_ones (bit_and ends (tops 8)) = omega (arith, many, none) in
        record {
          begun = 8;
          from = p.from;
          lead = omega (arith, lead, is);
          at_is = omega (arith, here);
          there = omega (arith, shown.there);
          has = λ start. subst (λ (n : ℕ). HasNumbers 6 n (record { position = start; bits = s }) p.from) same (p.has start);
          on = subst (λ (i : ℕ). Opens 8 (number s / 2 ^ i)) here all;
        }
    by_last (suc chunks) is =
        let runs : Runs marks (ended marks) (suc chunks) = subst (Runs marks (ended marks)) is last.runs in
        let left : 8 - last.chunks ≡ 8 - suc chunks = ap (λ (n : ℕ). 8 - n) is in
        let place : word / 2 ^ (6 * last.chunks) ≡ number s / 2 ^ (at + 6 * suc chunks) = ap (λ (n : ℕ). word / 2 ^ (6 * n)) is ∙ further_down at (6 * suc chunks) (at + 6 * suc chunks) s refl in
        record {
          begun = 8 - suc chunks;
          from = at + 6 * suc chunks;
          lead = omega (arith, lead, is, within);
          at_is = omega (arith, is, within);
          there = omega (arith, shown.there);
          has = λ start. subst (λ (n : ℕ). HasNumbers 6 (count + n) (record { position = start; bits = s }) (at + 6 * suc chunks)) (sym many) (more_passed count before ends at 8 (ended marks) chunks start s p shown is_near (omega arith) runs);
          on = subst (λ (n : ℕ). Opens n (number s / 2 ^ (at + 6 * suc chunks))) left (subst (Opens (8 - last.chunks)) place on);
        }

-- the load with the last number
pub last_load : (count before ends at more bits start : ℕ) (s : List Bool) → Passed count before at s → Shown ends at s → IsNear before ends → 0 < more → EndsWith (bit_not w64 ends) more bits → HasNumbers 6 (count + more) (record { position = start; bits = s }) (at + bits)
last_load count before ends at more bits start s p shown is_near some e = by_chunks e.chunks refl
  where
    runs : Runs (lasts 9 (number s / 2 ^ at)) more e.chunks
    runs = subst (λ (marks : List Bool). Runs marks more e.chunks) (shown_lasts 9 ends at s (omega arith) shown) e.runs

    by_chunks : (chunks : ℕ) → e.chunks ≡ chunks → HasNumbers 6 (count + more) (record { position = start; bits = s }) (at + bits)
    by_chunks zero is = let none : more ≡ 0 = subst (Runs (lasts 9 (number s / 2 ^ at)) more) is runs in absurd (omega (arith, some, none))
    by_chunks (suc chunks) is =
        let place : at + 6 * suc chunks ≡ at + bits = omega (arith, e.is, is) in
        subst (HasNumbers 6 (count + more) (record { position = start; bits = s })) place (more_passed count before ends at 9 more chunks start s p shown is_near (omega arith) (subst (Runs (lasts 9 (number s / 2 ^ at)) more) is runs))

-- how many numbers end in eight chunks, and in nine
pub eight_most : (ends : ℕ) → ends < 2 ^ 64 → count_ones (bit_and ends (tops 8)) ≤ 8
eight_most ends fits = omega (arith, ones_in 8 ends (omega arith) fits, ended_most (lasts 8 (bit_not w64 ends)), length-lasts 8 (bit_not w64 ends))

pub eight_fewer : (ends : ℕ) → ends < 2 ^ 64 → count_ones (bit_and ends (tops 8)) ≤ count_ones (bit_and ends (tops 9))
eight_fewer ends fits = omega (arith, ones_in 8 ends (omega arith) fits, ones_in 9 ends (omega arith) fits, fewer 8 (bit_not w64 ends))
  where
    fewer : (k word : ℕ) → ended (lasts k word) ≤ ended (lasts (suc k) word)
    fewer zero word = omega arith
    fewer (suc k) word = omega (arith, fewer k (word / 64))
