-- Texts that are written forwards, and the table of short numbers.
use Rattle.std.proofs.Common.{◌≡◌, ℕ, zero, suc, ◌+◌, ◌*◌, ◌/◌, ◌%◌, ◌^◌, ◌<◌, ◌≤◌, Bool, true, false, nat_lt, List, [], ◌∷◌, ◌++◌, length, get_or, take, drop, replicate, refl, sym, ap, ◌∙◌, append_assoc, arith, length-append}
use Rattle.std.specs.Prelude.{decimal}
use Rattle.std.proofs.lemmas.List.{length-take-le, take-take, take-append-le, replicate-append-replicate, take-replicate, take-append-drop, length-drop, get_or_append_left, get_or-append-add}
use Rattle.std.proofs.lemmas.Bool.{lt-ltb, le-ltb, ltb-true, ltb-false}
use Rattle.std.proofs.Math.Seq.{take-append-add, take-append_seam}
use Rattle.std.proofs.lemmas.Fmt.{length-decimal-le, decimal_digit, decimal_step}
use Rattle.itoa.proofs.Decimal.{length_pair, length_step_wide, decimal_two}
use Rattle.bit_scan.specs.Digits.{entry, last_three}
use Rattle.bit_scan.specs.Json.{number_json}
use Rattle.bit_scan.specs.declared.digits.TheConstants.{SMALL}

-- ---- short numbers

three : (n : ℕ) → 100 ≤ n → n < 1000 → decimal n ≡ (48 + n / 100) ∷ (48 + n / 10 % 10) ∷ (48 + n % 10) ∷ []
three n lo hi =
    let tens : n / 10 / 10 ≡ n / 100 = omega arith in
    rw (decimal_step n (omega arith) (omega arith), decimal_two (n / 10) (omega arith) (omega arith), tens) refl

-- ---- the table

abbrev entries : (first count : ℕ) → List ℕ
entries first zero = []
entries first (suc count) = entry first ++ entries (suc first) count

are_entries : SMALL ≡ entries 0 1000
are_entries = refl

-- by its three cases
entry_long : (n : ℕ) → length (entry n) ≡ 4
entry_long n = grind arith

entry_items : (n : ℕ) → get_or (entry n) 0 0 ∷ get_or (entry n) 1 0 ∷ get_or (entry n) 2 0 ∷ get_or (entry n) 3 0 ∷ [] ≡ entry n
entry_items n = grind arith

entries_at : (first count i j : ℕ) → i < count → j < 4 → get_or (entries first count) (i * 4 + j) 0 ≡ get_or (entry (first + i)) j 0
entries_at first zero i j h low = absurd (omega arith)
entries_at first (suc count) zero j h low =
    let place : 0 * 4 + j ≡ j = omega arith in
    let same : first + 0 ≡ first = omega arith in
    rw (place, same) (get_or_append_left (entry first) (entries (suc first) count) 0 j (omega (arith, entry_long first)))
entries_at first (suc count) (suc i) j h low =
    let place : suc i * 4 + j ≡ length (entry first) + (i * 4 + j) = omega (arith, entry_long first) in
    let next : suc first + i ≡ first + suc i = omega arith in
    ap (λ (n : ℕ). get_or (entry first ++ entries (suc first) count) n 0) place
    ∙ get_or-append-add (entry first) (entries (suc first) count) (i * 4 + j) 0
    ∙ entries_at (suc first) count i j (omega arith) low
    ∙ ap (λ (n : ℕ). get_or (entry n) j 0) next

small_at : (n j : ℕ) → n < 1000 → j < 4 → get_or SMALL (n * 4 + j) 0 ≡ get_or (entry n) j 0
small_at n j h low = ap (λ (l : List ℕ). get_or l (n * 4 + j) 0) are_entries ∙ rw zero_plus at (entries_at 0 1000 n j h low)
  where
    zero_plus : 0 + n ≡ n
    zero_plus = omega arith

pub smalls : (n : ℕ) → n < 1000 → get_or SMALL (n * 4) 0 ∷ get_or SMALL (n * 4 + 1) 0 ∷ get_or SMALL (n * 4 + 2) 0 ∷ get_or SMALL (n * 4 + 3) 0 ∷ [] ≡ entry n
smalls n h =
    let zeroth : n * 4 + 0 ≡ n * 4 = omega arith in
    let at0 : get_or SMALL (n * 4) 0 ≡ get_or (entry n) 0 0 = ap (λ (i : ℕ). get_or SMALL i 0) (sym zeroth) ∙ small_at n 0 h (omega arith) in
    rw (at0, small_at n 1 h (omega arith), small_at n 2 h (omega arith), small_at n 3 h (omega arith)) (entry_items n)

-- what an entry says: the count of the digits, and these
pub entry_tells : (n : ℕ) → n < 1000 → (get_or (entry n) 3 0 ≡ length (decimal n) + 1) × (take (length (decimal n)) (entry n) ≡ decimal n)
entry_tells n h = cases (nat_lt n 10) refl
  where
    more : (b : Bool) → nat_lt n 10 ≡ false → nat_lt n 100 ≡ b → (get_or (entry n) 3 0 ≡ length (decimal n) + 1) × (take (length (decimal n)) (entry n) ≡ decimal n)
    more true not is = rw (not, is, decimal_two n (ltb-false n 10 not) (ltb-true n 100 is)) (refl, refl)
    more false not is = rw (not, is, three n (ltb-false n 100 is) h) (refl, refl)

    cases : (b : Bool) → nat_lt n 10 ≡ b → (get_or (entry n) 3 0 ≡ length (decimal n) + 1) × (take (length (decimal n)) (entry n) ≡ decimal n)
    cases true is = rw (is, decimal_digit n (ltb-true n 10 is)) (refl, refl)
    cases false is = more (nat_lt n 100) is refl

-- ---- texts

-- of a text that was written at a place, the first bytes
pub shorter : (text : List ℕ) (count at end last : ℕ) (old new : List ℕ) → last ≡ at + count → last ≤ end → at ≤ length old → take end new ≡ take at old ++ text → take last new ≡ take at old ++ take count text
shorter text count at end last old new is within fits p =
    let at_is : length (take at old) ≡ at = length-take-le at old fits in
    sym (take-take last end new within)
    ∙ ap (take last) p
    ∙ ap (λ (n : ℕ). take n (take at old ++ text)) (is ∙ ap (λ (n : ℕ). n + count) (sym at_is))
    ∙ take-append-add (take at old) text count

-- what is before a text that was written stays
pub front_kept : (text : List ℕ) (at end : ℕ) (old new : List ℕ) → at ≤ end → at ≤ length old → take end new ≡ take at old ++ text → take at new ≡ take at old
front_kept text at end old new h fits p =
    sym (take-take at end new h)
    ∙ ap (take at) p
    ∙ take-append-le at (take at old) text (omega (arith, length-take-le at old fits))
    ∙ take-take at at old (omega arith)

-- a short number
pub counted : (n : ℕ) (e : List ℕ) → n < 1000 → e ≡ entry n → get_or e 3 0 ≡ length (decimal n) + 1
counted n e h is = ap (λ (l : List ℕ). get_or l 3 0) is ∙ (entry_tells n h).0

pub short_wrote : (n at end : ℕ) (e old new : List ℕ) → n < 1000 → e ≡ entry n → at + 4 ≤ length old → end ≡ at + length e → take end new ≡ take at old ++ e → take (at + length (decimal n)) new ≡ take at old ++ decimal n
short_wrote n at end e old new h is fits ends p =
    let few : length (decimal n) ≤ length e = rw (is, entry_long n) (omega (arith, length-decimal-le 3 n (omega arith) (omega arith) (omega arith))) in
    shorter e (length (decimal n)) at end (at + length (decimal n)) old new refl (omega (arith, ends, few)) (omega arith) p
    ∙ ap (λ (l : List ℕ). take at old ++ l) (ap (take (length (decimal n))) is ∙ (entry_tells n h).1)

-- the last three digits, of which two are from the entry of a number from 100 on
behind_hundred : (p : ℕ) → p < 100 → ((p + 100) / 10 % 10 ≡ p / 10) × ((p + 100) % 10 ≡ p % 10)
behind_hundred p h = (omega arith, omega arith)

last_two : (n : ℕ) (e : List ℕ) → e ≡ entry (n % 1000 % 100 + 100) → get_or e 1 0 ∷ get_or e 2 0 ∷ [] ≡ (48 + n % 100 / 10) ∷ (48 + n % 10) ∷ []
last_two n e is =
    let p = n % 100 in
    let low : n % 1000 % 100 ≡ p = omega arith in
    let digits = behind_hundred p (omega arith) in
    let ones : p % 10 ≡ n % 10 = omega arith in
    rw (is, low, le-ltb (p + 100) 10 (omega arith), le-ltb (p + 100) 100 (omega arith), digits.0, digits.1, ones) refl

pub last_wrote : (n : ℕ) (e before middle new : List ℕ) → e ≡ entry (n % 1000 % 100 + 100) → middle ≡ before ++ ((48 + n % 1000 / 100) ∷ []) → new ≡ middle ++ (get_or e 1 0 ∷ get_or e 2 0 ∷ []) → new ≡ before ++ last_three n
last_wrote n e before middle new is first second =
    second
    ∙ ap (λ (l : List ℕ). l ++ (get_or e 1 0 ∷ get_or e 2 0 ∷ [])) first
    ∙ append_assoc before ((48 + n % 1000 / 100) ∷ []) (get_or e 1 0 ∷ get_or e 2 0 ∷ [])
    ∙ ap (λ (l : List ℕ). before ++ ((48 + n % 1000 / 100) ∷ l)) (last_two n e is)

-- they follow those of the thousands
thousands : (n : ℕ) → 1000 ≤ n → n < 2 ^ 64 → decimal n ≡ decimal (n / 1000) ++ last_three n
thousands n lo hi =
    let thousand : n / 10 / 10 / 10 ≡ n / 1000 = omega arith in
    let hundreds : n / 10 / 10 % 10 ≡ n % 1000 / 100 = omega arith in
    let tens : n / 10 % 10 ≡ n % 100 / 10 = omega arith in
    rw (decimal_step n (omega arith) hi, decimal_step (n / 10) (omega arith) (omega arith), decimal_step (n / 10 / 10) (omega arith) (omega arith), thousand, hundreds, tens, append_assoc, append_assoc) refl

pub large_wrote : (n : ℕ) (before middle new : List ℕ) → 1000 ≤ n → n < 2 ^ 64 → middle ≡ before ++ decimal (n / 1000) → new ≡ middle ++ last_three n → new ≡ before ++ decimal n
large_wrote n before middle new lo hi first second =
    second
    ∙ ap (λ (l : List ℕ). l ++ last_three n) first
    ∙ append_assoc before (decimal (n / 1000)) (last_three n)
    ∙ ap (λ (l : List ℕ). before ++ l) (sym (thousands n lo hi))

-- a short number as JSON
pub short_json : (n : ℕ) → n < 1000 → decimal n ≡ number_json n
short_json n h = rw (lt-ltb n (2 ^ 53) (omega arith)) refl

-- a number from 1000 on has three digits more than its thousands
pub three_more : (n : ℕ) → 1000 ≤ n → n < 2 ^ 64 → length (decimal n) ≡ length (decimal (n / 1000)) + 3
three_more n lo hi =
    let hundreds : n / 100 / 10 ≡ n / 1000 = omega arith in
    let step = length_step_wide (n / 100) (omega arith) (omega arith) in
    omega (arith, length_pair n (omega arith) hi, rw hundreds at step)

-- digits that were written so that they end at a place
pub digits_wrote : (text : List ℕ) (at end start : ℕ) (old new : List ℕ) → end ≡ at + length text → end ≤ length old → start + length text ≡ end → drop start new ≡ text ++ drop end old → take start new ≡ take start old → (length new ≡ length old) × (take end new ≡ take at old ++ text)
digits_wrote text at end start old new is fits starts behind before =
    let same : start ≡ at = omega (arith, is, starts) in
    let whole : new ≡ take at old ++ (text ++ drop end old) = sym (take-append-drop start new) ∙ ap (λ (l : List ℕ). l ++ drop start new) before ∙ ap (λ (l : List ℕ). take start old ++ l) behind ∙ ap (λ (n : ℕ). take n old ++ (text ++ drop end old)) same in
    let at_is : length (take at old) ≡ at = length-take-le at old (omega (arith, is, fits)) in
    let both : length (take at old ++ text) ≡ end = length-append (take at old) text ∙ ap (λ (n : ℕ). n + length text) at_is ∙ sym is in (
      ap length whole ∙ ap length (sym (append_assoc (take at old) text (drop end old))) ∙ length-append (take at old ++ text) (drop end old) ∙ omega (arith, both, length-drop end old, fits),
      ap (take end) whole ∙ ap (take end) (sym (append_assoc (take at old) text (drop end old))) ∙ ap (λ (n : ℕ). take n ((take at old ++ text) ++ drop end old)) (sym both) ∙ take-append_seam (take at old ++ text) (drop end old),
    )

-- more spaces
pub more_spaces : (count at end : ℕ) (old now new : List ℕ) → end ≡ at + count + 16 → take (at + count) now ≡ take at old ++ replicate count 32 → take end new ≡ take (at + count) now ++ replicate 16 32 → take (at + (count + 16)) new ≡ take at old ++ replicate (count + 16) 32
more_spaces count at end old now new is p q =
    let next : at + (count + 16) ≡ end = omega (arith, is) in
    rw next (q ∙ ap (λ (l : List ℕ). l ++ replicate 16 32) p ∙ append_assoc (take at old) (replicate count 32) (replicate 16 32) ∙ ap (λ (l : List ℕ). take at old ++ l) (replicate-append-replicate {A = ℕ} count 16 32))

pub fewer_spaces : (count done at : ℕ) (old new : List ℕ) → count ≤ done → at ≤ length old → take (at + done) new ≡ take at old ++ replicate done 32 → take (at + count) new ≡ take at old ++ replicate count 32
fewer_spaces count done at old new few fits p = shorter (replicate done 32) count at (at + done) (at + count) old new refl (omega (arith, few)) fits p ∙ ap (λ (l : List ℕ). take at old ++ l) (take-replicate {X = ℕ} count done 32 few)
