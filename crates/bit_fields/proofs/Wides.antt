-- Numbers in units of two bytes with the great ones apart: their laws.
use Rattle.std.proofs.Common.{◌≡◌, ◌≢◌, ℕ, zero, suc, ◌+◌, ◌*◌, ◌/◌, ◌-◌, ◌<◌, ◌≤◌, List, [], ◌∷◌, ◌++◌, length, take, drop, get_or, slice_get, Bool, true, false, cond, eqb, Some, None, refl, sym, ap, ◌∙◌, arith, add-one, eq-eqb}
use Rattle.std.proofs.Math.Seq.{take-add, take-suc, take-append_seam}
use Rattle.std.proofs.lemmas.Bool.{ne_eqb}
use Rattle.std.proofs.Math.Nat.{div-add-mod}
use Rattle.std.proofs.lemmas.List.{append-nil, get_or-take, length-append, length-take, take-append-drop, take-append-le, take-take}
use Rattle.std.proofs.lemmas.Option.{slice_get-get_or, slice_get_past}
use Rattle.bit_fields.specs.Wide.{marks, numbers_of, AreBefore}

pub marks_append : (a b : List ℕ) → marks (a ++ b) ≡ marks a + marks b
marks_append [] b = omega arith
marks_append (unit ∷ a) b = go (marks_append a b) (eqb unit 65535)
  where
    go : marks (a ++ b) ≡ marks a + marks b → (t : Bool) → cond t (suc (marks (a ++ b))) (marks (a ++ b)) ≡ cond t (suc (marks a)) (marks a) + marks b
    go rest true = omega (arith, rest)
    go rest false = rest

pub length_numbers : (us gs : List ℕ) → length (numbers_of us gs) ≡ length us
length_numbers [] gs = refl
length_numbers (unit ∷ us) gs = go (length_numbers us (drop 1 gs)) (length_numbers us gs) (eqb unit 65535)
  where
    go : length (numbers_of us (drop 1 gs)) ≡ length us → length (numbers_of us gs) ≡ length us → (t : Bool) → length (cond t (get_or gs 0 0 ∷ numbers_of us (drop 1 gs)) (unit ∷ numbers_of us gs)) ≡ suc (length us)
    go great small true = ap suc great
    go great small false = ap suc small

-- numbers after others, if these have all their great ones
pub numbers_append : (us vs gs hs : List ℕ) → marks us ≡ length gs → numbers_of (us ++ vs) (gs ++ hs) ≡ numbers_of us gs ++ numbers_of vs hs
numbers_append [] vs [] hs e = refl
numbers_append [] vs (g ∷ gs) hs e = absurd (omega (arith, e))
numbers_append (unit ∷ us) vs [] hs e = go (numbers_append us vs [] hs) (eqb unit 65535) e
  where
    go : (marks us ≡ 0 → numbers_of (us ++ vs) hs ≡ numbers_of us [] ++ numbers_of vs hs) → (t : Bool) → cond t (suc (marks us)) (marks us) ≡ 0 → cond t (get_or hs 0 0 ∷ numbers_of (us ++ vs) (drop 1 hs)) (unit ∷ numbers_of (us ++ vs) hs) ≡ cond t (get_or [] 0 0 ∷ numbers_of us (drop 1 [])) (unit ∷ numbers_of us []) ++ numbers_of vs hs
    go rest true none = absurd (omega (arith, none))
    go rest false none = ap (λ (s : List ℕ). unit ∷ s) (rest none)
numbers_append (unit ∷ us) vs (g ∷ gs) hs e = go (numbers_append us vs gs hs) (numbers_append us vs (g ∷ gs) hs) (eqb unit 65535) e
  where
    go : (marks us ≡ length gs → numbers_of (us ++ vs) (gs ++ hs) ≡ numbers_of us gs ++ numbers_of vs hs) → (marks us ≡ suc (length gs) → numbers_of (us ++ vs) (g ∷ gs ++ hs) ≡ numbers_of us (g ∷ gs) ++ numbers_of vs hs) → (t : Bool) → cond t (suc (marks us)) (marks us) ≡ suc (length gs) → cond t (g ∷ numbers_of (us ++ vs) (gs ++ hs)) (unit ∷ numbers_of (us ++ vs) (g ∷ gs ++ hs)) ≡ cond t (g ∷ numbers_of us gs) (unit ∷ numbers_of us (g ∷ gs)) ++ numbers_of vs hs
    go great small true all = ap (λ (s : List ℕ). g ∷ s) (great (omega (arith, all)))
    go great small false all = ap (λ (s : List ℕ). unit ∷ s) (small all)

-- the marks of the first units
pub marks_first : (n : ℕ) (us : List ℕ) → marks us ≡ marks (take n us) + marks (drop n us)
marks_first n us = ap marks (sym (take-append-drop n us)) ∙ marks_append (take n us) (drop n us)

-- the first n numbers
pub numbers_first : (n : ℕ) (us gs : List ℕ) → n ≤ length us → marks us ≡ length gs → take n (numbers_of us gs) ≡ numbers_of (take n us) (take (marks (take n us)) gs)
numbers_first n us gs le all =
    let k = marks (take n us) in
    let there : length (take k gs) ≡ k = length-take k gs ∙ omega (arith, all, marks_first n us) in
    let both : numbers_of us gs ≡ numbers_of (take n us) (take k gs) ++ numbers_of (drop n us) (drop k gs) =
    ap (λ (s : List ℕ). numbers_of s gs) (sym (take-append-drop n us)) ∙ ap (numbers_of (take n us ++ drop n us)) (sym (take-append-drop k gs)) ∙ numbers_append (take n us) (drop n us) (take k gs) (drop k gs) (sym there) in
    let count : n ≡ length (numbers_of (take n us) (take k gs)) = sym (length_numbers (take n us) (take k gs) ∙ length-take n us ∙ omega (arith, le)) in
    ap (take n) both ∙ ap (λ (i : ℕ). take i (numbers_of (take n us) (take k gs) ++ numbers_of (drop n us) (drop k gs))) count ∙ take-append_seam (numbers_of (take n us) (take k gs)) (numbers_of (drop n us) (drop k gs))

get_or_behind : (k : ℕ) (s : List ℕ) → get_or (drop 1 s) k 0 ≡ get_or s (suc k) 0
get_or_behind k (x ∷ s) = refl
get_or_behind zero [] = refl
get_or_behind (suc k) [] = refl

-- one number
number_at : (i : ℕ) (us gs : List ℕ) → i < length us → get_or (numbers_of us gs) i 0 ≡ cond (eqb (get_or us i 0) 65535) (get_or gs (marks (take i us)) 0) (get_or us i 0)
number_at i [] gs within = absurd (omega (arith, within))
number_at zero (unit ∷ us) gs within = go (eqb unit 65535)
  where
    go : (t : Bool) → get_or (cond t (get_or gs 0 0 ∷ numbers_of us (drop 1 gs)) (unit ∷ numbers_of us gs)) 0 0 ≡ cond t (get_or gs 0 0) unit
    go true = refl
    go false = refl
number_at (suc i) (unit ∷ us) gs within = go (number_at i us (drop 1 gs) (omega (arith, within))) (number_at i us gs (omega (arith, within))) (eqb unit 65535)
  where
    go : get_or (numbers_of us (drop 1 gs)) i 0 ≡ cond (eqb (get_or us i 0) 65535) (get_or (drop 1 gs) (marks (take i us)) 0) (get_or us i 0) → get_or (numbers_of us gs) i 0 ≡ cond (eqb (get_or us i 0) 65535) (get_or gs (marks (take i us)) 0) (get_or us i 0) → (t : Bool) → get_or (cond t (get_or gs 0 0 ∷ numbers_of us (drop 1 gs)) (unit ∷ numbers_of us gs)) (suc i) 0 ≡ cond (eqb (get_or us i 0) 65535) (get_or gs (cond t (suc (marks (take i us))) (marks (take i us))) 0) (get_or us i 0)
    go great small true = great ∙ ap (λ (g : ℕ). cond (eqb (get_or us i 0) 65535) g (get_or us i 0)) (get_or_behind (marks (take i us)) gs)
    go great small false = small

-- one that is held in its unit
pub number_small : (i : ℕ) (us gs : List ℕ) → i < length us → get_or us i 0 ≢ 65535 → slice_get (numbers_of us gs) i ≡ Some (get_or us i 0)
number_small i us gs within small =
    slice_get-get_or (numbers_of us gs) i 0 (omega (arith, within, length_numbers us gs)) ∙ ap Some (number_at i us gs within ∙ rw (ne_eqb (get_or us i 0) 65535 small) refl)

-- a mark among units
mark_within : (i : ℕ) (us : List ℕ) → i < length us → get_or us i 0 ≡ 65535 → marks (take i us) < marks us
mark_within i [] within e = absurd (omega (arith, within))
mark_within zero (unit ∷ us) within e = rw e (omega arith)
mark_within (suc i) (unit ∷ us) within e = go (mark_within i us (omega (arith, within)) e) (eqb unit 65535)
  where
    go : marks (take i us) < marks us → (t : Bool) → cond t (suc (marks (take i us))) (marks (take i us)) < cond t (suc (marks us)) (marks us)
    go lt true = omega (arith, lt)
    go lt false = lt

-- a great one
pub great_within : (i : ℕ) (us gs : List ℕ) → i < length us → marks us ≡ length gs → get_or us i 0 ≡ 65535 → marks (take i us) < length gs
great_within i us gs within all mark = omega (arith, all, mark_within i us within mark)

pub number_great : (i : ℕ) (us gs : List ℕ) → i < length us → get_or us i 0 ≡ 65535 → slice_get (numbers_of us gs) i ≡ Some (get_or gs (marks (take i us)) 0)
number_great i us gs within mark =
    slice_get-get_or (numbers_of us gs) i 0 (omega (arith, within, length_numbers us gs)) ∙ ap Some (number_at i us gs within ∙ rw (eq-eqb (get_or us i 0) 65535 mark) refl)

-- no number is there
pub number_beyond : (i : ℕ) (us gs : List ℕ) → length us ≤ i → slice_get (numbers_of us gs) i ≡ None
number_beyond i us gs past = slice_get_past (numbers_of us gs) i (omega (arith, past, length_numbers us gs))

-- ---- a number more

single_small : (number : ℕ) → number ≢ 65535 → marks (number ∷ []) ≡ 0
single_small number small = rw (ne_eqb number 65535 small) refl

pub marks_small : (us : List ℕ) (number : ℕ) → number ≢ 65535 → marks (us ++ number ∷ []) ≡ marks us
marks_small us number small = marks_append us (number ∷ []) ∙ omega (arith, single_small number small)

pub marks_great : (us : List ℕ) → marks (us ++ 65535 ∷ []) ≡ marks us + 1
marks_great us = marks_append us (65535 ∷ [])

pub one_small : (us gs : List ℕ) (number : ℕ) → marks us ≡ length gs → number ≢ 65535 → numbers_of (us ++ number ∷ []) gs ≡ numbers_of us gs ++ number ∷ []
one_small us gs number all small =
    ap (numbers_of (us ++ number ∷ [])) (sym (append-nil gs)) ∙ numbers_append us (number ∷ []) gs [] all ∙ ap (λ (s : List ℕ). numbers_of us gs ++ s) (rw (ne_eqb number 65535 small) refl)

pub one_great : (us gs : List ℕ) (number : ℕ) → marks us ≡ length gs → numbers_of (us ++ 65535 ∷ []) (gs ++ number ∷ []) ≡ numbers_of us gs ++ number ∷ []
one_great us gs number all = numbers_append us (65535 ∷ []) gs (number ∷ []) all

-- ---- counts of marks

pub counted_longer : (us vs counts : List ℕ) → AreBefore us counts → length (us ++ vs) ≤ 64 * length counts → AreBefore (us ++ vs) counts
counted_longer us vs counts h le = (le, λ i there. (omega (arith, (h.1 i there).0, length-append us vs), (h.1 i there).1 ∙ ap marks (sym (take-append-le (64 * i) us vs (h.1 i there).0))))

pub counted_first : (n m : ℕ) (us counts : List ℕ) → AreBefore us counts → n ≤ length us → m ≡ n / 64 + 1 → AreBefore (take n us) (take m counts)
counted_first n m us counts h le is =
    (omega (arith, h.0, length-take n us, length-take m counts, div-add-mod n 64), λ i there. go i (omega (arith, there, length-take m counts)) (omega (arith, there, length-take m counts)))
  where
    go : (i : ℕ) → i < m → i < length counts → (64 * i ≤ length (take n us)) × (get_or (take m counts) i 0 ≡ marks (take (64 * i) (take n us)))
    go i lt there =
        let front : 64 * i ≤ n = omega (arith, is, lt) in
        (omega (arith, front, le, length-take n us), get_or-take m counts i 0 lt ∙ (h.1 i there).1 ∙ ap marks (sym (take-take (64 * i) n us front)))

pub marks_le : (us : List ℕ) → marks us ≤ length us
marks_le [] = omega arith
marks_le (unit ∷ us) = go (marks_le us) (eqb unit 65535)
  where
    go : marks us ≤ length us → (t : Bool) → cond t (suc (marks us)) (marks us) ≤ suc (length us)
    go le true = omega (arith, le)
    go le false = omega (arith, le)

next_unit : (i : ℕ) (us : List ℕ) → i < length us → take (i + 1) us ≡ take i us ++ get_or us i 0 ∷ []
next_unit i us within = rw add-one (take-suc us i 0 within)

-- the marks of one unit more
pub next_mark : (i : ℕ) (us : List ℕ) → i < length us → get_or us i 0 ≡ 65535 → marks (take (i + 1) us) ≡ marks (take i us) + 1
next_mark i us within mark = ap marks (next_unit i us within ∙ ap (λ (u : ℕ). take i us ++ u ∷ []) mark) ∙ marks_great (take i us)

pub next_small : (i : ℕ) (us : List ℕ) → i < length us → get_or us i 0 ≢ 65535 → marks (take (i + 1) us) ≡ marks (take i us)
next_small i us within small = ap marks (next_unit i us within) ∙ marks_small (take i us) (get_or us i 0) small

-- the marks up to a place: those of whole strides, and those after them
pub marks_up_to : (start n : ℕ) (us : List ℕ) → start ≤ n → marks (take start us) + marks (take (n - start) (drop start us)) ≡ marks (take n us)
marks_up_to start n us le =
    sym (marks_append (take start us) (take (n - start) (drop start us))) ∙ ap marks (sym (take-add start (n - start) us) ∙ ap (λ (k : ℕ). take k us) (omega (arith, le)))

-- ---- a number that was pushed

counted_pushed : (us counts : List ℕ) (unit : ℕ) → AreBefore us counts → length us < 64 * length counts → AreBefore (us ++ unit ∷ []) counts
counted_pushed us counts unit h lt = counted_longer us (unit ∷ []) counts h (omega (arith, lt, length-append us (unit ∷ [])))

pub pushed_small : (us gs counts new : List ℕ) (number : ℕ) → marks us ≡ length gs → AreBefore us counts → length us < 64 * length counts → number < 65535 → new ≡ us ++ number ∷ [] → ((marks new ≡ length gs) × AreBefore new counts) × (numbers_of new gs ≡ numbers_of us gs ++ number ∷ [])
pushed_small us gs counts new number all h lt small is =
    let other : number ≢ 65535 = λ e. omega (arith, small, e) in
    rw is ((marks_small us number other ∙ all, counted_pushed us counts number h lt), one_small us gs number all other)

pub pushed_great : (us gs counts new great : List ℕ) (number : ℕ) → marks us ≡ length gs → AreBefore us counts → length us < 64 * length counts → new ≡ us ++ 65535 ∷ [] → great ≡ gs ++ number ∷ [] → ((marks new ≡ length great) × AreBefore new counts) × (numbers_of new great ≡ numbers_of us gs ++ number ∷ [])
pushed_great us gs counts new great number all h lt is more =
    rw (is, more) ((marks_great us ∙ omega (arith, all, length-append gs (number ∷ [])), counted_pushed us counts 65535 h lt), one_great us gs number all)

-- without the last unit again
pub pushed_back : (us new : List ℕ) (unit : ℕ) → new ≡ us ++ unit ∷ [] → take (length new - 1) new ≡ us
pushed_back us new unit is =
    rw is (ap (λ (n : ℕ). take n (us ++ unit ∷ [])) (omega (arith, length-append us (unit ∷ []))) ∙ take-append_seam us (unit ∷ []))

-- the first numbers, with their counts
pub kept_first : (n : ℕ) (us gs counts : List ℕ) → marks us ≡ length gs → AreBefore us counts → n < length us → ((marks (take n us) ≡ length (take (marks (take n us)) gs)) × AreBefore (take n us) (take (n / 64 + 1) counts)) × (take n (numbers_of us gs) ≡ numbers_of (take n us) (take (marks (take n us)) gs))
kept_first n us gs counts all h lt =
    ((sym (length-take (marks (take n us)) gs ∙ omega (arith, all, marks_first n us)), counted_first n (n / 64 + 1) us counts h (omega (arith, lt)) refl), numbers_first n us gs (omega (arith, lt)) all)

-- the numbers before those that were pushed
pub pushed_some : (old now some : List ℕ) → now ≡ old ++ some → take (length old) now ≡ old
pushed_some old now some is = ap (take (length old)) is ∙ take-append_seam old some
