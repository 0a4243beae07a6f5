-- Lists that are printed batch by batch.
use Rattle.std.proofs.Common.{◌≡◌, ℕ, zero, suc, Result, Ok, Err, ◌+◌, ◌-◌, ◌<◌, ◌≤◌, List, [], ◌∷◌, ◌++◌, length, take, drop, replicate, refl, sym, ap, ◌∙◌, append_assoc, arith, add-zero, length-append, length-drop}
use Rattle.std.specs.Prelude.{OnOk, decimal, flat_map}
use Rattle.std.specs.declared.alloc.AllocError.{AllocError}
use Rattle.std.proofs.lemmas.List.{take-append-drop, drop-drop, length-take-le, length-replicate}
use Rattle.std.proofs.lemmas.Grind.{flat_map-append}
use Rattle.bit_grammar.specs.Texts.{values_text}
use Rattle.bit_scan.specs.Json.{comma, item_json, joined, joined_from, number_json}
use Rattle.bit_scan.specs.Printing.{Printing, Printed}
use Rattle.bit_scan.proofs.Prints.{Goes, goes_as, goes_ends, goes_starts}
use Rattle.bit_scan.proofs.Parted.{Parts, zeros_next}

-- items behind the first one have commas
pub joined_later : (place : ℕ) (xs : List ℕ) → joined_from number_json (suc place) xs ≡ flat_map item_json xs
joined_later place [] = refl
joined_later place (x ∷ xs) =
    let next : suc place + 1 ≡ suc (suc place) = omega arith in
    ap (λ (l : List ℕ). item_json x ++ l) (ap (λ (n : ℕ). joined_from number_json n xs) next ∙ joined_later (suc place) xs)

pub joined_at : (place : ℕ) (xs : List ℕ) → 0 < place → flat_map item_json xs ≡ joined_from number_json place xs
joined_at zero xs h = absurd (omega arith)
joined_at (suc place) xs h = sym (joined_later place xs)

-- the first one has none
pub first_pushed : (xs others : List ℕ) (x : ℕ) (r : Result (Unit {0}) AllocError) (old middle new : List ℕ) → xs ≡ x ∷ others → middle ≡ old ++ number_json x → OnOk r (new ≡ middle ++ flat_map item_json others) → OnOk r (new ≡ old ++ joined number_json xs)
first_pushed xs others x (Ok v) old middle new is first second =
    second
    ∙ ap (λ (l : List ℕ). l ++ flat_map item_json others) first
    ∙ append_assoc old (number_json x) (flat_map item_json others)
    ∙ ap (λ (l : List ℕ). old ++ l) (ap (λ (l : List ℕ). number_json x ++ l) (sym (joined_later 0 others)) ∙ sym (ap (joined number_json) is))
first_pushed xs others x (Err e) old middle new is first second = tt

-- a list in two parts
joined_parts : (place : ℕ) (xs ys : List ℕ) → joined_from number_json place (xs ++ ys) ≡ joined_from number_json place xs ++ joined_from number_json (place + length xs) ys
joined_parts place [] ys = ap (λ (n : ℕ). joined_from number_json n ys) (sym (add-zero place))
joined_parts place (x ∷ xs) ys =
    let next : place + 1 + length xs ≡ place + suc (length xs) = omega arith in
    ap (λ (l : List ℕ). (comma place ++ number_json x) ++ l) (joined_parts (place + 1) xs ys ∙ ap (λ (n : ℕ). joined_from number_json (place + 1) xs ++ joined_from number_json n ys) next)
    ∙ sym (append_assoc (comma place ++ number_json x) (joined_from number_json (place + 1) xs) (joined_from number_json (place + suc (length xs)) ys))

-- what remains of a list, as its next items and those behind them
pub next_values : (whole : List ℕ) (old now : Printing) (xs : List ℕ) (i j : ℕ) → i ≤ j → Goes whole old (values_text (drop i xs)) now → Goes whole old (values_text (take (j - i) (drop i xs)) ++ values_text (drop j xs)) now
next_values whole old now xs i j h g = goes_as whole old (values_text (drop i xs)) (values_text (take (j - i) (drop i xs)) ++ values_text (drop j xs)) now same g
  where
    next : i + (j - i) ≡ j
    next = omega arith

    same : values_text (drop i xs) ≡ values_text (take (j - i) (drop i xs)) ++ values_text (drop j xs)
    same = ap values_text (sym (take-append-drop (j - i) (drop i xs))) ∙ flat_map-append (λ (v : ℕ). 32 ∷ decimal v) (take (j - i) (drop i xs)) (drop (j - i) (drop i xs)) ∙ ap (λ (l : List ℕ). values_text (take (j - i) (drop i xs)) ++ values_text l) (drop-drop (j - i) i xs ∙ ap (λ (n : ℕ). drop n xs) next)

pub next_items : (first : ℕ) (whole : List ℕ) (old now : Printing) (xs : List ℕ) (i j : ℕ) → i ≤ j → j ≤ length xs → Goes whole old (joined_from number_json (first + i) (drop i xs)) now
    → Goes whole old (joined_from number_json (first + i) (take (j - i) (drop i xs)) ++ joined_from number_json (first + j) (drop j xs)) now
next_items first whole old now xs i j h low g = goes_as whole old (joined_from number_json (first + i) (drop i xs)) (joined_from number_json (first + i) (take (j - i) (drop i xs)) ++ joined_from number_json (first + j) (drop j xs)) now same g
  where
    next : i + (j - i) ≡ j
    next = omega arith

    long : first + i + length (take (j - i) (drop i xs)) ≡ first + j
    long = ap (λ (n : ℕ). first + i + n) (length-take-le (j - i) (drop i xs) (omega (arith, length-drop i xs))) ∙ omega (arith, next)

    same : joined_from number_json (first + i) (drop i xs) ≡ joined_from number_json (first + i) (take (j - i) (drop i xs)) ++ joined_from number_json (first + j) (drop j xs)
    same = ap (joined_from number_json (first + i)) (sym (take-append-drop (j - i) (drop i xs))) ∙ joined_parts (first + i) (take (j - i) (drop i xs)) (drop (j - i) (drop i xs)) ∙ ap (λ (n : ℕ). joined_from number_json (first + i) (take (j - i) (drop i xs)) ++ joined_from number_json n (drop (j - i) (drop i xs))) long ∙ ap (λ (l : List ℕ). joined_from number_json (first + i) (take (j - i) (drop i xs)) ++ joined_from number_json (first + j) l) (drop-drop (j - i) i xs ∙ ap (λ (n : ℕ). drop n xs) next)

-- items from a place on, before any is printed
pub items_start : (first : ℕ) (xs : List ℕ) (w : Printing) → Goes (joined_from number_json first xs) w (joined_from number_json (first + 0) xs) w
items_start first xs w = goes_as (joined_from number_json first xs) w (joined_from number_json first xs) (joined_from number_json (first + 0) xs) w (ap (λ (n : ℕ). joined_from number_json n xs) (sym (add-zero first))) (goes_starts (joined_from number_json first xs) w)

-- ---- zeros

pub zeros_start : (first count : ℕ) (w : Printing) → Goes (joined_from number_json first (replicate count 0)) w (joined_from number_json (first + 0) (replicate (count - 0) 0)) w
zeros_start first count w =
    let all : count - 0 ≡ count = omega arith in
    rw all (items_start first (replicate count 0) w)

pub next_zero_item : (first count : ℕ) (whole : List ℕ) (old now : Printing) (i : ℕ) → i < count → Goes whole old (joined_from number_json (first + i) (replicate (count - i) 0)) now
    → Goes whole old ((comma (first + i) ++ number_json 0) ++ joined_from number_json (first + (i + 1)) (replicate (count - (i + 1)) 0)) now
next_zero_item first count whole old now i lt g =
    let next : first + i + 1 ≡ first + (i + 1) = omega arith in
    goes_as whole old (joined_from number_json (first + i) (replicate (count - i) 0)) ((comma (first + i) ++ number_json 0) ++ joined_from number_json (first + (i + 1)) (replicate (count - (i + 1)) 0)) now
    (ap (joined_from number_json (first + i)) (zeros_next count i lt) ∙ ap (λ (n : ℕ). (comma (first + i) ++ number_json 0) ++ joined_from number_json n (replicate (count - (i + 1)) 0)) next) g

pub last_zero_item : (place count : ℕ) (whole : List ℕ) (old now : Printing) (i : ℕ) → count ≤ i → Goes whole old (joined_from number_json place (replicate (count - i) 0)) now → Printed whole old now
last_zero_item place count whole old now i le g =
    let none : count - i ≡ 0 = omega arith in
    goes_ends whole old now (goes_as whole old (joined_from number_json place (replicate (count - i) 0)) [] now (ap (λ (n : ℕ). joined_from number_json place (replicate n 0)) none) g)

-- ---- values in their parts

pub parts_long : (vs a b : List ℕ) (zeros : ℕ) (d : List ℕ) → vs ≡ a ++ b ++ replicate zeros 0 ++ d → length vs ≡ length a + length b + zeros + length d
parts_long vs a b zeros d is = ap length is ∙ length-append (a ++ b ++ replicate zeros 0) d ∙ ap (λ (n : ℕ). n + length d) (length-append (a ++ b) (replicate zeros 0) ∙ ap (λ (n : ℕ). n + length (replicate {A = ℕ} zeros 0)) (length-append a b) ∙ ap (λ (n : ℕ). length a + length b + n) (length-replicate zeros 0))

pub items_parts : (vs a b : List ℕ) (zeros : ℕ) (d : List ℕ) (p q r : ℕ) → vs ≡ a ++ b ++ replicate zeros 0 ++ d → p ≡ length a → q ≡ p + length b → r ≡ q + zeros
    → Parts (joined number_json vs) (joined number_json a) (joined_from number_json p b) (joined_from number_json q (replicate zeros 0) ++ joined_from number_json r d)
items_parts vs a b zeros d p q r is first second third =
    let items = λ (n : ℕ) (l : List ℕ). joined_from number_json n l in
    let c = replicate {A = ℕ} zeros 0 in
    let tail : items q (c ++ d) ≡ items q c ++ items r d = joined_parts q c d ∙ ap (λ (n : ℕ). items q c ++ items n d) (ap (λ (n : ℕ). q + n) (length-replicate zeros 0) ∙ sym third) in
    let rest : items p (b ++ (c ++ d)) ≡ items p b ++ (items q c ++ items r d) = joined_parts p b (c ++ d) ∙ ap (λ (n : ℕ). items p b ++ items n (c ++ d)) (sym second) ∙ ap (λ (l : List ℕ). items p b ++ l) tail in
    let start : 0 + length a ≡ p = omega (arith, first) in
    record { are = ap (joined number_json) (is ∙ append_assoc (a ++ b) c d ∙ append_assoc a b (c ++ d)) ∙ joined_parts 0 a (b ++ (c ++ d)) ∙ ap (λ (n : ℕ). joined number_json a ++ items n (b ++ (c ++ d))) start ∙ ap (λ (l : List ℕ). joined number_json a ++ l) rest }
