-- Values that are expected to be the next ones of another record.
use Rattle.std.proofs.Common.{◌≡◌, ◌≢◌, ℕ, ◌+◌, ◌-◌, ◌<◌, ◌≤◌, ◌^◌, ◌⊎◌, min, List, [], ◌∷◌, ◌++◌, length, take, drop, slice_get, Bool, true, false, not, Option, Some, Result, Ok, Err, IsOk, OnOk, refl, sym, ap, ◌∙◌, subst, inl, inr, arith, append_assoc}
use Rattle.bit_fields.specs.declared.values.NotTaken.{NotTaken}
use Rattle.std.specs.Str.{bytes_eq}
use Rattle.std.proofs.Math.Seq.{take-add, take-append-add}
use Rattle.std.proofs.lemmas.Bool.{cases_lt}
use Rattle.std.proofs.lemmas.List.{append-nil, drop_at, length-append, length-take, take-append-le, take-take, take_at}
use Rattle.std.proofs.lemmas.Slice.Eq.{bytes_eq-Decides}
use Rattle.bit_fields.specs.Packed.{StandAt}
use Rattle.bit_fields.specs.Expected.{Expected, HasTaken, AreNext, further}
use Rattle.bit_fields.proofs.Standing.{one_stands, stand_before, stand_both, stand_first, stand_one, stand_rest, stand_whole, stand_within, take_min, take_of_first}

-- the first values of the other record, and how many of them were taken
abbrev pub expected_of : (expected taken : ℕ) → List ℕ → Expected
expected_of expected taken others = record { others = take expected others; taken = taken }

-- no expected value is left
pub none_next : (expected taken value : ℕ) (others : List ℕ) (now : Expected) → expected_of expected taken others ≡ now → expected ≤ now.taken → AreNext now (value ∷ []) → ⊥
none_next expected taken value others now is past next =
    let len : length now.others ≡ min expected (length others) = ap (λ (e : Expected). length e.others) (sym is) ∙ length-take expected others in
    omega (arith, len, past, stand_within now.taken (value ∷ []) now.others next)

-- a different value is next
pub other_next : (expected taken at value : ℕ) (found : Option ℕ) (others : List ℕ) (now : Expected) → expected_of expected taken others ≡ now → at ≡ now.taken → found ≡ slice_get others at → found ≢ Some value → AreNext now (value ∷ []) → ⊥
other_next expected taken at value found others now is at_is get apart next =
    let first : StandAt now.taken (value ∷ []) (take expected others) = ap (λ (e : Expected). take 1 (drop now.taken e.others)) is ∙ next in
    let whole : StandAt at (value ∷ []) others = ap (λ (p : ℕ). take 1 (drop p others)) at_is ∙ stand_whole now.taken expected (value ∷ []) others first in
    apart (get ∙ one_stands at value others whole)

-- the value there among the first of the others is next
pub held_next : (expected taken at : ℕ) (v others : List ℕ) (now : Expected) → expected_of expected taken others ≡ now → at ≡ now.taken → StandAt at v (take expected others) → AreNext now v
held_next expected taken at v others now is at_is h = ap (λ (e : Expected). take (length v) (drop now.taken e.others)) (sym is) ∙ ap (λ (p : ℕ). take (length v) (drop p (take expected others))) (sym at_is) ∙ h

-- it is next
pub value_next : (expected taken at value : ℕ) (others : List ℕ) (now : Expected) → expected_of expected taken others ≡ now → at ≡ now.taken → at < expected → slice_get others at ≡ Some value → AreNext now (value ∷ [])
value_next expected taken at value others now is at_is below get =
    held_next expected taken at (value ∷ []) others now is at_is (stand_before at expected (value ∷ []) others (stand_one at value others get) (omega (arith, below)))

-- the first of some bytes were compared with the next values
pub same_next : (count : ℕ) (t : Bool) (bytes held : List ℕ) (now : Expected) → AreNext now held → t ≡ not (bytes_eq (take count bytes) (take count held)) → t ≡ false → AreNext now (take count bytes)
same_next count t bytes held now next ne same_is =
    let same : take count bytes ≡ take count held = (bytes_eq-Decides (take count bytes) (take count held)).0 (go (bytes_eq (take count bytes) (take count held)) (sym ne ∙ same_is)) in
    subst (AreNext now) (sym same) (stand_first count now.taken held now.others next)
  where
    go : (b : Bool) → not b ≡ false → b ≡ true
    go true e = refl
    go false e = absurd cc

pub others_next : (count : ℕ) (t : Bool) (bytes held : List ℕ) (now : Expected) → AreNext now held → count ≡ min (length bytes) (length held) → t ≡ not (bytes_eq (take count bytes) (take count held)) → t ≡ true → AreNext now bytes → ⊥
others_next count t bytes held now next few ne other also =
    let row = drop now.taken now.others in
    let first : take count row ≡ take count bytes = front_of bytes row (omega (arith, few)) also in
    let second : take count row ≡ take count held = front_of held row (omega (arith, few)) next in
    let same : bytes_eq (take count bytes) (take count held) ≡ true = (bytes_eq-Decides (take count bytes) (take count held)).1 (sym first ∙ second) in
    absurd (cc (ne, other, ap not same))
  where
    front_of : (v row : List ℕ) → count ≤ length v → take (length v) row ≡ v → take count row ≡ take count v
    front_of v row le h = sym (take-take count (length v) row le) ∙ ap (take count) h

-- the next values were taken
pub taken_further : (e : Expected) (values list : List ℕ) → HasTaken e list → AreNext e values → HasTaken (further e (length values)) (list ++ values)
taken_further e values list had next =
    ap (λ (s : List ℕ). s ++ values) had ∙ append_assoc e.others (take e.taken e.others) values
    ∙ ap (λ (s : List ℕ). e.others ++ (take e.taken e.others ++ s)) (sym next) ∙ ap (λ (s : List ℕ). e.others ++ s) (sym (take-add e.taken (length values) e.others))

-- the same for one of them
pub one_taken : (r : Result (Unit {0}) NotTaken) (value : ℕ) (old new : Expected) → OnOk r (new ≡ further old 1) → (IsOk r → AreNext old (value ∷ [])) → OnOk r ((values : List ℕ) → HasTaken old values → HasTaken new (values ++ value ∷ []))
one_taken (Ok _) value old new is next = λ values had. subst (λ (e : Expected). HasTaken e (values ++ value ∷ [])) (sym is) (taken_further old (value ∷ []) values had (next refl))
one_taken (Err _) value old new is next = tt

-- ---- as a whole

-- nothing was taken yet
pub expected_first : (most expected : ℕ) (others : List ℕ) → expected ≡ min (length others) most → expected_of expected 0 others ≡ record { others = take most others; taken = 0 }
expected_first most expected others is =
    let first : take expected others ≡ take most others = ap (λ (k : ℕ). take k others) is ∙ ap (λ (k : ℕ). take k others) (omega arith) ∙ take_min most others in
    ap (λ (s : List ℕ). record { others = s; taken = 0 }) first

-- the values taken are the first of the expected ones
pub front_came : (now : Expected) (others list : List ℕ) → length now.others ≡ length others → HasTaken now (others ++ list) → list ≡ take now.taken others
front_came now others list len had =
    let n = length others in
    let behind = take now.taken now.others in
    let first : others ≡ now.others = sym (take_at others list n refl) ∙ ap (take n) had ∙ take_at now.others behind n len in
    sym (drop_at others list n refl) ∙ ap (drop n) had ∙ drop_at now.others behind n len ∙ ap (take now.taken) (sym first)

-- only the first of the taken values are kept
pub came_first : (expected taken at count left more : ℕ) (others values rest : List ℕ) (now : Expected) → expected_of expected taken others ≡ now → expected ≤ length others → expected ≤ 2 ^ 62 → at ≡ now.taken → at ≤ length now.others
    → left ≡ min expected count → more ≡ min at (count - expected) → HasTaken now (values ++ rest) → count ≡ min (length values) (2 ^ 64 - 1) → HasTaken (expected_of left more others) values
came_first expected taken at count left more others values rest now is there few at_is within left_is more_is had count_is = go (cases_lt count expected)
  where
    all : values ++ rest ≡ take expected others ++ take at (take expected others)
    all = had ∙ ap (λ (e : Expected). e.others ++ take now.taken e.others) (sym is) ∙ ap (λ (k : ℕ). take expected others ++ take k (take expected others)) (sym at_is)

    front : length (take expected others) ≡ expected
    front = length-take expected others ∙ omega (arith, there)

    counted : count ≡ length values
    counted = omega (arith, count_is, few, front, ap length all, length-append values rest, length-append (take expected others) (take at (take expected others)), length-take at (take expected others))

    values_are : values ≡ take count (take expected others ++ take at (take expected others))
    values_are = sym (take_at values rest count (sym counted)) ∙ ap (take count) all

    go : (count < expected) ⊎ (expected ≤ count) → HasTaken (expected_of left more others) values
    go (inl lt) =
        let fewer : left ≡ count = omega (arith, left_is, lt) in
        let none : more ≡ 0 = omega (arith, more_is, lt) in
        let first : take count (take expected others ++ take at (take expected others)) ≡ take count others = take-append-le count (take expected others) (take at (take expected others)) (omega (arith, front, lt)) ∙ take-take count expected others (omega (arith, lt)) in
        rw (fewer, none) (values_are ∙ first ∙ sym (append-nil (take count others)))
    go (inr le) =
        let same : left ≡ expected = omega (arith, left_is, le) in
        let k = count - expected in
        let e : count ≡ length (take expected others) + k = omega (arith, front, le) in
        rw (same, more_is) (values_are ∙ ap (λ (n : ℕ). take n (take expected others ++ take at (take expected others))) e ∙ take-append-add (take expected others) (take at (take expected others)) k ∙ ap (λ (s : List ℕ). take expected others ++ s) (take_of_first k at (take expected others)))

-- ---- bytes in runs

pub run_further : (e now new : Expected) (done count : ℕ) → now ≡ further e done → new ≡ further now count → new ≡ further e (done + count)
run_further e now new done count is more = more ∙ ap (λ (n : Expected). further n count) is ∙ ap (λ (k : ℕ). record e { taken = k }) (omega arith)

-- one run after others
pub run_next : (e : Expected) (done count : ℕ) (bytes : List ℕ) → done ≤ length bytes → AreNext e (take done bytes) → AreNext (further e done) (take count (drop done bytes)) → AreNext e (take (done + count) bytes)
run_next e done count bytes within had next =
    let len : length (take done bytes) ≡ done = length-take done bytes ∙ omega (arith, within) in
    subst (AreNext e) (sym (take-add done count bytes)) (stand_both e.taken (take done bytes) (take count (drop done bytes)) e.others had (ap (λ (k : ℕ). take (length (take count (drop done bytes))) (drop (e.taken + k) e.others)) len ∙ next))

-- if not all bytes are the next values, no run after others is
pub run_other : (e now : Expected) (done : ℕ) (bytes : List ℕ) → done ≤ length bytes → now ≡ further e done → (AreNext now (drop done bytes) → ⊥) → AreNext e bytes → ⊥
run_other e now done bytes within is none next = none (subst (λ (n : Expected). AreNext n (drop done bytes)) (sym is) (stand_rest done e.taken bytes e.others within next))

-- the runs so far
pub runs_taken : (e now : Expected) (done : ℕ) (bytes values : List ℕ) → done ≤ length bytes → now ≡ further e done → AreNext e (take done bytes) → HasTaken e values → HasTaken now (values ++ take done bytes)
runs_taken e now done bytes values within is next had =
    let len : length (take done bytes) ≡ done = length-take done bytes ∙ omega (arith, within) in
    subst (λ (n : Expected). HasTaken n (values ++ take done bytes)) (ap (further e) len ∙ sym is) (taken_further e (take done bytes) values had next)
