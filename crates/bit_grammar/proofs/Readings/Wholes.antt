-- What a rule for the rest of an input reads agrees with what it spells and where it stops.
use Rattle.std.proofs.Common.{◌≡◌, ℕ, zero, suc, ◌+◌, ◌<◌, ◌≤◌, ◌⊎◌, Bool, true, false, leb, List, [], ◌∷◌, ◌++◌, length, take, drop, Ok, Err, refl, sym, ap, ◌∙◌, arith, inl, inr}
use Rattle.std.proofs.lemmas.Bool.{cases_lt}
use Rattle.std.proofs.lemmas.Bool.Decides.{nat_tests}
use Rattle.std.proofs.lemmas.List.{take_at, take-append-drop, length-append, length-take-le}
use Rattle.bit_grammar.specs.Grammar.{Fault, Grammar, Spells, Stops, reading}
use Rattle.bit_grammar.specs.Whole.{Whole, ◌then_all◌, until_end, within, either, making, Things, Broken, SpellsAll, StopsAll}
use Rattle.bit_grammar.proofs.Readings.Deciding.{moves, rests, reads, breaks, decides}
use Rattle.bit_grammar.proofs.Readings.Readers.{go_things, reading_all}

pub is_le : (a b : ℕ) → a ≤ b → leb a b ≡ true
is_le a b h = grind (arith, nat_tests)

pub is_not_le : (a b : ℕ) → b < a → leb a b ≡ false
is_not_le a b h = grind (arith, nat_tests)

-- ---- until no bit is left

things_read : {S A : Type 0} (idle : Fault) (thing : S → Grammar (A × S)) (xs : List A) (n : ℕ) (state : S) (p : ℕ) (r : List Bool) (after : ℕ) → length r ≤ n
    → Things (λ state p s x. Spells (thing state) p s x) xs state p r after → go_things idle (λ state p r. reading (thing state) p r) n state p r ≡ Ok (xs, after)
things_read idle thing [] n state p [] after enough h = ap (λ (q : ℕ). Ok ([], q)) (sym h.1)
things_read idle thing [] n state p (b ∷ bits) after enough h = absurd (omega (arith, ap length h.0))
things_read idle thing (x ∷ xs) n state p [] after enough h = absurd (omega (arith, h.4, ap length h.3, length-append h.0 h.1))
things_read idle thing (x ∷ xs) zero state p (b ∷ bits) after enough h = absurd (omega arith)
things_read idle thing (x ∷ xs) (suc n) state p (b ∷ bits) after enough h =
    let first = ap (reading (thing state) p) h.3 ∙ reads (thing state) p h.0 (x, h.2) h.1 h.5 in
    let some : 0 < length h.0 = h.4 in
    let moved = moves p (length h.0) some in
    let others = things_read idle thing xs n h.2 (p + length h.0) h.1 after (omega (arith, enough, ap length h.3, length-append h.0 h.1, some)) h.6 in
    rw (first, moved, others) refl

things_break : {S A : Type 0} (idle : Fault) (thing : S → Grammar (A × S)) (xs : List A) (n : ℕ) (state : S) (p : ℕ) (r : List Bool) (fault : Fault) → length r ≤ n
    → Broken idle (λ state p s x. Spells (thing state) p s x) (λ state p r fault. Stops (thing state) p r fault) xs state p r fault → go_things idle (λ state p r. reading (thing state) p r) n state p r ≡ Err fault
things_break idle thing [] n state p [] fault enough h = absurd h.0
things_break idle thing [] zero state p (b ∷ bits) fault enough h = absurd (omega arith)
things_break idle thing [] (suc n) state p (b ∷ bits) fault enough (some, inl h) = rw (breaks (thing state) p (b ∷ bits) fault h) refl
things_break idle thing [] (suc n) state p (b ∷ bits) fault enough (some, inr h) = rw (reads (thing state) p [] h.0 (b ∷ bits) h.1, rests p) (ap Err (sym h.2))
things_break idle thing (x ∷ xs) n state p [] fault enough h = absurd (omega (arith, h.4, ap length h.3, length-append h.0 h.1))
things_break idle thing (x ∷ xs) zero state p (b ∷ bits) fault enough h = absurd (omega arith)
things_break idle thing (x ∷ xs) (suc n) state p (b ∷ bits) fault enough h =
    let first = ap (reading (thing state) p) h.3 ∙ reads (thing state) p h.0 (x, h.2) h.1 h.5 in
    let some : 0 < length h.0 = h.4 in
    let moved = moves p (length h.0) some in
    let others = things_break idle thing xs n h.2 (p + length h.0) h.1 fault (omega (arith, enough, ap length h.3, length-append h.0 h.1, some)) h.6 in
    rw (first, moved, others) refl

abbrev pub DecidedAll : {A : Type 0} → Whole A → ℕ → List Bool → Type 0
DecidedAll {A = A} whole p r = ((v : A) × SpellsAll whole p r v) ⊎ ((fault : Fault) × StopsAll whole p r fault)

abbrev ThingsDecided : {S A : Type 0} → Fault → (S → Grammar (A × S)) → S → ℕ → List Bool → Type 0
ThingsDecided {A = A} idle thing state p r =
    ((v : List A × ℕ) × Things (λ state p s x. Spells (thing state) p s x) v.0 state p r v.1)
    ⊎ ((fault : Fault) × ((xs : List A) × Broken idle (λ state p s x. Spells (thing state) p s x) (λ state p r fault. Stops (thing state) p r fault) xs state p r fault))

and_things : {S A : Type 0} (idle : Fault) (thing : S → Grammar (A × S)) (x : A) (state new : S) (p : ℕ) (first others r : List Bool) → r ≡ first ++ others → 0 < length first → Spells (thing state) p first (x, new)
    → ThingsDecided idle thing new (p + length first) others → ThingsDecided idle thing state p r
and_things idle thing x state new p first others r parts some h (inl found) = inl ((x ∷ found.0.0, found.0.1), (first, others, new, parts, some, h, found.1))
and_things idle thing x state new p first others r parts some h (inr stopped) = inr (stopped.0, (x ∷ stopped.1.0, (first, others, new, parts, some, h, stopped.1.1)))

things_decide : {S A : Type 0} (idle : Fault) (thing : S → Grammar (A × S)) (n : ℕ) (state : S) (p : ℕ) (r : List Bool) → length r ≤ n → ThingsDecided idle thing state p r
things_decide idle thing n state p [] enough = inl (([], p), (refl, refl))
things_decide idle thing zero state p (b ∷ bits) enough = absurd (omega arith)
things_decide {S = S} {A = A} idle thing (suc n) state p (b ∷ bits) enough =
    elim (decides (thing state) p (b ∷ bits)) [
      | inl found ↦ goes found.0 found.1 found.2 found.3 found.4 (λ less. things_decide idle thing n found.2.1 (p + length found.0) found.1 (omega (arith, enough, less)))
      | inr stopped ↦ inr (stopped.0, ([], (tt, inl stopped.1)))
    ]
  where
    goes : (s rest : List Bool) (x : A × S) → b ∷ bits ≡ s ++ rest → Spells (thing state) p s x → (length rest < length (b ∷ bits) → ThingsDecided idle thing x.1 (p + length s) rest) → ThingsDecided idle thing state p (b ∷ bits)
    goes [] rest x parts h go = inr (idle, ([], (tt, inr (x, h, refl))))
    goes (c ∷ s) rest x parts h go = and_things idle thing x.0 state x.1 p (c ∷ s) rest (b ∷ bits) parts (omega arith) h (go (omega (arith, ap length parts, length-append s rest)))

-- ---- all rules

-- what spells a value is read
pub reads_all : {A : Type 0} (whole : Whole A) (p : ℕ) (r : List Bool) (v : A) → SpellsAll whole p r v → reading_all whole p r ≡ Ok v
reads_all (first then_all after) p r v h =
    let one = ap (reading first p) h.3 ∙ reads first p h.0 h.2 h.1 h.4 in
    rw one (reads_all (after h.2) (p + length h.0) h.1 v h.5)
reads_all (until_end idle thing state) p r v h = things_read idle thing v.0 (length r) state p r v.1 (omega arith) h
reads_all (within n few whole) p r v h =
    let front : take n r ≡ h.0 = ap (take n) h.2 ∙ take_at h.0 h.1 n h.3 in
    let enough = is_le n (length r) (omega (arith, ap length h.2, length-append h.0 h.1, h.3)) in
    rw (front, reads_all whole p h.0 v h.4, enough) refl
reads_all (either b one_rule other_rule) p r v (inl h) = rw h.0 (reads_all one_rule p r v h.1)
reads_all (either b one_rule other_rule) p r v (inr h) = rw h.0 (reads_all other_rule p r v h.1)
reads_all (making f whole) p r v h = rw (reads_all whole p r h.0 h.1, h.2) refl

-- if a rule stops, its fault is read
pub breaks_all : {A : Type 0} (whole : Whole A) (p : ℕ) (r : List Bool) (fault : Fault) → StopsAll whole p r fault → reading_all whole p r ≡ Err fault
breaks_all (first then_all after) p r fault (inl h) = rw (breaks first p r fault h) refl
breaks_all (first then_all after) p r fault (inr h) =
    let one = ap (reading first p) h.3 ∙ reads first p h.0 h.2 h.1 h.4 in
    rw one (breaks_all (after h.2) (p + length h.0) h.1 fault h.5)
breaks_all (until_end idle thing state) p r fault h = things_break idle thing h.0 (length r) state p r fault (omega arith) h.1
breaks_all (within n few whole) p r fault (inl h) = rw (breaks_all whole p (take n r) fault h) refl
breaks_all (within n few whole) p r fault (inr h) = rw (reads_all whole p (take n r) h.2.0 h.2.1, is_not_le n (length r) h.0, h.1) refl
breaks_all (either b one_rule other_rule) p r fault (inl h) = rw h.0 (breaks_all one_rule p r fault h.1)
breaks_all (either b one_rule other_rule) p r fault (inr h) = rw h.0 (breaks_all other_rule p r fault h.1)
breaks_all (making f whole) p r fault h = rw (breaks_all whole p r fault h) refl

-- the rest spells a value, or a rule stops in it
pub decides_all : {A : Type 0} (whole : Whole A) (p : ℕ) (r : List Bool) → DecidedAll whole p r
decides_all (first then_all after) p r =
    elim (decides first p r) [
      | inl one ↦ elim (decides_all (after one.2) (p + length one.0) one.1) [
        | inl two ↦ inl (two.0, (one.0, one.1, one.2, one.3, one.4, two.1))
        | inr stopped ↦ inr (stopped.0, inr (one.0, one.1, one.2, one.3, one.4, stopped.1))
      ]
      | inr stopped ↦ inr (stopped.0, inl stopped.1)
    ]
decides_all (until_end idle thing state) p r = things_decide idle thing (length r) state p r (omega arith)
decides_all (within n few whole) p r =
    elim (decides_all whole p (take n r)) [
      | inl one ↦ elim (cases_lt (length r) n) [
        | inl less ↦ inr (few, inr (less, refl, one))
        | inr enough ↦ inl (one.0, (take n r, drop n r, sym (take-append-drop n r), length-take-le n r enough, one.1))
      ]
      | inr stopped ↦ inr (stopped.0, inl stopped.1)
    ]
decides_all (either true one_rule other_rule) p r =
    elim (decides_all one_rule p r) [
      | inl found ↦ inl (found.0, inl (refl, found.1))
      | inr stopped ↦ inr (stopped.0, inl (refl, stopped.1))
    ]
decides_all (either false one_rule other_rule) p r =
    elim (decides_all other_rule p r) [
      | inl found ↦ inl (found.0, inr (refl, found.1))
      | inr stopped ↦ inr (stopped.0, inr (refl, stopped.1))
    ]
decides_all (making f whole) p r =
    elim (decides_all whole p r) [
      | inl found ↦ inl (f found.0, (found.0, found.1, refl))
      | inr stopped ↦ inr stopped
    ]
