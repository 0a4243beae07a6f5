-- Texts of items, pushed one after the other.
use Rattle.std.proofs.Common.{◌≡◌, ℕ, zero, suc, ◌+◌, ◌<◌, List, [], ◌∷◌, ◌++◌, length, get_or, take, subst, arith}
use Rattle.std.specs.Prelude.{Result, Ok, Err, OnOk, flat_map}
use Rattle.std.specs.List.{AllByRecursion}
use Rattle.std.proofs.lemmas.Grind.{common_steps}

-- the text of one more item after those of the items before it
pub next_pushed : {A : Type 0} (text : A → List ℕ) (xs : List A) (i : ℕ) (x : A) (old now new : List ℕ) → i < length xs → now ≡ old ++ flat_map text (take i xs) → new ≡ now ++ text (get_or xs i x) → new ≡ old ++ flat_map text (take (i + 1) xs)
next_pushed text xs i x old now new within before next = grind (arith, common_steps, within, before, next)

-- what holds of the items before an item, and of it
next_all : {A : Type 0} (P : A → Type 0) (xs : List A) (i : ℕ) (x : A) → i < length xs → AllByRecursion P (take i xs) → P (get_or xs i x) → AllByRecursion P (take (suc i) xs)
next_all P [] i x within all next = absurd (omega (arith, within))
next_all P (y ∷ ys) zero x within all next = (next, tt)
next_all P (y ∷ ys) (suc i) x within all next = (all.0, next_all P ys i x (omega (arith, within)) all.1 next)

pub next_taken : {A : Type 0} (P : A → Type 0) (xs : List A) (i : ℕ) (x : A) → i < length xs → AllByRecursion P (take i xs) → P (get_or xs i x) → AllByRecursion P (take (i + 1) xs)
next_taken P xs i x within all next = (let same : suc i ≡ i + 1 = omega arith in subst (λ (n : ℕ). AllByRecursion P (take n xs)) same (next_all P xs i x within all next))

-- what holds in each case holds after a call that succeeds
pub on_ok : {A E : Type 0} (P : Type 0) (answer : Result A E) → P → OnOk answer P
on_ok P (Ok x) p = p
on_ok P (Err e) p = tt
