-- Elements of two lists one after the other, by their places.
use Rattle.std.proofs.Common.{◌≡◌, ℕ, ◌+◌, ◌-◌, ◌<◌, ◌≤◌, zero, suc, List, [], ◌∷◌, ◌++◌, Some, length, sym, ap, ◌∙◌, refl, arith, slice_get, get_or}
use Rattle.std.proofs.lemmas.Option.{slice_get-get_or}

module _ {X : Type 0} where
  -- an element of the first list
  pub in_front : (xs ys : List X) (i : ℕ) (x : X) → slice_get xs i ≡ Some x → slice_get (xs ++ ys) i ≡ Some x
  in_front [] ys zero x at = absurd cc
  in_front [] ys (suc i) x at = absurd cc
  in_front (y ∷ xs) ys zero x at = at
  in_front (y ∷ xs) ys (suc i) x at = in_front xs ys i x at

  pub before_end : (xs ys : List X) (i : ℕ) → i < length xs → slice_get (xs ++ ys) i ≡ slice_get xs i
  before_end [] ys i within = absurd (omega (arith, within))
  before_end (y ∷ xs) ys zero within = refl
  before_end (y ∷ xs) ys (suc i) within = before_end xs ys i (omega (arith, within))

  -- an element of the second list
  pub behind_all : (xs ys : List X) (i : ℕ) → slice_get (xs ++ ys) (length xs + i) ≡ slice_get ys i
  behind_all [] ys i = let same : 0 + i ≡ i = omega arith in rw same refl
  behind_all (x ∷ xs) ys i = let same : suc (length xs) + i ≡ suc (length xs + i) = omega arith in rw same (behind_all xs ys i)

  pub behind_at : (xs ys : List X) (i : ℕ) → length xs ≤ i → slice_get (xs ++ ys) i ≡ slice_get ys (i - length xs)
  behind_at xs ys i past = let same : i ≡ length xs + (i - length xs) = omega (arith, past) in ap (λ (k : ℕ). slice_get (xs ++ ys) k) same ∙ behind_all xs ys (i - length xs)

  -- an element that was read
  pub was_read : (xs : List X) (i : ℕ) (x : X) → (i < length xs) × ((d : X) → x ≡ get_or xs i d) → slice_get xs i ≡ Some x
  was_read xs i x read = slice_get-get_or xs i x read.0 ∙ ap Some (sym (read.1 x))
