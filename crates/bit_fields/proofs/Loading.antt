-- Loading the next bits as a word.
use Rattle.std.proofs.Common.{◌≡◌, ℕ, zero, suc, ◌≤◌, Bool, List, [], ◌∷◌, length, take, ap, arith, get_or, refl}

pub eight_first : (s : List ℕ) → 8 ≤ length s
    → get_or s 0 0 ∷ get_or s 1 0 ∷ get_or s 2 0 ∷ get_or s 3 0 ∷ get_or s 4 0 ∷ get_or s 5 0 ∷ get_or s 6 0 ∷ get_or s 7 0 ∷ [] ≡ take 8 s
eight_first [] few = absurd (omega (arith, few))
eight_first (a ∷ []) few = absurd (omega (arith, few))
eight_first (a ∷ b ∷ []) few = absurd (omega (arith, few))
eight_first (a ∷ b ∷ c ∷ []) few = absurd (omega (arith, few))
eight_first (a ∷ b ∷ c ∷ d ∷ []) few = absurd (omega (arith, few))
eight_first (a ∷ b ∷ c ∷ d ∷ e ∷ []) few = absurd (omega (arith, few))
eight_first (a ∷ b ∷ c ∷ d ∷ e ∷ f ∷ []) few = absurd (omega (arith, few))
eight_first (a ∷ b ∷ c ∷ d ∷ e ∷ f ∷ g ∷ []) few = absurd (omega (arith, few))
eight_first (a ∷ b ∷ c ∷ d ∷ e ∷ f ∷ g ∷ h ∷ s) few = refl

-- the first bits of more
pub front_again : (a m : ℕ) (r : List Bool) → a ≤ m → take a (take m r) ≡ take a r
front_again zero m r few = refl
front_again (suc a) zero r few = absurd (omega (arith, few))
front_again (suc a) (suc m) [] few = refl
front_again (suc a) (suc m) (b ∷ r) few = ap (λ (t : List Bool). b ∷ t) (front_again a m r (omega (arith, few)))
