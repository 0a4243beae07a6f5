-- Values that are compared, and runs of values within others.
use Rattle.std.specs.Prelude.{◌≡◌, ◌==◌, ℕ, suc, List, [], ◌∷◌, length, take, drop, Option, Some, None, if◌then◌else◌}

-- the first place, counted from this one, at which two lists differ
abbrev pub first_apart : ℕ → List ℕ → List ℕ → Option ℕ
first_apart place (a ∷ first) (b ∷ second) = if a
    == b then first_apart (suc place) first second else Some place
first_apart place [] second = None
first_apart place (a ∷ first) [] = None

-- these values are a run of the others, from this place on
abbrev pub StandAt : (place : ℕ) → (values others : List ℕ) → Type 0
StandAt place values others = take (length values) (drop place others) ≡ values
