-- The table of short numbers.
use Rattle.std.specs.Prelude.{ℕ, ◌+◌, ◌/◌, ◌%◌, List, [], ◌∷◌, nat_lt, if◌then◌else◌}

-- the digits of a number below 1000, filled up to three with spaces, and one more than how many they are
abbrev pub entry : ℕ → List ℕ
entry n = if nat_lt n 10 then ((48 + n) ∷ 32 ∷ 32 ∷ 2 ∷ [])
    else (if nat_lt n 100 then ((48 + n / 10) ∷ (48 + n % 10) ∷ 32 ∷ 3 ∷ [])
    else ((48 + n / 100) ∷ (48 + n / 10 % 10) ∷ (48 + n % 10) ∷ 4 ∷ []))

-- the last three digits of a number
abbrev pub last_three : ℕ → List ℕ
last_three n = (48 + n % 1000 / 100) ∷ (48 + n % 100 / 10) ∷ (48 + n % 10) ∷ []
