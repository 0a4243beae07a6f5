-- Numbers that have a unit of two bytes each. A unit of 65,535 marks one that is held among the great ones.
use Rattle.std.specs.Prelude.{◌≡◌, ◌==◌, ◌*◌, ◌<◌, ◌≤◌, ℕ, suc, List, [], ◌∷◌, length, take, drop, get_or, if◌then◌else◌}

-- how many units are marks
abbrev pub marks : List ℕ → ℕ
marks [] = 0
marks (unit ∷ units) = if unit == 65535 then suc (marks units) else marks units

-- the numbers of these units, with the great ones in order
abbrev pub numbers_of : (units great : List ℕ) → List ℕ
numbers_of [] great = []
numbers_of (unit ∷ units) great = if unit
    == 65535 then get_or great 0 0 ∷ numbers_of units (drop 1 great) else unit ∷ numbers_of units great

-- these counts are the marks before each 64th unit
abbrev pub AreBefore : (units counts : List ℕ) → Type 0
AreBefore units counts = (length units ≤ 64 * length counts) × ((i : ℕ) → i
    < length counts → (64 * i ≤ length units) × (get_or counts i 0 ≡ marks (take (64 * i) units)))
