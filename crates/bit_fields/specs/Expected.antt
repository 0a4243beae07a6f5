-- Values that are expected to equal those of another record.
use Rattle.std.specs.Prelude.{◌≡◌, ℕ, ◌+◌, ◌≤◌, ◌^◌, List, ◌++◌, length, take}
use Rattle.bit_fields.specs.Packed.{StandAt}

pub record Expected : Type 0 where
  -- the values that are expected
  pub others : List ℕ
  -- how many of them were taken
  pub taken : ℕ

-- it took the expected values, and after them those that matched
abbrev pub HasTaken : Expected → List ℕ → Type 0
HasTaken e values = values ≡ e.others ++ take e.taken e.others

-- these are the next expected values
abbrev pub AreNext : Expected → List ℕ → Type 0
AreNext e values = StandAt e.taken values e.others

-- this many more were taken
abbrev pub further : Expected → ℕ → Expected
further e count = record e { taken = e.taken + count }

-- the invariant of its parts
pub record IsExpected (others : List ℕ) (expected : ℕ) (near : List ℕ) (before place : ℕ) : Type 0 where
  pub there : expected ≤ length others
  pub few : expected ≤ 2 ^ 62
  pub within : before ≤ expected
  pub at_hand : place ≤ length near
  pub stand : StandAt before near (take expected others)
