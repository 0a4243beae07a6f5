-- Bytes that are kept as they are given.
use Rattle.std.specs.Prelude.{◌≡◌, ℕ, true, List, ◌++◌, length, Option}
use Rattle.bit_fields.specs.Devices.{Begins}
use Rattle.bit_fields.specs.declared.kept.Kept.{Kept}

-- these bytes were appended to the kept ones, or an allocation failed
abbrev pub GrewBy : List ℕ → (old new : Kept) → Type 0
GrewBy bytes old new = new.whole ≡ true → (old.whole ≡ true)
    × (new.bytes.items ≡ old.bytes.items ++ bytes)

-- the bytes that were kept are the next `count` bytes of a source
abbrev pub KeptBuffered : (count : ℕ) → (to_come : Option (List ℕ)) → (old new : Kept) → Type 0
KeptBuffered count to_come old new = (front : List ℕ) × (length front ≡ count) × Begins to_come front
    × GrewBy front old new
