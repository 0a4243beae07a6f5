use Rattle.std.proofs.Common.{◌≡◌, length, take}
use Rattle.bit_fields.proofs.packed.PackedValues.copy_to.Given as goal

abbrev pub invariant-loop-place : goal.invariant-loop-place
invariant-loop-place l = (length l.room ≡ length l.self) × (take l.place l.room ≡ take l.place l.self)
