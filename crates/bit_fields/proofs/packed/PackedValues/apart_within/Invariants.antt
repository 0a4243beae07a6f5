use Rattle.std.proofs.Common.{◌≡◌, ◌-◌, ◌≤◌, drop}
use Rattle.bit_fields.specs.Packed.{first_apart}
use Rattle.bit_fields.proofs.packed.PackedValues.apart_within.Given as goal

abbrev pub invariant-loop-place : goal.invariant-loop-place
invariant-loop-place l = (l.place ≤ l.end) × (first_apart l.first (drop l.first l.self) (drop l.first l.other) ≡ first_apart l.place (drop l.place l.self) (drop l.place l.other))

abbrev pub decreases-loop-place : goal.decreases-loop-place
decreases-loop-place l = l.end - l.place
