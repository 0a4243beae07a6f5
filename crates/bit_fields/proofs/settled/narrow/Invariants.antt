use Rattle.std.proofs.Common.{◌≡◌, take}
use Rattle.bit_fields.proofs.settled.narrow.Given as goal

abbrev pub invariant-loop-place : goal.invariant-loop-place
invariant-loop-place l = take l.place l.bytes ≡ take l.place l.numbers
