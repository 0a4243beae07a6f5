use Rattle.std.proofs.Common.{◌≡◌, ◌++◌, drop, map}
use Rattle.bit_c.specs.Limiting.{name_told}
use Rattle.bit_c.proofs.left_out.names_of.Given as goal

abbrev pub invariant-loop-name : goal.invariant-loop-name
invariant-loop-name l = map name_told l.names ≡ l.out.items ++ map name_told (drop l.name-index l.names)
