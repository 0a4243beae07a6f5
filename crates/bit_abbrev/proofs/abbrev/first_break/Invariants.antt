use Rattle.std.proofs.Common.{◌≡◌}
use Rattle.bit_abbrev.proofs.Breaks.{place_at, HoldBefore}
use Rattle.bit_abbrev.proofs.abbrev.first_break.Given as goal

abbrev pub invariant-loop-at : goal.invariant-loop-at
invariant-loop-at l = record { place_is : l.place ≡ place_at l.ops l.at; held : HoldBefore l.ops l.at }
