use Rattle.std.proofs.Common.{◌≡◌, ◌+◌, ◌≤◌, length, take}
use Rattle.bit_norm.proofs.alike.equal_front.Given as goal

abbrev pub invariant-loop-width : goal.invariant-loop-width
invariant-loop-width l = record {
  same : take l.equal l.slice ≡ take l.equal l.rest;
  first : l.equal + l.left ≤ length l.slice;
  second : l.equal + l.left ≤ length l.rest;
  few : l.width ≤ l.left;
}

abbrev pub decreases-loop-width : goal.decreases-loop-width
decreases-loop-width l = l.left
