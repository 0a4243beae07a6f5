use Rattle.std.proofs.Common.{◌-◌, length}
use Rattle.bit_text.specs.Listings.{Standing}
use Rattle.bit_text.specs.Places.{IsLineEnd}
use Rattle.bit_text.specs.Stops.{IsAt}
use Rattle.bit_text.proofs.Takings.{Far}
use Rattle.bit_text.proofs.assembler.Assembler.take.Given as goal

abbrev pub invariant-loop-to : goal.invariant-loop-to
invariant-loop-to l = record {
  next : IsLineEnd l.bytes l.from (length l.bytes) l.to;
  far : (now : Standing) → IsAt l.fn.self.limits now l.fn.self.writer → Far now l.bytes l.from l.to l.fn.self l.self;
}

abbrev pub decreases-loop-to : goal.decreases-loop-to
decreases-loop-to l = length l.bytes - l.to
