use Rattle.std.proofs.Common.{◌≤◌, List, ℕ, Ok}
use Rattle.bit_text.specs.Listings.{Standing}
use Rattle.bit_text.specs.Stops.{IsAt}
use Rattle.bit_text.specs.Assembling.{TakesBytes, Took}
use Rattle.bit_text.proofs.assembling.take_all.Given as goal

abbrev pub invariant-loop : goal.invariant-loop
invariant-loop g l = record {
  counted : l.counter ≤ (g.S.Source.incoming l.source).pulls;
  told : (now : Standing) → IsAt l.fn.assembler.limits now l.fn.assembler.writer → (text : List ℕ) × Took text (g.S.Source.incoming l.fn.source) (g.S.Source.incoming l.source) × TakesBytes now text l.fn.assembler (Ok tt) l.assembler;
}
