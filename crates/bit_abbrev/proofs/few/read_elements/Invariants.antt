use Rattle.std.proofs.Common.{take}
use Rattle.bit_grammar.specs.Grammar.{repeat}
use Rattle.bit_grammar.specs.Record.{scalar}
use Rattle.bit_fields.specs.Buffered.{Reads}
use Rattle.bit_fields.specs.PlacedView.{placed}
use Rattle.bit_abbrev.proofs.few.read_elements.Given as goal

abbrev pub invariant-loop-at : goal.invariant-loop-at
invariant-loop-at l = Reads (repeat l.at (scalar l.element)) (placed l.elements) (take l.at l.values) (placed l.bits)
