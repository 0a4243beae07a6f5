use Rattle.std.proofs.Common.{ℕ, ◌≤◌}
use Rattle.bit_grammar.specs.Fields.{fixed}
use Rattle.bit_fields.specs.Buffered.{reader_at}
use Rattle.bit_abbrev.specs.Values.{Gains}
use Rattle.bit_abbrev.proofs.Taking.{SoFar}
use Rattle.bit_abbrev.proofs.runs.read_held_bytes.Given as goal

abbrev pub invariant-loop-done : goal.invariant-loop-done
invariant-loop-done g l = record {
  forward : l.fn.buffered.position ≤ l.buffered.position;
  gains : (many : ℕ) → l.done ≤ many → Gains g.V.ValueTaker.took l.fn.values l.values (SoFar (fixed 8) many (reader_at l.fn.buffered) l.done (reader_at l.buffered));
}
