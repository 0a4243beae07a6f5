use Rattle.std.proofs.Common.{◌≡◌}
use Rattle.bit_grammar.specs.Record.{scalar}
use Rattle.bit_abbrev.proofs.runs.read_run_apart.Goals as goal
use Rattle.bit_abbrev.proofs.runs.read_run_apart.Goals.{in-Fixed-eq8+in_ok-count-in-Fixed-eq8, in-Fixed+in_ok-count-in-Fixed, in-Vbr+in_ok-count-in-Vbr, in-Char6+in_ok-count-in-Char6}

pub returns-clause-adds : goal.returns-clause-adds
unfolding scalar
returns-clause-adds g c = elim c.match-element.branch [
  | in-Fixed-eq8+in_ok-count-in-Fixed-eq8 w ↦
      let eight : w.in-Fixed-eq8.field-0 ≡ 8 = cc in
      rw (w.values-is, w.buffered-is, w.count-is, w.in-Fixed-eq8.is, eight) w.in_ok-count-in-Fixed-eq8.ensures.adds
  | in-Fixed+in_ok-count-in-Fixed w ↦ rw (w.values-is, w.buffered-is, w.count-is, w.in-Fixed.is) w.in_ok-count-in-Fixed.ensures.adds
  | in-Vbr+in_ok-count-in-Vbr w ↦ rw (w.values-is, w.buffered-is, w.count-is, w.in-Vbr.is) w.in_ok-count-in-Vbr.ensures.adds
  | in-Char6+in_ok-count-in-Char6 w ↦ rw (w.values-is, w.buffered-is, w.count-is, w.in-Char6.is) w.in_ok-count-in-Char6.ensures.adds
]
