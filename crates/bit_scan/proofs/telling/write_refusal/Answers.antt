use Rattle.bit_scan.proofs.telling.write_refusal.Goals as goal

pub returns-in-JsonLines : goal.returns-in-JsonLines
returns-in-JsonLines g c = rw (c.in-JsonLines.is) c.reason_line.ensures
