use Rattle.bit_scan.proofs.analysis.write_code.Goals as goal

pub returns-in-JsonLines : goal.returns-in-JsonLines
returns-in-JsonLines g c = rw (c.in-JsonLines.is) c.object_line.ensures
