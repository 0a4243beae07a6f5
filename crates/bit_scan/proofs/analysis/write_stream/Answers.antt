use Rattle.bit_scan.proofs.analysis.write_stream.Goals as goal

pub returns-in-JsonLines : goal.returns-in-JsonLines
returns-in-JsonLines g c = rw (c.in-JsonLines.is) c.magic_line.ensures
