use Rattle.bit_abbrev.proofs.Operands.{fixed_took, vbr_took}
use Rattle.bit_abbrev.proofs.definition.read_value.Goals as goal

pub returns-in_ok-judge-in-Fixed-clause-takes : goal.returns-in_ok-judge-in-Fixed-clause-takes
returns-in_ok-judge-in-Fixed-clause-takes g c = fixed_took c.args.kind c.args.reader.now c.in_ok-width-in-Fixed.width c.vbr-in-Fixed.new.self c.position-first.result c.judge.new.self c.in-Fixed.is c.position-first.ensures.position c.in_ok-width-in-Fixed.ensures.takes (rw c.is_fixed_width.ensures at c.in_ok-judge-in-Fixed.ensures.takes)

pub returns-in_ok-judge-in-Vbr-clause-takes : goal.returns-in_ok-judge-in-Vbr-clause-takes
returns-in_ok-judge-in-Vbr-clause-takes g c = vbr_took c.args.kind c.args.reader.now c.in_ok-width-in-Vbr.width c.vbr-in-Vbr.new.self c.position-first-in-Vbr.result c.judge-in-Vbr.new.self c.in-Vbr.is c.position-first-in-Vbr.ensures.position c.in_ok-width-in-Vbr.ensures.takes (rw c.is_vbr_width.ensures at c.in_ok-judge-in-Vbr.ensures.takes)
