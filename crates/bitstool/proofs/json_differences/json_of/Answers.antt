use Rattle.bit_norm.specs.Entries.{difference_shown}
use Rattle.bitstool.proofs.SameLines.{made_line}
use Rattle.bitstool.proofs.json_differences.json_of.Goals as goal

pub returns-clause-object : goal.returns-clause-object
returns-clause-object c = made_line (difference_shown c.args.difference.now) c.line_of.result c.line_of.ensures.text c.line_of.ensures.fits
