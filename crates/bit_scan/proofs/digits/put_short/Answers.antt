use Rattle.bit_scan.proofs.Forwards.{counted, short_wrote}
use Rattle.bit_scan.proofs.digits.put_short.Goals as goal

pub returns-clause-count : goal.returns-clause-count
returns-clause-count c = counted c.args.number c.entry_of-entry.result c.requires.0 c.entry_of-entry.ensures

pub returns-clause-wrote : goal.returns-clause-wrote
returns-clause-wrote c = short_wrote c.args.number c.args.at c.put_text.result c.entry_of-entry.result c.args.bytes.now c.put_text.new.bytes c.requires.0 c.entry_of-entry.ensures c.requires.1 c.put_text.ensures.end c.put_text.ensures.wrote
