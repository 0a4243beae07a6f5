use Rattle.std.proofs.Common.{take}
use Rattle.bit_scan.proofs.Forwards.{last_wrote}
use Rattle.bit_scan.proofs.digits.put_last.Goals as goal

pub returns-clause-wrote : goal.returns-clause-wrote
returns-clause-wrote c = last_wrote c.args.number c.entry_of-entry.result (take c.args.at c.args.bytes.now) (take c.put_byte-tens.result c.put_byte-tens.new.bytes) _ c.entry_of-entry.ensures c.put_byte-tens.ensures.wrote c.put_text.ensures.wrote
