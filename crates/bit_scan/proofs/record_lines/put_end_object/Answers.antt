use Rattle.std.proofs.Common.{take}
use Rattle.bit_scan.proofs.Noted.{end_pushed}
use Rattle.bit_scan.proofs.record_lines.put_end_object.Goals as goal

pub returns-clause-wrote : goal.returns-clause-wrote
returns-clause-wrote c = end_pushed c.args.around c.args.after (take c.args.at c.args.bytes.now) _ _ _ c.put_after-bit.ensures.wrote c.put_after-depth.ensures.wrote c.put_text.ensures.wrote
