use Rattle.std.proofs.Common.{take}
use Rattle.bit_scan.proofs.Noted.{define_pushed}
use Rattle.bit_scan.proofs.record_lines.put_definition_list.Goals as goal

pub returns-clause-wrote : goal.returns-clause-wrote
returns-clause-wrote c = define_pushed c.args.around c.args.first (take c.args.at c.args.bytes.now) _ _ _ c.put_after-bit.ensures.wrote c.put_after-depth.ensures.wrote c.put_text.ensures.wrote
