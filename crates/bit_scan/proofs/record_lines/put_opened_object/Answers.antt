use Rattle.std.proofs.Common.{take}
use Rattle.bit_scan.proofs.Noted.{opened_pushed}
use Rattle.bit_scan.proofs.record_lines.put_opened_object.Goals as goal

pub returns-clause-wrote : goal.returns-clause-wrote
returns-clause-wrote c = opened_pushed c.args.around c.args.opened.id c.args.opened.width c.args.opened.first c.args.opened.body (take c.args.at c.args.bytes.now) _ _ _ _ _ _ c.put_after-first.ensures.wrote c.put_after-depth.ensures.wrote c.put_after-id.ensures.wrote c.put_after-width.ensures.wrote c.put_after-body.ensures.wrote c.put_text.ensures.wrote
