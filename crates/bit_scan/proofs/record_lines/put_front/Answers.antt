use Rattle.std.proofs.Common.{take}
use Rattle.bit_scan.proofs.Noted.{noted_pushed}
use Rattle.bit_scan.proofs.record_lines.put_front.Goals as goal

pub returns-clause-wrote : goal.returns-clause-wrote
returns-clause-wrote c =
    let n = c.args.noted in
    noted_pushed c.args.around n.first n.code n.abbreviation n.count (take c.args.at c.args.bytes.now) _ _ _ _ _ c.put_after-first.ensures.wrote c.put_after-depth.ensures.wrote c.put_after-code.ensures.wrote c.put_after-by.ensures.wrote c.put_after.ensures.wrote
