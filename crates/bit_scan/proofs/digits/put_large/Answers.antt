use Rattle.std.proofs.Common.{◌≡◌, ◌+◌, ◌-◌, ◌/◌, length, take, arith}
use Rattle.std.specs.Prelude.{decimal}
use Rattle.bit_scan.proofs.Forwards.{large_wrote}
use Rattle.bit_scan.proofs.digits.put_large.Goals as goal

pub returns-clause-wrote : goal.returns-clause-wrote
returns-clause-wrote c =
    let n = c.args.number in
    let front : c.args.at + length (decimal (n / 1000)) ≡ c.args.at + c.put_short.result - 1 = omega (arith, c.put_short.ensures.count) in
    large_wrote n (take c.args.at c.args.bytes.now) _ _ c.requires.0 (omega arith) (rw front at c.put_short.ensures.wrote) c.put_last.ensures.wrote
