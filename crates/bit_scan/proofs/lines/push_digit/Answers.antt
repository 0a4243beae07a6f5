use Rattle.std.proofs.Common.{rules}
use Rattle.std.proofs.lemmas.Fmt.{decimal_digit}
use Rattle.bit_scan.proofs.lines.push_digit.Goals as goal

pub returns : goal.returns
returns c = search (rules, decimal_digit)
