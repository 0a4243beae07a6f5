use Rattle.std.proofs.Common.{rules, string_bytes}
use Rattle.bit_scan.proofs.Appending.{digits_pushed}
use Rattle.bit_scan.proofs.lines.push_magic_digits.Goals as goal

pub returns : goal.returns
returns c = digits_pushed c.args.magic (search rules) (search rules) c.push_bytes.result (string_bytes c.args.text.now) (string_bytes c.push_bytes.new.text) c.push_bytes.ensures
