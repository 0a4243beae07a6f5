use Rattle.std.proofs.Common.{string_bytes}
use Rattle.std.specs.Prelude.{codes, flat_map}
use Rattle.bit_grammar.specs.Texts.{hex_text, magic_bytes}
use Rattle.bit_fields.specs.Opening.{magic_number}
use Rattle.bit_scan.proofs.Appending.{then_pushed}
use Rattle.bit_scan.proofs.lines.push_magic.Goals as goal

pub returns : goal.returns
returns c = then_pushed (codes "magic ") (flat_map hex_text (magic_bytes (magic_number c.args.magic))) c.push_magic_digits.result (string_bytes c.args.text.now) (string_bytes c.push_str.new.self) (string_bytes c.push_magic_digits.new.text) c.in_ok-push_str.ensures.bytes c.push_magic_digits.ensures
