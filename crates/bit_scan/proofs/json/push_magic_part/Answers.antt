use Rattle.std.proofs.Common.{◌++◌, string_bytes}
use Rattle.std.specs.Prelude.{codes, flat_map}
use Rattle.bit_grammar.specs.Texts.{hex_text, magic_bytes}
use Rattle.bit_fields.specs.Opening.{magic_number}
use Rattle.bit_scan.specs.Json.{fields_told, text_front}
use Rattle.bit_scan.proofs.Appending.{pushed_on_ok, then_pushed}
use Rattle.bit_scan.proofs.json.push_magic_part.Goals as goal

pub returns : goal.returns
returns c =
    let front = text_front c.args.kind.now (fields_told c.args.fields.now) (codes "magic") in
    let digits = flat_map hex_text (magic_bytes (magic_number c.args.magic)) in
    let end = codes "\"" in
    let middle = string_bytes c.push_text_front.new.text in
    let new = string_bytes c.push_str.new.self in
    then_pushed front (digits ++ end) c.push_str.result (string_bytes c.args.text.now) middle new c.in_ok-push_text_front.ensures
    (then_pushed digits end c.push_str.result middle (string_bytes c.push_magic_digits.new.text) new c.in_ok-push_magic_digits.ensures (pushed_on_ok end c.push_str.result (string_bytes c.push_magic_digits.new.text) new c.push_str.ensures.bytes))
