use Rattle.std.proofs.Common.{◌≡◌, ◌++◌, take, string_bytes}
use Rattle.std.specs.Prelude.{flat_map}
use Rattle.bit_scan.specs.Json.{field_json, fields_told}
use Rattle.bit_scan.proofs.json.push_fields.Given as goal

abbrev pub invariant-loop-key : goal.invariant-loop-key
invariant-loop-key l = string_bytes l.text ≡ string_bytes l.initial.text ++ flat_map field_json (fields_told (take l.key-index l.fields))
