use Rattle.std.proofs.Common.{◌≡◌, ◌+◌, ◌*◌, ◌≤◌, ◌++◌, length, take}
use Rattle.std.specs.Prelude.{flat_map}
use Rattle.bit_scan.specs.Json.{item_json}
use Rattle.bit_scan.proofs.record_lines.put_byte_items.Given as goal

abbrev pub invariant-loop-value : goal.invariant-loop-value
invariant-loop-value l = (l.at ≤ l.end) × (l.end ≤ l.at + 23 * l.value-index) × (length l.bytes ≡ length l.fn.bytes)
    × (take l.end l.bytes ≡ take l.at l.fn.bytes ++ flat_map item_json (take l.value-index l.values))
