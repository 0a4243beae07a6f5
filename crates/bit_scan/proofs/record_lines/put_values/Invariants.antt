use Rattle.std.proofs.Common.{◌≡◌, ◌+◌, ◌*◌, ◌≤◌, ◌++◌, length, take}
use Rattle.bit_grammar.specs.Texts.{values_text}
use Rattle.bit_scan.proofs.record_lines.put_values.Given as goal

abbrev pub invariant-loop-value : goal.invariant-loop-value
invariant-loop-value l = (l.at ≤ l.end) × (l.end ≤ l.at + 21 * l.value-index) × (length l.bytes ≡ length l.fn.bytes)
    × (take l.end l.bytes ≡ take l.at l.fn.bytes ++ values_text (take l.value-index l.values))
