use Rattle.std.proofs.Common.{◌≡◌, ◌++◌, ◌^◌, take, string_bytes}
use Rattle.std.specs.Prelude.{flat_map}
use Rattle.std.specs.List.{AllByRecursion}
use Rattle.bitstool.specs.JsonDifferences.{BlockFits, open_json}
use Rattle.bitstool.proofs.json_differences.push_blocks.Given as goal

abbrev pub invariant-loop-block : goal.invariant-loop-block
invariant-loop-block l = (string_bytes l.text ≡ string_bytes l.initial.text ++ flat_map open_json (take l.block-index l.open))
    × AllByRecursion (BlockFits (2 ^ 64)) (take l.block-index l.open)
