use Rattle.std.proofs.Common.{◌≡◌, ◌^◌, ◌<◌, drop}
use Rattle.bit_grammar.specs.Size.{end_of}
use Rattle.bit_tree.specs.TreeView.{forest_of_blocks}
use Rattle.bit_grammar.specs.Bits.{saturated}
use Rattle.bit_norm.proofs.lengths.end_of_blocks.Given as goal

abbrev pub invariant-loop-block : goal.invariant-loop-block
invariant-loop-block l = record {
  so_far : saturated (end_of (forest_of_blocks (drop l.block-index l.blocks)) l.at) ≡ saturated (end_of (forest_of_blocks l.blocks) l.from);
  fits : l.at < 2 ^ 64;
}
