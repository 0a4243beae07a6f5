use Rattle.std.proofs.Common.{◌≡◌, ◌≤◌, drop}
use Rattle.bit_grammar.specs.Forest.{forest_depth}
use Rattle.bit_tree.specs.Judging.{keeps_info_rule}
use Rattle.bit_tree.specs.TreeView.{forest_of_blocks}
use Rattle.bit_tree.proofs.judging.keep_info_rule.Given as goal

abbrev pub invariant-loop-block : goal.invariant-loop-block
invariant-loop-block l = record {
  rule : keeps_info_rule (forest_of_blocks (drop l.block-index l.blocks)) ≡ keeps_info_rule (forest_of_blocks l.blocks);
  depth : forest_depth (forest_of_blocks (drop l.block-index l.blocks)) ≤ 255;
}
