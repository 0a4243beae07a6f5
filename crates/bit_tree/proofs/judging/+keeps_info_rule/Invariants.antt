use Rattle.std.proofs.Common.{◌≡◌, ◌≤◌, drop}
use Rattle.bit_grammar.specs.Forest.{forest_depth}
use Rattle.bit_tree.specs.Judging.{keeps_info_rule}
use Rattle.bit_tree.specs.TreeView.{forest_of_items}
use Rattle.bit_tree.proofs.judging.+keeps_info_rule.Given as goal

abbrev pub invariant-loop-item : goal.invariant-loop-item
invariant-loop-item l = record {
  rule : keeps_info_rule (forest_of_items (drop l.item-index l.item-items)) ≡ keeps_info_rule l.items;
  depth : forest_depth (forest_of_items (drop l.item-index l.item-items)) ≤ 255;
}
