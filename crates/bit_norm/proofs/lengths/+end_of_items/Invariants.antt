use Rattle.std.proofs.Common.{◌≡◌, ◌^◌, ◌<◌, drop}
use Rattle.bit_grammar.specs.Size.{end_of}
use Rattle.bit_tree.specs.TreeView.{forest_of_items}
use Rattle.bit_grammar.specs.Bits.{saturated}
use Rattle.bit_norm.proofs.lengths.+end_of_items.Given as goal

abbrev pub invariant-loop-item : goal.invariant-loop-item
invariant-loop-item l = record {
  so_far : saturated (end_of (forest_of_items (drop l.item-index l.item-items)) l.at) ≡ saturated (end_of l.items l.from);
  fits : l.at < 2 ^ 64;
}
