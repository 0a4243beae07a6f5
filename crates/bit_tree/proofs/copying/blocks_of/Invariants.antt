use Rattle.std.proofs.Common.{◌≡◌, drop}
use Rattle.bit_grammar.specs.Setting.{setting_of}
use Rattle.bit_tree.proofs.Copies.{left_of}
use Rattle.bit_tree.specs.MarkedView.{marks_of_blocks}
use Rattle.bit_tree.specs.TreeView.{put_blocks}
use Rattle.bit_tree.proofs.copying.blocks_of.Given as goal

abbrev pub invariant-loop-block : goal.invariant-loop-block
invariant-loop-block l = put_blocks l.blocks.items (left_of (setting_of l.info) 0 (marks_of_blocks (drop l.block-index l.marked))) ≡ left_of (setting_of l.info) 0 (marks_of_blocks l.marked)
