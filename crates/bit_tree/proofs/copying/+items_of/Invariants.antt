use Rattle.std.proofs.Common.{◌≡◌, drop}
use Rattle.bit_grammar.specs.Setting.{setting_of}
use Rattle.bit_tree.proofs.Copies.{left_of}
use Rattle.bit_tree.specs.MarkedView.{marks_of_items}
use Rattle.bit_tree.specs.TreeView.{put_items}
use Rattle.bit_tree.proofs.copying.+items_of.Given as goal

abbrev pub invariant-loop-item : goal.invariant-loop-item
invariant-loop-item l = put_items l.items.items (left_of (setting_of l.info) l.around (marks_of_items (drop l.item-index l.item-items))) ≡ left_of (setting_of l.info) l.around l.marked
