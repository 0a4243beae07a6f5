use Rattle.bit_norm.proofs.Calls.{tell_tree, fit_tree, not_misplaced, only_trees}
use Rattle.bit_norm.proofs.writer_laws.calls_of_trees.Goals as goal

pub returns : goal.returns
returns c = record { tell = tell_tree; fit = fit_tree; misplaced = not_misplaced; all = only_trees }
