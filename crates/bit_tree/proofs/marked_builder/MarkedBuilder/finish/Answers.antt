use Rattle.bit_tree.proofs.Gathered.{built_whole}
use Rattle.bit_tree.proofs.marked_builder.MarkedBuilder.finish.Goals as goal

pub returns : goal.returns
returns c = λ m built. rw c.shrink_to_fit.ensures.items (built_whole m c.args.self built)
