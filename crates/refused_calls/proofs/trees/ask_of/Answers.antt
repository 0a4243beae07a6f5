use Rattle.bit_grammar.specs.Setting.{drop_info}
use Rattle.bit_grammar.specs.Input.{tree_of}
use Rattle.bit_grammar.proofs.NormalForms.Under.{fit_under}
use Rattle.refused_calls.proofs.trees.ask_of.Goals as goal

pub tree_with-requires : goal.tree_with-requires
tree_with-requires c = fit_under drop_info (tree_of c.args.marked.now) c.requires
