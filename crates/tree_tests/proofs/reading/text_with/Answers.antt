use Rattle.bit_grammar.specs.Input as input
use Rattle.bit_grammar.specs.Setting.{setting_of}
use Rattle.bit_grammar.proofs.NormalForms.Under.{fit_under}
use Rattle.tree_tests.proofs.reading.text_with.Goals as goal

pub tree_with-requires : goal.tree_with-requires
tree_with-requires c = fit_under (setting_of c.args.info) (input.tree_of c.args.marked.now) c.requires
