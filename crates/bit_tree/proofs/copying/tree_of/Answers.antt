use Rattle.std.proofs.Common.{◌≡◌, subst}
use Rattle.std.specs.Prelude.{IfOk}
use Rattle.bit_grammar.specs.Forest.{Tree}
use Rattle.bit_grammar.specs.Input as input
use Rattle.bit_grammar.proofs.NormalForms.Under.{tree_kept, kept_fit}
use Rattle.bit_tree.proofs.copying.tree_of.Goals as goal

pub tree_with-requires : goal.tree_with-requires
tree_with-requires c = kept_fit (input.tree_of c.args.marked.now) c.requires

pub returns : goal.returns
returns c = subst (λ (t : Tree). IfOk c.tree_with.result (λ document. document ≡ t)) (tree_kept (input.tree_of c.args.marked.now)) c.tree_with.ensures
