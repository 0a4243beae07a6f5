use Rattle.bit_tree.specs.TreeView.{tree_with}
use Rattle.bit_tree.proofs.Documents.{unfit}
use Rattle.bit_tree.proofs.document.Document.new.Goals as goal

pub returns-in-Some-clause-fit : goal.returns-in-Some-clause-fit
returns-in-Some-clause-fit c = (λ e. absurd cc, λ fit. absurd (unfit (tree_with c.args.magic c.deref.result.now) c.in-Some.reason c.in-Some.ensures.some (rw c.deref.ensures.value fit)))
