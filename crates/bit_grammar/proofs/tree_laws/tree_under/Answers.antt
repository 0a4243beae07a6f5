use Rattle.bit_grammar.proofs.NormalForms.Under.{tree_kept, under_again, fit_under, items_fit, items_are_blocks, depth_under, values_under}
use Rattle.bit_grammar.proofs.tree_laws.tree_under.Goals as goal

pub returns : goal.returns
returns c = record { kept = tree_kept; again = under_again; fit = fit_under; fit_items = items_fit; blocks = items_are_blocks; depth = depth_under; values = values_under }
