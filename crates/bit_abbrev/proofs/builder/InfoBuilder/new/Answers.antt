use Rattle.std.proofs.Common.{ℕ, List, [], ◌++◌, ap}
use Rattle.std.proofs.Math.Path.{fun_ext}
use Rattle.bit_grammar.specs.declared.op.Op.{Op}
use Rattle.bit_abbrev.specs.Groups.{ready_for}
use Rattle.bit_abbrev.specs.Ready.{table_of}
use Rattle.bit_abbrev.proofs.builder.InfoBuilder.new.Goals as goal

pub returns-clause-made : goal.returns-clause-made
unfolding table_of
returns-clause-made c = fun_ext (λ id. ap (λ (groups : List (ℕ × List (List Op))). ready_for groups id ++ []) c.new.ensures.items)
