use Rattle.std.proofs.Common.{◌^◌, arith}
use Rattle.bit_tree.proofs.Depths.{all_of_each}
use Rattle.bit_tree.proofs.judging.known_record.Goals as goal

pub returns-clause-values : goal.returns-clause-values
returns-clause-values c = all_of_each (2 ^ 64) c.args.values.now (λ k. omega (arith, c.type_inv.values k))
