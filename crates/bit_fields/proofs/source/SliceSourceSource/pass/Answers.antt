use Rattle.std.proofs.Common.{arith}
use Rattle.bit_fields.proofs.Words.{slice_passed}
use Rattle.bit_fields.proofs.source.SliceSourceSource.pass.Goals as goal

pub returns-clause-passes : goal.returns-clause-passes
returns-clause-passes c = slice_passed c.args.self.now.rest.now c.args.self.now.pulls c.args.most c.min-count.result (omega arith) c.requires c.min-count.ensures
