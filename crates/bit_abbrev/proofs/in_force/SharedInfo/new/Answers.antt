use Rattle.std.proofs.Common.{refl}
use Rattle.std.proofs.Math.Path.{fun_ext}
use Rattle.bit_abbrev.specs.Ready.{table_of}
use Rattle.bit_abbrev.proofs.in_force.SharedInfo.new.Goals as goal

pub returns : goal.returns
unfolding table_of
returns c = fun_ext (λ id. refl)
