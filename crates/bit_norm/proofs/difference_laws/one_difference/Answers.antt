use Rattle.bit_norm.proofs.Apart.{never_same}
use Rattle.bit_norm.proofs.OneDifference.{one_difference, some_difference}
use Rattle.bit_norm.proofs.difference_laws.one_difference.Goals as goal

pub returns : goal.returns
returns c = record { some = some_difference; none = never_same; one = one_difference }
