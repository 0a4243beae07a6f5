use Rattle.std.proofs.Common.{refl}
use Rattle.bit_fields.proofs.window.Window.new.Goals as goal

pub returns : goal.returns
returns c = refl
