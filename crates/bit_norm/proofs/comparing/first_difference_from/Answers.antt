use Rattle.bit_grammar.specs.Setting.{setting_of}
use Rattle.std.proofs.Common.{refl}
use Rattle.bit_norm.proofs.Comparisons.{finds_in_bytes, bytes_misread}
use Rattle.bit_norm.proofs.comparing.first_difference_from.Goals as goal

pub returns-in-Ok : goal.returns-in-Ok
returns-in-Ok g c =
    finds_in_bytes (setting_of c.args.info) c.args.limits c.args.first.now _ _ (g.B.Source.incoming c.args.b) (g.B.Source.incoming c.compare_checked.result.1) c.in-Ok.field-0 c.compare_checked.result.0 c.bytes-bytes.ensures.capped c.new.ensures refl (rw c.in-Ok.is at c.check-checked.ensures) c.compare_checked.ensures

pub returns-in-Err : goal.returns-in-Err
returns-in-Err g c = rw c.faulty.ensures (bytes_misread (setting_of c.args.info) c.args.limits c.args.first.now _ _ (g.B.Source.incoming c.args.b) c.in-Err.fault c.new.ensures refl (rw c.in-Err.is at c.check-checked.ensures))
