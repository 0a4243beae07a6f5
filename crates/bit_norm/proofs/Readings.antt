-- Inputs that were not read.
use Rattle.std.proofs.Common.{refl, Err}
use Rattle.bit_grammar.specs.Setting.{Setting}
use Rattle.bit_grammar.specs.Blocks.{Limits}
use Rattle.bit_fields.specs.declared.fault.Fault.{Fault}
use Rattle.bit_fields.specs.declared.fault.Fault.TheVariants.{Refused, Read, Write, Memory, OutputTooLong, Failed}
use Rattle.bit_fields.specs.Devices.{Incoming, Outgoing}
use Rattle.bit_norm.specs.Whole.{ReadsTree, Normalises}

-- nothing was written
pub not_read : (s : Setting) (limits : Limits) (i : Incoming) (o : Outgoing) (fault : Fault) (now : Incoming) → ReadsTree s limits i (Err fault) now → Normalises s limits i o (Err fault) now o
not_read s limits i o (Refused reason bit) now r = (r, refl)
not_read s limits i o Read now r = (r, refl)
not_read s limits i o Memory now r = (r, refl)
not_read s limits i o Write now r = absurd r
not_read s limits i o OutputTooLong now r = absurd r
not_read s limits i o Failed now r = r
