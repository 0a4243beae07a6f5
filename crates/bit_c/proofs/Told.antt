-- Writers whose allocations fail.
use Rattle.std.proofs.Common.{◌≡◌, Option, Some, None, refl}
use Rattle.bit_norm.specs.Telling.{Call}
use Rattle.bit_norm.specs.declared.form_writer.FormWriter.{FormWriter}
use Rattle.bit_c.specs.Telling.{TellsHandle, TellsIn}
use Rattle.bit_c.specs.declared.home.Home.{Home}
use Rattle.bit_c.specs.declared.home.Home.TheVariants as home
use Rattle.bit_c.specs.declared.outcome.Outcome.TheVariants.{Memory}

lost : (call : Call) (old new : Home) → TellsIn call old new Memory → (writer : FormWriter) × (old ≡ home.Writing writer)
lost call (home.Writing writer) new h = (writer, refl)
lost call (home.Reading reading) new h = absurd (let e = h.0 in cc)
lost call (home.Text text) new h = absurd (let e = h.0 in cc)
lost call (home.Input bytes) new h = absurd (let e = h.0 in cc)

pub handle_lost : (call : Call) (before after : Option Home) (old new : Home) → before ≡ Some old → after ≡ None → TellsIn call old new Memory → TellsHandle call before after Memory
handle_lost call before after old new was closed h = rw (was, closed) (lost call old new h)
