-- Why a source over a reader failed.
use Rattle.std.specs.Prelude.{◌≢◌, Option, Some, None}
use Rattle.std.specs.declared.io.ErrorKind.{ErrorKind}
use Rattle.std.specs.declared.io.ErrorKind.TheVariants.{Interrupted}

-- the kind of an error that was a failure: no read that a signal interrupted is one
abbrev pub FailedOf : Option ErrorKind → Type 0
FailedOf None = ⊥
FailedOf (Some kind) = kind ≢ Interrupted
