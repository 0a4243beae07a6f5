-- Text that is added to a buffer.
use Rattle.std.specs.Prelude.{◌≡◌, List, ℕ, ⊤, ◌++◌, Bool, true, false, Result, Ok, Err}
use Rattle.std.specs.declared.alloc.AllocError.{AllocError}

-- a text was added, or it was left out, or an allocation failed
abbrev pub Adds : (text old : List ℕ) → Result Bool AllocError → (new : List ℕ) → Type 0
Adds text old (Ok true) new = new ≡ old ++ text
Adds text old (Ok false) new = new ≡ old
Adds text old (Err error) new = ⊤
