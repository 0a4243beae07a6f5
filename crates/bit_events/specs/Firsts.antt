-- A value sink that also has the first value.
use Rattle.std.specs.Prelude.{◌≡◌, ℕ, List, slice_get}
use Rattle.bit_events.specs.declared.with_first.WithFirst.{WithFirst}

-- it took these values, and has the first one of them, if there is one
abbrev pub TookWithFirst : {V : Type 0} → (took : V → List ℕ → Type 0) → WithFirst V → List ℕ
    → Type 0
TookWithFirst took w values = took w.taker values × (w.first ≡ slice_get values 0)
