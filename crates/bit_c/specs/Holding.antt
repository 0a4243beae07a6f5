-- Texts held in a handle.
use Rattle.std.specs.Prelude.{◌≡◌, ⊤, ℕ, List, Option, Some, None}
use Rattle.bit_grammar.specs.Setting.{Setting}
use Rattle.bit_grammar.specs.Blocks as blocks
use Rattle.bit_c.specs.declared.home.Home.{Home}
use Rattle.bit_c.specs.declared.home.Home.TheVariants as home
use Rattle.bit_c.specs.declared.outcome.Outcome.{Outcome}
use Rattle.bit_c.specs.declared.outcome.Outcome.TheVariants.{Done, Memory, Closed}
use Rattle.bit_c.specs.declared.texts.Text.{Text}
use Rattle.bit_c.specs.Handing.{HandsOut, LeavesRoom}
use Rattle.bit_c.specs.Texts.{IsTextOf, FailsText}

-- a text was put into a handle; or an allocation failed, and the handle is closed
abbrev pub PutsBehind : List ℕ → Option Home → Outcome → Type 0
PutsBehind text (Some (home.Text made)) Done = (made.text.items ≡ text) × (made.taken ≡ 0)
PutsBehind text None Memory = ⊤
PutsBehind text new outcome = ⊥

-- The text was made and is held in a handle; or it was not, for this reason, and the handle is closed.
abbrev pub Holds : Text → Setting → blocks.Limits → List ℕ → Option Home → Outcome → Type 0
Holds text setting limits bytes (Some (home.Text made)) Done = IsTextOf text setting limits bytes
    made.text.items × (made.taken ≡ 0)
Holds text setting limits bytes (Some other) outcome = ⊥
Holds text setting limits bytes None outcome = FailsText text setting limits bytes outcome

-- The held text was handed out; or none is held, and the outcome reports that.
abbrev pub TellsText : Option (List ℕ) → List ℕ → ℕ → List ℕ → Outcome → Type 0
TellsText (Some text) old needed new outcome = HandsOut text old needed new outcome
TellsText None old needed new outcome = (outcome ≡ Closed) × LeavesRoom old needed new
