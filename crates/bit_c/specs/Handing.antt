-- Results that are handed out into the caller's room.
use Rattle.std.specs.Prelude.{◌≡◌, ◌<◌, ◌≤◌, ◌++◌, ℕ, Bool, true, false, List, length, drop, Option, Some, None, Result, Ok, Err}
use Rattle.std.specs.Global.{Vec}
use Rattle.bit_c.specs.declared.outcome.Outcome.{Outcome}
use Rattle.bit_c.specs.declared.outcome.Outcome.TheVariants.{Done, Memory, Room}

-- the room is large enough, and the items are at its start; or it is not, and is unchanged
abbrev pub FillsRoom : {A : Type 0} → List A → List A → Bool → List A → Type 0
FillsRoom items old true new = (length items ≤ length old)
    × (new ≡ items ++ drop (length items) old)
FillsRoom items old false new = (length old < length items) × (new ≡ old)

-- items were handed out, and their number set; or the room is too small
abbrev pub HandsOut : {A : Type 0} → List A → List A → ℕ → List A → Outcome → Type 0
HandsOut items old needed new Done = (needed ≡ length items) × FillsRoom items old true new
HandsOut items old needed new Room = (needed ≡ length items) × FillsRoom items old false new
HandsOut items old needed new outcome = ⊥

-- nothing was handed out
abbrev pub LeavesRoom : {A : Type 0} → List A → ℕ → List A → Type 0
LeavesRoom old needed new = (needed ≡ 0) × (new ≡ old)

-- a text was handed out, or the room is too small for it; or an allocation failed
abbrev pub HandsKept : List ℕ → List ℕ → ℕ → List ℕ → Outcome → Type 0
HandsKept text old needed new Memory = LeavesRoom old needed new
HandsKept text old needed new outcome = HandsOut text old needed new outcome

-- a sink kept its text, or not
abbrev pub KeepsText : List ℕ → Result (Vec ℕ) Outcome → Type 0
KeepsText took (Ok text) = text.items ≡ took
KeepsText took (Err outcome) = outcome ≡ Memory

-- The result of a call was handed out, if the call succeeded.
abbrev pub Hands : Outcome → Option (List ℕ) → List ℕ → ℕ → List ℕ → Outcome → Type 0
Hands Done (Some text) old needed new outcome = HandsKept text old needed new outcome
Hands Done None old needed new outcome = ⊥
Hands made text old needed new outcome = LeavesRoom old needed new × (outcome ≡ made)

-- ---- texts

-- A text with this property was made; or none, and this holds of the outcome.
abbrev pub Makes : (IsText : List ℕ → Type 0) → (Stops : Outcome → Type 0) → Outcome
    → Option (List ℕ) → Type 0
Makes IsText Stops Done (Some text) = IsText text
Makes IsText Stops Done None = ⊥
Makes IsText Stops Room text = ⊥
Makes IsText Stops outcome text = Stops outcome

-- A text with this property was handed out, and its length set; or the room is too small for it, and its length was set; or
-- nothing was handed out, and this holds of the outcome.
abbrev pub HandsText : (IsText : List ℕ → Type 0) → (Stops : Outcome → Type 0) → List ℕ → ℕ → List ℕ
    → Outcome → Type 0
HandsText IsText Stops old needed new Done = (text : List ℕ) × IsText text
    × HandsOut text old needed new Done
HandsText IsText Stops old needed new Room = (text : List ℕ) × IsText text
    × HandsOut text old needed new Room
HandsText IsText Stops old needed new outcome = Stops outcome × LeavesRoom old needed new
