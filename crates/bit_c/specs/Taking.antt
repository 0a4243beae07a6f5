-- A held text, handed out piece by piece.
use Rattle.std.specs.Prelude.{◌≡◌, ℕ, true, List, length, take, drop, min, Option, Some, None}
use Rattle.bit_c.specs.declared.home.HeldText.{HeldText}
use Rattle.bit_c.specs.declared.home.Home.{Home}
use Rattle.bit_c.specs.declared.home.Home.TheVariants as home
use Rattle.bit_c.specs.declared.outcome.Outcome.{Outcome}
use Rattle.bit_c.specs.declared.outcome.Outcome.TheVariants.{Done, Closed}
use Rattle.bit_c.specs.Handing.{FillsRoom, LeavesRoom}

-- the bytes of a text that were not taken yet
abbrev pub rest_of : HeldText → List ℕ
rest_of held = drop held.taken held.text.items

-- The next bytes of a text are at the start of the room: all remaining ones, or as many as fit. They are taken, and the text is
-- unchanged.
pub record TakesNext (old : HeldText) (room : List ℕ) (taken : ℕ) (filled : List ℕ)
    (new : HeldText) : Type 0 where
  pub count : taken ≡ min (length (rest_of old)) (length room)
  pub fills : FillsRoom (take taken (rest_of old)) room true filled
  pub rest : rest_of new ≡ drop taken (rest_of old)
  pub text : new.text ≡ old.text

-- the same for the object of a handle; if it is no text, the outcome is `Closed`
abbrev pub TakesIn : Home → List ℕ → ℕ → List ℕ → Home → Outcome → Type 0
TakesIn (home.Text old) room taken filled (home.Text new) outcome = (outcome ≡ Done)
    × TakesNext old room taken filled new
TakesIn (home.Text old) room taken filled other outcome = ⊥
TakesIn old room taken filled new outcome = (outcome ≡ Closed) × LeavesRoom room taken filled
    × (new ≡ old)

-- The next bytes of the held text were handed out; or none is held, and the outcome reports that.
abbrev pub Takes : Option Home → List ℕ → ℕ → List ℕ → Option Home → Outcome → Type 0
Takes (Some old) room taken filled (Some new) outcome = TakesIn old room taken filled new outcome
Takes None room taken filled None outcome = (outcome ≡ Closed) × LeavesRoom room taken filled
Takes old room taken filled new outcome = ⊥
