-- Whether two inputs hold the same.
use Rattle.std.specs.Prelude.{◌≡◌, ◌≢◌, ◌⊎◌, ⊤, ℕ, List, Option, Some}
use Rattle.bit_grammar.specs.Setting.{Setting}
use Rattle.bit_grammar.specs.Grammar.{at}
use Rattle.bit_grammar.specs.Forest.{Tree}
use Rattle.bit_grammar.specs.Blocks as blocks
use Rattle.bit_grammar.specs.Input.{BreaksInput, Accepts}
use Rattle.bit_grammar.specs.Normal.{HasTree}
use Rattle.bit_norm.specs.declared.comparing.Which.{Which}
use Rattle.bit_norm.specs.declared.comparing.Which.TheVariants.{First, Second}
use Rattle.bit_c.specs.declared.outcome.Outcome.{Outcome}
use Rattle.bit_c.specs.declared.outcome.Outcome.TheVariants.{Done, Different, Refused, Memory, Closed}
use Rattle.bit_c.specs.declared.left_out.BsLeftOut.{BsLeftOut}
use Rattle.bit_c.specs.Limiting.{AsksWithin, setting_told}

-- the number of an input
abbrev pub input_of : Which → ℕ
input_of First = 0
input_of Second = 1

-- the first breaks with this fault; or the second does, and the first is accepted; or an allocation failed
abbrev pub Unread : blocks.Limits → List ℕ → List ℕ → Outcome → Type 0
Unread limits first second (Refused input reason bit) = ((input ≡ 0)
    × BreaksInput limits first (at reason bit))
    ⊎ ((input ≡ 1) × Accepts limits first × BreaksInput limits second (at reason bit))
Unread limits first second Memory = ⊤
Unread limits first second outcome = ⊥

-- Both spell one tree; or two that differ; or one was not read.
abbrev pub Sames : Setting → blocks.Limits → List ℕ → List ℕ → Outcome → Type 0
Sames setting limits first second Done = (tree : Tree) × HasTree setting limits first tree
    × HasTree setting limits second tree
Sames setting limits first second Different = (a : Tree) × (b : Tree)
    × HasTree setting limits first a × HasTree setting limits second b × (a ≢ b)
Sames setting limits first second outcome = Unread limits first second outcome

-- The inputs that two handles gather were compared; or one of them gathers none, and the outcome reports that.
abbrev pub SamesFed : blocks.Limits → BsLeftOut → (first second : Option (List ℕ)) → Outcome
    → Type 0
SamesFed limits out (Some first) (Some second) outcome = AsksWithin limits out ⊤
    (Sames (setting_told out) limits first second) outcome
SamesFed limits out first second outcome = outcome ≡ Closed
