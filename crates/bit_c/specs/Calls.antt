-- The contracts of calls on bytes, by their outcome.
use Rattle.std.specs.Prelude.{◌≡◌, ⊤, ℕ, List}
use Rattle.bit_grammar.specs.Grammar.{at}
use Rattle.bit_grammar.specs.Blocks as blocks
use Rattle.bit_grammar.specs.Input.{BreaksInput, Accepts}
use Rattle.bit_c.specs.declared.outcome.Outcome.{Outcome}
use Rattle.bit_c.specs.declared.outcome.Outcome.TheVariants.{Done, Refused, Memory}

-- the bytes break with this fault; or an allocation failed
abbrev pub FailsCall : blocks.Limits → List ℕ → Outcome → Type 0
FailsCall limits bytes (Refused input reason bit) = (input ≡ 0)
    × BreaksInput limits bytes (at reason bit)
FailsCall limits bytes Memory = ⊤
FailsCall limits bytes outcome = ⊥

-- The bytes spell a marked tree; or they break with this fault; or an allocation failed.
abbrev pub Checks : blocks.Limits → List ℕ → Outcome → Type 0
Checks limits bytes Done = Accepts limits bytes
Checks limits bytes outcome = FailsCall limits bytes outcome
