-- The names of reasons, by number.
use Rattle.std.specs.Prelude.{◌≡◌, ◌⊎◌, ℕ, List, [], Option, Some, None}
use Rattle.bit_grammar.specs.declared.reason.Reason.{Reason}
use Rattle.bit_grammar.specs.Reasons.{number_of, name_of}
use Rattle.bit_text.specs.declared.reason.TextReason.{TextReason}
use Rattle.bit_text.specs.Reasons as texts
use Rattle.bit_c.specs.Ending.{text_number}

-- the reason has this number, or none has
abbrev pub IsReason : ℕ → Option Reason → Type 0
IsReason number (Some reason) = number ≡ number_of reason
IsReason number None = (reason : Reason) → number ≡ number_of reason → ⊥

-- the same for the reasons of listings
abbrev pub IsTextReason : ℕ → Option TextReason → Type 0
IsTextReason number (Some reason) = number ≡ text_number reason
IsTextReason number None = (reason : TextReason) → number ≡ text_number reason → ⊥

-- the name is that of the reason with this number; or no reason has the number, and it is empty
abbrev pub Names : ℕ → List ℕ → Type 0
Names number name = ((reason : Reason) × (number ≡ number_of reason) × (name ≡ name_of reason))
    ⊎ ((reason : TextReason) × (number ≡ text_number reason) × (name ≡ texts.name_of reason))
    ⊎ (IsReason number None × IsTextReason number None × (name ≡ []))
