-- The exit status of an outcome, and its line on the errors.
use Rattle.std.specs.Prelude.{ℕ, List, [], ◌++◌, codes, decimal}
use Rattle.bit_grammar.specs.declared.reason.Reason.{Reason}
use Rattle.bit_grammar.specs.Reasons.{name_of}
use Rattle.bit_text.specs.Reasons as TextReasons
use Rattle.bit_norm.specs.declared.comparing.Which.{Which}
use Rattle.bit_norm.specs.declared.comparing.Which.TheVariants.{First, Second}
use Rattle.bitstool.specs.declared.outcome.Outcome.{Outcome}
use Rattle.bitstool.specs.declared.outcome.Outcome.TheVariants.{Done, Different, Refused, RefusedOf, RefusedLine, TooLong, Usage, Read, Write, Memory}

abbrev pub status_of : Outcome → ℕ
status_of Done = 0
status_of Different = 1
status_of (Refused reason bit) = 1
status_of (RefusedOf which reason bit) = 1
status_of (RefusedLine reason line) = 1
status_of (TooLong limit) = 1
status_of Usage = 2
status_of Read = 3
status_of Write = 3
status_of Memory = 3

-- a reason and where it is, to the end of the line
abbrev pub refused_at : (reason place : List ℕ) → (number : ℕ) → List ℕ
refused_at reason place number = reason ++ (place ++ (decimal number ++ codes "\n"))

-- the beginning of the line if one of two inputs is refused
abbrev pub start_of : Which → List ℕ
start_of First = codes "refused: first: "
start_of Second = codes "refused: second: "

-- the line, if there is one
abbrev pub line_of : Outcome → List ℕ
line_of Done = []
line_of Different = []
line_of (Refused reason bit) = codes "refused: "
    ++ refused_at (name_of reason) (codes " at bit ") bit
line_of (RefusedOf which reason bit) = start_of which
    ++ refused_at (name_of reason) (codes " at bit ") bit
line_of (RefusedLine reason line) = codes "refused: "
    ++ refused_at (TextReasons.name_of reason) (codes " at line ") line
line_of (TooLong limit) = codes "refused: normal form longer than "
    ++ (decimal limit ++ codes " bytes\n")
line_of Usage = []
line_of Read = codes "fault: read failed\n"
line_of Write = codes "fault: write failed\n"
line_of Memory = codes "fault: no memory\n"
