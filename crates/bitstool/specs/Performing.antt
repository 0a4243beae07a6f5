-- The steps of carrying out a command.
use Rattle.std.specs.Prelude.{◌≡◌, ◌⊎◌, ⊤, ℕ, ◌<◌, ◌≤◌, Bool, List, length, Option, Some, None, Result, Ok, Err, IfSome, IsSome, option_map, take, drop, codes, ◌+◌}
use Rattle.std.specs.Io.KnownBytes.{Consumes, IsAtEnd, Keeps}
use Rattle.bit_grammar.specs.Setting.{Setting}
use Rattle.bit_grammar.specs.Grammar.{at}
use Rattle.bit_grammar.specs.Forest.{Tree}
use Rattle.bit_grammar.specs.Blocks.{Limits}
use Rattle.bit_grammar.specs.Input.{BreaksInput, Accepts}
use Rattle.bit_grammar.specs.Normal.{HasTree}
use Rattle.bit_fields.specs.declared.fault.Fault.{Fault}
use Rattle.bit_fields.specs.declared.fault.Fault.TheVariants as fault
use Rattle.bit_fields.specs.declared.sink.SinkFailed.{SinkFailed}
use Rattle.bit_fields.specs.declared.source.SourceFailed.{SourceFailed}
use Rattle.bit_fields.specs.Devices.{Incoming, Outgoing, Spends, Fails}
use Rattle.bit_text.specs.declared.fault.AssembleFault.{AssembleFault}
use Rattle.bit_text.specs.declared.fault.AssembleFault.TheVariants as text
use Rattle.bit_scan.specs.Written.{TookText, TookFront, HasFailed}
use Rattle.bit_norm.specs.Entries.{difference_shown}
use Rattle.bit_norm.specs.declared.differences.Difference.{Difference}
use Rattle.bit_norm.specs.declared.comparing.Which.{Which}
use Rattle.bit_norm.specs.declared.comparing.Which.TheVariants.{First, Second}
use Rattle.bitstool.specs.declared.outcome.Outcome.{Outcome}
use Rattle.bitstool.specs.declared.outcome.Outcome.TheVariants.{Done, Different, Refused, RefusedOf, RefusedLine, TooLong, Usage, Read, Write, Memory}
use Rattle.bitstool.specs.declared.task.Task.{Task}
use Rattle.bitstool.specs.declared.task.Explain.{Explain}
use Rattle.bitstool.specs.Differences.{different_text, same_text}
use Rattle.bitstool.specs.Runs.{ToldBytes, Answers, DifferFirst, Refuses, EndsAs, TakesInput, StaysOutput, PaysForRun}

-- a sink took all of a text; or a prefix of it, because it failed
abbrev pub PutsAll : List ℕ → Outgoing → Result (Unit {0}) SinkFailed → Outgoing → Type 0
PutsAll text old (Ok _) new = TookText text old new
PutsAll text old (Err e) new = TookFront text old new × HasFailed old new

-- the outcome of a fault, under this limit on bytes; a call on a whole input never returns `Failed`
abbrev pub outcome_of : ℕ → Fault → Outcome
outcome_of limit (fault.Refused reason bit) = Refused reason bit
outcome_of limit fault.Read = Read
outcome_of limit fault.Write = Write
outcome_of limit fault.Memory = Memory
outcome_of limit fault.OutputTooLong = TooLong limit
outcome_of limit fault.Failed = Read

-- the same for a fault of one of two inputs
abbrev pub outcome_in : Which → ℕ → Fault → Outcome
outcome_in which limit (fault.Refused reason bit) = RefusedOf which reason bit
outcome_in which limit fault.Read = Read
outcome_in which limit fault.Write = Write
outcome_in which limit fault.Memory = Memory
outcome_in which limit fault.OutputTooLong = TooLong limit
outcome_in which limit fault.Failed = Read

-- the outcome of writing a text, under this limit on bytes
abbrev pub outcome_of_writing : ℕ → Result (Unit {0}) Fault → Outcome
outcome_of_writing limit (Ok _) = Done
outcome_of_writing limit (Err fault) = outcome_of limit fault

-- the outcome of assembling a listing, under this limit on bytes
abbrev pub outcome_of_assembling : ℕ → Result ℕ AssembleFault → Outcome
outcome_of_assembling limit (Ok count) = Done
outcome_of_assembling limit (Err (text.Refused reason line)) = RefusedLine reason line
outcome_of_assembling limit (Err (text.Fault fault)) = outcome_of limit fault

-- the finding of a command before it writes
abbrev pub FindsForTask : Task → ToldBytes → Outcome → Type 0
FindsForTask task input Done = (bits : List Bool) × Answers task input Done bits
FindsForTask task input Different = (bits : List Bool) × Answers task input Different bits
FindsForTask task input (Refused reason bit) = Refuses task input (Refused reason bit)
FindsForTask task input (RefusedOf which reason bit) = Refuses task input
    (RefusedOf which reason bit)
FindsForTask task input (RefusedLine reason line) = Refuses task input (RefusedLine reason line)
FindsForTask task input (TooLong limit) = Refuses task input (TooLong limit)
FindsForTask task input Usage = ⊥
FindsForTask task input Read = ⊤
FindsForTask task input Write = ⊥
FindsForTask task input Memory = ⊤

-- and what it took of its input for that
abbrev pub Judges : Task → Incoming → Incoming → Outcome → Type 0
Judges task i now outcome = TakesInput task i now outcome × FindsForTask task i.to_come outcome

-- the result for two inputs: this first difference, or none; or another outcome
abbrev pub Found : Type 0
Found = Result (Option Difference) Outcome

-- as an outcome
abbrev pub outcome_found : Found → Outcome
outcome_found (Ok None) = Done
outcome_found (Ok (Some difference)) = Different
outcome_found (Err outcome) = outcome

-- Two inputs were compared: both have this tree; or they first differ at this place; or one breaks with this fault, the second
-- after the first was accepted; or a source failed, or an allocation failed.
abbrev pub ComparesTold : Setting → Limits → (a b : ToldBytes) → Found → Type 0
ComparesTold setting limits a b (Ok None) = IfSome a (λ x. IfSome b (λ y. (tree : Tree)
    × HasTree setting limits x tree × HasTree setting limits y tree))
ComparesTold setting limits a b (Ok (Some difference)) = IfSome a
    (λ x. IfSome b (λ y. DifferFirst setting limits x y (difference_shown difference)))
ComparesTold setting limits a b (Err (RefusedOf First reason bit)) = IfSome a
    (λ x. BreaksInput limits x (at reason bit))
ComparesTold setting limits a b (Err (RefusedOf Second reason bit)) = IfSome a
    (λ x. IfSome b (λ y. Accepts limits x × BreaksInput limits y (at reason bit)))
ComparesTold setting limits a b (Err Read) = ⊤
ComparesTold setting limits a b (Err Memory) = ⊤
ComparesTold setting limits a b (Err outcome) = ⊥

-- so were the first `first` bytes of an input and the rest
abbrev pub ComparesParts : Setting → Limits → ℕ → ToldBytes → Found → Type 0
ComparesParts setting limits first input = ComparesTold setting limits
    (option_map (take first) input) (option_map (drop first) input)

-- an answer was written as this line; or the output failed, and took a prefix of it
abbrev pub TellsLine : Outcome → List ℕ → Outgoing → Outcome → Outgoing → Type 0
TellsLine answer line old after new = ((after ≡ answer) × TookText line old new)
    ⊎ ((after ≡ Write) × TookFront line old new × HasFailed old new)

-- a difference was reported; or the output failed; or there was no memory for the lines, and the output is unchanged
abbrev pub TellsDifference : List ℕ → Outgoing → Outcome → Outgoing → Type 0
TellsDifference lines old after new = TellsLine Different lines old after new
    ⊎ ((after ≡ Memory) × (new ≡ old))

-- the result for two inputs was reported
abbrev pub TellsFound : Explain → Found → Outgoing → Outcome → Outgoing → Type 0
TellsFound explain (Ok None) old after new = TellsLine Done (same_text explain) old after new
TellsFound explain (Ok (Some difference)) old after new = TellsDifference
    (different_text explain (difference_shown difference)) old after new
TellsFound explain (Err outcome) old after new = (after ≡ outcome) × (new ≡ old)

-- the outcome after a flush: unchanged, or the output failed; the bytes are unchanged
abbrev pub Settles : Outcome → Outgoing → Outcome → Outgoing → Type 0
Settles outcome old after new =
    ((after ≡ outcome) × StaysOutput old new)
    ⊎ ((after ≡ Write) × Keeps old.bytes new.bytes × (old.failures ≤ new.failures)
    × HasFailed old new)
