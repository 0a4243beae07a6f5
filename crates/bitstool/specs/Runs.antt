-- What a command does with its input and its output, and what a run of the program does, over any devices.
use Rattle.std.specs.Prelude.{◌≡◌, ◌≢◌, ◌⊎◌, ⊤, ℕ, ◌+◌, ◌<◌, ◌≤◌, min, Bool, List, [], ◌++◌, take, drop, codes, Option, Some, IfSome, Ok, Err, string_bytes}
use Rattle.std.specs.Io.KnownBytes.{Keeps}
use Rattle.bit_grammar.specs.Setting.{Setting}
use Rattle.bit_grammar.specs.declared.reason.Reason.{Reason}
use Rattle.bit_grammar.specs.Bits.{bits_of_bytes}
use Rattle.bit_grammar.specs.Grammar.{at}
use Rattle.bit_grammar.specs.Forest.{Tree}
use Rattle.bit_grammar.specs.Blocks.{Limits}
use Rattle.bit_grammar.specs.declared.shapes.Shapes.{Shapes}
use Rattle.bit_grammar.specs.Input.{SpellsInput, BreaksInput, Accepts}
use Rattle.bit_grammar.specs.Terms.{Marked}
use Rattle.bit_grammar.specs.Normal.{HasTree, normal_form}
use Rattle.bit_grammar.specs.Size.{size_of}
use Rattle.bit_grammar.specs.Tally.{Tally}
use Rattle.bit_grammar.specs.Texts.{listing_of}
use Rattle.bit_grammar.specs.EventTexts.{outlook_end}
use Rattle.bit_grammar.specs.Machine.{Ending, accepted, broke}
use Rattle.bit_grammar.specs.Outlook.{Outlook, outlook}
use Rattle.bit_fields.specs.Devices.{Incoming, IsWorn, Outgoing, Spends, Fails}
use Rattle.bit_scan.specs.declared.format.EventStyle.{EventStyle}
use Rattle.bit_scan.specs.Analysing.{HasTally}
use Rattle.bit_scan.specs.Styles.{report_as, styled_outlook}
use Rattle.bit_text.specs.Listings.{reading_of}
use Rattle.bit_norm.specs.Entries.{FirstDifference, Seen}
use Rattle.bit_scan.specs.Written.{TookText, TookFront, HasFailed}
use Rattle.bit_norm.specs.declared.comparing.Which.TheVariants.{First, Second}
use Rattle.bitstool.specs.declared.outcome.Outcome.{Outcome}
use Rattle.bitstool.specs.declared.outcome.Outcome.TheVariants.{Done, Different, Refused, RefusedOf, RefusedLine, TooLong, Usage, Read, Write, Memory}
use Rattle.bitstool.specs.declared.task.Task.{Task}
use Rattle.bitstool.specs.declared.task.Task.TheVariants.{Check, Normal, Same, Analyse, Show, Events, Assemble}
use Rattle.bitstool.specs.declared.task.Parsed.{Parsed}
use Rattle.bitstool.specs.declared.task.Parsed.TheVariants as parsed
use Rattle.bitstool.specs.declared.task.Explain.{Explain}
use Rattle.bitstool.specs.declared.task.Explain.TheVariants.{Word}
use Rattle.bitstool.specs.Differences.{different_text, same_text}
use Rattle.bitstool.specs.LeftOut.{setting_for}
use Rattle.bitstool.specs.Outcome.{status_of, line_of}
use Rattle.bitstool.specs.declared.beginning.Beginning.{Beginning}
use Rattle.bitstool.specs.Beginning.{BeginsLike}
use Rattle.bitstool.specs.Tips.{tip_of}

-- ---- what a command reports of its input

-- the bytes of an input or of an output, if they are known
abbrev pub ToldBytes : Type 0
ToldBytes = Option (List ℕ)

-- the written text, as bits
abbrev pub SpellsText : List ℕ → List Bool → Type 0
SpellsText text bits = bits ≡ bits_of_bytes text

-- two inputs spell marked trees with this first difference
abbrev pub DifferFirst : Setting → Limits → (first second : List ℕ) → Seen → Type 0
DifferFirst setting limits first second seen =
    (a : Marked) × (b : Marked) × SpellsInput limits first a × SpellsInput limits second b
    × FirstDifference setting a b seen

-- The first `first` bytes of an input and the rest have two trees, and a word reports that; or, explained, lines report where
-- they first differ.
abbrev pub TellsApart : Explain → Setting → Limits → ℕ → ToldBytes → List Bool → Type 0
TellsApart Word setting limits first input bits = SpellsText (codes "different\n") bits
    × IfSome input (λ bytes. (a : Tree) × (b : Tree) × HasTree setting limits (take first bytes) a
    × HasTree setting limits (drop first bytes) b × (a ≢ b))
TellsApart explain setting limits first input bits = (seen : Seen)
    × SpellsText (different_text explain seen) bits × IfSome input
    (λ bytes. DifferFirst setting limits (take first bytes) (drop first bytes) seen)

-- The outlook of an input has this end, and these are the lines of its magic and its events, in this style.
abbrev pub TellsEvents : Limits → EventStyle → ToldBytes → Ending → List Bool → Type 0
TellsEvents limits style input end bits = (told : Outlook) × (outlook_end told ≡ end)
    × SpellsText (styled_outlook style told) bits
    × IfSome input (λ bytes. outlook limits bytes ≡ told)

-- The answer of a command with this outcome is true of its input and has these bits: a line, the normal form of the input's tree
-- under the setting, the report of its analysis, the listing of its tree under the setting, or the lines of its events. `events`
-- also has lines for an input that it refuses: those of the events before the fault.
abbrev pub Answers : Task → ToldBytes → Outcome → List Bool → Type 0
Answers (Check limits) input Done bits = SpellsText (codes "accepted\n") bits
    × IfSome input (Accepts limits)
Answers (Normal limits left) input Done bits = (tree : Tree) × (bits ≡ normal_form tree)
    × (size_of tree ≤ limits.bytes) × IfSome input
    (λ bytes. HasTree (setting_for left) limits bytes tree)
Answers (Same first explain limits left) input Done bits = SpellsText (same_text explain) bits
    × IfSome input (λ bytes. (tree : Tree) × HasTree (setting_for left) limits (take first bytes)
    tree × HasTree (setting_for left) limits (drop first bytes) tree)
Answers (Same first explain limits left) input Different bits = TellsApart explain
    (setting_for left) limits first input bits
Answers (Analyse limits format) input Done bits = (tally : Tally) × SpellsText (report_as format tally) bits
    × IfSome input (λ bytes. HasTally limits bytes tally)
Answers (Show limits left) input Done bits = (tree : Tree) × SpellsText (listing_of tree) bits
    × IfSome input (λ bytes. HasTree (setting_for left) limits bytes tree)
Answers (Events limits style) input Done bits = (bit : ℕ)
    × TellsEvents limits style input (accepted bit) bits
Answers (Events limits style) input (Refused reason bit) bits = TellsEvents limits style input
    (broke (at reason bit)) bits
Answers (Assemble limits) input Done bits = (tree : Tree) × (bits ≡ normal_form tree)
    × (size_of tree ≤ limits.bytes) × IfSome input (λ text. reading_of limits text ≡ Ok tree)
Answers task input outcome bits = ⊥

-- A refusal by a command, with this outcome, is true of its input.
abbrev pub Refuses : Task → ToldBytes → Outcome → Type 0
Refuses (Check limits) input (Refused reason bit) = IfSome input
    (λ bytes. BreaksInput limits bytes (at reason bit))
Refuses (Normal limits left) input (Refused reason bit) = IfSome input
    (λ bytes. BreaksInput limits bytes (at reason bit))
Refuses (Normal limits left) input (TooLong limit) = (limit ≡ limits.bytes)
    × IfSome input (λ bytes. (tree : Tree) × HasTree (setting_for left) limits bytes tree
    × (limits.bytes < size_of tree))
Refuses (Same first explain limits left) input (RefusedOf First reason bit) = IfSome input
    (λ bytes. BreaksInput limits (take first bytes) (at reason bit))
Refuses (Same first explain limits left) input (RefusedOf Second reason bit) = IfSome input
    (λ bytes. Accepts limits (take first bytes)
    × BreaksInput limits (drop first bytes) (at reason bit))
Refuses (Analyse limits format) input (Refused reason bit) = IfSome input
    (λ bytes. BreaksInput limits bytes (at reason bit))
Refuses (Show limits left) input (Refused reason bit) = IfSome input
    (λ bytes. BreaksInput limits bytes (at reason bit))
Refuses (Assemble limits) input (RefusedLine reason line) = IfSome input
    (λ text. reading_of limits text ≡ Err (reason, line))
Refuses (Assemble limits) input (TooLong limit) = (limit ≡ limits.bytes)
    × IfSome input (λ text. (tree : Tree) × (reading_of limits text ≡ Ok tree)
    × (limits.bytes < size_of tree))
Refuses task input outcome = ⊥

-- ---- the bytes that a command takes of its input

abbrev pub limits_of : Task → Limits
limits_of (Check limits) = limits
limits_of (Normal limits left) = limits
limits_of (Same first explain limits left) = limits
limits_of (Analyse limits format) = limits
limits_of (Show limits left) = limits
limits_of (Events limits style) = limits
limits_of (Assemble limits) = limits

-- The most bytes that a command takes of its input, and the most pulls that it makes: the limit on bytes, plus one. For two inputs
-- that is the most of each, and at most `first` bytes of the first. If the first is refused, the second is not read.
abbrev pub most_taken : Task → Outcome → ℕ
most_taken (Same first explain limits left) (RefusedOf First reason bit) = min first (limits.bytes + 1)
most_taken (Same first explain limits left) outcome = min first (limits.bytes + 1) + (limits.bytes + 1)
most_taken task outcome = (limits_of task).bytes + 1

-- an input whose bytes are known has none left
abbrev pub IsDrained : Incoming → Incoming → Type 0
IsDrained i now = IfSome i.to_come (λ bytes. now.to_come ≡ Some [])

-- The bytes and pulls of a run are at most `most`. The source did not fail, or it failed once if the input could not be read. If
-- the output or an allocation failed, the source may have failed before.
abbrev pub PaysForRun : Outcome → Incoming → (most : ℕ) → Incoming → Type 0
PaysForRun Read i most now = Fails i most now 0
PaysForRun Write i most now = Spends i most now 0 ⊎ Fails i most now 0
PaysForRun Memory i most now = Spends i most now 0 ⊎ Fails i most now 0
PaysForRun outcome i most now = Spends i most now 0

-- an input that was accepted is drained
abbrev pub EndsAs : Outcome → Incoming → Incoming → Type 0
EndsAs Done i now = IsDrained i now
EndsAs Different i now = IsDrained i now
EndsAs (TooLong limit) i now = IsDrained i now
EndsAs outcome i now = ⊤

-- A listing may have any length. The source failed once if it could not be read. If the output failed, the source may have failed
-- before.
abbrev pub TakesListing : Outcome → Incoming → Incoming → Type 0
TakesListing Read i now = (now.failures ≡ i.failures + 1) ⊎ IsWorn now
TakesListing Write i now = (now.failures ≡ i.failures)
    ⊎ ((now.failures ≡ i.failures + 1) ⊎ IsWorn now)
TakesListing outcome i now = now.failures ≡ i.failures

abbrev pub Pays : Task → Outcome → Incoming → Incoming → Type 0
Pays (Assemble limits) outcome i now = TakesListing outcome i now
Pays task outcome i now = PaysForRun outcome i (most_taken task outcome) now

abbrev pub TakesInput : Task → Incoming → Incoming → Outcome → Type 0
TakesInput task i now outcome = Pays task outcome i now × EndsAs outcome i now

-- ---- the bytes that a command leaves on the output

-- an output whose bytes are known gained bytes with these bits
abbrev pub GainsBits : List Bool → ToldBytes → ToldBytes → Type 0
GainsBits bits old new = IfSome old (λ held. (text : List ℕ) × (new ≡ Some (held ++ text))
    × (bits_of_bytes text ≡ bits))

-- it gained a prefix of them
abbrev pub GainsFront : List Bool → ToldBytes → ToldBytes → Type 0
GainsFront bits old new = IfSome old (λ held. (text : List ℕ) × (rest : List Bool)
    × (new ≡ Some (held ++ text)) × (bits_of_bytes text ++ rest ≡ bits))

-- it is unchanged, or gained a prefix of an answer
abbrev pub StopsShort : Task → ToldBytes → ToldBytes → ToldBytes → Type 0
StopsShort task input old new = Keeps old new
    ⊎ ((bits : List Bool) × (answer : Outcome) × Answers task input answer bits
    × GainsFront bits old new)

-- If an allocation fails, the output is unchanged. But it may have a prefix of a report, of a listing or of events, because their
-- lines are made while they are written.
abbrev pub LacksMemory : Task → ToldBytes → ToldBytes → ToldBytes → Type 0
LacksMemory (Analyse limits format) input old new = StopsShort (Analyse limits format) input old new
LacksMemory (Show limits left) input old new = StopsShort (Show limits left) input old new
LacksMemory (Events limits style) input old new = StopsShort (Events limits style) input old new
LacksMemory task input old new = Keeps old new

-- the bytes are unchanged, and the output did not fail
abbrev pub StaysOutput : Outgoing → Outgoing → Type 0
StaysOutput old new = Keeps old.bytes new.bytes × (new.failures ≡ old.failures)

-- a whole answer was written, and the output did not fail
abbrev pub WritesAnswer : Task → ToldBytes → Outcome → Outgoing → Outgoing → Type 0
WritesAnswer task input outcome old new = (bits : List Bool) × Answers task input outcome bits
    × GainsBits bits old.bytes new.bytes × (new.failures ≡ old.failures)

-- if the input is refused, the output is unchanged; but it has the lines of the events before the fault
abbrev pub LeavesRefused : Task → ToldBytes → Reason → ℕ → Outgoing → Outgoing → Type 0
LeavesRefused (Events limits style) input reason bit old new = WritesAnswer (Events limits style)
    input (Refused reason bit) old new
LeavesRefused task input reason bit old new = Refuses task input (Refused reason bit)
    × StaysOutput old new

-- if the input could not be read, the output is unchanged; but it may have a prefix of the events
abbrev pub LeavesUnread : Task → ToldBytes → Outgoing → Outgoing → Type 0
LeavesUnread (Events limits style) input old new = StopsShort (Events limits style) input
    old.bytes new.bytes × (new.failures ≡ old.failures)
LeavesUnread task input old new = StaysOutput old new

-- The output by the outcome. An answer is written whole. A refusal, or a failure before the answer, writes nothing but the events
-- before it. If the output fails, and only then, it has nothing, or a prefix of an answer.
abbrev pub LeavesOutput : Task → ToldBytes → Outgoing → Outgoing → Outcome → Type 0
LeavesOutput task input old new Done = WritesAnswer task input Done old new
LeavesOutput task input old new Different = WritesAnswer task input Different old new
LeavesOutput task input old new (Refused reason bit) = LeavesRefused task input reason bit old new
LeavesOutput task input old new (RefusedOf which reason bit) = Refuses task input
    (RefusedOf which reason bit) × StaysOutput old new
LeavesOutput task input old new (RefusedLine reason line) = Refuses task input
    (RefusedLine reason line) × StaysOutput old new
LeavesOutput task input old new (TooLong limit) = Refuses task input (TooLong limit)
    × StaysOutput old new
LeavesOutput task input old new Usage = ⊥
LeavesOutput task input old new Read = LeavesUnread task input old new
LeavesOutput task input old new Write = StopsShort task input old.bytes new.bytes
    × HasFailed old new
LeavesOutput task input old new Memory = LacksMemory task input old.bytes new.bytes
    × (new.failures ≡ old.failures)

-- the contract of a command
abbrev pub Does : Task → Incoming → Incoming → Outgoing → Outgoing → Outcome → Type 0
Does task i now old new outcome = TakesInput task i now outcome
    × LeavesOutput task i.to_come old new outcome

-- ---- a run

-- a whole text was written; or a prefix of it, because the writer failed
abbrev pub WritesOutput : List ℕ → Outgoing → Outgoing → Type 0
WritesOutput text old new = TookText text old new ⊎ (TookFront text old new × HasFailed old new)

-- a run ends with the status of an outcome, and its line on errors
abbrev pub TellsOutcome : Outcome → ℕ → Outgoing → Outgoing → Type 0
TellsOutcome outcome status errors last = (status ≡ status_of outcome)
    × WritesOutput (line_of outcome) errors last

-- a command ends with the status of an outcome, and its line and its tip on errors
abbrev pub TellsCommand : Shapes → Beginning → Outcome → ℕ → Outgoing → Outgoing → Type 0
TellsCommand shapes beginning outcome status errors last = (status ≡ status_of outcome)
    × WritesOutput (line_of outcome ++ tip_of shapes beginning outcome) errors last

-- the most bytes of an input that a tip may tell of: those of the first of two inputs
abbrev pub most_shown : Task → ℕ
most_shown (Same first explain limits left) = first
most_shown task = 8

-- a whole help text was written; or a prefix of it, because the output failed
abbrev pub Helps : List ℕ → Outgoing → Outgoing → Outcome → Type 0
Helps text old new Done = TookText text old new
Helps text old new Write = TookFront text old new × HasFailed old new
Helps text old new outcome = ⊥

-- A run by the meaning of the arguments. A command is carried out; help is written; the text of a usage fault goes to the errors,
-- with status 2; out of memory is reported. Only a command reads the input, and only a command and help write to the output.
abbrev pub Runs : Parsed → Incoming → Incoming → Outgoing → Outgoing → Outgoing → Outgoing → ℕ
    → Type 0
Runs (parsed.Task task) i now old new errors last status = (outcome : Outcome)
    × (beginning : Beginning) × Does task i now old new outcome
    × BeginsLike i.to_come (most_shown task) beginning
    × TellsCommand (limits_of task).shapes beginning outcome status errors last
Runs (parsed.Help text) i now old new errors last status =
    (now ≡ i) × ((outcome : Outcome) × Helps (string_bytes text) old new outcome
    × TellsOutcome outcome status errors last)
Runs (parsed.Usage text) i now old new errors last status = (now ≡ i) × (new ≡ old) × (status ≡ 2)
    × WritesOutput (string_bytes text) errors last
Runs parsed.Memory i now old new errors last status = (now ≡ i) × (new ≡ old)
    × TellsOutcome Memory status errors last
