-- The effect of the calls on whole inputs.
use Rattle.std.specs.Prelude.{◌≡◌, ◌↔◌, ℕ, Bool, true, false, IsTrue, IsSome, List, [], Option, Some, None, Result, Ok, Err, ⊤, codes, drop, option_map}
use Rattle.bit_grammar.specs.Setting.{Setting}
use Rattle.bit_grammar.specs.Forest.{Tree}
use Rattle.bit_grammar.specs.Blocks.{Limits}
use Rattle.bit_fields.specs.declared.fault.Fault.{Fault}
use Rattle.bit_fields.specs.declared.fault.Fault.TheVariants.{Refused, Read, Write, Memory, OutputTooLong, Failed}
use Rattle.bit_fields.specs.Devices.{Incoming, Outgoing}
use Rattle.bit_fields.specs.Front.{front_of}
use Rattle.bit_events.specs.Reading.{ReadsWhole}
use Rattle.bit_grammar.specs.Input.{SpellsInput}
use Rattle.bit_grammar.specs.Terms.{Marked}
use Rattle.bit_tree.specs.Reading.{HasFit}
use Rattle.bit_norm.specs.Entries.{Differs}
use Rattle.bit_norm.specs.declared.differences.Difference.{Difference}
use Rattle.bit_norm.specs.Writing.{WritesForm}
use Rattle.bit_norm.specs.declared.comparing.Which.{Which}
use Rattle.bit_norm.specs.declared.comparing.Which.TheVariants.{First, Second}
use Rattle.bit_norm.specs.declared.comparing.SameFault.{SameFault}

-- An input was read as its tree under a setting: this one, if it is known, and its source has no byte left; or it was not, for this
-- reason.
abbrev pub ReadsTree : Setting → Limits → Incoming → Result Tree Fault → Incoming → Type 0
ReadsTree setting limits = ReadsWhole (HasFit setting limits) limits

-- ---- normal forms

-- an input was read as a tree, and its normal form was used in this way
abbrev pub ReadsAndWrites : Setting → Limits → Incoming → Outgoing → Result ℕ Fault → Incoming
    → Outgoing → Type 0
ReadsAndWrites setting limits i old answer now new = (tree : Tree)
    × ReadsTree setting limits i (Ok tree) now × WritesForm tree limits.bytes old answer new

-- an input was not read, and nothing was written
abbrev pub WritesNothing : Setting → Limits → Incoming → Outgoing → Fault → Incoming → Outgoing
    → Type 0
WritesNothing setting limits i old fault now new = ReadsTree setting limits i (Err fault) now
    × (new ≡ old)

-- The sink took the normal form of the input's tree, and the result is its length in bytes; or a prefix of it; or nothing, because
-- it has more bytes than the limit; or the input was not read, and the sink took nothing.
abbrev pub Normalises : Setting → Limits → Incoming → Outgoing → Result ℕ Fault → Incoming
    → Outgoing → Type 0
Normalises setting limits i old (Ok count) now new = ReadsAndWrites setting limits i old (Ok count)
    now new
Normalises setting limits i old (Err Write) now new = ReadsAndWrites setting limits i old
    (Err Write) now new
Normalises setting limits i old (Err OutputTooLong) now new = ReadsAndWrites setting limits i old
    (Err OutputTooLong) now new
Normalises setting limits i old (Err (Refused reason bit)) now new = WritesNothing setting limits i
    old (Refused reason bit) now new
Normalises setting limits i old (Err Read) now new = WritesNothing setting limits i old Read now new
Normalises setting limits i old (Err Memory) now new = WritesNothing setting limits i old Memory now
    new
Normalises setting limits i old (Err Failed) now new = ⊥

-- ---- two inputs

-- the text of one of two inputs
abbrev pub which_text : Which → List ℕ
which_text First = codes "first"
which_text Second = codes "second"

-- an input was not read: the first, and the second was never called; or the second, after the first
abbrev pub Misreads : Setting → Limits → Which → Fault → (i j now later : Incoming) → Type 0
Misreads setting limits First fault i j now later = ReadsTree setting limits i (Err fault) now
    × (later ≡ j)
Misreads setting limits Second fault i j now later = (a : Tree)
    × ReadsTree setting limits i (Ok a) now × ReadsTree setting limits j (Err fault) later

-- Both inputs were read, and the result is whether their trees are the same; or one was not.
abbrev pub Compares : Setting → Limits → (i j : Incoming) → Result Bool SameFault
    → (now later : Incoming) → Type 0
Compares setting limits i j (Ok answer) now later = (a : Tree) × (b : Tree)
    × ReadsTree setting limits i (Ok a) now × ReadsTree setting limits j (Ok b) later
    × (IsTrue answer ↔ (a ≡ b))
Compares setting limits i j (Err e) now later = Misreads setting limits e.which e.fault i j now
    later

-- an input was read as its marked tree
abbrev pub ReadsMarked : Limits → Incoming → Marked → Incoming → Type 0
ReadsMarked limits i m now = ReadsWhole (λ (bytes : List ℕ) (m : Marked). SpellsInput limits bytes
    m) limits i (Ok m) now

-- Both inputs were read, and the result is where their trees first differ, if they do and are known; or one was not.
abbrev pub FindsDifference : Setting → Limits → (i j : Incoming)
    → Result (Option Difference) SameFault → (now later : Incoming) → Type 0
FindsDifference setting limits i j (Ok answer) now later = (a b : Marked)
    × ReadsMarked limits i a now × ReadsMarked limits j b later
    × (IsSome i.to_come → IsSome j.to_come → Differs setting a b answer)
FindsDifference setting limits i j (Err e) now later = Misreads setting limits e.which e.fault i j
    now later

-- the result is whether there is no difference, or the same fault
abbrev pub SaysNone : Result (Option Difference) SameFault → Result Bool SameFault → Type 0
SaysNone (Ok None) answer = answer ≡ Ok true
SaysNone (Ok (Some difference)) answer = answer ≡ Ok false
SaysNone (Err e) answer = answer ≡ Err e

-- a source of bytes that was never called
abbrev pub source_of : List ℕ → Incoming
source_of bytes = record { to_come = Some bytes; pulls = 0; failures = 0; accounts = [] }

-- the same for such a source, which never failed, and another one
abbrev pub FindsInBytes : Setting → Limits → (bytes : List ℕ) → (j : Incoming)
    → Result (Option Difference) SameFault → (later : Incoming) → Type 0
FindsInBytes setting limits bytes j answer later = (now : Incoming) × (now.failures ≡ 0)
    × FindsDifference setting limits (source_of bytes) j answer now later

-- the source of two inputs has what follows the first `first` bytes
abbrev pub HasRest : (first : ℕ) → (i j : Incoming) → Type 0
HasRest first i j = IsSome i.to_come → j.to_come ≡ option_map (drop first) i.to_come

-- so it is unless the first input was not read
abbrev pub HasRestUnless : Which → (first : ℕ) → (i j : Incoming) → Type 0
HasRestUnless First first i j = ⊤
HasRestUnless Second first i j = HasRest first i j

abbrev pub ReachesRest : (first : ℕ) → (i j : Incoming) → Result (Option Difference) SameFault
    → Type 0
ReachesRest first i j (Ok answer) = HasRest first i j
ReachesRest first i j (Err e) = HasRestUnless e.which first i j

-- The first `first` bytes of a source, or all if it has fewer, and its rest were compared. Between both the source was `j`.
abbrev pub FindsInParts : Setting → Limits → (first : ℕ) → (i : Incoming)
    → Result (Option Difference) SameFault → (later : Incoming) → Type 0
FindsInParts setting limits first i answer later = (left pulls failures : ℕ) × (j : Incoming)
    × FindsDifference setting limits (front_of first 0 0 i) j answer
    (front_of left pulls failures j) later × ReachesRest first i j answer

-- such a source, which never failed, and another one were compared
abbrev pub ComparesBytes : Setting → Limits → (bytes : List ℕ) → (j : Incoming)
    → Result Bool SameFault → (later : Incoming) → Type 0
ComparesBytes setting limits bytes j answer later = (now : Incoming) × (now.failures ≡ 0)
    × Compares setting limits (source_of bytes) j answer now later
