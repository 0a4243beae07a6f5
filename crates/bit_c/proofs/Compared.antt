-- Two inputs that were compared, or of which one was not read.
use Rattle.std.proofs.Common.{◌≡◌, ℕ, Bool, List, Option, Result, Ok, Err, Some, refl, sym, subst, inl, inr}
use Rattle.std.specs.Prelude.{IsSome}
use Rattle.bit_grammar.specs.declared.reason.Reason.{Reason}
use Rattle.bit_grammar.specs.Setting.{Setting}
use Rattle.bit_grammar.specs.Grammar.{at}
use Rattle.bit_grammar.specs.Forest.{Tree}
use Rattle.bit_grammar.specs.Blocks as blocks
use Rattle.bit_grammar.specs.Input.{SpellsInput, BreaksInput}
use Rattle.bit_grammar.specs.Terms.{Marked}
use Rattle.bit_grammar.specs.Normal.{HasTree}
use Rattle.bit_fields.specs.declared.fault.Fault.{Fault}
use Rattle.bit_fields.specs.declared.fault.Fault.TheVariants as fault
use Rattle.bit_fields.specs.Devices.{Incoming}
use Rattle.bit_norm.specs.declared.comparing.SameFault.{SameFault}
use Rattle.bit_norm.specs.declared.comparing.Which.{Which}
use Rattle.bit_norm.specs.declared.comparing.Which.TheVariants.{First, Second}
use Rattle.bit_norm.specs.declared.differences.Difference.{Difference}
use Rattle.bit_norm.specs.Entries.{difference_shown}
use Rattle.bit_norm.specs.Whole.{ComparesBytes, Compares, FindsDifference, FindsInBytes, Misreads, ReadsMarked, ReadsTree, source_of}
use Rattle.bit_c.specs.declared.difference.BsDifference.{BsDifference}
use Rattle.bit_c.specs.declared.difference.BsOpenBlock.{BsOpenBlock}
use Rattle.bit_c.specs.declared.outcome.Outcome.{Outcome}
use Rattle.bit_c.specs.declared.outcome.Outcome.TheVariants.{Done, Different, Refused, RefusedLine, Memory, TooLong, Limits, Room, Closed, Names, Unfit}
use Rattle.bit_c.specs.Comparing.{Unread, input_of}
use Rattle.bit_c.specs.Differing.{Differences, GivesDifference}
use Rattle.bit_c.specs.Ending.{ended_by}
use Rattle.bit_c.proofs.Inputs.{known}

-- ---- one was not read

-- an input that was read has the tree
has : (setting : Setting) (limits : blocks.Limits) (i now : Incoming) (bytes : List ℕ) (tree : Tree) → i.to_come ≡ Some bytes → ReadsTree setting limits i (Ok tree) now → HasTree setting limits bytes tree
has setting limits i now bytes tree is h = known i.to_come bytes (λ b. HasTree setting limits b tree) is (λ tells. (h.1 tells).0.0)

-- facts about the outcome
misread : (setting : Setting) (limits : blocks.Limits) (first second : List ℕ) (j now later : Incoming) (which : Which) (why : Fault) (Says : Outcome → Type 0) → j.to_come ≡ Some second
    → ((input : ℕ) (reason : Reason) (bit : ℕ) → Unread limits first second (Refused input reason bit) → Says (Refused input reason bit)) → Says Memory
    → Misreads setting limits which why (source_of first) j now later → Says (ended_by (input_of which) why)
misread setting limits first second j now later First (fault.Refused reason bit) Says is refused memory h = refused 0 reason bit (inl (refl, h.0.1 refl))
misread setting limits first second j now later Second (fault.Refused reason bit) Says is refused memory h =
    let tree = has setting limits (source_of first) now first h.0 refl h.1 in
    refused 1 reason bit (inr (refl, (tree.0, tree.1), known j.to_come second (λ b. BreaksInput limits b (at reason bit)) is h.2.1))
misread setting limits first second j now later First fault.Read Says is refused memory h = memory
misread setting limits first second j now later Second fault.Read Says is refused memory h = memory
misread setting limits first second j now later First fault.Memory Says is refused memory h = memory
misread setting limits first second j now later Second fault.Memory Says is refused memory h = memory
misread setting limits first second j now later First fault.Write Says is refused memory h = absurd h.0
misread setting limits first second j now later Second fault.Write Says is refused memory h = absurd h.2
misread setting limits first second j now later First fault.OutputTooLong Says is refused memory h = absurd h.0
misread setting limits first second j now later Second fault.OutputTooLong Says is refused memory h = absurd h.2
misread setting limits first second j now later First fault.Failed Says is refused memory h = absurd h.0
misread setting limits first second j now later Second fault.Failed Says is refused memory h = absurd h.2

-- the same for the outcome as the code makes it
ended : (setting : Setting) (limits : blocks.Limits) (first second : List ℕ) (j now later : Incoming) (why : SameFault) (input : ℕ) (outcome : Outcome) (Says : Outcome → Type 0) → j.to_come ≡ Some second
    → input ≡ input_of why.which → outcome ≡ ended_by input why.fault
    → ((number : ℕ) (reason : Reason) (bit : ℕ) → Unread limits first second (Refused number reason bit) → Says (Refused number reason bit)) → Says Memory
    → Misreads setting limits why.which why.fault (source_of first) j now later → Says outcome
ended setting limits first second j now later why input outcome Says is which end refused memory h =
    subst Says (sym end) (subst (λ (n : ℕ). Says (ended_by n why.fault)) (sym which) (misread setting limits first second j now later why.which why.fault Says is refused memory h))

pub not_compared : (setting : Setting) (limits : blocks.Limits) (first second : List ℕ) (j later : Incoming) (r : Result Bool SameFault) (why : SameFault) (input : ℕ) (outcome : Outcome) (Says : Outcome → Type 0)
    → j.to_come ≡ Some second → r ≡ Err why → input ≡ input_of why.which → outcome ≡ ended_by input why.fault
    → ((number : ℕ) (reason : Reason) (bit : ℕ) → Unread limits first second (Refused number reason bit) → Says (Refused number reason bit)) → Says Memory
    → ComparesBytes setting limits first j r later → Says outcome
not_compared setting limits first second j later r why input outcome Says is is_err which end refused memory h =
    ended setting limits first second j h.0 later why input outcome Says is which end refused memory
    (subst (λ (a : Result Bool SameFault). Compares setting limits (source_of first) j a h.0 later) is_err h.2)

pub not_found : (setting : Setting) (limits : blocks.Limits) (first second : List ℕ) (j later : Incoming) (r : Result (Option Difference) SameFault) (why : SameFault) (input : ℕ) (outcome : Outcome) (Says : Outcome → Type 0)
    → j.to_come ≡ Some second → r ≡ Err why → input ≡ input_of why.which → outcome ≡ ended_by input why.fault
    → ((number : ℕ) (reason : Reason) (bit : ℕ) → Unread limits first second (Refused number reason bit) → Says (Refused number reason bit)) → Says Memory
    → FindsInBytes setting limits first j r later → Says outcome
not_found setting limits first second j later r why input outcome Says is is_err which end refused memory h =
    ended setting limits first second j h.0 later why input outcome Says is which end refused memory
    (subst (λ (a : Result (Option Difference) SameFault). FindsDifference setting limits (source_of first) j a h.0 later) is_err h.2)

-- ---- both were read

-- an input that was read spells the marked tree
spells : (limits : blocks.Limits) (i now : Incoming) (bytes : List ℕ) (m : Marked) → i.to_come ≡ Some bytes → ReadsMarked limits i m now → SpellsInput limits bytes m
spells limits i now bytes m is h = known i.to_come bytes (λ b. SpellsInput limits b m) is (λ tells. (h.1 tells).0)

-- a found difference was handed out
given : (setting : Setting) (limits : blocks.Limits) (first second : List ℕ) (j now later : Incoming) (d : Difference) (told : BsDifference) (old new : List BsOpenBlock) (outcome : Outcome) → j.to_come ≡ Some second
    → FindsDifference setting limits (source_of first) j (Ok (Some d)) now later → GivesDifference (difference_shown d) told old new outcome → Differences setting limits first second told old new outcome
given setting limits first second j now later d told old new Different is f h =
    (f.0, f.1, difference_shown d, spells limits (source_of first) now first f.0 refl f.2, spells limits j later second f.1 is f.3, f.4 refl (subst IsSome (sym is) refl), h)
given setting limits first second j now later d told old new Room is f h =
    (f.0, f.1, difference_shown d, spells limits (source_of first) now first f.0 refl f.2, spells limits j later second f.1 is f.3, f.4 refl (subst IsSome (sym is) refl), h)
given setting limits first second j now later d told old new Memory is f h = (tt, h.0, h.1)
given setting limits first second j now later d told old new Done is f h = absurd h
given setting limits first second j now later d told old new (Refused input reason bit) is f h = absurd h
given setting limits first second j now later d told old new (RefusedLine reason line) is f h = absurd h
given setting limits first second j now later d told old new TooLong is f h = absurd h
given setting limits first second j now later d told old new Limits is f h = absurd h
given setting limits first second j now later d told old new Closed is f h = absurd h
given setting limits first second j now later d told old new Names is f h = absurd h
given setting limits first second j now later d told old new Unfit is f h = absurd h

pub difference_found : (setting : Setting) (limits : blocks.Limits) (first second : List ℕ) (j later : Incoming) (r : Result (Option Difference) SameFault) (answer : Option Difference) (d : Difference)
    (told : BsDifference) (old new : List BsOpenBlock) (outcome : Outcome) → j.to_come ≡ Some second → r ≡ Ok answer → answer ≡ Some d → FindsInBytes setting limits first j r later → GivesDifference (difference_shown d) told old new outcome
    → Differences setting limits first second told old new outcome
difference_found setting limits first second j later r answer d told old new outcome is is_ok is_some h gives =
    given setting limits first second j h.0 later d told old new outcome is
    (subst (λ (o : Option Difference). FindsDifference setting limits (source_of first) j (Ok o) h.0 later) is_some
    (subst (λ (a : Result (Option Difference) SameFault). FindsDifference setting limits (source_of first) j a h.0 later) is_ok h.2)) gives
