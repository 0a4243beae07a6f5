-- Inputs that are bytes in memory.
use Rattle.std.proofs.Common.{◌≡◌, ℕ, List, Result, Ok, Err, Some, refl, sym, subst, inr, ◌∙◌}
use Rattle.std.specs.Prelude.{Option, IsSome}
use Rattle.bit_grammar.specs.declared.reason.Reason.{Reason}
use Rattle.bit_grammar.specs.Setting.{Setting}
use Rattle.bit_grammar.specs.Grammar.{at}
use Rattle.bit_grammar.specs.Blocks as blocks
use Rattle.bit_grammar.specs.Input.{BreaksInput}
use Rattle.bit_fields.specs.declared.fault.Fault.{Fault}
use Rattle.bit_fields.specs.declared.fault.Fault.TheVariants as fault
use Rattle.bit_fields.specs.Devices.{Incoming, known_bytes}
use Rattle.bit_events.specs.Reading.{ReadsWhole}
use Rattle.bit_c.specs.declared.outcome.Outcome.{Outcome}
use Rattle.bit_c.specs.declared.outcome.Outcome.TheVariants.{Refused, Memory}
use Rattle.bit_grammar.specs.Normal.{Capped}
use Rattle.bit_c.specs.Ending.{ended_by}
use Rattle.bit_c.specs.Limiting.{AsksWithin, ToldOfAsked, Within, asked_setting, setting_told}
use Rattle.bit_c.specs.declared.left_out.Asked.{Asked}
use Rattle.bit_c.specs.declared.left_out.BsLeftOut.{BsLeftOut}

-- facts under limits within their caps
pub within : (limits told : blocks.Limits) (Leaves : Type 0) (Says : blocks.Limits → Outcome → Type 0) (outcome : Outcome) → limits ≡ told → Capped limits → Says limits outcome → Within told Leaves (Says told) outcome
within limits told Leaves Says outcome same capped h = inr (subst Capped same capped, subst (λ (l : blocks.Limits). Says l outcome) same h)

-- facts under fit limits and names
pub as_asked : (limits : blocks.Limits) (out : BsLeftOut) (asked : Asked) (setting : Setting) (Leaves : Type 0) (Says : blocks.Limits → Setting → Outcome → Type 0) (outcome : Outcome)
    → ToldOfAsked limits out (Ok asked) → setting ≡ asked_setting asked → Says asked.limits setting outcome → AsksWithin limits out Leaves (Says limits (setting_told out)) outcome
as_asked limits out asked setting Leaves Says outcome told same h =
    inr (told.1, told.2, subst (λ (s : Setting). Says limits s outcome) (same ∙ told.3) (subst (λ (l : blocks.Limits). Says l setting outcome) told.0 h))

-- claims about the bytes of a source hold of these bytes
pub known : (to_come : Option (List ℕ)) (bytes : List ℕ) (P : List ℕ → Type 0) → to_come ≡ Some bytes → (IsSome to_come → P (known_bytes to_come)) → P bytes
known to_come bytes P is h = subst (λ (o : Option (List ℕ)). (IsSome o → P (known_bytes o)) → P bytes) (sym is) (λ of_them. of_them refl) h

-- a fact about the outcome for an input that was not read: it is refused, or an allocation failed
by_fault : {A : Type 0} (Holds : List ℕ → A → Type 0) (limits : blocks.Limits) (i now : Incoming) (bytes : List ℕ) (input : ℕ) (why : Fault) (Says : Outcome → Type 0)
    → i.to_come ≡ Some bytes → ((reason : Reason) (bit : ℕ) → BreaksInput limits bytes (at reason bit) → Says (Refused input reason bit)) → Says Memory
    → ReadsWhole Holds limits i (Err why) now → Says (ended_by input why)
by_fault Holds limits i now bytes input (fault.Refused reason bit) Says is refused memory h = refused reason bit (known i.to_come bytes (λ b. BreaksInput limits b (at reason bit)) is h.1)
by_fault Holds limits i now bytes input fault.Read Says is refused memory h = memory
by_fault Holds limits i now bytes input fault.Memory Says is refused memory h = memory
by_fault Holds limits i now bytes input fault.Write Says is refused memory h = absurd h
by_fault Holds limits i now bytes input fault.OutputTooLong Says is refused memory h = absurd h
by_fault Holds limits i now bytes input fault.Failed Says is refused memory h = absurd h

pub not_read : {A : Type 0} (Holds : List ℕ → A → Type 0) (limits : blocks.Limits) (i now : Incoming) (bytes : List ℕ) (input : ℕ) (answer : Result A Fault) (why : Fault) (outcome : Outcome) (Says : Outcome → Type 0)
    → i.to_come ≡ Some bytes → answer ≡ Err why → outcome ≡ ended_by input why → ((reason : Reason) (bit : ℕ) → BreaksInput limits bytes (at reason bit) → Says (Refused input reason bit)) → Says Memory
    → ReadsWhole Holds limits i answer now → Says outcome
not_read {A} Holds limits i now bytes input answer why outcome Says is is_err ended refused memory h =
    subst Says (sym ended) (by_fault Holds limits i now bytes input why Says is refused memory (subst (λ (a : Result A Fault). ReadsWhole Holds limits i a now) is_err h))
