-- A whole input that is read by its events.
use Rattle.std.proofs.Common.{◌≡◌, ℕ, List, [], Result, Ok, Err, sym, ap, ◌∙◌, inl, inr}
use Rattle.bit_grammar.specs.Grammar as grammar
use Rattle.bit_grammar.specs.Grammar.{at}
use Rattle.bit_grammar.specs.Blocks.{Limits}
use Rattle.bit_grammar.specs.Input.{SpellsInput}
use Rattle.bit_grammar.specs.Terms.{Head, Marked}
use Rattle.bit_grammar.specs.Machine.{Event, flat, Ending, accepted, broke, Told}
use Rattle.bit_grammar.specs.Outlook.{outlook, EndsBy}
use Rattle.bit_grammar.proofs.WholeInputs.Inputs.{tree_or_fault}
use Rattle.bit_grammar.proofs.Events.Telling.{told_if_spelled, told_if_broken}
use Rattle.bit_fields.specs.declared.fault.Fault.{Fault}
use Rattle.bit_fields.specs.declared.fault.Fault.TheVariants.{Refused, Read, Write, Memory, OutputTooLong, Failed}
use Rattle.bit_fields.specs.Devices.{Incoming, known_bytes}
use Rattle.bit_events.specs.Events.{DeclinesEvents}
use Rattle.bit_events.specs.Reading.{ReadsWhole}

-- an input that was not begun
pub not_begun : {A : Type 0} (Holds : List ℕ → A → Type 0) (limits : Limits) (i now : Incoming) (fault : Fault) → DeclinesEvents limits i fault now → ReadsWhole Holds limits i (Err fault) now
not_begun Holds limits i now (Refused reason bit) h = (h.0, λ tells. (told_if_broken limits (known_bytes i.to_come) (at reason bit)).1 (inl (h.1 tells)))
not_begun Holds limits i now Read h = h
not_begun Holds limits i now Memory h = absurd h
not_begun Holds limits i now Failed h = absurd h
not_begun Holds limits i now Write h = absurd h
not_begun Holds limits i now OutputTooLong h = absurd h

-- an accepted input has a marked tree with these events
pub record Accepted (limits : Limits) (bytes : List ℕ) (head : Head) (events : List Event) (p : ℕ) : Type 0 where
  pub m : Marked
  pub spelled : SpellsInput limits bytes m
  pub is_head : m.head ≡ head
  pub flattened : events ≡ flat m.blocks []
  pub ended : m.after ≡ p

pub accepted_input : (limits : Limits) (bytes : List ℕ) (head : Head) (events : List Event) (p : ℕ) → outlook limits bytes ≡ Ok (head, (events, accepted p)) → Accepted limits bytes head events p
accepted_input limits bytes head events p told =
    elim (tree_or_fault limits bytes) [
      | inl found ↦
          let same = same_told found.0.head head (flat found.0.blocks []) events (accepted found.0.after) (accepted p) (sym ((told_if_spelled limits bytes found.0).0 found.1) ∙ told) in
          record { m = found.0; spelled = found.1; is_head = same.0; flattened = sym same.1; ended = position found.0.after p same.2 }
      | inr broken ↦ absurd (no_fault ((told_if_broken limits bytes broken.0).0 broken.1))
    ]
  where
    same_told : (h k : Head) (xs ys : List Event) (e f : Ending) → Path (Result (Head × Told) grammar.Fault) (Ok (h, (xs, e))) (Ok (k, (ys, f))) → (h ≡ k) × (xs ≡ ys) × (e ≡ f)
    same_told h k xs ys e f same =
        let pair : Path (Head × Told) (h, (xs, e)) (k, (ys, f)) = cc in
        (ap (λ (x : Head × Told). x.0) pair, ap (λ (x : Head × Told). x.1.0) pair, ap (λ (x : Head × Told). x.1.1) pair)

    position : (q r : ℕ) → accepted q ≡ accepted r → q ≡ r
    position q r e = cc

    no_end : {fault : grammar.Fault} → accepted p ≡ broke fault → ⊥
    no_end e = cc

    no_fault : {fault : grammar.Fault} → EndsBy (outlook limits bytes) fault → ⊥
    no_fault (inl e) = (let e' = sym told ∙ e in cc)
    no_fault (inr x) =
        let same = sym told ∙ x.1 in
        let pair : Path (Head × Told) (head, (events, accepted p)) x.0 = cc in
        no_end (ap (λ (y : Head × Told). y.1.1) pair ∙ x.2)
