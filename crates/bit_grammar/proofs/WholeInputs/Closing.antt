-- What it means that a wrapper ends within the limit on bytes.
use Rattle.std.proofs.Common.{◌≡◌, ℕ, ◌+◌, ◌≤◌, ◌↔◌, Bool, true, List, Option, Some, None, Ok, Err, refl, sym, ap, ◌∙◌, inl, inr}
use Rattle.std.proofs.lemmas.Bool.{leb-true, le-leb}
use Rattle.bit_grammar.specs.Grammar.{Fault, reading}
use Rattle.bit_grammar.specs.Blocks.{Limits}
use Rattle.bit_grammar.specs.Input.{outer_wrapper, ends_by, front_of, is_closed, EndsWithin}
use Rattle.bit_grammar.specs.Terms.{Wrapper}
use Rattle.bit_grammar.proofs.Readings.Deciding.{reads, breaks, decides}

ended_by : (bytes : ℕ) (x : Option Wrapper) (p : ℕ) (r : List Bool) → ends_by bytes (Ok (x, p, r)) ≡ true → (w : Wrapper) × (x ≡ Some w) × (w.offset + w.size ≤ bytes)
ended_by bytes (Some w) p r e = (w, refl, leb-true _ _ e)
ended_by bytes None p r e = absurd cc

not_ended : (bytes : ℕ) (fault : Fault) → ends_by bytes (Err fault) ≡ true → ⊥
not_ended bytes fault e = absurd cc

closed_ends : (limits : Limits) (bytes : List ℕ) → is_closed limits bytes ≡ true → EndsWithin limits bytes
closed_ends limits bytes e =
    elim (decides outer_wrapper 0 (front_of limits bytes)) [
      | inl found ↦
          let read = ap (reading outer_wrapper 0) found.3 ∙ reads outer_wrapper 0 found.0 found.2 found.1 found.4 in
          let w = ended_by limits.bytes found.2 _ found.1 (sym (ap (ends_by limits.bytes) read) ∙ e) in
          record { wrapper = w.0; header = found.0; rest = found.1; parts = found.3; spelled = rw w.1 at found.4; ends = w.2 }
      | inr stopped ↦ absurd (not_ended limits.bytes stopped.0 (sym (ap (ends_by limits.bytes) (breaks outer_wrapper 0 (front_of limits bytes) stopped.0 stopped.1)) ∙ e))
    ]

ends_closed : (limits : Limits) (bytes : List ℕ) → EndsWithin limits bytes → is_closed limits bytes ≡ true
ends_closed limits bytes h =
    ap (ends_by limits.bytes) (ap (reading outer_wrapper 0) h.parts ∙ reads outer_wrapper 0 h.header (Some h.wrapper) h.rest h.spelled) ∙ le-leb _ _ h.ends

pub closed_is : (limits : Limits) (bytes : List ℕ) → (is_closed limits bytes ≡ true) ↔ EndsWithin limits bytes
closed_is limits bytes = (closed_ends limits bytes, ends_closed limits bytes)
