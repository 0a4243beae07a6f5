-- The refusal of an over-long input, by a reader and by the rules for whole inputs.
use Rattle.std.proofs.Common.{◌≡◌, ℕ, ◌+◌, ◌-◌, ◌^◌, ◌<◌, ◌≤◌, Bool, not, ltb, List, length, Option, Some, None, Result, Ok, Err, refl, inl, inr}
use Rattle.std.proofs.lemmas.Bool.{cases_lt, le-ltb, lt-ltb, le-leb, lt-leb}
use Rattle.bit_grammar.specs.declared.reason.Reason.{Reason}
use Rattle.bit_grammar.specs.declared.reason.Reason.TheVariants.{Truncated, WrapperSize}
use Rattle.bit_grammar.specs.Grammar as grammar
use Rattle.bit_grammar.specs.Grammar.{at, reading}
use Rattle.bit_grammar.specs.Blocks.{Limits}
use Rattle.bit_grammar.specs.Terms as terms
use Rattle.bit_grammar.specs.Input.{outer_wrapper, ends_by, front_of, is_closed, cut_fault}
use Rattle.bit_fields.specs.Reader.{Extent, within}
use Rattle.bit_fields.specs.Opening.{wrapper_read, wrapper_of, end_of_stream}

-- a stream goes on past the limit if its wrapper does not end it before
goes_past : (limit : ℕ) (x : Result (Option terms.Wrapper × ℕ × List Bool) grammar.Fault) → limit < 2 ^ 64 - 1 → ltb limit (end_of_stream (wrapper_read x)) ≡ not (ends_by limit x)
goes_past limit (Ok (Some w, p, r)) low = elim (cases_lt limit (w.offset + w.size)) [
  | inl lt ↦ rw (lt-ltb limit (w.offset + w.size) lt, lt-leb (w.offset + w.size) limit lt) refl
  | inr le ↦ rw (le-ltb limit (w.offset + w.size) le, le-leb (w.offset + w.size) limit le) refl
]
goes_past limit (Ok (None, p, r)) low = lt-ltb limit (2 ^ 64 - 1) low
goes_past limit (Err fault) low = lt-ltb limit (2 ^ 64 - 1) low

-- an input that is not longer than the limit is not cut
pub within_whole : (e : Extent) (reason : Reason) (bit : ℕ) → e.total ≤ e.limit → within e reason bit ≡ at reason bit
within_whole e Truncated bit whole = rw (le-ltb e.limit e.total whole) refl
within_whole e reason bit whole = refl

-- a longer input is refused as the rules for whole inputs say
pub within_cut : (limits : Limits) (bytes : List ℕ) (reason : Reason) (bit : ℕ) → limits.bytes < 2 ^ 64 - 1 → limits.bytes < length bytes → (reason ≡ WrapperSize → ⊥)
    → within (record { total = length bytes; end = end_of_stream (wrapper_of (front_of limits bytes)); limit = limits.bytes }) reason bit ≡ cut_fault limits (is_closed limits bytes) (at reason bit)
unfolding wrapper_of
within_cut limits bytes Truncated bit low longer other =
    rw (lt-ltb limits.bytes (length bytes) longer, goes_past limits.bytes (reading outer_wrapper 0 (front_of limits bytes)) low) refl
within_cut limits bytes WrapperSize bit low longer other = absurd (other refl)
within_cut limits bytes reason bit low longer other = refl
