-- Runs of digits, in the front of a text.
use Rattle.std.proofs.Common.{◌≡◌, ℕ, ◌+◌, ◌-◌, ◌<◌, ◌≤◌, List, [], ◌∷◌, length, take, drop, get_or, Some, Ok, sym, ◌∙◌, ap, arith}
use Rattle.std.proofs.lemmas.List.{length-take-le, get_or-take, drop-take}
use Rattle.std.specs.Prelude.{codes, slice_index}
use Rattle.bit_norm.specs.Telling.{holds}
use Rattle.bit_text.specs.Lines.{item_of, record_of, record_or_block}
use Rattle.bit_text.specs.Numbers.{and_then, behind, digits_after, numbers_after, words}
use Rattle.bit_text.specs.Places.{IsRun}
use Rattle.bit_text.proofs.Digits.{no_digits, digit_next}

pub no_run : (text : List ℕ) (from : ℕ) → IsRun text from from 0
no_run text from = λ end within room. no_digits (take end text) from (rw (length-take-le end text room) within)

pub run_more : (text : List ℕ) (from i j n more : ℕ) → j ≡ i + 1 → digits_after 10 n (get_or text i 0 ∷ []) ≡ Ok more → IsRun text from i n → IsRun text from j more
run_more text from i j n more e digit run = λ end within room.
    let inside : i < end = omega (arith, e, within) in
    let there : i < length (take end text) = rw (length-take-le end text room) inside in
    let same : digits_after 10 n (get_or (take end text) i 0 ∷ []) ≡ Ok more = ap (λ b. digits_after 10 n (b ∷ [])) (get_or-take end text i 0 inside) ∙ digit in
    digit_next (take end text) from i j n more e there same (run end (omega (arith, inside)) room)

-- the front of a text behind another front of it
pub front_behind : (text : List ℕ) (k end : ℕ) → k ≤ end → take (end - k) (drop k text) ≡ drop k (take end text)
front_behind text k end h =
    let e : k + (end - k) ≡ end = omega (arith, h) in
    sym (drop-take k (end - k) text) ∙ ap (λ n. drop k (take n text)) e

pub record_item : (text rest numbers : List ℕ) → behind (codes "record ") text ≡ Some rest → 0 < length numbers → numbers_after [] (words rest) ≡ Ok numbers → item_of text ≡ Ok (holds (slice_index numbers 0) (drop 1 numbers))
record_item text rest [] found some read = absurd (omega (arith, some))
record_item text rest (code ∷ values) found some read = ap (λ f. record_or_block f (behind (codes "block ") text)) found ∙ ap (λ r. and_then r record_of) read
