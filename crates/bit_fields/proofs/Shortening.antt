-- A stream that a wrapper ends, and where the unread bits end.
use Rattle.std.proofs.Common.{◌≡◌, ℕ, ◌+◌, ◌*◌, ◌-◌, ◌≤◌, min, Bool, List, ◌++◌, length, take, sym, ap, ◌∙◌, arith, inl, inr}
use Rattle.std.proofs.lemmas.Bool.{cases_lt}
use Rattle.std.proofs.lemmas.List.{length-append, length-take, take-append-le, take-take}
use Rattle.std.proofs.Math.Seq.{take-append-add}
use Rattle.bit_grammar.specs.Bits.{bits_of_bytes}
use Rattle.bit_fields.specs.Devices.{known_bytes}
use Rattle.bit_fields.specs.Inflow.{Flow, stop_of, flow_bits, total_of, flow_ended_at}
use Rattle.bit_fields.proofs.BitLaws.{length-bits_of_bytes, bits_of_bytes-take, take_whole}
use Rattle.bit_fields.proofs.InflowLaws.{nothing_left}

take_bytes : (k : ℕ) (bytes : List ℕ) → take (8 * k) (bits_of_bytes bytes) ≡ bits_of_bytes (take k bytes)
take_bytes k bytes = elim (cases_lt k (length bytes)) [
  | inl lt ↦ sym (bits_of_bytes-take k bytes (omega arith))
  | inr le ↦ take_whole (8 * k) (bits_of_bytes bytes) (omega (arith, length-bits_of_bytes bytes)) ∙ ap bits_of_bytes (sym (take_whole k bytes le))
]

take_both : (a b c : ℕ) (bytes : List ℕ) → c ≡ min a b → take a (take b bytes) ≡ take c bytes
take_both a b c bytes is = elim (cases_lt b a) [
  | inl lt ↦ take_whole a (take b bytes) (omega (arith, length-take b bytes)) ∙ (let e : b ≡ c = omega arith in ap (λ (n : ℕ). take n bytes) e)
  | inr le ↦ take-take a b bytes le ∙ (let e : a ≡ c = omega arith in ap (λ (n : ℕ). take n bytes) e)
]

-- the unread bits of a stream that is ended at a later byte
pub left_shortened : (f : Flow) (p end : ℕ) → f.limit ≤ f.end → p + length f.window ≡ 8 * min f.loaded (stop_of f) → p ≤ 8 * end → flow_bits (flow_ended_at f end) ≡ take (8 * end - p) (flow_bits f)
left_shortened f p end high place buffered =
    let to : List ℕ = known_bytes f.incoming.to_come in
    elim (cases_lt end (min f.loaded f.limit)) [
      | inl lt ↦
          let n : length f.window - 8 * (min f.loaded f.limit - end) ≡ 8 * end - p = omega arith in
          nothing_left (flow_ended_at f end) (omega arith) ∙ ap (λ (k : ℕ). take k f.window) n ∙ sym (take-append-le (8 * end - p) f.window (bits_of_bytes (take (stop_of f - f.loaded) to)) (omega arith))
      | inr le ↦
          let none : length f.window - 8 * (min f.loaded f.limit - end) ≡ length f.window = omega arith in
          let whole : take (length f.window - 8 * (min f.loaded f.limit - end)) f.window ≡ f.window = take_whole (length f.window - 8 * (min f.loaded f.limit - end)) f.window (omega arith) in
          let n : 8 * end - p ≡ length f.window + 8 * (end - min f.loaded f.limit) = omega arith in
          let bytes : take (end - min f.loaded f.limit) (take (stop_of f - f.loaded) to) ≡ take (min end f.limit - f.loaded) to = take_both (end - min f.loaded f.limit) (stop_of f - f.loaded) (min end f.limit - f.loaded) to (omega arith) in
          let tail : take (8 * (end - min f.loaded f.limit)) (bits_of_bytes (take (stop_of f - f.loaded) to)) ≡ bits_of_bytes (take (min end f.limit - f.loaded) to) = take_bytes (end - min f.loaded f.limit) (take (stop_of f - f.loaded) to) ∙ ap bits_of_bytes bytes in
          ap (λ (s : List Bool). s ++ bits_of_bytes (take (min end f.limit - f.loaded) to)) whole
          ∙ ap (λ (s : List Bool). f.window ++ s) (sym tail)
          ∙ sym (take-append-add f.window (bits_of_bytes (take (stop_of f - f.loaded) to)) (8 * (end - min f.loaded f.limit)))
          ∙ ap (λ (k : ℕ). take k (flow_bits f)) (sym n)
    ]

-- where the unread bits end
pub left_ends : (f : Flow) (p : ℕ) → p + length f.window ≡ 8 * min f.loaded (stop_of f) → p + length (flow_bits f) ≡ 8 * min (stop_of f) (total_of f)
left_ends f p place = omega (arith, length-append f.window (bits_of_bytes (take (stop_of f - f.loaded) (known_bytes f.incoming.to_come))), length-bits_of_bytes (take (stop_of f - f.loaded) (known_bytes f.incoming.to_come)), length-take (stop_of f - f.loaded) (known_bytes f.incoming.to_come))
