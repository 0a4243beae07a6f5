-- Bytes that are skipped.
use Rattle.std.proofs.Common.{◌≡◌, ℕ, ◌+◌, ◌*◌, ◌-◌, ◌<◌, ◌≤◌, Bool, false, List, [], ◌++◌, length, take, drop, refl, sym, ap, ◌∙◌, arith}
use Rattle.std.proofs.lemmas.List.{length-append, length-take-le, length-drop, drop-append-le, drop_at}
use Rattle.bit_grammar.specs.Bits.{bits_of_bytes}
use Rattle.bit_fields.specs.Devices.{Incoming, Gave, known_bytes}
use Rattle.bit_fields.specs.Inflow.{Flow, IsKnown, stop_of, flow_bits, KeepsFlow, PassesBytes, Skips}
use Rattle.bit_fields.proofs.BitLaws.{length-bits_of_bytes}
use Rattle.bit_fields.proofs.InflowLaws.{gave_spends, came, front_came}

-- ---- bytes of the stream

-- bytes of the stream were skipped
pub passed : (f : Flow) (i : Incoming) (count : ℕ) (into : List ℕ) → f.window ≡ [] → f.ended ≡ false → count ≤ stop_of f - f.loaded → f.loaded ≤ stop_of f → (count ≡ 0 → ⊥) → Gave f.incoming i count into → PassesBytes f (record f { incoming = i; loaded = f.loaded + count }) count
passed f i count into empty going fits le some gave =
    let few : f.loaded + count ≤ stop_of f = omega (arith, gave.fits) in
    let after : ℕ = stop_of f - (f.loaded + count) in
    let room : stop_of f - f.loaded ≡ count + after = omega arith in
    let taken : length (bits_of_bytes (take count into)) ≡ 8 * count = omega (arith, length-bits_of_bytes (take count into), length-take-le count into gave.fits) in
    let parts : IsKnown f → flow_bits f ≡ bits_of_bytes (take count into) ++ bits_of_bytes (take after (known_bytes i.to_come)) = λ k. ap (λ (w : List Bool). w ++ bits_of_bytes (take (stop_of f - f.loaded) (known_bytes f.incoming.to_come))) empty ∙ ap (λ (n : ℕ). bits_of_bytes (take n (known_bytes f.incoming.to_come))) room ∙ front_came f.incoming i count into after gave k in
    record {
      some = omega arith;
      window = empty;
      end = refl;
      limit = refl;
      loaded = refl;
      within = few;
      spends = rw going (gave_spends f.incoming i count into (f.limit + 1 - f.loaded) (f.limit + 1 - (f.loaded + count)) gave (omega arith) (omega arith));
      there = λ k. omega (arith, ap length (parts k), length-append (bits_of_bytes (take count into)) (bits_of_bytes (take after (known_bytes i.to_come))), taken);
      left = λ k. ap (λ (w : List Bool). w ++ bits_of_bytes (take after (known_bytes i.to_come))) empty ∙ sym (ap (drop (8 * count)) (parts k) ∙ drop_at (bits_of_bytes (take count into)) (bits_of_bytes (take after (known_bytes i.to_come))) (8 * count) taken);
      total = λ k. omega (arith, (came f.incoming i count into gave k).1);
    }

-- ---- bits of the stream

-- bits of the window
pub window_skipped : (f g h : Flow) (count : ℕ) → KeepsFlow f g → 0 < count → count ≤ length g.window → h ≡ record g { window = drop count g.window } → Skips f h count
window_skipped f g h count kept some there is =
    let len : length (drop count g.window) ≡ length g.window - count = length-drop count g.window in
    let behind : List Bool = bits_of_bytes (take (stop_of g - g.loaded) (known_bytes g.incoming.to_come)) in
    rw is (record {
      some = some;
      end = kept.end;
      limit = kept.limit;
      loaded = omega (arith, len, kept.place.loaded);
      exact = omega (arith, len, kept.place.exact);
      spends = kept.spends;
      there = λ k. omega (arith, ap length (kept.left k), length-append g.window behind);
      left = λ k. sym (drop-append-le count g.window behind there) ∙ ap (drop count) (kept.left k);
      total = kept.total;
    })
