-- A source that is looked at, and the buffered parts that then follow.
use Rattle.std.proofs.Common.{◌≡◌, ℕ, ◌+◌, ◌-◌, ◌≤◌, min, Bool, true, List, [], ◌++◌, length, take, drop, Option, Some, None, Ok, Bor, refl, sym, ap, ◌∙◌, subst, arith, append_assoc, take-take}
use Rattle.std.specs.Prelude.{IsSome}
use Rattle.std.proofs.lemmas.List.{take-append-drop, length-take-le}
use Rattle.std.proofs.lemmas.List.{append-nil}
use Rattle.bit_grammar.specs.Bits.{number, bits_of, bits_of_bytes}
use Rattle.bit_fields.specs.Devices.{Incoming, Begins, Looked, known_bytes}
use Rattle.bit_fields.specs.Inflow.{Flow, stop_of, LooksOn, LiesBehind}
use Rattle.bit_fields.specs.Inside.{reader_of}
use Rattle.bit_fields.specs.Reader.{Reader, Extent}
use Rattle.bit_fields.specs.Short.{TookNothing}
use Rattle.bit_fields.specs.Buffered.{Sees}
use Rattle.bit_fields.specs.BufferedParts.{bits_of_parts}
use Rattle.bit_fields.proofs.BitLaws.{bits_of-number, bits_of_bytes-append}
use Rattle.bit_fields.proofs.Composing.{spells_nothing}
use Rattle.bit_fields.proofs.InflowLaws.{kept}

-- the first of the bytes that a source shows come after the window
pub lies_behind : (f : Flow) (shown : List ℕ) (count : ℕ) → Begins f.incoming.to_come shown → count ≡ min (stop_of f - f.loaded) (length shown) → LiesBehind f (take count shown)
lies_behind f shown count front is = behind f.incoming.to_come (stop_of f - f.loaded) front is
  where
    behind : (to : Option (List ℕ)) (room : ℕ) → Begins to shown → count ≡ min room (length shown) → IsSome to → (rest : List Bool) × (f.window ++ bits_of_bytes (take room (known_bytes to)) ≡ (f.window ++ bits_of_bytes (take count shown)) ++ rest)
    behind None room front is known = absurd cc
    behind (Some all) room front is known =
        let first : take count shown ≡ take count (take room all) = ap (take count) (sym front) ∙ take-take count (length shown) all (omega arith) ∙ sym (take-take count room all (omega arith)) in
        let parts : bits_of_bytes (take room all) ≡ bits_of_bytes (take count shown) ++ bits_of_bytes (drop count (take room all)) =
        ap bits_of_bytes (sym (take-append-drop count (take room all))) ∙ bits_of_bytes-append (take count (take room all)) (drop count (take room all)) ∙ ap (λ (s : List ℕ). bits_of_bytes s ++ bits_of_bytes (drop count (take room all))) (sym first) in
        (bits_of_bytes (drop count (take room all)), ap (λ (s : List Bool). f.window ++ s) parts ∙ sym (append_assoc f.window (bits_of_bytes (take count shown)) (bits_of_bytes (drop count (take room all)))))

-- ---- a reader whose source is looked at

abbrev the_extent : Extent → Extent
the_extent e = e

looked_on : (p : ℕ) (f : Flow) (j : Incoming) → Looked f.incoming j → TookNothing (reader_of true p f) (reader_of true p (record f { incoming = j }))
looked_on p f j looked =
    let same : IsSome f.incoming.to_come → known_bytes f.incoming.to_come ≡ known_bytes j.to_come = λ k. (kept f.incoming.to_come j.to_come looked.bytes k).1 in
    record {
      was_live = refl;
      live = refl;
      goes_on = record {
        pulls = omega (arith, looked.pulls);
        failures = looked.failures;
        tells = λ k. (kept f.incoming.to_come j.to_come looked.bytes k).0;
        bytes = λ k. omega (arith, ap length (same k));
        accounts = looked.accounts;
      };
      forward = omega arith;
      end = refl;
      limit = refl;
      extent = λ k. ap (λ (bytes : List ℕ). the_extent (record { total = f.loaded + length bytes; end = f.end; limit = f.limit })) (sym (same k));
      reads = λ k. ap (λ (bytes : List ℕ). Ok (tt {0}, p, f.window ++ bits_of_bytes (take (stop_of f - f.loaded) bytes))) (same k);
      spells = spells_nothing (tt {0}) p;
    }

pub looked_as : (live : Bool) (p : ℕ) (f g : Flow) (now : Reader) → live ≡ true → reader_of live p f ≡ now → LooksOn f g → TookNothing now (reader_of live p g)
looked_as live p f g now alive now_is looks = rw (← now_is, alive) (subst (λ (h : Flow). TookNothing (reader_of true p f) (reader_of true p h)) (sym looks.same) (looked_on p f g.incoming looks.looked))

pub sees_behind : (live : Bool) (p : ℕ) (f : Flow) (now : Reader) (word held : ℕ) (bytes : Bor (List ℕ)) → live ≡ true → reader_of live p f ≡ now → bits_of held word ≡ f.window → LiesBehind f bytes.now → Sees now (bits_of_parts (record { word = word; held = held; bytes = bytes; position = p }))
sees_behind live p f now word held bytes alive now_is is behind = rw (← now_is, alive) (record {
  live = refl;
  position = refl;
  front = λ k. let h = behind k in (h.0, h.1 ∙ ap (λ (w : List Bool). (w ++ bits_of_bytes bytes.now) ++ h.0) (sym is));
})

-- the window alone
pub sees_window : (live : Bool) (p : ℕ) (f : Flow) (now : Reader) (word held : ℕ) (bytes : Bor (List ℕ)) → live ≡ true → reader_of live p f ≡ now → bits_of held word ≡ f.window → bytes.now ≡ [] → Sees now (bits_of_parts (record { word = word; held = held; bytes = bytes; position = p }))
sees_window live p f now word held bytes alive now_is is none =
    sees_behind live p f now word held bytes alive now_is is (λ k. (bits_of_bytes (take (stop_of f - f.loaded) (known_bytes f.incoming.to_come)), ap (λ (s : List Bool). s ++ bits_of_bytes (take (stop_of f - f.loaded) (known_bytes f.incoming.to_come))) (sym (ap (λ (b : List ℕ). f.window ++ bits_of_bytes b) none ∙ append-nil f.window))))

-- the first bits of the window
pub sees_front : (live : Bool) (p n value : ℕ) (f : Flow) (now : Reader) → live ≡ true → reader_of live p f ≡ now → n ≤ length f.window → value ≡ number (take n f.window) → Sees now (record { position = now.position; bits = bits_of n value })
sees_front live p n value f now alive now_is there is =
    let more : List Bool = bits_of_bytes (take (stop_of f - f.loaded) (known_bytes f.incoming.to_come)) in
    let front : bits_of n value ≡ take n f.window =
    ap (bits_of n) is ∙ ap (λ (m : ℕ). bits_of m (number (take n f.window))) (sym (length-take-le n f.window there)) ∙ bits_of-number (take n f.window) in
    let whole : f.window ++ more ≡ bits_of n value ++ (drop n f.window ++ more) =
    ap (λ (s : List Bool). s ++ more) (sym (take-append-drop n f.window)) ∙ append_assoc (take n f.window) (drop n f.window) more ∙ ap (λ (s : List Bool). s ++ (drop n f.window ++ more)) (sym front) in
    rw (← now_is, alive) (record { live = refl; position = refl; front = λ k. (drop n f.window ++ more, whole) })
