-- Worked texts by hand from docs/FORMAT.md, and the items that they list.
use Rattle.std.proofs.Common.{◌≡◌, ◌≢◌, ℕ, ◌+◌, ◌<◌, List, [], ◌∷◌, ◌++◌, Bool, true, false, eqb, cond, refl, inl, inr, arith}
use Rattle.std.proofs.lemmas.Bool.{eqb-false}
use Rattle.std.specs.Prelude.{codes}
use Rattle.std.specs.List.{AllByRecursion}
use Rattle.bit_grammar.specs.FormatListing.{AreParts, AreDigits, IsNumber, SpellsNumbers, of_block, of_record, IsItem, Entry, IsEntry, IsListing}

-- whether a separator is none of these bytes
abbrev is_none_of : ℕ → List ℕ → Bool
is_none_of separator [] = true
is_none_of separator (b ∷ text) = cond (eqb b separator) false (is_none_of separator text)

by_test : (separator b : ℕ) (text : List ℕ) (same : Bool) → eqb b separator ≡ same → (is_none_of separator text ≡ true → AllByRecursion (λ b. b ≢ separator) text) → cond same false (is_none_of separator text) ≡ true → (b ≢ separator) × AllByRecursion (λ b. b ≢ separator) text
by_test separator b text true is others none = absurd (cc)
by_test separator b text false is others none = (eqb-false b separator is, others none)

none_of : (separator : ℕ) (text : List ℕ) → is_none_of separator text ≡ true → AllByRecursion (λ b. b ≢ separator) text
none_of separator [] none = tt
none_of separator (b ∷ text) none = by_test separator b text (eqb b separator) refl (none_of separator text) none

-- ---- numbers

decimal : IsNumber (codes "0018") 18
decimal = (inl (record { some = omega arith; digits = (omega arith, (omega arith, (omega arith, (omega arith, tt)))); value = refl }), omega arith)

hexadecimal : IsNumber (codes "0x1F") 31
hexadecimal = (inr (codes "1F", refl, record { some = omega arith; digits = (omega arith, (omega arith, tt)); value = refl }), omega arith)

eight : IsNumber (codes "8") 8
eight = (inl (record { some = omega arith; digits = (omega arith, tt); value = refl }), omega arith)

just_eight : SpellsNumbers (codes "8") (8 ∷ [])
just_eight = (codes "8" ∷ [], record { joined = refl; apart = (none_of 32 (codes "8") refl, tt) }, (8, [], refl, eight, refl))

two_numbers : SpellsNumbers (codes "8 300") (8 ∷ 300 ∷ [])
two_numbers = (
  codes "8" ∷ codes "300" ∷ [],
  record { joined = refl; apart = (none_of 32 (codes "8") refl, (none_of 32 (codes "300") refl, tt)) },
  (8, 300 ∷ [], refl, eight, (300, [], refl, (inl (record { some = omega arith; digits = (omega arith, (omega arith, (omega arith, tt))); value = refl }), omega arith), refl)),
)

-- ---- a listing

abbrev magic_line : List ℕ
magic_line = codes "magic 4243c0de"

abbrev block_line : List ℕ
block_line = codes "block 8"

abbrev record_line : List ℕ
record_line = codes "  record 8 300"

abbrev the_block : Entry
the_block = record { around = 0; item = of_block 8 }

abbrev the_record : Entry
the_record = record { around = 1; item = of_record 8 (300 ∷ []) }

a_block_and_a_record : IsListing (magic_line ++ 10 ∷ block_line ++ 10 ∷ record_line) (0x42 ∷ 0x43 ∷ 0xC0 ∷ 0xDE ∷ []) (the_block ∷ the_record ∷ [])
a_block_and_a_record = (
  magic_line ∷ block_line ∷ record_line ∷ [],
  record { joined = refl; apart = (none_of 10 magic_line refl, (none_of 10 block_line refl, (none_of 10 record_line refl, tt))) },
  inr (
    record { four = refl; bytes = (omega arith, (omega arith, (omega arith, (omega arith, tt)))); text = refl },
    inr (
      the_block,
      the_record ∷ [],
      refl,
      (codes "block 8", refl, (codes "8", refl, just_eight, omega arith)),
      inr (the_record, [], refl, (codes "record 8 300", refl, (codes "8 300", refl, two_numbers)), refl),
    ),
  ),
)
