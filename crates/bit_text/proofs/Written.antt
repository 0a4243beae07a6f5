-- The lines of a listing are read back.
use Rattle.std.proofs.Common.{◌≡◌, refl, ℕ, zero, suc, ◌+◌, ◌*◌, ◌/◌, ◌%◌, ◌^◌, ◌<◌, Bool, true, false, nat_eq, List, [], ◌∷◌, ◌++◌, drop, replicate, Some, Ok, sym, ◌∙◌, ap, arith, append-nil, append_assoc, not, ◌&&◌}
use Rattle.std.specs.Prelude.{codes, decimal, flat_map}
use Rattle.std.specs.Fmt.{digit_glyph}
use Rattle.std.specs.Char.{digit_value}
use Rattle.std.specs.List.{AllByRecursion, list_all}
use Rattle.std.proofs.lemmas.Bool.Decides.{nat_tests}
use Rattle.bit_grammar.specs.Texts.{line, hex_text, magic_bytes, magic_text, values_text}
use Rattle.bit_text.specs.Numbers.{numbers_after, parts_after}
use Rattle.bit_text.specs.Lines.{spaces, content, is_low_digit, byte_of}
use Rattle.bit_text.proofs.Decimals.{Lacks, lacks_append, decimal_lacks, numbers_read, parts_over}
use Rattle.bit_text.proofs.Spelling.{same_byte}

-- ---- the magic

glyph_value : (d : ℕ) → d < 16 → digit_value (digit_glyph false d) ≡ d
glyph_value d h = grind (arith, nat_tests)

glyph_low : (d : ℕ) → d < 16 → is_low_digit (digit_glyph false d) ≡ true
glyph_low d h = grind (arith, nat_tests)

pub byte_back : (b : ℕ) → b < 256 → byte_of (digit_glyph false (b / 16)) (digit_glyph false (b % 16)) ≡ Some b
byte_back b h =
    let high : b / 16 < 16 = omega arith in
    let low : b % 16 < 16 = omega arith in
    let sum : b / 16 * 16 + b % 16 ≡ b = omega arith in
    rw (glyph_low (b / 16) high, glyph_low (b % 16) low, glyph_value (b / 16) high, glyph_value (b % 16) low) (ap Some sum)

-- ---- spaces

pub spaces_of : (n b : ℕ) (text : List ℕ) → nat_eq b 32 ≡ false → spaces (replicate n 32 ++ b ∷ text) ≡ n
spaces_of zero b text other = rw other refl
spaces_of (suc n) b text other = ap suc (spaces_of n b text other)

pub dropped : (n : ℕ) (text : List ℕ) → drop n (replicate n 32 ++ text) ≡ text
dropped zero text = refl
dropped (suc n) text = dropped n text

pub content_of : (n b : ℕ) (text : List ℕ) → nat_eq b 32 ≡ false → content (replicate n 32 ++ b ∷ text) ≡ b ∷ text
content_of n b text other = rw (spaces_of n b text other) (dropped n (b ∷ text))

-- ---- items

pub record_numbers : (code : ℕ) (values : List ℕ) → code < 2 ^ 64 → AllByRecursion (λ v. v < 2 ^ 64) values → numbers_after [] (parts_after 32 [] (decimal code ++ values_text values)) ≡ Ok (code ∷ values)
record_numbers code values h all = ap (numbers_after []) (parts_over 32 [] (decimal code) (values_text values) (decimal_lacks 32 code (omega arith) h)) ∙ numbers_read [] code values h all

pub block_numbers : (id : ℕ) → id < 2 ^ 32 → numbers_after [] (parts_after 32 [] (decimal id)) ≡ Ok (id ∷ [])
block_numbers id h =
    let h64 : id < 2 ^ 64 = omega (arith, h) in
    ap (λ t. numbers_after [] (parts_after 32 [] t)) (sym (append-nil (decimal id))) ∙ record_numbers id [] h64 tt

-- ---- lines

other_then : (t rest : Bool) → (not t && rest) ≡ true → (t ≡ false) × (rest ≡ true)
other_then true rest h = absurd cc
other_then false rest h = (refl, h)

not_same : (c b : ℕ) → nat_eq c b ≡ false → c ≡ b → ⊥
not_same c b h e = let same = same_byte c b e in absurd cc

lacks_tested : (b : ℕ) (text : List ℕ) → list_all (λ c. not (nat_eq c b)) text ≡ true → Lacks b text
lacks_tested b [] h = tt
lacks_tested b (c ∷ text) h =
    let p = other_then (nat_eq c b) (list_all (λ c. not (nat_eq c b)) text) h in
    (not_same c b p.0, lacks_tested b text p.1)

lacks_spaces : (n : ℕ) → Lacks 10 (replicate n 32)
lacks_spaces zero = tt
lacks_spaces (suc n) = (λ e. absurd (omega (arith, e)), lacks_spaces n)

lacks_values : (values : List ℕ) → AllByRecursion (λ v. v < 2 ^ 64) values → Lacks 10 (values_text values)
lacks_values [] all = tt
lacks_values (v ∷ values) all = (λ e. absurd (omega (arith, e)), lacks_append 10 (decimal v) (values_text values) (decimal_lacks 10 v (omega arith) all.0) (lacks_values values all.1))

pub line_over : (around : ℕ) (text rest : List ℕ) → Lacks 10 text → parts_after 10 [] (line around text ++ rest) ≡ (replicate (2 * around) 32 ++ text) ∷ parts_after 10 [] rest
line_over around text rest h =
    let spaces = replicate (2 * around) 32 in
    let same : line around text ++ rest ≡ (spaces ++ text) ++ 10 ∷ rest = simp append_assoc in
    ap (parts_after 10 []) same
    ∙ parts_over 10 [] (spaces ++ text) (10 ∷ rest) (lacks_append 10 spaces text (lacks_spaces (2 * around)) h)

pub record_lacks : (code : ℕ) (values : List ℕ) → code < 2 ^ 64 → AllByRecursion (λ v. v < 2 ^ 64) values → Lacks 10 (codes "record " ++ decimal code ++ values_text values)
record_lacks code values h all =
    lacks_append 10 (codes "record " ++ decimal code) (values_text values)
    (lacks_append 10 (codes "record ") (decimal code) (lacks_tested 10 (codes "record ") refl) (decimal_lacks 10 code (omega arith) h))
    (lacks_values values all)

pub block_lacks : (id : ℕ) → id < 2 ^ 32 → Lacks 10 (codes "block " ++ decimal id)
block_lacks id h = lacks_append 10 (codes "block ") (decimal id) (lacks_tested 10 (codes "block ") refl) (decimal_lacks 10 id (omega arith) (omega (arith, h)))

glyph_lacks : (d : ℕ) → d < 16 → digit_glyph false d ≡ 10 → ⊥
glyph_lacks d h e = grind (arith, nat_tests)

hex_lacks : (b : ℕ) → b < 256 → Lacks 10 (hex_text b)
hex_lacks b h = (glyph_lacks (b / 16) (omega arith), (glyph_lacks (b % 16) (omega arith), tt))

pub magic_lacks : (magic : ℕ) → Lacks 10 (magic_text magic)
magic_lacks magic =
    let a = hex_lacks (magic % 0x100) (omega arith) in
    let b = hex_lacks (magic / 0x100 % 0x100) (omega arith) in
    let c = hex_lacks (magic / 0x10000 % 0x100) (omega arith) in
    let d = hex_lacks (magic / 0x1000000 % 0x100) (omega arith) in
    lacks_append 10 (codes "magic ") (flat_map hex_text (magic_bytes magic)) (lacks_tested 10 (codes "magic ") refl) (a.0, (a.1.0, (b.0, (b.1.0, (c.0, (c.1.0, (d.0, (d.1.0, tt))))))))
