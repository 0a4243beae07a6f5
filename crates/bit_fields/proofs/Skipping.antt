-- Fields that are skipped.
use Rattle.std.proofs.Common.{◌≡◌, ℕ, zero, suc, ◌+◌, ◌*◌, ◌≤◌, Bool, List, ◌∷◌, length, take, drop, Result, Ok, refl, ap, ◌∙◌, arith}
use Rattle.std.proofs.lemmas.Bool.{le-ltb}
use Rattle.std.proofs.lemmas.List.{length-drop}
use Rattle.bit_grammar.specs.Bits.{number}
use Rattle.bit_grammar.specs.Grammar as grammar
use Rattle.bit_grammar.specs.Grammar.{◌and_then◌, repeat, reading}
use Rattle.bit_grammar.specs.Fields.{fixed}
use Rattle.bit_fields.specs.Inside.{numbers}
use Rattle.bit_fields.proofs.BitLaws.{drop_more}

-- ---- what is read

fixed_whole : (n p : ℕ) (r : List Bool) → n ≤ length r → reading (fixed n) p r ≡ Ok (number (take n r), p + n, drop n r)
unfolding fixed
fixed_whole n p r there = rw (le-ltb (length r) n there) refl

-- what follows the first one of several fields
abbrev others_of : (n count : ℕ) → ℕ × ℕ × List Bool → Result (List ℕ × ℕ × List Bool) grammar.Fault
others_of n count x = reading (repeat count (fixed n)) x.1 x.2 and_then λ y. Ok (x.0 ∷ y.0, y.1, y.2)

pub fields_whole : (n count p : ℕ) (r : List Bool) → n * count ≤ length r → reading (repeat count (fixed n)) p r ≡ Ok (numbers n count r, p + n * count, drop (n * count) r)
fields_whole n zero p r there =
    let none : n * 0 ≡ 0 = omega arith in
    let same : p + 0 ≡ p = omega arith in
    rw (none, same) refl
fields_whole n (suc count) p r there =
    let all : n + n * count ≡ n * suc count = omega arith in
    let place : p + n + n * count ≡ p + n * suc count = omega arith in
    let more : n * count ≤ length (drop n r) = omega (arith, length-drop n r, there) in
    ap (λ x. x and_then others_of n count) (fixed_whole n p r (omega (arith, there)))
    ∙ ap (λ x. x and_then λ y. Ok (number (take n r) ∷ y.0, y.1, y.2)) (fields_whole n count (p + n) (drop n r) more)
    ∙ ap (λ (q : ℕ). Ok (numbers n (suc count) r, q, drop (n * count) (drop n r))) place
    ∙ ap (λ (s : List Bool). Ok (numbers n (suc count) r, p + n * suc count, s)) (drop_more n (n * count) r ∙ ap (λ (m : ℕ). drop m r) all)

-- ---- what is skipped
