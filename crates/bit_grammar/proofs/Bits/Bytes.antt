-- Bytes and their bits.
use Rattle.std.proofs.Common.{◌≡◌, ℕ, zero, suc, ◌*◌, ◌^◌, ◌<◌, Bool, List, [], ◌∷◌, ◌++◌, length, take, drop, refl, sym, ap, subst, ◌∙◌, arith}
use Rattle.std.specs.List.{All, AllByRecursion}
use Rattle.std.proofs.Math.Seq.{take-append_seam, drop-append_seam}
use Rattle.std.proofs.lemmas.List.{length-append, length-take, length-drop, take-append-drop}
use Rattle.std.proofs.lemmas.List.Elements.{recursion_from_All}
use Rattle.bit_grammar.specs.Bits.{number, bits_of, bits_of_bytes}
use Rattle.bit_grammar.proofs.Bits.Numbers.{number_below, length-bits_of, number-bits_of, number_only}

pub bytes_length : (bytes : List ℕ) → length (bits_of_bytes bytes) ≡ 8 * length bytes
bytes_length [] = refl
bytes_length (b ∷ bytes) = omega (arith, bytes_length bytes, length-append (bits_of 8 b) (bits_of_bytes bytes))

-- ---- the bytes of bits

bits_of-number : (s : List Bool) → bits_of (length s) (number s) ≡ s
bits_of-number s = number_only (bits_of (length s) (number s)) s (length-bits_of (length s) (number s)) (number-bits_of (length s) (number s) (number_below s))

same_parts : (a b x y : List Bool) → length a ≡ length b → a ++ x ≡ b ++ y → (a ≡ b) × (x ≡ y)
same_parts a b x y len e =
    let front : take (length b) (a ++ x) ≡ b = ap (take (length b)) e ∙ take-append_seam b y in
    let others : drop (length b) (a ++ x) ≡ y = ap (drop (length b)) e ∙ drop-append_seam b y in (
      sym (take-append_seam a x) ∙ ap (λ (n : ℕ). take n (a ++ x)) len ∙ front,
      sym (drop-append_seam a x) ∙ ap (λ (n : ℕ). drop n (a ++ x)) len ∙ others,
    )

one_byte : (a b : ℕ) → a < 256 → b < 256 → bits_of 8 a ≡ bits_of 8 b → a ≡ b
one_byte a b x y e = sym (number-bits_of 8 a (omega (arith, x))) ∙ ap number e ∙ number-bits_of 8 b (omega (arith, y))

abbrev AreBytes : List ℕ → Type 0
AreBytes bytes = AllByRecursion (λ b. b < 256) bytes

same_bytes : (a b : List ℕ) → AreBytes a → AreBytes b → bits_of_bytes a ≡ bits_of_bytes b → a ≡ b
same_bytes [] [] small small' e = refl
same_bytes [] (y ∷ b) small small' e = absurd (omega (arith, ap length e, bytes_length (y ∷ b)))
same_bytes (x ∷ a) [] small small' e = absurd (omega (arith, ap length e, bytes_length (x ∷ a)))
same_bytes (x ∷ a) (y ∷ b) small small' e =
    let parts = same_parts (bits_of 8 x) (bits_of 8 y) (bits_of_bytes a) (bits_of_bytes b) (length-bits_of 8 x ∙ sym (length-bits_of 8 y)) e in
    let first = one_byte x y small.0 small'.0 parts.0 in
    let others = same_bytes a b small.1 small'.1 parts.1 in
    ap (λ (n : ℕ). n ∷ a) first ∙ ap (λ (bytes : List ℕ). y ∷ bytes) others

pub one_list_of_bytes : (a b : List ℕ) → All (λ x. x < 256) a → All (λ x. x < 256) b → bits_of_bytes a ≡ bits_of_bytes b → a ≡ b
one_list_of_bytes a b small small' e = same_bytes a b (recursion_from_All (λ x. x < 256) a small) (recursion_from_All (λ x. x < 256) b small') e

-- n bytes with these bits
pub record BytesOf (s : List Bool) (n : ℕ) : Type 0 where
  pub bytes : List ℕ
  pub small : AllByRecursion (λ b. b < 256) bytes
  pub is : bits_of_bytes bytes ≡ s
  pub count : length bytes ≡ n

pub bytes_of : (n : ℕ) (s : List Bool) → length s ≡ 8 * n → BytesOf s n
bytes_of zero [] len = record { bytes = []; small = tt; is = refl; count = refl }
bytes_of zero (b ∷ s) len = absurd (omega (arith, len))
bytes_of (suc n) s len =
    let first = take 8 s in
    let eight : length first ≡ 8 = omega (arith, length-take 8 s, len) in
    let others = bytes_of n (drop 8 s) (omega (arith, length-drop 8 s, len)) in
    let byte : bits_of 8 (number first) ≡ first = subst (λ (k : ℕ). bits_of k (number first) ≡ first) eight (bits_of-number first) in
    let small : number first < 2 ^ 8 = subst (λ (k : ℕ). number first < 2 ^ k) eight (number_below first) in
    record {
      bytes = number first ∷ others.bytes;
      small = (omega (arith, small), others.small);
      is = ap (λ (t : List Bool). t ++ bits_of_bytes others.bytes) byte ∙ ap (λ (t : List Bool). first ++ t) others.is ∙ take-append-drop 8 s;
      count = ap suc others.count;
    }
