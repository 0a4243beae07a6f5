-- Texts that grow, and bytes of a magic.
use Rattle.std.proofs.Common.{◌≡◌, ℕ, ◌+◌, ◌*◌, ◌/◌, ◌%◌, ◌^◌, ◌<◌, ◌≤◌, List, [], ◌∷◌, ◌++◌, length, get_or, Result, Ok, Err, refl, sym, ap, ◌∙◌, append_assoc, arith}
use Rattle.std.specs.Prelude.{OnOk, codes, decimal, flat_map, is_ok, if◌then◌else◌}
use Rattle.std.proofs.lemmas.Fmt.{decimal_digit, decimal_step}
use Rattle.std.specs.declared.alloc.AllocError.{AllocError}
use Rattle.std.specs.Int.{w32, from_le_bytes}
use Rattle.bit_grammar.specs.Texts.{magic_bytes, hex_text}
use Rattle.bit_fields.specs.Opening.{magic_number}
use Rattle.bit_scan.specs.Lines.{block_row_text, block_start, block_middle, block_end}
use Rattle.bit_scan.specs.declared.rows.BlockRow.{BlockRow}
use Rattle.bit_tree.proofs.Magics.{magic_is}

bytes_of_sum : (a b c d n : ℕ) → n ≡ a + 256 * (b + 256 * (c + 256 * d)) → a < 256 → b < 256 → c < 256 → d < 256 → magic_bytes n ≡ a ∷ b ∷ c ∷ d ∷ []
bytes_of_sum a b c d n is ha hb hc hd =
    let one : n % 0x100 ≡ a = omega (arith, is) in
    let two : n / 0x100 % 0x100 ≡ b = omega (arith, is) in
    let three : n / 0x10000 % 0x100 ≡ c = omega (arith, is) in
    let four : n / 0x1000000 % 0x100 ≡ d = omega (arith, is) in
    rw (one, two, three, four) refl

-- the bytes of the number of four bytes
bytes_back : (bytes : List ℕ) → length bytes ≡ 4 → ((k : ℕ) → get_or bytes k 0 < 256) → magic_bytes (magic_number bytes) ≡ bytes
bytes_back [] n h = absurd (omega arith)
bytes_back (a ∷ []) n h = absurd (omega arith)
bytes_back (a ∷ b ∷ []) n h = absurd (omega arith)
bytes_back (a ∷ b ∷ c ∷ []) n h = absurd (omega arith)
bytes_back (a ∷ b ∷ c ∷ d ∷ []) n h =
    let is = magic_is (a ∷ b ∷ c ∷ d ∷ []) refl h in
    bytes_of_sum a b c d (magic_number (a ∷ b ∷ c ∷ d ∷ [])) (sym is ∙ (let sum : from_le_bytes w32 (a ∷ b ∷ c ∷ d ∷ []) ≡ a + 256 * (b + 256 * (c + 256 * d)) = omega arith in sum)) (h 0) (h 1) (h 2) (h 3)
bytes_back (a ∷ b ∷ c ∷ d ∷ e ∷ bytes) n h = absurd (omega arith)

-- a text, and another one after it
pub then_pushed : (a b : List ℕ) (r : Result (Unit {0}) AllocError) (old middle new : List ℕ) → middle ≡ old ++ a → OnOk r (new ≡ middle ++ b) → OnOk r (new ≡ old ++ (a ++ b))
then_pushed a b (Ok x) old middle new first second = second ∙ ap (λ (l : List ℕ). l ++ b) first ∙ append_assoc old a b
then_pushed a b (Err x) old middle new first second = tt

-- a push whose contract covers a failed allocation too
pub pushed_on_ok : (a : List ℕ) (r : Result (Unit {0}) AllocError) (old new : List ℕ) → new ≡ (if is_ok r then old ++ a else old) → OnOk r (new ≡ old ++ a)
pushed_on_ok a (Ok x) old new pushed = pushed
pushed_on_ok a (Err x) old new pushed = tt

-- the digits of a magic are those of its bytes
pub digits_pushed : (bytes : List ℕ) → length bytes ≡ 4 → ((k : ℕ) → get_or bytes k 0 < 256) → (r : Result (Unit {0}) AllocError) (old new : List ℕ) → OnOk r (new ≡ old ++ flat_map hex_text bytes) → OnOk r (new ≡ old ++ flat_map hex_text (magic_bytes (magic_number bytes)))
digits_pushed bytes n h (Ok x) old new pushed = pushed ∙ ap (λ (l : List ℕ). old ++ flat_map hex_text l) (sym (bytes_back bytes n h))
digits_pushed bytes n h (Err x) old new pushed = tt

-- ---- the line of a block id in a report

regrouped : (a b c d e f g h i j k l m n z : List ℕ)
    → (a ++ b ++ c ++ d ++ e ++ f ++ g ++ h ++ i ++ j ++ k ++ l ++ m ++ n) ++ z ≡ (a ++ b ++ c ++ d ++ e ++ f) ++ ((g ++ h ++ i ++ j) ++ (k ++ l ++ m ++ n ++ z))
regrouped a b c d e f g h i j k l m n z = simp append_assoc

block_parts : {S H : Type 0} (e : ℕ × BlockRow S H) → block_row_text e ≡ block_start e ++ (block_middle e ++ block_end e)
block_parts e =
    regrouped (codes "block ") (decimal e.0) (codes " count ") (decimal e.1.blocks) (codes " bits ") (decimal e.1.bits) (codes " definitions ") (decimal e.1.definitions) (codes " records ") (decimal e.1.records)
    (codes " abbreviated ") (decimal e.1.abbreviated) (codes " values ") (decimal e.1.values) (codes "\n")

-- the three parts, one after the other
pub all_parts : {S H : Type 0} (e : ℕ × BlockRow S H) (r : Result (Unit {0}) AllocError) (old one two new : List ℕ) → one ≡ old ++ block_start e → two ≡ one ++ block_middle e → OnOk r (new ≡ two ++ block_end e) → OnOk r (new ≡ old ++ block_row_text e)
all_parts e (Ok x) old one two new first second third =
    third ∙ ap (λ (l : List ℕ). l ++ block_end e) (second ∙ ap (λ (l : List ℕ). l ++ block_middle e) first) ∙ joined old (block_start e) (block_middle e) (block_end e) ∙ ap (λ (l : List ℕ). old ++ l) (sym (block_parts e))
  where
    joined : (a b c d : List ℕ) → ((a ++ b) ++ c) ++ d ≡ a ++ (b ++ (c ++ d))
    joined a b c d = simp append_assoc
all_parts e (Err x) old one two new first second third = tt

-- ---- a line after its bit

pub line_placed : (bit : ℕ) (text : List ℕ) (r : Result (Unit {0}) AllocError) (old middle new : List ℕ) → middle ≡ old ++ (decimal bit ++ (32 ∷ [])) → OnOk r (new ≡ middle ++ text) → OnOk r (new ≡ old ++ (decimal bit ++ (32 ∷ text)))
line_placed bit text (Ok x) old middle new first second = second ∙ ap (λ (l : List ℕ). l ++ text) first ∙ joined old (decimal bit) text
  where
    joined : (a b c : List ℕ) → (a ++ (b ++ (32 ∷ []))) ++ c ≡ a ++ (b ++ (32 ∷ c))
    joined a b c = simp append_assoc
line_placed bit text (Err x) old middle new first second = tt

-- the last digit of a number after the others
pub digit_behind : (number last : ℕ) (r : Result (Unit {0}) AllocError) (old middle new : List ℕ) → 10 ≤ number → number < 2 ^ 64 → last ≡ number % 10 → middle ≡ old ++ decimal (number / 10) → OnOk r (new ≡ middle ++ decimal last) → OnOk r (new ≡ old ++ decimal number)
digit_behind number last (Ok x) old middle new some below last_is first second =
    let digit : decimal last ≡ (48 + number % 10) ∷ [] = ap decimal last_is ∙ decimal_digit (number % 10) (omega arith) in
    second
    ∙ ap (λ (l : List ℕ). l ++ decimal last) first
    ∙ append_assoc old (decimal (number / 10)) (decimal last)
    ∙ ap (λ (l : List ℕ). old ++ (decimal (number / 10) ++ l)) digit
    ∙ ap (λ (l : List ℕ). old ++ l) (sym (decimal_step number some below))
digit_behind number last (Err error) old middle new some below last_is first second = tt
