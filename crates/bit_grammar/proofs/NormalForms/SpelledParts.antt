-- What the texts of a normal form spell: fields, records, and the head and the end of a block.
use Rattle.std.proofs.Common.{◌≡◌, ℕ, zero, suc, ◌+◌, ◌-◌, ◌*◌, ◌<◌, ◌≤◌, ◌^◌, Bool, true, false, eqb, List, [], ◌∷◌, ◌++◌, length, replicate, Option, refl, sym, subst, ◌∙◌, arith, inl, inr}
use Rattle.std.specs.List.{AllByRecursion}
use Rattle.std.proofs.lemmas.Bool.{lt-ltb}
use Rattle.std.proofs.lemmas.Bool.Decides.{nat_tests}
use Rattle.std.proofs.lemmas.List.{append-nil, length-append}
use Rattle.bit_grammar.specs.declared.shapes.Shapes.{Shapes}
use Rattle.bit_grammar.specs.Bits.{bits_of}
use Rattle.bit_grammar.specs.Grammar.{Fault, Grammar, one_more, last, gives, position, test, choose, ◌>>=◌, repeat, Spells}
use Rattle.bit_grammar.specs.Fields.{padding_length, fixed, vbr, align32}
use Rattle.bit_grammar.specs.FormatFields.{shortest}
use Rattle.bit_grammar.specs.Record.{value_count, unabbreviated}
use Rattle.bit_grammar.specs.Marks.{Item, record_item}
use Rattle.bit_grammar.specs.Blocks.{Handed, Scope, leave, BlockHead, block_id, new_width, block_head, end_of_block, entry, describe, record_after, item_after, item}
use Rattle.bit_grammar.specs.Terms.{BlockInfo}
use Rattle.bit_grammar.specs.Normal.{padding, values_bits, entry_text, head_text, end_text}
use Rattle.bit_grammar.proofs.Bits.Numbers.{length-bits_of, number-bits_of}
use Rattle.bit_grammar.proofs.NormalForms.Texts.{pad_length}
use Rattle.bit_grammar.proofs.Words.Fields.{sum_is, is_fixed, is_vbr, is_align, short_is_vbr}
use Rattle.bit_grammar.proofs.Readings.Wholes.{is_le}

-- ---- spelling by parts

-- a spelling as a record, so that its arguments are inferred
pub record Spelled {A : Type 0} (rule : Grammar A) (p : ℕ) (s : List Bool) (v : A) : Type 0 where
  pub is : Spells rule p s v

pub then_spelled : {A B : Type 0} {first : Grammar A} (second : A → Grammar B) {p : ℕ} {a b : List Bool} {x : A} {v : B} → Spelled first p a x → Spelled (second x) (p + length a) b v → Spelled (first >>= second) p (a ++ b) v
then_spelled second {a = a} {b = b} {x = x} h k = record { is = (a, b, x, refl, h.is, k.is) }

-- the last part with bits
pub then_last : {A B : Type 0} {first : Grammar A} (second : A → Grammar B) {p : ℕ} {a : List Bool} {x : A} {v : B} → Spelled first p a x → Spelled (second x) (p + length a) [] v → Spelled (first >>= second) p a v
then_last second {a = a} {x = x} h k = record { is = (a, [], x, sym (append-nil a), h.is, k.is) }

pub given : {A : Type 0} {x : A} {p : ℕ} → Spelled (gives x) p [] x
given = record { is = (refl, refl) }

-- a first part without bits
pub no_bits : {A B : Type 0} {first : Grammar A} (second : A → Grammar B) {p : ℕ} {s : List Bool} {x : A} {v : B} → Spelled first p [] x → Spelled (second x) p s v → Spelled (first >>= second) p s v
no_bits second {p = p} {s = s} {x = x} {v = v} h k = record { is = ([], s, x, refl, h.is, subst (λ (q : ℕ). Spells (second x) q s v) (omega arith) k.is) }

pub here_spelled : {B : Type 0} (second : ℕ → Grammar B) {p : ℕ} {s : List Bool} {v : B} → Spelled (second p) p s v → Spelled (position >>= second) p s v
here_spelled second {p = p} {s = s} {v = v} h = record { is = ([], s, p, refl, (refl, refl), subst (λ (q : ℕ). Spells (second p) q s v) (omega arith) h.is) }

pub judge_spelled : {B : Type 0} (holds : Bool) (why : Fault) (second : Unit {0} → Grammar B) {p : ℕ} {s : List Bool} {v : B} → holds ≡ true → Spelled (second tt) p s v → Spelled (test holds why >>= second) p s v
judge_spelled holds why second {p} {s} {v} e h = record { is = ([], s, tt, refl, (refl, e), subst (λ (q : ℕ). Spells (second tt) q s v) (omega arith) h.is) }

pub first_chosen : {A : Type 0} (b : Bool) {one_rule other_rule : Grammar A} {p : ℕ} {s : List Bool} {v : A} → b ≡ true → Spelled one_rule p s v → Spelled (choose b one_rule other_rule) p s v
first_chosen b e h = record { is = inl (e, h.is) }

pub other_chosen : {A : Type 0} (b : Bool) {one_rule other_rule : Grammar A} {p : ℕ} {s : List Bool} {v : A} → b ≡ false → Spelled other_rule p s v → Spelled (choose b one_rule other_rule) p s v
other_chosen b e h = record { is = inr (e, h.is) }

-- the same bits at the same position, in other terms
pub moved : {A : Type 0} {rule : Grammar A} {p q : ℕ} {s : List Bool} {v : A} → p ≡ q → Spelled rule p s v → Spelled rule q s v
moved {rule = rule} {s = s} {v = v} e h = record { is = subst (λ (x : ℕ). Spells rule x s v) e h.is }

-- ---- fields

pub fixed_spelled : (n v p : ℕ) → v < 2 ^ n → Spelled (fixed n) p (bits_of n v) v
fixed_spelled n v p small = record { is = is_fixed n p (bits_of n v) v (record { length = length-bits_of n v; value = sym (sum_is (bits_of n v) ∙ number-bits_of n v small) }) }

pub short_spelled : (n v p : ℕ) → 2 ≤ n → v < 2 ^ 64 → Spelled (vbr n) p (shortest n v) v
short_spelled n v p wide small = record { is = is_vbr n p (shortest n v) v wide (short_is_vbr n v wide small) }

all_zeros : (n : ℕ) → AllByRecursion (λ b. b ≡ false) (replicate n false)
all_zeros zero = tt
all_zeros (suc n) = (refl, all_zeros n)

pub pad_spelled : (p : ℕ) → Spelled align32 p (padding p) tt
pad_spelled p = record { is = is_align p (padding p) (record { zeros = all_zeros (padding_length p); few = omega (arith, pad_length p); aligned = omega (arith, pad_length p) }) }

-- ---- records

pub values_spelled : (vs : List ℕ) (p : ℕ) → AllByRecursion (λ v. v < 2 ^ 64) vs → Spelled (repeat (length vs) (vbr 6)) p (values_bits vs) vs
values_spelled [] p small = given
values_spelled (v ∷ vs) p small = then_spelled _ (short_spelled 6 v p (omega arith) small.0) (then_last _ (values_spelled vs _ small.1) given)

pub count_spelled : (room n p : ℕ) → n ≤ room → n < 2 ^ 64 → Spelled (value_count room) p (shortest 6 n) n
unfolding value_count
count_spelled room n p fits small = here_spelled _ (then_last _ (short_spelled 6 n p (omega arith) small) (judge_spelled _ _ _ (is_le n room fits) given))

pub entry_spelled : (limit first code : ℕ) (values : List ℕ) (scope : Scope) (p : ℕ) → code < 2 ^ 64 → AllByRecursion (λ v. v < 2 ^ 64) values → scope.handed.used + length values ≤ limit → limit < 2 ^ 64
    → Spelled (entry (limit - scope.handed.used) first 3 scope.definitions) p (entry_text code values) (record { code = code; values = values })
unfolding entry unabbreviated
entry_spelled limit first code values scope p small all fits capped =
    first_chosen _ refl (then_spelled _ (short_spelled 6 code p (omega arith) small)
    (then_spelled _ (count_spelled (limit - scope.handed.used) (length values) _ (omega (arith, fits)) (omega (arith, fits, capped))) (then_last _ (values_spelled values _ all) given)))

pub id_spelled : (h : BlockHead) (id p : ℕ) → h.width ≡ 2 → id < 4 → Spelled (fixed h.width) p (bits_of 2 id) id
id_spelled h id p wide small = subst (λ (n : ℕ). Spelled (fixed n) p (bits_of 2 id) id) (sym wide) (fixed_spelled 2 id p small)

abbrev pub noted : Scope → Option BlockInfo → ℕ → Scope
noted scope info n = record scope { info = info; handed = record { table = scope.handed.table; used = scope.handed.used + n } }

pub record_spelled : (shapes : Shapes) (inner : ℕ → Handed → Grammar (Item × Handed)) (h : BlockHead) (limit : ℕ) (scope : Scope) (info : Option BlockInfo) (code : ℕ) (values : List ℕ) (p : ℕ) → h.width ≡ 2
    → code < 2 ^ 64 → AllByRecursion (λ v. v < 2 ^ 64) values → scope.handed.used + length values ≤ limit → limit < 2 ^ 64
    → ((q : ℕ) → Spelled (describe scope.info p (record { code = code; values = values })) q [] info)
    → Spelled (item shapes inner h limit scope) p (bits_of 2 3 ++ entry_text code values)
    (one_more (record_item (record { abbreviation = 3; code = code; values = values; first = p; after = p + length (bits_of 2 3) + length (entry_text code values) })) (noted scope info (length values)))
unfolding item item_after record_after
record_spelled shapes inner h limit scope info code values p wide small all fits capped described =
    here_spelled _ (then_spelled _ (id_spelled h 3 p wide (omega arith))
    (other_chosen _ refl (other_chosen _ refl (other_chosen _ refl
    (then_last _ (then_last _ (entry_spelled limit p code values scope _ small all fits capped) (here_spelled _ (no_bits _ (described _) given))) given)))))

-- ---- a block's head and its end

abbrev pub made_head : (id words p : ℕ) → BlockHead
made_head id words p =
    let at_pad = p + length (shortest 8 id) + length (shortest 4 2) in
    let at_length = at_pad + length (padding at_pad) in
    record { id = id; width = 2; length_at = at_length; words = words; body = at_length + length (bits_of 32 words) }

pub head_spelled : (id words p : ℕ) → id < 2 ^ 32 → words < 2 ^ 32 → Spelled block_head p (head_text id words p) (made_head id words p)
unfolding block_head block_id new_width
head_spelled id words p a b =
    then_spelled _ (here_spelled _ (then_last _ (short_spelled 8 id p (omega arith) (omega (arith, a))) (judge_spelled _ _ _ (lt-ltb id (2 ^ 32) a) given)))
    (then_spelled _ (here_spelled _ (then_last _ (short_spelled 4 2 _ (omega arith) (omega arith)) (judge_spelled _ _ _ refl given)))
    (then_spelled _ (pad_spelled _) (here_spelled _ (then_last _ (fixed_spelled 32 words _ b) (here_spelled _ given)))))

pub ends_at : (words body after : ℕ) → body + 32 * words ≡ after → eqb (body + 32 * words) after ≡ true
ends_at words body after e = grind (arith, nat_tests)

pub end_spelled : (h : BlockHead) (p : ℕ) → h.body + 32 * h.words ≡ p + length (padding p) → Spelled (end_of_block h) p (padding p) (p + length (padding p))
unfolding end_of_block
end_spelled h p e = then_last _ (pad_spelled p) (here_spelled _ (judge_spelled _ _ _ (ends_at h.words h.body _ e) given))

-- the last round: the id 0, the padding and the length
pub last_spelled : (shapes : Shapes) (inner : ℕ → Handed → Grammar (Item × Handed)) (h : BlockHead) (limit : ℕ) (scope : Scope) (p : ℕ) → h.width ≡ 2 → h.body + 32 * h.words ≡ p + length (end_text p)
    → (after : ℕ) → after ≡ p + length (end_text p) → Spelled (item shapes inner h limit scope) p (end_text p) (last (after, leave scope.info scope.handed))
unfolding item item_after
last_spelled shapes inner h limit scope p wide e after is =
    let q = p + length (bits_of 2 0) in
    let two : q + length (padding q) ≡ p + length (end_text p) = omega (arith, length-append (bits_of 2 0) (padding q)) in
    let ended : Spelled (item_after shapes inner h limit p scope 0) q (padding q) (last (after, leave scope.info scope.handed)) =
    subst (λ (x : ℕ). Spelled (item_after shapes inner h limit p scope 0) q (padding q) (last (x, leave scope.info scope.handed))) (two ∙ sym is)
    (first_chosen _ refl (then_last _ (end_spelled h q (e ∙ sym two)) given)) in
    here_spelled _ (then_spelled _ (id_spelled h 0 p wide (omega arith)) ended)
