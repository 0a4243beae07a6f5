-- The text of values that are taken one after another.
use Rattle.std.proofs.Common.{◌≡◌, ℕ, ◌+◌, ◌*◌, ◌/◌, ◌^◌, ◌<◌, ◌≤◌, Bool, List, [], ◌∷◌, ◌++◌, length, take, refl, sym, ap, subst, ◌∙◌, arith, append_assoc, length-append}
use Rattle.std.proofs.lemmas.List.{append-nil}
use Rattle.bit_norm.specs.Building.{HoldsText, HasTaken}
use Rattle.bit_norm.specs.declared.form_values.FormValues.{FormValues}
use Rattle.bit_norm.specs.declared.form_values.Holding.{Holding}
use Rattle.bit_norm.specs.declared.form_values.Holding.TheVariants.{All, TooLong, Unknown}
use Rattle.bit_grammar.specs.FormatFields.{shortest}
use Rattle.bit_grammar.specs.Bits.{bits_of}
use Rattle.bit_grammar.specs.Normal.{entry_text, values_bits}
use Rattle.bit_grammar.proofs.Bits.Numbers.{length-bits_of}
use Rattle.bit_grammar.proofs.NormalForms.Sizes.{short_length, short_range}
use Rattle.bit_norm.proofs.ChunkCounting.{short_few}

pub values_text-append : (a b : List ℕ) → values_bits (a ++ b) ≡ values_bits a ++ values_bits b
values_text-append [] b = refl
values_text-append (v ∷ a) b = ap (λ (s : List Bool). shortest 6 v ++ s) (values_text-append a b) ∙ sym (append_assoc (shortest 6 v) (values_bits a) (values_bits b))

-- more values have a longer text
pub longer_text : (a b : List ℕ) (limit : ℕ) → limit < length (values_bits a) / 8 → limit < length (values_bits (a ++ b)) / 8
longer_text a b limit long = omega (arith, long, ap length (values_text-append a b) ∙ length-append (values_bits a) (values_bits b))

-- each value takes at least six bits
pub values_least : (a : List ℕ) → 6 * length a ≤ length (values_bits a)
values_least [] = omega arith
values_least (v ∷ a) = omega (arith, values_least a, length-append (shortest 6 v) (values_bits a), short_length 6 v (omega arith), (short_range 6 v (omega arith)).0)

-- ---- what is held

-- values after a text that is not held
pub holds_more : (limit : ℕ) (text : List Bool) (values others : List ℕ) (holding : Holding) → (holding ≡ All → ⊥) → HoldsText holding text limit values → HoldsText holding text limit (values ++ others)
holds_more limit text values others All not_all holds = absurd (not_all refl)
holds_more limit text values others TooLong not_all holds = longer_text values others limit holds
holds_more limit text values others Unknown not_all holds = tt

-- more values are added
pub holds_all : (limit : ℕ) (text new : List Bool) (values others : List ℕ) (holding : Holding) → holding ≡ All → new ≡ text ++ values_bits others → HoldsText holding text limit values → HoldsText holding new limit (values ++ others)
holds_all limit text new values others All is new_is holds = new_is ∙ ap (λ (s : List Bool). s ++ values_bits others) holds ∙ sym (values_text-append values others)
holds_all limit text new values others TooLong is new_is holds = absurd (cc)
holds_all limit text new values others Unknown is new_is holds = absurd (cc)

-- the text is too long now
pub holds_past : (limit : ℕ) (text : List Bool) (values others : List ℕ) (holding : Holding) → holding ≡ All → limit < length text / 8 → HoldsText holding text limit values → limit < length (values_bits (values ++ others)) / 8
holds_past limit text values others All is long holds = longer_text values others limit (subst (λ (s : List Bool). limit < length s / 8) holds long)
holds_past limit text values others TooLong is long holds = absurd (cc)
holds_past limit text values others Unknown is long holds = absurd (cc)

-- this many values have no longer text
pub values_few : (vs : List ℕ) → length (values_bits vs) ≤ 2048 * length vs
values_few [] = omega arith
values_few (v ∷ vs) = omega (arith, values_few vs, length-append (shortest 6 v) (values_bits vs), short_length 6 v (omega arith), short_few 6 v (omega arith) (omega arith))

-- what comes in a record before its values takes few bits
pub front_few : (code count : ℕ) → length (bits_of 2 3 ++ (shortest 6 code ++ shortest 6 count)) ≤ 4098
front_few code count = omega (arith, length-append (bits_of 2 3) (shortest 6 code ++ shortest 6 count), length-append (shortest 6 code) (shortest 6 count), length-bits_of 2 3, short_length 6 code (omega arith), short_few 6 code (omega arith) (omega arith), short_length 6 count (omega arith), short_few 6 count (omega arith) (omega arith))

-- and so does a record of few values
pub entry_few : (code : ℕ) (vs : List ℕ) → length (bits_of 2 3 ++ entry_text code vs) ≤ 4098 + 2048 * length vs
entry_few code vs = omega (arith, length-append (bits_of 2 3) (entry_text code vs), length-bits_of 2 3, values_few (code ∷ length vs ∷ vs))

-- ---- what was taken

-- all values have become text
pub all_text : (t : FormValues) (values : List ℕ) → t.held ≡ 0 → (took : HasTaken t values) → values ≡ took.front
all_text t values none took = took.whole ∙ ap (λ (n : ℕ). took.front ++ take n t.numbers) none ∙ append-nil took.front

-- a text that is held is that of all values, and they are counted
pub held_text : (t : FormValues) (values : List ℕ) → t.holding ≡ All → t.held ≡ 0 → HasTaken t values → t.text ≡ values_bits values
held_text t values is none took = subst (λ (h : Holding). HoldsText h t.text t.limits.bytes took.front) is took.holds ∙ ap values_bits (sym (all_text t values none took))

pub held_count : (t : FormValues) (values : List ℕ) → t.holding ≡ All → t.held ≡ 0 → length t.text < 2 ^ 38 → HasTaken t values → t.before ≡ length values
held_count t values is none few took = omega (arith, few, took.count, ap length (all_text t values none took), ap length (held_text t values is none took), values_least values)

-- the text is longer than a limit, or it was when it was dropped
pub past_text : (t : FormValues) (values : List ℕ) (limit : ℕ) → t.holding ≡ All → limit < length t.text / 8 → HasTaken t values → limit < length (values_bits values) / 8
past_text t values limit is long took =
    let held : t.text ≡ values_bits took.front = subst (λ (h : Holding). HoldsText h t.text t.limits.bytes took.front) is took.holds in
    subst (λ (vs : List ℕ). limit < length (values_bits vs) / 8) (sym took.whole) (longer_text took.front (take t.held t.numbers) limit (subst (λ (s : List Bool). limit < length s / 8) held long))

pub past_limit : (t : FormValues) (values : List ℕ) (limit : ℕ) → t.holding ≡ TooLong → limit ≤ t.limits.bytes → HasTaken t values → limit < length (values_bits values) / 8
past_limit t values limit is le took =
    let over : t.limits.bytes < length (values_bits took.front) / 8 = subst (λ (h : Holding). HoldsText h t.text t.limits.bytes took.front) is took.holds in
    subst (λ (vs : List ℕ). limit < length (values_bits vs) / 8) (sym took.whole) (longer_text took.front (take t.held t.numbers) limit (omega (arith, over, le)))
