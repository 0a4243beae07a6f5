-- Values of single operands, and records that have such.
use Rattle.std.proofs.Common.{◌≡◌, ℕ, zero, suc, ◌+◌, ◌*◌, ◌-◌, ◌^◌, ◌<◌, ◌≤◌, Bool, true, List, [], ◌∷◌, ◌++◌, length, take, drop, replicate, Result, Ok, Err, refl, sym, ap, ◌∙◌, subst, arith, append_assoc, inl, inr}
use Rattle.std.proofs.Math.Seq.{take-suc, get_or-append_seam}
use Rattle.std.proofs.lemmas.Bool.{le-leb, cases_lt}
use Rattle.std.proofs.lemmas.List.{append-nil, length-append, length-drop, take_all, take_at}
use Rattle.bit_grammar.specs.declared.op.Op.{Op}
use Rattle.bit_grammar.specs.declared.op.Op.TheVariants.{Literal, Fixed, Vbr, Array, Char6, Blob}
use Rattle.bit_grammar.specs.Bits.{bits_of}
use Rattle.bit_grammar.specs.Blocks.{by_definition}
use Rattle.bit_grammar.specs.Definition.{has_shape}
use Rattle.bit_grammar.specs.Fields.{vbr, char6}
use Rattle.bit_grammar.specs.FormatDefinition.{op_at}
use Rattle.bit_grammar.specs.Grammar.{Grammar, Fault, repeat, reading}
use Rattle.bit_grammar.specs.Record.{scalar, singles, value_count, values_of, abbreviated}
use Rattle.bit_grammar.specs.Terms.{CodeAndValues, character}
use Rattle.bit_fields.specs.Buffered.{BufferedBits, Reads, beyond}
use Rattle.bit_fields.specs.Pens.{TakesNumber}
use Rattle.bit_fields.specs.Placed.{HasNumbers}
use Rattle.bit_fields.specs.declared.placed.PlacedBits.{PlacedBits}
use Rattle.bit_fields.specs.PlacedView.{placed}
use Rattle.bit_fields.proofs.BufferedReads.{reads_forward, reads_there}
use Rattle.bit_fields.proofs.Placing.{fixed_shown, length_at}
use Rattle.bit_abbrev.specs.declared.layout.Layout.TheVariants as layout
use Rattle.bit_abbrev.specs.Layouts.{IsSingle, AreSingles, HasLayout}
use Rattle.bit_abbrev.specs.Plans.{PassesOver, TakesBits}
use Rattle.bit_abbrev.specs.Scalars.{Elements, TakesScalar, HasScalars}
use Rattle.bit_abbrev.proofs.Covering.{same_ok, left_is}
use Rattle.bit_abbrev.proofs.PassedRecords.{field_elements, number_elements}

-- ---- the same rule reads the same

not_ok : {A E : Type 0} (x : A) (y : E) → ◌≡◌ {A = Result A E} (Err y) (Ok x) → ⊥
not_ok x y e = cc

pub same_read : {A : Type 0} (rule : Grammar A) (a : BufferedBits) (x y : A) (b c : BufferedBits) → Reads rule a x b → Reads rule a y c → (x ≡ y) × (b ≡ c)
same_read {A} rule a x y b c first second =
    let same = same_ok (x, b.position, b.bits) (y, c.position, c.bits) (sym first ∙ second) in
    (ap (λ (z : A × ℕ × List Bool). z.0) same, ap (λ (z : A × ℕ × List Bool). let d : BufferedBits = record { position = z.1; bits = z.2 } in d) same)

-- a value, and others after it
record FirstOf (rule : Grammar ℕ) (count : ℕ) (a : BufferedBits) (values : List ℕ) (b : BufferedBits) : Type 0 where
  value : ℕ
  others : List ℕ
  behind : BufferedBits
  all : values ≡ value ∷ others
  first : Reads rule a value behind
  later : Reads (repeat count rule) behind others b

first_of : (rule : Grammar ℕ) (count : ℕ) (a : BufferedBits) (values : List ℕ) (b : BufferedBits) → Reads (repeat (suc count) rule) a values b → FirstOf rule count a values b
first_of rule count a values b h = one (reading rule a.position a.bits) refl
  where
    two : (x : ℕ × ℕ × List Bool) → reading rule a.position a.bits ≡ Ok x → (r : Result (List ℕ × ℕ × List Bool) Fault) → reading (repeat count rule) x.1 x.2 ≡ r → FirstOf rule count a values b
    two x is (Err fault) read = absurd (not_ok (values, b.position, b.bits) fault (sym (rw (is, read) refl) ∙ h))
    two x is (Ok y) read =
        let same = same_ok (x.0 ∷ y.0, y.1, y.2) (values, b.position, b.bits) (sym (rw (is, read) refl) ∙ h) in
        record {
          value = x.0;
          others = y.0;
          behind = record { position = x.1; bits = x.2 };
          all = sym (ap (λ (z : List ℕ × ℕ × List Bool). z.0) same);
          first = is;
          later = read ∙ ap (λ (z : List ℕ × ℕ × List Bool). Ok (y.0, z.1, z.2)) same;
        }

    one : (r : Result (ℕ × ℕ × List Bool) Fault) → reading rule a.position a.bits ≡ r → FirstOf rule count a values b
    one (Err fault) is = absurd (not_ok (values, b.position, b.bits) fault (sym (rw is refl) ∙ h))
    one (Ok x) is = two x is (reading (repeat count rule) x.1 x.2) refl

pub scalars_then : (ops others : List Op) (a b c : BufferedBits) (values more : List ℕ) → HasScalars ops a values b → HasScalars others b more c → HasScalars (ops ++ others) a (values ++ more) c
scalars_then [] others a b c values more h later = subst (λ (vs : List ℕ). HasScalars others a (vs ++ more) c) (sym h.0) (subst (λ (x : BufferedBits). HasScalars others x more c) h.1 later)
scalars_then (op ∷ ops) others a b c values more h later = (h.0, h.1 ++ more, h.2, ap (λ (vs : List ℕ). vs ++ more) h.3, h.4, scalars_then ops others h.2 b c h.1 more h.5 later)

pub scalars_one : (op : Op) (a : BufferedBits) (value : ℕ) (b : BufferedBits) → Reads (scalar op) a value b → HasScalars (op ∷ []) a (value ∷ []) b
scalars_one op a value b seen = (value, [], b, refl, seen, (refl, refl))

pub scalars_many : (ops : List Op) (a b : BufferedBits) (values : List ℕ) → HasScalars ops a values b → length values ≡ length ops
scalars_many [] a b values h = ap length h.0
scalars_many (op ∷ ops) a b values h = ap length h.3 ∙ ap suc (scalars_many ops h.2 b h.1 h.5)

pub scalars_same : (ops : List Op) (a b c : BufferedBits) (values others : List ℕ) → HasScalars ops a values b → HasScalars ops a others c → (values ≡ others) × (b ≡ c)
scalars_same [] a b c values others first second = (first.0 ∙ sym second.0, first.1 ∙ sym second.1)
scalars_same (op ∷ ops) a b c values others first second =
    let one = same_read (scalar op) a first.0 second.0 first.2 second.2 first.4 second.4 in
    let rest = scalars_same ops first.2 b c first.1 second.1 first.5 (subst (λ (x : BufferedBits). HasScalars ops x second.1 c) (sym one.1) second.5) in
    (first.3 ∙ ap (λ (v : ℕ). v ∷ first.1) one.0 ∙ ap (λ (vs : List ℕ). second.0 ∷ vs) rest.0 ∙ sym second.3, rest.1)

-- numbers in chunks of n bits
pub scalars_run : (n count : ℕ) (a : BufferedBits) (values : List ℕ) (b : BufferedBits) → Reads (repeat count (vbr n)) a values b → HasScalars (replicate count (Vbr n)) a values b
unfolding scalar
scalars_run n zero a values b h =
    let same = same_ok ([], a.position, a.bits) (values, b.position, b.bits) h in
    (sym (ap (λ (z : List ℕ × ℕ × List Bool). z.0) same), sym (ap (λ (z : List ℕ × ℕ × List Bool). let d : BufferedBits = record { position = z.1; bits = z.2 } in d) same))
scalars_run n (suc count) a values b h =
    let f = first_of (vbr n) count a values b h in
    (f.value, f.others, f.behind, f.all, f.first, scalars_run n count f.behind f.others b f.later)

-- the bits that are still needed are behind a field
pub left_enough : (others len all left : ℕ) → others ≤ 31 → 64 + 57 * (others + 1) ≤ all → left ≡ all - len → (57 < len → 1888 ≤ left) → 64 + 57 * others ≤ left
left_enough others len all left few there left_is near =
    elim (cases_lt 57 len) [
      | inl long ↦ (let far = near long in omega (arith, far))
      | inr short ↦ omega (arith, short)
    ]

scalar_field : (op : Op) (more : ℕ) (a : BufferedBits) (value width : ℕ) (b : BufferedBits) → width ≤ 57 → width ≤ length a.bits → Reads (scalar op) a value (beyond a width) → b ≡ beyond a width → TakesScalar op more a value b
scalar_field op more a value width b few there seen b_is = record {
  len = width;
  there = there;
  is = b_is;
  reads = subst (Reads (scalar op) a value) (sym b_is) seen;
  near = λ long. absurd (omega (arith, few, long));
}

pub takes_literal : (op : Op) (v more : ℕ) (a : BufferedBits) (value width : ℕ) (b : BufferedBits) → op ≡ Literal v → value ≡ v → width ≡ 0 → b ≡ beyond a width → TakesScalar op more a value b
unfolding scalar
takes_literal op v more a value width b op_is value_is none b_is =
    let e : a.position ≡ a.position + 0 = omega arith in
    let seen : Reads (scalar (Literal v)) a v (beyond a 0) = ap (λ (p : ℕ). Ok (v, p, a.bits)) e in
    scalar_field op more a value width b (omega (arith, none)) (omega (arith, none)) (rw (op_is, value_is, none) seen) b_is

pub takes_fixed : (op : Op) (width n m more : ℕ) (a : BufferedBits) (word value : ℕ) (b : BufferedBits) → op ≡ Fixed width → n ≡ width → m ≡ width → value ≡ word → IsSingle op → 64 ≤ length a.bits → bits_of n word ≡ take n a.bits → word < 2 ^ n → b ≡ beyond a m → TakesScalar op more a value b
unfolding scalar
takes_fixed op width n m more a word value b op_is n_is m_is value_is single there front below b_is =
    let few : width ≤ 32 = subst IsSingle op_is single in
    let all : bits_of width word ≡ take width a.bits = subst (λ (k : ℕ). bits_of k word ≡ take k a.bits) n_is front in
    let least : word < 2 ^ width = subst (λ (k : ℕ). word < 2 ^ k) n_is below in
    scalar_field op more a value width b (omega (arith, few)) (omega (arith, few, there)) (rw (op_is, value_is) (fixed_shown width word a (omega (arith, few, there)) all least)) (b_is ∙ ap (beyond a) m_is)

pub takes_number : (op : Op) (width n more : ℕ) (a : BufferedBits) (value : ℕ) (b : BufferedBits) → op ≡ Vbr width → n ≡ width → TakesNumber n more a value b → TakesScalar op more a value b
unfolding scalar
takes_number op width n more a value b op_is n_is takes = record {
  len = takes.len;
  there = takes.there;
  is = takes.is;
  reads = rw (op_is, ← n_is) takes.reads;
  near = takes.near;
}

pub takes_character : (op : Op) (more : ℕ) (a : BufferedBits) (code value width : ℕ) (b : BufferedBits) → op ≡ Char6 → 64 ≤ length a.bits → bits_of 6 code ≡ take 6 a.bits → code < 2 ^ 6 → value ≡ character code → width ≡ 6 → b ≡ beyond a width → TakesScalar op more a value b
unfolding scalar char6
takes_character op more a code value width b op_is there front below value_is six b_is =
    let one = fixed_shown 6 code a (omega (arith, there)) front below in
    let seen : Reads char6 a (character code) (beyond a 6) = rw one refl in
    scalar_field op more a value 6 b (omega arith) (omega (arith, there)) (rw (op_is, value_is) seen) (b_is ∙ ap (beyond a) six)

-- no other operand gives one value
pub is_character : (op : Op) → IsSingle op → ((v : ℕ) → op ≡ Literal v → ⊥) → ((n : ℕ) → op ≡ Fixed n → ⊥) → ((n : ℕ) → op ≡ Vbr n → ⊥) → op ≡ Char6
is_character (Literal v) h no_literal no_fixed no_number = absurd (no_literal v refl)
is_character (Fixed n) h no_literal no_fixed no_number = absurd (no_fixed n refl)
is_character (Vbr n) h no_literal no_fixed no_number = absurd (no_number n refl)
is_character Char6 h no_literal no_fixed no_number = refl
is_character Array h no_literal no_fixed no_number = absurd h
is_character Blob h no_literal no_fixed no_number = absurd h

-- the first operands' values were passed
pub record FarPassed (ops : List Op) (at : ℕ) (a b : BufferedBits) : Type 0 where
  pub values : List ℕ
  pub reads : HasScalars (take at ops) a values b
  pub there : 64 + 57 * (length ops - at) ≤ length b.bits

pub passes_value : (ops : List Op) (at next : ℕ) (a b : BufferedBits) (value : ℕ) (c : BufferedBits) → length ops ≤ 32 → at < length ops → next ≡ at + 1 → FarPassed ops at a b → TakesScalar (op_at ops at) 1888 b value c → FarPassed ops next a c
passes_value ops at next a b value c few within next_is far takes =
    let one : List Op = op_at ops at ∷ [] in
    let more : take next ops ≡ take at ops ++ one = ap (λ (n : ℕ). take n ops) (let e : next ≡ suc at = omega (arith, next_is) in e) ∙ take-suc ops at (Literal 0) within in
    let left : length c.bits ≡ length b.bits - takes.len = ap (λ (d : BufferedBits). length d.bits) takes.is ∙ length-drop takes.len b.bits in
    record {
      values = far.values ++ value ∷ [];
      reads = subst (λ (t : List Op). HasScalars t a (far.values ++ value ∷ []) c) (sym more) (scalars_then (take at ops) one a b c far.values (value ∷ []) far.reads (scalars_one (op_at ops at) b value c takes.reads));
      there = left_enough (length ops - next) takes.len (length b.bits) (length c.bits) (omega (arith, next_is, within, few)) (omega (arith, next_is, within, far.there)) left takes.near;
    }

pub single_read : (room : ℕ) (op : Op) (others : List Op) (a : BufferedBits) (value : ℕ) (b : BufferedBits) (values : List ℕ) (c : BufferedBits) → IsSingle op → Reads (scalar op) a value b → Reads (values_of room others) b values c → Reads (values_of room (op ∷ others)) a (value ∷ values) c
unfolding values_of
single_read room (Literal v) others a value b values c single first later = rw (first, later) refl
single_read room (Fixed w) others a value b values c single first later = rw (first, later) refl
single_read room (Vbr w) others a value b values c single first later = rw (first, later) refl
single_read room Char6 others a value b values c single first later = rw (first, later) refl
single_read room Array others a value b values c single first later = absurd single
single_read room Blob others a value b values c single first later = absurd single

pub scalars_read : (room : ℕ) (ops tail : List Op) (a b c : BufferedBits) (values more : List ℕ) → AreSingles ops → HasScalars ops a values b → Reads (values_of room tail) b more c → Reads (values_of room (ops ++ tail)) a (values ++ more) c
scalars_read room [] tail a b c values more are h later = subst (λ (vs : List ℕ). Reads (values_of room tail) a (vs ++ more) c) (sym h.0) (subst (λ (x : BufferedBits). Reads (values_of room tail) x more c) h.1 later)
scalars_read room (op ∷ ops) tail a b c values more are h later =
    subst (λ (vs : List ℕ). Reads (values_of room (op ∷ (ops ++ tail))) a (vs ++ more) c) (sym h.3) (single_read room op (ops ++ tail) a h.0 h.2 (h.1 ++ more) c are.0 h.4 (scalars_read room ops tail h.2 b c h.1 more are.1 h.5 later))

one_more : (op : Op) (others : List Op) → IsSingle op → singles (op ∷ others) ≡ suc (singles others)
one_more (Literal v) others single = refl
one_more (Fixed w) others single = refl
one_more (Vbr w) others single = refl
one_more Char6 others single = refl
one_more Array others single = absurd single
one_more Blob others single = absurd single

pub singles_are : (ops tail : List Op) → AreSingles ops → singles (ops ++ tail) ≡ length ops + singles tail
singles_are [] tail are = let e : singles tail ≡ 0 + singles tail = omega arith in e
singles_are (op ∷ ops) tail are = let one = one_more op (ops ++ tail) are.0 in let rest = singles_are ops tail are.1 in omega (arith, one, rest)

array_read : (room : ℕ) (element : Op) (a : BufferedBits) (count : ℕ) (b : BufferedBits) (values : List ℕ) (c : BufferedBits) → Reads (vbr 6) a count b → count ≤ room → Reads (repeat count (scalar element)) b values c → Reads (values_of room (Array ∷ element ∷ [])) a values c
unfolding values_of value_count
array_read room element a count b values c first few later = let holds = le-leb count room few in rw (first, holds, later) refl

pub no_values : (room : ℕ) (a : BufferedBits) → Reads (values_of room []) a [] a
unfolding values_of
no_values room a = refl

pub record_read : (first room : ℕ) (op : Op) (others : List Op) (a : BufferedBits) (code : ℕ) (b : BufferedBits) (values : List ℕ) (c : BufferedBits) → singles others ≤ room → Reads (scalar op) a code b → Reads (values_of (room - singles others) others) b values c → Reads (abbreviated first room (op ∷ others)) a (record { code = code; values = values }) c
unfolding abbreviated
record_read first room op others a code b values c few head seen = let holds = le-leb (singles others) room few in rw (holds, head, seen) refl

pub shaped_read : (first room : ℕ) (ops : List Op) (code : ℕ) (values : List ℕ) (a b : BufferedBits) → has_shape ops ≡ true → Reads (abbreviated first room ops) a (record { code = code; values = values }) b → Reads (by_definition first room ops) a (record { code = code; values = values }) b
unfolding by_definition
shaped_read first room ops code values a b shape seen = rw (shape, seen) refl

pub list_read : (first room code count : ℕ) (ops : List Op) (op : Op) (others : List Op) (element : Op) (start a b c d : BufferedBits) (values more : List ℕ) → ops ≡ op ∷ (others ++ Array ∷ element ∷ []) → has_shape ops ≡ true → AreSingles others → length others + count ≤ room → Reads (scalar op) start code a → HasScalars others a values b → Reads (vbr 6) b count c → Reads (repeat count (scalar element)) c more d
    → Reads (by_definition first room ops) start (record { code = code; values = values ++ more }) d
list_read first room code count ops op others element start a b c d values more ops_are shape are few head h number elements =
    let tail : List Op = Array ∷ element ∷ [] in
    let some : singles (others ++ tail) ≡ length others + 0 = singles_are others tail are in
    let left : ℕ = room - singles (others ++ tail) in
    let seen = scalars_read left others tail a b d values more are h (array_read left element b count c more d number (omega (arith, some, few)) elements) in
    shaped_read first room ops code (values ++ more) start d shape (subst (λ (x : List Op). Reads (abbreviated first room x) start (record { code = code; values = values ++ more }) d) (sym ops_are) (record_read first room op (others ++ tail) start code a (values ++ more) d (omega (arith, some, few)) head seen))

pub coded_read : (first room code : ℕ) (ops : List Op) (op : Op) (others : List Op) (start a b : BufferedBits) (values : List ℕ) → ops ≡ op ∷ others → has_shape ops ≡ true → AreSingles others → length others ≤ room → Reads (scalar op) start code a → HasScalars others a values b
    → Reads (by_definition first room ops) start (record { code = code; values = values }) b
coded_read first room code ops op others start a b values ops_are shape are few head h =
    let none : others ++ [] ≡ others = append-nil others in
    let some : singles others ≡ length others = ap singles (sym none) ∙ singles_are others [] are ∙ omega arith in
    let left : ℕ = room - singles others in
    let joined : Reads (values_of left (others ++ [])) a (values ++ []) b = scalars_read left others [] a b b values [] are h (no_values left b) in
    let seen : Reads (values_of left others) a values b = subst (λ (os : List Op). Reads (values_of left os) a values b) none (subst (λ (vs : List ℕ). Reads (values_of left (others ++ [])) a vs b) (append-nil values) joined) in
    shaped_read first room ops code values start b shape (subst (λ (x : List Op). Reads (abbreviated first room x) start (record { code = code; values = values }) b) (sym ops_are) (record_read first room op others start code a values b (omega (arith, some, few)) head seen))

pub record ListParts (ops : List Op) (op : Op) (others : List Op) (element : Op) : Type 0 where
  pub shape : has_shape ops ≡ true
  pub all : ops ≡ op ∷ (others ++ Array ∷ element ∷ [])
  pub head : IsSingle op
  pub are : AreSingles others
  pub single : IsSingle element
  pub few : length others ≤ 29

singles_between : (ops others : List Op) (op element : Op) (n : ℕ) → ops ≡ op ∷ (others ++ Array ∷ element ∷ []) → n ≡ length ops - 3 → take n (drop 1 ops) ≡ others
singles_between ops others op element n all n_is =
    ap (λ (x : List Op). take n (drop 1 x)) all ∙ take_at others (Array ∷ element ∷ []) n (omega (arith, n_is, ap length all, length-append others (Array ∷ element ∷ [])))

element_last : (ops others : List Op) (op element : Op) (n : ℕ) → ops ≡ op ∷ (others ++ Array ∷ element ∷ []) → n ≡ length ops - 1 → op_at ops n ≡ element
element_last ops others op element n all n_is =
    let front : List Op = op ∷ (others ++ Array ∷ []) in
    let split : ops ≡ front ++ element ∷ [] = all ∙ ap (λ (x : List Op). op ∷ x) (sym (append_assoc others (Array ∷ []) (element ∷ []))) in
    let place : n ≡ length front = omega (arith, n_is, ap length split, length-append front (element ∷ [])) in
    ap (λ (i : ℕ). op_at ops i) place ∙ ap (λ (x : List Op). op_at x (length front)) split ∙ get_or-append_seam front element [] (Literal 0)

pub list_parts : (ops given : List Op) (some last : ℕ) → given ≡ ops → HasLayout ops layout.List → some ≡ length given - 3 → last ≡ length given - 1 → ListParts ops (op_at given 0) (take some (drop 1 given)) (op_at given last)
list_parts ops given some last given_is h some_is last_is =
    let all : given ≡ h.2 ∷ (h.3 ++ Array ∷ h.4 ∷ []) = given_is ∙ h.5 in
    let begun : op_at given 0 ≡ h.2 = ap (λ (x : List Op). op_at x 0) all in
    let between : take some (drop 1 given) ≡ h.3 = singles_between given h.3 h.2 h.4 some all some_is in
    let end : op_at given last ≡ h.4 = element_last given h.3 h.2 h.4 last all last_is in
    rw (begun, between, end) (record {
      shape = h.0;
      all = h.5;
      head = h.6;
      are = h.7;
      single = h.8;
      few = omega (arith, h.1, ap length h.5, length-append h.3 (Array ∷ h.4 ∷ []));
    })

pub record CodedParts (ops : List Op) (op : Op) (others : List Op) : Type 0 where
  pub shape : has_shape ops ≡ true
  pub all : ops ≡ op ∷ others
  pub head : IsSingle op
  pub are : AreSingles others
  pub few : length others ≤ 31

pub coded_parts : (ops given : List Op) (some : ℕ) → given ≡ ops → HasLayout ops layout.Coded → some ≡ length given - 1 → CodedParts ops (op_at given 0) (take some (drop 1 given))
coded_parts ops given some given_is h some_is =
    let all : given ≡ h.2 ∷ h.3 = given_is ∙ h.4 in
    let begun : op_at given 0 ≡ h.2 = ap (λ (x : List Op). op_at x 0) all in
    let behind : take some (drop 1 given) ≡ h.3 = ap (λ (x : List Op). take some (drop 1 x)) all ∙ take_all some h.3 (omega (arith, some_is, ap length all)) in
    rw (begun, behind) (record {
      shape = h.0;
      all = h.4;
      head = h.5;
      are = h.6;
      few = omega (arith, h.1, ap length h.4);
    })

-- the bits behind a code
pub code_left : (op : Op) (a : BufferedBits) (code : ℕ) (b : BufferedBits) → 2208 ≤ length a.bits → TakesScalar op 1888 a code b → 1888 ≤ length b.bits
code_left op a code b there takes =
    let left : length b.bits ≡ length a.bits - takes.len = ap (λ (d : BufferedBits). length d.bits) takes.is ∙ length-drop takes.len a.bits in
    elim (cases_lt 57 takes.len) [
      | inl long ↦ takes.near long
      | inr short ↦ omega (arith, left, short, there)
    ]

pub scalars_forward : (ops : List Op) (a b : BufferedBits) (values : List ℕ) → HasScalars ops a values b → a.position ≤ b.position
scalars_forward [] a b values h = omega (arith, ap (λ (x : BufferedBits). x.position) h.1)
scalars_forward (op ∷ ops) a b values h = omega (arith, reads_forward (scalar op) a h.0 h.2 h.4, scalars_forward ops h.2 b h.1 h.5)

-- a code that is a literal is one of any kind
pub singles_coded : (ops : List Op) → HasLayout ops layout.Singles → HasLayout ops layout.Coded
singles_coded ops h = (h.0, h.1, Literal h.2, h.3, h.4, tt, h.5)

-- ---- records that are passed over

-- a record of single operands, to its end
pub coded_whole : (first room code len : ℕ) (ops : List Op) (op : Op) (others : List Op) (start a b : BufferedBits) (values : List ℕ) → CodedParts ops op others → length others ≤ room → len ≡ b.position - start.position → TakesScalar op 1888 start code a → HasScalars others a values b
    → (len ≤ length start.bits) × Reads (by_definition first room ops) start (record { code = code; values = values }) (beyond start len)
coded_whole first room code len ops op others start a b values parts few len_is head h =
    let value : CodeAndValues = record { code = code; values = values } in
    let rule = by_definition first room ops in
    let all = coded_read first room code ops op others start a b values parts.all parts.shape parts.are few head.reads h in
    let end : b ≡ beyond start len = left_is rule start value b all ∙ ap (beyond start) (sym len_is) in
    (omega (arith, len_is, reads_there rule start value b all), subst (Reads rule start value) end all)

-- a record with an array, to its end
pub list_whole : (first room code number len : ℕ) (ops : List Op) (op : Op) (others : List Op) (element : Op) (start a b d e : BufferedBits) (values more : List ℕ) → ListParts ops op others element → length others + number ≤ room → len ≡ e.position - start.position
    → TakesScalar op 1888 start code a → HasScalars others a values b → TakesNumber 6 64 b number d → Reads (repeat number (scalar element)) d more e
    → (len ≤ length start.bits) × Reads (by_definition first room ops) start (record { code = code; values = values ++ more }) (beyond start len)
list_whole first room code number len ops op others element start a b d e values more parts few len_is head h takes elements =
    let value : CodeAndValues = record { code = code; values = values ++ more } in
    let rule = by_definition first room ops in
    let all = list_read first room code number ops op others element start a b d e values more parts.all parts.shape parts.are few head.reads h takes.reads elements in
    let end : e ≡ beyond start len = left_is rule start value e all ∙ ap (beyond start) (sym len_is) in
    (omega (arith, len_is, reads_there rule start value e all), subst (Reads rule start value) end all)

pub coded_passed : (first room code count len : ℕ) (ops : List Op) (op : Op) (others : List Op) (start a b : BufferedBits) → CodedParts ops op others → count ≡ length others → count ≤ room → len ≡ b.position - start.position → TakesScalar op 1888 start code a → (values : List ℕ) × HasScalars others a values b
    → PassesOver (by_definition first room ops) start (record { len = len; code = code; count = count })
coded_passed first room code count len ops op others start a b parts count_is few len_is head h =
    let whole = coded_whole first room code len ops op others start a b h.0 parts (omega (arith, count_is, few)) len_is head h.1 in
    (whole.0, (h.0, scalars_many others a b h.0 h.1 ∙ sym count_is, whole.1))

pub list_passed : (first room code count number more len : ℕ) (ops : List Op) (op : Op) (others : List Op) (element : Op) (start a b d : BufferedBits) → ListParts ops op others element → count ≡ length others + number → count ≤ room → len ≡ d.position + more - start.position
    → TakesScalar op 1888 start code a → (values : List ℕ) × HasScalars others a values b → TakesNumber 6 64 b number d → Elements element number d more
    → PassesOver (by_definition first room ops) start (record { len = len; code = code; count = count })
list_passed first room code count number more len ops op others element start a b d parts count_is few len_is head h takes elements =
    let whole = list_whole first room code number len ops op others element start a b d (beyond d more) h.0 elements.values parts (omega (arith, count_is, few)) len_is head h.1 takes elements.reads in
    let many : length (h.0 ++ elements.values) ≡ count = omega (arith, count_is, length-append h.0 elements.values, elements.many, scalars_many others a b h.0 h.1) in
    (whole.0, (h.0 ++ elements.values, many, whole.1))

-- where the bits behind a record are
pub coded_behind : (op : Op) (code : ℕ) (others : List Op) (start a b : BufferedBits) → TakesScalar op 1888 start code a → (values : List ℕ) × HasScalars others a values b → start.position ≤ b.position
coded_behind op code others start a b head h = omega (arith, ap (λ (q : BufferedBits). q.position) head.is, scalars_forward others a b h.0 h.1)

pub list_behind : (op : Op) (code : ℕ) (others : List Op) (number : ℕ) (start a b d : BufferedBits) → TakesScalar op 1888 start code a → (values : List ℕ) × HasScalars others a values b → TakesNumber 6 64 b number d → start.position ≤ d.position
list_behind op code others number start a b d head h takes = omega (arith, coded_behind op code others start a b head h, ap (λ (q : BufferedBits). q.position) takes.is)

-- ---- elements of an array that are passed over

pub numbers_passed : (element : Op) (n m count : ℕ) (a : BufferedBits) (len : ℕ) → element ≡ Vbr n → m ≡ n → HasNumbers m count a len → (len ≤ length a.bits) × Elements element count a len
numbers_passed element n m count a len is same h = (h.0, subst (λ (x : Op). Elements x count a len) (sym is) (number_elements n count a len (subst (λ (k : ℕ). HasNumbers k count a len) same h)))

pub fields_passed : (element : Op) (width count : ℕ) (a : BufferedBits) (len : ℕ) → TakesBits element width → len ≡ count * width → len ≤ length a.bits → (len ≤ length a.bits) × Elements element count a len
fields_passed element width count a len takes len_is there =
    (there, subst (Elements element count a) (sym len_is) (field_elements element width count a takes (omega (arith, len_is, there))))

-- how many bits an element's field takes
pub takes_width : (element : Op) (n width : ℕ) → element ≡ Fixed n → width ≡ n → TakesBits element width
takes_width element n width is same = rw is same

pub takes_none : (element : Op) (v width : ℕ) → element ≡ Literal v → width ≡ 0 → TakesBits element width
takes_none element v width is none = rw is none

pub takes_six : (element : Op) (width : ℕ) → element ≡ Char6 → width ≡ 6 → TakesBits element width
takes_six element width is six = rw is six

-- positions of placed bits are below 2^64
pub placed_fits : (p : PlacedBits) → (placed p).position + length (placed p).bits < 2 ^ 64
placed_fits p = omega (arith, p.there, p.fits, length_at p.at p.bytes.now)
