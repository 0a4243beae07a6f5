-- What passing over a record says of reading it.
use Rattle.std.proofs.Common.{◌≡◌, ℕ, zero, suc, ◌+◌, ◌*◌, ◌-◌, ◌^◌, ◌<◌, ◌≤◌, Bool, true, List, [], ◌∷◌, ◌++◌, length, take, drop, Result, Ok, refl, sym, ap, ◌∙◌, subst, arith}
use Rattle.std.specs.List.{AllByRecursion}
use Rattle.std.proofs.Math.Nat.{mul-le-mul}
use Rattle.std.proofs.lemmas.Bool.{le-leb}
use Rattle.std.proofs.lemmas.List.{length-append, length-drop}
use Rattle.bit_grammar.specs.declared.op.Op.{Op}
use Rattle.bit_grammar.specs.declared.op.Op.TheVariants.{Literal, Fixed, Vbr, Array, Char6, Blob}
use Rattle.bit_grammar.specs.Bits.{number}
use Rattle.bit_grammar.specs.Blocks.{by_definition}
use Rattle.bit_grammar.specs.Definition.{has_shape}
use Rattle.bit_grammar.specs.Grammar.{Fault, repeat}
use Rattle.bit_grammar.specs.Fields.{vbr, chunks}
use Rattle.bit_grammar.specs.Record.{scalar, singles, value_count, values_of, abbreviated, unabbreviated}
use Rattle.bit_grammar.proofs.Bits.Numbers.{number_below}
use Rattle.bit_grammar.proofs.Readings.Deciding.{position-first}
use Rattle.bit_grammar.proofs.Words.Fields.{chunks_are, joined, length-chunked}
use Rattle.bit_fields.specs.Buffered.{BufferedBits, Reads, beyond}
use Rattle.bit_fields.specs.Placed.{HasNumbers}
use Rattle.bit_fields.proofs.BufferedReads.{reads_forward, reads_there, reads_passed}
use Rattle.bit_fields.proofs.Placing.{has_one, has_both}
use Rattle.bit_abbrev.specs.declared.plan.Passes.{Passes}
use Rattle.bit_abbrev.specs.declared.plan.Rest.{Rest}
use Rattle.bit_abbrev.specs.declared.plan.Rest.TheVariants as rest
use Rattle.bit_abbrev.specs.Scalars.{Elements}
use Rattle.bit_abbrev.specs.Plans.{Covers, HasArray, HasPasses, HasRest, HasValues, TakesBits}
use Rattle.bit_abbrev.proofs.Covering.{beyond_both, beyond_none, same_ok, left_is, numbers_front, takes_field, values_within}

-- ---- a short number

joined_below : (xs : List (List Bool)) → AllByRecursion (λ x. length x ≡ 5) xs → length xs ≤ 3 → joined 5 xs < 2 ^ 15
joined_below [] wide few = omega arith
joined_below (x ∷ []) wide few = let a : number x < 2 ^ 5 = subst (λ (k : ℕ). number x < 2 ^ k) wide.0 (number_below x) in omega (arith, a)
joined_below (x ∷ y ∷ []) wide few =
    let a : number x < 2 ^ 5 = subst (λ (k : ℕ). number x < 2 ^ k) wide.0 (number_below x) in
    let b : number y < 2 ^ 5 = subst (λ (k : ℕ). number y < 2 ^ k) wide.1.0 (number_below y) in
    omega (arith, a, b)
joined_below (x ∷ y ∷ z ∷ []) wide few =
    let a : number x < 2 ^ 5 = subst (λ (k : ℕ). number x < 2 ^ k) wide.0 (number_below x) in
    let b : number y < 2 ^ 5 = subst (λ (k : ℕ). number y < 2 ^ k) wide.1.0 (number_below y) in
    let c : number z < 2 ^ 5 = subst (λ (k : ℕ). number z < 2 ^ k) wide.1.1.0 (number_below z) in
    omega (arith, a, b, c)
joined_below (x ∷ y ∷ z ∷ w ∷ xs) wide few = absurd (omega (arith, few))

-- a number of at most three chunks
pub short_number : (a : BufferedBits) (v : ℕ) (b : BufferedBits) → Reads (vbr 6) a v b → b.position ≤ a.position + 18 → v < 2 ^ 15
unfolding vbr
short_number a v b seen near =
    let p = reads_passed (vbr 6) a v b seen in
    let c = chunks_are 5 a.position 13 64 a.position p.0 v (position-first (λ start. chunks 5 start 13 64) a.position p.0 v p.3) in
    let few : length c.payloads ≤ 3 = omega (arith, p.2, near, ap length c.bits, length-chunked 5 c.payloads c.wide) in
    subst (λ (n : ℕ). n < 2 ^ 15) (sym c.value) (joined_below c.payloads c.wide few)

-- ---- numbers behind others

-- numbers behind a first one that was read
pub record Behind (n count : ℕ) (a b : BufferedBits) (len : ℕ) : Type 0 where
  pub first : ℕ
  pub more : ℕ
  pub here : b ≡ beyond a first
  pub all : len ≡ first + more
  pub numbers : HasNumbers n count b more

pub behind_first : (n count all : ℕ) (a : BufferedBits) (v : ℕ) (b : BufferedBits) (len : ℕ) → all ≡ suc count → Reads (vbr n) a v b → HasNumbers n all a len → Behind n count a b len
behind_first n count all a v b len all_is seen h =
    let f = numbers_front n count a len (subst (λ (k : ℕ). HasNumbers n k a len) all_is h) in
    let same = same_ok (f.value, a.position + f.first, drop f.first a.bits) (v, b.position, b.bits) (sym f.reads ∙ seen) in
    let here : b ≡ beyond a f.first = sym (ap (λ (z : ℕ × ℕ × List Bool). let c : BufferedBits = record { position = z.1; bits = z.2 } in c) same) in
    record {
      first = f.first;
      more = f.more;
      here = here;
      all = f.all;
      numbers = subst (λ (c : BufferedBits). HasNumbers n count c f.more) (sym here) f.later;
    }

-- ---- values of single operands

single_read : (room : ℕ) (op : Op) (others : List Op) (a : BufferedBits) (value : ℕ) (b : BufferedBits) (values : List ℕ) (c : BufferedBits) → (op ≡ Array → ⊥) → (op ≡ Blob → ⊥) → Reads (scalar op) a value b → Reads (values_of room others) b values c → Reads (values_of room (op ∷ others)) a (value ∷ values) c
unfolding values_of
single_read room (Literal v) others a value b values c no_array no_blob first later = rw (first, later) refl
single_read room (Fixed w) others a value b values c no_array no_blob first later = rw (first, later) refl
single_read room (Vbr w) others a value b values c no_array no_blob first later = rw (first, later) refl
single_read room Char6 others a value b values c no_array no_blob first later = rw (first, later) refl
single_read room Array others a value b values c no_array no_blob first later = absurd (no_array refl)
single_read room Blob others a value b values c no_array no_blob first later = absurd (no_blob refl)

one_more : (op : Op) (others : List Op) → (op ≡ Array → ⊥) → (op ≡ Blob → ⊥) → singles (op ∷ others) ≡ suc (singles others)
one_more (Literal v) others m n = refl
one_more (Fixed w) others m n = refl
one_more (Vbr w) others m n = refl
one_more Char6 others m n = refl
one_more Array others m n = absurd (m refl)
one_more Blob others m n = absurd (n refl)

-- the values of single operands: how many they are, and that others may be read behind them
pub record SinglesRead (ops : List Op) (a : BufferedBits) (len : ℕ) : Type 0 where
  pub values : List ℕ
  pub count : length values ≡ length ops
  pub singles_are : (tail : List Op) → singles (ops ++ tail) ≡ length ops + singles tail
  pub reads : (room : ℕ) (tail : List Op) (more : List ℕ) (c : BufferedBits) → Reads (values_of room tail) (beyond a len) more c → Reads (values_of room (ops ++ tail)) a (values ++ more) c

pub singles_read : (ops : List Op) (a : BufferedBits) (len : ℕ) → HasValues ops a len → SinglesRead ops a len
singles_read [] a len h = record {
  values = [];
  count = refl;
  singles_are = λ tail. (let e : singles tail ≡ 0 + singles tail = omega arith in e);
  reads = λ room tail more c later. subst (λ (b : BufferedBits). Reads (values_of room tail) b more c) (ap (beyond a) h ∙ beyond_none a) later;
}
singles_read (op ∷ ops) a len h =
    let others = singles_read ops (beyond a h.1) h.2 h.7 in
    let place : beyond a len ≡ beyond (beyond a h.1) h.2 = ap (beyond a) h.5 ∙ sym (beyond_both a h.1 h.2) in
    record {
      values = h.0 ∷ others.values;
      count = ap suc others.count;
      singles_are = λ tail. (let one = one_more op (ops ++ tail) h.3 h.4 in let rest = others.singles_are tail in omega (arith, one, rest));
      reads = λ room tail more c later. single_read room op (ops ++ tail) a h.0 (beyond a h.1) (others.values ++ more) c h.3 h.4 h.6 (others.reads room tail more c (subst (λ (b : BufferedBits). Reads (values_of room tail) b more c) place later));
    }

-- ---- arrays

pub number_elements : (n count : ℕ) (b : BufferedBits) (more : ℕ) → HasNumbers n count b more → Elements (Vbr n) count b more
unfolding scalar
number_elements n count b more h = record { values = h.1.0; many = h.1.1; reads = h.1.2 }

none_read : (bits : ℕ) (a : BufferedBits) → bits ≡ 0 → ◌≡◌ {A = Result (List ℕ × ℕ × List Bool) Fault} (Ok ([], a.position, a.bits)) (Ok ([], a.position + bits, drop bits a.bits))
none_read bits a none = let e : a.position ≡ a.position + 0 = omega arith in rw none (ap (λ (p : ℕ). Ok ([], p, a.bits)) e)

pub field_elements : (element : Op) (width count : ℕ) (b : BufferedBits) → TakesBits element width → count * width ≤ length b.bits → Elements element count b (count * width)
field_elements element width zero b takes there = record { values = []; many = refl; reads = none_read (0 * width) b (let e : 0 * width ≡ 0 = omega arith in e) }
field_elements element width (suc count) b takes there =
    let all : suc count * width ≡ width + count * width = omega arith in
    let one = takes_field element width b takes (omega (arith, there, all)) in
    let rest = field_elements element width count (beyond b width) takes (omega (arith, there, all, length-drop width b.bits)) in
    let place : beyond (beyond b width) (count * width) ≡ beyond b (suc count * width) = beyond_both b width (count * width) ∙ ap (beyond b) (sym all) in
    let later : Reads (repeat count (scalar element)) (beyond b width) rest.values (beyond b (suc count * width)) = subst (Reads (repeat count (scalar element)) (beyond b width) rest.values) place rest.reads in
    let first = one.reads in
    record { values = one.value ∷ rest.values; many = ap suc rest.many; reads = rw (first, later) refl }

array_read : (room : ℕ) (element : Op) (a : BufferedBits) (count : ℕ) (b : BufferedBits) (values : List ℕ) (c : BufferedBits) → Reads (vbr 6) a count b → count ≤ room → Reads (repeat count (scalar element)) b values c → Reads (values_of room (Array ∷ element ∷ [])) a values c
unfolding values_of value_count
array_read room element a count b values c first few later = let holds = le-leb count room few in rw (first, holds, later) refl

pub has_array : (element : Op) (a : BufferedBits) (count : ℕ) (b : BufferedBits) (first more len : ℕ) (tail : List Op) → tail ≡ Array ∷ element ∷ [] → len ≡ first + more → Reads (vbr 6) a count b → b ≡ beyond a first → Elements element count b more → HasArray tail count a len
has_array element a count b first more len tail tail_is len_is seen here elements =
    let near : b.position ≡ a.position + first = ap (λ (x : BufferedBits). x.position) here in
    let left : length b.bits ≡ length a.bits - first = ap (λ (x : BufferedBits). length x.bits) here ∙ length-drop first a.bits in
    let end : beyond b more ≡ beyond a len = ap (λ (x : BufferedBits). beyond x more) here ∙ beyond_both a first more ∙ ap (beyond a) (sym len_is) in
    let there : len ≤ length a.bits = omega (arith, len_is, near, left, reads_there (vbr 6) a count b seen, reads_there (repeat count (scalar element)) b elements.values (beyond b more) elements.reads) in
    let later : Reads (repeat count (scalar element)) b elements.values (beyond a len) = subst (Reads (repeat count (scalar element)) b elements.values) end elements.reads in
    (there, element, tail_is, elements.values, elements.many, λ room few. subst (λ (ops : List Op). Reads (values_of room ops) a elements.values (beyond a len)) (sym tail_is) (array_read room element a count b elements.values (beyond a len) seen few later))

-- ---- records

pub plain_read : (room code count : ℕ) (values : List ℕ) (a c d b : BufferedBits) → count ≤ room → Reads (vbr 6) a code c → Reads (vbr 6) c count d → Reads (repeat count (vbr 6)) d values b → Reads (unabbreviated room) a (record { code = code; values = values }) b
unfolding unabbreviated value_count
plain_read room code count values a c d b few first second third = let holds = le-leb count room few in rw (first, second, holds, third) refl

pub plain_passed : (room code count len : ℕ) (a c d : BufferedBits) → count ≤ room → Reads (vbr 6) a code c → Reads (vbr 6) c count d → HasNumbers 6 (2 + count) a len → (len ≤ length a.bits) × ((values : List ℕ) × (length values ≡ count) × Reads (unabbreviated room) a (record { code = code; values = values }) (beyond a len))
plain_passed room code count len a c d few first second h =
    let x = behind_first 6 (suc count) (2 + count) a code c len (omega arith) first h in
    let y = behind_first 6 count (suc count) c count d x.more refl second x.numbers in
    let end : beyond d y.more ≡ beyond a len = ap (λ (z : BufferedBits). beyond z y.more) y.here ∙ beyond_both c y.first y.more ∙ ap (λ (z : BufferedBits). beyond z (y.first + y.more)) x.here ∙ beyond_both a x.first (y.first + y.more) ∙ ap (beyond a) (let e : x.first + (y.first + y.more) ≡ len = omega (arith, x.all, y.all) in e) in
    (h.0, (y.numbers.1.0, y.numbers.1.1, plain_read room code count y.numbers.1.0 a c d (beyond a len) few first second (subst (Reads (repeat count (vbr 6)) d y.numbers.1.0) end y.numbers.1.2)))

record_read : (first room code : ℕ) (others : List Op) (values : List ℕ) (a c : BufferedBits) → singles others ≤ room → Reads (values_of (room - singles others) others) a values c → Reads (abbreviated first room (Literal code ∷ others)) a (record { code = code; values = values }) c
unfolding abbreviated scalar
record_read first room code others values a c few seen = let holds = le-leb (singles others) room few in rw (holds, seen) refl

no_values : (room : ℕ) (a : BufferedBits) → Reads (values_of room []) a [] a
unfolding values_of
no_values room a = refl

-- a record of single operands
pub singles_passed : (first room code count len : ℕ) (ops others tail : List Op) (a : BufferedBits) → ops ≡ Literal code ∷ (others ++ tail) → tail ≡ [] → length others ≡ count → count ≤ room → HasValues others a len
    → (len ≤ length a.bits) × ((values : List ℕ) × (length values ≡ count) × Reads (abbreviated first room ops) a (record { code = code; values = values }) (beyond a len))
singles_passed first room code count len ops others tail a ops_are tail_is many few h =
    let s = singles_read others a len h in
    let none : singles tail ≡ 0 = ap singles tail_is in
    let within : singles (others ++ tail) ≤ room = omega (arith, s.singles_are tail, none, many, few) in
    let left : ℕ = room - singles (others ++ tail) in
    let last : Reads (values_of left tail) (beyond a len) [] (beyond a len) = subst (λ (t : List Op). Reads (values_of left t) (beyond a len) [] (beyond a len)) (sym tail_is) (no_values left (beyond a len)) in
    let all = s.reads left tail [] (beyond a len) last in (
      values_within others a len h,
      (s.values ++ [], omega (arith, length-append {A = ℕ} s.values [], s.count, many), subst (λ (x : List Op). Reads (abbreviated first room x) a (record { code = code; values = s.values ++ [] }) (beyond a len)) (sym ops_are) (record_read first room code (others ++ tail) (s.values ++ []) a (beyond a len) within all)),
    )

-- a record of single operands and an array
pub array_passed : (first room code some count more len : ℕ) (ops others tail : List Op) (a : BufferedBits) → ops ≡ Literal code ∷ (others ++ tail) → length others ≡ some → some + count ≤ room → HasValues others a len → HasArray tail count (beyond a len) more
    → (len + more ≤ length a.bits) × ((values : List ℕ) × (length values ≡ some + count) × Reads (abbreviated first room ops) a (record { code = code; values = values }) (beyond a (len + more)))
array_passed first room code some count more len ops others tail a ops_are many few h array =
    let s = singles_read others a len h in
    let none : singles tail ≡ 0 = ap singles array.2 in
    let within : singles (others ++ tail) ≤ room = omega (arith, s.singles_are tail, none, many, few) in
    let left : ℕ = room - singles (others ++ tail) in
    let last : Reads (values_of left tail) (beyond a len) array.3 (beyond a (len + more)) = subst (Reads (values_of left tail) (beyond a len) array.3) (beyond_both a len more) (array.5 left (omega (arith, s.singles_are tail, none, many, few))) in
    let all = s.reads left tail array.3 (beyond a (len + more)) last in (
      omega (arith, values_within others a len h, array.0, length-drop len a.bits),
      (s.values ++ array.3, omega (arith, length-append {A = ℕ} s.values array.3, s.count, many, array.4), subst (λ (x : List Op). Reads (abbreviated first room x) a (record { code = code; values = s.values ++ array.3 }) (beyond a (len + more))) (sym ops_are) (record_read first room code (others ++ tail) (s.values ++ array.3) a (beyond a (len + more)) within all)),
    )

-- a record by operands that are in a lawful order
pub shaped : (first room : ℕ) (ops : List Op) (code count len : ℕ) (a : BufferedBits) → has_shape ops ≡ true
    → (len ≤ length a.bits) × ((values : List ℕ) × (length values ≡ count) × Reads (abbreviated first room ops) a (record { code = code; values = values }) (beyond a len))
    → (len ≤ length a.bits) × ((values : List ℕ) × (length values ≡ count) × Reads (by_definition first room ops) a (record { code = code; values = values }) (beyond a len))
unfolding by_definition
shaped first room ops code count len a shape h = (let seen = h.1.2 in (h.0, (h.1.0, h.1.1, rw (shape, seen) refl)))

-- ---- numbers that were read before others

pub one_before : (a : BufferedBits) (v : ℕ) (b : BufferedBits) → Reads (vbr 6) a v b → HasNumbers 6 1 a (b.position - a.position)
one_before a v b seen = has_one 6 v (b.position - a.position) a (subst (Reads (vbr 6) a v) (left_is (vbr 6) a v b seen) seen)

pub two_before : (a : BufferedBits) (v : ℕ) (b : BufferedBits) (w : ℕ) (c : BufferedBits) → Reads (vbr 6) a v b → Reads (vbr 6) b w c → HasNumbers 6 2 a (c.position - a.position) × (c ≡ beyond a (c.position - a.position))
two_before a v b w c first second =
    let all : c.position - a.position ≡ b.position - a.position + (c.position - b.position) = omega (arith, reads_forward (vbr 6) a v b first, reads_forward (vbr 6) b w c second) in
    let here = left_is (vbr 6) a v b first in (
      has_both 6 1 1 2 (b.position - a.position) (c.position - b.position) (c.position - a.position) a refl all (one_before a v b first) (subst (λ (x : BufferedBits). HasNumbers 6 1 x (c.position - b.position)) here (one_before b w c second)),
      left_is (vbr 6) b w c second ∙ ap (λ (x : BufferedBits). beyond x (c.position - b.position)) here ∙ beyond_both a (b.position - a.position) (c.position - b.position) ∙ ap (beyond a) (sym all),
    )

-- ---- the array of a plan

pub small_product : (x y : ℕ) → x < 2 ^ 15 → y ≤ 255 → x * y ≤ 2 ^ 23
small_product x y few small = let h : x * y ≤ 32768 * 255 = mul-le-mul (let e : x ≤ 32768 = omega (arith, few) in e) small in omega (arith, h)

pub sixes_array : (width : ℕ) (which : Rest) (tail : List Op) (a : BufferedBits) (count : ℕ) (b : BufferedBits) (len : ℕ) → which ≡ rest.Sixes → HasRest width which tail → Reads (vbr 6) a count b → HasNumbers 6 (1 + count) a len → HasArray tail count a len
sixes_array width which tail a count b len is has seen h =
    let tail_is : tail ≡ Array ∷ Vbr 6 ∷ [] = subst (λ (r : Rest). HasRest width r tail) is has in
    let x = behind_first 6 count (1 + count) a count b len (omega arith) seen h in
    has_array (Vbr 6) a count b x.first x.more len tail tail_is x.all seen x.here (number_elements 6 count b x.more x.numbers)

pub numbers_array : (width : ℕ) (which : Rest) (tail : List Op) (a : BufferedBits) (count : ℕ) (b : BufferedBits) (more len : ℕ) → which ≡ rest.Numbers → HasRest width which tail → Reads (vbr 6) a count b → HasNumbers width count b more → len ≡ b.position - a.position + more → HasArray tail count a len
numbers_array width which tail a count b more len is has seen h len_is =
    let n : ℕ = width in
    let tail_is : tail ≡ Array ∷ Vbr n ∷ [] = subst (λ (r : Rest). HasRest width r tail) is has in
    has_array (Vbr n) a count b (b.position - a.position) more len tail tail_is len_is seen (left_is (vbr 6) a count b seen) (number_elements n count b more h)

pub fields_array : (width : ℕ) (which : Rest) (tail : List Op) (a : BufferedBits) (count : ℕ) (b : BufferedBits) (len : ℕ) → (which ≡ rest.Nothing → ⊥) → (which ≡ rest.Odd → ⊥) → (which ≡ rest.Sixes → ⊥) → (which ≡ rest.Numbers → ⊥) → HasRest width which tail → Reads (vbr 6) a count b → count * width ≤ length b.bits → len ≡ b.position - a.position + count * width → HasArray tail count a len
fields_array width rest.Nothing tail a count b len nothing odd sixes numbers has seen there len_is = absurd (nothing refl)
fields_array width rest.Odd tail a count b len nothing odd sixes numbers has seen there len_is = absurd (odd refl)
fields_array width rest.Sixes tail a count b len nothing odd sixes numbers has seen there len_is = absurd (sixes refl)
fields_array width rest.Numbers tail a count b len nothing odd sixes numbers has seen there len_is = absurd (numbers refl)
fields_array width rest.Fields tail a count b len nothing odd sixes numbers has seen there len_is =
    has_array has.0 a count b (b.position - a.position) (count * width) len tail has.1 len_is seen (left_is (vbr 6) a count b seen) (field_elements has.0 width count b has.2 there)

-- ---- the record of a plan

pub not_odd : (r : Rest) → r ≡ rest.Nothing → r ≡ rest.Odd → ⊥
not_odd r is odd = cc

-- what the passes of a plan go over
pub covered : (others : List Op) (passes : Passes) (a : BufferedBits) (len : ℕ) → Covers others passes → (passed : ℕ) × (len ≡ passed + passes.after) × HasPasses (take passes.count passes.pass) a passed → len ≤ length a.bits → HasValues others a len
covered others passes a len covers h there = subst (HasValues others a) (sym h.1) (covers a h.0 h.2 (omega (arith, h.1, there)))

-- what is behind a number is there with it
pub behind_there : (a : BufferedBits) (v : ℕ) (b : BufferedBits) (more : ℕ) → Reads (vbr 6) a v b → more ≤ length b.bits → b.position - a.position + more ≤ length a.bits
behind_there a v b more seen there =
    let left : length b.bits ≡ length a.bits - (b.position - a.position) = ap (λ (x : BufferedBits). length x.bits) (left_is (vbr 6) a v b seen) ∙ length-drop (b.position - a.position) a.bits in
    omega (arith, left, there, reads_there (vbr 6) a v b seen)
