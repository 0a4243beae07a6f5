-- Passes over the values of operands, and how they grow.
use Rattle.std.proofs.Common.{◌≡◌, ℕ, zero, suc, ◌+◌, ◌*◌, ◌-◌, ◌<◌, ◌≤◌, Bool, List, [], ◌∷◌, ◌++◌, length, take, drop, Result, Ok, Err, refl, sym, ap, ◌∙◌, subst, arith, get_or, add-one, ◌⊎◌, inl, inr}
use Rattle.std.proofs.Math.Seq.{take-add, take-suc}
use Rattle.std.proofs.lemmas.List.{append-nil, length-drop}
use Rattle.bit_grammar.specs.declared.op.Op.{Op}
use Rattle.bit_grammar.specs.declared.op.Op.TheVariants.{Literal, Fixed, Vbr, Array, Char6, Blob}
use Rattle.bit_grammar.specs.Bits.{number}
use Rattle.bit_grammar.specs.Grammar.{Grammar, Fault, repeat, reading}
use Rattle.bit_grammar.specs.Fields.{fixed, vbr, char6}
use Rattle.bit_grammar.specs.Record.{scalar}
use Rattle.bit_grammar.specs.Terms.{character}
use Rattle.bit_fields.specs.Inside.{part_of}
use Rattle.bit_fields.specs.Buffered.{BufferedBits, Reads, beyond}
use Rattle.bit_fields.specs.Placed.{HasNumbers}
use Rattle.bit_fields.proofs.BitLaws.{drop_more}
use Rattle.bit_fields.proofs.BufferedReads.{reads_forward, reads_there, reads_passed}
use Rattle.bit_fields.proofs.LentParts.{parts_is, fixed_reads}
use Rattle.bit_fields.proofs.Parts.{part_at}
use Rattle.bit_fields.proofs.Placing.{has_none, has_one, has_both}
use Rattle.bit_abbrev.specs.declared.plan.Pass.{Pass}
use Rattle.bit_abbrev.specs.Plans.{HasPasses, HasValues, TakesBits}

-- ---- bits after others

pub beyond_both : (a : BufferedBits) (m n : ℕ) → beyond (beyond a m) n ≡ beyond a (m + n)
beyond_both a m n = parts_is (a.position + m + n) (a.position + (m + n)) (drop n (drop m a.bits)) (drop (m + n) a.bits) (omega arith) (drop_more m n a.bits)

pub beyond_none : (a : BufferedBits) → beyond a 0 ≡ a
beyond_none a = parts_is (a.position + 0) a.position a.bits a.bits (omega arith) refl

pub same_ok : {A E : Type 0} (x y : A) → ◌≡◌ {A = Result A E} (Ok x) (Ok y) → x ≡ y
same_ok x y e = cc

not_ok : {A E : Type 0} (x : A) (y : E) → ◌≡◌ {A = Result A E} (Err y) (Ok x) → ⊥
not_ok x y e = cc

-- what is left is what is behind the bits that were read
pub left_is : {A : Type 0} (rule : Grammar A) (a : BufferedBits) (value : A) (b : BufferedBits) → Reads rule a value b → b ≡ beyond a (b.position - a.position)
left_is rule a value b seen =
    let p = reads_passed rule a value b seen in
    let place : b.position ≡ a.position + (b.position - a.position) = omega (arith, reads_forward rule a value b seen) in
    let left : b.bits ≡ drop (b.position - a.position) a.bits = behind p.0 a.bits b.bits (b.position - a.position) p.1 (omega (arith, p.2)) in
    parts_is b.position (a.position + (b.position - a.position)) b.bits (drop (b.position - a.position) a.bits) place left
  where
    behind : (xs s t : List Bool) (n : ℕ) → s ≡ xs ++ t → n ≡ length xs → t ≡ drop n s
    behind [] s t zero e n_is = sym e
    behind [] s t (suc n) e n_is = absurd (omega (arith, n_is))
    behind (x ∷ xs) s t zero e n_is = absurd (omega (arith, n_is))
    behind (x ∷ xs) s t (suc n) e n_is = behind xs (xs ++ t) t n refl (omega (arith, n_is)) ∙ ap (drop (suc n)) (sym e)

-- ---- numbers, one after another

-- a number, and others after it
pub record Front (n count : ℕ) (a : BufferedBits) (len : ℕ) : Type 0 where
  pub value : ℕ
  pub first : ℕ
  pub more : ℕ
  pub all : len ≡ first + more
  pub reads : Reads (vbr n) a value (beyond a first)
  pub later : HasNumbers n count (beyond a first) more

pub numbers_front : (n count : ℕ) (a : BufferedBits) (len : ℕ) → HasNumbers n (suc count) a len → Front n count a len
numbers_front n count a len h = one (reading (vbr n) a.position a.bits) refl
  where
    two : (x : ℕ × ℕ × List Bool) → reading (vbr n) a.position a.bits ≡ Ok x → (r : Result (List ℕ × ℕ × List Bool) Fault) → reading (repeat count (vbr n)) x.1 x.2 ≡ r → Front n count a len
    two x is (Err fault) read = absurd (not_ok (h.1.0, a.position + len, drop len a.bits) fault (sym (rw (is, read) refl) ∙ h.1.2))
    two x is (Ok y) read =
        let b : BufferedBits = record { position = x.1; bits = x.2 } in
        let c : BufferedBits = record { position = y.1; bits = y.2 } in
        let same = same_ok (x.0 ∷ y.0, y.1, y.2) (h.1.0, a.position + len, drop len a.bits) (sym (rw (is, read) refl) ∙ h.1.2) in
        let first : ℕ = x.1 - a.position in
        let here : b ≡ beyond a first = left_is (vbr n) a x.0 b is in
        let forward : a.position ≤ x.1 = reads_forward (vbr n) a x.0 b is in
        let later : x.1 ≤ y.1 = reads_forward (repeat count (vbr n)) b y.0 c read in
        let place : y.1 ≡ a.position + len = ap (λ (z : List ℕ × ℕ × List Bool). z.1) same in
        let all : len ≡ first + (len - first) = omega (arith, forward, later, place) in
        let end : c ≡ beyond (beyond a first) (len - first) = parts_is y.1 (a.position + len) y.2 (drop len a.bits) place (ap (λ (z : List ℕ × ℕ × List Bool). z.2) same) ∙ ap (beyond a) all ∙ sym (beyond_both a first (len - first)) in
        let rest : Reads (repeat count (vbr n)) (beyond a first) y.0 (beyond (beyond a first) (len - first)) = subst (Reads (repeat count (vbr n)) (beyond a first) y.0) end (subst (λ (d : BufferedBits). Reads (repeat count (vbr n)) d y.0 c) here read) in
        record {
          value = x.0;
          first = first;
          more = len - first;
          all = all;
          reads = subst (Reads (vbr n) a x.0) here is;
          later = (omega (arith, h.0, length-drop first a.bits), (y.0, omega (arith, h.1.1, ap (λ (z : List ℕ × ℕ × List Bool). length z.0) same), rest));
        }

    one : (r : Result (ℕ × ℕ × List Bool) Fault) → reading (vbr n) a.position a.bits ≡ r → Front n count a len
    one (Err fault) is = absurd (not_ok (h.1.0, a.position + len, drop len a.bits) fault (sym (rw is refl) ∙ h.1.2))
    one (Ok x) is = two x is (reading (repeat count (vbr n)) x.1 x.2) refl

-- no numbers take no bits
pub numbers_none : (n : ℕ) (a : BufferedBits) (len : ℕ) → HasNumbers n 0 a len → len ≡ 0
numbers_none n a len h = let e : a.position ≡ a.position + len = ap (λ (z : List ℕ × ℕ × List Bool). z.1) (same_ok ([], a.position, a.bits) (h.1.0, a.position + len, drop len a.bits) h.1.2) in omega (arith, e)

-- numbers, and a last one
pub record Last (n count : ℕ) (a : BufferedBits) (len : ℕ) : Type 0 where
  pub before : ℕ
  pub last : ℕ
  pub all : len ≡ before + last
  pub first : HasNumbers n count a before
  pub value : ℕ
  pub reads : Reads (vbr n) (beyond a before) value (beyond a (before + last))

pub numbers_last : (n count : ℕ) (a : BufferedBits) (len : ℕ) → HasNumbers n (suc count) a len → Last n count a len
numbers_last n zero a len h =
    let f = numbers_front n 0 a len h in
    let all : len ≡ 0 + f.first = omega (arith, f.all, numbers_none n (beyond a f.first) f.more f.later) in
    record {
      before = 0;
      last = f.first;
      all = all;
      first = has_none n a;
      value = f.value;
      reads = subst (λ (k : ℕ). Reads (vbr n) (beyond a 0) f.value (beyond a k)) (let e : f.first ≡ 0 + f.first = omega arith in e) (subst (λ (b : BufferedBits). Reads (vbr n) b f.value (beyond a f.first)) (sym (beyond_none a)) f.reads);
    }
numbers_last n (suc count) a len h =
    let f = numbers_front n (suc count) a len h in
    let l = numbers_last n count (beyond a f.first) f.more f.later in
    let place : f.first + (l.before + l.last) ≡ f.first + l.before + l.last = omega arith in
    record {
      before = f.first + l.before;
      last = l.last;
      all = omega (arith, f.all, l.all);
      first = has_both n 1 count (suc count) f.first l.before (f.first + l.before) a (omega arith) refl (has_one n f.value f.first a f.reads) l.first;
      value = l.value;
      reads = subst (λ (b : BufferedBits). Reads (vbr n) b l.value (beyond a (f.first + l.before + l.last))) (beyond_both a f.first l.before) (subst (Reads (vbr n) (beyond (beyond a f.first) l.before) l.value) (beyond_both a f.first (l.before + l.last) ∙ ap (beyond a) place) l.reads);
    }

-- ---- passes, one after another

passes_joined : (front back : List Pass) (a : BufferedBits) (before more : ℕ) → HasPasses front a before → HasPasses back (beyond a before) more → HasPasses (front ++ back) a (before + more)
passes_joined [] back a before more h later =
    let none : before + more ≡ more = omega (arith, h) in
    subst (HasPasses back a) (sym none) (subst (λ (b : BufferedBits). HasPasses back b more) (ap (beyond a) h ∙ beyond_none a) later)
passes_joined (one ∷ front) back a before more h later =
    let here : ℕ = one.skip + h.0 in
    let all : before + more ≡ one.skip + h.0 + (h.1 + more) = omega (arith, h.2) in
    let place : before ≡ here + h.1 = omega (arith, h.2) in
    (h.0, h.1 + more, all, h.3, passes_joined front back (beyond a here) h.1 more h.4 (subst (λ (b : BufferedBits). HasPasses back b more) (ap (beyond a) place ∙ sym (beyond_both a here h.1)) later))

pub passes_more : (others : List Pass) (pass : Pass) (a : BufferedBits) (before first : ℕ) → HasPasses others a before → HasNumbers pass.width pass.count (beyond a (before + pass.skip)) first → HasPasses (others ++ pass ∷ []) a (before + (pass.skip + first))
passes_more others pass a before first h numbers =
    let last : pass.skip + first ≡ pass.skip + first + 0 = omega arith in
    passes_joined others (pass ∷ []) a before (pass.skip + first) h (first, 0, last, subst (λ (b : BufferedBits). HasNumbers pass.width pass.count b first) (sym (beyond_both a before pass.skip)) numbers, refl)

-- some of a list of passes, and those after them
pub passes_rest : (passes : List Pass) (done count : ℕ) (a : BufferedBits) (first more : ℕ) → done ≤ count → HasPasses (take done passes) a first → HasPasses (take (count - done) (drop done passes)) (beyond a first) more → HasPasses (take count passes) a (first + more)
passes_rest passes done count a first more within h later =
    let whole : done + (count - done) ≡ count = omega (arith, within) in
    let parts : take count passes ≡ take done passes ++ take (count - done) (drop done passes) = ap (λ (n : ℕ). take n passes) (sym whole) ∙ take-add done (count - done) passes in
    subst (λ (p : List Pass). HasPasses p a (first + more)) (sym parts) (passes_joined (take done passes) (take (count - done) (drop done passes)) a first more h later)

-- one more of a list of passes
pub passes_on : (passes : List Pass) (at : ℕ) (d : Pass) (a b : BufferedBits) (len skip next first : ℕ) → at < length passes → b ≡ beyond a (len + skip) → skip ≡ (get_or passes at d).skip → HasPasses (take at passes) a len → next ≡ (get_or passes at d).skip + first → HasNumbers (get_or passes at d).width (get_or passes at d).count b first → HasPasses (take (at + 1) passes) a (len + next)
passes_on passes at d a b len skip next first within here skip_is h next_is numbers =
    let pass : Pass = get_or passes at d in
    let one : take (at + 1) passes ≡ take at passes ++ pass ∷ [] = rw add-one (take-suc passes at d within) in
    let place : b ≡ beyond a (len + pass.skip) = here ∙ ap (λ (k : ℕ). beyond a (len + k)) skip_is in
    rw (one, next_is) (passes_more (take at passes) pass a len first h (subst (λ (x : BufferedBits). HasNumbers pass.width pass.count x first) place numbers))

-- bits that are left behind one more
pub left_on : (count at here there : ℕ) → count ≤ 6 → at < count → 336 + 312 * (count - at) ≤ here → (here ≤ there + 312) ⊎ (2240 ≤ there) → 336 + 312 * (count - (at + 1)) ≤ there
left_on count at here there few within left (inl short) = omega (arith, left, within, short)
left_on count at here there few within left (inr checked) = omega (arith, few, within, checked)

-- passes, and a last one
pub record LastPass (others : List Pass) (pass : Pass) (a : BufferedBits) (len : ℕ) : Type 0 where
  pub before : ℕ
  pub first : ℕ
  pub all : len ≡ before + (pass.skip + first)
  pub passes : HasPasses others a before
  pub numbers : HasNumbers pass.width pass.count (beyond a (before + pass.skip)) first

pub passes_last : (others : List Pass) (pass : Pass) (a : BufferedBits) (len : ℕ) → HasPasses (others ++ pass ∷ []) a len → LastPass others pass a len
passes_last [] pass a len h = record {
  before = 0;
  first = h.0;
  all = omega (arith, h.2, h.4);
  passes = refl;
  numbers = subst (λ (k : ℕ). HasNumbers pass.width pass.count (beyond a k) h.0) (let e : pass.skip ≡ 0 + pass.skip = omega arith in e) h.3;
}
passes_last (one ∷ others) pass a len h =
    let l = passes_last others pass (beyond a (one.skip + h.0)) h.1 h.4 in
    let place : one.skip + h.0 + (l.before + pass.skip) ≡ one.skip + h.0 + l.before + pass.skip = omega arith in
    record {
      before = one.skip + h.0 + l.before;
      first = l.first;
      all = omega (arith, h.2, l.all);
      passes = (h.0, l.before, refl, h.3, l.passes);
      numbers = subst (λ (b : BufferedBits). HasNumbers pass.width pass.count b l.first) (beyond_both a (one.skip + h.0) (l.before + pass.skip) ∙ ap (beyond a) place) l.numbers;
    }

-- ---- values, one after another

pub values_then : (ops others : List Op) (a : BufferedBits) (x y : ℕ) → HasValues ops a x → HasValues others (beyond a x) y → HasValues (ops ++ others) a (x + y)
values_then [] others a x y h later =
    let all : y ≡ x + y = omega (arith, h) in
    subst (HasValues others a) all (subst (λ (b : BufferedBits). HasValues others b y) (ap (beyond a) h ∙ beyond_none a) later)
values_then (op ∷ ops) others a x y h later =
    let all : x + y ≡ h.1 + (h.2 + y) = omega (arith, h.5) in
    (h.0, h.1, h.2 + y, h.3, h.4, all, h.6, values_then ops others (beyond a h.1) h.2 y h.7 (subst (λ (b : BufferedBits). HasValues others b y) (ap (beyond a) h.5 ∙ sym (beyond_both a h.1 h.2)) later))

pub one_value : (op : Op) (a : BufferedBits) (value len : ℕ) → (op ≡ Array → ⊥) → (op ≡ Blob → ⊥) → Reads (scalar op) a value (beyond a len) → HasValues (op ∷ []) a len
one_value op a value len no_array no_blob seen = (value, len, 0, no_array, no_blob, (let e : len ≡ len + 0 = omega arith in e), seen, refl)

pub number_value : (n : ℕ) (a : BufferedBits) (value len : ℕ) → Reads (vbr n) a value (beyond a len) → HasValues (Vbr n ∷ []) a len
unfolding scalar
number_value n a value len seen = one_value (Vbr n) a value len (λ e. cc) (λ e. cc) seen

pub values_within : (ops : List Op) (a : BufferedBits) (len : ℕ) → HasValues ops a len → len ≤ length a.bits
values_within [] a len h = omega (arith, h)
values_within (op ∷ ops) a len h = omega (arith, h.5, reads_there (scalar op) a h.0 (beyond a h.1) h.6, values_within ops (beyond a h.1) h.2 h.7, length-drop h.1 a.bits)

-- ---- fields of so many bits

-- a value of an operand, and that it is no array and no blob
pub record Field (op : Op) (a : BufferedBits) (bits : ℕ) : Type 0 where
  pub value : ℕ
  pub no_array : op ≡ Array → ⊥
  pub no_blob : op ≡ Blob → ⊥
  pub reads : Reads (scalar op) a value (beyond a bits)

fixed_there : (n : ℕ) (a : BufferedBits) → n ≤ length a.bits → Reads (fixed n) a (number (take n a.bits)) (beyond a n)
fixed_there n a there =
    let whole : reading (part_of a.position n) a.position (a.bits ++ []) ≡ Ok (number (take n a.bits), a.position + n, drop n a.bits ++ []) = part_at n a.position a.position a.bits [] there in
    fixed_reads n (number (take n a.bits)) a (beyond a n) (ap (reading (part_of a.position n) a.position) (sym (append-nil a.bits)) ∙ whole ∙ ap (λ (s : List Bool). Ok (number (take n a.bits), a.position + n, s)) (append-nil (drop n a.bits)))

pub no_bits : (value bits : ℕ) (a : BufferedBits) → bits ≡ 0 → ◌≡◌ {A = Result (ℕ × ℕ × List Bool) Fault} (Ok (value, a.position, a.bits)) (Ok (value, a.position + bits, drop bits a.bits))
no_bits value bits a none = let e : a.position ≡ a.position + 0 = omega arith in rw none (ap (λ (p : ℕ). Ok (value, p, a.bits)) e)

pub takes_field : (op : Op) (bits : ℕ) (a : BufferedBits) → TakesBits op bits → bits ≤ length a.bits → Field op a bits
unfolding scalar vbr char6
takes_field (Literal value) bits a is there = record { value = value; no_array = λ e. cc; no_blob = λ e. cc; reads = no_bits value bits a is }
takes_field (Fixed width) bits a is there = record { value = number (take bits a.bits); no_array = λ e. cc; no_blob = λ e. cc; reads = subst (λ (n : ℕ). Reads (fixed n) a (number (take bits a.bits)) (beyond a bits)) is (fixed_there bits a there) }
takes_field (Vbr zero) bits a is there = record { value = 0; no_array = λ e. cc; no_blob = λ e. cc; reads = no_bits 0 bits a is.1 }
takes_field (Vbr (suc n)) bits a is there = absurd (omega (arith, is.0))
takes_field Char6 bits a is there =
    let one : Reads (fixed 6) a (number (take 6 a.bits)) (beyond a 6) = fixed_there 6 a (omega (arith, is, there)) in
    record { value = character (number (take 6 a.bits)); no_array = λ e. cc; no_blob = λ e. cc; reads = rw is (rw one refl) }
takes_field Array bits a is there = absurd is
takes_field Blob bits a is there = absurd is

-- ---- passes that cover more operands

-- a number behind the values of others
number_behind : (ops : List Op) (n : ℕ) (a : BufferedBits) (value x y len : ℕ) → len ≡ x + y → HasValues ops a x → Reads (vbr n) (beyond a x) value (beyond (beyond a x) y) → HasValues (ops ++ Vbr n ∷ []) a len
number_behind ops n a value x y len is h seen = subst (HasValues (ops ++ Vbr n ∷ []) a) (sym is) (values_then ops (Vbr n ∷ []) a x y h (number_value n (beyond a x) value y seen))

pub covers_field : (ops : List Op) (op : Op) (bits after more : ℕ) (passes : List Pass) (a : BufferedBits) (len : ℕ) → more ≡ after + bits → TakesBits op bits → (HasPasses passes a len → len + after ≤ length a.bits → HasValues ops a (len + after)) → HasPasses passes a len → len + more ≤ length a.bits → HasValues (ops ++ op ∷ []) a (len + more)
covers_field ops op bits after more passes a len more_is takes covers h there =
    let f = takes_field op bits (beyond a (len + after)) takes (omega (arith, more_is, there, length-drop (len + after) a.bits)) in
    let all : len + more ≡ len + after + bits = omega (arith, more_is) in
    subst (HasValues (ops ++ op ∷ []) a) (sym all) (values_then ops (op ∷ []) a (len + after) bits (covers h (omega (arith, more_is, there))) (one_value op (beyond a (len + after)) f.value bits f.no_array f.no_blob f.reads))

pub covers_new : (ops : List Op) (others : List Pass) (pass : Pass) (after : ℕ) (a : BufferedBits) (len : ℕ) → pass.skip ≡ after → pass.count ≡ 1 → ((x : ℕ) → HasPasses others a x → x + after ≤ length a.bits → HasValues ops a (x + after)) → HasPasses (others ++ pass ∷ []) a len → len ≤ length a.bits → HasValues (ops ++ Vbr pass.width ∷ []) a len
covers_new ops others pass after a len skip_is one covers h there =
    let n : ℕ = pass.width in
    let l = passes_last others pass a len h in
    let f = numbers_front n 0 (beyond a (l.before + pass.skip)) l.first (subst (λ (k : ℕ). HasNumbers n k (beyond a (l.before + pass.skip)) l.first) one l.numbers) in
    let none = numbers_none n (beyond (beyond a (l.before + pass.skip)) f.first) f.more f.later in
    let seen = subst (λ (k : ℕ). Reads (vbr n) (beyond a (l.before + k)) f.value (beyond (beyond a (l.before + k)) f.first)) skip_is f.reads in
    number_behind ops n a f.value (l.before + after) f.first len (omega (arith, l.all, f.all, none, skip_is)) (covers l.before l.passes (omega (arith, l.all, skip_is, there))) seen

pub covers_longer : (ops : List Op) (others : List Pass) (last pass : Pass) (after : ℕ) (a : BufferedBits) (len : ℕ) → after ≡ 0 → pass.skip ≡ last.skip → pass.count ≡ last.count + 1 → pass.width ≡ last.width → ((x : ℕ) → HasPasses (others ++ last ∷ []) a x → x + after ≤ length a.bits → HasValues ops a (x + after))
    → HasPasses (others ++ pass ∷ []) a len → len ≤ length a.bits → HasValues (ops ++ Vbr pass.width ∷ []) a len
covers_longer ops others last pass after a len none skip_is count_is same covers h there =
    let n : ℕ = pass.width in
    let l = passes_last others pass a len h in
    let next : pass.count ≡ suc last.count = omega (arith, count_is) in
    let b : BufferedBits = beyond a (l.before + pass.skip) in
    let m = numbers_last n last.count b l.first (subst (λ (k : ℕ). HasNumbers n k b l.first) next l.numbers) in
    let x : ℕ = l.before + (last.skip + m.before) in
    let first : HasNumbers last.width last.count (beyond a (l.before + last.skip)) m.before = subst (λ (k : ℕ). HasNumbers last.width last.count (beyond a (l.before + k)) m.before) skip_is (subst (λ (k : ℕ). HasNumbers k last.count b m.before) same m.first) in
    let old : HasPasses (others ++ last ∷ []) a x = passes_more others last a l.before m.before l.passes first in
    let values : HasValues ops a (x + after) = covers x old (omega (arith, none, l.all, m.all, skip_is, there)) in
    let place : l.before + pass.skip + m.before ≡ x + after = omega (arith, none, skip_is) in
    let here : beyond b m.before ≡ beyond a (x + after) = beyond_both a (l.before + pass.skip) m.before ∙ ap (beyond a) place in
    let end : beyond b (m.before + m.last) ≡ beyond (beyond a (x + after)) m.last = sym (beyond_both b m.before m.last) ∙ ap (λ (c : BufferedBits). beyond c m.last) here in
    number_behind ops n a m.value (x + after) m.last len (omega (arith, none, l.all, m.all, skip_is)) values (subst (λ (c : BufferedBits). Reads (vbr n) c m.value (beyond (beyond a (x + after)) m.last)) here (subst (Reads (vbr n) (beyond b m.before) m.value) end m.reads))
