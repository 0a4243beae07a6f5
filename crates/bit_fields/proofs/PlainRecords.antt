-- Records that are not abbreviated, as buffered bits show them.
use Rattle.std.proofs.Common.{◌≡◌, ℕ, zero, suc, ◌+◌, ◌-◌, ◌≤◌, Bool, List, [], ◌∷◌, ◌++◌, length, take, drop, Result, Ok, Err, refl, sym, ap, ◌∙◌, subst, arith, append_assoc}
use Rattle.std.proofs.lemmas.Bool.{le-leb}
use Rattle.std.proofs.lemmas.List.{append-nil, take-append-drop, drop_at}
use Rattle.bit_grammar.specs.Bits.{bits_of}
use Rattle.bit_grammar.specs.FormatFields.{shortest}
use Rattle.bit_grammar.specs.Grammar.{Grammar, Fault, repeat, reading}
use Rattle.bit_grammar.specs.Fields.{vbr}
use Rattle.bit_grammar.specs.Record.{value_count, unabbreviated}
use Rattle.bit_grammar.specs.Normal.{values_bits, entry_text}
use Rattle.bit_fields.specs.Buffered.{BufferedBits, Reads, beyond}
use Rattle.bit_fields.specs.Pens.{TakesPlain}
use Rattle.bit_fields.specs.SixBits.{Begins, NeedsAll, Shortest, TakesShortest}
use Rattle.bit_fields.proofs.BitLaws.{take-bits_of}
use Rattle.bit_fields.proofs.BufferedReads.{reads_beyond, reads_passed}
use Rattle.bit_fields.proofs.SixBits.{begun_front}
use Rattle.bit_fields.proofs.SixBitForms.{front_bits, needs_shortest}

-- ---- one after another

pub values-append : (a b : List ℕ) → values_bits (a ++ b) ≡ values_bits a ++ values_bits b
values-append [] b = refl
values-append (v ∷ a) b = ap (λ (s : List Bool). shortest 6 v ++ s) (values-append a b) ∙ sym (append_assoc (shortest 6 v) (values_bits a) (values_bits b))

abbrev Read : {A : Type 0} → Grammar A → (p : ℕ) → List Bool → A → (q : ℕ) → List Bool → Type 0
Read rule p s value q t = reading rule p s ≡ Ok (value, q, t)

same_ok : {A E : Type 0} (x y : A) → ◌≡◌ {A = Result A E} (Ok x) (Ok y) → x ≡ y
same_ok x y e = cc

not_ok : {A E : Type 0} (x : A) (y : E) → ◌≡◌ {A = Result A E} (Err y) (Ok x) → ⊥
not_ok x y e = cc

pub repeat_both : {A : Type 0} (rule : Grammar A) (m n k p : ℕ) (s : List Bool) (xs ys : List A) (q : ℕ) (t : List Bool) (u : ℕ) (v : List Bool) → k ≡ m + n → Read (repeat m rule) p s xs q t → Read (repeat n rule) q t ys u v → Read (repeat k rule) p s (xs ++ ys) u v
repeat_both {A} rule zero n k p s xs ys q t u v all e f =
    let same = same_ok ([], p, s) (xs, q, t) e in
    let count : n ≡ k = omega (arith, all) in
    subst (λ (i : ℕ). Read (repeat i rule) p s (xs ++ ys) u v) count (subst (λ (x : List A × ℕ × List Bool). reading (repeat n rule) x.1 x.2 ≡ Ok (ys, u, v) → reading (repeat n rule) p s ≡ Ok (x.0 ++ ys, u, v)) same (λ r. r) f)
repeat_both {A} rule (suc m) n k p s xs ys q t u v all e f = subst (λ (i : ℕ). Read (repeat i rule) p s (xs ++ ys) u v) count (first (reading rule p s) refl (λ (p : ℕ) (s : List Bool) (xs : List A) (q : ℕ) (t : List Bool). repeat_both rule m n (m + n) p s xs ys q t u v refl))
  where
    count : suc (m + n) ≡ k
    count = omega (arith, all)

    Later : Type 0
    Later = (p : ℕ) (s : List Bool) (xs : List A) (q : ℕ) (t : List Bool) → Read (repeat m rule) p s xs q t → Read (repeat n rule) q t ys u v → Read (repeat (m + n) rule) p s (xs ++ ys) u v

    last : (x : A × ℕ × List Bool) → reading rule p s ≡ Ok x → Later → (r : Result (List A × ℕ × List Bool) Fault) → reading (repeat m rule) x.1 x.2 ≡ r → Read (repeat (suc (m + n)) rule) p s (xs ++ ys) u v
    last x is later (Err fault) read = absurd (not_ok (xs, q, t) fault (sym (rw (is, read) refl) ∙ e))
    last x is later (Ok y) read =
        let same = same_ok (x.0 ∷ y.0, y.1, y.2) (xs, q, t) (sym (rw (is, read) refl) ∙ e) in
        let others = later x.1 x.2 y.0 y.1 y.2 read (subst (λ (z : List A × ℕ × List Bool). reading (repeat n rule) z.1 z.2 ≡ Ok (ys, u, v)) (sym same) f) in
        rw (is, others) (ap (λ (z : List A × ℕ × List Bool). Ok (z.0 ++ ys, u, v)) same)

    first : (r : Result (A × ℕ × List Bool) Fault) → reading rule p s ≡ r → Later → Read (repeat (suc (m + n)) rule) p s (xs ++ ys) u v
    first (Err fault) is later = absurd (not_ok (xs, q, t) fault (sym (rw is refl) ∙ e))
    first (Ok x) is later = last x is later (reading (repeat m rule) x.1 x.2) refl

-- the numbers at the front of a word
pub word_taken : (n bits word : ℕ) (b : BufferedBits) → bits_of bits word ≡ take bits b.bits → Begins word n bits → Shortest word bits → bits ≤ 54 → TakesShortest n b (beyond b bits)
word_taken n bits word b front begins shortest most =
    let rest : List Bool = drop bits b.bits in
    let run = begun_front word n bits b.position rest most begins in
    let all : b.bits ≡ take bits (bits_of 54 word) ++ rest = sym (take-append-drop bits b.bits) ∙ ap (λ (s : List Bool). s ++ rest) (sym (take-bits_of bits 54 word most ∙ front)) in
    record {
      values = run.0;
      count = run.1;
      reads = ap (reading (repeat n (vbr 6)) b.position) all ∙ run.2;
      spelled = all ∙ ap (λ (s : List Bool). s ++ rest) (sym (front_bits word n bits b.position rest run.0 most run.2 shortest));
    }

-- a number that was read from these bits, and needs all of its chunks
pub number_taken : (v bits : ℕ) (a b : BufferedBits) → Reads (vbr 6) a v b → bits ≡ b.position - a.position → NeedsAll v bits → TakesShortest 1 a (beyond a bits)
number_taken v bits a b seen bits_is needs =
    let reads : Reads (vbr 6) a v (beyond a bits) = reads_beyond (vbr 6) a v b bits seen bits_is in
    let q = reads_passed (vbr 6) a v b seen in
    let len : length q.0 ≡ bits = omega (arith, bits_is, q.2) in
    let text = needs_shortest a.position v bits q.0 q.3 len needs in
    record {
      values = v ∷ [];
      count = refl;
      reads = rw reads refl;
      spelled = q.1 ∙ ap (λ (s : List Bool). s ++ b.bits) (sym text) ∙ ap (λ (s : List Bool). s ++ b.bits) (sym (append-nil (shortest 6 v))) ∙ ap (λ (s : List Bool). values_bits (v ∷ []) ++ s) (sym (ap (drop bits) q.1 ∙ drop_at q.0 b.bits bits len));
    }

-- ---- a record

pub record Parts (room : ℕ) (a : BufferedBits) (code many : ℕ) (d b : BufferedBits) (all : List ℕ) : Type 0 where
  pub values : List ℕ
  pub all_are : all ≡ code ∷ many ∷ values
  pub reads : Reads (repeat many (vbr 6)) d values b

pub parts_of : (room : ℕ) (a : BufferedBits) (code : ℕ) (c : BufferedBits) (many : ℕ) (d b : BufferedBits) (all : List ℕ) → Reads (vbr 6) a code c → Reads (vbr 6) c many d → Reads (repeat (suc (suc many)) (vbr 6)) a all b → Parts room a code many d b all
parts_of room a code c many d b all first second e = go (reading (repeat many (vbr 6)) d.position d.bits) refl
  where
    go : (r : Result (List ℕ × ℕ × List Bool) Fault) → reading (repeat many (vbr 6)) d.position d.bits ≡ r → Parts room a code many d b all
    go (Err fault) is = absurd (not_ok (all, b.position, b.bits) fault (sym (rw (first, second, is) refl) ∙ e))
    go (Ok x) is =
        let same = same_ok (code ∷ many ∷ x.0, x.1, x.2) (all, b.position, b.bits) (sym (rw (first, second, is) refl) ∙ e) in
        record {
          values = x.0;
          all_are = ap (λ (z : List ℕ × ℕ × List Bool). z.0) (sym same);
          reads = is ∙ ap (λ (z : List ℕ × ℕ × List Bool). Ok (x.0, z.1, z.2)) same;
        }

pub record_read : (room code many : ℕ) (values : List ℕ) (a c d b : BufferedBits) → many ≤ room → Reads (vbr 6) a code c → Reads (vbr 6) c many d → Reads (repeat many (vbr 6)) d values b → Reads (unabbreviated room) a (record { code = code; values = values }) b
unfolding unabbreviated value_count
record_read room code many values a c d b few first second third = let holds = le-leb many room few in rw (first, second, holds, third) refl

pub plain_taken : (room code many len : ℕ) (a c d : BufferedBits) (all : List ℕ) (spelling : List Bool) → many ≤ room → Reads (vbr 6) a code c → Reads (vbr 6) c many d → len ≤ length a.bits → Reads (repeat (many + 2) (vbr 6)) a all (beyond a len) → length all ≡ many + 2 → spelling ≡ bits_of 2 3 ++ values_bits all → TakesPlain room many a spelling (beyond a len)
plain_taken room code many len a c d all spelling few first second there taken all_many spelled =
    let b : BufferedBits = beyond a len in
    let two : many + 2 ≡ suc (suc many) = omega arith in
    let parts = parts_of room a code c many d b all first second (subst (λ (k : ℕ). Reads (repeat k (vbr 6)) a all b) two taken) in
    let count : length parts.values ≡ many = omega (arith, ap length parts.all_are, all_many) in
    let text : values_bits all ≡ entry_text code parts.values =
    ap values_bits parts.all_are ∙ ap (λ (k : ℕ). shortest 6 code ++ (shortest 6 k ++ values_bits parts.values)) (sym count) in
    record {
      code = code;
      values = parts.values;
      many = count;
      len = len;
      there = there;
      is = refl;
      reads = record_read room code many parts.values a c d b few first second parts.reads;
      spelled = spelled ∙ ap (λ (s : List Bool). bits_of 2 3 ++ s) text;
    }
