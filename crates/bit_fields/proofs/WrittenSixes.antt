-- Numbers in chunks of six bits that are stored at a position, each in its shortest spelling.
use Rattle.std.proofs.Common.{◌≡◌, ℕ, zero, suc, ◌+◌, ◌*◌, ◌-◌, ◌%◌, ◌^◌, ◌<◌, ◌≤◌, Bool, List, [], ◌∷◌, ◌++◌, length, take, drop, MatchOption, Option, Some, None, Result, Ok, refl, sym, ap, ◌∙◌, subst, arith, length-append, length-drop, bit_and}
use Rattle.std.specs.Int.{w64, bit_not}
use Rattle.std.proofs.lemmas.List.{append-nil, take_at}
use Rattle.std.proofs.Math.Seq.{take-add}
use Rattle.bit_grammar.specs.Bits.{bits_of}
use Rattle.bit_grammar.specs.FormatFields.{shortest, shortest_payloads}
use Rattle.bit_grammar.specs.Grammar.{Fault, repeat}
use Rattle.bit_grammar.specs.Fields.{vbr}
use Rattle.bit_grammar.specs.Normal.{values_bits}
use Rattle.bit_grammar.proofs.Words.Fields.{length-chunked, short_few, short_wide}
use Rattle.bit_fields.specs.Buffered.{BufferedBits, Reads, beyond}
use Rattle.bit_fields.specs.Pens.{KeepsFront, Puts, ReadsSixes, TakesNumber, TakesPlain, WritesPlain, WritesSixes}
use Rattle.bit_fields.specs.Placed.{HasNumbers, HasShortest, bits_at}
use Rattle.bit_fields.specs.SixBits.{Begins, HasCount, NeedsAll, Shortest}
use Rattle.bit_fields.proofs.LastChunks.{needs_its_last, one_number}
use Rattle.bit_fields.proofs.LentParts.{parts_is}
use Rattle.bit_fields.proofs.Pens.{puts_as, puts_keeps, puts_nothing, puts_then}
use Rattle.bit_fields.proofs.Placing.{beyond_both, front_shown, length_at}
use Rattle.bit_fields.proofs.PlainPlaces.{shortest_begun, shortest_one}
use Rattle.bit_fields.proofs.PlainRecords.{plain_taken, repeat_both, values-append}
use Rattle.bit_fields.proofs.SixRows.{behind_at, row_moved, row_there}

-- ---- lengths

number_few : (v : ℕ) → length (shortest 6 v) ≤ 78
number_few v = omega (arith, length-chunked 5 (shortest_payloads 5 13 v) (short_wide 5 13 v), short_few 5 13 v)

values_few : (vs : List ℕ) → length (values_bits vs) ≤ 78 * length vs
values_few [] = omega arith
values_few (v ∷ vs) = omega (arith, length-append (shortest 6 v) (values_bits vs), number_few v, values_few vs)

pub sixes_room : (k at after : ℕ) (a b : BufferedBits) (x y : List ℕ) → WritesSixes k a at x after b y → (at ≤ after) × (after ≤ at + 78 * k) × (length y ≡ length x)
sixes_room k at after a b x y w = (omega (arith, w.puts.ends), omega (arith, w.puts.ends, values_few w.values, w.many), w.puts.same)

-- their values
sixes_row : (k at after : ℕ) (a b : BufferedBits) (x y : List ℕ) → (w : WritesSixes k a at x after b y) → ReadsSixes w.values a b
sixes_row k at after a b x y w = record { len = w.len; there = w.there; is = w.is; reads = subst (λ (n : ℕ). Reads (repeat n (vbr 6)) a w.values b) (sym w.many) w.reads }

-- the place after them
pub sixes_there : (k place to at after : ℕ) (b : BufferedBits) (from x y : List ℕ) → place ≤ 8 * length from → to ≡ b.position → WritesSixes k (bits_at 0 place from) at x after b y → to ≤ 8 * length from
sixes_there k place to at after b from x y there to_is w = row_there place to w.values from b there to_is (sixes_row k at after (bits_at 0 place from) b x y w)

pub sixes_keep : (k at after : ℕ) (a b : BufferedBits) (x y : List ℕ) → WritesSixes k a at x after b y → KeepsFront at x y
sixes_keep k at after a b x y w = puts_keeps (values_bits w.values) at after x y w.puts

-- ---- one after another

pub sixes_none : (a : BufferedBits) (at : ℕ) (bytes : List ℕ) → WritesSixes 0 a at bytes at a bytes
sixes_none a at bytes = record {
  values = [];
  many = refl;
  len = 0;
  there = omega arith;
  is = parts_is a.position (a.position + 0) a.bits a.bits (omega arith) refl;
  reads = refl;
  puts = puts_nothing at bytes;
  more = λ some. absurd (omega (arith, some));
}

pub sixes_begun : (k : ℕ) (a : BufferedBits) (at : ℕ) (bytes : List ℕ) → k ≡ 0 → WritesSixes k a at bytes at a bytes
sixes_begun k a at bytes none = subst (λ (n : ℕ). WritesSixes n a at bytes at a bytes) (sym none) (sixes_none a at bytes)

same_ok : (x y : List ℕ × ℕ × List Bool) → ◌≡◌ {A = Result (List ℕ × ℕ × List Bool) Fault} (Ok x) (Ok y) → x ≡ y
same_ok x y e = cc

still_there : (i j : ℕ) (b c : BufferedBits) (values : List ℕ) → Reads (repeat j (vbr 6)) b values c → (0 < i → 64 ≤ length b.bits) → (0 < j → 64 ≤ length c.bits) → 0 < i + j → 64 ≤ length c.bits
still_there i zero b c values seen first later some = subst (λ (s : List Bool). 64 ≤ length s) (ap (λ (z : List ℕ × ℕ × List Bool). z.2) (same_ok ([], b.position, b.bits) (values, c.position, c.bits) seen)) (first (omega (arith, some)))
still_there i (suc j) b c values seen first later some = later (omega arith)

pub sixes_then : (i j k : ℕ) (a : BufferedBits) (at : ℕ) (x : List ℕ) (mid : ℕ) (b : BufferedBits) (y : List ℕ) (after : ℕ) (c : BufferedBits) (z : List ℕ) → WritesSixes i a at x mid b y → WritesSixes j b mid y after c z → k ≡ i + j → WritesSixes k a at x after c z
sixes_then i j k a at x mid b y after c z first later k_is = record {
  values = first.values ++ later.values;
  many = length-append first.values later.values ∙ omega (arith, first.many, later.many, k_is);
  len = first.len + later.len;
  there = omega (arith, first.there, later.there, ap (λ (d : BufferedBits). length d.bits) first.is, length-drop first.len a.bits);
  is = later.is ∙ ap (λ (d : BufferedBits). beyond d later.len) first.is ∙ beyond_both a first.len later.len;
  reads = repeat_both (vbr 6) i j k a.position a.bits first.values later.values b.position b.bits c.position c.bits k_is first.reads later.reads;
  puts = puts_as (values_bits first.values ++ values_bits later.values) (values_bits (first.values ++ later.values)) at after x z (sym (values-append first.values later.values)) (puts_then (values_bits first.values) (values_bits later.values) at mid after x y z first.puts later.puts);
  more = λ some. still_there i j b c later.values later.reads first.more later.more (omega (arith, some, k_is));
}

-- ---- bits as they stand

spelled_front : (len : ℕ) (a : BufferedBits) (s : List Bool) → len ≤ length a.bits → a.bits ≡ s ++ drop len a.bits → take len a.bits ≡ s
spelled_front len a s there is =
    let many : length s ≡ len = omega (arith, there, ap length is, length-append s (drop len a.bits), length-drop len a.bits) in
    ap (take len) is ∙ take_at s (drop len a.bits) len many

-- numbers that come in their shortest spelling
pub sixes_run : (count len at after : ℕ) (a b : BufferedBits) (s : List Bool) (x y : List ℕ) → HasShortest count a len → s ≡ take len a.bits → b ≡ beyond a len → 64 ≤ length b.bits → Puts s at x after y → WritesSixes count a at x after b y
sixes_run count len at after a b s x y has s_is b_is more puts = record {
  values = has.1.values;
  many = has.1.count;
  len = len;
  there = has.0;
  is = b_is;
  reads = subst (Reads (repeat count (vbr 6)) a has.1.values) (sym b_is) has.1.reads;
  puts = puts_as s (values_bits has.1.values) at after x y (s_is ∙ spelled_front len a (values_bits has.1.values) has.0 has.1.spelled) puts;
  more = λ some. more;
}

-- a long number, in two parts
pub sixes_long : (len one two at mid after : ℕ) (a b last rest : BufferedBits) (word : ℕ) (x y z : List ℕ) → HasNumbers 6 1 a len → 60 ≤ len → last ≡ beyond a (len - 6) → bits_of 5 word ≡ take 5 last.bits → word < 2 ^ 5 → (word ≡ 0 → ⊥) → rest ≡ beyond a 48 → bits_of 48 one ≡ take 48 a.bits → bits_of (len - 48) two ≡ take (len - 48) rest.bits → b ≡ beyond a len → 64 ≤ length b.bits → Puts (bits_of 48 one) at x mid y → Puts (bits_of (len - 48) two) mid y after z → WritesSixes 1 a at x after b z
sixes_long len one two at mid after a b last rest word x y z has long last_is front below some rest_is one_is two_is b_is more first later =
    let n = one_number len a has in
    let needs : NeedsAll n.0 len = needs_its_last n.0 len word a last n.1 (omega (arith, long)) last_is front below some in
    let whole : 48 + (len - 48) ≡ len = omega (arith, long) in
    let both : bits_of 48 one ++ bits_of (len - 48) two ≡ take len a.bits = ap (λ (s : List Bool). s ++ bits_of (len - 48) two) one_is ∙ ap (λ (s : List Bool). take 48 a.bits ++ s) (two_is ∙ ap (λ (d : BufferedBits). take (len - 48) d.bits) rest_is) ∙ sym (take-add 48 (len - 48) a.bits) ∙ ap (λ (i : ℕ). take i a.bits) whole in
    sixes_run 1 len at after a b (bits_of 48 one ++ bits_of (len - 48) two) x z (shortest_one n.0 len a n.1 needs) both b_is more (puts_then (bits_of 48 one) (bits_of (len - 48) two) at mid after x y z first later)

-- ---- numbers that were read

pub sixes_one : (value more at after : ℕ) (a b : BufferedBits) (x y : List ℕ) → TakesNumber 6 more a value b → 64 ≤ length b.bits → Puts (shortest 6 value) at x after y → WritesSixes 1 a at x after b y
sixes_one value more at after a b x y t there puts = record {
  values = value ∷ [];
  many = refl;
  len = t.len;
  there = t.there;
  is = t.is;
  reads = rw t.reads refl;
  puts = puts_as (shortest 6 value) (values_bits (value ∷ [])) at after x y (sym (append-nil (shortest 6 value))) puts;
  more = λ some. there;
}

pub sixes_two : (one two more at after : ℕ) (a b c : BufferedBits) (x y : List ℕ) → TakesNumber 6 more a one b → TakesNumber 6 more b two c → 64 ≤ length c.bits → Puts (shortest 6 one ++ shortest 6 two) at x after y → WritesSixes 2 a at x after c y
sixes_two one two more at after a b c x y t u there puts = record {
  values = one ∷ two ∷ [];
  many = refl;
  len = t.len + u.len;
  there = omega (arith, t.there, u.there, ap (λ (d : BufferedBits). length d.bits) t.is, length-drop t.len a.bits);
  is = u.is ∙ ap (λ (d : BufferedBits). beyond d u.len) t.is ∙ beyond_both a t.len u.len;
  reads = rw (t.reads, u.reads) refl;
  puts = puts_as (shortest 6 one ++ shortest 6 two) (values_bits (one ∷ two ∷ [])) at after x y (ap (λ (s : List Bool). shortest 6 one ++ s) (sym (append-nil (shortest 6 two)))) puts;
  more = λ some. there;
}

-- ---- at a place of bytes

-- the same, wherever the bytes stand
pub sixes_moved : (start k place to at after : ℕ) (b : BufferedBits) (from x y : List ℕ) → to ≡ b.position → WritesSixes k (bits_at 0 place from) at x after b y → WritesSixes k (bits_at start place from) at x after (bits_at start to from) y
sixes_moved start k place to at after b from x y to_is w =
    let row = row_moved start place to w.values from b to_is (sixes_row k at after (bits_at 0 place from) b x y w) in
    record {
      values = w.values;
      many = w.many;
      len = row.len;
      there = row.there;
      is = row.is;
      reads = subst (λ (n : ℕ). Reads (repeat n (vbr 6)) (bits_at start place from) w.values (bits_at start to from)) w.many row.reads;
      puts = w.puts;
      more = λ some. omega (arith, w.more some, ap (λ (d : BufferedBits). length d.bits) w.is, length-drop w.len (bits_at 0 place from).bits, length_at place from, to_is, ap (λ (d : BufferedBits). d.position) w.is, length_at to from);
    }

-- numbers of a load, behind those that were stored before
pub sixes_load : (i count k len n m place here at pen after ends : ℕ) (from x y z : List ℕ) → k ≡ i + count → 128 ≤ length (bits_at 0 here from).bits → len ≤ 54 → n ≡ len → m ≡ len → bits_of len (bit_not w64 ends) ≡ take len (bits_at 0 here from).bits → Begins (bit_not w64 ends) count len → Shortest (bit_not w64 ends) len → WritesSixes i (bits_at 0 place from) at x pen (bits_at 0 here from) y → Puts (bits_of n (bit_and (bit_not w64 ends) (1 * 2 ^ len % 2 ^ 64 - 1))) pen y after z → WritesSixes k (bits_at 0 place from) at x after (bits_at 0 (here + m) from) z
sixes_load i count k len n m place here at pen after ends from x y z k_is there few n_is m_is front begins shortest first puts =
    let a : BufferedBits = bits_at 0 here from in
    let b : BufferedBits = bits_at 0 (here + m) from in
    let word : ℕ = bit_not w64 ends in
    let value : ℕ = bit_and word (1 * 2 ^ len % 2 ^ 64 - 1) in
    let has : HasShortest count a len = shortest_begun count len word a few (omega (arith, there, few)) front begins shortest in
    let shown : bits_of n value ≡ take len a.bits = ap (λ (j : ℕ). bits_of j value) n_is ∙ front_shown len word a.bits (omega (arith, few)) front in
    let more : 64 ≤ length b.bits = omega (arith, there, few, m_is, length_at here from, length_at (here + m) from) in
    sixes_then i count k (bits_at 0 place from) at x pen a y after b z first (sixes_run count len pen after a b (bits_of n value) y z has shown (behind_at 0 here m from ∙ ap (beyond a) m_is) more puts) k_is

pub some_place : (x : ℕ) → (x ≡ 0 → ⊥) → 0 < x
some_place zero none = absurd (none refl)
some_place (suc x) none = omega arith

-- ---- a record

-- either is as the other
pub match_mapped : {A : Type 0} (r : Option A) (P R : Type 0) (Q S : A → Type 0) → (P → R) → ((x : A) → Q x → S x) → MatchOption r P Q → MatchOption r R S
match_mapped None P R Q S none some h = none h
match_mapped (Some x) P R Q S none some h = some x h

pub plain_written : (room count at pen after : ℕ) (a b : BufferedBits) (x y z : List ℕ) → count ≤ room → HasCount a count → Puts (bits_of 2 3) at x pen y → WritesSixes (count + 2) a pen y after b z → WritesPlain room count a at x after b z
plain_written room count at pen after a b x y z few front put w =
    let spelling : List Bool = bits_of 2 3 ++ values_bits w.values in
    let read : Reads (repeat (count + 2) (vbr 6)) a w.values (beyond a w.len) = subst (Reads (repeat (count + 2) (vbr 6)) a w.values) w.is w.reads in
    record {
      spelling = spelling;
      takes = subst (TakesPlain room count a spelling) (sym w.is) (plain_taken room front.0 count w.len a front.1 front.2 w.values spelling few front.3 front.4 w.there read w.many refl);
      puts = puts_then (bits_of 2 3) (values_bits w.values) at pen after x y z put w.puts;
      more = w.more (omega arith);
    }
