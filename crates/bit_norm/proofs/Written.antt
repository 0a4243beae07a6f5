-- Records that are read from buffered bits and stored at a position.
use Rattle.std.proofs.Common.{◌≡◌, ℕ, zero, suc, ◌+◌, ◌*◌, ◌-◌, ◌≤◌, Bool, List, [], ◌∷◌, ◌++◌, length, take, drop, replicate, refl, sym, ap, ◌∙◌, subst, arith, append_assoc, Option, Some, None}
use Rattle.std.specs.Prelude.{MatchOption}
use Rattle.std.proofs.lemmas.List.{append-nil, length-append, length-drop, length-replicate, take-append-drop, take_all}
use Rattle.bit_grammar.specs.declared.op.Op.{Op}
use Rattle.bit_grammar.specs.declared.op.Op.TheVariants.{Vbr}
use Rattle.bit_grammar.specs.Bits.{bits_of}
use Rattle.bit_grammar.specs.Blocks.{by_definition}
use Rattle.bit_grammar.specs.Fields.{vbr}
use Rattle.bit_grammar.specs.FormatDefinition.{op_at}
use Rattle.bit_grammar.specs.FormatFields.{shortest}
use Rattle.bit_grammar.specs.Grammar.{repeat}
use Rattle.bit_grammar.specs.Normal.{entry_text, values_bits}
use Rattle.bit_grammar.specs.Record.{scalar}
use Rattle.bit_grammar.proofs.Bits.Numbers.{length-bits_of}
use Rattle.bit_grammar.proofs.NormalForms.Sizes.{short_length, short_range}
use Rattle.bit_fields.specs.Buffered.{BufferedBits, Reads, beyond}
use Rattle.bit_fields.specs.Pens.{Puts, KeepsFront, HasWord, TakesNumber, WritesSixes}
use Rattle.bit_fields.specs.declared.placed.PlacedBits.{PlacedBits}
use Rattle.bit_fields.specs.PlacedView.{placed}
use Rattle.bit_fields.proofs.BufferedReads.{reads_there}
use Rattle.bit_fields.proofs.PlainRecords.{repeat_both}
use Rattle.bit_abbrev.specs.Layouts.{AreSingles}
use Rattle.bit_abbrev.proofs.Covering.{beyond_both, beyond_none, left_is}
use Rattle.bit_abbrev.specs.Scalars.{TakesScalar, HasScalars}
use Rattle.bit_abbrev.proofs.Singles.{scalars_then, scalars_one, scalars_run, scalars_many, scalars_same, scalars_forward, left_enough, list_read, coded_read, ListParts, CodedParts}
use Rattle.bit_norm.specs.Written.{WritesElements, WritesRecord, WritesScalars}
use Rattle.bit_fields.proofs.Pens.{puts_nothing, puts_then, puts_as, keeps_then}
use Rattle.bit_norm.proofs.ValueTexts.{values_text-append}

-- ---- lengths

pub short_bits : (v : ℕ) → length (shortest 6 v) ≤ 78
short_bits v = omega (arith, short_length 6 v (omega arith), (short_range 6 v (omega arith)).1)

pub values_most : (vs : List ℕ) → length (values_bits vs) ≤ 78 * length vs
values_most [] = omega arith
values_most (v ∷ vs) = omega (arith, values_most vs, short_bits v, length-append (shortest 6 v) (values_bits vs))

-- ---- values that are stored

pub writes_none : (a : BufferedBits) (at : ℕ) (bytes : List ℕ) → WritesScalars [] a at bytes at a bytes
writes_none a at bytes = record {
  values = [];
  len = 0;
  there = omega arith;
  is = sym (beyond_none a);
  reads = (refl, refl);
  puts = puts_nothing at bytes;
}

pub writes_then : (ops others : List Op) (a b c : BufferedBits) (at mid after : ℕ) (x y z : List ℕ) → WritesScalars ops a at x mid b y → WritesScalars others b mid y after c z → WritesScalars (ops ++ others) a at x after c z
writes_then ops others a b c at mid after x y z first later = record {
  values = first.values ++ later.values;
  len = first.len + later.len;
  there = omega (arith, first.there, later.there, ap (λ (d : BufferedBits). length d.bits) first.is, length-drop first.len a.bits);
  is = later.is ∙ ap (λ (d : BufferedBits). beyond d later.len) first.is ∙ beyond_both a first.len later.len;
  reads = scalars_then ops others a b c first.values later.values first.reads later.reads;
  puts = puts_as (values_bits first.values ++ values_bits later.values) (values_bits (first.values ++ later.values)) at after x z (sym (values_text-append first.values later.values)) (puts_then (values_bits first.values) (values_bits later.values) at mid after x y z first.puts later.puts);
}

pub writes_one : (op : Op) (more : ℕ) (a : BufferedBits) (value : ℕ) (b : BufferedBits) (at after : ℕ) (x y : List ℕ) → TakesScalar op more a value b → Puts (shortest 6 value) at x after y → WritesScalars (op ∷ []) a at x after b y
writes_one op more a value b at after x y takes puts = record {
  values = value ∷ [];
  len = takes.len;
  there = takes.there;
  is = takes.is;
  reads = scalars_one op a value b takes.reads;
  puts = puts_as (shortest 6 value) (shortest 6 value ++ []) at after x y (sym (append-nil (shortest 6 value))) puts;
}

pub writes_run : (count : ℕ) (a : BufferedBits) (word len : ℕ) (at after : ℕ) (x y : List ℕ) → HasWord count a word len → Puts (bits_of len word) at x after y → WritesScalars (replicate count (Vbr 6)) a at x after (beyond a len) y
writes_run count a word len at after x y has puts = record {
  values = has.values;
  len = len;
  there = has.there;
  is = refl;
  reads = scalars_run 6 count a has.values (beyond a len) has.reads;
  puts = puts_as (bits_of len word) (values_bits has.values) at after x y has.spelled puts;
}

pub writes_sixes : (count : ℕ) (a : BufferedBits) (at after : ℕ) (b : BufferedBits) (x y : List ℕ) → WritesSixes count a at x after b y → WritesScalars (replicate count (Vbr 6)) a at x after b y
writes_sixes count a at after b x y writes = record {
  values = writes.values;
  len = writes.len;
  there = writes.there;
  is = writes.is;
  reads = scalars_run 6 count a writes.values b writes.reads;
  puts = writes.puts;
}

-- ---- a loop over single operands

singles_behind : (count : ℕ) (ops : List Op) → AreSingles ops → AreSingles (drop count ops)
singles_behind zero ops h = h
singles_behind (suc count) [] h = h
singles_behind (suc count) (op ∷ ops) h = singles_behind count ops h.1

-- the values of the first operands were stored, and `rest` is still to come
pub record FarWritten (ops rest : List Op) (a : BufferedBits) (at : ℕ) (old : List ℕ) (pen : ℕ) (b : BufferedBits) (bytes : List ℕ) : Type 0 where
  pub done : List Op
  pub all : ops ≡ done ++ rest
  pub writes : WritesScalars done a at old pen b bytes
  pub singles : AreSingles rest
  pub few : length rest ≤ 32
  pub there : 64 + 57 * length rest ≤ length b.bits
  pub room : pen + (78 * length rest + 64) ≤ 8 * length bytes
  pub same : length bytes ≡ length old

pub far_begins : (ops : List Op) (a : BufferedBits) (at : ℕ) (old : List ℕ) → AreSingles ops → length ops ≤ 32 → 64 + 57 * length ops ≤ length a.bits → at + (78 * length ops + 64) ≤ 8 * length old → FarWritten ops ops a at old at a old
far_begins ops a at old are few there room = record {
  done = [];
  all = refl;
  writes = writes_none a at old;
  singles = are;
  few = few;
  there = there;
  room = room;
  same = refl;
}

pub far_value : (ops rest : List Op) (op : Op) (others : List Op) (a : BufferedBits) (at : ℕ) (old : List ℕ) (pen : ℕ) (b : BufferedBits) (bytes : List ℕ) (value : ℕ) (c : BufferedBits) (after : ℕ) (new : List ℕ) → rest ≡ op ∷ others → FarWritten ops rest a at old pen b bytes → TakesScalar op 1888 b value c → Puts (shortest 6 value) pen bytes after new
    → FarWritten ops others a at old after c new
far_value ops rest op others a at old pen b bytes value c after new rest_is far takes puts =
    let many : length rest ≡ suc (length others) = ap length rest_is in
    let left : length c.bits ≡ length b.bits - takes.len = ap (λ (d : BufferedBits). length d.bits) takes.is ∙ length-drop takes.len b.bits in
    record {
      done = far.done ++ op ∷ [];
      all = far.all ∙ ap (λ (t : List Op). far.done ++ t) rest_is ∙ sym (append_assoc far.done (op ∷ []) others);
      writes = writes_then far.done (op ∷ []) a b c at pen after old bytes new far.writes (writes_one op 1888 b value c pen after bytes new takes puts);
      singles = (subst AreSingles rest_is far.singles).1;
      few = omega (arith, many, far.few);
      there = left_enough (length others) takes.len (length b.bits) (length c.bits) (omega (arith, many, far.few)) (omega (arith, many, far.there)) left takes.near;
      room = omega (arith, many, far.room, puts.ends, puts.same, short_bits value);
      same = puts.same ∙ far.same;
    }

pub first_and_others : (ops : List Op) (n : ℕ) → 1 ≤ length ops → n ≡ length ops - 1 → ops ≡ op_at ops 0 ∷ take n (drop 1 ops)
first_and_others [] n some n_is = absurd (omega (arith, some))
first_and_others (op ∷ ops) n some n_is = ap (λ (t : List Op). op ∷ t) (sym (take_all n ops (omega (arith, n_is))))

-- numbers in chunks of six bits, several at once
several : (ops rest : List Op) (count n : ℕ) (a : BufferedBits) (at : ℕ) (old : List ℕ) (pen : ℕ) (b : BufferedBits) (bytes : List ℕ) (after : ℕ) (c : BufferedBits) (new : List ℕ) → n ≡ length rest - count → count ≤ length rest → take count rest ≡ replicate count (Vbr 6) → FarWritten ops rest a at old pen b bytes → WritesScalars (replicate count (Vbr 6)) b pen bytes after c new → 64 + 57 * (length rest - count) ≤ length c.bits
    → FarWritten ops (take n (drop count rest)) a at old after c new
several ops rest count n a at old pen b bytes after c new n_is within sixes far writes there =
    let others : List Op = drop count rest in
    let many : length others ≡ length rest - count = length-drop count rest in
    let whole : take n others ≡ others = take_all n others (omega (arith, n_is, many)) in
    let run : List Op = replicate count (Vbr 6) in
    let rest_is : rest ≡ run ++ others = sym (take-append-drop count rest) ∙ ap (λ (t : List Op). t ++ others) sixes in
    let long : length writes.values ≡ count = scalars_many run b c writes.values writes.reads ∙ length-replicate count (Vbr 6) in
    rw whole (record {
      done = far.done ++ run;
      all = far.all ∙ ap (λ (t : List Op). far.done ++ t) rest_is ∙ sym (append_assoc far.done run others);
      writes = writes_then far.done run a b c at pen after old bytes new far.writes writes;
      singles = singles_behind count rest far.singles;
      few = omega (arith, many, far.few);
      there = omega (arith, many, there);
      room = omega (arith, many, within, far.room, writes.puts.ends, writes.puts.same, long, values_most writes.values);
      same = writes.puts.same ∙ far.same;
    })

pub far_run : (ops rest : List Op) (count n : ℕ) (a : BufferedBits) (at : ℕ) (old : List ℕ) (pen : ℕ) (b : BufferedBits) (bytes : List ℕ) (word len after : ℕ) (c : BufferedBits) (new : List ℕ) → n ≡ length rest - count → 1 ≤ count → count ≤ length rest → take count rest ≡ replicate count (Vbr 6) → FarWritten ops rest a at old pen b bytes → HasWord count b word len → c ≡ beyond b len → Puts (bits_of len word) pen bytes after new
    → FarWritten ops (take n (drop count rest)) a at old after c new
far_run ops rest count n a at old pen b bytes word len after c new n_is some within sixes far has c_is puts =
    let left : length c.bits ≡ length b.bits - len = ap (λ (d : BufferedBits). length d.bits) c_is ∙ length-drop len b.bits in
    several ops rest count n a at old pen b bytes after c new n_is within sixes far (subst (λ (d : BufferedBits). WritesScalars (replicate count (Vbr 6)) b pen bytes after d new) (sym c_is) (writes_run count b word len pen after bytes new has puts)) (omega (arith, left, some, within, far.there, has.few, has.there))

pub far_sixes : (ops rest : List Op) (count n : ℕ) (a : BufferedBits) (at : ℕ) (old : List ℕ) (pen : ℕ) (b : BufferedBits) (bytes : List ℕ) (after : ℕ) (c : BufferedBits) (new : List ℕ) → n ≡ length rest - count → 1 ≤ count → count ≤ length rest → take count rest ≡ replicate count (Vbr 6) → FarWritten ops rest a at old pen b bytes → WritesSixes count b pen bytes after c new → 1888 ≤ length c.bits
    → FarWritten ops (take n (drop count rest)) a at old after c new
far_sixes ops rest count n a at old pen b bytes after c new n_is some within sixes far writes more =
    several ops rest count n a at old pen b bytes after c new n_is within sixes far (writes_sixes count b pen after c bytes new writes) (omega (arith, some, far.few, more))

-- ---- elements of an array

pub elements_none : (element : Op) (a : BufferedBits) (at : ℕ) (bytes : List ℕ) → WritesElements element 0 a at bytes at a bytes
elements_none element a at bytes = record {
  values = [];
  many = refl;
  len = 0;
  there = omega arith;
  is = sym (beyond_none a);
  reads = refl;
  puts = puts_nothing at bytes;
}

pub elements_then : (element : Op) (i j k : ℕ) (a b c : BufferedBits) (at mid after : ℕ) (x y z : List ℕ) → k ≡ i + j → WritesElements element i a at x mid b y → WritesElements element j b mid y after c z → WritesElements element k a at x after c z
elements_then element i j k a b c at mid after x y z k_is first later = record {
  values = first.values ++ later.values;
  many = length-append first.values later.values ∙ omega (arith, first.many, later.many, k_is);
  len = first.len + later.len;
  there = omega (arith, first.there, later.there, ap (λ (d : BufferedBits). length d.bits) first.is, length-drop first.len a.bits);
  is = later.is ∙ ap (λ (d : BufferedBits). beyond d later.len) first.is ∙ beyond_both a first.len later.len;
  reads = repeat_both (scalar element) i j k a.position a.bits first.values later.values b.position b.bits c.position c.bits k_is first.reads later.reads;
  puts = puts_as (values_bits first.values ++ values_bits later.values) (values_bits (first.values ++ later.values)) at after x z (sym (values_text-append first.values later.values)) (puts_then (values_bits first.values) (values_bits later.values) at mid after x y z first.puts later.puts);
}

one_element : (element : Op) (a : BufferedBits) (value : ℕ) (b : BufferedBits) → Reads (scalar element) a value b → Reads (repeat 1 (scalar element)) a (value ∷ []) b
one_element element a value b seen = rw seen refl

two_elements : (element : Op) (a : BufferedBits) (first : ℕ) (b : BufferedBits) (second : ℕ) (c : BufferedBits) → Reads (scalar element) a first b → Reads (scalar element) b second c → Reads (repeat 2 (scalar element)) a (first ∷ second ∷ []) c
two_elements element a first b second c one two = rw (one, two) refl

pub elements_one : (element : Op) (more : ℕ) (a : BufferedBits) (value : ℕ) (b : BufferedBits) (at after : ℕ) (x y : List ℕ) → TakesScalar element more a value b → Puts (shortest 6 value) at x after y → WritesElements element 1 a at x after b y
elements_one element more a value b at after x y takes puts = record {
  values = value ∷ [];
  many = refl;
  len = takes.len;
  there = takes.there;
  is = takes.is;
  reads = one_element element a value b takes.reads;
  puts = puts_as (shortest 6 value) (shortest 6 value ++ []) at after x y (sym (append-nil (shortest 6 value))) puts;
}

pub elements_two : (element : Op) (more : ℕ) (a : BufferedBits) (first : ℕ) (b : BufferedBits) (second : ℕ) (c : BufferedBits) (at after : ℕ) (x y : List ℕ) → TakesScalar element more a first b → TakesScalar element more b second c → Puts (shortest 6 first ++ shortest 6 second) at x after y → WritesElements element 2 a at x after c y
elements_two element more a first b second c at after x y one two puts = record {
  values = first ∷ second ∷ [];
  many = refl;
  len = one.len + two.len;
  there = omega (arith, one.there, two.there, ap (λ (d : BufferedBits). length d.bits) one.is, length-drop one.len a.bits);
  is = two.is ∙ ap (λ (d : BufferedBits). beyond d two.len) one.is ∙ beyond_both a one.len two.len;
  reads = two_elements element a first b second c one.reads two.reads;
  puts = puts_as (shortest 6 first ++ shortest 6 second) (shortest 6 first ++ (shortest 6 second ++ [])) at after x y (ap (λ (s : List Bool). shortest 6 first ++ s) (sym (append-nil (shortest 6 second)))) puts;
}

pub elements_sixes : (element : Op) (count : ℕ) (a : BufferedBits) (at after : ℕ) (b : BufferedBits) (x y : List ℕ) → element ≡ Vbr 6 → WritesSixes count a at x after b y → WritesElements element count a at x after b y
unfolding scalar
elements_sixes element count a at after b x y is writes = record {
  values = writes.values;
  many = writes.many;
  len = writes.len;
  there = writes.there;
  is = writes.is;
  reads = rw is writes.reads;
  puts = writes.puts;
}

pub sixes_stored : (element : Op) (count : ℕ) (a : BufferedBits) (at : ℕ) (old new : List ℕ) (result : Option (ℕ × PlacedBits)) → element ≡ Vbr 6 → MatchOption result (KeepsFront at old new) (λ done. WritesSixes count a at old done.0 (placed done.1) new) → MatchOption result (KeepsFront at old new) (λ done. WritesElements element count a at old done.0 (placed done.1) new)
sixes_stored element count a at old new None is h = h
sixes_stored element count a at old new (Some done) is h = elements_sixes element count a at done.0 (placed done.1) old new is h

-- some elements were stored, and `left` are still to come
pub record FarElements (element : Op) (count left : ℕ) (a : BufferedBits) (at : ℕ) (old : List ℕ) (pen : ℕ) (b : BufferedBits) (bytes : List ℕ) : Type 0 where
  pub within : left ≤ count
  pub writes : WritesElements element (count - left) a at old pen b bytes
  pub room : pen + (78 * left + 64) ≤ 8 * length bytes
  pub same : length bytes ≡ length old

pub far_elements : (element : Op) (count : ℕ) (a : BufferedBits) (at : ℕ) (old : List ℕ) → at + (78 * count + 64) ≤ 8 * length old → FarElements element count count a at old at a old
far_elements element count a at old room =
    let none : 0 ≡ count - count = omega arith in
    record {
      within = omega arith;
      writes = subst (λ (n : ℕ). WritesElements element n a at old at a old) none (elements_none element a at old);
      room = room;
      same = refl;
    }

pub far_two : (element : Op) (count left : ℕ) (a : BufferedBits) (at : ℕ) (old : List ℕ) (pen : ℕ) (b : BufferedBits) (bytes : List ℕ) (first : ℕ) (c : BufferedBits) (second : ℕ) (d : BufferedBits) (after : ℕ) (new : List ℕ) → 2 ≤ left → FarElements element count left a at old pen b bytes → TakesScalar element 1888 b first c → TakesScalar element 1888 c second d → Puts (shortest 6 first ++ shortest 6 second) pen bytes after new
    → FarElements element count (left - 2) a at old after d new
far_two element count left a at old pen b bytes first c second d after new some far one two puts = record {
  within = omega (arith, far.within);
  writes = elements_then element (count - left) 2 (count - (left - 2)) a b d at pen after old bytes new (omega (arith, far.within, some)) far.writes (elements_two element 1888 b first c second d pen after bytes new one two puts);
  room = omega (arith, some, far.room, puts.ends, puts.same, short_bits first, short_bits second, length-append (shortest 6 first) (shortest 6 second));
  same = puts.same ∙ far.same;
}

pub far_last : (element : Op) (count left : ℕ) (a : BufferedBits) (at : ℕ) (old : List ℕ) (pen : ℕ) (b : BufferedBits) (bytes : List ℕ) (value : ℕ) (c : BufferedBits) (after : ℕ) (new : List ℕ) → left ≡ 1 → FarElements element count left a at old pen b bytes → TakesScalar element 1888 b value c → Puts (shortest 6 value) pen bytes after new
    → WritesElements element count a at old after c new
far_last element count left a at old pen b bytes value c after new last far takes puts =
    elements_then element (count - left) 1 count a b c at pen after old bytes new (omega (arith, far.within, last)) far.writes (elements_one element 1888 b value c pen after bytes new takes puts)

pub far_done : (element : Op) (count left : ℕ) (a : BufferedBits) (at : ℕ) (old : List ℕ) (pen : ℕ) (b : BufferedBits) (bytes : List ℕ) → left ≡ 0 → FarElements element count left a at old pen b bytes → WritesElements element count a at old pen b bytes
far_done element count left a at old pen b bytes none far =
    let all : count - left ≡ count = omega (arith, none) in
    subst (λ (n : ℕ). WritesElements element n a at old pen b bytes) all far.writes

-- ---- a record is stored

-- the front of a record, and its values in two parts
entry_parts : (code count : ℕ) (values more : List ℕ) → count ≡ length (values ++ more) → ((bits_of 2 3 ++ (shortest 6 code ++ shortest 6 count)) ++ values_bits values) ++ values_bits more ≡ bits_of 2 3 ++ entry_text code (values ++ more)
entry_parts code count values more count_is = rw (count_is, values_text-append values more) (regroup (bits_of 2 3) (shortest 6 code) (shortest 6 (length (values ++ more))) (values_bits values) (values_bits more))
  where
    regroup : (x y z v w : List Bool) → ((x ++ (y ++ z)) ++ v) ++ w ≡ x ++ (y ++ (z ++ (v ++ w)))
    regroup x y z v w = simp append_assoc

-- the front of a record, and its values
pub entry_whole : (code count : ℕ) (values : List ℕ) → count ≡ length values → (bits_of 2 3 ++ (shortest 6 code ++ shortest 6 count)) ++ values_bits values ≡ bits_of 2 3 ++ entry_text code values
entry_whole code count values count_is = rw count_is (regroup (bits_of 2 3) (shortest 6 code) (shortest 6 (length values)) (values_bits values))
  where
    regroup : (x y z v : List Bool) → (x ++ (y ++ z)) ++ v ≡ x ++ (y ++ (z ++ v))
    regroup x y z v = simp append_assoc

pub list_written : (first room code count number len : ℕ) (ops : List Op) (op : Op) (others : List Op) (element : Op) (start a b c d e : BufferedBits) (at mid next after : ℕ) (w x y z : List ℕ) → ListParts ops op others element → count ≡ length others + number → count ≤ room → len ≡ e.position - start.position
    → TakesScalar op 1888 start code a → (values : List ℕ) × HasScalars others a values b → TakesNumber 6 64 b number d → Puts (bits_of 2 3 ++ (shortest 6 code ++ shortest 6 count)) at w mid x → WritesScalars others a mid x next c y → WritesElements element number d next y after e z
    → WritesRecord (by_definition first room ops) start at w after len count z
list_written first room code count number len ops op others element start a b c d e at mid next after w x y z parts count_is few len_is head passed takes front scalars elements =
    let same = scalars_same others a b c passed.0 scalars.values passed.1 scalars.reads in
    let number_reads : Reads (vbr 6) c number d = subst (λ (q : BufferedBits). Reads (vbr 6) q number d) same.1 takes.reads in
    let all = list_read first room code number ops op others element start a c d e scalars.values elements.values parts.all parts.shape parts.are (omega (arith, count_is, few)) head.reads scalars.reads number_reads elements.reads in
    let rule = by_definition first room ops in
    let end : e ≡ beyond start len = left_is rule start (record { code = code; values = scalars.values ++ elements.values }) e all ∙ ap (beyond start) (sym len_is) in
    let many : length (scalars.values ++ elements.values) ≡ count = omega (arith, count_is, length-append scalars.values elements.values, elements.many, scalars_many others a c scalars.values scalars.reads) in
    let front_bits : List Bool = bits_of 2 3 ++ (shortest 6 code ++ shortest 6 count) in
    record {
      code = code;
      values = scalars.values ++ elements.values;
      many = many;
      there = omega (arith, len_is, reads_there rule start (record { code = code; values = scalars.values ++ elements.values }) e all);
      reads = subst (Reads rule start (record { code = code; values = scalars.values ++ elements.values })) end all;
      puts = puts_as ((front_bits ++ values_bits scalars.values) ++ values_bits elements.values) (bits_of 2 3 ++ entry_text code (scalars.values ++ elements.values)) at after w z (entry_parts code count scalars.values elements.values (sym many))
          (puts_then (front_bits ++ values_bits scalars.values) (values_bits elements.values) at next after w y z (puts_then front_bits (values_bits scalars.values) at mid next w x y front scalars.puts) elements.puts);
    }

pub coded_written : (first room code count len : ℕ) (ops : List Op) (op : Op) (others : List Op) (start a b : BufferedBits) (at mid after : ℕ) (w x y : List ℕ) → CodedParts ops op others → count ≡ length others → count ≤ room → len ≡ b.position - start.position
    → TakesScalar op 1888 start code a → Puts (bits_of 2 3 ++ (shortest 6 code ++ shortest 6 count)) at w mid x → WritesScalars others a mid x after b y
    → WritesRecord (by_definition first room ops) start at w after len count y
coded_written first room code count len ops op others start a b at mid after w x y parts count_is few len_is head front scalars =
    let all = coded_read first room code ops op others start a b scalars.values parts.all parts.shape parts.are (omega (arith, count_is, few)) head.reads scalars.reads in
    let rule = by_definition first room ops in
    let end : b ≡ beyond start len = left_is rule start (record { code = code; values = scalars.values }) b all ∙ ap (beyond start) (sym len_is) in
    let many : length scalars.values ≡ count = omega (arith, count_is, scalars_many others a b scalars.values scalars.reads) in
    let front_bits : List Bool = bits_of 2 3 ++ (shortest 6 code ++ shortest 6 count) in
    record {
      code = code;
      values = scalars.values;
      many = many;
      there = omega (arith, len_is, reads_there rule start (record { code = code; values = scalars.values }) b all);
      reads = subst (Reads rule start (record { code = code; values = scalars.values })) end all;
      puts = puts_as (front_bits ++ values_bits scalars.values) (bits_of 2 3 ++ entry_text code scalars.values) at after w y (entry_whole code count scalars.values (sym many))
          (puts_then front_bits (values_bits scalars.values) at mid after w x y front scalars.puts);
    }

-- ---- how far the position is

pub front_ends : (code count at mid : ℕ) (x y : List ℕ) → Puts (bits_of 2 3 ++ (shortest 6 code ++ shortest 6 count)) at x mid y → (mid ≤ at + 158) × (length y ≡ length x)
front_ends code count at mid x y puts =
    (omega (arith, puts.ends, length-append (bits_of 2 3) (shortest 6 code ++ shortest 6 count), length-append (shortest 6 code) (shortest 6 count), length-bits_of 2 3, short_bits code, short_bits count), puts.same)

pub scalars_end : (ops : List Op) (a : BufferedBits) (at : ℕ) (old : List ℕ) (after : ℕ) (b : BufferedBits) (new : List ℕ) → WritesScalars ops a at old after b new → (after ≤ at + 78 * length ops) × (length new ≡ length old)
scalars_end ops a at old after b new writes = (omega (arith, writes.puts.ends, values_most writes.values, scalars_many ops a b writes.values writes.reads), writes.puts.same)

pub elements_end : (element : Op) (count : ℕ) (a : BufferedBits) (at : ℕ) (old : List ℕ) (after : ℕ) (b : BufferedBits) (new : List ℕ) → WritesElements element count a at old after b new → (after ≤ at + 78 * count) × (length new ≡ length old)
elements_end element count a at old after b new writes = (omega (arith, writes.puts.ends, values_most writes.values, writes.many), writes.puts.same)

-- ---- where the bits behind a record are

pub list_forward : (op : Op) (code : ℕ) (others : List Op) (element : Op) (number : ℕ) (start a b d e : BufferedBits) (at after : ℕ) (x y : List ℕ) → TakesScalar op 1888 start code a → (values : List ℕ) × HasScalars others a values b → TakesNumber 6 64 b number d → WritesElements element number d at x after e y → start.position ≤ e.position
list_forward op code others element number start a b d e at after x y head passed takes elements =
    omega (arith, ap (λ (q : BufferedBits). q.position) head.is, scalars_forward others a b passed.0 passed.1, ap (λ (q : BufferedBits). q.position) takes.is, ap (λ (q : BufferedBits). q.position) elements.is)

pub coded_forward : (op : Op) (code : ℕ) (others : List Op) (start a b : BufferedBits) (at after : ℕ) (x y : List ℕ) → TakesScalar op 1888 start code a → WritesScalars others a at x after b y → start.position ≤ b.position
coded_forward op code others start a b at after x y head scalars =
    omega (arith, ap (λ (q : BufferedBits). q.position) head.is, ap (λ (q : BufferedBits). q.position) scalars.is)

-- ---- what is before a record stays

pub front_keeps : (code count at mid : ℕ) (x y z : List ℕ) → Puts (bits_of 2 3 ++ (shortest 6 code ++ shortest 6 count)) at x mid y → KeepsFront mid y z → KeepsFront at x z
front_keeps code count at mid x y z front keeps = keeps_then (bits_of 2 3 ++ (shortest 6 code ++ shortest 6 count)) at mid x y z front keeps

pub scalars_keep : (ops : List Op) (a : BufferedBits) (at : ℕ) (old : List ℕ) (mid : ℕ) (b : BufferedBits) (bytes new : List ℕ) → WritesScalars ops a at old mid b bytes → KeepsFront mid bytes new → KeepsFront at old new
scalars_keep ops a at old mid b bytes new writes keeps = keeps_then (values_bits writes.values) at mid old bytes new writes.puts keeps
