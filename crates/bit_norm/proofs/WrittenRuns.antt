-- Records that are stored, one after another.
use Rattle.std.proofs.Common.{◌≡◌, ◌≢◌, ℕ, ◌-◌, ◌<◌, ◌≤◌, Bool, true, List, [], ◌∷◌, ◌++◌, length, take, drop, get_or, Ok, Some, slice_get, refl, sym, ap, ◌∙◌, subst, arith, append_assoc}
use Rattle.std.proofs.lemmas.List.{append-nil, length-append, length-drop}
use Rattle.std.proofs.Math.Seq.{take-length}
use Rattle.bit_grammar.specs.declared.op.Op.{Op}
use Rattle.bit_grammar.specs.declared.op.Op.TheVariants.{Literal}
use Rattle.bit_grammar.specs.Bits.{bits_of}
use Rattle.bit_grammar.specs.Blocks.{by_definition, entry}
use Rattle.bit_grammar.proofs.Bits.Numbers.{length-bits_of}
use Rattle.bit_grammar.specs.Definition.{has_shape}
use Rattle.bit_grammar.specs.Fields.{fixed}
use Rattle.bit_grammar.specs.FormatFields.{shortest}
use Rattle.bit_grammar.specs.Marks.{RecordMark}
use Rattle.bit_grammar.specs.Normal.{entry_text, values_bits}
use Rattle.bit_grammar.specs.Record.{unabbreviated}
use Rattle.bit_grammar.specs.Terms.{CodeAndValues}
use Rattle.bit_fields.specs.Buffered.{BufferedBits, Reads, beyond, reader_at}
use Rattle.bit_fields.specs.Pens.{KeepsFront, Puts, TakesBack, TakesPlain}
use Rattle.bit_fields.proofs.BufferedReads.{reads_passed, took_reads}
use Rattle.bit_abbrev.specs.Layouts.{AreSingles, HasLayout}
use Rattle.bit_abbrev.specs.declared.layout.Layout.TheVariants as layout
use Rattle.bit_abbrev.proofs.Buffered.{took_at}
use Rattle.bit_events.specs.declared.passing.CountedRecord.{CountedRecord}
use Rattle.bit_events.specs.Passing.{PassedTo, mark_of}
use Rattle.bit_events.proofs.Framing.{found_entry, plain_entry}
use Rattle.bit_events.proofs.PassedOver.{one_passed, some_bits}
use Rattle.bit_abbrev.specs.Scalars.{HasScalars}
use Rattle.bit_abbrev.proofs.Covering.{beyond_none}
use Rattle.bit_abbrev.proofs.Singles.{coded_read, scalars_many, takes_literal}
use Rattle.bit_norm.proofs.Written.{entry_whole}
use Rattle.bit_norm.specs.Written.{WritesRecord, WritesRun, WritesScalars, records_bits}
use Rattle.bit_fields.proofs.Pens.{puts_as, puts_nothing, puts_then, six_range, takes_back_holds}

-- ---- several records

records_push : (records : List RecordMark) (mark : RecordMark) → records_bits records ++ (bits_of 2 3 ++ entry_text mark.code mark.values) ≡ records_bits (records ++ mark ∷ [])
records_push [] mark = sym (append-nil (bits_of 2 3 ++ entry_text mark.code mark.values))
records_push (m ∷ ms) mark =
    let first = bits_of 2 3 ++ entry_text m.code m.values in
    append_assoc first (records_bits ms) (bits_of 2 3 ++ entry_text mark.code mark.values) ∙ ap (λ (s : List Bool). first ++ s) (records_push ms mark)

pub none_written : (width : ℕ) (definitions : List (List Op)) (room : ℕ) (a : BufferedBits) (at : ℕ) (old : List ℕ) → WritesRun width definitions room a at old at room a old
none_written width definitions room a at old = record {
  records = [];
  puts = puts_nothing at old;
  passes = λ most first others so. subst (λ (records : List RecordMark). PassedTo width definitions most first records room a) (sym (append-nil others)) so;
}

-- a record that comes next
pub record NextRecord (width : ℕ) (definitions : List (List Op)) (left : ℕ) (b : BufferedBits) (mid : ℕ) (old : List ℕ) (after count : ℕ) (c : BufferedBits) (new : List ℕ) : Type 0 where
  pub id : ℕ
  pub code : ℕ
  pub values : List ℕ
  pub many : length values ≡ count
  pub few : count ≤ left
  pub ordinary : 3 ≤ id
  pub id_reads : Reads (fixed width) b id (beyond b width)
  pub reads : Reads (entry left b.position id definitions) (beyond b width) (record { code = code; values = values }) c
  pub puts : Puts (bits_of 2 3 ++ entry_text code values) mid old after new

pub one_written : (width : ℕ) (definitions : List (List Op)) (room : ℕ) (a : BufferedBits) (at : ℕ) (old : List ℕ) (mid left : ℕ) (b : BufferedBits) (bytes : List ℕ) (after count : ℕ) (c : BufferedBits) (new : List ℕ)
    → WritesRun width definitions room a at old mid left b bytes → NextRecord width definitions left b mid bytes after count c new → WritesRun width definitions room a at old after (left - count) c new
one_written width definitions room a at old mid left b bytes after count c new was next = record {
  records = was.records ++ mark ∷ [];
  puts = puts_as (records_bits was.records ++ (bits_of 2 3 ++ entry_text next.code next.values)) (records_bits (was.records ++ mark ∷ [])) at after old new (records_push was.records mark)
      (puts_then (records_bits was.records) (bits_of 2 3 ++ entry_text next.code next.values) at mid after old bytes new was.puts next.puts);
  passes = λ most first others so.
      let more = one_passed width definitions most first (others ++ was.records) left b one next.values c (was.passes most first others so) next.ordinary next.id_reads next.reads (omega (arith, next.many, next.few)) refl refl in
      subst (λ (n : ℕ). PassedTo width definitions most first (others ++ (was.records ++ mark ∷ [])) (left - n) c) next.many
      (subst (λ (records : List RecordMark). PassedTo width definitions most first records (left - length next.values) c) (append_assoc others was.records (mark ∷ [])) more);
}
  where
    one : CountedRecord
    one = record { id = next.id; code = next.code; count = count; first = b.position; after = c.position }

    mark : RecordMark
    mark = mark_of one next.values

-- what a record that was not stored left is dropped
pub still_written : (width : ℕ) (definitions : List (List Op)) (room : ℕ) (a : BufferedBits) (at : ℕ) (old : List ℕ) (mid left : ℕ) (b : BufferedBits) (bytes tried new : List ℕ)
    → WritesRun width definitions room a at old mid left b bytes → KeepsFront mid bytes tried → TakesBack mid tried new → WritesRun width definitions room a at old mid left b new
still_written width definitions room a at old mid left b bytes tried new was keeps back = record {
  records = was.records;
  puts = record {
    same = back.same ∙ keeps.same ∙ was.puts.same;
    ends = was.puts.ends;
    holds = λ bits len h. takes_back_holds mid bytes tried new keeps back (bits ++ records_bits was.records) (omega (arith, len, was.puts.ends, length-append bits (records_bits was.records))) (was.puts.holds bits len h);
  };
  passes = was.passes;
}

-- ---- reading a record

found_read : (room first id : ℕ) (definitions : List (List Op)) (ops : List Op) (a : BufferedBits) (value : CodeAndValues) (b : BufferedBits) → id ≢ 3 → slice_get definitions (id - 4) ≡ Some ops → Reads (by_definition first room ops) a value b → Reads (entry room first id definitions) a value b
found_read room first id definitions ops a value b other found seen =
    took_reads (entry room first id definitions) a value b (found_entry room first id definitions ops (reader_at a) (Ok value) (reader_at b) other found (took_at (by_definition first room ops) a value b seen))

plain_read : (room first id : ℕ) (definitions : List (List Op)) (a : BufferedBits) (value : CodeAndValues) (b : BufferedBits) → id ≡ 3 → Reads (unabbreviated room) a value b → Reads (entry room first id definitions) a value b
plain_read room first id definitions a value b plain seen =
    took_reads (entry room first id definitions) a value b (plain_entry room first id definitions (reader_at a) (Ok value) (reader_at b) plain (took_at (unabbreviated room) a value b seen))

-- a record of single operands
pub scalars_record : (first room code : ℕ) (ops others : List Op) (a : BufferedBits) (values : List ℕ) (b : BufferedBits) → ops ≡ Literal code ∷ others → has_shape ops ≡ true → AreSingles others → length others ≤ room → HasScalars others a values b → Reads (by_definition first room ops) a (record { code = code; values = values }) b
scalars_record first room code ops others a values b is shape are few has =
    coded_read first room code ops (Literal code) others a a b values is shape are few (takes_literal (Literal code) code 0 a code 0 a refl refl refl (sym (beyond_none a))).reads has

-- ---- layouts

rest_of : (op : Op) (others : List Op) → take (length (op ∷ others) - 1) (drop 1 (op ∷ others)) ≡ others
rest_of op others = let count : length (op ∷ others) - 1 ≡ length others = omega arith in ap (λ (n : ℕ). take n others) count ∙ take-length others

-- a code that is a literal, and single operands after it
pub record HasSingles (ops : List Op) (code : ℕ) (others : List Op) : Type 0 where
  pub shape : has_shape ops ≡ true
  pub short : length others ≤ 31
  pub is : ops ≡ Literal code ∷ others
  pub single : AreSingles others

same_code : (a b : ℕ) → Literal a ≡ Literal b → a ≡ b
same_code a b e = cc

pub singles_parts : (ops : List Op) (code : ℕ) → HasLayout ops layout.Singles → get_or ops 0 (Literal 0) ≡ Literal code → HasSingles ops code (take (length ops - 1) (drop 1 ops))
singles_parts ops code has first =
    let begun : get_or ops 0 (Literal 0) ≡ Literal has.2 = ap (λ (os : List Op). get_or os 0 (Literal 0)) has.4 in
    let same : has.2 ≡ code = same_code has.2 code (sym begun ∙ first) in
    let all : ops ≡ Literal code ∷ has.3 = has.4 ∙ ap (λ (n : ℕ). Literal n ∷ has.3) same in
    let cut : take (length ops - 1) (drop 1 ops) ≡ has.3 = ap (λ (os : List Op). take (length os - 1) (drop 1 os)) all ∙ rest_of (Literal code) has.3 in
    record {
      shape = has.0;
      short = omega (arith, has.1, ap length all, ap length cut);
      is = all ∙ ap (λ (os : List Op). Literal code ∷ os) (sym cut);
      single = subst AreSingles (sym cut) has.5;
    }

-- ---- the text of a record

-- the front of a record is short
pub front_length : (code count : ℕ) → length (bits_of 2 3 ++ (shortest 6 code ++ shortest 6 count)) ≤ 158
front_length code count = omega (arith, length-append (bits_of 2 3) (shortest 6 code ++ shortest 6 count), length-append (shortest 6 code) (shortest 6 count), length-bits_of 2 3, (six_range code).1, (six_range count).1)

-- ---- a record that comes next

pub plain_next : (width : ℕ) (definitions : List (List Op)) (left : ℕ) (b : BufferedBits) (mid : ℕ) (old : List ℕ) (after count : ℕ) (c : BufferedBits) (new : List ℕ) (id : ℕ) (spelling : List Bool) (fields : BufferedBits)
    → id ≡ 3 → Reads (fixed width) b id (beyond b width) → fields ≡ beyond b width → count ≤ left → TakesPlain left count fields spelling c → Puts spelling mid old after new → NextRecord width definitions left b mid old after count c new
plain_next width definitions left b mid old after count c new id spelling fields plain id_reads place few takes puts = record {
  id = id;
  code = takes.code;
  values = takes.values;
  many = takes.many;
  few = few;
  ordinary = omega (arith, plain);
  id_reads = id_reads;
  reads = plain_read left b.position id definitions (beyond b width) (record { code = takes.code; values = takes.values }) c plain
      (subst (λ (x : BufferedBits). Reads (unabbreviated left) x (record { code = takes.code; values = takes.values }) c) place takes.reads);
  puts = puts_as spelling (bits_of 2 3 ++ entry_text takes.code takes.values) mid after old new takes.spelled puts;
}

pub singles_next : (width : ℕ) (definitions : List (List Op)) (left : ℕ) (b : BufferedBits) (mid : ℕ) (old : List ℕ) (at : ℕ) (begun : List ℕ) (after count : ℕ) (c : BufferedBits) (new : List ℕ) (id code : ℕ) (ops others : List Op) (fields : BufferedBits)
    → 4 ≤ id → Reads (fixed width) b id (beyond b width) → fields ≡ beyond b width → slice_get definitions (id - 4) ≡ Some ops → has_shape ops ≡ true → ops ≡ Literal code ∷ others → AreSingles others → length others ≡ count → count ≤ left
    → Puts (bits_of 2 3 ++ (shortest 6 code ++ shortest 6 count)) mid old at begun → WritesScalars others fields at begun after c new → NextRecord width definitions left b mid old after count c new
singles_next width definitions left b mid old at begun after count c new id code ops others fields most id_reads place found shape is are many few front writes =
    let all : length writes.values ≡ count = scalars_many others fields c writes.values writes.reads ∙ many in
    record {
      id = id;
      code = code;
      values = writes.values;
      many = all;
      few = few;
      ordinary = omega (arith, most);
      id_reads = id_reads;
      reads = found_read left b.position id definitions ops (beyond b width) (record { code = code; values = writes.values }) c (let other : id ≢ 3 = omega (arith, most) in other) found
          (scalars_record b.position left code ops others (beyond b width) writes.values c is shape are (omega (arith, many, few)) (subst (λ (x : BufferedBits). HasScalars others x writes.values c) place writes.reads));
      puts = puts_as ((bits_of 2 3 ++ (shortest 6 code ++ shortest 6 count)) ++ values_bits writes.values) (bits_of 2 3 ++ entry_text code writes.values) mid after old new (entry_whole code count writes.values (sym all))
          (puts_then (bits_of 2 3 ++ (shortest 6 code ++ shortest 6 count)) (values_bits writes.values) mid at after old begun new front writes.puts);
    }

pub other_next : (width : ℕ) (definitions : List (List Op)) (left : ℕ) (b : BufferedBits) (mid : ℕ) (old : List ℕ) (after len count : ℕ) (c : BufferedBits) (new : List ℕ) (id : ℕ) (ops : List Op) (fields : BufferedBits)
    → 4 ≤ id → Reads (fixed width) b id (beyond b width) → fields ≡ beyond b width → c ≡ beyond fields len → slice_get definitions (id - 4) ≡ Some ops → count ≤ left → WritesRecord (by_definition b.position left ops) fields mid old after len count new → NextRecord width definitions left b mid old after count c new
other_next width definitions left b mid old after len count c new id ops fields most id_reads place end found few writes = record {
  id = id;
  code = writes.code;
  values = writes.values;
  many = writes.many;
  few = few;
  ordinary = omega (arith, most);
  id_reads = id_reads;
  reads = found_read left b.position id definitions ops (beyond b width) (record { code = writes.code; values = writes.values }) c (let other : id ≢ 3 = omega (arith, most) in other) found
      (subst (λ (x : BufferedBits). Reads (by_definition b.position left ops) x (record { code = writes.code; values = writes.values }) c) place
      (subst (Reads (by_definition b.position left ops) fields (record { code = writes.code; values = writes.values })) (sym end) writes.reads));
  puts = writes.puts;
}

-- it takes bits
pub next_shorter : (width : ℕ) (definitions : List (List Op)) (left : ℕ) (b : BufferedBits) (mid : ℕ) (old : List ℕ) (after count : ℕ) (c : BufferedBits) (new : List ℕ) → width ≤ length b.bits → NextRecord width definitions left b mid old after count c new → length c.bits < length b.bits
next_shorter width definitions left b mid old after count c new there next =
    let some : 0 < width = some_bits width next.id b (beyond b width) there next.ordinary next.id_reads in
    let p = reads_passed (entry left b.position next.id definitions) (beyond b width) (record { code = next.code; values = next.values }) c next.reads in
    omega (arith, some, there, length-drop width b.bits, ap length p.1, length-append p.0 c.bits)

-- ---- a loop over records

-- Records that come first were stored at a position, and took bits, if any were stored.
pub record SoFar (width : ℕ) (definitions : List (List Op)) (room : ℕ) (a : BufferedBits) (at : ℕ) (old : List ℕ) (after left : ℕ) (b : BufferedBits) (new : List ℕ) : Type 0 where
  pub runs : WritesRun width definitions room a at old after left b new
  pub less : length b.bits ≤ length a.bits
  pub moved : at < after → length b.bits < length a.bits

pub none_so_far : (width : ℕ) (definitions : List (List Op)) (room : ℕ) (a : BufferedBits) (at : ℕ) (old : List ℕ) → SoFar width definitions room a at old at room a old
none_so_far width definitions room a at old = record { runs = none_written width definitions room a at old; less = omega arith; moved = λ on. absurd (omega (arith, on)) }

pub one_so_far : (width : ℕ) (definitions : List (List Op)) (room : ℕ) (a : BufferedBits) (at : ℕ) (old : List ℕ) (mid left : ℕ) (b : BufferedBits) (bytes : List ℕ) (after count : ℕ) (c : BufferedBits) (new : List ℕ)
    → SoFar width definitions room a at old mid left b bytes → width ≤ length b.bits → NextRecord width definitions left b mid bytes after count c new → SoFar width definitions room a at old after (left - count) c new
one_so_far width definitions room a at old mid left b bytes after count c new was there next =
    let shorter = next_shorter width definitions left b mid bytes after count c new there next in
    record { runs = one_written width definitions room a at old mid left b bytes after count c new was.runs next; less = omega (arith, shorter, was.less); moved = λ on. omega (arith, shorter, was.less) }
