-- Values that are read into the places of a list.
use Rattle.std.proofs.Common.{◌≡◌, ◌≢◌, ℕ, suc, ◌+◌, ◌*◌, ◌-◌, ◌<◌, ◌≤◌, List, [], ◌∷◌, ◌++◌, length, take, get_or, Some, slice_get, eq-eqb, refl, sym, ap, ◌∙◌, subst, arith}
use Rattle.std.proofs.Math.ListN.{set}
use Rattle.std.proofs.Math.Seq.{take-suc, take-suc-set}
use Rattle.std.proofs.lemmas.Bool.{lt-ltb, ne_eqb}
use Rattle.std.proofs.lemmas.List.{length-drop, take_at}
use Rattle.std.proofs.lemmas.Option.{get_or_from_slice_get, slice_get_within}
use borrow.Rule.Slice.PartMut.{put_mid}
use Rattle.std.proofs.lemmas.Slice.{take-put_mid}
use Rattle.bit_grammar.specs.declared.op.Op.{Op}
use Rattle.bit_grammar.specs.declared.op.Op.TheVariants.{Literal, Vbr}
use Rattle.bit_grammar.specs.FormatDefinition.{op_at}
use Rattle.bit_grammar.specs.Blocks.{by_definition, entry}
use Rattle.bit_grammar.specs.Grammar.{repeat}
use Rattle.bit_grammar.specs.Fields.{vbr}
use Rattle.bit_grammar.specs.Record.{scalar, unabbreviated}
use Rattle.bit_grammar.specs.Terms.{CodeAndValues}
use Rattle.bit_fields.specs.Buffered.{BufferedBits, Reads, beyond}
use Rattle.bit_fields.specs.Pens.{ReadsSixes, TakesNumber}
use Rattle.bit_fields.proofs.BufferedReads.{reads_forward, reads_there}
use Rattle.bit_fields.proofs.PlainRecords.{repeat_both}
use Rattle.bit_abbrev.specs.Scalars.{HasScalars, ReadsFew, ReadsSingles, TakesScalar}
use Rattle.bit_abbrev.specs.declared.plan.Passed.{Passed}
use Rattle.bit_abbrev.proofs.Covering.{left_is}
use Rattle.bit_abbrev.proofs.PassedRecords.{plain_read}
use Rattle.bit_abbrev.proofs.Singles.{CodedParts, ListParts, coded_whole, left_enough, list_behind, list_whole, scalars_one, scalars_then}

-- the first operands' values were read into the first places
pub record FarRead (ops : List Op) (at : ℕ) (a : BufferedBits) (list : List ℕ) (b : BufferedBits) : Type 0 where
  pub reads : HasScalars (take at ops) a (take at list) b
  pub there : 64 + 57 * (length ops - at) ≤ length b.bits

pub reads_value : (ops : List Op) (at next : ℕ) (a b : BufferedBits) (list : List ℕ) (value : ℕ) (c : BufferedBits) → length ops ≤ 32 → at < length ops → at < length list → next ≡ at + 1 → FarRead ops at a list b → TakesScalar (op_at ops at) 1888 b value c → FarRead ops next a (set list at value) c
reads_value ops at next a b list value c few within place next_is far takes =
    let one : List Op = op_at ops at ∷ [] in
    let on : next ≡ suc at = omega (arith, next_is) in
    let more : take next ops ≡ take at ops ++ one = ap (λ (n : ℕ). take n ops) on ∙ take-suc ops at (Literal 0) within in
    let read : take next (set list at value) ≡ take at list ++ (value ∷ []) = ap (λ (n : ℕ). take n (set list at value)) on ∙ take-suc-set list at value place in
    let left : length c.bits ≡ length b.bits - takes.len = ap (λ (d : BufferedBits). length d.bits) takes.is ∙ length-drop takes.len b.bits in
    record {
      reads = subst (λ (t : List Op). HasScalars t a (take next (set list at value)) c) (sym more)
          (subst (λ (vs : List ℕ). HasScalars (take at ops ++ one) a vs c) (sym read) (scalars_then (take at ops) one a b c (take at list) (value ∷ []) far.reads (scalars_one (op_at ops at) b value c takes.reads)));
      there = left_enough (length ops - next) takes.len (length b.bits) (length c.bits) (omega (arith, next_is, within, few)) (omega (arith, next_is, within, far.there)) left takes.near;
    }

one_element : (element : Op) (a : BufferedBits) (value : ℕ) (b : BufferedBits) → Reads (scalar element) a value b → Reads (repeat 1 (scalar element)) a (value ∷ []) b
one_element element a value b seen = rw seen refl

-- one more element of an array was read
pub reads_element : (element : Op) (at next : ℕ) (a b : BufferedBits) (list : List ℕ) (value : ℕ) (c : BufferedBits) → at < length list → next ≡ at + 1 → Reads (repeat at (scalar element)) a (take at list) b → Reads (scalar element) b value c → Reads (repeat next (scalar element)) a (take next (set list at value)) c
reads_element element at next a b list value c place next_is far seen =
    let on : next ≡ suc at = omega (arith, next_is) in
    let read : take next (set list at value) ≡ take at list ++ (value ∷ []) = ap (λ (n : ℕ). take n (set list at value)) on ∙ take-suc-set list at value place in
    subst (λ (vs : List ℕ). Reads (repeat next (scalar element)) a vs c) (sym read)
    (repeat_both (scalar element) at 1 next a.position a.bits (take at list) (value ∷ []) b.position b.bits c.position c.bits next_is far (one_element element b value c seen))

-- numbers in chunks of six bits are elements
pub sixes_elements : (element : Op) (values : List ℕ) (a b : BufferedBits) → element ≡ Vbr 6 → ReadsSixes values a b → Reads (repeat (length values) (scalar element)) a values b
unfolding scalar
sixes_elements element values a b is h = rw is h.reads

-- ---- records

-- a record that is not abbreviated
pub plain_few : (room code count len : ℕ) (values rest : List ℕ) (start a d e : BufferedBits) → count ≤ room → length values ≡ count → len ≡ e.position - start.position → Reads (vbr 6) start code a → Reads (vbr 6) a count d → ReadsSixes values d e
    → ReadsFew (unabbreviated room) start (record { len = len; code = code; count = count }) (values ++ rest)
plain_few room code count len values rest start a d e few many len_is first second third =
    let value : CodeAndValues = record { code = code; values = values } in
    let rule = unabbreviated room in
    let all : Reads rule start value e = plain_read room code count values start a d e few first second (subst (λ (n : ℕ). Reads (repeat n (vbr 6)) d values e) many third.reads) in
    let end : e ≡ beyond start len = left_is rule start value e all ∙ ap (beyond start) (sym len_is) in
    let front : take count (values ++ rest) ≡ values = take_at values rest count many in (
      omega (arith, len_is, reads_there rule start value e all),
      subst (λ (vs : List ℕ). Reads rule start (record { code = code; values = vs }) (beyond start len)) (sym front) (subst (Reads rule start value) end all),
    )

pub coded_few : (first room code place : ℕ) (ops : List Op) (op : Op) (others : List Op) (start a : BufferedBits) (passed : Passed) (list : List ℕ) → CodedParts ops op others → place ≡ start.position → TakesScalar op 1888 start code a → ReadsSingles place code room others a passed list
    → ReadsFew (by_definition first room ops) start passed list
coded_few first room code place ops op others start a passed list parts place_is head read =
    let len_is : passed.len ≡ read.after.position - start.position = omega (arith, read.len, place_is) in
    let whole = coded_whole first room code passed.len ops op others start a read.after (take passed.count list) parts (omega (arith, read.many, read.few)) len_is head read.reads in
    (whole.0, subst (λ (n : ℕ). Reads (by_definition first room ops) start (record { code = n; values = take passed.count list }) (beyond start passed.len)) (sym read.code_is) whole.1)

-- a record with an array
pub list_few : (first room code count number k len : ℕ) (ops : List Op) (op : Op) (others : List Op) (element : Op) (start a b d e : BufferedBits) (list elements : List ℕ) → ListParts ops op others element → count ≡ length others + number → count ≤ room → len ≡ e.position - start.position
    → TakesScalar op 1888 start code a → HasScalars others a (take (length others) list) b → TakesNumber 6 64 b number d → length others ≤ length list → length elements ≡ number → Reads (repeat (length elements) (scalar element)) d elements e
    → ReadsFew (by_definition first room ops) start (record { len = len; code = code; count = count }) (put_mid (length others) k list elements)
list_few first room code count number k len ops op others element start a b d e list elements parts count_is few len_is head h takes within many seen =
    let values : List ℕ = take (length others) list in
    let read : Reads (repeat number (scalar element)) d elements e = subst (λ (n : ℕ). Reads (repeat n (scalar element)) d elements e) many seen in
    let whole = list_whole first room code number len ops op others element start a b d e values elements parts (omega (arith, count_is, few)) len_is head h takes read in
    let front : take count (put_mid (length others) k list elements) ≡ values ++ elements = take-put_mid (length others) k list elements count (omega (arith, count_is, many)) within in
    (whole.0, subst (λ (vs : List ℕ). Reads (by_definition first room ops) start (record { code = code; values = vs }) (beyond start len)) (sym front) whole.1)

pub list_forward : (op : Op) (code : ℕ) (others : List Op) (element : Op) (number : ℕ) (start a b d e : BufferedBits) (values elements : List ℕ) → TakesScalar op 1888 start code a → HasScalars others a values b → TakesNumber 6 64 b number d → Reads (repeat (length elements) (scalar element)) d elements e → start.position ≤ e.position
list_forward op code others element number start a b d e values elements head h takes seen =
    omega (arith, list_behind op code others number start a b d head (values, h) takes, reads_forward (repeat (length elements) (scalar element)) d elements e seen)

-- ---- by an id

pub plain_reads : (room first id : ℕ) (definitions : List (List Op)) (a : BufferedBits) (value : CodeAndValues) (b : BufferedBits) → id ≡ 3 → Reads (unabbreviated room) a value b → Reads (entry room first id definitions) a value b
unfolding entry
plain_reads room first id definitions a value b plain seen = rw (eq-eqb id 3 plain, seen) refl

pub found_reads : (room first id : ℕ) (definitions : List (List Op)) (ops : List Op) (a : BufferedBits) (value : CodeAndValues) (b : BufferedBits) → id ≢ 3 → slice_get definitions (id - 4) ≡ Some ops → Reads (by_definition first room ops) a value b → Reads (entry room first id definitions) a value b
unfolding entry
found_reads room first id definitions ops a value b other found seen =
    let within = lt-ltb (id - 4) (length definitions) (slice_get_within definitions (id - 4) ops found) in
    let there : get_or definitions (id - 4) [] ≡ ops = get_or_from_slice_get definitions (id - 4) ops [] found in
    rw (ne_eqb id 3 other, within, there, seen) refl

pub plain_found : (room first id : ℕ) (definitions : List (List Op)) (a : BufferedBits) (passed : Passed) (list : List ℕ) → id ≡ 3 → ReadsFew (unabbreviated room) a passed list → ReadsFew (entry room first id definitions) a passed list
plain_found room first id definitions a passed list plain h =
    (h.0, plain_reads room first id definitions a (record { code = passed.code; values = take passed.count list }) (beyond a passed.len) plain h.1)

pub found_few : (room first id : ℕ) (definitions : List (List Op)) (ops : List Op) (a : BufferedBits) (passed : Passed) (list : List ℕ) → id ≢ 3 → slice_get definitions (id - 4) ≡ Some ops → ReadsFew (by_definition first room ops) a passed list → ReadsFew (entry room first id definitions) a passed list
found_few room first id definitions ops a passed list other found h =
    (h.0, found_reads room first id definitions ops a (record { code = passed.code; values = take passed.count list }) (beyond a passed.len) other found h.1)
