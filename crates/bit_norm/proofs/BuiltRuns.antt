-- Records whose text was appended to a form at once.
use Rattle.std.proofs.Common.{◌≡◌, ℕ, ◌*◌, ◌-◌, ◌%◌, ◌<◌, ◌≤◌, Bool, true, false, List, [], ◌∷◌, ◌++◌, length, take, drop, map, replicate, refl, sym, ap, ◌∙◌, subst, arith, append_assoc}
use Rattle.std.proofs.lemmas.List.{append-nil, length-append, take_at}
use Rattle.bit_grammar.specs.declared.op.Op.{Op}
use Rattle.bit_grammar.specs.Bits.{bits_of, bits_of_bytes}
use Rattle.bit_grammar.specs.Machine.{Event, notes}
use Rattle.bit_grammar.specs.Marks.{RecordMark}
use Rattle.bit_grammar.specs.Normal.{entry_text}
use Rattle.bit_fields.specs.Buffered.{BufferedBits}
use Rattle.bit_fields.specs.Pens.{HoldBits, LendsEnd, Puts}
use Rattle.bit_fields.proofs.BitLaws.{length-bits_of_bytes}
use Rattle.bit_events.specs.Gathering.{left_open}
use Rattle.bit_events.specs.Passing.{GathersRecords, PassedTo}
use Rattle.bit_events.proofs.Folds.{open_behind-push}
use Rattle.bit_events.proofs.PassedOver.{none_passed}
use Rattle.bit_norm.specs.Building.{IsFormOf, record_left}
use Rattle.bit_norm.specs.Written.{WritesRun, records_bits}
use Rattle.bit_norm.specs.declared.form_builder.FormBuilder.{FormBuilder}
use Rattle.bit_norm.proofs.Building.{record_added}

-- the builder with another text
abbrev pub with_text : FormBuilder → List Bool → FormBuilder
with_text b text = record b { text = text }

still_open : (events : List Event) (mark : RecordMark) → 0 < left_open events → 0 < left_open (events ++ notes mark ∷ [])
still_open events mark some = omega (arith, some, open_behind-push events (notes mark) 0)

-- their text is appended
pub records_added : (records : List RecordMark) (old : FormBuilder) (text : List Bool) → old.long ≡ false → ((code : ℕ) → record_left old.standing code ≡ true) → text ≡ old.text ++ records_bits records → GathersRecords IsFormOf old records (with_text old text)
records_added [] old text short kept is = λ first done was some.
    subst (λ (events : List Event). IsFormOf first events (with_text old text)) (sym (append-nil done))
    (subst (λ (t : List Bool). IsFormOf first done (with_text old t)) (sym (is ∙ append-nil old.text)) was)
records_added (mark ∷ marks) old text short kept is = λ first done was some.
    let here = bits_of 2 3 ++ entry_text mark.code mark.values in
    let mid = with_text old (old.text ++ here) in
    let one = record_added mark.code mark.values old mid short (kept mark.code) (refl, refl) refl refl refl first done mark refl refl was some in
    let all = records_added marks mid text short kept (is ∙ sym (append_assoc old.text here (records_bits marks))) first (done ++ notes mark ∷ []) one (still_open done mark some) in
    subst (λ (events : List Event). IsFormOf first events (with_text old text)) (append_assoc done (notes mark ∷ []) (map notes marks)) all

-- ---- a loop over parts of a text that are lent

records_both : (first more : List RecordMark) → records_bits (first ++ more) ≡ records_bits first ++ records_bits more
records_both [] more = refl
records_both (mark ∷ marks) more =
    let here = bits_of 2 3 ++ entry_text mark.code mark.values in
    ap (λ (s : List Bool). here ++ s) (records_both marks more) ∙ sym (append_assoc here (records_bits marks) (records_bits more))

-- Records that come first were added to a builder, up to these bits.
pub record AddedSoFar (width : ℕ) (definitions : List (List Op)) (room : ℕ) (a : BufferedBits) (old : FormBuilder) (left : ℕ) (b : BufferedBits) (new : FormBuilder) : Type 0 where
  pub records : List RecordMark
  pub passed : PassedTo width definitions room a records left b
  pub only : new ≡ with_text old new.text
  pub text : new.text ≡ old.text ++ records_bits records

pub none_added : (width : ℕ) (definitions : List (List Op)) (room : ℕ) (a : BufferedBits) (old : FormBuilder) → AddedSoFar width definitions room a old room a old
none_added width definitions room a old = record { records = []; passed = none_passed width definitions room a; only = refl; text = sym (append-nil old.text) }

-- bytes hold bits: what they begin with
pub held_front : (bytes : List ℕ) (bits : List Bool) (at : ℕ) → at ≡ length bits → HoldBits bytes bits → (take at (bits_of_bytes bytes) ≡ bits) × (at ≤ 8 * length bytes)
held_front bytes bits at len h =
    let more = replicate (8 - length bits % 8) false ++ h.0 in (
      ap (take at) h.1 ∙ take_at bits more at (sym len),
      omega (arith, len, ap length h.1, length-append bits more, length-bits_of_bytes bytes),
    )

-- what was lent and filled
pub record Filled (lent : List ℕ) (at pen : ℕ) (bytes : List ℕ) (held records : List Bool) : Type 0 where
  pub holds : HoldBits bytes (take pen (bits_of_bytes bytes))
  pub there : pen ≤ 8 * length bytes
  pub is : take pen (bits_of_bytes bytes) ≡ held ++ records

pub filled : (lent : List ℕ) (at pen : ℕ) (bytes : List ℕ) (held records : List Bool) → HoldBits lent held → at ≡ length held → Puts records at lent pen bytes → Filled lent at pen bytes held records
filled lent at pen bytes held records holds len puts =
    let all = puts.holds held (sym len) holds in
    let front = held_front bytes (held ++ records) pen (omega (arith, puts.ends, len, length-append held records)) all in
    record {
      holds = subst (HoldBits bytes) (sym front.0) all;
      there = front.1;
      is = front.0;
    }

pub more_added : (width : ℕ) (definitions : List (List Op)) (room : ℕ) (a : BufferedBits) (old : FormBuilder) (left : ℕ) (b : BufferedBits) (new : FormBuilder) (bits : ℕ) (lent : List ℕ) (at : ℕ) (text : List Bool) (pen least : ℕ) (c : BufferedBits) (bytes : List ℕ) (last : List Bool)
    → AddedSoFar width definitions room a old left b new → LendsEnd bits new.text lent at text → WritesRun width definitions left b at lent pen least c bytes → last ≡ text ++ take pen (bits_of_bytes bytes) → AddedSoFar width definitions room a old least c (with_text new last)
more_added width definitions room a old left b new bits lent at text pen least c bytes last was lends run is =
    let f = filled lent at pen bytes lends.held (records_bits run.records) lends.holds lends.ends run.puts in
    record {
      records = was.records ++ run.records;
      passed = run.passes room a was.records was.passed;
      only = ap (λ (x : FormBuilder). with_text x last) was.only;
      text = is
          ∙ ap (λ (s : List Bool). text ++ s) f.is
          ∙ sym (append_assoc text lends.held (records_bits run.records))
          ∙ ap (λ (s : List Bool). s ++ records_bits run.records) (sym lends.is ∙ was.text)
          ∙ append_assoc old.text (records_bits was.records) (records_bits run.records)
          ∙ ap (λ (s : List Bool). old.text ++ s) (sym (records_both was.records run.records));
    }

-- they were gathered
pub added_gathered : (width : ℕ) (definitions : List (List Op)) (room : ℕ) (a : BufferedBits) (old : FormBuilder) (left : ℕ) (b : BufferedBits) (new : FormBuilder) (was : AddedSoFar width definitions room a old left b new) → old.long ≡ false → ((code : ℕ) → record_left old.standing code ≡ true) → GathersRecords IsFormOf old was.records new
added_gathered width definitions room a old left b new was short kept =
    subst (GathersRecords IsFormOf old was.records) (sym was.only) (records_added was.records old new.text short kept was.text)

-- a vector whose elements were stored
pub items_back : (len : ℕ) (new items : List ℕ) → len ≡ length items → length new ≡ length items → take len (new ++ drop (length new) items) ≡ new
items_back len new items all same = take_at new (drop (length new) items) len (omega (arith, all, same))
