-- Records that are passed over, one after another.
use Rattle.std.proofs.Common.{◌≡◌, ◌≢◌, ℕ, zero, suc, ◌+◌, ◌-◌, ◌<◌, ◌≤◌, List, [], ◌∷◌, ◌++◌, length, map, Option, Some, None, Result, Ok, Err, IfSome, IfOk, slice_get, refl, sym, ap, ◌∙◌, subst, arith, append_assoc}
use Rattle.std.specs.declared.alloc.AllocError.{AllocError}
use Rattle.std.proofs.lemmas.List.{append-nil, length-drop, map-append}
use Rattle.std.proofs.lemmas.List.Sums.{sum_by_push}
use Rattle.bit_grammar.specs.declared.op.Op.{Op}
use Rattle.bit_grammar.specs.Blocks.{by_definition, entry}
use Rattle.bit_grammar.specs.Fields.{fixed}
use Rattle.bit_grammar.specs.Machine.{Event, notes}
use Rattle.bit_grammar.specs.Marks.{RecordMark}
use Rattle.bit_grammar.specs.Record.{unabbreviated}
use Rattle.bit_grammar.specs.Terms.{CodeAndValues}
use Rattle.bit_fields.specs.Buffered.{BufferedBits, Reads, beyond, reader_at}
use Rattle.bit_fields.proofs.BufferedReads.{took_reads}
use Rattle.bit_abbrev.specs.declared.plan.Passed.{Passed}
use Rattle.bit_abbrev.specs.declared.plan.Plan.{Plan}
use Rattle.bit_abbrev.specs.Plans.{IsPlan, PassesOver}
use Rattle.bit_abbrev.proofs.Buffered.{took_at}
use Rattle.bit_events.specs.declared.passing.CountedRecord.{CountedRecord}
use Rattle.bit_events.specs.declared.passing.PassedRun.{PassedRun}
use Rattle.bit_events.specs.FrameView.{frame_shown, info_shown}
use Rattle.bit_events.specs.MachineView.{record_of}
use Rattle.bit_events.specs.Passing.{CountsOne, GathersRecords, PassedTo, PassesOn, PassesRecords, PassesRun, collected, mark_of}
use Rattle.bit_events.specs.Runs.{GathersTo}
use Rattle.bit_events.proofs.Framing.{found_entry, plain_entry}
use Rattle.bit_events.proofs.PlacedHeads.{field_below}
use Rattle.bit_events.proofs.Runs.{gathers_more, gathers_none, record_seen}

-- ---- one record

-- an id that is no special one takes bits
pub some_bits : (width id : ℕ) (a b : BufferedBits) → width ≤ length a.bits → 3 ≤ id → Reads (fixed width) a id b → 0 < width
some_bits zero id a b there most seen = absurd (omega (arith, most, field_below 0 id a b there seen))
some_bits (suc n) id a b there most seen = omega arith

plain_over : (room first id : ℕ) (definitions : List (List Op)) (a : BufferedBits) (passed : Passed) → id ≡ 3 → PassesOver (unabbreviated room) a passed → PassesOver (entry room first id definitions) a passed
plain_over room first id definitions a passed plain h =
    let value : CodeAndValues = record { code = passed.code; values = h.1.0 } in
    let b = beyond a passed.len in
    (h.0, (h.1.0, h.1.1, took_reads (entry room first id definitions) a value b (plain_entry room first id definitions (reader_at a) (Ok value) (reader_at b) plain (took_at (unabbreviated room) a value b h.1.2))))

found_over : (room first id : ℕ) (definitions : List (List Op)) (ops : List Op) (a : BufferedBits) (passed : Passed) → id ≢ 3 → slice_get definitions (id - 4) ≡ Some ops → PassesOver (by_definition first room ops) a passed → PassesOver (entry room first id definitions) a passed
found_over room first id definitions ops a passed other found h =
    let value : CodeAndValues = record { code = passed.code; values = h.1.0 } in
    let b = beyond a passed.len in
    (h.0, (h.1.0, h.1.1, took_reads (entry room first id definitions) a value b (found_entry room first id definitions ops (reader_at a) (Ok value) (reader_at b) other found (took_at (by_definition first room ops) a value b h.1.2))))

-- what passing over a record that is not abbreviated says
abbrev PassesPlain : BufferedBits → Passed → Type 0
PassesPlain fields passed = (room : ℕ) → passed.count ≤ room → PassesOver (unabbreviated room) fields passed

-- what a plan says
abbrev PassesPlanned : Plan → (room : ℕ) → BufferedBits → Passed → Type 0
PassesPlanned plan room fields passed = (first : ℕ) (ops : List Op) → IsPlan ops plan → passed.count ≤ room → PassesOver (by_definition first room ops) fields passed

-- a record after its id, with definitions in force of which something is known
abbrev PassesEntry : (List (List Op) → Type 0) → (id room : ℕ) → BufferedBits → Passed → Type 0
PassesEntry knows id room fields passed = (first : ℕ) (definitions : List (List Op)) → knows definitions → passed.count ≤ room → PassesOver (entry room first id definitions) fields passed

pub plain_passes : (result : Option Passed) (knows : List (List Op) → Type 0) (id room : ℕ) (fields a : BufferedBits) → fields ≡ a → id ≡ 3 → IfSome result (PassesPlain fields) → IfSome result (PassesEntry knows id room a)
plain_passes None knows id room fields a is plain h = tt
plain_passes (Some passed) knows id room fields a is plain h = λ first definitions known few. plain_over room first id definitions a passed plain (subst (λ (x : BufferedBits). PassesOver (unabbreviated room) x passed) is (h room few))

pub planned_passes : (result : Option Passed) (all : List (List Op)) (ops : List Op) (plan : Plan) (id room : ℕ) (fields a : BufferedBits) → fields ≡ a → id ≢ 3 → slice_get all (id - 4) ≡ Some ops → IsPlan ops plan → IfSome result (PassesPlanned plan room fields) → IfSome result (PassesEntry (λ d. all ≡ d) id room a)
planned_passes None all ops plan id room fields a is other found planned h = tt
planned_passes (Some passed) all ops plan id room fields a is other found planned h = λ first definitions same few.
    found_over room first id definitions ops a passed other (ap (λ (d : List (List Op)). slice_get d (id - 4)) (sym same) ∙ found) (subst (λ (x : BufferedBits). PassesOver (by_definition first room ops) x passed) is (h first ops planned few))

-- what the operands of a definition say
abbrev PassesOperands : List Op → (room : ℕ) → BufferedBits → Passed → Type 0
PassesOperands ops room fields passed = (first : ℕ) → PassesOver (by_definition first room ops) fields passed

pub operands_passes : (result : Option Passed) (all : List (List Op)) (ops : List Op) (id room : ℕ) (fields a : BufferedBits) → fields ≡ a → id ≢ 3 → slice_get all (id - 4) ≡ Some ops → IfSome result (PassesOperands ops room fields) → IfSome result (PassesEntry (λ d. all ≡ d) id room a)
operands_passes None all ops id room fields a is other found h = tt
operands_passes (Some passed) all ops id room fields a is other found h = λ first definitions same few.
    found_over room first id definitions ops a passed other (ap (λ (d : List (List Op)). slice_get d (id - 4)) (sym same) ∙ found) (subst (λ (x : BufferedBits). PassesOver (by_definition first room ops) x passed) is (h first))

pub operands_within : (result : Option Passed) (ops : List Op) (room width : ℕ) (fields a : BufferedBits) → fields ≡ beyond a width → width ≤ length a.bits → IfSome result (PassesOperands ops room fields) → IfSome result (λ passed. width + passed.len ≤ length a.bits)
operands_within None ops room width fields a is there h = tt
operands_within (Some passed) ops room width fields a is there h = let some = (h 0).0 in omega (arith, some, ap (λ (x : BufferedBits). length x.bits) is, length-drop width a.bits)

-- the bits that are passed over are there
pub plain_within : (result : Option Passed) (width : ℕ) (fields a : BufferedBits) → fields ≡ beyond a width → width ≤ length a.bits → IfSome result (PassesPlain fields) → IfSome result (λ passed. width + passed.len ≤ length a.bits)
plain_within None width fields a is there h = tt
plain_within (Some passed) width fields a is there h =
    let few : passed.count ≤ passed.count = omega arith in
    let some = (h passed.count few).0 in
    omega (arith, some, ap (λ (x : BufferedBits). length x.bits) is, length-drop width a.bits)

pub all_within : (result : Option Passed) (width : ℕ) (fields a : BufferedBits) → fields ≡ beyond a width → width ≤ length a.bits → IfSome result (λ passed. passed.len ≤ length fields.bits) → IfSome result (λ passed. width + passed.len ≤ length a.bits)
all_within None width fields a is there h = tt
all_within (Some passed) width fields a is there h = omega (arith, h, ap (λ (x : BufferedBits). length x.bits) is, length-drop width a.bits)

-- ---- several

-- no record was gathered
pub none_gathered : {G : Type 0} (gathered : G → List Event → G → Type 0) (g : G) → GathersRecords gathered g [] g
none_gathered gathered g = λ first done was some. subst (λ (events : List Event). gathered first events g) (sym (append-nil done)) was

pub none_passed : (width : ℕ) (definitions : List (List Op)) (room : ℕ) (a : BufferedBits) → PassedTo width definitions room a [] room a
none_passed width definitions room a = record {
  less = omega arith;
  spent = omega arith;
  passes = λ limits f used wide plain same most.
      let still : used ≡ used + (room - room) = omega arith in
      subst (λ (n : ℕ). GathersTo collected limits f used a [] n a []) still (gathers_none collected limits f used a []);
}

pub passes_records : (width : ℕ) (definitions : List (List Op)) (room : ℕ) (a : BufferedBits) (records : List RecordMark) (left : ℕ) (b : BufferedBits) (run : PassedRun) → PassedTo width definitions room a records left b → run.room ≡ left → run.after ≡ b.position → PassesRecords width definitions room a records run
passes_records width definitions room a records left b run so room_is after_is = record {
  less = omega (arith, room_is, so.less);
  spent = omega (arith, room_is, so.spent);
  passes = λ limits f used wide plain same most. (
    b,
    sym after_is,
    subst (λ (n : ℕ). GathersTo collected limits f used a [] (used + (room - n)) b (map notes records)) (sym room_is) (so.passes limits f used wide plain same most),
  );
}

-- one more record
pub one_passed : (width : ℕ) (definitions : List (List Op)) (room : ℕ) (a : BufferedBits) (records : List RecordMark) (left : ℕ) (b : BufferedBits) (one : CountedRecord) (list : List ℕ) (c : BufferedBits) → PassedTo width definitions room a records left b → 3 ≤ one.id → Reads (fixed width) b one.id (beyond b width) → Reads (entry left b.position one.id definitions) (beyond b width) (record { code = one.code; values = list }) c → length list ≤ left → one.first ≡ b.position → one.after ≡ c.position
    → PassedTo width definitions room a (records ++ mark_of one list ∷ []) (left - length list) c
one_passed width definitions room a records left b one list c so most id_seen seen few first_is after_is = record {
  less = omega (arith, so.less);
  spent = omega (arith, so.spent, few, sum_by_push (λ (mark : RecordMark). length mark.values) records (mark_of one list));
  passes = λ limits f used wide plain same all.
      let now : ℕ = used + (room - left) in
      let more : used + (room - (left - length list)) ≡ now + length list = omega (arith, so.less, few) in
      let id_here : Reads (fixed f.head.width) b one.id (beyond b width) = subst (λ (n : ℕ). Reads (fixed n) b one.id (beyond b width)) (sym wide) id_seen in
      let here : Reads (entry left b.position one.id f.definitions.all) (beyond b width) (record { code = one.code; values = list }) c = subst (λ (d : List (List Op)). Reads (entry left b.position one.id d) (beyond b width) (record { code = one.code; values = list }) c) (sym same) seen in
      subst (λ (events : List Event). GathersTo collected limits f used a [] (used + (room - (left - length list))) c events) (sym events)
      (gathers_more collected limits f used a [] now b (map notes records) one.id one.code list c (map notes records ++ event ∷ []) (used + (room - (left - length list))) (so.passes limits f used wide plain same all) more
      (λ outer handed used_is.
      let left_is : left ≡ limits.values - handed.used = omega (arith, used_is, all, so.less) in
      let entry_here : Reads (entry (limits.values - handed.used) b.position one.id f.definitions.all) (beyond b width) (record { code = one.code; values = list }) c = subst (λ (n : ℕ). Reads (entry n b.position one.id f.definitions.all) (beyond b width) (record { code = one.code; values = list }) c) left_is here in
      record_seen limits (frame_shown f) outer handed one.id one.code list b (beyond b width) c (ap info_shown plain) most id_here (took_at (entry (limits.values - handed.used) b.position one.id f.definitions.all) (beyond b width) (record { code = one.code; values = list }) c entry_here))
      (λ first done deepest was stands. ap (λ (s : List Event). s ++ event ∷ []) was ∙ append_assoc first (map notes records) (event ∷ [])));
}
  where
    event : Event
    event = record_of one.id list b.position (one.code, c.position)

    event_is : notes (mark_of one list) ≡ event
    event_is = rw (first_is, after_is) refl

    events : map notes (records ++ mark_of one list ∷ []) ≡ map notes records ++ event ∷ []
    events = map-append notes records (mark_of one list ∷ []) ∙ ap (λ (e : Event). map notes records ++ e ∷ []) event_is

-- no record was counted
pub on_none : {C : Type 0} (counted : C → List RecordMark → C → Type 0) (width : ℕ) (definitions : List (List Op)) (old : C) (room : ℕ) (a : BufferedBits) → PassesOn counted width definitions old room a old room a
on_none counted width definitions old room a = record {
  records = [];
  counts = λ first done was. subst (λ (records : List RecordMark). counted first records old) (sym (append-nil done)) was;
  passes = λ most first others so. subst (λ (records : List RecordMark). PassedTo width definitions most first records room a) (sym (append-nil others)) so;
}

-- one more was
pub on_one : {C : Type 0} (counted : C → List RecordMark → C → Type 0) (width : ℕ) (definitions : List (List Op)) (old : C) (room : ℕ) (a : BufferedBits) (mid : C) (left : ℕ) (b : BufferedBits) (one : CountedRecord) (list : List ℕ) (new : C) (c : BufferedBits)
    → PassesOn counted width definitions old room a mid left b → 3 ≤ one.id → Reads (fixed width) b one.id (beyond b width) → Reads (entry left b.position one.id definitions) (beyond b width) (record { code = one.code; values = list }) c → length list ≤ left → one.first ≡ b.position → one.after ≡ c.position → CountsOne counted mid (mark_of one list) new
    → PassesOn counted width definitions old room a new (left - length list) c
on_one counted width definitions old room a mid left b one list new c was most id_seen seen few first_is after_is counts = record {
  records = was.records ++ mark_of one list ∷ [];
  counts = λ first done h. subst (λ (records : List RecordMark). counted first records new) (append_assoc done was.records (mark_of one list ∷ [])) (counts first (done ++ was.records) (was.counts first done h));
  passes = λ all first others so. subst (λ (records : List RecordMark). PassedTo width definitions all first records (left - length list) c) (append_assoc others was.records (mark_of one list ∷ []))
      (one_passed width definitions all first (others ++ was.records) left b one list c (was.passes all first others so) most id_seen seen few first_is after_is);
}

pub on_then : {C : Type 0} (counted : C → List RecordMark → C → Type 0) (width : ℕ) (definitions : List (List Op)) (old : C) (room : ℕ) (a : BufferedBits) (mid : C) (left : ℕ) (b : BufferedBits) (new : C) (last : ℕ) (c : BufferedBits)
    → PassesOn counted width definitions old room a mid left b → PassesOn counted width definitions mid left b new last c → PassesOn counted width definitions old room a new last c
on_then counted width definitions old room a mid left b new last c front rest = record {
  records = front.records ++ rest.records;
  counts = λ first done h. subst (λ (records : List RecordMark). counted first records new) (append_assoc done front.records rest.records) (rest.counts first (done ++ front.records) (front.counts first done h));
  passes = λ most first others so. subst (λ (records : List RecordMark). PassedTo width definitions most first records last c) (append_assoc others front.records rest.records)
      (rest.passes most first (others ++ front.records) (front.passes most first others so));
}

pub on_records : {C : Type 0} (counted : C → List RecordMark → C → Type 0) (width : ℕ) (definitions : List (List Op)) (old : C) (room : ℕ) (a : BufferedBits) (new : C) (left : ℕ) (b : BufferedBits) (run : PassedRun)
    → PassesOn counted width definitions old room a new left b → counted old [] old → run.room ≡ left → run.after ≡ b.position → (records : List RecordMark) × counted old records new × PassesRecords width definitions room a records run
on_records counted width definitions old room a new left b run was none room_is after_is =
    (was.records, was.counts old [] none, passes_records width definitions room a was.records left b run (was.passes room a [] (none_passed width definitions room a)) room_is after_is)

-- what is said of a step for definitions of which something is known
pub steps_known : {S : Type 0} (Known Passes : List (List Op) → Type 0) (Steps : S → List (List Op) → Type 0) (result : Result S AllocError) → ((definitions : List (List Op)) → Known definitions → Passes definitions)
    → IfOk result (λ step. (definitions : List (List Op)) → Passes definitions → Steps step definitions) → IfOk result (λ step. (definitions : List (List Op)) → Known definitions → Steps step definitions)
steps_known Known Passes Steps (Ok step) passes steps = λ definitions known. steps definitions (passes definitions known)
steps_known Known Passes Steps (Err e) passes steps = tt

-- what a counter counted was gathered
pub counted_gathered : {C G : Type 0} (counted : C → List RecordMark → C → Type 0) (gathered : G → List Event → G → Type 0) (width : ℕ) (definitions : List (List Op)) (room : ℕ) (a : BufferedBits) (old new : C) (g h : G) (result : Result PassedRun AllocError) → ((records : List RecordMark) → counted old records new → GathersRecords gathered g records h)
    → IfOk result (λ run. (records : List RecordMark) × counted old records new × PassesRecords width definitions room a records run) → IfOk result (λ run. PassesRun gathered width definitions room a g run h)
counted_gathered counted gathered width definitions room a old new g h (Ok run) gathers p = (p.2.less, (p.0, p.2, gathers p.0 p.1))
counted_gathered counted gathered width definitions room a old new g h (Err e) gathers p = tt
