use Rattle.std.proofs.Common.{◌≡◌, ℕ, ◌-◌, ◌≤◌, List, ◌++◌, length, take, drop, refl, sym, ap, ◌∙◌, subst, arith, length-drop}
use Rattle.bit_grammar.specs.declared.op.Op.{Op}
use Rattle.bit_grammar.specs.Bits.{bits_of}
use Rattle.bit_abbrev.specs.Layouts.{HasLayout}
use Rattle.bit_abbrev.specs.declared.layout.Layout.TheVariants as layout
use Rattle.bit_fields.specs.Buffered.{BufferedBits, beyond}
use Rattle.bit_fields.specs.Pens.{KeepsFront, TakesPlain}
use Rattle.bit_fields.specs.PlacedView.{placed}
use Rattle.bit_grammar.specs.FormatFields.{shortest}
use Rattle.bit_grammar.specs.Blocks.{by_definition}
use Rattle.std.specs.Prelude.{Some, slice_get}
use denote.Enum.Bare.{same_true}
use Rattle.bit_abbrev.specs.contracts.layout.Layout.{the_type}
use Rattle.bit_fields.proofs.Placing.{length_at}
use Rattle.bit_norm.specs.declared.form_run.End.TheVariants as end
use Rattle.bit_norm.specs.Written.{WritesRecord, WritesRun}
use Rattle.bit_fields.proofs.Pens.{keeps_then}
use Rattle.bit_norm.proofs.WrittenRuns.{HasSingles, front_length, other_next, next_shorter, none_so_far, one_so_far, plain_next, singles_next, singles_parts, still_written}
use Rattle.bit_norm.proofs.form_run.write_records.Goals as goal
use Rattle.bit_norm.proofs.form_run.write_records.Goals.{else-loop-pen-test, then-loop-pen-test+then-not-has, then-loop-pen-test+else-not-has+then-id-lt3, then-loop-pen-test+else-not-has+else-id-lt3+then-id-eq3+in_default, then-loop-pen-test+else-not-has+else-id-lt3+then-id-eq3+in-Some+then-count-room, then-loop-pen-test+else-not-has+else-id-lt3+then-id-eq3+in-Some+else-count-room+else-count-gt-MOST_VALUES+then-count-bytes, then-loop-pen-test+else-not-has+else-id-lt3+then-id-eq3+in-Some+else-count-room+else-count-gt-MOST_VALUES+else-count-bytes+in_default-write_plain, then-loop-pen-test+else-not-has+else-id-lt3+else-id-eq3+in_default-get, then-loop-pen-test+else-not-has+else-id-lt3+else-id-eq3+in-Some-get+then-eq+in_default-ops, then-loop-pen-test+else-not-has+else-id-lt3+else-id-eq3+in-Some-get+then-eq+in-Literal+then-count-room-2, then-loop-pen-test+else-not-has+else-id-lt3+else-id-eq3+in-Some-get+then-eq+in-Literal+else-count-room-2+in_default-write_ops, then-loop-pen-test+else-not-has+else-id-lt3+else-id-eq3+in-Some-get+else-eq+in_default-write_other}

pub loop-pen-init : goal.loop-pen-init
loop-pen-init c = none_so_far c.args.width c.args.definitions.now c.args.most (placed c.args.from) c.args.first c.args.bytes.now

pub overflow_sub-len : goal.overflow_sub-len
overflow_sub-len c = let few : c.in-Some.count ≤ c.loop-pen.room = omega arith in (c.in-Some-short_plain.ensures.takes c.loop-pen.room few).0

pub loop-pen-smaller-in-Some-short_plain : goal.loop-pen-smaller-in-Some-short_plain
loop-pen-smaller-in-Some-short_plain c =
    let l = c.loop-pen in
    let b = placed l.bits in
    let there : 2240 ≤ length b.bits = c.if-not-has.ensures refl in
    let wide : c.args.width ≤ length b.bits = omega (arith, there, c.requires.width) in
    let fields = placed c.after-fields.result in
    let place : fields ≡ beyond b c.args.width = c.after-fields.ensures.rest ∙ ap (beyond b) c.from.ensures in
    let few : c.in-Some.count ≤ l.room = omega arith in
    let end = placed c.after-bits.result in
    let spelling = bits_of c.in-Some-short_plain.len c.in-Some-short_plain.word in
    let takes : TakesPlain l.room c.in-Some.count fields spelling end = subst (TakesPlain l.room c.in-Some.count fields spelling) (sym c.after-bits.ensures.rest) (c.in-Some-short_plain.ensures.takes l.room few).1 in
    let next = plain_next c.args.width c.args.definitions.now l.room b l.pen l.bytes c.put-pen.result c.in-Some.count end c.put-pen.new.bytes c.fixed-id.result spelling fields c.if-id-eq3.true c.fixed-id.ensures place few takes c.put-pen.ensures in
    next_shorter c.args.width c.args.definitions.now l.room b l.pen l.bytes c.put-pen.result c.in-Some.count end c.put-pen.new.bytes wide next

pub loop-pen-preserved-in-Some-short_plain : goal.loop-pen-preserved-in-Some-short_plain
loop-pen-preserved-in-Some-short_plain c =
    let l = c.loop-pen in
    let b = placed l.bits in
    let there : 2240 ≤ length b.bits = c.if-not-has.ensures refl in
    let wide : c.args.width ≤ length b.bits = omega (arith, there, c.requires.width) in
    let fields = placed c.after-fields.result in
    let place : fields ≡ beyond b c.args.width = c.after-fields.ensures.rest ∙ ap (beyond b) c.from.ensures in
    let few : c.in-Some.count ≤ l.room = omega arith in
    let end = placed c.after-bits.result in
    let spelling = bits_of c.in-Some-short_plain.len c.in-Some-short_plain.word in
    let takes : TakesPlain l.room c.in-Some.count fields spelling end = subst (TakesPlain l.room c.in-Some.count fields spelling) (sym c.after-bits.ensures.rest) (c.in-Some-short_plain.ensures.takes l.room few).1 in
    let next = plain_next c.args.width c.args.definitions.now l.room b l.pen l.bytes c.put-pen.result c.in-Some.count end c.put-pen.new.bytes c.fixed-id.result spelling fields c.if-id-eq3.true c.fixed-id.ensures place few takes c.put-pen.ensures in
    one_so_far c.args.width c.args.definitions.now c.args.most (placed c.args.from) c.args.first c.args.bytes.now l.pen l.room b l.bytes c.put-pen.result c.in-Some.count end c.put-pen.new.bytes l.invariant wide next

pub loop-pen-smaller-then-id-eq3 : goal.loop-pen-smaller-then-id-eq3
loop-pen-smaller-then-id-eq3 c =
    let l = c.loop-pen in
    let b = placed l.bits in
    let there : 2240 ≤ length b.bits = c.if-not-has.ensures refl in
    let wide : c.args.width ≤ length b.bits = omega (arith, there, c.requires.width) in
    let fields = placed c.after-fields.result in
    let place : fields ≡ beyond b c.args.width = c.after-fields.ensures.rest ∙ ap (beyond b) c.from.ensures in
    let few : c.in-Some.count ≤ l.room = omega arith in
    let end = placed c.in-Some-write_plain.after in
    let writes = c.in-Some-write_plain.ensures l.room few in
    let next = plain_next c.args.width c.args.definitions.now l.room b l.pen l.bytes c.in-Some-write_plain.at c.in-Some.count end c.write_plain.new.bytes c.fixed-id.result writes.spelling fields c.if-id-eq3.true c.fixed-id.ensures place few writes.takes writes.puts in
    next_shorter c.args.width c.args.definitions.now l.room b l.pen l.bytes c.in-Some-write_plain.at c.in-Some.count end c.write_plain.new.bytes wide next

pub loop-pen-preserved-then-id-eq3 : goal.loop-pen-preserved-then-id-eq3
loop-pen-preserved-then-id-eq3 c =
    let l = c.loop-pen in
    let b = placed l.bits in
    let there : 2240 ≤ length b.bits = c.if-not-has.ensures refl in
    let wide : c.args.width ≤ length b.bits = omega (arith, there, c.requires.width) in
    let fields = placed c.after-fields.result in
    let place : fields ≡ beyond b c.args.width = c.after-fields.ensures.rest ∙ ap (beyond b) c.from.ensures in
    let few : c.in-Some.count ≤ l.room = omega arith in
    let end = placed c.in-Some-write_plain.after in
    let writes = c.in-Some-write_plain.ensures l.room few in
    let next = plain_next c.args.width c.args.definitions.now l.room b l.pen l.bytes c.in-Some-write_plain.at c.in-Some.count end c.write_plain.new.bytes c.fixed-id.result writes.spelling fields c.if-id-eq3.true c.fixed-id.ensures place few writes.takes writes.puts in
    one_so_far c.args.width c.args.definitions.now c.args.most (placed c.args.from) c.args.first c.args.bytes.now l.pen l.room b l.bytes c.in-Some-write_plain.at c.in-Some.count end c.write_plain.new.bytes l.invariant wide next

pub write_ops-requires-clause-singles : goal.write_ops-requires-clause-singles
write_ops-requires-clause-singles c =
    let ops = c.ops-ops.result.now in
    let singles = take (length ops - 1) (drop 1 ops) in
    let which : c.layout.result ≡ layout.Singles = same_true the_type tt c.layout.result layout.Singles (sym c.if-eq.ensures) in
    let has : HasLayout ops layout.Singles = subst (λ (os : List Op). HasLayout os layout.Singles) (sym c.ops-ops.ensures.items) (subst (HasLayout c.in-Some-get.abbrev.now) which c.layout.ensures) in
    let parts : HasSingles ops c.in-Literal.code singles = singles_parts ops c.in-Literal.code has c.in-Literal.is in
    parts.single

pub write_ops-requires-clause-few : goal.write_ops-requires-clause-few
write_ops-requires-clause-few c =
    let ops = c.ops-ops.result.now in
    let singles = take (length ops - 1) (drop 1 ops) in
    let which : c.layout.result ≡ layout.Singles = same_true the_type tt c.layout.result layout.Singles (sym c.if-eq.ensures) in
    let has : HasLayout ops layout.Singles = subst (λ (os : List Op). HasLayout os layout.Singles) (sym c.ops-ops.ensures.items) (subst (HasLayout c.in-Some-get.abbrev.now) which c.layout.ensures) in
    let parts : HasSingles ops c.in-Literal.code singles = singles_parts ops c.in-Literal.code has c.in-Literal.is in
    omega (arith, parts.short)

pub write_ops-requires-clause-there : goal.write_ops-requires-clause-there
write_ops-requires-clause-there c =
    let l = c.loop-pen in
    let b = placed l.bits in
    let there : 2240 ≤ length b.bits = c.if-not-has.ensures refl in
    let wide : c.args.width ≤ length b.bits = omega (arith, there, c.requires.width) in
    let fields = placed c.after-fields.result in
    let place : fields ≡ beyond b c.args.width = c.after-fields.ensures.rest ∙ ap (beyond b) c.from.ensures in
    let left : length fields.bits ≡ length b.bits - c.args.width = ap (λ (x : BufferedBits). length x.bits) place ∙ length-drop c.args.width b.bits in
    let ops = c.ops-ops.result.now in
    let singles = take (length ops - 1) (drop 1 ops) in
    let which : c.layout.result ≡ layout.Singles = same_true the_type tt c.layout.result layout.Singles (sym c.if-eq.ensures) in
    let has : HasLayout ops layout.Singles = subst (λ (os : List Op). HasLayout os layout.Singles) (sym c.ops-ops.ensures.items) (subst (HasLayout c.in-Some-get.abbrev.now) which c.layout.ensures) in
    let parts : HasSingles ops c.in-Literal.code singles = singles_parts ops c.in-Literal.code has c.in-Literal.is in
    omega (arith, parts.short, left, there, c.requires.width)

pub write_ops-requires-clause-room : goal.write_ops-requires-clause-room
write_ops-requires-clause-room c =
    let ops = c.ops-ops.result.now in
    let singles = take (length ops - 1) (drop 1 ops) in
    let which : c.layout.result ≡ layout.Singles = same_true the_type tt c.layout.result layout.Singles (sym c.if-eq.ensures) in
    let has : HasLayout ops layout.Singles = subst (λ (os : List Op). HasLayout os layout.Singles) (sym c.ops-ops.ensures.items) (subst (HasLayout c.in-Some-get.abbrev.now) which c.layout.ensures) in
    let parts : HasSingles ops c.in-Literal.code singles = singles_parts ops c.in-Literal.code has c.in-Literal.is in
    omega (arith, parts.short, c.loop-pen-test.true, c.requires.space, c.loop-pen.auto.bytes, c.put_front-at.ensures.same, c.put_front-at.ensures.ends, front_length c.in-Literal.code (length singles))

pub loop-pen-smaller-then-eq : goal.loop-pen-smaller-then-eq
loop-pen-smaller-then-eq c =
    let l = c.loop-pen in
    let b = placed l.bits in
    let there : 2240 ≤ length b.bits = c.if-not-has.ensures refl in
    let wide : c.args.width ≤ length b.bits = omega (arith, there, c.requires.width) in
    let fields = placed c.after-fields.result in
    let place : fields ≡ beyond b c.args.width = c.after-fields.ensures.rest ∙ ap (beyond b) c.from.ensures in
    let ops = c.ops-ops.result.now in
    let singles = take (length ops - 1) (drop 1 ops) in
    let which : c.layout.result ≡ layout.Singles = same_true the_type tt c.layout.result layout.Singles (sym c.if-eq.ensures) in
    let has : HasLayout ops layout.Singles = subst (λ (os : List Op). HasLayout os layout.Singles) (sym c.ops-ops.ensures.items) (subst (HasLayout c.in-Some-get.abbrev.now) which c.layout.ensures) in
    let parts : HasSingles ops c.in-Literal.code singles = singles_parts ops c.in-Literal.code has c.in-Literal.is in
    let found : slice_get c.args.definitions.now (c.fixed-id.result - 4) ≡ Some c.in-Some-get.abbrev.now = c.in-Some-get.ensures in
    let most : 4 ≤ c.fixed-id.result = omega arith in
    let these : slice_get c.args.definitions.now (c.fixed-id.result - 4) ≡ Some ops = found ∙ ap Some (sym c.ops-ops.ensures.items) in
    let few : length singles ≤ l.room = c.if-count-room-2.false in
    let end = placed c.in-Some-write_ops.after in
    let next = singles_next c.args.width c.args.definitions.now l.room b l.pen l.bytes c.put_front-at.result c.put_front-at.new.bytes c.in-Some-write_ops.at (length singles) end c.write_ops.new.bytes c.fixed-id.result c.in-Literal.code ops singles fields most c.fixed-id.ensures place these parts.shape parts.is parts.single refl few c.put_front-at.ensures c.in-Some-write_ops.ensures.writes in
    next_shorter c.args.width c.args.definitions.now l.room b l.pen l.bytes c.in-Some-write_ops.at (length singles) end c.write_ops.new.bytes wide next

pub loop-pen-preserved-then-eq : goal.loop-pen-preserved-then-eq
loop-pen-preserved-then-eq c =
    let l = c.loop-pen in
    let b = placed l.bits in
    let there : 2240 ≤ length b.bits = c.if-not-has.ensures refl in
    let wide : c.args.width ≤ length b.bits = omega (arith, there, c.requires.width) in
    let fields = placed c.after-fields.result in
    let place : fields ≡ beyond b c.args.width = c.after-fields.ensures.rest ∙ ap (beyond b) c.from.ensures in
    let ops = c.ops-ops.result.now in
    let singles = take (length ops - 1) (drop 1 ops) in
    let which : c.layout.result ≡ layout.Singles = same_true the_type tt c.layout.result layout.Singles (sym c.if-eq.ensures) in
    let has : HasLayout ops layout.Singles = subst (λ (os : List Op). HasLayout os layout.Singles) (sym c.ops-ops.ensures.items) (subst (HasLayout c.in-Some-get.abbrev.now) which c.layout.ensures) in
    let parts : HasSingles ops c.in-Literal.code singles = singles_parts ops c.in-Literal.code has c.in-Literal.is in
    let found : slice_get c.args.definitions.now (c.fixed-id.result - 4) ≡ Some c.in-Some-get.abbrev.now = c.in-Some-get.ensures in
    let most : 4 ≤ c.fixed-id.result = omega arith in
    let these : slice_get c.args.definitions.now (c.fixed-id.result - 4) ≡ Some ops = found ∙ ap Some (sym c.ops-ops.ensures.items) in
    let few : length singles ≤ l.room = c.if-count-room-2.false in
    let end = placed c.in-Some-write_ops.after in
    let next = singles_next c.args.width c.args.definitions.now l.room b l.pen l.bytes c.put_front-at.result c.put_front-at.new.bytes c.in-Some-write_ops.at (length singles) end c.write_ops.new.bytes c.fixed-id.result c.in-Literal.code ops singles fields most c.fixed-id.ensures place these parts.shape parts.is parts.single refl few c.put_front-at.ensures c.in-Some-write_ops.ensures.writes in
    one_so_far c.args.width c.args.definitions.now c.args.most (placed c.args.from) c.args.first c.args.bytes.now l.pen l.room b l.bytes c.in-Some-write_ops.at (length singles) end c.write_ops.new.bytes l.invariant wide next

pub write_other-requires-clause-there : goal.write_other-requires-clause-there
write_other-requires-clause-there c =
    let l = c.loop-pen in
    let b = placed l.bits in
    let there : 2240 ≤ length b.bits = c.if-not-has.ensures refl in
    let wide : c.args.width ≤ length b.bits = omega (arith, there, c.requires.width) in
    let fields = placed c.after-fields.result in
    let place : fields ≡ beyond b c.args.width = c.after-fields.ensures.rest ∙ ap (beyond b) c.from.ensures in
    let left : length fields.bits ≡ length b.bits - c.args.width = ap (λ (x : BufferedBits). length x.bits) place ∙ length-drop c.args.width b.bits in
    let from = c.parts-start.result.0.now in
    let same = ap (λ (x : BufferedBits). length x.bits) c.parts-start.ensures.bits in
    omega (arith, left, there, same, length_at c.parts-start.result.2 from, c.requires.width)

pub after-bits-requires-in-loop-pen : goal.after-bits-requires-in-loop-pen
after-bits-requires-in-loop-pen c =
    let l = c.loop-pen in
    let b = placed l.bits in
    let writes = subst (λ (x : BufferedBits). WritesRecord (by_definition b.position l.room c.in-Some-get.abbrev.now) x l.pen l.bytes c.in-Some-write_other.record.pen c.in-Some-write_other.record.len c.in-Some-write_other.record.count c.write_other.new.bytes) (sym c.parts-start.ensures.bits) (c.in-Some-write_other.ensures.writes b.position) in
    writes.there

pub loop-pen-smaller : goal.loop-pen-smaller
loop-pen-smaller c =
    let l = c.loop-pen in
    let b = placed l.bits in
    let there : 2240 ≤ length b.bits = c.if-not-has.ensures refl in
    let wide : c.args.width ≤ length b.bits = omega (arith, there, c.requires.width) in
    let fields = placed c.after-fields.result in
    let place : fields ≡ beyond b c.args.width = c.after-fields.ensures.rest ∙ ap (beyond b) c.from.ensures in
    let found : slice_get c.args.definitions.now (c.fixed-id.result - 4) ≡ Some c.in-Some-get.abbrev.now = c.in-Some-get.ensures in
    let most : 4 ≤ c.fixed-id.result = omega arith in
    let writes = subst (λ (x : BufferedBits). WritesRecord (by_definition b.position l.room c.in-Some-get.abbrev.now) x l.pen l.bytes c.in-Some-write_other.record.pen c.in-Some-write_other.record.len c.in-Some-write_other.record.count c.write_other.new.bytes) (sym c.parts-start.ensures.bits) (c.in-Some-write_other.ensures.writes b.position) in
    let end = placed c.after-bits-in-loop-pen.result in
    let next = other_next c.args.width c.args.definitions.now l.room b l.pen l.bytes c.in-Some-write_other.record.pen c.in-Some-write_other.record.len c.in-Some-write_other.record.count end c.write_other.new.bytes c.fixed-id.result c.in-Some-get.abbrev.now fields most c.fixed-id.ensures place c.after-bits-in-loop-pen.ensures.rest found c.in-Some-write_other.ensures.few writes in
    next_shorter c.args.width c.args.definitions.now l.room b l.pen l.bytes c.in-Some-write_other.record.pen c.in-Some-write_other.record.count end c.write_other.new.bytes wide next

pub loop-pen-preserved : goal.loop-pen-preserved
loop-pen-preserved c =
    let l = c.loop-pen in
    let b = placed l.bits in
    let there : 2240 ≤ length b.bits = c.if-not-has.ensures refl in
    let wide : c.args.width ≤ length b.bits = omega (arith, there, c.requires.width) in
    let fields = placed c.after-fields.result in
    let place : fields ≡ beyond b c.args.width = c.after-fields.ensures.rest ∙ ap (beyond b) c.from.ensures in
    let found : slice_get c.args.definitions.now (c.fixed-id.result - 4) ≡ Some c.in-Some-get.abbrev.now = c.in-Some-get.ensures in
    let most : 4 ≤ c.fixed-id.result = omega arith in
    let writes = subst (λ (x : BufferedBits). WritesRecord (by_definition b.position l.room c.in-Some-get.abbrev.now) x l.pen l.bytes c.in-Some-write_other.record.pen c.in-Some-write_other.record.len c.in-Some-write_other.record.count c.write_other.new.bytes) (sym c.parts-start.ensures.bits) (c.in-Some-write_other.ensures.writes b.position) in
    let end = placed c.after-bits-in-loop-pen.result in
    let next = other_next c.args.width c.args.definitions.now l.room b l.pen l.bytes c.in-Some-write_other.record.pen c.in-Some-write_other.record.len c.in-Some-write_other.record.count end c.write_other.new.bytes c.fixed-id.result c.in-Some-get.abbrev.now fields most c.fixed-id.ensures place c.after-bits-in-loop-pen.ensures.rest found c.in-Some-write_other.ensures.few writes in
    one_so_far c.args.width c.args.definitions.now c.args.most (placed c.args.from) c.args.first c.args.bytes.now l.pen l.room b l.bytes c.in-Some-write_other.record.pen c.in-Some-write_other.record.count end c.write_other.new.bytes l.invariant wide next

pub returns-clause-writes : goal.returns-clause-writes
returns-clause-writes c =
    let l = c.loop-pen in
    let with_bytes : (a b : List ℕ) → a ≡ b → WritesRun c.args.width c.args.definitions.now c.args.most (placed c.args.from) c.args.first c.args.bytes.now l.pen l.room (placed l.bits) b → WritesRun c.args.width c.args.definitions.now c.args.most (placed c.args.from) c.args.first c.args.bytes.now l.pen l.room (placed l.bits) a = λ a b is run. subst (WritesRun c.args.width c.args.definitions.now c.args.most (placed c.args.from) c.args.first c.args.bytes.now l.pen l.room (placed l.bits)) (sym is) run in
    elim c.loop-pen-test.branch [
      | else-loop-pen-test w ↦ with_bytes c.loop-pen-test.bytes l.bytes w.bytes-is l.invariant.runs
      | then-loop-pen-test+then-not-has w ↦ with_bytes c.loop-pen-test.bytes l.bytes w.bytes-is l.invariant.runs
      | then-loop-pen-test+else-not-has+then-id-lt3 w ↦ with_bytes c.loop-pen-test.bytes l.bytes w.bytes-is l.invariant.runs
      | then-loop-pen-test+else-not-has+else-id-lt3+then-id-eq3+in_default w ↦ with_bytes c.loop-pen-test.bytes l.bytes w.bytes-is l.invariant.runs
      | then-loop-pen-test+else-not-has+else-id-lt3+then-id-eq3+in-Some+then-count-room w ↦ with_bytes c.loop-pen-test.bytes l.bytes w.bytes-is l.invariant.runs
      | then-loop-pen-test+else-not-has+else-id-lt3+then-id-eq3+in-Some+else-count-room+else-count-gt-MOST_VALUES+then-count-bytes w ↦ with_bytes c.loop-pen-test.bytes l.bytes w.bytes-is l.invariant.runs
      | then-loop-pen-test+else-not-has+else-id-lt3+then-id-eq3+in-Some+else-count-room+else-count-gt-MOST_VALUES+else-count-bytes+in_default-write_plain w ↦ let keeps : KeepsFront l.pen l.bytes w.write_plain.new.bytes = w.in_default-write_plain.ensures w.in-Some.count (let same : w.in-Some.count ≤ w.in-Some.count = omega arith in same) in with_bytes c.loop-pen-test.bytes w.take_back.new.bytes w.bytes-is (still_written c.args.width c.args.definitions.now c.args.most (placed c.args.from) c.args.first c.args.bytes.now l.pen l.room (placed l.bits) l.bytes w.write_plain.new.bytes w.take_back.new.bytes l.invariant.runs keeps w.take_back.ensures)
      | then-loop-pen-test+else-not-has+else-id-lt3+else-id-eq3+in_default-get w ↦ with_bytes c.loop-pen-test.bytes l.bytes w.bytes-is l.invariant.runs
      | then-loop-pen-test+else-not-has+else-id-lt3+else-id-eq3+in-Some-get+then-eq+in_default-ops w ↦ with_bytes c.loop-pen-test.bytes l.bytes w.bytes-is l.invariant.runs
      | then-loop-pen-test+else-not-has+else-id-lt3+else-id-eq3+in-Some-get+then-eq+in-Literal+then-count-room-2 w ↦ with_bytes c.loop-pen-test.bytes l.bytes w.bytes-is l.invariant.runs
      | then-loop-pen-test+else-not-has+else-id-lt3+else-id-eq3+in-Some-get+then-eq+in-Literal+else-count-room-2+in_default-write_ops w ↦ let ops = w.ops-ops.result.now in let front = bits_of 2 3 ++ (shortest 6 w.in-Literal.code ++ shortest 6 (length (take (length ops - 1) (drop 1 ops)))) in let keeps : KeepsFront w.put_front-at.result w.put_front-at.new.bytes w.write_ops.new.bytes = w.in_default-write_ops.ensures.writes in with_bytes c.loop-pen-test.bytes w.take_back-in_default-write_ops.new.bytes w.bytes-is (still_written c.args.width c.args.definitions.now c.args.most (placed c.args.from) c.args.first c.args.bytes.now l.pen l.room (placed l.bits) l.bytes w.write_ops.new.bytes w.take_back-in_default-write_ops.new.bytes l.invariant.runs (keeps_then front l.pen w.put_front-at.result l.bytes w.put_front-at.new.bytes w.write_ops.new.bytes w.put_front-at.ensures keeps) w.take_back-in_default-write_ops.ensures)
      | then-loop-pen-test+else-not-has+else-id-lt3+else-id-eq3+in-Some-get+else-eq+in_default-write_other w ↦ let keeps : KeepsFront l.pen l.bytes w.write_other.new.bytes = w.in_default-write_other.ensures.writes 0 in with_bytes c.loop-pen-test.bytes w.take_back-in_default-write_other.new.bytes w.bytes-is (still_written c.args.width c.args.definitions.now c.args.most (placed c.args.from) c.args.first c.args.bytes.now l.pen l.room (placed l.bits) l.bytes w.write_other.new.bytes w.take_back-in_default-write_other.new.bytes l.invariant.runs keeps w.take_back-in_default-write_other.ensures)
    ]

not_odd : end.Odd ≡ end.Full → ⊥
not_odd is = cc

not_over : end.Over ≡ end.Full → ⊥
not_over is = cc

pub returns-clause-moves : goal.returns-clause-moves
returns-clause-moves c =
    λ full some. (elim c.loop-pen-test.branch [
      | else-loop-pen-test w ↦ c.loop-pen.invariant.moved (omega (arith, some, w.loop-pen-test.false))
      | then-loop-pen-test+then-not-has w ↦ absurd (not_odd (sym w.end-is ∙ full))
      | then-loop-pen-test+else-not-has+then-id-lt3 w ↦ absurd (not_over (sym w.end-is ∙ full))
      | then-loop-pen-test+else-not-has+else-id-lt3+then-id-eq3+in_default w ↦ absurd (not_odd (sym w.end-is ∙ full))
      | then-loop-pen-test+else-not-has+else-id-lt3+then-id-eq3+in-Some+then-count-room w ↦ absurd (not_odd (sym w.end-is ∙ full))
      | then-loop-pen-test+else-not-has+else-id-lt3+then-id-eq3+in-Some+else-count-room+else-count-gt-MOST_VALUES+then-count-bytes w ↦ absurd (not_odd (sym w.end-is ∙ full))
      | then-loop-pen-test+else-not-has+else-id-lt3+then-id-eq3+in-Some+else-count-room+else-count-gt-MOST_VALUES+else-count-bytes+in_default-write_plain w ↦ absurd (not_odd (sym w.end-is ∙ full))
      | then-loop-pen-test+else-not-has+else-id-lt3+else-id-eq3+in_default-get w ↦ absurd (not_odd (sym w.end-is ∙ full))
      | then-loop-pen-test+else-not-has+else-id-lt3+else-id-eq3+in-Some-get+then-eq+in_default-ops w ↦ absurd (not_odd (sym w.end-is ∙ full))
      | then-loop-pen-test+else-not-has+else-id-lt3+else-id-eq3+in-Some-get+then-eq+in-Literal+then-count-room-2 w ↦ absurd (not_odd (sym w.end-is ∙ full))
      | then-loop-pen-test+else-not-has+else-id-lt3+else-id-eq3+in-Some-get+then-eq+in-Literal+else-count-room-2+in_default-write_ops w ↦ absurd (not_odd (sym w.end-is ∙ full))
      | then-loop-pen-test+else-not-has+else-id-lt3+else-id-eq3+in-Some-get+else-eq+in_default-write_other w ↦ absurd (not_odd (sym w.end-is ∙ full))
    ])
