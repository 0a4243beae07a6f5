use Rattle.std.proofs.Common.{◌≡◌, ◌-◌, ◌+◌, ◌≤◌, ◌^◌, ℕ, [], length, min, arith, refl, sym, ap, subst, ◌∙◌, None, Some, Option, is_some, false}
use Rattle.std.proofs.lemmas.Result.{err_from_is_err_and}
use Rattle.bit_grammar.specs.Machine as machine
use Rattle.bit_grammar.specs.Machine.{Event, scope_of}
use Rattle.bit_fields.specs.Buffered.{BufferedBits, Reads}
use Rattle.bit_fields.proofs.BufferedReads.{nothing_then, shown_caught_up, shown_not_caught_up}
use Rattle.bit_events.specs.MachineView.{handed_shown, record_rule, machine_shown, record_of}
use Rattle.bit_events.proofs.Runs.{held_seen, nothing_missed}
use Rattle.bit_events.proofs.Stepping.{left_later}
use Rattle.bit_events.proofs.machine.Machine.record_from_buffer.Goals as goal

-- a number of values that fits the room is counted exactly
counted : (count few many : ℕ) → count ≡ min few (2 ^ 64 - 1) → few ≤ 4294967295 → count ≡ min many (2 ^ 64 - 1) → count ≡ many
counted count few many is fits same = omega arith

not_some : {A : Type 0} (o : Option A) → is_some o ≡ false → o ≡ None
not_some None h = refl
not_some (Some x) h = absurd cc

pub returns-in_err-buffered_parts-clause-takes : goal.returns-in_err-buffered_parts-clause-takes
returns-in_err-buffered_parts-clause-takes g c =
    let p = err_from_is_err_and c.from_residual.result c.from_residual.ensures.1 in
    let shows = rw c.in_err-buffered_parts.was at c.buffered_parts.follows.holds-at-none in
    ([], c.truncate.ensures [] c.requires.took.0 c.requires.took.1 refl, λ f outer split. rw (p.1, p.2) (nothing_missed (record_rule c.args.limits.now.values f outer c.args.first c.args.id (handed_shown c.args.self.now)) c.args.reader.now c.in_err-buffered_parts.field-0.0 c.buffered_parts.follows.lender-at-none shows))

pub buffered_record-requires-clause-none : goal.buffered_record-requires-clause-none
buffered_record-requires-clause-none g c = c.truncate.ensures [] c.requires.took.0 c.requires.took.1 refl

pub returns-in_default-buffered_record-clause-takes : goal.returns-in_default-buffered_record-clause-takes
returns-in_default-buffered_record-clause-takes g c =
    let noted = c.note-in_default-buffered_record.ensures.takes in
    let b = c.buffered_parts.follows.lender-at-none in
    let shows = rw c.in_ok-buffered_parts.was at c.buffered_parts.follows.holds-at-none in (
      noted.0,
      noted.1,
      λ f outer split. nothing_then (record_rule c.args.limits.now.values f outer c.args.first c.args.id (handed_shown c.args.self.now)) c.args.reader.now b _ c.note-in_default-buffered_record.new.reader shows.nothing (noted.2 f outer split),
    )

pub returns-in_default-buffered_record-clause-leaves : goal.returns-in_default-buffered_record-clause-leaves
returns-in_default-buffered_record-clause-leaves g c = λ deepest list.
    let shows = rw c.in_ok-buffered_parts.was at c.buffered_parts.follows.holds-at-none in
    left_later deepest c.args.self.now c.args.reader.now c.buffered_parts.follows.lender-at-none (record_of c.args.id list c.args.first) c.note-in_default-buffered_record.new.self c.note-in_default-buffered_record.new.reader c.note-in_default-buffered_record.result shows.nothing.forward (c.note-in_default-buffered_record.ensures.leaves deepest list)

pub overflow_sub-after : goal.overflow_sub-after
overflow_sub-after g c =
    let reads = c.in-Some-buffered_record.ensures.reads.2 in
    omega (arith, reads.3.forward, reads.1, c.position-start.ensures)

pub returns-in_err-catch_up-clause-takes : goal.returns-in_err-catch_up-clause-takes
returns-in_err-catch_up-clause-takes g c =
    let p = err_from_is_err_and c.from_residual-in_err-catch_up.result c.from_residual-in_err-catch_up.ensures.1 in
    let m = c.args.self.now in
    let k = length m.frames.items - 1 in
    let h = c.in-Some-buffered_record.ensures.reads in
    let shows = rw c.in_ok-buffered_parts.was at c.buffered_parts.follows.holds-at-none in
    let item = rw c.deref.ensures.value at c.in-Some.ensures.item.1 in
    let none : c.in-Some.frame.now.info ≡ None = not_some c.in-Some.frame.now.info (sym c.is_some.ensures ∙ c.if-is_some.false) in
    let start : c.position-start.result ≡ c.in_ok-buffered_parts.field-0.position = c.position-start.ensures ∙ ap (λ (a : BufferedBits). a.position) c.new-buffered.ensures in (
      h.0,
      h.1,
      λ f outer split.
          let rule = record_rule c.args.limits.now.values f outer c.args.first c.args.id (handed_shown m) in
          let value : Event × machine.Machine = (record_of c.args.id h.0 c.args.first (c.in-Some-buffered_record.code, c.in-Some-buffered_record.after), machine_shown (record m { used = m.used + length h.0 })) in
          let seen : Reads rule c.new-buffered.result value h.2.0 = held_seen c.args.limits.now.values m k c.in-Some.frame.now f outer c.room-room.result c.args.first c.args.id c.in-Some-buffered_record.code h.0 c.in-Some-buffered_record.after (m.used + length h.0) c.new-buffered.result (omega (arith, c.requires.some, m.frames.ok.0)) item split none (sym c.room-room.ensures.room) refl h.2 in
          rw (p.1, p.2) (shown_not_caught_up rule c.args.reader.now c.in_ok-buffered_parts.field-0 value h.2.0 c.buffered_parts.follows.lender-at-none c.in_err-catch_up.field-0.0 c.catch_up.new.self rule shows (subst (λ (a : BufferedBits). Reads rule a value h.2.0) c.new-buffered.ensures seen) (rw (h.2.1, sym start) c.in_err-catch_up.ensures.takes)),
    )

pub returns-clause-takes : goal.returns-clause-takes
returns-clause-takes g c =
    let m = c.args.self.now in
    let k = length m.frames.items - 1 in
    let h = c.in-Some-buffered_record.ensures.reads in
    let few = h.2.2 in
    let shows = rw c.in_ok-buffered_parts.was at c.buffered_parts.follows.holds-at-none in
    let item = rw c.deref.ensures.value at c.in-Some.ensures.item.1 in
    let none : c.in-Some.frame.now.info ≡ None = not_some c.in-Some.frame.now.info (sym c.is_some.ensures ∙ c.if-is_some.false) in
    let start : c.position-start.result ≡ c.in_ok-buffered_parts.field-0.position = c.position-start.ensures ∙ ap (λ (a : BufferedBits). a.position) c.new-buffered.ensures in
    let many : c.count-count.result ≡ length h.0 = counted c.count-count.result (length h.0) (length h.0) (c.count-count.ensures h.0 h.1) (omega (arith, few, c.room-room.ensures.capped, c.room-room.ensures.room)) (c.count-count.ensures h.0 h.1) in (
      h.0,
      h.1,
      λ f outer split.
          let rule = record_rule c.args.limits.now.values f outer c.args.first c.args.id (handed_shown m) in
          let value : Event × machine.Machine = (record_of c.args.id h.0 c.args.first (c.in-Some-buffered_record.code, c.in-Some-buffered_record.after), machine_shown (record m { used = m.used + c.count-count.result })) in
          let seen : Reads rule c.new-buffered.result value h.2.0 = held_seen c.args.limits.now.values m k c.in-Some.frame.now f outer c.room-room.result c.args.first c.args.id c.in-Some-buffered_record.code h.0 c.in-Some-buffered_record.after (m.used + c.count-count.result) c.new-buffered.result (omega (arith, c.requires.some, m.frames.ok.0)) item split none (sym c.room-room.ensures.room) (omega (arith, many)) h.2 in
          shown_caught_up rule c.args.reader.now c.in_ok-buffered_parts.field-0 value h.2.0 c.buffered_parts.follows.lender-at-none c.catch_up.new.self shows (subst (λ (a : BufferedBits). Reads rule a value h.2.0) c.new-buffered.ensures seen) (rw (h.2.1, sym start) c.in_ok-catch_up.ensures.takes),
    )
