use Rattle.std.proofs.Common.{◌≡◌, ◌-◌, ◌+◌, ◌^◌, ◌≤◌, ℕ, length, min, vec_len, arith, refl, sym}
use Rattle.std.proofs.lemmas.Result.{err_from_is_err_and}
use Rattle.bit_abbrev.specs.Ready.{table_of}
use Rattle.bit_events.specs.MachineView.{handed_shown}
use Rattle.bit_events.proofs.Stepping.{held_record_missed, held_record_took}
use Rattle.bit_events.proofs.machine.Machine.note.Goals as goal

-- a number of values that fits the room is counted exactly
counted : (count few many : ℕ) → count ≡ min few (2 ^ 64 - 1) → few ≤ 4294967295 → count ≡ min many (2 ^ 64 - 1) → count ≡ many
counted count few many is fits same = omega arith

pub overflow_add-self : goal.overflow_add-self
overflow_add-self g c =
    let few = c.in_ok-code.ensures.few in
    omega (arith, c.count-count.ensures few.0 few.1, few.2, c.room-room.ensures.capped, c.room-room.ensures.room)

pub returns-in_err-code-clause-takes : goal.returns-in_err-code-clause-takes
returns-in_err-code-clause-takes g c =
    let read = c.in_err-code.ensures.takes in
    let p = err_from_is_err_and c.from_residual.result c.from_residual.ensures.1 in
    let room = sym c.room-room.ensures.room in (
      read.0,
      read.1,
      λ f outer split.
          rw (p.1, p.2) (held_record_missed c.args.limits.now.values c.args.self.now.frames.items (vec_len c.args.self.now.frames - 1) c.in-Some.frame.now f outer c.args.first c.args.id (handed_shown c.args.self.now) c.args.reader.now c.in_err-code.field-0.0 c.record_after.new.reader (omega (arith, c.requires.some, c.args.self.now.frames.ok.0)) c.in-Some.ensures.value split (read.2 c.args.limits.now.values (handed_shown c.args.self.now) room)),
    )

pub returns-clause-takes : goal.returns-clause-takes
returns-clause-takes g c =
    let read = c.in_ok-code.ensures.takes in
    let few = c.in_ok-code.ensures.few in
    let room = sym c.room-room.ensures.room in
    let many : c.count-count.result ≡ length read.0 = counted c.count-count.result (length few.0) (length read.0) (c.count-count.ensures few.0 few.1) (omega (arith, few.2, c.room-room.ensures.capped, c.room-room.ensures.room)) (c.count-count.ensures read.0 read.1) in (
      read.0,
      read.1,
      λ f outer split.
          held_record_took c.args.limits.now.values c.args.self.now.frames.items (vec_len c.args.self.now.frames - 1) c.in-Some.frame.now c.record_after.new.frame f outer c.args.first c.args.id (handed_shown c.args.self.now) (record { table = table_of c.args.self.now.table; used = c.args.self.now.used + length read.0 }) (record { table = table_of c.args.self.now.table; used = c.args.self.now.used + c.count-count.result }) c.args.reader.now (record { abbreviation = c.args.id; code = c.in_ok-code.code; values = read.0; first = c.args.first; after = c.in_ok-code.after }) c.record_after.new.reader (omega (arith, c.requires.some, c.args.self.now.frames.ok.0)) c.in-Some.ensures.value split c.in_ok-code.ensures.head (rw many refl) (read.2 c.args.limits.now.values (handed_shown c.args.self.now) room),
    )

pub returns-clause-leaves : goal.returns-clause-leaves
returns-clause-leaves g c = λ deepest list.
    let room = sym c.room-room.ensures.room in
    record {
      stands = c.requires.some;
      opens = refl;
      forward = (c.in_ok-code.ensures.takes.2 c.args.limits.now.values (handed_shown c.args.self.now) room).forward;
      aligned = λ none. absurd (omega (arith, c.requires.some, none));
      holds = tt;
    }
