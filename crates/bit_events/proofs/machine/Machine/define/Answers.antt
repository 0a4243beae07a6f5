use Rattle.std.proofs.Common.{◌-◌, IsSome, [], vec_len, arith, refl}
use Rattle.std.specs.Vec.{with_item}
use Rattle.std.specs.Prelude.{unwrap_or}
use Rattle.std.proofs.lemmas.Result.{err_from_is_err_and}
use Rattle.bit_events.specs.FrameView.{newest_in}
use Rattle.bit_events.specs.declared.machine.Machine.{Machine}
use Rattle.bit_events.specs.MachineView.{newest, handed_shown}
use Rattle.bit_events.proofs.Stepping.{newest_set, definition_held, held_define_missed, held_define_took}
use Rattle.bit_events.proofs.machine.Machine.define.Goals as goal

pub returns-in_err-after-clause-takes : goal.returns-in_err-after-clause-takes
returns-in_err-after-clause-takes g c = λ list f outer split.
    let p = err_from_is_err_and c.from_residual.result c.from_residual.ensures.1 in
    rw (p.1, p.2) (held_define_missed c.args.limits.now.shapes c.args.self.now.frames.items (vec_len c.args.self.now.frames - 1) c.in-Some.frame.now f outer c.args.first (handed_shown c.args.self.now) c.args.reader.now c.in_err-after.field-0.0 c.define.new.reader (omega (arith, c.requires.some, c.args.self.now.frames.ok.0)) c.in-Some.ensures.value split (rw c.shapes.ensures at (c.in_err-after.ensures.takes (handed_shown c.args.self.now))))

pub returns-clause-takes : goal.returns-clause-takes
returns-clause-takes g c = λ list f outer split.
    rw (newest_set c.args.self.now.frames.items (vec_len c.args.self.now.frames - 1) c.define.new.frame (omega (arith, c.requires.some, c.args.self.now.frames.ok.0))) (held_define_took c.args.limits.now.shapes c.args.self.now.frames.items (vec_len c.args.self.now.frames - 1) c.in-Some.frame.now c.define.new.frame f outer c.args.first (handed_shown c.args.self.now) c.args.reader.now (record { ops = unwrap_or (newest_in c.define.new.frame) []; first = c.args.first; after = c.in_ok-after.after }) c.define.new.reader (omega (arith, c.requires.some, c.args.self.now.frames.ok.0)) c.in-Some.ensures.value split c.in_ok-after.ensures.head (rw c.shapes.ensures at (c.in_ok-after.ensures.takes (handed_shown c.args.self.now))))

pub returns-clause-leaves : goal.returns-clause-leaves
returns-clause-leaves g c = λ deepest list.
    let new : Machine = record { frames = with_item c.args.self.now.frames (vec_len c.args.self.now.frames - 1) c.define.new.frame; table = c.args.self.now.table; used = c.args.self.now.used; planned = c.args.self.now.planned; made = c.args.self.now.made } in
    let some : IsSome (newest new.frames.items) = rw (newest_set c.args.self.now.frames.items (vec_len c.args.self.now.frames - 1) c.define.new.frame (omega (arith, c.requires.some, c.args.self.now.frames.ok.0))) c.in_ok-after.ensures.newest in
    record {
      stands = c.requires.some;
      opens = refl;
      forward = (c.in_ok-after.ensures.takes (handed_shown c.args.self.now)).forward;
      aligned = λ none. absurd (omega (arith, c.requires.some, none));
      holds = definition_held new list c.args.first c.in_ok-after.after some;
    }
