use Rattle.std.proofs.Common.{◌<◌}
use borrow.Author.Tests.{ltb-true}
use Rattle.std.proofs.Common.{◌≡◌, length, arith, Result, Ok, Err, OnErr, IsErr, vec_len, ◌≤◌}
use Rattle.std.proofs.lemmas.Result.{err_from_is_err_and}
use Rattle.bit_events.specs.HeadView.{head_shown}
use Rattle.bit_events.specs.FrameView.{frames_shown}
use Rattle.bit_events.specs.MachineView.{handed_shown, machine_shown}
use Rattle.bit_events.proofs.Stepping.{length-frames, open_judged, open_missed, open_lost, open_took}
use Rattle.bit_events.proofs.machine.Machine.open_block.Goals as goal

on_err : {A E : Type 0} (r : Result A E) (P : Type 0) → IsErr r → OnErr r P → P
on_err (Ok a) P is h = absurd cc
on_err (Err e) P is h = h

pub returns-in_err-judge-clause-takes : goal.returns-in_err-judge-clause-takes
returns-in_err-judge-clause-takes g c = λ list.
    let p = err_from_is_err_and c.from_residual.result c.from_residual.ensures.1 in
    let count : c.len.result ≡ length (frames_shown c.args.self.now.frames.items) = omega (arith, length-frames c.args.self.now.frames.items, c.len.ensures, c.args.self.now.frames.ok.0) in
    let judged = rw (count, c.depth.ensures.depth) at c.in_err-judge.ensures.takes in
    rw (p.1, p.2) (open_judged c.args.limits.now (frames_shown c.args.self.now.frames.items) c.args.first (handed_shown c.args.self.now) c.args.reader.now c.in_err-judge.field-0.0 c.judge.new.self judged)

pub returns-in_err-head-clause-takes : goal.returns-in_err-head-clause-takes
returns-in_err-head-clause-takes g c = λ list.
    let p = err_from_is_err_and c.from_residual-in_err-head.result c.from_residual-in_err-head.ensures.1 in
    let count : c.len.result ≡ length (frames_shown c.args.self.now.frames.items) = omega (arith, length-frames c.args.self.now.frames.items, c.len.ensures, c.args.self.now.frames.ok.0) in
    let judged = rw (count, c.depth.ensures.depth) at c.in_ok-judge.ensures.takes in
    rw (p.1, p.2) (open_missed c.args.limits.now (frames_shown c.args.self.now.frames.items) c.args.first (handed_shown c.args.self.now) c.args.reader.now c.judge.new.self c.in_err-head.field-0.0 c.block_head.new.reader judged c.in_err-head.ensures)

pub returns-in_err-or_memory_fault-clause-takes : goal.returns-in_err-or_memory_fault-clause-takes
returns-in_err-or_memory_fault-clause-takes g c = λ list.
    let p = err_from_is_err_and c.from_residual-in_err-or_memory_fault.result c.from_residual-in_err-or_memory_fault.ensures.1 in
    let count : c.len.result ≡ length (frames_shown c.args.self.now.frames.items) = omega (arith, length-frames c.args.self.now.frames.items, c.len.ensures, c.args.self.now.frames.ok.0) in
    let judged = rw (count, c.depth.ensures.depth) at c.in_ok-judge.ensures.takes in
    rw (p.1, p.2, c.in_err-or_memory_fault.ensures.err.0) (open_lost c.args.limits.now (frames_shown c.args.self.now.frames.items) c.args.first (handed_shown c.args.self.now) c.args.reader.now c.judge.new.self (head_shown c.in_ok-head.head) c.block_head.new.reader c.or_memory_fault.new.reader judged c.in_ok-head.ensures c.in_err-or_memory_fault.ensures.err.1)

pub returns-clause-takes : goal.returns-clause-takes
returns-clause-takes g c = λ list.
    let count : c.len.result ≡ length (frames_shown c.args.self.now.frames.items) = omega (arith, length-frames c.args.self.now.frames.items, c.len.ensures, c.args.self.now.frames.ok.0) in
    let judged = rw (count, c.depth.ensures.depth) at c.in_ok-judge.ensures.takes in
    let made = rw c.in_ok-or_memory_fault.ensures.ok.0 at c.enter.ensures.made in
    open_took c.args.limits.now (frames_shown c.args.self.now.frames.items) c.args.first (handed_shown c.args.self.now) c.args.reader.now c.judge.new.self (head_shown c.in_ok-head.head) c.block_head.new.reader c.or_memory_fault.new.reader (machine_shown c.enter.new.self) judged c.in_ok-head.ensures c.in_ok-or_memory_fault.ensures.ok.1 made

pub returns-clause-leaves : goal.returns-clause-leaves
returns-clause-leaves g c = λ list.
    let fits : c.len.result < c.depth.result = ltb-true c.len.result c.depth.result c.in_ok-judge.ensures.holds in
    let more = rw c.in_ok-or_memory_fault.ensures.ok.0 at c.enter.ensures.more in
    record {
      stands = omega (arith, fits, c.len.ensures, c.depth.ensures.depth);
      opens = omega (arith, more);
      forward = rw (c.in_ok-or_memory_fault.ensures.ok.1, ← c.in_ok-judge.ensures.same) c.in_ok-head.ensures.forward;
      aligned = λ none. absurd (omega (arith, more, none));
      holds = tt;
    }

pub returns-in_err-or_memory_fault-clause-fewer : goal.returns-in_err-or_memory_fault-clause-fewer
returns-in_err-or_memory_fault-clause-fewer g c =
    let p = err_from_is_err_and c.from_residual-in_err-or_memory_fault.result c.from_residual-in_err-or_memory_fault.ensures.1 in
    rw p.1 (on_err c.enter.result (vec_len c.enter.new.self.frames ≤ vec_len c.args.self.now.frames) c.in_err-or_memory_fault.ensures.lost c.enter.ensures.fewer)
