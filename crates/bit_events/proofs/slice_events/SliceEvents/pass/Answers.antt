use Rattle.std.proofs.Common.{ℕ, ◌+◌, ◌-◌, arith}
use Rattle.std.proofs.lemmas.Result.{err_from_is_err_and}
use Rattle.bit_events.proofs.PassedEvents.{passed_none, passed_one, passes_then}
use Rattle.bit_events.proofs.slice_events.SliceEvents.pass.Goals as goal

pub returns-in_err-pass_one-clause-fails : goal.returns-in_err-pass_one-clause-fails
returns-in_err-pass_one-clause-fails c =
    let l = c.loop-left in
    let count : ℕ = c.args.most - l.left + c.pass_records.result in
    let p = err_from_is_err_and c.from_residual.result c.from_residual.ensures.1 in
    rw (p.1, p.2) (count, c.pass_records.new.self, passes_then (c.args.most - l.left) c.pass_records.result count c.args.self.now l.self c.pass_records.new.self (omega arith) l.invariant.passes c.pass_records.ensures.passes, c.in_err-pass_one.ensures)

pub loop-left-preserved-then-left-gt0 : goal.loop-left-preserved-then-left-gt0
loop-left-preserved-then-left-gt0 c =
    let l = c.loop-left in
    let some : ℕ = c.args.most - l.left + c.pass_records.result in
    let before = passes_then (c.args.most - l.left) c.pass_records.result some c.args.self.now l.self c.pass_records.new.self (omega arith) l.invariant.passes c.pass_records.ensures.passes in
    record {
      most = omega (arith, l.invariant.most);
      passes = passes_then some 1 (c.args.most - (l.left - c.pass_records.result - 1)) c.args.self.now c.pass_records.new.self c.pass_one.new.self (omega (arith, l.invariant.most, c.pass_records.ensures.few)) before (passed_one c.pass_records.new.self c.pass_one.new.self c.in_ok-pass_one.field-0 c.if-not-branch.false c.in_ok-pass_one.ensures);
    }

pub loop-left-preserved : goal.loop-left-preserved
loop-left-preserved c =
    let l = c.loop-left in
    record {
      most = omega (arith, l.invariant.most);
      passes = passes_then (c.args.most - l.left) c.pass_records.result (c.args.most - (l.left - c.pass_records.result)) c.args.self.now l.self c.pass_records.new.self (omega (arith, l.invariant.most, c.pass_records.ensures.few)) l.invariant.passes c.pass_records.ensures.passes;
    }

pub returns-then-not-branch-clause-passes : goal.returns-then-not-branch-clause-passes
returns-then-not-branch-clause-passes c =
    let l = c.loop-left in
    let some : ℕ = c.args.most - l.left + c.pass_records.result in
    let before = passes_then (c.args.most - l.left) c.pass_records.result some c.args.self.now l.self c.pass_records.new.self (omega arith) l.invariant.passes c.pass_records.ensures.passes in
    passes_then some 0 (c.args.most - (l.left - c.pass_records.result)) c.args.self.now c.pass_records.new.self c.pass_one.new.self (omega (arith, l.invariant.most, c.pass_records.ensures.few)) before (passed_none c.pass_records.new.self c.pass_one.new.self c.in_ok-pass_one.field-0 c.if-not-branch.true c.in_ok-pass_one.ensures)
