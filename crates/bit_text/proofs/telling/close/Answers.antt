use Rattle.std.proofs.Common.{arith}
use Rattle.bit_text.proofs.Tellings.{none_ended, one_ended, all_ended}
use Rattle.bit_text.proofs.telling.close.Goals as goal

pub loop-init : goal.loop-init
loop-init c = record {
  told = λ limits magic calls was. none_ended limits magic calls c.args.level c.args.writer.now was;
  start = λ h. omega arith;
}

pub loop-preserved : goal.loop-preserved
loop-preserved c = record {
  told = λ limits magic calls was. one_ended limits magic calls c.args.level c.loop.counter c.loop.writer c.leave.new.self c.loop.auto.counter (c.loop.invariant.told limits magic calls was) c.in-Ok.ensures;
  start = λ h. absurd (omega (arith, h));
}

pub returns-clause-told : goal.returns-clause-told
returns-clause-told c = λ limits magic calls was.
    all_ended limits magic calls c.args.level c.loop.counter c.depth-end.result c.args.writer.now c.loop.writer c.depth-end.ensures c.loop.auto.counter c.loop.auto.counter-end c.loop-test.false c.loop.invariant.start (c.loop.invariant.told limits magic calls was) was
