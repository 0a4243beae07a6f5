use Rattle.std.proofs.Common.{◌-◌, ◌^◌, ◌≤◌, [], ◌++◌, Ok, Err, take, inr, arith}
use Rattle.std.specs.Prelude.{max}
use Rattle.std.proofs.lemmas.Result.{err_from_is_err_and}
use Rattle.bit_text.proofs.Sources.{took_none, took_more, taken_fault}
use Rattle.bit_text.proofs.Takings.{takes_both, takes_none}
use Rattle.bit_text.proofs.assembling.take_all.Goals as goal

pub loop-init : goal.loop-init
loop-init g c = record {
  counted = omega arith;
  told = λ now here. ([], took_none (g.S.Source.incoming c.args.source.now), takes_none now c.args.assembler.now here);
}

pub loop-preserved : goal.loop-preserved
loop-preserved g c =
    let i = g.S.Source.incoming c.args.source.now in
    let j = g.S.Source.incoming c.loop.source in
    let k = g.S.Source.incoming c.pull.new.self in
    let into = c.pull.new.into in
    let count = c.in-Ok.count in
    record {
      counted = omega (arith, c.in-Ok.ensures.pulls, c.loop.invariant.counted);
      told = λ now here.
          let t = c.loop.invariant.told now here in
          (t.0 ++ take count into, took_more t.0 into count i j k t.1 c.in-Ok.ensures, takes_both now t.0 (take count into) c.args.assembler.now c.loop.assembler c.take.new.self (Ok tt) t.2 c.in_ok-take-in-Ok.ensures);
    }

pub returns-in_err-take-in-Ok : goal.returns-in_err-take-in-Ok
returns-in_err-take-in-Ok g c =
    let i = g.S.Source.incoming c.args.source.now in
    let j = g.S.Source.incoming c.loop.source in
    let k = g.S.Source.incoming c.pull.new.self in
    let into = c.pull.new.into in
    let count = c.in-Ok.count in
    let fault = c.in_err-take-in-Ok.field-0.0 in
    let failed = err_from_is_err_and c.from_residual.result c.from_residual.ensures.1 in
    rw (failed.1, failed.2) (λ now here.
    let t = c.loop.invariant.told now here in
    taken_fault now (t.0 ++ take count into) i k c.args.assembler.now c.take.new.self fault (took_more t.0 into count i j k t.1 c.in-Ok.ensures)
    (takes_both now t.0 (take count into) c.args.assembler.now c.loop.assembler c.take.new.self (Err fault) t.2 c.in_err-take-in-Ok.ensures))

pub returns : goal.returns
returns g c = λ now here.
    let i = g.S.Source.incoming c.loop.source in
    inr (let worn : 2 ^ 64 - 1 ≤ max i.pulls i.failures = omega (arith, c.loop.invariant.counted, c.loop-test.false) in worn)
