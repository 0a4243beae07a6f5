use Rattle.std.proofs.Common.{◌≡◌, ℕ, suc, ◌+◌, ◌<◌, true, List, take, length, sym, subst, arith, rules}
use Rattle.std.proofs.Math.Seq.{take-suc}
use Rattle.bit_grammar.specs.declared.op.Op.{Op}
use Rattle.bit_abbrev.specs.Plans.{Covers}
use Rattle.bit_abbrev.proofs.plan.making.take_front.Goals as goal

pub loop-count-preserved : goal.loop-count-preserved
loop-count-preserved c =
    let ops : List Op = c.args.ops.now in
    let at : ℕ = c.loop-count.count in
    let made : c.add.result ≡ true = search rules in
    let within : at < length ops = omega (arith, c.loop-count-test.true) in
    let next : suc at ≡ at + 1 = omega arith in
    let grown = c.add.ensures.adds made (take at ops) c.loop-count.invariant in
    subst (λ (n : ℕ). Covers (take n ops) c.add.new.self) next (subst (λ (x : List Op). Covers x c.add.new.self) (sym (take-suc ops at _ within)) grown)
