use Rattle.std.proofs.Common.{◌≡◌, ◌+◌, ◌++◌, ℕ, arith, replicate, subst, take}
use Rattle.bit_scan.proofs.Forwards.{fewer_spaces}
use Rattle.bit_scan.proofs.digits.put_spaces.Goals as goal

pub returns-clause-wrote : goal.returns-clause-wrote
returns-clause-wrote c =
    let end : c.put_text.result ≡ c.args.at + 16 = omega (arith, c.put_text.ensures.end) in
    let wrote = subst (λ (n : ℕ). take n c.put_text.new.bytes ≡ take c.args.at c.args.bytes.now ++ replicate 16 32) end c.put_text.ensures.wrote in
    fewer_spaces c.args.count 16 c.args.at c.args.bytes.now c.put_text.new.bytes (omega (arith, c.if-count-gt16.false)) (omega (arith, c.requires)) wrote
