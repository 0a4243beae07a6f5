use Rattle.std.proofs.Common.{◌≡◌, ◌+◌, ◌<◌, ℕ, length, take, get_or, refl, sym, subst, arith}
use Rattle.bit_fields.specs.Buffered.{BufferedBits, beyond}
use Rattle.bit_fields.specs.PlacedView.{loaded}
use Rattle.bit_abbrev.specs.declared.plan.Pass.{Pass}
use Rattle.bit_abbrev.specs.Plans.{HasPasses}
use Rattle.bit_abbrev.proofs.Covering.{passes_on}
use Rattle.bit_abbrev.proofs.plan.Passes.len.Goals as goal

pub more_len-requires-clause-has : goal.more_len-requires-clause-has
more_len-requires-clause-has c =
    let a : BufferedBits = loaded c.args.fields in
    let passes = c.args.self.now.pass in
    let pass : Pass = get_or passes 1 c.index-self-1.result in
    let len = c.in-Some.len in
    let k = c.in-Some-near.ensures.has in
    let within : 1 < length passes = omega arith in
    let all : len + (pass.skip + k.0) ≡ c.in-Some-near.len = omega (arith, k.1) in
    subst (HasPasses (take 2 passes) a) all (passes_on passes 1 c.index-self-1.result a (beyond a (len + pass.skip)) len pass.skip (pass.skip + k.0) k.0 within refl refl c.in-Some.ensures.has refl k.2)

pub returns-in-Some-near-clause-has : goal.returns-in-Some-near-clause-has
returns-in-Some-near-clause-has c =
    let a : BufferedBits = loaded c.args.fields in
    let passes = c.args.self.now.pass in
    let pass : Pass = get_or passes 1 c.index-self-1.result in
    let len = c.in-Some.len in
    let k = c.in-Some-near.ensures.has in
    let within : 1 < length passes = omega arith in
    let all : len + (pass.skip + k.0) ≡ c.in-Some-near.len = omega (arith, k.1) in
    let two = subst (HasPasses (take 2 passes) a) all (passes_on passes 1 c.index-self-1.result a (beyond a (len + pass.skip)) len pass.skip (pass.skip + k.0) k.0 within refl refl c.in-Some.ensures.has refl k.2) in
    (c.in-Some-near.len, omega (arith, c.from-after.ensures), subst (λ (n : ℕ). HasPasses (take n passes) a c.in-Some-near.len) (sym c.if-self-eq2.true) two)
