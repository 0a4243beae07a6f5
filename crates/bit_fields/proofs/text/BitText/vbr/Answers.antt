use Rattle.std.proofs.Common.{◌≡◌, ◌≤◌, ◌<◌, ◌^◌, ◌-◌, Bool, List, subst, arith}
use Rattle.std.specs.Prelude.{OnOk}
use Rattle.std.proofs.lemmas.Nat.{one_shl}
use Rattle.bit_fields.proofs.WriterChunks.{spelling_starts, spelling_goes_on, spelling_ends, part_smaller}
use Rattle.bit_fields.proofs.text.BitText.vbr.Goals as goal

pub loop-rest-init : goal.loop-rest-init
loop-rest-init c = spelling_starts c.args.n c.args.value c.args.self.now c.requires.some c.requires.few (omega (arith, c.ranges.value)) c.requires.room

pub loop-rest-smaller : goal.loop-rest-smaller
loop-rest-smaller c =
    let le : 2 ^ (c.args.n - 1) ≤ c.loop-rest.rest = omega (arith, c.loop-rest-test.true, one_shl (c.args.n - 1) 64 (omega arith)) in
    part_smaller c.args.n c.loop-rest.rest c.requires.some le

pub loop-rest-preserved : goal.loop-rest-preserved
loop-rest-preserved c =
    let le : 2 ^ (c.args.n - 1) ≤ c.loop-rest.rest = omega (arith, c.loop-rest-test.true, one_shl (c.args.n - 1) 64 (omega arith)) in
    spelling_goes_on c.args.n c.args.value c.args.self.now c.loop-rest.self c.fixed.new.self c.loop-rest.rest c.requires.some c.requires.few le c.loop-rest.invariant c.in_ok-fixed.ensures

pub returns : goal.returns
returns c =
    let lt : c.loop-rest.rest < 2 ^ (c.args.n - 1) = omega (arith, c.loop-rest-test.false, one_shl (c.args.n - 1) 64 (omega arith)) in
    subst (λ (s : List Bool). OnOk c.fixed-2.result (c.fixed-2.new.self ≡ s)) (spelling_ends c.args.n c.args.value c.args.self.now c.loop-rest.self c.loop-rest.rest c.requires.some lt c.loop-rest.invariant) c.fixed-2.ensures
