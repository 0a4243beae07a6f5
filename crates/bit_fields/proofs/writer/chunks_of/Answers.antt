use Rattle.std.proofs.Common.{◌≤◌, ◌<◌, ◌^◌, ◌-◌, ◌∙◌, Bool, List, length, ap, sym, subst, arith}
use Rattle.std.proofs.lemmas.Nat.{one_shl}
use Rattle.std.proofs.lemmas.List.{length-append}
use Rattle.bit_grammar.specs.Bits.{bits_of}
use Rattle.bit_grammar.proofs.Bits.Numbers.{length-bits_of}
use Rattle.bit_fields.proofs.WriterChunks.{Collecting, collecting_starts, collecting_room, collecting_goes_on, collecting_ends, part_smaller}
use Rattle.bit_fields.proofs.writer.chunks_of.Goals as goal

pub loop-left-init : goal.loop-left-init
loop-left-init c = subst (λ (s : List Bool). Collecting c.args.n c.args.value s c.args.value) (sym c.new-chunks.ensures) (collecting_starts c.args.n c.args.value c.requires.some c.requires.few c.requires.short)

pub loop-left-smaller : goal.loop-left-smaller
loop-left-smaller c =
    let le : 2 ^ (c.args.n - 1) ≤ c.loop-left.left = omega (arith, c.loop-left-test.true, one_shl (c.args.n - 1) 64 (omega arith)) in
    part_smaller c.args.n c.loop-left.left c.requires.some le

pub loop-left-preserved : goal.loop-left-preserved
loop-left-preserved c =
    let le : 2 ^ (c.args.n - 1) ≤ c.loop-left.left = omega (arith, c.loop-left-test.true, one_shl (c.args.n - 1) 64 (omega arith)) in
    collecting_goes_on c.args.n c.args.value c.loop-left.chunks c.push.new.self c.loop-left.left c.requires.some c.requires.few le c.loop-left.invariant c.push.ensures

pub returns-clause-spelled : goal.returns-clause-spelled
returns-clause-spelled c =
    let lt : c.loop-left.left < 2 ^ (c.args.n - 1) = omega (arith, c.loop-left-test.false, one_shl (c.args.n - 1) 64 (omega arith)) in
    c.push-2.ensures ∙ collecting_ends c.args.n c.args.value c.loop-left.chunks c.loop-left.left c.requires.some lt c.loop-left.invariant

pub returns-clause-least : goal.returns-clause-least
returns-clause-least c =
    let len = ap length c.push-2.ensures ∙ length-append c.loop-left.chunks (bits_of c.args.n c.loop-left.left) in
    omega (arith, len, length-bits_of c.args.n c.loop-left.left, c.requires.some)

pub returns-clause-most : goal.returns-clause-most
returns-clause-most c =
    let len = ap length c.push-2.ensures ∙ length-append c.loop-left.chunks (bits_of c.args.n c.loop-left.left) in
    omega (arith, len, length-bits_of c.args.n c.loop-left.left, collecting_room c.args.n c.args.value c.loop-left.chunks c.loop-left.left c.loop-left.invariant)
