use Rattle.std.proofs.Common.{List, ℕ, ◌+◌, arith, length-set, set, subst, take}
use Rattle.bit_fields.specs.Pens.{ReadsSixes}
use Rattle.bit_fields.specs.Placed.{bits_at}
use Rattle.bit_fields.specs.PlacedView.{placed}
use Rattle.bit_fields.proofs.BitLaws.{take_whole}
use Rattle.bit_fields.proofs.SixRows.{row_moved, row_more, row_there}
use Rattle.bit_fields.proofs.placed.values.read_sixes.Goals as goal

pub loop-next-preserved-then-ends-eq0 : goal.loop-next-preserved-then-ends-eq0
loop-next-preserved-then-ends-eq0 c =
    let l = c.loop-next in
    let place = c.args.place in
    let from = c.args.from.now in
    let value = c.in-Some.value in
    let to = c.position-at.result in
    let behind = placed c.in-Some.after in
    let values = set l.values l.next value in
    let row = row_more l.next value 64 l.values (bits_at 0 place from) (bits_at 0 l.at from) behind c.loop-next-test.true l.invariant.reads c.in-Some.ensures.takes in
    record {
      within = omega (arith, length-set l.values l.next value, c.loop-next-test.true);
      there = row_there place to (take (l.next + 1) values) from behind c.requires.there c.position-at.ensures row;
      reads = row_moved 0 place to (take (l.next + 1) values) from behind c.position-at.ensures row;
    }

pub returns-clause-reads : goal.returns-clause-reads
returns-clause-reads c = λ some start. (
    let l = c.loop-next in
    let place = c.args.place in
    let from = c.args.from.now in
    let all = subst (λ (xs : List ℕ). ReadsSixes xs (bits_at 0 place from) (bits_at 0 l.at from)) (take_whole l.next l.values c.loop-next-test.false) l.invariant.reads in
    row_moved start place l.at l.values from (bits_at 0 l.at from) (omega arith) all
    )
