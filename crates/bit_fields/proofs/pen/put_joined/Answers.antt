use Rattle.std.proofs.Common.{◌++◌, refl, arith}
use Rattle.bit_grammar.specs.Bits.{bits_of}
use Rattle.bit_fields.proofs.Pens.{puts_as, four_joined}
use Rattle.bit_fields.proofs.pen.put_joined.Goals as goal

pub overflow_add-one-2 : goal.overflow_add-one-2
overflow_add-one-2 c =
    let a = c.args.first in
    let b = c.args.second in
    let d = c.args.third in
    let e = c.args.fourth in
    let all = four_joined a.1 b.1 d.1 e.1 a.0 b.0 d.0 e.0 (bits_of a.1 a.0) (bits_of b.1 b.0) (bits_of d.1 d.0) (bits_of e.1 e.0)
    c.requires.first.0 c.requires.second.0 c.requires.third.0 c.requires.fourth.0 c.requires.first.1 c.requires.second.1 c.requires.third.1 c.requires.fourth.1 refl refl refl refl in
    omega (arith, all.2)

pub put-requires-clause-fits : goal.put-requires-clause-fits
put-requires-clause-fits c =
    let a = c.args.first in
    let b = c.args.second in
    let d = c.args.third in
    let e = c.args.fourth in
    let all = four_joined a.1 b.1 d.1 e.1 a.0 b.0 d.0 e.0 (bits_of a.1 a.0) (bits_of b.1 b.0) (bits_of d.1 d.0) (bits_of e.1 e.0)
    c.requires.first.0 c.requires.second.0 c.requires.third.0 c.requires.fourth.0 c.requires.first.1 c.requires.second.1 c.requires.third.1 c.requires.fourth.1 refl refl refl refl in
    all.0

pub returns : goal.returns
returns c =
    let a = c.args.first in
    let b = c.args.second in
    let d = c.args.third in
    let e = c.args.fourth in
    let all = four_joined a.1 b.1 d.1 e.1 a.0 b.0 d.0 e.0 (bits_of a.1 a.0) (bits_of b.1 b.0) (bits_of d.1 d.0) (bits_of e.1 e.0)
    c.requires.first.0 c.requires.second.0 c.requires.third.0 c.requires.fourth.0 c.requires.first.1 c.requires.second.1 c.requires.third.1 c.requires.fourth.1 refl refl refl refl in
    puts_as _ ((bits_of a.1 a.0 ++ bits_of b.1 b.0) ++ (bits_of d.1 d.0 ++ bits_of e.1 e.0)) c.args.at c.put.result c.args.bytes.now c.put.new.bytes all.1 c.put.ensures
