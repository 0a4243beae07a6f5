use Rattle.std.proofs.Common.{◌≡◌, ◌^◌, ℕ, take, length, min, ap, ◌∙◌, sym, arith}
use Rattle.std.proofs.lemmas.List.{length-take, take_all}
use Rattle.bit_fields.specs.Expected.{Expected}
use Rattle.bit_fields.proofs.Expecting.{front_came}
use Rattle.bit_fields.proofs.expected.ExpectedValues.front_of.Goals as goal

pub returns-clause-front : goal.returns-clause-front
returns-clause-front c = λ list had.
    let s = c.self.inside in
    let len : length c.args.self.now.others ≡ min s.expected (length s.others.now) = ap (λ (e : Expected). length e.others) (sym c.self.view_is) ∙ length-take s.expected s.others.now in
    front_came c.args.self.now c.args.others.now list (omega (arith, len, c.self.invariant.there, c.if-self-len.false, c.len.ensures)) had ∙ ap (λ (n : ℕ). take n c.args.others.now) (sym c.taken.ensures.is)

pub returns-clause-whole : goal.returns-clause-whole
returns-clause-whole c = take_all (2 ^ 62) c.args.others.now (omega (arith, c.self.invariant.few, c.if-self-len.false, c.len.ensures))
