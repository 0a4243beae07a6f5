use Rattle.std.proofs.Common.{◌≡◌, sym, ap, ◌∙◌, length, take, arith}
use Rattle.std.proofs.lemmas.List.{take_all}
use Rattle.bit_fields.specs.Wide.{AreBefore, marks, numbers_of}
use Rattle.bit_fields.proofs.Wides.{kept_first, length_numbers}
use Rattle.bit_fields.proofs.wide.WideNumbers.truncate.Goals as goal

pub returns-then-count-len : goal.returns-then-count-len
returns-then-count-len c = sym (take_all c.args.count c.args.self.now (omega (arith, ap length c.self.view_is, length_numbers c.self.inside.units.items c.self.inside.great.items)))

kept : (c : goal.After-truncate-3) → let us = c.truncate.new.self.items in let gs = c.truncate-2.new.self.items in ((marks us ≡ length gs) × AreBefore us c.truncate-3.new.self.items) × (take c.args.count (numbers_of c.self.inside.units.items c.self.inside.great.items) ≡ numbers_of us gs)
kept c =
    let us = c.self.inside.units.items in
    let gs = c.self.inside.great.items in
    let first : c.marks_before-great.result ≡ marks (take c.args.count us) = c.marks_before-great.ensures ∙ ap (λ s. marks (take c.args.count s)) c.deref.ensures.value in
    rw (c.truncate.ensures.items, c.truncate-2.ensures.items, c.truncate-3.ensures.items, first) (kept_first c.args.count us gs c.self.inside.counts.items c.self.invariant.0 c.self.invariant.1 (omega arith))

pub invariant_of-self : goal.invariant_of-self
invariant_of-self c = (kept c).0

pub returns : goal.returns
returns c = sym (kept c).1 ∙ ap (take c.args.count) c.self.view_is
