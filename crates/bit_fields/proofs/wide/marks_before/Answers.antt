use Rattle.std.proofs.Common.{◌≡◌, ◌+◌, ◌*◌, ◌/◌, ◌≤◌, ◌<◌, ℕ, ap, ◌∙◌, length, take, get_or, arith}
use Rattle.std.proofs.Math.Nat.{div-add-mod}
use Rattle.std.proofs.lemmas.List.{length-take-le}
use Rattle.bit_fields.specs.Wide.{marks}
use Rattle.bit_fields.proofs.Wides.{marks_up_to, marks_le}
use Rattle.bit_fields.proofs.wide.marks_before.Goals as goal

sum : (c : goal.After-count_marks) → get_or c.args.counts.now (c.args.place / 64) 0 + c.count_marks.result ≡ marks (take c.args.place c.args.units.now)
sum c =
    let start = c.args.place / 64 * 64 in
    let us = c.args.units.now in
    let le : start ≤ c.args.place = omega (arith, div-add-mod c.args.place 64) in
    let there : c.args.place / 64 < length c.args.counts.now = omega (arith, c.requires.counts.0, c.requires.within, div-add-mod c.args.place 64) in
    let before : get_or c.args.counts.now (c.args.place / 64) 0 ≡ marks (take start us) = (c.requires.counts.1 (c.args.place / 64) there).1 ∙ ap (λ (k : ℕ). marks (take k us)) (omega arith) in
    omega (arith, before, c.count_marks.ensures, marks_up_to start c.args.place us le)

pub overflow_add-result : goal.overflow_add-result
overflow_add-result c = omega (arith, sum c, marks_le (take c.args.place c.args.units.now), length-take-le c.args.place c.args.units.now)

pub returns : goal.returns
returns c = sum c
