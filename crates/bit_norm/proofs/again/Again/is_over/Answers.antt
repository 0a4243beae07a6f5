use Rattle.std.proofs.Common.{◌≡◌, ap, refl, length, arith}
use Rattle.std.proofs.lemmas.List.{nil_from_length}
use Rattle.std.proofs.lemmas.Grind.{common_steps}
use Rattle.bit_norm.proofs.again.Again.is_over.Goals as goal

pub returns-clause-over : goal.returns-clause-over
returns-clause-over c over =
    let a = c.args.self.now in
    let none : length a.slice.now ≡ 0 = grind (arith, common_steps, c.is_empty.ensures, over) in
    let empty = nil_from_length a.slice.now none in
    let behind = a.first none in
    (rw (empty, behind.0, behind.1) refl, omega (arith, none, a.few, ap length behind.0, ap length behind.1))
