use Rattle.std.proofs.Common.{◌≡◌, ℕ, ◌-◌, ◌≤◌, length, drop, arith}
use Rattle.std.proofs.lemmas.List.{length-take-le}
use Rattle.bit_fields.specs.PlacedView.{placed}
use Rattle.bit_abbrev.proofs.FewValues.{plain_few}
use Rattle.bit_abbrev.proofs.few.read_few_plain.Goals as goal

pub returns-clause-reads : goal.returns-clause-reads
returns-clause-reads c =
    let count : ℕ = c.in_ok-count.count in
    let len : ℕ = c.position.result - c.position-2.result in
    let within : count ≤ length c.args.values.now = omega (arith, c.requires.places, c.if-count-min.false, c.min.ensures) in
    let many : length c.read_sixes.new.values ≡ count = omega (arith, c.read_sixes.auto.values, length-take-le count c.args.values.now within) in
    let len_is : len ≡ (placed c.in_ok-after.after).position - (placed c.args.fields).position = omega (arith, c.position.ensures, c.position-2.ensures) in
    plain_few c.args.room c.in_ok-code.code count len c.read_sixes.new.values (drop count c.args.values.now) (placed c.args.fields) (placed c.in_ok-code.behind) (placed c.in_ok-count.rest) (placed c.in_ok-after.after) (omega (arith, c.if-count-min.false, c.min.ensures)) many len_is c.in_ok-code.ensures.takes.reads c.in_ok-count.ensures.takes.reads c.in_ok-after.ensures
