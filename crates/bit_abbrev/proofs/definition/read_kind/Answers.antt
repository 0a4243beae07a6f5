use Rattle.std.proofs.Common.{refl}
use Rattle.bit_grammar.specs.declared.op.Kind.TheVariants.{Fixed, Vbr, Array, Char6, Blob}
use Rattle.bit_abbrev.proofs.Operands.{kind_literal, kind_encoded}
use Rattle.bit_abbrev.proofs.definition.read_kind.Goals as goal

pub returns-then-branch-eq1 : goal.returns-then-branch-eq1
returns-then-branch-eq1 g c = kind_literal c.args.reader.now c.in_ok-fixed.field-0 c.fixed.new.self c.in_ok-fixed.ensures.takes c.if-branch-eq1.true

pub returns-in-1 : goal.returns-in-1
returns-in-1 g c = kind_encoded c.args.reader.now c.in_ok-fixed.field-0 c.fixed.new.self c.in_ok-fixed-2.field-0 1 c.fixed-2.new.self Fixed c.in_ok-fixed.ensures.takes c.if-branch-eq1.false c.in_ok-fixed-2.ensures.takes c.in-1.is (λ first p r. refl)

pub returns-in-2 : goal.returns-in-2
returns-in-2 g c = kind_encoded c.args.reader.now c.in_ok-fixed.field-0 c.fixed.new.self c.in_ok-fixed-2.field-0 2 c.fixed-2.new.self Vbr c.in_ok-fixed.ensures.takes c.if-branch-eq1.false c.in_ok-fixed-2.ensures.takes c.in-2.is (λ first p r. refl)

pub returns-in-3 : goal.returns-in-3
returns-in-3 g c = kind_encoded c.args.reader.now c.in_ok-fixed.field-0 c.fixed.new.self c.in_ok-fixed-2.field-0 3 c.fixed-2.new.self Array c.in_ok-fixed.ensures.takes c.if-branch-eq1.false c.in_ok-fixed-2.ensures.takes c.in-3.is (λ first p r. refl)

pub returns-in-4 : goal.returns-in-4
returns-in-4 g c = kind_encoded c.args.reader.now c.in_ok-fixed.field-0 c.fixed.new.self c.in_ok-fixed-2.field-0 4 c.fixed-2.new.self Char6 c.in_ok-fixed.ensures.takes c.if-branch-eq1.false c.in_ok-fixed-2.ensures.takes c.in-4.is (λ first p r. refl)

pub returns-in-5 : goal.returns-in-5
returns-in-5 g c = kind_encoded c.args.reader.now c.in_ok-fixed.field-0 c.fixed.new.self c.in_ok-fixed-2.field-0 5 c.fixed-2.new.self Blob c.in_ok-fixed.ensures.takes c.if-branch-eq1.false c.in_ok-fixed-2.ensures.takes c.in-5.is (λ first p r. refl)
