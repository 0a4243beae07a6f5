use Rattle.std.proofs.Common.{◌≡◌, ◌∙◌, ap, sym, subst, arith, Bool, false, List, replicate}
use Rattle.bit_grammar.specs.Fields.{padding_length}
use Rattle.bit_fields.specs.Writer.{Writer, Writes}
use Rattle.bit_fields.proofs.WriterLaws.{padded_before, zeros-replicate}
use Rattle.bit_fields.proofs.writer.BitWriter.pad.Goals as goal

pub returns-clause-writes : goal.returns-clause-writes
returns-clause-writes g c =
    let none : padding_length c.args.self.now.position ≡ 0 = omega (arith, c.if-count-gt0.false, c.position.ensures) in
    padded_before (padding_length c.args.self.now.position) c.args.self.now none (sym (ap (λ (w : Writer). w.live) c.self.view_is) ∙ c.if-not-self.false)

pub returns-then-count-gt0-clause-writes : goal.returns-then-count-gt0-clause-writes
returns-then-count-gt0-clause-writes g c =
    let count = ap padding_length c.position.ensures in
    subst (λ (s : List Bool). Writes s c.args.self.now c.field.result c.field.new.self) (zeros-replicate _ ∙ ap (λ n. replicate n false) count) c.field.ensures.writes
