use Rattle.std.proofs.Common.{◌≡◌, ℕ, List, [], ◌∷◌, ◌++◌, sym, ap, ◌∙◌}
use Rattle.bit_grammar.specs.declared.op.Op.{Op}
use Rattle.bit_grammar.specs.declared.op.Place.TheVariants.{First}
use Rattle.bit_grammar.specs.Definition.{operands}
use Rattle.bit_abbrev.specs.Ready.{later_list}
use Rattle.bit_abbrev.proofs.Grouping.{last_behind}
use Rattle.bit_abbrev.proofs.Operands.{adds_so}
use Rattle.bit_abbrev.proofs.ready.read_later.Goals as goal

pub returns-in-Some : goal.returns-in-Some
returns-in-Some g c =
    let old : c.deref_mut.result.now ≡ later_list c.args.later.now = c.deref_mut.ensures.value ∙ ap later_list (sym c.in-Some.is) in
    adds_so (operands c.args.shapes c.args.count First) c.args.reader.now c.read.result c.read.new.reader (λ ops is. (is ∙ ap (λ (l : List (ℕ × List Op)). l ++ (c.args.id, ops) ∷ []) old, last_behind _ c.args.id ops is)) c.read.ensures
