use Rattle.bit_norm.proofs.Building.{defines_more}
use Rattle.bit_norm.proofs.form_builder.FormBuilderGatherer.defined.Goals as goal

pub returns-clause-gathers : goal.returns-clause-gathers
returns-clause-gathers c = λ taken ops first done deepest was stands. defines_more first c.args.self.now done (record { ops = ops; first = c.args._first; after = c.args._after }) was
