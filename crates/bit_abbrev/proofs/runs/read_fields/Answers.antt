use Rattle.std.proofs.Common.{[], refl, subst}
use Rattle.std.proofs.lemmas.List.{append-nil}
use Rattle.bit_abbrev.proofs.runs.read_fields.Goals as goal

pub returns-then-pass-clause-adds : goal.returns-then-pass-clause-adds
returns-then-pass-clause-adds g c = λ before t. c.count_fields.ensures.adds before (subst (g.V.ValueTaker.took c.pass.new.self) (append-nil before) (c.pass.ensures.yes c.if-pass.true before [] t refl))
