use Rattle.std.proofs.Common.{sym, ap, ◌∙◌, length}
use Rattle.bit_fields.proofs.Wides.{length_numbers}
use Rattle.bit_fields.proofs.wide.WideSlice.len.Goals as goal

pub returns : goal.returns
returns c = sym (length_numbers c.self.inside.units.now c.self.inside.great.now) ∙ ap length c.self.view_is
