use Rattle.bit_fields.proofs.BitLaws.{window_bytes}
use Rattle.bit_fields.proofs.window.Window.bytes.Goals as goal

pub returns-clause-front : goal.returns-clause-front
returns-clause-front c = λ k few. window_bytes c.self.inside.held c.self.inside.word k c.args.self.now c.to_le_bytes.result c.self.invariant.0 c.self.view_is c.to_le_bytes.ensures few
