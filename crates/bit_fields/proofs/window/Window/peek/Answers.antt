use Rattle.std.proofs.Common.{◌≡◌, sym, ap, ◌∙◌, length, arith}
use Rattle.bit_grammar.proofs.Bits.Numbers.{length-bits_of}
use Rattle.bit_fields.proofs.BitLaws.{window_value}
use Rattle.bit_fields.proofs.window.Window.peek.Goals as goal

pub returns : goal.returns
returns c =
    let e : c.self.inside.held ≡ length c.args.self.now = sym (length-bits_of c.self.inside.held c.self.inside.word) ∙ ap length c.self.view_is in
    window_value c.self.inside.held c.self.inside.word c.args.n c.args.self.now c.requires.few (omega arith) c.self.view_is
