use Rattle.std.proofs.Common.{◌≡◌, sym, ap, ◌∙◌, length, arith}
use Rattle.bit_grammar.proofs.Bits.Numbers.{length-bits_of}
use Rattle.bit_fields.proofs.BitLaws.{kept_is}
use Rattle.bit_fields.proofs.window.Window.keep.Goals as goal

pub returns : goal.returns
returns c =
    let e : c.self.inside.held ≡ length c.args.self.now = sym (length-bits_of c.self.inside.held c.self.inside.word) ∙ ap length c.self.view_is in
    kept_is c.self.inside.held c.self.inside.word c.args.n c.args.self.now (omega arith) c.requires.few c.self.view_is
