use Rattle.std.proofs.Common.{◌≡◌, length, sym, ap, ◌∙◌, arith}
use Rattle.bit_grammar.proofs.Bits.Numbers.{length-bits_of}
use Rattle.bit_fields.proofs.BitLaws.{window_rest, rest_below}
use Rattle.bit_fields.proofs.window.Window.skip.Goals as goal

pub invariant_of-self-else-n-held : goal.invariant_of-self-else-n-held
invariant_of-self-else-n-held c =
    let e : c.len-held.result ≡ c.self.inside.held = c.len-held.ensures.length ∙ ap length (sym c.self.view_is) ∙ length-bits_of c.self.inside.held c.self.inside.word in
    (omega arith, rw e (rest_below c.self.inside.held c.self.inside.word c.args.n (omega arith) c.self.invariant.1))

pub returns-else-n-held : goal.returns-else-n-held
returns-else-n-held c =
    let e : c.len-held.result ≡ c.self.inside.held = c.len-held.ensures.length ∙ ap length (sym c.self.view_is) ∙ length-bits_of c.self.inside.held c.self.inside.word in
    rw e (window_rest c.self.inside.held c.self.inside.word c.args.n c.args.self.now (omega arith) c.self.view_is)
