use Rattle.std.proofs.Common.{◌≡◌, sym, ap, ◌∙◌, length, arith}
use Rattle.bit_grammar.proofs.Bits.Numbers.{length-bits_of}
use Rattle.bit_fields.proofs.BitLaws.{window_rest, rest_below, kept_is}
use Rattle.bit_fields.proofs.window.Window.split.Goals as goal

pub overflow_sub-self : goal.overflow_sub-self
overflow_sub-self c = let e : c.self.inside.held ≡ length c.args.self.now = sym (length-bits_of c.self.inside.held c.self.inside.word) ∙ ap length c.self.view_is in omega arith

pub invariant_of-self : goal.invariant_of-self
invariant_of-self c =
    let e : c.self.inside.held ≡ length c.args.self.now = sym (length-bits_of c.self.inside.held c.self.inside.word) ∙ ap length c.self.view_is in
    (omega arith, rest_below c.self.inside.held c.self.inside.word c.args.n (omega arith) c.self.invariant.1)

pub returns-clause-front : goal.returns-clause-front
returns-clause-front c =
    let e : c.self.inside.held ≡ length c.args.self.now = sym (length-bits_of c.self.inside.held c.self.inside.word) ∙ ap length c.self.view_is in
    kept_is c.self.inside.held c.self.inside.word c.args.n c.args.self.now (omega arith) c.requires.few c.self.view_is

pub returns-clause-rest : goal.returns-clause-rest
returns-clause-rest c =
    let e : c.self.inside.held ≡ length c.args.self.now = sym (length-bits_of c.self.inside.held c.self.inside.word) ∙ ap length c.self.view_is in
    window_rest c.self.inside.held c.self.inside.word c.args.n c.args.self.now (omega arith) c.self.view_is
