use Rattle.std.proofs.Common.{◌≡◌, sym, ap, ◌∙◌, length, arith}
use Rattle.bit_grammar.proofs.Bits.Numbers.{length-bits_of}
use Rattle.bit_fields.proofs.BitLaws.{window_rest, rest_below}
use Rattle.bit_fields.proofs.Short.{gathered_as}
use Rattle.bit_fields.proofs.window.Window.take_number.Goals as goal

pub overflow_sub-self : goal.overflow_sub-self
overflow_sub-self c = let e : c.self.inside.held ≡ length c.args.self.now = sym (length-bits_of c.self.inside.held c.self.inside.word) ∙ ap length c.self.view_is in omega (arith, e, c.requires.there)

pub invariant_of-self : goal.invariant_of-self
invariant_of-self c =
    let e : c.self.inside.held ≡ length c.args.self.now = sym (length-bits_of c.self.inside.held c.self.inside.word) ∙ ap length c.self.view_is in
    (omega (arith, c.self.invariant.0), rest_below c.self.inside.held c.self.inside.word c.args.bits (omega (arith, e, c.requires.there)) c.self.invariant.1)

pub returns-clause-value : goal.returns-clause-value
returns-clause-value c = λ count few bits_is. gathered_as c.args.n c.args.bits count c.self.inside.held c.self.inside.word c.four_payloads.result c.args.self.now bits_is c.requires.some c.requires.few few c.self.view_is c.self.invariant.1 c.four_payloads.ensures

pub returns-clause-rest : goal.returns-clause-rest
returns-clause-rest c =
    let e : c.self.inside.held ≡ length c.args.self.now = sym (length-bits_of c.self.inside.held c.self.inside.word) ∙ ap length c.self.view_is in
    window_rest c.self.inside.held c.self.inside.word c.args.bits c.args.self.now (omega (arith, e, c.requires.there)) c.self.view_is
