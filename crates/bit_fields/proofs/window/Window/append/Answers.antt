use Rattle.std.proofs.Common.{◌≡◌, length, sym, ap, ◌∙◌, arith}
use Rattle.bit_grammar.proofs.Bits.Numbers.{length-bits_of}
use Rattle.bit_fields.proofs.window.Window.append.Goals as goal

pub push-requires-clause-fits : goal.push-requires-clause-fits
push-requires-clause-fits c = c.other.invariant.1

pub push-requires-clause-room : goal.push-requires-clause-room
push-requires-clause-room c =
    let e : c.other.inside.held ≡ length c.args.other = sym (length-bits_of c.other.inside.held c.other.inside.word) ∙ ap length c.other.view_is in
    omega (arith, c.requires.room)
