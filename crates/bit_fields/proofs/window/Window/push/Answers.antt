use Rattle.std.proofs.Common.{◌≡◌, ◌≤◌, ◌^◌, ◌+◌, sym, ap, ◌∙◌, length, arith, ◌++◌, Bool, List}
use Rattle.std.proofs.Math.Pow.{pow_mono}
use Rattle.bit_grammar.specs.Bits.{bits_of}
use Rattle.bit_grammar.proofs.Bits.Numbers.{length-bits_of}
use Rattle.bit_fields.proofs.BitLaws.{bits_of-above, pushed_is, pushed_below}
use Rattle.bit_fields.proofs.window.Window.push.Goals as goal

pub overflow_shl-self : goal.overflow_shl-self
overflow_shl-self c = let e : c.self.inside.held ≡ length c.args.self.now = sym (length-bits_of c.self.inside.held c.self.inside.word) ∙ ap length c.self.view_is in omega arith

pub overflow_add-self : goal.overflow_add-self
overflow_add-self c =
    let e : c.self.inside.held ≡ length c.args.self.now = sym (length-bits_of c.self.inside.held c.self.inside.word) ∙ ap length c.self.view_is in
    let room : c.self.inside.held + c.args.n ≤ 64 = omega arith in
    let lt = pushed_below c.self.inside.held c.self.inside.word c.args.n c.args.word c.self.invariant.1 c.requires.fits in
    let most : 2 ^ (c.self.inside.held + c.args.n) ≤ 2 ^ 64 = pow_mono room in
    rw (pushed_is c.self.inside.held c.self.inside.word c.args.n c.args.word c.requires.fits room) (omega arith)

pub invariant_of-self : goal.invariant_of-self
invariant_of-self c =
    let e : c.self.inside.held ≡ length c.args.self.now = sym (length-bits_of c.self.inside.held c.self.inside.word) ∙ ap length c.self.view_is in
    let room : c.self.inside.held + c.args.n ≤ 64 = omega arith in
    let lt = pushed_below c.self.inside.held c.self.inside.word c.args.n c.args.word c.self.invariant.1 c.requires.fits in
    (room, rw (pushed_is c.self.inside.held c.self.inside.word c.args.n c.args.word c.requires.fits room) lt)

pub returns : goal.returns
returns c =
    let e : c.self.inside.held ≡ length c.args.self.now = sym (length-bits_of c.self.inside.held c.self.inside.word) ∙ ap length c.self.view_is in
    let room : c.self.inside.held + c.args.n ≤ 64 = omega arith in
    rw (pushed_is c.self.inside.held c.self.inside.word c.args.n c.args.word c.requires.fits room)
    (bits_of-above c.self.inside.held c.args.n c.self.inside.word c.args.word c.self.invariant.1 ∙ ap (λ (s : List Bool). s ++ bits_of c.args.n c.args.word) c.self.view_is)
