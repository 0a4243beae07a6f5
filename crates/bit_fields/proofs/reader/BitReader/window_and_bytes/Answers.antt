use Rattle.std.proofs.Common.{◌≡◌, true, subst, sym, refl, arith, ap, length, ◌∙◌}
use Rattle.bit_grammar.proofs.Bits.Numbers.{length-bits_of}
use Rattle.bit_fields.specs.Reader.{Reader}
use Rattle.bit_fields.proofs.Looking.{looked_as, sees_behind}
use Rattle.bit_fields.proofs.reader.BitReader.window_and_bytes.Goals as goal

pub returns : goal.returns
returns g c =
    let held : c.window-word.result.1 ≡ length c.self.inside.inflow.window = sym (length-bits_of c.window-word.result.1 c.window-word.result.0) ∙ ap length c.window-word.ensures.bits in
    let live : c.self.inside.live ≡ true = subst (λ (r : Reader). r.live ≡ true) (sym c.self.view_is) c.requires.live in (
      (
        refl,
        λ _. tt,
        record {
          nothing = looked_as c.self.inside.live c.self.inside.position c.self.inside.inflow c.lend-bytes.follows.lender-at-none c.args.self.now live c.self.view_is c.lend-bytes.follows.holds-at-none;
          stays = ap (λ (r : Reader). r.position) c.self.view_is;
          sees = sees_behind c.self.inside.live c.self.inside.position c.self.inside.inflow c.args.self.now c.window-word.result.0 c.window-word.result.1 c.lend-bytes.result live c.self.view_is c.window-word.ensures.bits c.lend-bytes.ensures.front;
        },
      ),
      record {
        lawful = record { most = c.window-word.ensures.most; below = c.window-word.ensures.below; fits = omega (arith, held, c.self.invariant.exact live, c.window-word.ensures.loaded, c.lend-bytes.ensures.few) };
        shown = tt;
      },
    )
