use Rattle.std.proofs.Common.{◌≡◌, true, subst, sym, refl, []}
use Rattle.bit_fields.specs.Reader.{Reader}
use Rattle.bit_fields.proofs.Looking.{sees_window}
use Rattle.bit_fields.proofs.reader.BitReader.in_window.Goals as goal

pub returns-clause-sees : goal.returns-clause-sees
returns-clause-sees g c =
    let live : c.self.inside.live ≡ true = subst (λ (r : Reader). r.live ≡ true) (sym c.self.view_is) c.requires in
    sees_window c.self.inside.live c.self.inside.position c.self.inside.inflow c.args.self.now c.window-word.result.0 c.window-word.result.1 (record { ref_ptr = (0, 0); now = [] }) live c.self.view_is c.window-word.ensures.bits refl
