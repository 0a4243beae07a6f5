use Rattle.std.proofs.Common.{◌≡◌, ◌-◌, min, [], arith, subst, sym}
use Rattle.bit_fields.specs.Inflow.{Flow}
use Rattle.bit_fields.proofs.Draining.{passed}
use Rattle.bit_fields.proofs.inflow.Inflow.pass.Goals as goal

pub returns-in-Ok : goal.returns-in-Ok
returns-in-Ok g c =
    let stop : c.min-stop.result ≡ min c.self.inside.end c.self.inside.limit = c.min-stop.ensures in
    let room : c.min-room.result ≡ min c.args.most (c.min-stop.result - c.self.inside.loaded) = c.min-room.ensures in
    let taken = c.in-Ok.ensures in
    let empty : c.self.inside.window ≡ [] = subst (λ (f : Flow). f.window ≡ []) (sym c.self.view_is) c.requires.empty in
    (rw (← c.self.view_is) (passed _ (g.S.Source.incoming c.pass.new.self) c.in-Ok.count taken.into empty c.if-self.false (omega (arith, taken.few)) (omega arith) c.in-Ok.count-test.1 taken.gave), omega (arith, taken.few))
