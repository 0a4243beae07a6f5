use Rattle.std.proofs.Common.{◌≡◌, ◌≤◌, false, arith, subst, sym}
use Rattle.bit_fields.specs.Inflow.{Flow, stop_of}
use Rattle.bit_fields.proofs.InflowLaws.{stops_at_end, stops_at_limit, ends_here, goes_past}
use Rattle.bit_fields.proofs.inflow.Inflow.past.Goals as goal

pub returns-then-self : goal.returns-then-self
returns-then-self g c = rw (← c.self.view_is) (stops_at_end _ (subst (λ (f : Flow). stop_of f ≤ f.loaded) (sym c.self.view_is) c.requires.stop) c.if-self.true)

pub returns-then-self-2 : goal.returns-then-self-2
returns-then-self-2 g c = rw (← c.self.view_is) (stops_at_limit _ (subst (λ (f : Flow). stop_of f ≤ f.loaded) (sym c.self.view_is) c.requires.stop) c.if-self.false c.if-self-2.true)

pub returns-in-Ok-eq0 : goal.returns-in-Ok-eq0
returns-in-Ok-eq0 g c = rw (← c.self.view_is) (ends_here _ (g.S.Source.incoming c.pull.new.self) c.in-Ok-eq0.field-0 c.pull.new.into (subst (λ (f : Flow). f.ended ≡ false) (sym c.self.view_is) c.requires.going) (omega arith) c.in-Ok-eq0.field-0-test c.in-Ok-eq0.ensures (omega (arith, c.pull.auto.into)))

pub returns-in-Ok : goal.returns-in-Ok
returns-in-Ok g c = rw (← c.self.view_is) (goes_past _ (g.S.Source.incoming c.pull.new.self) c.in-Ok.field-0 c.pull.new.into (subst (λ (f : Flow). f.ended ≡ false) (sym c.self.view_is) c.requires.going) (subst (λ (f : Flow). stop_of f ≤ f.loaded) (sym c.self.view_is) c.requires.stop) (omega arith) c.if-self.false c.in-Ok.field-0-test.1 c.pull.auto.into c.in-Ok.ensures)
