use Rattle.std.proofs.Common.{◌≡◌, ◌<◌, ◌≤◌, Bool, List, length, min, arith, ap, subst, sym, ◌∙◌}
use Rattle.bit_fields.specs.Inflow.{Flow, KeepsFlow}
use Rattle.bit_fields.proofs.InflowLaws.{Keeps-refl}
use Rattle.bit_fields.proofs.Draining.{window_skipped}
use Rattle.bit_fields.proofs.inflow.Inflow.skip.Goals as goal
use Rattle.bit_fields.proofs.inflow.Inflow.skip.Goals.{then-len-eq0+else-most-ge8+in_ok-fill, else-len-eq0}

pub returns-clause-skips : goal.returns-clause-skips
returns-clause-skips g c =
    let kept : KeepsFlow c.args.self.now c.if-len-eq0.self = elim c.if-len-eq0.branch [
      | then-len-eq0+else-most-ge8+in_ok-fill w ↦ rw w.self-is w.in_ok-fill.ensures.0
      | else-len-eq0 w ↦ rw w.self-is (Keeps-refl c.args.self.now)
    ] in
    let held : c.len-2.result ≡ length c.if-len-eq0.self.window = c.len-2.ensures.length ∙ ap (λ (f : Flow). length f.window) c.self-2.view_is in
    let before : c.len.result ≡ length c.args.self.now.window = c.len.ensures.length ∙ ap (λ (f : Flow). length f.window) c.self.view_is in
    let some : 0 < length c.if-len-eq0.self.window = elim c.if-len-eq0.branch [
      | then-len-eq0+else-most-ge8+in_ok-fill w ↦ rw w.self-is (omega (arith, w.in_ok-fill.ensures.1))
      | else-len-eq0 w ↦ rw w.self-is (omega (arith, w.if-len-eq0.false, before))
    ] in
    let count : c.min-count.result ≡ min c.args.most c.from.result = c.min-count.ensures in
    let flow : List Bool → Flow = λ w. record { window = w; incoming = g.S.Source.incoming c.self-2.inside.source; loaded = c.self-2.inside.loaded; end = c.self-2.inside.end; limit = c.self-2.inside.limit; ended = c.self-2.inside.ended } in
    let here : KeepsFlow c.args.self.now (flow c.self-2.inside.window) = subst (KeepsFlow c.args.self.now) (sym c.self-2.view_is) kept in
    let there : c.min-count.result ≤ length c.self-2.inside.window = omega (arith, c.len-2.ensures.length, count) in
    (window_skipped c.args.self.now (flow c.self-2.inside.window) (flow c.skip.new.self) c.min-count.result here (omega (arith, held, some, count, c.requires)) there (ap flow c.skip.ensures), omega (arith, count))
