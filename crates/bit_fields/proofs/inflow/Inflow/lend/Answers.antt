use Rattle.std.proofs.Common.{◌≡◌, ◌-◌, ℕ, min, length, refl, arith, ◌∙◌, ap}
use Rattle.std.proofs.lemmas.List.{length-take}
use Rattle.bit_fields.proofs.Looking.{lies_behind}
use Rattle.bit_fields.proofs.inflow.Inflow.lend.Goals as goal

pub returns : goal.returns
returns g c =
    let stop : c.min.result ≡ min c.self.inside.end c.self.inside.limit = c.min.ensures in
    let left : c.saturating_sub-room.result ≡ min c.self.inside.end c.self.inside.limit - c.self.inside.loaded = c.saturating_sub-room.ensures ∙ ap (λ (s : ℕ). s - c.self.inside.loaded) stop in
    let room : c.min-2.result ≡ min (min c.self.inside.end c.self.inside.limit - c.self.inside.loaded) (length c.lend-bytes.result.now) = c.min-2.ensures ∙ ap (λ (s : ℕ). min s (length c.lend-bytes.result.now)) left in (
      (refl, λ _. tt, rw (← c.self.view_is) (record { same = refl; looked = c.lend-bytes.follows.holds-at-none })),
      record {
        front = rw (← c.self.view_is) (lies_behind (record { window = c.self.inside.window; incoming = g.S.Source.incoming c.self.inside.source; loaded = c.self.inside.loaded; end = c.self.inside.end; limit = c.self.inside.limit; ended = c.self.inside.ended }) c.lend-bytes.result.now c.min-2.result c.lend-bytes.ensures.front room);
        few = omega (arith, length-take c.min-2.result c.lend-bytes.result.now, c.self.invariant.limit);
        rests = tt;
      },
    )
