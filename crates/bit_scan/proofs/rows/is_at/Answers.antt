use Rattle.std.proofs.Common.{refl, sym}
use Rattle.std.proofs.lemmas.Option.{slice_get-map}
use Rattle.bit_scan.proofs.rows.is_at.Goals as goal

pub returns-in-Some : goal.returns-in-Some
returns-in-Some g c = rw (slice_get-map (λ e. e.0) c.args.rows.now.entries c.args.place, sym c.in-Some.ensures.entry) c.eq.ensures

pub returns-in-None : goal.returns-in-None
returns-in-None g c = rw (slice_get-map (λ e. e.0) c.args.rows.now.entries c.args.place, sym c.in-None.ensures.entry) refl
