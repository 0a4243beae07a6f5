use Rattle.std.proofs.Common.{◌<◌, length, vec_len, sym, arith, ltb-true}
use Rattle.std.proofs.lemmas.Result.{err_from_is_err_and}
use Rattle.bit_fields.specs.BufferedParts.{bits_of_parts}
use Rattle.bit_events.proofs.Folds.{none_yet}
use Rattle.bit_events.proofs.Blocks.{lost_then, nothing_gathered, nothing_lost, on_gathered}
use Rattle.bit_events.proofs.folding.gather_run.Goals as goal

pub returns-in_default-clause-takes : goal.returns-in_default-clause-takes
returns-in_default-clause-takes g c = none_yet g.G.Gatherer.gathered c.args.limits.now c.args.machine.now c.args.reader.now c.args.gatherer.now c.requires.live c.requires.aligned

pub returns-then-is_some-clause-takes : goal.returns-then-is_some-clause-takes
returns-then-is_some-clause-takes g c = none_yet g.G.Gatherer.gathered c.args.limits.now c.args.machine.now c.args.reader.now c.args.gatherer.now c.requires.live c.requires.aligned

pub returns-then-starts_with-clause-takes : goal.returns-then-starts_with-clause-takes
returns-then-starts_with-clause-takes g c =
    let m = c.args.machine.now in
    let shows = rw c.in_ok-parts.was at c.buffered_parts.follows.holds-at-none in
    let some : 0 < vec_len m.frames = omega (arith, m.frames.ok.0, ltb-true 0 (length m.frames.items) (sym (rw c.deref.ensures.value at c.in-Some.ensures.item.0))) in
    nothing_gathered g.G.Gatherer.gathered c.args.limits.now m c.args.reader.now c.args.gatherer.now c.buffered_parts.follows.lender-at-none (bits_of_parts c.in_ok-parts.parts) some shows.nothing shows.stays shows.sees

pub returns-in-Ok-clause-takes : goal.returns-in-Ok-clause-takes
returns-in-Ok-clause-takes g c =
    let m = c.args.machine.now in
    let b = c.buffered_parts.follows.lender-at-none in
    let shows = rw c.in_ok-parts.was at c.buffered_parts.follows.holds-at-none in
    let some : 0 < vec_len m.frames = omega (arith, m.frames.ok.0, ltb-true 0 (length m.frames.items) (sym (rw c.deref.ensures.value at c.in-Some.ensures.item.0))) in
    on_gathered g.G.Gatherer.gathered g.G.Gatherer.fails c.args.limits.now m c.args.reader.now c.args.gatherer.now b (bits_of_parts c.in_ok-parts.parts) c.gather_buffered.new.machine c.in-Ok.after c.gather_buffered.new.gatherer c.catch_up_holding.result c.catch_up_holding.new.self some shows.nothing shows.stays shows.sees c.in-Ok.ensures.gathers (rw (sym c.position-start.ensures) c.catch_up_holding.ensures.takes) (rw (sym c.position-start.ensures) c.catch_up_holding.ensures.moves)

pub returns-in-Err-clause-takes : goal.returns-in-Err-clause-takes
returns-in-Err-clause-takes g c =
    let shows = rw c.in_ok-parts.was at c.buffered_parts.follows.holds-at-none in
    lost_then g.G.Gatherer.gathered g.G.Gatherer.fails c.args.limits.now c.args.machine.now c.args.reader.now c.buffered_parts.follows.lender-at-none (bits_of_parts c.in_ok-parts.parts) c.args.gatherer.now c.out_of_memory.result c.out_of_memory.new.reader c.gather_buffered.new.gatherer shows.nothing shows.sees c.in-Err.ensures.stops c.out_of_memory.ensures

pub returns-in_err-parts-clause-takes : goal.returns-in_err-parts-clause-takes
returns-in_err-parts-clause-takes g c =
    let p = err_from_is_err_and c.from_residual.result c.from_residual.ensures.1 in
    let why = rw c.in_err-parts.was at c.buffered_parts.follows.holds-at-none in
    rw (p.1, p.2) (nothing_lost g.G.Gatherer.gathered g.G.Gatherer.fails c.args.limits.now c.args.machine.now c.args.reader.now c.args.gatherer.now c.in_err-parts.field-0.0 c.buffered_parts.follows.lender-at-none c.requires.live why)
