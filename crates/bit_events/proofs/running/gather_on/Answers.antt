use Rattle.std.proofs.Common.{◌≡◌, ◌+◌, ◌-◌, ◌≤◌, arith}
use Rattle.std.proofs.lemmas.Result.{err_from_is_err_and}
use Rattle.bit_fields.specs.Buffered.{beyond}
use Rattle.bit_fields.specs.BufferedParts.{bits_of_parts}
use Rattle.bit_events.proofs.Counting.{run_then}
use Rattle.bit_events.proofs.Runs.{gathers_none, stop_later}
use Rattle.bit_events.proofs.running.gather_on.Goals as goal

pub loop-run-init : goal.loop-run-init
loop-run-init g c = record {
  least = c.requires.least;
  there = c.requires.there;
  gathers = gathers_none g.G.Gatherer.gathered c.args.limits.now c.args.frame.now c.args.used.now (beyond (bits_of_parts c.args.parts) (c.args.start - c.args.parts.position)) c.args.gatherer.now;
  took = c.requires.took;
}

pub returns-in_err-run-clause-stops : goal.returns-in_err-run-clause-stops
returns-in_err-run-clause-stops g c =
    let a = c.args in
    let bits = bits_of_parts a.parts in
    let l = c.loop-run in
    let p = err_from_is_err_and c.from_residual.result c.from_residual.ensures.1 in
    rw p.1 (stop_later g.G.Gatherer.gathered g.G.Gatherer.fails a.limits.now a.frame.now a.used.now (beyond bits (a.start - a.parts.position)) a.gatherer.now l.used (beyond bits (l.first - a.parts.position)) l.gatherer c.gather_each.new.gatherer l.invariant.gathers c.in_err-run.ensures.stops)

pub returns-then-run-clause-gathers : goal.returns-then-run-clause-gathers
returns-then-run-clause-gathers g c =
    let a = c.args in
    let bits = bits_of_parts a.parts in
    let l = c.loop-run in
    let u = c.gather_each.new in
    let after = c.in_ok-run.run'.after in
    let one = run_then g.G.Gatherer.gathered a.limits.now a.frame.now a.used.now bits (beyond bits (a.start - a.parts.position)) a.gatherer.now l.used l.first l.gatherer u.used after u.gatherer l.invariant.least l.invariant.there l.invariant.gathers c.in_ok-run.ensures.gathers in
    let place : a.parts.position + (after - a.parts.position) ≡ after = omega (arith, one.0, l.invariant.least) in
    (beyond bits (after - a.parts.position), place, one.2)

pub pass_placed-requires-clause-there : goal.pass_placed-requires-clause-there
pass_placed-requires-clause-there g c =
    let a = c.args in
    let bits = bits_of_parts a.parts in
    let l = c.loop-run in
    let u = c.gather_each.new in
    let after = c.in_ok-run.run'.after in
    (run_then g.G.Gatherer.gathered a.limits.now a.frame.now a.used.now bits (beyond bits (a.start - a.parts.position)) a.gatherer.now l.used l.first l.gatherer u.used after u.gatherer l.invariant.least l.invariant.there l.invariant.gathers c.in_ok-run.ensures.gathers).1

pub returns-in_err-run-2-clause-stops : goal.returns-in_err-run-2-clause-stops
returns-in_err-run-2-clause-stops g c =
    let a = c.args in
    let bits = bits_of_parts a.parts in
    let l = c.loop-run in
    let u = c.gather_each.new in
    let after = c.in_ok-run.run'.after in
    let one = run_then g.G.Gatherer.gathered a.limits.now a.frame.now a.used.now bits (beyond bits (a.start - a.parts.position)) a.gatherer.now l.used l.first l.gatherer u.used after u.gatherer l.invariant.least l.invariant.there l.invariant.gathers c.in_ok-run.ensures.gathers in
    let p = err_from_is_err_and c.from_residual-in_err-run-2.result c.from_residual-in_err-run-2.ensures.1 in
    rw p.1 (stop_later g.G.Gatherer.gathered g.G.Gatherer.fails a.limits.now a.frame.now a.used.now (beyond bits (a.start - a.parts.position)) a.gatherer.now u.used (beyond bits (after - a.parts.position)) u.gatherer c.pass_placed.new.gatherer one.2 c.in_err-run-2.ensures.stops)

pub returns-then-run-2-clause-gathers : goal.returns-then-run-2-clause-gathers
returns-then-run-2-clause-gathers g c =
    let a = c.args in
    let bits = bits_of_parts a.parts in
    let l = c.loop-run in
    let u = c.gather_each.new in
    let t = c.pass_placed.new in
    let after = c.in_ok-run.run'.after in
    let last = c.in_ok-run-2.run'.after in
    let one = run_then g.G.Gatherer.gathered a.limits.now a.frame.now a.used.now bits (beyond bits (a.start - a.parts.position)) a.gatherer.now l.used l.first l.gatherer u.used after u.gatherer l.invariant.least l.invariant.there l.invariant.gathers c.in_ok-run.ensures.gathers in
    let least : a.parts.position ≤ after = omega (arith, one.0, l.invariant.least) in
    let two = run_then g.G.Gatherer.gathered a.limits.now a.frame.now a.used.now bits (beyond bits (a.start - a.parts.position)) a.gatherer.now u.used after u.gatherer t.used last t.gatherer least one.1 one.2 c.in_ok-run-2.ensures.gathers in
    let place : a.parts.position + (last - a.parts.position) ≡ last = omega (arith, two.0, least) in
    (beyond bits (last - a.parts.position), place, two.2)

pub loop-run-smaller : goal.loop-run-smaller
loop-run-smaller g c =
    let a = c.args in
    let bits = bits_of_parts a.parts in
    let l = c.loop-run in
    let u = c.gather_each.new in
    let t = c.pass_placed.new in
    let after = c.in_ok-run.run'.after in
    let last = c.in_ok-run-2.run'.after in
    let one = run_then g.G.Gatherer.gathered a.limits.now a.frame.now a.used.now bits (beyond bits (a.start - a.parts.position)) a.gatherer.now l.used l.first l.gatherer u.used after u.gatherer l.invariant.least l.invariant.there l.invariant.gathers c.in_ok-run.ensures.gathers in
    let least : a.parts.position ≤ after = omega (arith, one.0, l.invariant.least) in
    let two = run_then g.G.Gatherer.gathered a.limits.now a.frame.now a.used.now bits (beyond bits (a.start - a.parts.position)) a.gatherer.now u.used after u.gatherer t.used last t.gatherer least one.1 one.2 c.in_ok-run-2.ensures.gathers in
    omega (arith, two.0, c.in_ok-run.ensures.moves c.if-run.false)

pub loop-run-preserved : goal.loop-run-preserved
loop-run-preserved g c =
    let a = c.args in
    let bits = bits_of_parts a.parts in
    let l = c.loop-run in
    let u = c.gather_each.new in
    let t = c.pass_placed.new in
    let after = c.in_ok-run.run'.after in
    let last = c.in_ok-run-2.run'.after in
    let one = run_then g.G.Gatherer.gathered a.limits.now a.frame.now a.used.now bits (beyond bits (a.start - a.parts.position)) a.gatherer.now l.used l.first l.gatherer u.used after u.gatherer l.invariant.least l.invariant.there l.invariant.gathers c.in_ok-run.ensures.gathers in
    let least : a.parts.position ≤ after = omega (arith, one.0, l.invariant.least) in
    let two = run_then g.G.Gatherer.gathered a.limits.now a.frame.now a.used.now bits (beyond bits (a.start - a.parts.position)) a.gatherer.now u.used after u.gatherer t.used last t.gatherer least one.1 one.2 c.in_ok-run-2.ensures.gathers in
    record { least = omega (arith, two.0, least); there = two.1; gathers = two.2; took = c.in_ok-run.ensures.took }
