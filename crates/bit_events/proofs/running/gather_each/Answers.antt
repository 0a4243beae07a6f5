use Rattle.std.proofs.Common.{◌-◌, IfOk, OnErr, subst, arith}
use Rattle.std.proofs.lemmas.Result.{err_from_is_err_and}
use Rattle.bit_fields.specs.Buffered.{BufferedBits, beyond}
use Rattle.bit_fields.specs.BufferedParts.{bits_of_parts}
use Rattle.bit_events.specs.Runs.{GathersRun, StopsRun}
use Rattle.bit_events.proofs.Counting.{run_then, runs_then, stops_then}
use Rattle.bit_events.proofs.Runs.{gathers_none}
use Rattle.bit_events.proofs.running.gather_each.Goals as goal

pub returns-in_err-run-clause-stops : goal.returns-in_err-run-clause-stops
returns-in_err-run-clause-stops g c =
    let a = c.args in
    let p = err_from_is_err_and c.from_residual.result c.from_residual.ensures.1 in
    rw p.1 (subst (λ (b : BufferedBits). StopsRun g.G.Gatherer.gathered g.G.Gatherer.fails a.limits.now a.frame.now a.used.now b a.gatherer.now c.gather_odd.new.gatherer) c.buffered_from-buffered.ensures c.in_err-run.ensures.stops)

pub buffered_from-buffered-requires-2-clause-there : goal.buffered_from-buffered-requires-2-clause-there
buffered_from-buffered-requires-2-clause-there g c =
    let a = c.args in
    let bits = bits_of_parts a.parts in
    let first = beyond bits (a.start - a.parts.position) in
    let u = c.gather_odd.new in
    let odd = subst (λ (b : BufferedBits). GathersRun g.G.Gatherer.gathered a.limits.now a.frame.now a.used.now b a.gatherer.now u.used c.in_ok-run.run'.after u.gatherer) c.buffered_from-buffered.ensures c.in_ok-run.ensures.gathers in
    (run_then g.G.Gatherer.gathered a.limits.now a.frame.now a.used.now bits first a.gatherer.now a.used.now a.start a.gatherer.now u.used c.in_ok-run.run'.after u.gatherer c.requires.least c.requires.there (gathers_none g.G.Gatherer.gathered a.limits.now a.frame.now a.used.now first a.gatherer.now) odd).1

pub returns-clause-gathers : goal.returns-clause-gathers
returns-clause-gathers g c =
    let a = c.args in
    let bits = bits_of_parts a.parts in
    let first = beyond bits (a.start - a.parts.position) in
    let u = c.gather_odd.new in
    let t = c.gather_held.new in
    let after = c.in_ok-run.run'.after in
    let odd = subst (λ (b : BufferedBits). GathersRun g.G.Gatherer.gathered a.limits.now a.frame.now a.used.now b a.gatherer.now u.used after u.gatherer) c.buffered_from-buffered.ensures c.in_ok-run.ensures.gathers in
    let one = run_then g.G.Gatherer.gathered a.limits.now a.frame.now a.used.now bits first a.gatherer.now a.used.now a.start a.gatherer.now u.used after u.gatherer c.requires.least c.requires.there (gathers_none g.G.Gatherer.gathered a.limits.now a.frame.now a.used.now first a.gatherer.now) odd in
    let held = subst (λ (b : BufferedBits). IfOk c.gather_held.result (λ run. GathersRun g.G.Gatherer.gathered a.limits.now a.frame.now u.used b u.gatherer t.used run.after t.gatherer)) c.buffered_from-buffered-2.ensures c.gather_held.ensures.gathers in
    runs_then g.G.Gatherer.gathered a.limits.now a.frame.now a.used.now bits first a.gatherer.now u.used after u.gatherer t.used t.gatherer c.gather_held.result (omega (arith, one.0, c.requires.least)) one.1 one.2 held

pub returns-clause-stops : goal.returns-clause-stops
returns-clause-stops g c =
    let a = c.args in
    let bits = bits_of_parts a.parts in
    let first = beyond bits (a.start - a.parts.position) in
    let u = c.gather_odd.new in
    let t = c.gather_held.new in
    let after = c.in_ok-run.run'.after in
    let odd = subst (λ (b : BufferedBits). GathersRun g.G.Gatherer.gathered a.limits.now a.frame.now a.used.now b a.gatherer.now u.used after u.gatherer) c.buffered_from-buffered.ensures c.in_ok-run.ensures.gathers in
    let one = run_then g.G.Gatherer.gathered a.limits.now a.frame.now a.used.now bits first a.gatherer.now a.used.now a.start a.gatherer.now u.used after u.gatherer c.requires.least c.requires.there (gathers_none g.G.Gatherer.gathered a.limits.now a.frame.now a.used.now first a.gatherer.now) odd in
    let stopped = subst (λ (b : BufferedBits). OnErr c.gather_held.result (StopsRun g.G.Gatherer.gathered g.G.Gatherer.fails a.limits.now a.frame.now u.used b u.gatherer t.gatherer)) c.buffered_from-buffered-2.ensures c.gather_held.ensures.stops in
    stops_then g.G.Gatherer.gathered g.G.Gatherer.fails a.limits.now a.frame.now a.used.now first a.gatherer.now u.used (beyond bits (after - a.parts.position)) u.gatherer t.gatherer c.gather_held.result one.2 stopped
