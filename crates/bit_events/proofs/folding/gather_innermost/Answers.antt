use Rattle.std.proofs.Common.{◌≡◌, ◌-◌, ◌∷◌, [], length, take, refl, sym, arith, ltb-true}
use Rattle.std.proofs.lemmas.Result.{IfOk-weaker, on_err_weaker}
use Rattle.bit_fields.specs.Buffered.{beyond}
use Rattle.bit_fields.specs.BufferedParts.{bits_of_parts}
use Rattle.bit_events.specs.FrameView.{frame_shown, frames_onto, frames_shown}
use Rattle.bit_events.specs.Runs.{GathersRun, GathersUpTo}
use Rattle.bit_events.proofs.Blocks.{on_run, up_to_none}
use Rattle.bit_events.proofs.Stepping.{frames-some}
use Rattle.bit_events.proofs.folding.gather_innermost.Goals as goal

pub returns-in_default-clause-gathers : goal.returns-in_default-clause-gathers
returns-in_default-clause-gathers g c = up_to_none g.G.Gatherer.gathered c.args.limits.now c.args.machine.now (beyond (bits_of_parts c.args.parts) (c.args.first - c.args.parts.position)) c.args.gatherer.now c.args.first (omega (arith, c.requires.least)) c.requires.aligned

pub returns-then-is_some-clause-gathers : goal.returns-then-is_some-clause-gathers
returns-then-is_some-clause-gathers g c = up_to_none g.G.Gatherer.gathered c.args.limits.now c.args.machine.now (beyond (bits_of_parts c.args.parts) (c.args.first - c.args.parts.position)) c.args.gatherer.now c.args.first (omega (arith, c.requires.least)) c.requires.aligned

pub returns-then-comes_apart-clause-gathers : goal.returns-then-comes_apart-clause-gathers
returns-then-comes_apart-clause-gathers g c = up_to_none g.G.Gatherer.gathered c.args.limits.now c.args.machine.now (beyond (bits_of_parts c.args.parts) (c.args.first - c.args.parts.position)) c.args.gatherer.now c.args.first (omega (arith, c.requires.least)) c.requires.aligned

pub returns-clause-gathers : goal.returns-clause-gathers
returns-clause-gathers g c =
    let m = c.args.machine.now in
    let from = beyond (bits_of_parts c.args.parts) (c.args.first - c.args.parts.position) in
    let f = c.in-Some.frame.now in
    let used = c.gather_records.new.used in
    let h = c.gather_records.new.gatherer in
    let k = length m.frames.items - 1 in
    let items = rw c.deref.ensures.value at c.in-Some.ensures.item in
    let split : frames_shown m.frames.items ≡ frame_shown f ∷ frames_onto (take k m.frames.items) [] = frames-some m.frames.items k f (omega (arith, m.frames.ok.0, ltb-true 0 (length m.frames.items) (sym items.0))) items.1 in
    IfOk-weaker c.gather_records.result (λ after. GathersRun g.G.Gatherer.gathered c.args.limits.now f m.used from c.args.gatherer.now used after h) (λ after. GathersUpTo g.G.Gatherer.gathered c.args.limits.now m from c.args.gatherer.now (record m { used = used }) after h)
    (λ after run. on_run g.G.Gatherer.gathered c.args.limits.now f m (frames_onto (take k m.frames.items) []) from c.args.gatherer.now used after h split run)
    c.gather_records.ensures.gathers

pub returns-clause-stops : goal.returns-clause-stops
returns-clause-stops g c =
    let m = c.args.machine.now in
    let from = beyond (bits_of_parts c.args.parts) (c.args.first - c.args.parts.position) in
    let f = c.in-Some.frame.now in
    let k = length m.frames.items - 1 in
    let items = rw c.deref.ensures.value at c.in-Some.ensures.item in
    let split : frames_shown m.frames.items ≡ frame_shown f ∷ frames_onto (take k m.frames.items) [] = frames-some m.frames.items k f (omega (arith, m.frames.ok.0, ltb-true 0 (length m.frames.items) (sym items.0))) items.1 in
    on_err_weaker c.gather_records.result
    (λ stops. stops m (frames_onto (take k m.frames.items) []) split refl)
    c.gather_records.ensures.stops
