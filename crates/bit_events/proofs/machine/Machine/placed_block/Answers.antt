use Rattle.std.proofs.Common.{◌≡◌, ◌<◌, ◌∙◌, ℕ, Option, sym, ap, subst, arith}
use Rattle.std.specs.Prelude.{IfSome}
use Rattle.std.proofs.lemmas.Result.{IfOk-weaker}
use Rattle.bit_grammar.specs.Fields.{fixed}
use Rattle.bit_grammar.specs.Machine.{open_block, step}
use Rattle.bit_fields.specs.Buffered.{BufferedBits, Reads, beyond}
use Rattle.bit_fields.specs.PlacedView.{placed}
use Rattle.bit_events.specs.declared.machine.Step.{Step}
use Rattle.bit_events.specs.FrameView.{frames_shown}
use Rattle.bit_events.specs.MachineView.{bit_after, handed_shown, machine_shown}
use Rattle.bit_events.specs.Runs.{StepsHere}
use Rattle.bit_events.proofs.Blocks.{behind_id, moved_here, step_opens, step_ends}
use Rattle.bit_events.proofs.PlacedHeads.{placed_fits}
use Rattle.bit_events.proofs.machine.Machine.placed_block.Goals as goal

pub loaded_by-held-requires-clause-fits : goal.loaded_by-held-requires-clause-fits
loaded_by-held-requires-clause-fits c = omega (arith, placed_fits c.args.bits, c.position-first.ensures, c.requires)

pub returns-then-id-eq1-clause-steps : goal.returns-then-id-eq1-clause-steps
returns-then-id-eq1-clause-steps c =
    let m = c.args.self.now in
    let limits = c.args.limits.now in
    let a = placed c.args.bits in
    let b = placed c.after-after.result in
    let width = c.in-Some.width in
    let first = c.position-first.result in
    let n = c.open_placed.new.self in
    let whole = step limits (machine_shown m) in
    let opens = open_block limits (frames_shown m.frames.items) first (handed_shown m) in
    let rest : b ≡ beyond a width = c.after-after.ensures.rest ∙ ap (beyond a) c.from-2.ensures in
    let id : Reads (fixed width) a 1 b = subst (λ (k : ℕ). Reads (fixed width) a k b) c.if-id-eq1.true (subst (Reads (fixed width) a c.fixed-id.result) (sym rest) c.fixed-id.ensures) in
    IfOk-weaker c.open_placed.result (λ (found : Option Step). StepsHere opens limits.depth m b found n) (λ (found : Option Step). StepsHere whole limits.depth m a found n)
    (λ found steps. step_opens limits m width first a b found n c.in-Some.ensures.inside c.in-Some.ensures.top c.position-first.ensures id steps)
    c.open_placed.ensures

pub returns-then-id-eq1-clause-moves : goal.returns-then-id-eq1-clause-moves
returns-then-id-eq1-clause-moves c =
    let m = c.args.self.now in
    let limits = c.args.limits.now in
    let a = placed c.args.bits in
    let b = placed c.after-after.result in
    let n = c.open_placed.new.self in
    let opens = open_block limits (frames_shown m.frames.items) c.position-first.result (handed_shown m) in
    let rest : b ≡ beyond a c.in-Some.width = c.after-after.ensures.rest ∙ ap (beyond a) c.from-2.ensures in
    let less : a.position < b.position = omega (arith, ap (λ (x : BufferedBits). x.position) rest, c.in-Some.ensures.least) in
    IfOk-weaker c.open_placed.result (λ (found : Option Step). StepsHere opens limits.depth m b found n) (λ (found : Option Step). IfSome found (λ (step : Step). a.position < bit_after step))
    (λ found steps. moved_here opens limits.depth m a b found n less steps)
    c.open_placed.ensures

pub returns-clause-steps : goal.returns-clause-steps
returns-clause-steps c =
    let m = c.args.self.now in
    let a = placed c.args.bits in
    let b = placed c.after-after.result in
    let width = c.in-Some.width in
    let rest : b ≡ beyond a width = c.after-after.ensures.rest ∙ ap (beyond a) c.from-2.ensures in
    let none : c.fixed-id.result ≡ 0 = omega (arith, c.if-id-eq1.false, c.if-id-gt1.false) in
    let id : Reads (fixed width) a 0 b = subst (λ (k : ℕ). Reads (fixed width) a k b) none (subst (Reads (fixed width) a c.fixed-id.result) (sym rest) c.fixed-id.ensures) in
    step_ends c.args.limits.now m width a b c.end_placed.result c.end_placed.new.self c.in-Some.ensures.inside id c.end_placed.ensures.outside c.end_placed.ensures.stays (c.end_placed.ensures.steps c.args.limits.now.depth)

pub returns-clause-moves : goal.returns-clause-moves
returns-clause-moves c =
    let a = placed c.args.bits in
    let b = placed c.after-after.result in
    let rest : b ≡ beyond a c.in-Some.width = c.after-after.ensures.rest ∙ ap (beyond a) c.from-2.ensures in
    let less : a.position < b.position = omega (arith, ap (λ (x : BufferedBits). x.position) rest, c.in-Some.ensures.least) in
    behind_id c.end_placed.result a.position b.position less c.end_placed.ensures.moves
