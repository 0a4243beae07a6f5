use Rattle.std.proofs.Common.{List, sym, subst, arith}
use Rattle.bit_grammar.specs.Machine as machine
use Rattle.bit_grammar.specs.Machine.{step_of}
use Rattle.bit_fields.specs.Reader.{Takes, told_by}
use Rattle.bit_events.specs.HeadView.{head_shown}
use Rattle.bit_events.specs.FrameView.{frames_shown}
use Rattle.bit_events.specs.MachineView.{handed_shown, after_step}
use Rattle.bit_events.proofs.Stepping.{frames-none, innermost_of, kept_alone}
use Rattle.bit_events.proofs.machine.Machine.step.Goals as goal

pub returns-in-Some-clause-takes : goal.returns-in-Some-clause-takes
returns-in-Some-clause-takes g c =
    let inner = innermost_of (frames_shown c.args.self.now.frames.items) (head_shown c.in-Some.head) c.in-Some.ensures.head in
    let read = c.step_in.ensures.takes in (
      read.0,
      read.1,
      subst (λ (frames : List machine.Frame). Takes (step_of c.args.limits.now frames (handed_shown c.args.self.now)) c.args.reader.now (told_by (after_step c.step_in.new.self read.0) c.step_in.result) c.step_in.new.reader) (sym inner.split) (read.2 inner.f inner.outer inner.split inner.is),
    )

pub returns-in-None-clause-takes : goal.returns-in-None-clause-takes
returns-in-None-clause-takes g c = (
  c.requires.took.0,
  c.requires.took.1,
  subst (λ (frames : List machine.Frame). Takes (step_of c.args.limits.now frames (handed_shown c.args.self.now)) c.args.reader.now (told_by (after_step c.step_top.new.self c.requires.took.0) c.step_top.result) c.step_top.new.reader) (sym (frames-none c.args.self.now.frames.items (omega (arith, c.in-None.ensures.none, c.args.self.now.frames.ok.0)))) (c.step_top.ensures.takes c.requires.took.0),
)

pub returns-in-None-clause-keeps : goal.returns-in-None-clause-keeps
returns-in-None-clause-keeps g c = kept_alone c.args.values.now.taker c.step_top.result
