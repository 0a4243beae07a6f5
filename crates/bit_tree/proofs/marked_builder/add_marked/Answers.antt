use Rattle.std.proofs.Common.{arith}
use Rattle.bit_tree.proofs.MarkedFlats.{flat_frames-set}
use Rattle.bit_tree.proofs.marked_builder.add_marked.Goals as goal

pub returns-in_ok-push-clause-items : goal.returns-in_ok-push-clause-items
returns-in_ok-push-clause-items c = λ some following.
    flat_frames-set c.args.frames.now.items _ c.in-Some.frame.now c.push.new.self c.args.item following (omega (arith, c.args.frames.now.ok.0)) c.in-Some.ensures.value c.in_ok-push.ensures.items
