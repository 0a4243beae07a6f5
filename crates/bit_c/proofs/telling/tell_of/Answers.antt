use Rattle.std.proofs.Common.{Some, ap, sym, ◌∙◌}
use Rattle.bit_c.specs.Telling.{call_of}
use Rattle.bit_c.proofs.Told.{handle_lost}
use Rattle.bit_c.proofs.telling.tell_of.Goals as goal

pub returns-in-Memory : goal.returns-in-Memory
returns-in-Memory c =
    handle_lost (call_of c.args.told) c.args.handle.now.inner.home c.take_out.new.handle.inner.home c.deref_mut.result.now c.tell_in.new.home (c.in-Some.ensures.told ∙ ap Some (sym c.deref_mut.ensures.value)) c.in-Some.ensures.closed
    c.in-Memory.ensures
