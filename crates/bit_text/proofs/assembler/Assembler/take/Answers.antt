use Rattle.std.proofs.Common.{◌+◌, refl, Ok, Err}
use Rattle.std.proofs.lemmas.Result.{err_from_is_err_and}
use Rattle.bit_text.proofs.Takings.{far_none, far_line, far_bytes, far_stopped, far_all, feed_there, ends_within}
use Rattle.bit_text.proofs.assembler.Assembler.take.Goals as goal

pub loop-to-init : goal.loop-to-init
loop-to-init c = record {
  next = c.line_end-to.ensures;
  far = λ now here. far_bytes now c.args.bytes.now 0 c.line_end-to.result c.args.self.now c.args.self.now c.line_end-to.ensures (far_none now c.args.bytes.now c.args.self.now here);
}

pub returns-in_err-end_line : goal.returns-in_err-end_line
returns-in_err-end_line c =
    let failed = err_from_is_err_and c.from_residual.result c.from_residual.ensures.1 in
    rw (failed.1, failed.2) (λ now here. far_stopped now c.args.bytes.now c.loop-to.from c.loop-to.to c.args.self.now c.loop-to.self c.end_line.new.self c.in_err-end_line.field-0.0 c.loop-to-test.true (feed_there c.args.bytes.now c.loop-to.from c.loop-to.to c.loop-to-test.true c.loop-to.invariant.next) (ends_within c.args.bytes.now c.loop-to.from c.loop-to.to c.loop-to.self c.end_line.new.self (Err c.in_err-end_line.field-0.0) c.in_err-end_line.ensures) (c.loop-to.invariant.far now here))

pub loop-to-preserved : goal.loop-to-preserved
loop-to-preserved c = record {
  next = c.line_end-to-in-loop-to.ensures;
  far = λ now here. far_bytes now c.args.bytes.now (c.loop-to.to + 1) c.line_end-to-in-loop-to.result c.args.self.now c.end_line.new.self c.line_end-to-in-loop-to.ensures
      (far_line now c.args.bytes.now c.loop-to.from c.loop-to.to c.args.self.now c.loop-to.self c.end_line.new.self c.loop-to-test.true (feed_there c.args.bytes.now c.loop-to.from c.loop-to.to c.loop-to-test.true c.loop-to.invariant.next) (ends_within c.args.bytes.now c.loop-to.from c.loop-to.to c.loop-to.self c.end_line.new.self (Ok tt) c.in_ok-end_line.ensures) (c.loop-to.invariant.far now here));
}

pub returns-in-Ok : goal.returns-in-Ok
returns-in-Ok c = λ now here. far_all now c.args.bytes.now c.loop-to.from c.loop-to.to c.args.self.now c.loop-to.self (record c.loop-to.self { line = c.extend_from_slice.new.self }) c.loop-to-test.false c.loop-to.invariant.next.high refl refl refl c.in-Ok.ensures.items (c.loop-to.invariant.far now here)
