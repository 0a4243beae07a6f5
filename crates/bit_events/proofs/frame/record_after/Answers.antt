use Rattle.std.proofs.Common.{[], Ok, Err, arith}
use Rattle.std.proofs.lemmas.Result.{err_from_is_err_and}
use Rattle.bit_grammar.specs.Blocks.{entry}
use Rattle.bit_grammar.specs.Machine.{scope_of}
use Rattle.bit_events.specs.FrameView.{frame_shown, info_shown}
use Rattle.bit_events.proofs.Framing.{added, record_missed, record_wrong, record_took}
use Rattle.bit_events.proofs.frame.record_after.Goals as goal

pub returns-in_err-code-clause-takes : goal.returns-in_err-code-clause-takes
returns-in_err-code-clause-takes g c =
    let f = c.args.frame.now in
    let fault = c.in_err-code.field-0.0 in
    let read = c.in_err-code.ensures.adds [] c.requires.none in
    let missed = added (entry c.args.room c.args.first c.args.id f.definitions.all) c.args.room c.args.reader.now (Err fault) c.entry_in.new.reader read.0 read.2 in
    let p = err_from_is_err_and c.from_residual.result c.from_residual.ensures.1 in (
      read.0,
      read.1.0,
      λ limit handed is.
          rw (p.1, p.2) (record_missed limit c.args.first c.args.id (scope_of (frame_shown f) handed) c.args.reader.now fault c.entry_in.new.reader (rw is missed)),
    )

pub describe-requires : goal.describe-requires
describe-requires g c = (c.in_ok-code.ensures.adds [] c.requires.none).2.0.2.live

pub returns-in_err-describe-clause-takes : goal.returns-in_err-describe-clause-takes
returns-in_err-describe-clause-takes g c =
    let f = c.args.frame.now in
    let read = c.in_ok-code.ensures.adds [] c.requires.none in
    let coded = added (entry c.args.room c.args.first c.args.id f.definitions.all) c.args.room c.args.reader.now (Ok c.in_ok-code.code) c.entry_in.new.reader read.0 read.2 in
    let p = err_from_is_err_and c.from_residual-in_err-describe.result c.from_residual-in_err-describe.ensures.1 in (
      read.0,
      read.1.0,
      λ limit handed is.
          rw (p.1, p.2) (record_wrong limit c.args.first c.args.id (scope_of (frame_shown f) handed) c.args.reader.now (record { code = c.in_ok-code.code; values = read.0 }) c.entry_in.new.reader c.in_err-describe.field-0.0 c.describe.new.reader (rw is coded) (c.in_err-describe.ensures read.0 read.1.1)),
    )

pub returns-clause-takes : goal.returns-clause-takes
returns-clause-takes g c =
    let f = c.args.frame.now in
    let read = c.in_ok-code.ensures.adds [] c.requires.none in
    let coded = added (entry c.args.room c.args.first c.args.id f.definitions.all) c.args.room c.args.reader.now (Ok c.in_ok-code.code) c.entry_in.new.reader read.0 read.2 in (
      read.0,
      read.1.0,
      λ limit handed is.
          record_took limit c.args.first c.args.id (scope_of (frame_shown f) handed) c.args.reader.now (record { code = c.in_ok-code.code; values = read.0 }) c.entry_in.new.reader c.position-after.result (info_shown c.describe.new.info) c.describe.new.reader (rw is coded) c.position-after.ensures.position (c.in_ok-describe.ensures read.0 read.1.1),
    )

pub returns-clause-few : goal.returns-clause-few
returns-clause-few g c = (let read = c.in_ok-code.ensures.adds [] c.requires.none in (read.0, read.1.0, omega (arith, read.2.1)))
