use Rattle.std.proofs.lemmas.Result.{err_from_is_err_and}
use Rattle.bit_fields.proofs.Starting.{wrapper_version, wrapper_offset, wrapper_size, wrapper_cpu, wrapper_took}
use Rattle.bit_fields.proofs.reader.BitReader.wrapper.Goals as goal

pub returns-in_err-version-clause-takes : goal.returns-in_err-version-clause-takes
returns-in_err-version-clause-takes g c =
    let p = err_from_is_err_and c.from_residual.result c.from_residual.ensures.1 in
    rw (p.1, p.2) (wrapper_version c.args.self.now c.in_err-version.field-0.0 c.version.new.self c.in_err-version.ensures.takes)

pub returns-in_err-offset-clause-takes : goal.returns-in_err-offset-clause-takes
returns-in_err-offset-clause-takes g c =
    let p = err_from_is_err_and c.from_residual-in_err-offset.result c.from_residual-in_err-offset.ensures.1 in
    rw (p.1, p.2) (wrapper_offset c.args.self.now c.version.new.self c.in_err-offset.field-0.0 c.offset.new.self c.in_ok-version.ensures.takes c.in_err-offset.ensures.takes)

pub returns-in_err-size-clause-takes : goal.returns-in_err-size-clause-takes
returns-in_err-size-clause-takes g c =
    let p = err_from_is_err_and c.from_residual-in_err-size.result c.from_residual-in_err-size.ensures.1 in
    rw (p.1, p.2) (wrapper_size c.args.self.now c.version.new.self c.in_ok-offset.offset c.offset.new.self c.in_err-size.field-0.0 c.fixed.new.self c.in_ok-version.ensures.takes c.in_ok-offset.ensures.takes c.in_err-size.ensures.takes)

pub returns-in_err-cpu-clause-takes : goal.returns-in_err-cpu-clause-takes
returns-in_err-cpu-clause-takes g c =
    let p = err_from_is_err_and c.from_residual-in_err-cpu.result c.from_residual-in_err-cpu.ensures.1 in
    rw (p.1, p.2) (wrapper_cpu c.args.self.now c.version.new.self c.in_ok-offset.offset c.offset.new.self c.in_ok-size.size c.fixed.new.self c.in_err-cpu.field-0.0 c.fixed-2.new.self c.in_ok-version.ensures.takes c.in_ok-offset.ensures.takes c.in_ok-size.ensures.takes c.in_err-cpu.ensures.takes)

pub returns-clause-takes : goal.returns-clause-takes
returns-clause-takes g c = wrapper_took c.args.self.now c.version.new.self c.in_ok-offset.offset c.offset.new.self c.in_ok-size.size c.fixed.new.self c.in_ok-cpu.cpu c.fixed-2.new.self c.in_ok-version.ensures.takes c.in_ok-offset.ensures.takes c.in_ok-size.ensures.takes c.in_ok-cpu.ensures.takes
