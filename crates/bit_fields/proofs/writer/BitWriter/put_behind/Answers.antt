use Rattle.std.proofs.Common.{[], refl}
use Rattle.std.proofs.lemmas.Result.{err_from_is_err_and}
use Rattle.bit_grammar.specs.Bits.{bits_of_bytes}
use Rattle.bit_fields.proofs.WriterLaws.{wrote_nothing, lost_between}
use Rattle.bit_fields.proofs.writer.BitWriter.put_behind.Goals as goal

pub returns-in_err-put_all-clause-lost : goal.returns-in_err-put_all-clause-lost
returns-in_err-put_all-clause-lost g c =
    let p = err_from_is_err_and c.from_residual.result c.from_residual.ensures.1 in
    let bits = bits_of_bytes c.args.bytes.now in
    rw p.1 (lost_between c.args.self.now c.args.self.now c.put_all.new.self [] bits bits refl (wrote_nothing c.args.self.now c.requires.live) c.in_err-put_all.ensures.lost)
