use Rattle.std.proofs.Common.{ℕ, Bool, List, [], ◌++◌, Err, subst}
use Rattle.std.proofs.lemmas.List.{append-nil}
use Rattle.std.proofs.lemmas.Result.{err_from_is_err_and}
use Rattle.bit_grammar.specs.Bits.{bits_of}
use Rattle.bit_fields.specs.Opening.{magic_number}
use Rattle.bit_fields.specs.Writer.{Wrote, Writes}
use Rattle.bit_fields.proofs.WriterLaws.{wrote_then, wrote_then_wrote, not_written}
use Rattle.bit_norm.proofs.normalising.write_text.Goals as goal

pub returns-in_err-fixed-clause-writes : goal.returns-in_err-fixed-clause-writes
returns-in_err-fixed-clause-writes g c =
    let p = err_from_is_err_and c.from_residual.result c.from_residual.ensures.1 in
    rw (p.1, p.2)
    (not_written (bits_of 32 (magic_number c.args.magic)) c.args.text c.args.writer.now c.in_err-fixed.field-0.0 c.fixed.new.self
    (subst (λ (n : ℕ). Writes (bits_of 32 n) c.args.writer.now (Err c.in_err-fixed.field-0.0) c.fixed.new.self) c.number_of_magic.ensures.magic c.in_err-fixed.ensures.writes))

pub returns-in_err-write-clause-writes : goal.returns-in_err-write-clause-writes
returns-in_err-write-clause-writes g c =
    let p = err_from_is_err_and c.from_residual-in_err-write.result c.from_residual-in_err-write.ensures.1 in
    let first : Wrote c.args.writer.now (bits_of 32 (magic_number c.args.magic)) c.fixed.new.self = subst (λ (n : ℕ). Wrote c.args.writer.now (bits_of 32 n) c.fixed.new.self) c.number_of_magic.ensures.magic c.in_ok-fixed.ensures.writes in
    rw (p.1, p.2) (wrote_then c.args.writer.now c.fixed.new.self c.write.new.writer (bits_of 32 (magic_number c.args.magic)) c.args.text (Err c.in_err-write.field-0.0) first c.in_err-write.ensures)

pub returns-clause-writes : goal.returns-clause-writes
returns-clause-writes g c =
    let magic = bits_of 32 (magic_number c.args.magic) in
    let first : Wrote c.args.writer.now magic c.fixed.new.self = subst (λ (n : ℕ). Wrote c.args.writer.now (bits_of 32 n) c.fixed.new.self) c.number_of_magic.ensures.magic c.in_ok-fixed.ensures.writes in
    let both : Wrote c.args.writer.now (magic ++ c.args.text) c.write.new.writer = wrote_then_wrote c.args.writer.now c.fixed.new.self c.write.new.writer magic c.args.text first c.in_ok-write.ensures in
    subst (λ (s : List Bool). Writes s c.args.writer.now c.finish.result c.finish.new.self) (append-nil (magic ++ c.args.text)) (wrote_then c.args.writer.now c.write.new.writer c.finish.new.self (magic ++ c.args.text) [] c.finish.result both c.finish.ensures.writes)
