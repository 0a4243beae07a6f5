use Rattle.std.proofs.lemmas.Result.{err_from_is_err_and}
use Rattle.bit_grammar.specs.Bits.{bits_of}
use Rattle.bit_grammar.specs.Normal.{put, padding, end_text}
use Rattle.bit_norm.proofs.Going.{goes_starts, goes_wrong}
use Rattle.bit_norm.proofs.writing.write_end.Goals as goal

pub returns-in_err-fixed : goal.returns-in_err-fixed
returns-in_err-fixed g c =
    let w = c.args.writer.now in
    let p = err_from_is_err_and c.from_residual.result c.from_residual.ensures.1 in
    rw (p.1, p.2) (goes_wrong (end_text w.position) w (put (bits_of 2 0)) padding w c.fixed.new.self c.in_err-fixed.field-0.0 (goes_starts end_text w c.requires) c.in_err-fixed.ensures.writes)
