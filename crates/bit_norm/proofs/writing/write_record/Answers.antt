use Rattle.std.proofs.Common.{ℕ, List, length}
use Rattle.std.proofs.lemmas.Result.{err_from_is_err_and}
use Rattle.bit_grammar.specs.Bits.{bits_of}
use Rattle.bit_grammar.specs.FormatFields.{shortest}
use Rattle.bit_grammar.specs.Normal.{Text, put, chain, values_bits, entry_text}
use Rattle.bit_fields.specs.Writer.{Writer, Wrote}
use Rattle.bit_norm.specs.Writing.{record_text, HasRoom}
use Rattle.bit_norm.proofs.Going.{Goes, goes_starts, goes_on, goes_wrong}
use Rattle.bit_norm.proofs.writing.write_record.Goals as goal

-- what remains before the number of values
abbrev from_count : List ℕ → Text
from_count values = chain (put (shortest 6 (length values))) (put (values_bits values))

before_code : (code : ℕ) (values : List ℕ) (w a : Writer) → HasRoom w (record_text code values w.position) → Wrote w (bits_of 2 3) a → Goes (record_text code values w.position) w (put (entry_text code values)) a
before_code code values w a room x = goes_on (record_text code values w.position) w (put (bits_of 2 3)) (put (entry_text code values)) w a (goes_starts (record_text code values) w room) x

before_count : (code : ℕ) (values : List ℕ) (w a b : Writer) → HasRoom w (record_text code values w.position) → Wrote w (bits_of 2 3) a → Wrote a (shortest 6 code) b → Goes (record_text code values w.position) w (from_count values) b
before_count code values w a b room x y = goes_on (record_text code values w.position) w (put (shortest 6 code)) (from_count values) a b (before_code code values w a room x) y

before_values : (code : ℕ) (values : List ℕ) (w a b d : Writer) → HasRoom w (record_text code values w.position) → Wrote w (bits_of 2 3) a → Wrote a (shortest 6 code) b → Wrote b (shortest 6 (length values)) d
    → Goes (record_text code values w.position) w (put (values_bits values)) d
before_values code values w a b d room x y z = goes_on (record_text code values w.position) w (put (shortest 6 (length values))) (put (values_bits values)) b d (before_count code values w a b room x y) z

pub returns-in_err-fixed : goal.returns-in_err-fixed
returns-in_err-fixed g c =
    let w = c.args.writer.now in
    let vs = c.args.values.now in
    let p = err_from_is_err_and c.from_residual.result c.from_residual.ensures.1 in
    rw (p.1, p.2)
    (goes_wrong (record_text c.args.code vs w.position) w (put (bits_of 2 3)) (put (entry_text c.args.code vs)) w c.fixed.new.self c.in_err-fixed.field-0.0 (goes_starts (record_text c.args.code vs) w c.requires) c.in_err-fixed.ensures.writes)

pub returns-in_err-vbr : goal.returns-in_err-vbr
returns-in_err-vbr g c =
    let w = c.args.writer.now in
    let vs = c.args.values.now in
    let p = err_from_is_err_and c.from_residual-in_err-vbr.result c.from_residual-in_err-vbr.ensures.1 in
    rw (p.1, p.2)
    (goes_wrong (record_text c.args.code vs w.position) w (put (shortest 6 c.args.code)) (from_count vs) c.fixed.new.self c.vbr.new.self c.in_err-vbr.field-0.0 (before_code c.args.code vs w c.fixed.new.self c.requires c.in_ok-fixed.ensures.writes) c.in_err-vbr.ensures.writes)

pub returns-in_err-vbr-2 : goal.returns-in_err-vbr-2
returns-in_err-vbr-2 g c =
    let w = c.args.writer.now in
    let vs = c.args.values.now in
    let p = err_from_is_err_and c.from_residual-in_err-vbr-2.result c.from_residual-in_err-vbr-2.ensures.1 in
    rw (p.1, p.2)
    (goes_wrong (record_text c.args.code vs w.position) w (put (shortest 6 (length vs))) (put (values_bits vs)) c.vbr.new.self c.vbr-2.new.self c.in_err-vbr-2.field-0.0 (before_count c.args.code vs w c.fixed.new.self c.vbr.new.self c.requires c.in_ok-fixed.ensures.writes c.in_ok-vbr.ensures.writes) c.in_err-vbr-2.ensures.writes)

pub write_values-requires : goal.write_values-requires
write_values-requires g c =
    (before_values c.args.code c.args.values.now c.args.writer.now c.fixed.new.self c.vbr.new.self c.vbr-2.new.self c.requires c.in_ok-fixed.ensures.writes c.in_ok-vbr.ensures.writes c.in_ok-vbr-2.ensures.writes).room

pub returns : goal.returns
returns g c =
    (before_values c.args.code c.args.values.now c.args.writer.now c.fixed.new.self c.vbr.new.self c.vbr-2.new.self c.requires c.in_ok-fixed.ensures.writes c.in_ok-vbr.ensures.writes c.in_ok-vbr-2.ensures.writes).completes c.write_values.result c.write_values.new.writer c.write_values.ensures
