use Rattle.std.proofs.Common.{ℕ, Err, subst}
use Rattle.std.proofs.lemmas.Result.{err_from_is_err_and}
use Rattle.bit_grammar.specs.Bits.{bits_of}
use Rattle.bit_grammar.specs.FormatFields.{shortest}
use Rattle.bit_grammar.specs.Normal.{Text, put, chain, padding, head_text}
use Rattle.bit_fields.specs.Writer.{Writer, Wrote, Writes}
use Rattle.bit_norm.specs.Writing.{HasRoom}
use Rattle.bit_norm.proofs.Going.{Goes, goes_starts, goes_on, goes_wrong}
use Rattle.bit_norm.proofs.Texts.{front_text}
use Rattle.bit_norm.proofs.writing.write_head.Goals as goal

-- what remains before the padding, and before the width
abbrev from_pad : ℕ → Text
from_pad words = chain padding (put (bits_of 32 words))

abbrev from_width : ℕ → Text
from_width words = chain (put (shortest 4 2)) (from_pad words)

before_id : (id words : ℕ) (w a : Writer) → HasRoom w (front_text id words w.position) → Wrote w (bits_of 2 1) a → Goes (front_text id words w.position) w (head_text id words) a
before_id id words w a room x = goes_on (front_text id words w.position) w (put (bits_of 2 1)) (head_text id words) w a (goes_starts (front_text id words) w room) x

before_width : (id words : ℕ) (w a b : Writer) → HasRoom w (front_text id words w.position) → Wrote w (bits_of 2 1) a → Wrote a (shortest 8 id) b → Goes (front_text id words w.position) w (from_width words) b
before_width id words w a b room x y = goes_on (front_text id words w.position) w (put (shortest 8 id)) (from_width words) a b (before_id id words w a room x) y

before_pad : (id words : ℕ) (w a b d : Writer) → HasRoom w (front_text id words w.position) → Wrote w (bits_of 2 1) a → Wrote a (shortest 8 id) b → Wrote b (shortest 4 2) d → Goes (front_text id words w.position) w (from_pad words) d
before_pad id words w a b d room x y z = goes_on (front_text id words w.position) w (put (shortest 4 2)) (from_pad words) b d (before_width id words w a b room x y) z

pub returns-in_err-fixed : goal.returns-in_err-fixed
returns-in_err-fixed g c =
    let w = c.args.writer.now in
    let p = err_from_is_err_and c.from_residual.result c.from_residual.ensures.1 in
    rw (p.1, p.2)
    (goes_wrong (front_text c.args.id c.args.words w.position) w (put (bits_of 2 1)) (head_text c.args.id c.args.words) w c.fixed.new.self c.in_err-fixed.field-0.0 (goes_starts (front_text c.args.id c.args.words) w c.requires.room) c.in_err-fixed.ensures.writes)

pub returns-in_err-vbr : goal.returns-in_err-vbr
returns-in_err-vbr g c =
    let w = c.args.writer.now in
    let p = err_from_is_err_and c.from_residual-in_err-vbr.result c.from_residual-in_err-vbr.ensures.1 in
    rw (p.1, p.2)
    (goes_wrong (front_text c.args.id c.args.words w.position) w (put (shortest 8 c.args.id)) (from_width c.args.words) c.fixed.new.self c.vbr.new.self c.in_err-vbr.field-0.0 (before_id c.args.id c.args.words w c.fixed.new.self c.requires.room c.in_ok-fixed.ensures.writes) (subst (λ (n : ℕ). Writes (shortest 8 n) c.fixed.new.self (Err c.in_err-vbr.field-0.0) c.vbr.new.self) c.from.ensures c.in_err-vbr.ensures.writes))

pub returns-in_err-vbr-2 : goal.returns-in_err-vbr-2
returns-in_err-vbr-2 g c =
    let w = c.args.writer.now in
    let p = err_from_is_err_and c.from_residual-in_err-vbr-2.result c.from_residual-in_err-vbr-2.ensures.1 in
    let id : Wrote c.fixed.new.self (shortest 8 c.args.id) c.vbr.new.self = subst (λ (n : ℕ). Wrote c.fixed.new.self (shortest 8 n) c.vbr.new.self) c.from.ensures c.in_ok-vbr.ensures.writes in
    rw (p.1, p.2)
    (goes_wrong (front_text c.args.id c.args.words w.position) w (put (shortest 4 2)) (from_pad c.args.words) c.vbr.new.self c.vbr-2.new.self c.in_err-vbr-2.field-0.0 (before_width c.args.id c.args.words w c.fixed.new.self c.vbr.new.self c.requires.room c.in_ok-fixed.ensures.writes id) c.in_err-vbr-2.ensures.writes)

pub returns-in_err-pad : goal.returns-in_err-pad
returns-in_err-pad g c =
    let w = c.args.writer.now in
    let p = err_from_is_err_and c.from_residual-in_err-pad.result c.from_residual-in_err-pad.ensures.1 in
    let id : Wrote c.fixed.new.self (shortest 8 c.args.id) c.vbr.new.self = subst (λ (n : ℕ). Wrote c.fixed.new.self (shortest 8 n) c.vbr.new.self) c.from.ensures c.in_ok-vbr.ensures.writes in
    rw (p.1, p.2)
    (goes_wrong (front_text c.args.id c.args.words w.position) w padding (put (bits_of 32 c.args.words)) c.vbr-2.new.self c.pad.new.self c.in_err-pad.field-0.0 (before_pad c.args.id c.args.words w c.fixed.new.self c.vbr.new.self c.vbr-2.new.self c.requires.room c.in_ok-fixed.ensures.writes id c.in_ok-vbr-2.ensures.writes) c.in_err-pad.ensures.writes)

pub returns : goal.returns
returns g c =
    let w = c.args.writer.now in
    let id : Wrote c.fixed.new.self (shortest 8 c.args.id) c.vbr.new.self = subst (λ (n : ℕ). Wrote c.fixed.new.self (shortest 8 n) c.vbr.new.self) c.from.ensures c.in_ok-vbr.ensures.writes in
    let left = before_pad c.args.id c.args.words w c.fixed.new.self c.vbr.new.self c.vbr-2.new.self c.requires.room c.in_ok-fixed.ensures.writes id c.in_ok-vbr-2.ensures.writes in
    (goes_on (front_text c.args.id c.args.words w.position) w padding (put (bits_of 32 c.args.words)) c.vbr-2.new.self c.pad.new.self left c.in_ok-pad.ensures.writes).completes c.fixed-2.result c.fixed-2.new.self c.fixed-2.ensures.writes
