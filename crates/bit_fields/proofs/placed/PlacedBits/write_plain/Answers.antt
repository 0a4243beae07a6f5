use Rattle.std.proofs.Common.{◌+◌}
use Rattle.bit_grammar.specs.Bits.{bits_of}
use Rattle.bit_fields.specs.Buffered.{BufferedBits}
use Rattle.bit_fields.specs.Pens.{KeepsFront, WritesPlain, WritesSixes}
use Rattle.bit_fields.specs.PlacedView.{placed}
use Rattle.bit_fields.proofs.Pens.{keeps_then}
use Rattle.bit_fields.proofs.WrittenSixes.{match_mapped, plain_written}
use Rattle.bit_fields.proofs.placed.PlacedBits.write_plain.Goals as goal

pub returns : goal.returns
returns c = λ room few. (
    let a : BufferedBits = placed c.args.self in
    let count = c.args.count in
    let at = c.args.at in
    let pen = c.put-pen.result in
    let old = c.args.bytes.now in
    let mid = c.put-pen.new.bytes in
    let new = c.write_sixes.new.bytes in
    match_mapped c.write_sixes.result (KeepsFront pen mid new) (KeepsFront at old new) (λ done. WritesSixes (count + 2) a pen mid done.0 (placed done.1) new) (λ done. WritesPlain room count a at old done.0 (placed done.1) new)
    (λ keeps. keeps_then (bits_of 2 3) at pen old mid new c.put-pen.ensures keeps) (λ done w. plain_written room count at pen done.0 a (placed done.1) old mid new few c.requires.count c.put-pen.ensures w) c.write_sixes.ensures
    )
