use Rattle.std.proofs.Common.{◌≡◌, true, [], drop, subst, sym}
use Rattle.bit_grammar.specs.Bits.{bits_of_bytes}
use Rattle.bit_fields.specs.Writer.{Writer}
use Rattle.bit_fields.proofs.BitLaws.{bits_of_bytes-take, bytes_dropped}
use Rattle.bit_fields.proofs.WriterLaws.{wrote_some, took_no_byte, took_none, lost_held}
use Rattle.bit_fields.proofs.writer.BitWriter.put_front.Goals as goal

pub returns-in-Ok-eq0-clause-lost : goal.returns-in-Ok-eq0-clause-lost
returns-in-Ok-eq0-clause-lost g c =
    rw (← c.self.view_is)
    (lost_held _ _ [] c.self.inside.window (took_no_byte _ (g.K.Sink.outgoing c.put.new.self) c.in-Ok-eq0.field-0 c.args.bytes.now (subst (λ (w : Writer). w.live ≡ true) (sym c.self.view_is) c.requires.live) c.in-Ok-eq0.ensures c.in-Ok-eq0.field-0-test c.requires.some))

pub returns-in-Ok-clause-wrote : goal.returns-in-Ok-clause-wrote
returns-in-Ok-clause-wrote g c =
    let bytes = c.args.bytes.now in
    let fits = c.in-Ok.ensures.fits in
    rw (← c.self.view_is)
    (wrote_some _ (g.K.Sink.outgoing c.put.new.self) c.in-Ok.count bytes (bits_of_bytes (drop c.in-Ok.count bytes)) (subst (λ (w : Writer). w.live ≡ true) (sym c.self.view_is) c.requires.live) c.in-Ok.ensures c.in-Ok.count-test.1 (bits_of_bytes-take c.in-Ok.count bytes fits) (bytes_dropped c.in-Ok.count bytes fits))

pub returns-in-Ok-clause-none : goal.returns-in-Ok-clause-none
returns-in-Ok-clause-none g c = subst (λ (w : Writer). w.held ≡ []) (sym c.self.view_is) c.requires.none

pub returns-in-Err-clause-lost : goal.returns-in-Err-clause-lost
returns-in-Err-clause-lost g c =
    rw (← c.self.view_is)
    (lost_held _ _ [] c.self.inside.window (took_none _ (g.K.Sink.outgoing c.put.new.self) (subst (λ (w : Writer). w.live ≡ true) (sym c.self.view_is) c.requires.live) c.in-Err.ensures))
