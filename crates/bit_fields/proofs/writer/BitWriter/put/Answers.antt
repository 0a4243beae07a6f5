use Rattle.std.proofs.Common.{◌≡◌, ◌≤◌, ◌*◌, true, length, take, sym, ap, ◌∙◌, subst, arith}
use Rattle.std.proofs.lemmas.List.{length-take, take-take}
use Rattle.bit_grammar.specs.Bits.{bits_of_bytes}
use Rattle.bit_fields.specs.Writer.{Writer}
use Rattle.bit_fields.proofs.WriterLaws.{wrote_some, took_no_byte, took_none}
use Rattle.bit_fields.proofs.writer.BitWriter.put.Goals as goal

pub returns-in-Ok-eq0-clause-lost : goal.returns-in-Ok-eq0-clause-lost
returns-in-Ok-eq0-clause-lost g c =
    let held : 8 * c.args.count ≤ length c.self.inside.window = subst (λ (w : Writer). 8 * c.args.count ≤ length w.held) (sym c.self.view_is) c.requires.held in
    let eight : length c.bytes-bytes.result ≡ 8 = c.bytes-bytes.ensures.length in
    rw (← c.self.view_is) (took_no_byte _ (g.K.Sink.outgoing c.put.new.self) c.in-Ok-eq0.field-0 (take c.args.count c.bytes-bytes.result) (subst (λ (w : Writer). w.live ≡ true) (sym c.self.view_is) c.requires.live) c.in-Ok-eq0.ensures c.in-Ok-eq0.field-0-test (omega (arith, length-take c.args.count c.bytes-bytes.result)))

pub returns-in-Ok-clause-wrote : goal.returns-in-Ok-clause-wrote
returns-in-Ok-clause-wrote g c =
    let held : 8 * c.args.count ≤ length c.self.inside.window = subst (λ (w : Writer). 8 * c.args.count ≤ length w.held) (sym c.self.view_is) c.requires.held in
    let fits = c.in-Ok.ensures.fits in
    let few : c.in-Ok.taken ≤ c.args.count = omega (arith, fits, length-take c.args.count c.bytes-bytes.result) in
    let there : 8 * c.in-Ok.taken ≤ length c.self.inside.window = omega arith in
    rw (← c.self.view_is) (wrote_some _ (g.K.Sink.outgoing c.put.new.self) c.in-Ok.taken (take c.args.count c.bytes-bytes.result) c.skip.new.self (subst (λ (w : Writer). w.live ≡ true) (sym c.self.view_is) c.requires.live) c.in-Ok.ensures c.in-Ok.taken-test.1
    (ap bits_of_bytes (take-take c.in-Ok.taken c.args.count c.bytes-bytes.result few) ∙ c.bytes-bytes.ensures.front c.in-Ok.taken there) c.skip.ensures)

pub returns-in-Err-clause-lost : goal.returns-in-Err-clause-lost
returns-in-Err-clause-lost g c = rw (← c.self.view_is) (took_none _ (g.K.Sink.outgoing c.put.new.self) (subst (λ (w : Writer). w.live ≡ true) (sym c.self.view_is) c.requires.live) c.in-Err.ensures)
