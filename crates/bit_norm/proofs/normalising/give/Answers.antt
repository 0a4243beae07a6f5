use Rattle.std.proofs.Common.{◌≡◌, ◌+◌, ◌/◌, ◌≤◌, ℕ, Bool, List, Ok, Err, ap, sym, subst, ◌∙◌, arith}
use Rattle.bit_grammar.specs.Size.{size_of}
use Rattle.bit_fields.specs.Writer.{Writer, Wrote, Writes}
use Rattle.bit_norm.proofs.Gains.{form_written, form_lost, between}
use Rattle.bit_norm.proofs.Forms.{form_bits, form_bytes}
use Rattle.bit_norm.proofs.normalising.give.Goals as goal

pub returns-in-Ok : goal.returns-in-Ok
returns-in-Ok g c = λ tree limit magic text few.
    let a = c.new-writer.result in
    let b = c.write_text.new.writer in
    let count : 4 + c.len.result / 8 ≡ size_of tree = ap (λ (n : ℕ). 4 + n / 8) c.len.ensures ∙ form_bytes tree c.args.text text in
    let fits : 4 + c.len.result / 8 ≤ limit = omega (arith, few, c.len.ensures) in
    let wrote = subst (λ (s : List Bool). Wrote a s b) (sym (form_bits tree _ c.args.text magic text)) c.in-Ok.ensures.writes in
    between tree limit (Ok (4 + c.len.result / 8)) a.outgoing (g.K.Sink.outgoing c.args.sink) b.outgoing (g.K.Sink.outgoing c.into_sink.result) (ap (λ (w : Writer). w.outgoing) c.new-writer.ensures ∙ c.expect.ensures) (sym c.into_sink.ensures)
    (form_written tree limit (4 + c.len.result / 8) a b count fits (ap (λ (w : Writer). w.held) c.new-writer.ensures) c.in-Ok.ensures.all wrote)

pub returns-in-Err : goal.returns-in-Err
returns-in-Err g c = λ tree limit magic text few.
    let a = c.new-writer.result in
    let b = c.write_text.new.writer in
    let count : 4 + c.len.result / 8 ≡ size_of tree = ap (λ (n : ℕ). 4 + n / 8) c.len.ensures ∙ form_bytes tree c.args.text text in
    let fits : 4 + c.len.result / 8 ≤ limit = omega (arith, few, c.len.ensures) in
    let lost = subst (λ (s : List Bool). Writes s a (Err c.in-Err.fault) b) (sym (form_bits tree _ c.args.text magic text)) c.in-Err.ensures.writes in
    between tree limit (Err c.in-Err.fault) a.outgoing (g.K.Sink.outgoing c.args.sink) b.outgoing (g.K.Sink.outgoing c.into_sink-in-Err.result) (ap (λ (w : Writer). w.outgoing) c.new-writer.ensures ∙ c.expect.ensures) (sym c.into_sink-in-Err.ensures)
    (form_lost tree limit (4 + c.len.result / 8) a b c.in-Err.fault count fits (ap (λ (w : Writer). w.live) c.new-writer.ensures) (ap (λ (w : Writer). w.held) c.new-writer.ensures) lost)
