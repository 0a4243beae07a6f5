use Rattle.std.proofs.Common.{◌≡◌, true, refl, sym, ◌∙◌}
use Rattle.bit_grammar.specs.Marks.{RecordMark}
use Rattle.bit_norm.specs.Telling.{holds, fits, place_of}
use Rattle.bit_norm.proofs.Telling.{told_more}
use Rattle.bit_norm.proofs.form_writer.FormWriter.record.Goals as goal

pub returns-in-Ok : goal.returns-in-Ok
returns-in-Ok c =
    let call = holds c.args.code c.args.values.now in
    let mark : RecordMark = record { abbreviation = 3; code = c.args.code; values = c.args.values.now; first = 0; after = 0 } in
    let there : fits c.args.self.now.limits (place_of c.args.self.now) call ≡ true = sym c.fits_record.ensures.fits ∙ c.if-not-fits_record.false in
    told_more call c.args.self.now _ c.if-self.false there (c.ranges.code.fits, c.known_values.ensures) (λ first done deepest was some. c.in-Ok.ensures first done mark refl refl was some) (rw c.behind_record-self.ensures refl) refl refl refl
