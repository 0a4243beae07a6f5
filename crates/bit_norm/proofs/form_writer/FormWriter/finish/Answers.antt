use Rattle.std.proofs.Common.{◌<◌, ◌≤◌, ◌+◌, ◌/◌, map, length, refl, ap, sym, ◌∙◌, arith}
use Rattle.bit_grammar.specs.Blocks.{Limits}
use Rattle.bit_grammar.specs.Size.{size_of}
use Rattle.bit_norm.specs.Building.{form_of}
use Rattle.bit_norm.specs.Telling.{event_of, tree_told}
use Rattle.bit_norm.proofs.Forms.{form_bytes}
use Rattle.bit_norm.proofs.Telling.{form_told, none_open, told_fit}
use Rattle.bit_norm.proofs.form_writer.FormWriter.finish.Goals as goal

pub returns-then-len-ne0-clause-form : goal.returns-then-len-ne0-clause-form
returns-then-len-ne0-clause-form g c = λ calls was.
    let told = c.in-Some.ensures.form was.first (map event_of calls) was.form (none_open calls c.args.self was c.requires) in
    absurd (omega (arith, told.1, c.len.ensures, c.if-len-ne0.true))

pub returns-then-len-ne0-clause-fit : goal.returns-then-len-ne0-clause-fit
returns-then-len-ne0-clause-fit g c = λ calls was. told_fit calls c.args.self was

pub returns-else-len-ne0-clause-form : goal.returns-else-len-ne0-clause-form
returns-else-len-ne0-clause-form g c = λ calls was.
    let told = c.in-Some.ensures.form was.first (map event_of calls) was.form (none_open calls c.args.self was c.requires) in
    let few : 4 + length c.in-Some.text / 8 ≤ c.args.self.limits.bytes = omega (arith, told.2, ap (λ (l : Limits). l.bytes) was.limits) in
    c.give.ensures (tree_told c.args.self.magic calls) c.args.self.limits.bytes refl (form_told was.first calls was.keeps ∙ sym told.0) few

pub returns-else-len-ne0-clause-fit : goal.returns-else-len-ne0-clause-fit
returns-else-len-ne0-clause-fit g c = λ calls was. told_fit calls c.args.self was

pub returns-in-None-clause-form : goal.returns-in-None-clause-form
returns-in-None-clause-form g c = λ calls was.
    let told = c.in-None.ensures.form was.first (map event_of calls) was.form (none_open calls c.args.self was c.requires) in
    let tree = tree_told c.args.self.magic calls in
    let over : c.args.self.limits.bytes < size_of tree = omega (arith, told, ap (λ (l : Limits). l.bytes) was.limits, form_bytes tree (form_of was.first (map event_of calls)) (form_told was.first calls was.keeps)) in
    (over, refl)

pub returns-in-None-clause-fit : goal.returns-in-None-clause-fit
returns-in-None-clause-fit g c = λ calls was. told_fit calls c.args.self was
