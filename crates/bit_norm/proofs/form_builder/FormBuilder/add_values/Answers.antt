use Rattle.std.proofs.Common.{◌/◌, ◌<◌, ◌++◌, Bool, length, refl, ap, subst, ◌∙◌, arith, length-append}
use Rattle.std.proofs.lemmas.Result.{on_ok_weaker}
use Rattle.bit_norm.specs.Building.{record_left, GrowsTo}
use Rattle.bit_norm.specs.Writing.{record_text}
use Rattle.bit_norm.specs.declared.form_builder.FormBuilder.{FormBuilder}
use Rattle.bit_norm.proofs.Building.{record_added, record_cut, record_idle}
use Rattle.bit_norm.proofs.form_builder.FormBuilder.add_values.Goals as goal

pub returns-then-is_idle : goal.returns-then-is_idle
returns-then-is_idle c = λ first done mark code_is values_are was some.
    record_idle first c.args.self.now done mark was (λ short. ap (record_left c.args.self.now.standing) code_is ∙ c.is_idle.ensures.yes c.if-is_idle.true short)

pub returns-then-is_long : goal.returns-then-is_long
returns-then-is_long c =
    let old = c.args.self.now in
    let more = record_text c.args.code c.args.values.now 0 in
    let over : old.limits.bytes < length (old.text ++ more) / 8 = omega (arith, c.is_long.ensures.yes c.if-is_long.true, length-append old.text more) in
    record_cut c.args.code c.args.values.now old c.stop.new.self (c.is_idle.ensures.short c.if-is_idle.false) (c.is_idle.ensures.inside c.if-is_idle.false) c.stop.ensures.standing c.stop.ensures.limits c.stop.ensures.long over

pub returns-then-values-le-PIECE : goal.returns-then-values-le-PIECE
returns-then-values-le-PIECE c =
    let old = c.args.self.now in
    let new : FormBuilder = record { alloc = old.alloc; standing = old.standing; limits = old.limits; text = c.add_short_record.new.text; holes = old.holes; long = old.long } in
    on_ok_weaker c.add_short_record.result
    (λ added. record_added c.args.code c.args.values.now old new (c.is_idle.ensures.short c.if-is_idle.false) (c.is_idle.ensures.inside c.if-is_idle.false) (refl, refl) refl refl added)
    c.add_short_record.ensures

pub returns-then-branch : goal.returns-then-branch
returns-then-branch c =
    let old = c.args.self.now in
    let new : FormBuilder = record { alloc = old.alloc; standing = old.standing; limits = old.limits; text = c.add_pieces.new.text; holes = old.holes; long = old.long } in
    let added = subst (λ (whole : Bool). GrowsTo (old.text ++ record_text c.args.code c.args.values.now (length old.text)) old.limits.bytes whole new.text) c.if-branch.true c.in_ok-add_pieces.ensures in
    record_added c.args.code c.args.values.now old new (c.is_idle.ensures.short c.if-is_idle.false) (c.is_idle.ensures.inside c.if-is_idle.false) (refl, refl) refl refl added

pub returns : goal.returns
returns c =
    let old = c.args.self.now in
    let over = subst (λ (whole : Bool). GrowsTo (old.text ++ record_text c.args.code c.args.values.now (length old.text)) old.limits.bytes whole c.add_pieces.new.text) c.if-branch.false c.in_ok-add_pieces.ensures in
    record_cut c.args.code c.args.values.now old c.stop-2.new.self (c.is_idle.ensures.short c.if-is_idle.false) (c.is_idle.ensures.inside c.if-is_idle.false) c.stop-2.ensures.standing c.stop-2.ensures.limits c.stop-2.ensures.long over
