use Rattle.std.proofs.Common.{◌≡◌, true, false, [], ◌∷◌, ◌++◌, arith}
use Rattle.std.proofs.lemmas.Result.{on_ok_weaker}
use Rattle.bit_grammar.specs.Machine.{leaves}
use Rattle.bit_norm.proofs.Building.{formed, builds_end, ending, now_passed, some_hole}
use Rattle.bit_norm.proofs.form_builder.FormBuilder.close.Goals as goal

never : false ≡ true → ⊥
never e = absurd cc

pub returns-in_default-clause-form : goal.returns-in_default-clause-form
returns-in_default-clause-form c = λ done after was short some. absurd (never (c.in_default.ensures.variant.1 (some_hole done c.args.self.now (was.builds short) some)))

pub returns-then-is_long-clause-form : goal.returns-then-is_long-clause-form
returns-then-is_long-clause-form c = λ done after was short some.
    now_passed c.args.self.now c.stop.new.self done (leaves after) was short (c.is_long.ensures.yes c.if-is_long.true) c.stop.ensures.limits c.stop.ensures.long

pub returns-then-len-hole-clause-form : goal.returns-then-len-hole-clause-form
returns-then-len-hole-clause-form c = λ done after was short some.
    let old = c.args.self.now in
    let e = ending done old.text old.holes.items c.pop.new.self.items after c.in-Some.hole some c.in-Some.ensures.items (was.builds short) in
    absurd (omega (arith, e.there, c.if-len-hole.true, c.len.ensures))

pub returns-clause-form : goal.returns-clause-form
returns-clause-form c =
    let old = c.args.self.now in
    on_ok_weaker c.close_block.result
    (λ put done after was short some.
    formed old.limits.bytes (done ++ leaves after ∷ []) c.close_block.new.text c.pop.new.self.items old.long short (builds_end done old.text old.holes.items c.pop.new.self.items after c.in-Some.hole some c.in-Some.ensures.items c.close_block.new.text (was.builds short) put))
    c.close_block.ensures
