use Rattle.std.proofs.Common.{◌≡◌, ℕ, ◌+◌, ◌-◌, ◌<◌, suc, List, ◌++◌, ◌∷◌, [], take, length, set, get_or, subst, sym, ap, refl, ◌∙◌, arith}
use Rattle.std.proofs.lemmas.List.{take_more_set}
use Rattle.std.proofs.Math.Seq.{take-suc}
use Rattle.bit_abbrev.specs.declared.plan.Pass.{Pass}
use Rattle.bit_abbrev.specs.Plans.{HasPasses, HasValues}
use Rattle.bit_grammar.specs.declared.op.Op.TheVariants.{Vbr}
use Rattle.bit_abbrev.proofs.Covering.{covers_longer}
use Rattle.bit_abbrev.proofs.plan.Passes.join.Goals as goal

-- the passes before the last one and the last one
last_set : (passes : List Pass) (count : _) (pass : Pass) → ◌≡◌ (suc (count - 1)) count → count - 1 < length passes → take count (set passes (count - 1) pass) ≡ take (count - 1) passes ++ pass ∷ []
last_set passes count pass next within = ap (λ k. take k (set passes (count - 1) pass)) (let e : count ≡ count - 1 + 1 = omega (arith, next) in e) ∙ take_more_set passes (count - 1) pass within

pub returns-clause-adds : goal.returns-clause-adds
returns-clause-adds c = λ made ops covers a len h there.
    let none : len ≡ len + c.args.self.now.after = omega arith in
    let old = c.args.self.now in
    let at = old.count - 1 in
    let last : Pass = get_or old.pass at c.index-self-at.result in
    let next : suc at ≡ old.count = omega arith in
    let within : at < length old.pass = omega arith in
    let was = ap (λ k. take k old.pass) (sym next) ∙ take-suc old.pass at c.index-self-at.result within in
    let same : last.width ≡ c.args.width = c.if-last-width.false in
    subst (λ (n : ℕ). HasValues (ops ++ Vbr n ∷ []) a (len + old.after)) same (subst (HasValues (ops ++ Vbr last.width ∷ []) a) none (covers_longer ops (take at old.pass) _ _ old.after a len (omega arith) refl refl refl (λ x before. covers a x (subst (λ (passes : List Pass). HasPasses passes a x) (sym was) before)) (subst (λ (passes : List Pass). HasPasses passes a len) (last_set old.pass old.count _ next within) h) (omega (arith, there))))
