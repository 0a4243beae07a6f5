-- The operands of a definition: its code, those that a plan takes, and those behind them.
use Rattle.std.proofs.Common.{◌≡◌, ℕ, ◌-◌, ◌≤◌, List, ◌∷◌, ◌++◌, length, take, drop, sym, ap, ◌∙◌, arith}
use Rattle.std.proofs.lemmas.List.{take_all, take-append-drop, length-drop}
use Rattle.bit_grammar.specs.declared.op.Op.{Op}
use Rattle.bit_grammar.specs.declared.op.Op.TheVariants.{Literal}

pub in_three : (ops others : List Op) (first : Op) (code n : ℕ) → ops ≡ first ∷ others → first ≡ Literal code → n ≤ length others → ops ≡ Literal code ∷ (take n others ++ take (length others - n) (drop n others))
in_three ops others first code n ops_are first_is within =
    let tail : List Op = take (length others - n) (drop n others) in
    let whole : tail ≡ drop n others = take_all (length others - n) (drop n others) (omega (arith, length-drop n others)) in
    let all : take n others ++ tail ≡ others = ap (λ (x : List Op). take n others ++ x) whole ∙ take-append-drop n others in
    ops_are ∙ ap (λ (x : Op). x ∷ others) first_is ∙ ap (λ (x : List Op). Literal code ∷ x) (sym all)
