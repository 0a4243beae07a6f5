-- A rule with a function of its value, and what it spells.
use Rattle.std.proofs.Common.{◌≡◌, ℕ, Bool, List, [], ◌++◌, refl, sym, ap, subst, ◌∙◌}
use Rattle.std.proofs.lemmas.List.{append-nil}
use Rattle.bit_grammar.specs.Grammar.{Grammar, gives, ◌>>=◌, Spells}

pub made : {A B : Type 0} (rule : Grammar A) (make : A → B) (p : ℕ) (s : List Bool) (v : B) → Spells (rule >>= λ x. gives (make x)) p s v → (x : A) × Spells rule p s x × (v ≡ make x)
made rule make p s v h =
    let all : s ≡ h.0 = h.3 ∙ ap (λ (t : List Bool). h.0 ++ t) h.5.0 ∙ append-nil h.0 in
    (h.2, subst (λ (t : List Bool). Spells rule p t h.2) (sym all) h.4, h.5.1)

pub made-spells : {A B : Type 0} (rule : Grammar A) (make : A → B) (p : ℕ) (s : List Bool) (x : A) → Spells rule p s x → Spells (rule >>= λ y. gives (make y)) p s (make x)
made-spells rule make p s x h = (s, [], x, sym (append-nil s), h, (refl, refl))
