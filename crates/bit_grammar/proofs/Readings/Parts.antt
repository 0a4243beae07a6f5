-- The parts of what a rule spells.
use Rattle.std.proofs.Common.{◌≡◌, ℕ, ◌+◌, ◌⊎◌, Bool, true, false, List, [], ◌++◌, length, ap, sym, subst, ◌∙◌, arith, inl, inr}
use Rattle.std.proofs.lemmas.List.{append-nil}
use Rattle.bit_grammar.specs.Grammar.{Fault, Grammar, gives, position, test, choose, ◌>>=◌, Spells}
use Rattle.bit_grammar.proofs.Readings.Deciding.{position-first}
use Rattle.bit_grammar.proofs.NormalForms.SpelledParts.{Spelled}

-- the parts that two rules spell, one after another
pub record Both {A B : Type 0} (first : Grammar A) (second : A → Grammar B) (p : ℕ) (s : List Bool) (v : B) : Type 0 where
  pub front : List Bool
  pub others : List Bool
  pub value : A
  pub parts : s ≡ front ++ others
  pub one : Spelled first p front value
  pub two : Spelled (second value) (p + length front) others v

pub apart : {A B : Type 0} {first : Grammar A} {second : A → Grammar B} {p : ℕ} {s : List Bool} {v : B} → Spelled (first >>= second) p s v → Both first second p s v
apart h = (let k = h.is in record { front = k.0; others = k.1; value = k.2; parts = k.3; one = record { is = k.4 }; two = record { is = k.5 } })

-- the rule after a position
pub from_here : {A : Type 0} {after : ℕ → Grammar A} {p : ℕ} {s : List Bool} {v : A} → Spelled (position >>= after) p s v → Spelled (after p) p s v
from_here {after = after} {p = p} {s = s} {v = v} h = record { is = position-first after p s v h.is }

-- a judgement that held, and the rule after it
pub record Judged {A : Type 0} (holds : Bool) (rule : Grammar A) (p : ℕ) (s : List Bool) (v : A) : Type 0 where
  pub held : holds ≡ true
  pub then : Spelled rule p s v

pub after_judge : {A : Type 0} {holds : Bool} {why : Fault} {second : Unit {0} → Grammar A} {p : ℕ} {s : List Bool} {v : A} → Spelled (test holds why >>= second) p s v → Judged holds (second tt) p s v
after_judge {second = second} {p = p} {s = s} {v = v} h =
    let k = h.is in
    let none : k.0 ≡ [] = k.4.0 in
    let all : s ≡ k.1 = k.3 ∙ ap (λ (t : List Bool). t ++ k.1) none in
    let at_p : p + length k.0 ≡ p = omega (arith, ap length none) in
    record { held = k.4.1; then = record { is = subst (λ (t : List Bool). Spells (second tt) p t v) (sym all) (subst (λ (q : ℕ). Spells (second tt) q k.1 v) at_p k.5) } }

-- a value and no bits
pub is_given : {A : Type 0} {w : A} {p : ℕ} {s : List Bool} {v : A} → Spelled (gives w) p s v → (s ≡ []) × (v ≡ w)
is_given h = h.is

-- the rule that was chosen
pub chosen : {A : Type 0} {b : Bool} {one_rule other_rule : Grammar A} {p : ℕ} {s : List Bool} {v : A} → Spelled (choose b one_rule other_rule) p s v → ((b ≡ true) × Spelled one_rule p s v) ⊎ ((b ≡ false) × Spelled other_rule p s v)
chosen {b = b} {one_rule = one_rule} {other_rule = other_rule} {p = p} {s = s} {v = v} h = either h.is
  where
    either : ((b ≡ true) × Spells one_rule p s v) ⊎ ((b ≡ false) × Spells other_rule p s v) → ((b ≡ true) × Spelled one_rule p s v) ⊎ ((b ≡ false) × Spelled other_rule p s v)
    either (inl k) = inl (k.0, record { is = k.1 })
    either (inr k) = inr (k.0, record { is = k.1 })

-- a first part with nothing after it
pub ends : (s a b : List Bool) → s ≡ a ++ b → b ≡ [] → s ≡ a
ends s a b parts none = parts ∙ ap (λ (t : List Bool). a ++ t) none ∙ append-nil a

-- a value made of what a rule spells
pub record Image {A B : Type 0} (rule : Grammar A) (f : A → B) (p : ℕ) (s : List Bool) (v : B) : Type 0 where
  pub value : A
  pub one : Spelled rule p s value
  pub is : v ≡ f value

pub image : {A B : Type 0} {rule : Grammar A} {f : A → B} {p : ℕ} {s : List Bool} {v : B} → Spelled (rule >>= λ x. gives (f x)) p s v → Image rule f p s v
image {rule = rule} {p = p} {s = s} h =
    let k = apart h in
    let g = is_given k.two in
    record { value = k.value; one = subst (λ (t : List Bool). Spelled rule p t k.value) (sym (ends s k.front k.others k.parts g.0)) k.one; is = g.1 }
