-- Judging how deep a tree goes.
use Rattle.std.proofs.Common.{◌≡◌, ℕ, suc, ◌-◌, ◌<◌, ◌^◌, false, max, nat_lt, List, [], ◌∷◌, get_or, arith, ap, sym, ◌∙◌}
use Rattle.std.proofs.lemmas.Bool.Decides.{nat_tests}
use Rattle.std.specs.List.{AllByRecursion}
use Rattle.bit_grammar.specs.Forest.{Forest, a_block, a_record, forest_depth}
use Rattle.bit_tree.specs.Judging.{InRange}

-- a block that is not too deep leaves the depth to what follows it
deep_past : (levels inner rest : ℕ) → (levels ≡ 0 → ⊥) → nat_lt (levels - 1) inner ≡ false → nat_lt levels (max (suc inner) rest) ≡ nat_lt levels rest
deep_past levels inner rest some h = grind (arith, nat_tests)

-- The rest of a forest determines whether it is too deep, and whether its numbers are in range.
pub record Tells (levels : ℕ) (whole rest : Forest) : Type 0 where
  pub depth : nat_lt levels (forest_depth rest) ≡ nat_lt levels (forest_depth whole)
  pub range : InRange rest → InRange whole

-- so does the rest after a block that is not too deep
pub after_block : (levels id : ℕ) (whole here inner rest : Forest) → here ≡ a_block id inner rest → id < 2 ^ 32 → (levels ≡ 0 → ⊥) →
    nat_lt (levels - 1) (forest_depth inner) ≡ false → InRange inner → Tells levels whole here → Tells levels whole rest
after_block levels id whole here inner rest is fits some shallow range told = record {
  depth = sym (deep_past levels (forest_depth inner) (forest_depth rest) some shallow) ∙ sym (ap (λ (f : Forest). nat_lt levels (forest_depth f)) is) ∙ told.depth;
  range = λ rest_range. told.range (rw is (fits, range, rest_range));
}

-- and the rest after a record
pub after_record : (levels code : ℕ) (values : List ℕ) (whole here rest : Forest) → here ≡ a_record code values rest → code < 2 ^ 64 →
    AllByRecursion (λ v. v < 2 ^ 64) values → Tells levels whole here → Tells levels whole rest
after_record levels code values whole here rest is fits range told = record {
  depth = sym (ap (λ (f : Forest). nat_lt levels (forest_depth f)) is) ∙ told.depth;
  range = λ rest_range. told.range (rw is (fits, range, rest_range));
}

pub all_of_each : (bound : ℕ) (values : List ℕ) → ((k : ℕ) → get_or values k 0 < bound) → AllByRecursion (λ v. v < bound) values
all_of_each bound [] h = tt
all_of_each bound (v ∷ values) h = (h 0, all_of_each bound values (λ k. h (suc k)))
