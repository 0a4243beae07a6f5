-- The limit on values: a record keeps to its room, and is spelled in every room that is large enough.
use Rattle.std.proofs.Common.{◌≡◌, ℕ, zero, suc, ◌+◌, ◌-◌, ◌≤◌, Bool, List, [], ◌∷◌, length, get_or, ap, ◌∙◌, arith, inl, inr}
use Rattle.std.proofs.lemmas.Bool.{leb-true}
use Rattle.bit_grammar.specs.declared.op.Op.{Op}
use Rattle.bit_grammar.specs.declared.op.Op.TheVariants.{Literal, Fixed, Vbr, Array, Char6, Blob}
use Rattle.bit_grammar.specs.Grammar.{Grammar, gives, ◌>>=◌, repeat, Spells}
use Rattle.bit_grammar.specs.Record.{value_count, unabbreviated, scalar, singles, values_of, abbreviated}
use Rattle.bit_grammar.specs.Terms.{CodeAndValues}
use Rattle.bit_grammar.specs.Blocks.{Scope, by_definition, entry}
use Rattle.bit_grammar.proofs.Readings.Wholes.{is_le}

-- ---- records

-- A rule keeps to the room that it is given, and spells the same in all rooms that are large enough.
pub record Bounded (rule : ℕ → Grammar CodeAndValues) : Type 0 where
  pub within : (room p : ℕ) (s : List Bool) (e : CodeAndValues) → Spells (rule room) p s e → length e.values ≤ room
  pub again : (room other p : ℕ) (s : List Bool) (e : CodeAndValues) → Spells (rule room) p s e → length e.values ≤ other → Spells (rule other) p s e

count_within : (room p : ℕ) (s : List Bool) (n : ℕ) → Spells (value_count room) p s n → n ≤ room
unfolding value_count
count_within room p s n k = let t = k.5.5 in omega (arith, leb-true _ _ t.4.1, t.5.1)

count_again : (room other p : ℕ) (s : List Bool) (n : ℕ) → Spells (value_count room) p s n → n ≤ other → Spells (value_count other) p s n
unfolding value_count
count_again room other p s n k fits =
    let v = k.5 in
    let t = v.5 in
    let count : n ≡ v.2 = t.5.1 in
    (k.0, k.1, k.2, k.3, k.4, (v.0, v.1, v.2, v.3, v.4, (t.0, t.1, t.2, t.3, (t.4.0, is_le v.2 other (omega (arith, fits, count))), t.5)))

repeat_length : {A : Type 0} (n : ℕ) (rule : Grammar A) (p : ℕ) (s : List Bool) (xs : List A) → Spells (repeat n rule) p s xs → length xs ≡ n
repeat_length zero rule p s xs k = ap length k.1
repeat_length (suc n) rule p s xs k = ap length k.5.5.1 ∙ ap suc (repeat_length n rule _ _ k.5.2 k.5.4)

pub unabbreviated_bounded : Bounded unabbreviated
unfolding unabbreviated
unabbreviated_bounded = record {
  within = λ room p s e k.
      let c = k.5 in
      let v = c.5 in
      let is : length e.values ≡ length v.2 = ap (λ (x : CodeAndValues). length x.values) v.5.1 in
      omega (arith, is, repeat_length c.2 _ _ v.0 v.2 v.4, count_within room _ c.0 c.2 c.4);
  again = λ room other p s e k fits.
      let c = k.5 in
      let v = c.5 in
      let is : length e.values ≡ length v.2 = ap (λ (x : CodeAndValues). length x.values) v.5.1 in
      let len : length v.2 ≡ c.2 = repeat_length c.2 _ _ v.0 v.2 v.4 in
      (k.0, k.1, k.2, k.3, k.4, (c.0, c.1, c.2, c.3, count_again room other _ c.0 c.2 c.4 (omega (arith, is, len, fits)), v));
}

-- the values of operands, with room for some beyond those of the single operands
pub record ValuesBounded (room : ℕ) (ops : List Op) (p : ℕ) (s : List Bool) (vs : List ℕ) : Type 0 where
  pub some : singles ops ≤ length vs
  pub within : length vs ≤ singles ops + room
  pub again : (other : ℕ) → length vs ≤ singles ops + other → Spells (values_of other ops) p s vs

one_bounded : (room : ℕ) (op : Op) (others : List Op) (p : ℕ) (s : List Bool) (vs : List ℕ)
    → (k : Spells (scalar op >>= λ value. values_of room others >>= λ values. gives (value ∷ values)) p s vs)
    → ValuesBounded room others (p + length k.0) k.5.0 k.5.2
    → (suc (singles others) ≤ length vs) × (length vs ≤ suc (singles others) + room)
    × ((other : ℕ) → length vs ≤ suc (singles others) + other → Spells (scalar op >>= λ value. values_of other others >>= λ values. gives (value ∷ values)) p s vs)
one_bounded room op others p s vs k b =
    let v = k.5 in
    let len : length vs ≡ suc (length v.2) = ap length v.5.1 in
    (omega (arith, len, b.some), omega (arith, len, b.within), λ other fits. (k.0, k.1, k.2, k.3, k.4, (v.0, v.1, v.2, v.3, b.again other (omega (arith, len, fits)), v.5)))

values_bounded : (room : ℕ) (ops : List Op) (p : ℕ) (s : List Bool) (vs : List ℕ) → Spells (values_of room ops) p s vs → ValuesBounded room ops p s vs
unfolding values_of
values_bounded room [] p s vs k = record { some = omega arith; within = omega (arith, ap length k.1); again = λ other fits. k }
values_bounded room (Array ∷ []) p s vs k = record { some = omega arith; within = omega (arith, ap length k.1); again = λ other fits. k }
values_bounded room (Array ∷ element ∷ others) p s vs k =
    let len = repeat_length k.2 _ _ k.1 vs k.5 in
    record {
      some = omega arith;
      within = omega (arith, len, count_within room p k.0 k.2 k.4);
      again = λ other fits. (k.0, k.1, k.2, k.3, count_again room other p k.0 k.2 k.4 (omega (arith, len, fits)), k.5);
    }
values_bounded room (Blob ∷ others) p s vs k =
    let v = k.5.5 in
    let len = repeat_length k.2 _ _ v.0 v.2 v.4 in
    let is : length vs ≡ length v.2 = ap length v.5.5.1 in
    record {
      some = omega arith;
      within = omega (arith, is, len, count_within room p k.0 k.2 k.4);
      again = λ other fits. (k.0, k.1, k.2, k.3, count_again room other p k.0 k.2 k.4 (omega (arith, is, len, fits)), k.5);
    }
values_bounded room (Literal n ∷ others) p s vs k = let b = one_bounded room (Literal n) others p s vs k (values_bounded room others _ k.5.0 k.5.2 k.5.4) in record { some = b.0; within = b.1; again = b.2 }
values_bounded room (Fixed n ∷ others) p s vs k = let b = one_bounded room (Fixed n) others p s vs k (values_bounded room others _ k.5.0 k.5.2 k.5.4) in record { some = b.0; within = b.1; again = b.2 }
values_bounded room (Vbr n ∷ others) p s vs k = let b = one_bounded room (Vbr n) others p s vs k (values_bounded room others _ k.5.0 k.5.2 k.5.4) in record { some = b.0; within = b.1; again = b.2 }
values_bounded room (Char6 ∷ others) p s vs k = let b = one_bounded room Char6 others p s vs k (values_bounded room others _ k.5.0 k.5.2 k.5.4) in record { some = b.0; within = b.1; again = b.2 }

pub abbreviated_within : (start : ℕ) (ops : List Op) (room p : ℕ) (s : List Bool) (e : CodeAndValues) → Spells (abbreviated start room ops) p s e → length e.values ≤ room
unfolding abbreviated
abbreviated_within start [] room p s e k = omega (arith, ap (λ (x : CodeAndValues). length x.values) k.1)
abbreviated_within start (op ∷ others) room p s e k =
    let v = k.5.5 in
    let is : length e.values ≡ length v.2 = ap (λ (x : CodeAndValues). length x.values) v.5.1 in
    omega (arith, is, leb-true _ _ k.4.1, (values_bounded (room - singles others) others _ v.0 v.2 v.4).within)

abbreviated_again : (start : ℕ) (ops : List Op) (room other p : ℕ) (s : List Bool) (e : CodeAndValues) → Spells (abbreviated start room ops) p s e → length e.values ≤ other → Spells (abbreviated start other ops) p s e
unfolding abbreviated
abbreviated_again start [] room other p s e k fits = k
abbreviated_again start (op ∷ others) room other p s e k fits =
    let c = k.5 in
    let v = c.5 in
    let is : length e.values ≡ length v.2 = ap (λ (x : CodeAndValues). length x.values) v.5.1 in
    let b = values_bounded (room - singles others) others _ v.0 v.2 v.4 in
    let some : singles others ≤ other = omega (arith, is, b.some, fits) in
    (k.0, k.1, k.2, k.3, (k.4.0, is_le (singles others) other some), (c.0, c.1, c.2, c.3, c.4, (v.0, v.1, v.2, v.3, b.again (other - singles others) (omega (arith, is, fits, some)), v.5)))

defined_bounded : (first : ℕ) (ops : List Op) → Bounded (λ room. by_definition first room ops)
unfolding by_definition
defined_bounded first ops = record {
  within = λ room p s e k. abbreviated_within first ops room _ k.1 e k.5;
  again = λ room other p s e k fits. (k.0, k.1, k.2, k.3, k.4, abbreviated_again first ops room other _ k.1 e k.5 fits);
}

pub record EntryFitted (limit used : ℕ) (e : CodeAndValues) (Again : ℕ → Type 0) : Type 0 where
  pub within : used ≤ limit → used + length e.values ≤ limit
  pub again : (b : ℕ) → used + length e.values ≤ b → Again b

pub entry_fitted : (limit first id : ℕ) (scope : Scope) (p : ℕ) (s : List Bool) (e : CodeAndValues) → Spells (entry (limit - scope.handed.used) first id scope.definitions) p s e → EntryFitted limit scope.handed.used e (λ b. Spells (entry (b - scope.handed.used) first id scope.definitions) p s e)
unfolding entry
entry_fitted limit first id scope p s e (inl k) = record {
  within = λ fits. omega (arith, fits, unabbreviated_bounded.within _ p s e k.1);
  again = λ b fits. inl (k.0, unabbreviated_bounded.again _ (b - scope.handed.used) p s e k.1 (omega (arith, fits)));
}
entry_fitted limit first id scope p s e (inr (other, inl k)) =
    let bounded = defined_bounded first (get_or scope.definitions (id - 4) []) in
    record {
      within = λ fits. omega (arith, fits, bounded.within _ p s e k.1);
      again = λ b fits. inr (other, inl (k.0, bounded.again _ (b - scope.handed.used) p s e k.1 (omega (arith, fits))));
    }
entry_fitted limit first id scope p s e (inr (other, inr k)) = absurd k.1
