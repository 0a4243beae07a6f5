-- Groups of definitions, and one definition more.
use Rattle.std.proofs.Common.{◌≡◌, ◌≢◌, ℕ, ◌+◌, ◌-◌, ◌<◌, ◌≤◌, zero, suc, true, false, cond, List, [], ◌∷◌, ◌++◌, length, Option, Some, refl, sym, ap, ◌∙◌, arith, inl, inr, nat_eq, slice_get, set}
use Rattle.std.specs.Option.{option_map_or}
use Rattle.std.proofs.lemmas.Bool.{cases_eq, eq-eqb, ne_eqb}
use Rattle.std.proofs.lemmas.List.{length-append, get_or_push, get_or-set_same}
use Rattle.std.proofs.Math.ListN.{length-set}
use Rattle.std.proofs.lemmas.Option.{slice_get-get_or, slice_get_past}
use Rattle.bit_grammar.specs.declared.op.Op.{Op}
use Rattle.bit_grammar.specs.Terms.{defined_at}
use Rattle.bit_abbrev.specs.Groups.{IsPlaceOf, ready_at, ready_for}
use Rattle.bit_abbrev.specs.HeldLists.{all_of}
use Rattle.bit_abbrev.specs.Ready.{last_one}
use Rattle.bit_abbrev.proofs.HeldLists.{all_and_one}

-- ---- definitions of one id

pub last_more : (xs : List (List Op)) (x : List Op) → last_one (xs ++ x ∷ []) ≡ Some x
last_more xs x =
    let one : length (xs ++ x ∷ []) ≡ length xs + 1 = length-append xs (x ∷ []) in
    slice_get-get_or (xs ++ x ∷ []) (length (xs ++ x ∷ []) - 1) x (omega (arith, one)) ∙ ap Some (get_or_push xs x x (length (xs ++ x ∷ []) - 1) (omega (arith, one)))

-- ---- groups

-- a group, and those behind it
behind : (one : ℕ × List (List Op)) (groups : List (ℕ × List (List Op))) (id place : ℕ) → IsPlaceOf (one ∷ groups) id (suc place) → IsPlaceOf groups id place
behind one groups id place is = record {
  within = omega (arith, is.within);
  before = λ i group below at. is.before (suc i) group (omega (arith, below)) at;
  here = λ group at. is.here group at;
}

apart : (one : ℕ × List (List Op)) (groups : List (ℕ × List (List Op))) (id place : ℕ) → IsPlaceOf (one ∷ groups) id (suc place) → one.0 ≢ id
apart one groups id place is = is.before zero one (omega arith) refl

-- a definition is added behind a group for another id
past : (one : ℕ × List (List Op)) (id other : ℕ) (ops : List Op) (new old : List (List Op)) → one.0 ≢ id → new ≡ cond (nat_eq other id) (old ++ ops ∷ []) old
    → cond (nat_eq other one.0) one.1 new ≡ cond (nat_eq other id) (cond (nat_eq other one.0) one.1 old ++ ops ∷ []) (cond (nat_eq other one.0) one.1 old)
past one id other ops new old differ rest = elim (cases_eq other one.0) [
  | inl same ↦
      let there : nat_eq other one.0 ≡ true = eq-eqb other one.0 same in
      let not : nat_eq other id ≡ false = ne_eqb other id (λ is. differ (sym same ∙ is)) in
      rw (there, not) refl
  | inr off ↦
      let there : nat_eq other one.0 ≡ false = ne_eqb other one.0 off in
      rw there rest
]

-- one more definition in a group
pub one_more : (groups : List (ℕ × List (List Op))) (id place : ℕ) (group : ℕ × List (List Op)) (ops : List Op) → IsPlaceOf groups id place → slice_get groups place ≡ Some group
    → (other : ℕ) → ready_for (set groups place (group.0, group.1 ++ ops ∷ [])) other ≡ defined_at id ops (ready_for groups) other
one_more [] id zero group ops is at other = absurd cc
one_more [] id (suc place) group ops is at other = absurd cc
one_more (one ∷ groups) id zero group ops is at other = elim (cases_eq other id) [
  | inl same ↦
      let it : one ≡ group = cc in
      let here : group.0 ≡ id = is.here group at in
      let there : nat_eq other id ≡ true = eq-eqb other id same in
      rw (it, here, there) refl
  | inr off ↦
      let it : one ≡ group = cc in
      let here : group.0 ≡ id = is.here group at in
      let there : nat_eq other id ≡ false = ne_eqb other id off in
      rw (it, here, there) refl
]
one_more (one ∷ groups) id (suc place) group ops is at other =
    past one id other ops (ready_for (set groups place (group.0, group.1 ++ ops ∷ [])) other) (ready_for groups other) (apart one groups id place is) (one_more groups id place group ops (behind one groups id place is) at other)

-- a new group
pub new_group : (groups : List (ℕ × List (List Op))) (id : ℕ) (ops : List Op) → IsPlaceOf groups id (length groups)
    → (other : ℕ) → ready_for (groups ++ (id, ops ∷ []) ∷ []) other ≡ defined_at id ops (ready_for groups) other
new_group [] id ops is other = refl
new_group (one ∷ groups) id ops is other =
    past one id other ops (ready_for (groups ++ (id, ops ∷ []) ∷ []) other) (ready_for groups other) (apart one groups id (length groups) is) (new_group groups id ops (behind one groups id (length groups) is) other)

-- those for an id are those of the group at its place
pub ready_there : (groups : List (ℕ × List (List Op))) (id place : ℕ) → IsPlaceOf groups id place → ready_for groups id ≡ ready_at groups place
ready_there [] id zero is = refl
ready_there [] id (suc place) is = refl
ready_there (one ∷ groups) id zero is = let there : nat_eq id one.0 ≡ true = eq-eqb id one.0 (sym (is.here one refl)) in rw there refl
ready_there (one ∷ groups) id (suc place) is =
    let not : nat_eq id one.0 ≡ false = ne_eqb id one.0 (λ same. apart one groups id place is (sym same)) in
    rw not (ready_there groups id place (behind one groups id place is))

pub at_place : (groups : List (ℕ × List (List Op))) (place : ℕ) (group : ℕ × List (List Op)) → slice_get groups place ≡ Some group → ready_at groups place ≡ group.1
at_place groups place group at = ap (λ (o : Option (ℕ × List (List Op))). option_map_or (λ g. g.1) o []) at

-- there are none for an id that no group is for
pub none_ready : (groups : List (ℕ × List (List Op))) (id place : ℕ) → IsPlaceOf groups id place → length groups ≤ place → ready_for groups id ≡ []
none_ready groups id place is past = ready_there groups id place is ∙ ap (λ (o : Option (ℕ × List (List Op))). option_map_or (λ g. g.1) o []) (slice_get_past groups place past)

-- ---- the last definition

pub newest_here : (groups : List (ℕ × List (List Op))) (place : ℕ) (group : ℕ × List (List Op)) (ops : List Op) → place < length groups → last_one (ready_at (set groups place (group.0, group.1 ++ ops ∷ [])) place) ≡ Some ops
newest_here groups place group ops within =
    let more : ℕ × List (List Op) = (group.0, group.1 ++ ops ∷ []) in
    let longer : place < length (set groups place more) = omega (arith, length-set groups place more) in
    let at : slice_get (set groups place more) place ≡ Some more = slice_get-get_or (set groups place more) place more longer ∙ ap Some (get_or-set_same groups place more more within) in
    rw (at_place (set groups place more) place more at) (last_more group.1 ops)

pub newest_new : (groups : List (ℕ × List (List Op))) (id : ℕ) (ops : List Op) → last_one (ready_at (groups ++ (id, ops ∷ []) ∷ []) (length groups)) ≡ Some ops
newest_new groups id ops =
    let new : ℕ × List (List Op) = (id, ops ∷ []) in
    let all = groups ++ new ∷ [] in
    let one : length all ≡ length groups + 1 = length-append groups (new ∷ []) in
    let at : slice_get all (length groups) ≡ Some new = slice_get-get_or all (length groups) new (omega (arith, one)) ∙ ap Some (get_or_push groups new new (length groups) refl) in
    rw (at_place all (length groups) new at) refl

pub last_behind : {new : List (ℕ × List Op)} (old : List (ℕ × List Op)) (id : ℕ) (ops : List Op) → new ≡ old ++ (id, ops) ∷ [] → last_one (all_of new) ≡ Some ops
last_behind old id ops is = rw (is, all_and_one old id ops) (last_more (all_of old) ops)
