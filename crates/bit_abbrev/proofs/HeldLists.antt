-- Definitions with ids, in order.
use Rattle.std.proofs.Common.{◌≡◌, ℕ, ◌+◌, ◌-◌, ◌<◌, Bool, true, false, List, [], ◌∷◌, ◌++◌, refl, sym, ap, ◌∙◌, zero, suc, cond, nat_eq, arith, length, map, take, drop, slice_get, slice_range}
use Rattle.std.specs.List.{filter}
use Rattle.std.proofs.lemmas.List.{map-append, length-map, length-take-le, length-drop, take-map, drop-map}
use Rattle.bit_grammar.specs.declared.op.Op.{Op}
use Rattle.bit_grammar.specs.Terms.{defined_at}
use Rattle.bit_abbrev.specs.declared.held.Head.{Head}
use Rattle.bit_abbrev.specs.declared.held.Run.{Run}
use Rattle.bit_abbrev.specs.declared.held_op.HeldOp.{HeldOp}
use Rattle.bit_abbrev.specs.Heads.{ops_of, AreHeld, all_held}
use Rattle.bit_abbrev.specs.HeldLists.{all_of, held_for, heads_at, held_shown, run_in, IsRunOf}
use Rattle.bit_grammar.specs.FormatDefinition.{Definable}
use Rattle.bit_abbrev.specs.declared.held_op.HeldOp.TheVariants.{End}
use Rattle.bit_abbrev.specs.HeldOps.{Extends, Holds}
use Rattle.bit_abbrev.proofs.Encoded.{extended}
use Rattle.bit_abbrev.proofs.Heads.{added_held, added_ops, all_in_more, and_one, same_in_more}

-- ---- the heads

-- the definitions for an id are those of the heads for it
pub shown_at : (all : List HeldOp) (heads : List Head) (id : ℕ) → held_for (held_shown all heads) id ≡ all_held all (heads_at heads id)
shown_at all [] id = refl
shown_at all (h ∷ heads) id = by (nat_eq id h.id) (shown_at all heads id)
  where
    by : (b : Bool) → held_for (held_shown all heads) id ≡ all_held all (heads_at heads id) → map (λ (e : ℕ × List Op). e.1) (cond b ((h.id, ops_of all h) ∷ filter (λ (e : ℕ × List Op). nat_eq id e.0) (held_shown all heads)) (filter (λ (e : ℕ × List Op). nat_eq id e.0) (held_shown all heads))) ≡ all_held all (cond b (h ∷ heads_at heads id) (heads_at heads id))
    by true rest = ap (λ (l : List (List Op)). ops_of all h ∷ l) rest
    by false rest = rest

-- all definitions are those of the heads
pub all_shown : (all : List HeldOp) (heads : List Head) → all_of (held_shown all heads) ≡ all_held all heads
all_shown all [] = refl
all_shown all (h ∷ heads) = ap (λ (l : List (List Op)). ops_of all h ∷ l) (all_shown all heads)

-- the list is the same in a longer list of operands
pub same_shown : (all new : List HeldOp) (heads : List Head) → Extends all new → AreHeld all heads → held_shown new heads ≡ held_shown all heads
same_shown all new [] longer are = refl
same_shown all new (h ∷ heads) longer are = rw (same_shown all new heads longer are.1, longer.is, same_in_more all longer.added h are.0) refl

pub shown_and_one : (all : List HeldOp) (heads : List Head) (head : Head) → held_shown all (heads ++ head ∷ []) ≡ held_shown all heads ++ (head.id, ops_of all head) ∷ []
shown_and_one all heads head = map-append (λ (h : Head). (h.id, ops_of all h)) heads (head ∷ [])

-- ---- one more definition

pub all_and_one : (list : List (ℕ × List Op)) (id : ℕ) (ops : List Op) → all_of (list ++ (id, ops) ∷ []) ≡ all_of list ++ ops ∷ []
all_and_one list id ops = map-append (λ (e : ℕ × List Op). e.1) list ((id, ops) ∷ [])

pub defined : (list : List (ℕ × List Op)) (id : ℕ) (ops : List Op) (other : ℕ) → held_for (list ++ (id, ops) ∷ []) other ≡ defined_at id ops (held_for list) other
defined [] id ops other = by (nat_eq other id)
  where
    by : (b : Bool) → map (λ (e : ℕ × List Op). e.1) (cond b ((id, ops) ∷ []) []) ≡ cond b (ops ∷ []) []
    by true = refl
    by false = refl
defined (e ∷ list) id ops other = by (nat_eq other e.0) (defined list id ops other) (nat_eq other id)
  where
    inside : (c : Bool) → (e.1 ∷ cond c (held_for list other ++ ops ∷ []) (held_for list other)) ≡ cond c ((e.1 ∷ held_for list other) ++ ops ∷ []) (e.1 ∷ held_for list other)
    inside true = refl
    inside false = refl

    by : (b : Bool) → held_for (list ++ (id, ops) ∷ []) other ≡ defined_at id ops (held_for list) other → (c : Bool) → map (λ (e : ℕ × List Op). e.1) (cond b (e ∷ filter (λ (e : ℕ × List Op). nat_eq other e.0) (list ++ (id, ops) ∷ [])) (filter (λ (e : ℕ × List Op). nat_eq other e.0) (list ++ (id, ops) ∷ []))) ≡ cond (nat_eq other id) (map (λ (e : ℕ × List Op). e.1) (cond b (e ∷ filter (λ (e : ℕ × List Op). nat_eq other e.0) list) (filter (λ (e : ℕ × List Op). nat_eq other e.0) list)) ++ ops ∷ []) (map (λ (e : ℕ × List Op). e.1) (cond b (e ∷ filter (λ (e : ℕ × List Op). nat_eq other e.0) list) (filter (λ (e : ℕ × List Op). nat_eq other e.0) list)))
    by false rest c = rest
    by true rest c = ap (λ (l : List (List Op)). e.1 ∷ l) rest ∙ inside (nat_eq other id)

-- ---- one more, whose operands stand behind all others

pub closed_held : {all mid new : List HeldOp} {more : List Head} {ops : List Op} (heads : List Head) (head : Head) → head.start ≡ length all → Holds all mid ops → new ≡ mid ++ End ∷ [] → more ≡ heads ++ head ∷ [] → Definable ops → AreHeld all heads → AreHeld new more
closed_held heads head begins holds ends is definable are =
    rw is (and_one _ _ head (all_in_more _ _ _ (extended _ holds.more_held ends) are) (added_held head begins holds ends definable))

pub closed_shown : {all mid new : List HeldOp} {more : List Head} {ops : List Op} (heads : List Head) (head : Head) → head.start ≡ length all → Holds all mid ops → new ≡ mid ++ End ∷ [] → more ≡ heads ++ head ∷ [] → AreHeld all heads → held_shown new more ≡ held_shown all heads ++ (head.id, ops) ∷ []
closed_shown {all} {mid} {new} heads head begins holds ends is are =
    rw (is, shown_and_one new heads head, same_shown all new heads (extended _ holds.more_held ends) are, added_ops head begins holds ends) refl

-- or none more
pub not_closed : {all mid new : List HeldOp} {heads more : List Head} → Extends all mid → Extends mid new → more ≡ heads → AreHeld all heads → AreHeld new more
not_closed first second is are = rw is (all_in_more _ _ _ (extended second.added first second.is) are)

pub not_shown : {all mid new : List HeldOp} {heads more : List Head} → Extends all mid → Extends mid new → more ≡ heads → AreHeld all heads → held_shown new more ≡ held_shown all heads
not_shown first second is are = rw is (same_shown _ _ _ (extended second.added first second.is) are)

-- ---- a run of definitions

module _ {X : Type 0} where
  get_front : (n : ℕ) (xs : List X) (i : ℕ) → i < n → slice_get (take n xs) i ≡ slice_get xs i
  get_front zero xs i within = absurd (omega (arith, within))
  get_front (suc n) [] i within = refl
  get_front (suc n) (x ∷ xs) zero within = refl
  get_front (suc n) (x ∷ xs) (suc i) within = get_front n xs i (omega (arith, within))

  get_behind : (n : ℕ) (xs : List X) (i : ℕ) → slice_get xs (n + i) ≡ slice_get (drop n xs) i
  get_behind zero xs i = let same : 0 + i ≡ i = omega arith in rw same refl
  get_behind (suc n) [] i = refl
  get_behind (suc n) (x ∷ xs) i = let same : suc n + i ≡ suc (n + i) = omega arith in rw same (get_behind n xs i)

-- how many there are for an id
pub run_length : (list : List (ℕ × List Op)) (id : ℕ) (run : Run) → IsRunOf list id run → length (held_for list id) ≡ run.end - run.start
run_length list id run is =
    let part = slice_range list run.start run.end in
    let count : length part ≡ run.end - run.start = length-take-le (run.end - run.start) (drop run.start list) (omega (arith, length-drop run.start list, is.0.1)) in
    let all : length (all_of part) ≡ length part = length-map part (λ (e : ℕ × List Op). e.1) in
    ap length (sym is.1) ∙ all ∙ count

-- one of them is found from the beginning of the run on
pub run_at : (list : List (ℕ × List Op)) (id : ℕ) (run : Run) (i : ℕ) → IsRunOf list id run → i < run.end - run.start → slice_get (all_of list) (run.start + i) ≡ slice_get (held_for list id) i
run_at list id run i is within =
    let n = run.end - run.start in
    let part : run_in list run ≡ take n (drop run.start (all_of list)) = sym (ap (take n) (drop-map (λ (e : ℕ × List Op). e.1) run.start list) ∙ take-map (λ (e : ℕ × List Op). e.1) n (drop run.start list)) in
    get_behind run.start (all_of list) i ∙ sym (get_front n (drop run.start (all_of list)) i within) ∙ ap (λ (l : List (List Op)). slice_get l i) (sym part ∙ is.1)
