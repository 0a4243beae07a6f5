-- Definitions in the order of block ids.
use Rattle.std.proofs.Common.{◌≡◌, ℕ, zero, suc, ◌-◌, ◌<◌, ◌≤◌, Bool, true, false, List, [], ◌∷◌, refl, sym, ap, ◌∙◌, subst, inl, inr, nat_eq, arith, length, map, take, drop, slice_range, get_or, not, ◌&&◌, ◌⊎◌}
use Rattle.std.specs.List.{filter}
use Rattle.std.specs.List.Sorted.{IsNonDecreasingBy, IsPartitionPoint, IsStableByKey}
use Rattle.std.proofs.Math.Dec.{leb, ltb}
use Rattle.std.proofs.lemmas.List.{get_or-map, length-map, take-map, drop-map}
use Rattle.std.specs.Ordering.{nat_cmp, is_lt}
use Rattle.std.proofs.Math.Path.{fun_ext}
use Rattle.std.proofs.lemmas.Bool.{cases_eq, cases_lt, eq-eqb, ne_eqb, leb-true, leb-false, ltb-true, ltb-false}
use Rattle.std.specs.Cmp.{nat_cmp_is}
use Rattle.std.specs.declared.cmp.Ordering.{Ordering}
use Rattle.std.specs.declared.cmp.Ordering.TheVariants.{Less, Equal, Greater}
use Rattle.bit_grammar.specs.declared.op.Op.{Op}
use Rattle.bit_abbrev.specs.declared.held.Head.{Head}
use Rattle.bit_abbrev.specs.declared.held_op.HeldOp.{HeldOp}
use Rattle.bit_abbrev.specs.declared.held.Run.{Run}
use Rattle.bit_abbrev.specs.Heads.{ops_of, all_held}
use Rattle.bit_abbrev.specs.HeldLists.{heads_at, run_in, held_shown}
use Rattle.bit_abbrev.proofs.HeldLists.{all_shown}

-- ---- a stable sort by id

-- two ids tie if they are the same
tie : (a b : ℕ) → (not (is_lt (nat_cmp a b)) && not (is_lt (nat_cmp b a))) ≡ nat_eq a b
tie a b = elim (cases_eq a b) [
  | inl same ↦ sym (compared Equal Equal (nat_cmp_is a b Equal same) (nat_cmp_is b a Equal (sym same))) ∙ sym (eq-eqb a b same)
  | inr differ ↦ apart (cases_lt a b) differ ∙ sym (ne_eqb a b differ)
]
  where
    compared : (o p : Ordering) → o ≡ nat_cmp a b → p ≡ nat_cmp b a → (not (is_lt o) && not (is_lt p)) ≡ (not (is_lt (nat_cmp a b)) && not (is_lt (nat_cmp b a)))
    compared o p first second = ap (λ (x : Ordering). not (is_lt x) && not (is_lt p)) first ∙ ap (λ (y : Ordering). not (is_lt (nat_cmp a b)) && not (is_lt y)) second

    apart : (a < b) ⊎ (b ≤ a) → (a ≡ b → ⊥) → (not (is_lt (nat_cmp a b)) && not (is_lt (nat_cmp b a))) ≡ false
    apart (inl below) differ = sym (compared Less Greater (nat_cmp_is a b Less below) (nat_cmp_is b a Greater below))
    apart (inr above) differ =
        let greater : b < a = omega (arith, above, differ) in
        sym (compared Greater Less (nat_cmp_is a b Greater greater) (nat_cmp_is b a Less greater))

pub sorted_at : (heads sorted : List Head) (id : ℕ) → IsStableByKey (λ (h : Head). h.id) nat_cmp heads sorted → heads_at sorted id ≡ heads_at heads id
sorted_at heads sorted id stable =
    let wanted : Head = record { id = id; start = 0 } in
    subst (λ (p : Head → Bool). filter p sorted ≡ filter p heads) (fun_ext (λ (h : Head). tie id h.id)) (stable wanted)

-- ---- a run

module _ {X : Type 0} (n : X → ℕ) (id : ℕ) where
  abbrev Below : List X → ℕ → Type 0
  Below xs end = (k : ℕ) (d : X) → k < end → n (get_or xs k d) < id

  abbrev NotBelow : List X → ℕ → Type 0
  NotBelow xs start = (k : ℕ) (d : X) → start ≤ k → k < length xs → id ≤ n (get_or xs k d)

  abbrev NotAbove : List X → ℕ → Type 0
  NotAbove xs end = (k : ℕ) (d : X) → k < end → n (get_or xs k d) ≤ id

  abbrev Above : List X → ℕ → Type 0
  Above xs start = (k : ℕ) (d : X) → start ≤ k → k < length xs → id < n (get_or xs k d)

  none_above : (xs : List X) → Above xs 0 → filter (λ (x : X). nat_eq id (n x)) xs ≡ []
  none_above [] above = refl
  none_above (x ∷ xs) above = rw (ne_eqb id (n x) (λ same. omega (arith, above 0 x (omega arith) (omega arith), same))) (none_above xs (λ k d from within. above (suc k) d (omega arith) (omega (arith, within))))

  pub run_filtered : (xs : List X) (start end : ℕ) → start ≤ end → end ≤ length xs → Below xs start → NotBelow xs start → NotAbove xs end → Above xs end → slice_range xs start end ≡ filter (λ (x : X). nat_eq id (n x)) xs
  run_filtered [] zero zero le within below from to above = refl
  run_filtered [] zero (suc end) le within below from to above = absurd (omega (arith, within))
  run_filtered [] (suc start) end le within below from to above = absurd (omega (arith, le, within))
  run_filtered (x ∷ xs) zero zero le within below from to above = sym (none_above (x ∷ xs) above)
  run_filtered (x ∷ xs) zero (suc end) le within below from to above =
      let here : id ≡ n x = omega (arith, from 0 x (omega arith) (omega arith), to 0 x (omega arith)) in
      let count : suc end - 0 ≡ suc (end - 0) = omega arith in
      rw (count, eq-eqb id (n x) here) (ap (λ (l : List X). x ∷ l) (run_filtered xs zero end (omega arith) (omega (arith, within)) (λ k d none. absurd (omega (arith, none))) (λ k d le lt. from (suc k) d (omega arith) (omega (arith, lt))) (λ k d lt. to (suc k) d (omega (arith, lt))) (λ k d le lt. above (suc k) d (omega (arith, le)) (omega (arith, lt)))))
  run_filtered (x ∷ xs) (suc start) zero le within below from to above = absurd (omega (arith, le))
  run_filtered (x ∷ xs) (suc start) (suc end) le within below from to above =
      let here : n x < id = below 0 x (omega arith) in
      let count : suc end - suc start ≡ end - start = omega arith in
      rw (count, ne_eqb id (n x) (λ same. omega (arith, here, same))) (run_filtered xs start end (omega (arith, le)) (omega (arith, within)) (λ k d lt. below (suc k) d (omega (arith, lt))) (λ k d le lt. from (suc k) d (omega (arith, le)) (omega (arith, lt))) (λ k d lt. to (suc k) d (omega (arith, lt))) (λ k d le lt. above (suc k) d (omega (arith, le)) (omega (arith, lt))))

  -- the places where ids are no longer below this one, and where they are above it
  pub in_turn : (xs : List X) (start end : ℕ) (x : X) → start ≤ length xs → Below xs start → Above xs end → start ≤ end
  in_turn xs start end x within below above = elim (cases_lt end start) [
    | inl before ↦ absurd (omega (arith, below end x before, above end x (omega arith) (omega (arith, before, within))))
    | inr after ↦ omega (arith, after)
  ]

-- ---- the list and its heads

abbrev key : ℕ × List Op → ℕ
key e = e.0

abbrev shown : (all : List HeldOp) → Head → ℕ × List Op
shown all h = (h.id, ops_of all h)

-- the id at an index
id_at : (all : List HeldOp) (heads : List Head) (k : ℕ) (h : Head) (d : ℕ × List Op) → k < length heads → key (get_or (held_shown all heads) k d) ≡ (get_or heads k h).id
id_at all heads k h d within = ap key (get_or-map (shown all) heads k h d within)

pub order_shown : (all : List HeldOp) (heads : List Head) → IsNonDecreasingBy (λ (h : Head). h.id) heads → IsNonDecreasingBy key (held_shown all heads)
order_shown all heads up i j d le lt =
    let h : Head = record { id = 0; start = 0 } in
    let within : j < length heads = omega (arith, lt, length-map heads (shown all)) in
    omega (arith, up i j h le within, id_at all heads i h d (omega (arith, le, within)), id_at all heads j h d within)

pub order_held : (all : List HeldOp) (heads : List Head) → IsNonDecreasingBy key (held_shown all heads) → IsNonDecreasingBy (λ (h : Head). h.id) heads
order_held all heads up i j h le within =
    let d : ℕ × List Op = (0, []) in
    let lt : j < length (held_shown all heads) = omega (arith, within, length-map heads (shown all)) in
    omega (arith, up i j d le lt, id_at all heads i h d (omega (arith, le, within)), id_at all heads j h d within)

-- the definitions of a run
pub run_shown : (all : List HeldOp) (heads : List Head) (run : Run) → run_in (held_shown all heads) run ≡ all_held all (slice_range heads run.start run.end)
run_shown all heads run =
    let part : slice_range (held_shown all heads) run.start run.end ≡ map (shown all) (slice_range heads run.start run.end) = ap (take (run.end - run.start)) (drop-map (shown all) run.start heads) ∙ take-map (shown all) (run.end - run.start) (drop run.start heads) in
    ap (map (λ (e : ℕ × List Op). e.1)) part ∙ all_shown all (slice_range heads run.start run.end)

-- The places where ids are no longer below one, and where they are above it, are the run of its definitions.
module _ (all : List HeldOp) (heads : List Head) (id start end : ℕ) where
  abbrev IsPlace : (Head → Bool) → ℕ → Type 0
  IsPlace p place = (place ≤ length heads) × IsPartitionPoint (λ h. p h ≡ true) (λ h. p h ≡ false) heads place

  pub found_run : IsPlace (λ h. ltb h.id id) start → IsPlace (λ h. leb h.id id) end → ((start ≤ end) × (end ≤ length heads)) × (slice_range heads start end ≡ heads_at heads id)
  found_run first last =
      let wanted : Head = record { id = id; start = 0 } in
      let below : Below (λ (h : Head). h.id) id heads start = λ k d lt. ltb-true _ _ (first.1.0 k d (omega arith) lt) in
      let from : NotBelow (λ (h : Head). h.id) id heads start = λ k d le lt. ltb-false _ _ (first.1.1 k d le lt) in
      let to : NotAbove (λ (h : Head). h.id) id heads end = λ k d lt. leb-true _ _ (last.1.0 k d (omega arith) lt) in
      let above : Above (λ (h : Head). h.id) id heads end = λ k d le lt. leb-false _ _ (last.1.1 k d le lt) in
      let turn : start ≤ end = in_turn (λ (h : Head). h.id) id heads start end wanted first.0 below above in
      ((turn, last.0), run_filtered (λ (h : Head). h.id) id heads start end turn last.0 below from to above)
