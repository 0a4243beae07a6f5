-- The sums for each key add up to the whole.
use Rattle.std.proofs.Common.{◌≡◌, ℕ, ◌+◌, ◌⊎◌, Bool, true, false, not, cond, eqb, List, [], ◌∷◌, map, refl, sym, ap, ◌∙◌, arith, inl, inr}
use Rattle.std.specs.Prelude.{filter, sum_by}
use Rattle.std.proofs.lemmas.Bool.{eqb-true, eqb-false, eq-eqb, ne_eqb}
use Rattle.std.proofs.lemmas.List.Sums.{sum_by-cons}
use Rattle.bit_grammar.specs.Tally.{distinct}

pub sum_by_map : {X Y : Type 0} (f : Y → ℕ) (g : X → Y) (xs : List X) → sum_by f (map g xs) ≡ sum_by (λ x. f (g x)) xs
sum_by_map f g [] = refl
sum_by_map f g (x ∷ xs) = rw (sum_by-cons f (g x) (map g xs), sum_by-cons (λ y. f (g y)) x xs, sum_by_map f g xs) refl

sum_of_none : {X : Type 0} (xs : List X) → sum_by (λ x. 0) xs ≡ 0
sum_of_none [] = refl
sum_of_none (x ∷ xs) = rw (sum_by-cons (λ y. 0) x xs, sum_of_none xs) refl

pub data Compared (a b : ℕ) : Type 0 where
  are_same : a ≡ b → Compared a b
  are_other : (a ≡ b → ⊥) → Compared a b

pub compare : (a b : ℕ) → Compared a b
compare a b = go (eqb a b) refl
  where
    go : (x : Bool) → eqb a b ≡ x → Compared a b
    go true e = are_same (eqb-true a b e)
    go false e = are_other (eqb-false a b e)

-- what is added at k, if k is the key q
abbrev at_key : (q v : ℕ) → ℕ → ℕ
at_key q v k = cond (eqb q k) v 0

abbrev pub without : ℕ → List ℕ → List ℕ
without x ks = filter (λ y. not (eqb y x)) ks

pub keep_other : (k x : ℕ) (ks : List ℕ) → (k ≡ x → ⊥) → without x (k ∷ ks) ≡ k ∷ without x ks
keep_other k x ks other = rw (ne_eqb k x other) refl

pub drop_same : (k x : ℕ) (ks : List ℕ) → k ≡ x → without x (k ∷ ks) ≡ without x ks
drop_same k x ks same = rw (eq-eqb k x same) refl

at_same : (q v k : ℕ) → q ≡ k → at_key q v k ≡ v
at_same q v k same = rw (eq-eqb q k same) refl

at_other : (q v k : ℕ) → (q ≡ k → ⊥) → at_key q v k ≡ 0
at_other q v k other = rw (ne_eqb q k other) refl

-- without the key, nothing is added
left_out : (q v : ℕ) (ks : List ℕ) → sum_by (at_key q v) (without q ks) ≡ 0
left_out q v [] = refl
left_out q v (k ∷ ks) =
    elim (compare k q) [
      | are_same same ↦ ap (sum_by (at_key q v)) (drop_same k q ks same) ∙ left_out q v ks
      | are_other other ↦ ap (sum_by (at_key q v)) (keep_other k q ks other) ∙ sum_by-cons (at_key q v) k (without q ks) ∙ (let none = at_other q v k (λ e. other (sym e)) in omega (arith, none, left_out q v ks))
    ]

-- without another key, the same is added
other_out : (q v x : ℕ) (ks : List ℕ) → (q ≡ x → ⊥) → sum_by (at_key q v) (without x ks) ≡ sum_by (at_key q v) ks
other_out q v x [] other = refl
other_out q v x (k ∷ ks) other =
    elim (compare k x) [
      | are_same same ↦ ap (sum_by (at_key q v)) (drop_same k x ks same) ∙ other_out q v x ks other ∙ sym (sum_by-cons (at_key q v) k ks ∙ (let none = at_other q v k (λ e. other (e ∙ same)) in omega (arith, none)))
      | are_other differs ↦ ap (sum_by (at_key q v)) (keep_other k x ks differs) ∙ sum_by-cons (at_key q v) k (without x ks) ∙ ap (λ (n : ℕ). at_key q v k + n) (other_out q v x ks other) ∙ sym (sum_by-cons (at_key q v) k ks)
    ]

abbrev pub Has : ℕ → List ℕ → Type 0
Has q [] = ⊥
Has q (y ∷ ys) = (q ≡ y) ⊎ Has q ys

-- a key that occurs is counted once
once : (q v : ℕ) (ys : List ℕ) → Has q ys → sum_by (at_key q v) (distinct ys) ≡ v
once q v [] has = absurd has
once q v (y ∷ ys) has = sum_by-cons (at_key q v) y (without y (distinct ys)) ∙ go (compare q y) has (once q v ys)
  where
    go : Compared q y → (q ≡ y) ⊎ Has q ys → (Has q ys → sum_by (at_key q v) (distinct ys) ≡ v) → at_key q v y + sum_by (at_key q v) (without y (distinct ys)) ≡ v
    go (are_same same) has more =
        let one = at_same q v y same in
        let none = ap (λ (x : ℕ). sum_by (at_key q v) (without x (distinct ys))) (sym same) ∙ left_out q v (distinct ys) in
        omega (arith, one, none)
    go (are_other other) (inl same) more = absurd (other same)
    go (are_other other) (inr has) more =
        let none = at_other q v y other in
        omega (arith, none, other_out q v y (distinct ys) other, more has)

-- the sum of the things with a key
abbrev with_key : {X : Type 0} → (X → ℕ) → (X → ℕ) → List X → ℕ → ℕ
with_key key w xs k = sum_by w (filter (λ x. eqb (key x) k) xs)

one_with_key : {X : Type 0} (key w : X → ℕ) (x : X) (xs : List X) (k : ℕ) → with_key key w (x ∷ xs) k ≡ at_key (key x) (w x) k + with_key key w xs k
one_with_key key w x xs k = go (eqb (key x) k)
  where
    go : (b : Bool) → sum_by w (cond b (x ∷ filter (λ y. eqb (key y) k) xs) (filter (λ y. eqb (key y) k) xs)) ≡ cond b (w x) 0 + with_key key w xs k
    go true = sum_by-cons w x (filter (λ y. eqb (key y) k) xs)
    go false = omega arith

one_more : {X : Type 0} (key w : X → ℕ) (x : X) (xs : List X) (ks : List ℕ) → sum_by (with_key key w (x ∷ xs)) ks ≡ sum_by (at_key (key x) (w x)) ks + sum_by (with_key key w xs) ks
one_more key w x xs [] = refl
one_more key w x xs (k ∷ ks) =
    let here = one_with_key key w x xs k in
    let more = one_more key w x xs ks in
    sum_by-cons (with_key key w (x ∷ xs)) k ks ∙ sym (ap (λ (n : ℕ). n + sum_by (with_key key w xs) (k ∷ ks)) (sum_by-cons (at_key (key x) (w x)) k ks) ∙ ap (λ (n : ℕ). at_key (key x) (w x) k + sum_by (at_key (key x) (w x)) ks + n) (sum_by-cons (with_key key w xs) k ks) ∙ omega (arith, here, more))

-- each thing has one of the keys
abbrev Keyed : {X : Type 0} → (X → ℕ) → List ℕ → List X → Type 0
Keyed key ys [] = Unit {0}
Keyed key ys (x ∷ xs) = Has (key x) ys × Keyed key ys xs

over_keys : {X : Type 0} (key w : X → ℕ) (ys : List ℕ) (xs : List X) → Keyed key ys xs → sum_by (with_key key w xs) (distinct ys) ≡ sum_by w xs
over_keys key w ys [] all = sum_of_none (distinct ys)
over_keys key w ys (x ∷ xs) all = one_more key w x xs (distinct ys) ∙ sym (sum_by-cons w x xs ∙ (let one = once (key x) (w x) ys all.0 in let more = over_keys key w ys xs all.1 in omega (arith, one, more)))

keyed_more : {X : Type 0} (key : X → ℕ) (y : ℕ) (ys : List ℕ) (xs : List X) → Keyed key ys xs → Keyed key (y ∷ ys) xs
keyed_more key y ys [] all = tt
keyed_more key y ys (x ∷ xs) all = (inr all.0, keyed_more key y ys xs all.1)

keyed : {X : Type 0} (key : X → ℕ) (xs : List X) → Keyed key (map key xs) xs
keyed key [] = tt
keyed key (x ∷ xs) = (inl refl, keyed_more key (key x) (map key xs) xs (keyed key xs))

-- the sums of the things of each key add up to the sum of all things
pub by_keys : {X : Type 0} (key w : X → ℕ) (xs : List X) → sum_by (λ k. sum_by w (filter (λ x. eqb (key x) k) xs)) (distinct (map key xs)) ≡ sum_by w xs
by_keys key w xs = over_keys key w (map key xs) xs (keyed key xs)
