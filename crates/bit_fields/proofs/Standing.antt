-- Values that are a run of other values.
use Rattle.std.proofs.Common.{◌≡◌, ℕ, ◌+◌, ◌-◌, ◌<◌, ◌≤◌, ◌⊎◌, min, List, [], ◌∷◌, ◌++◌, length, take, drop, get_or, slice_get, Some, refl, sym, ap, ◌∙◌, subst, inl, inr, arith}
use Rattle.std.proofs.Math.ListN.{drop_of_length-le}
use Rattle.std.proofs.Math.Seq.{drop-cons, drop-append-add, take-add, take-length}
use Rattle.std.proofs.lemmas.Bool.{cases_lt}
use Rattle.std.proofs.lemmas.List.{drop-append-le, drop-drop, drop-take, length-append, length-drop, length-take, nil_from_length, take-append-drop, take-append-le, take-take, take_all, take_rest}
use Rattle.std.proofs.lemmas.Option.{get_or_from_slice_get, slice_get-get_or, slice_get_within}
use Rattle.bit_fields.specs.Packed.{StandAt}

-- the first n values, or all
pub take_min : (n : ℕ) (v : List ℕ) → take (min n (length v)) v ≡ take n v
take_min n v = go (cases_lt n (length v))
  where
    go : (n < length v) ⊎ (length v ≤ n) → take (min n (length v)) v ≡ take n v
    go (inl lt) = ap (λ (k : ℕ). take k v) (omega arith)
    go (inr le) = take_all (min n (length v)) v (omega arith) ∙ sym (take_all n v le)

-- the first of the first
pub take_of_first : (m n : ℕ) (v : List ℕ) → take m (take n v) ≡ take (min n m) v
take_of_first m n v = go (cases_lt n m)
  where
    go : (n < m) ⊎ (m ≤ n) → take m (take n v) ≡ take (min n m) v
    go (inl lt) = take_all m (take n v) (omega (arith, lt, length-take n v)) ∙ ap (λ (k : ℕ). take k v) (omega (arith, lt))
    go (inr le) = take-take m n v le ∙ ap (λ (k : ℕ). take k v) (omega (arith, le))

-- a run is no longer than the list
pub stand_within : (p : ℕ) (v a : List ℕ) → StandAt p v a → length v ≤ length a - p
stand_within p v a h = omega (arith, ap length h, length-take (length v) (drop p a), length-drop p a)

-- in a longer list
pub stand_longer : (p : ℕ) (v a b : List ℕ) → StandAt p v a → StandAt p v (a ++ b)
stand_longer p v a b h = go (cases_lt (length a) p)
  where
    go : (length a < p) ⊎ (p ≤ length a) → StandAt p v (a ++ b)
    go (inl past) =
        let none : v ≡ [] = nil_from_length v (omega (arith, stand_within p v a h)) in
        rw none refl
    go (inr there) = ap (take (length v)) (drop-append-le p a b there) ∙ take-append-le (length v) (drop p a) b (omega (arith, stand_within p v a h, length-drop p a)) ∙ h

-- after other values
pub stand_behind : (p : ℕ) (v a b : List ℕ) → StandAt p v b → StandAt (length a + p) v (a ++ b)
stand_behind p v a b h = ap (take (length v)) (drop-append-add a b p) ∙ h

-- all values from a place on, in a list after others
pub stand_at_last : (p m : ℕ) (a b : List ℕ) → length a ≤ p → m ≡ min (p - length a) (length b) → StandAt p (take (length b - m) (drop m b)) (a ++ b)
stand_at_last p m a b past is =
    let q = p - length a in
    let place : p ≡ length a + q = omega arith in
    let rest : take (length b - m) (drop m b) ≡ drop q b = take_rest b m ∙ go (cases_lt (length b) q) in
    subst (λ (v : List ℕ). StandAt p v (a ++ b)) (sym rest) (ap (λ (k : ℕ). take (length (drop q b)) (drop k (a ++ b))) place ∙ stand_behind q (drop q b) a b (take-length (drop q b)))
  where
    go : (length b < p - length a) ⊎ (p - length a ≤ length b) → drop m b ≡ drop (p - length a) b
    go (inl lt) = drop_of_length-le b (omega (arith, is, lt)) ∙ sym (drop_of_length-le b (omega (arith, lt)))
    go (inr le) = ap (λ (k : ℕ). drop k b) (omega (arith, is, le))

-- the first of them
pub stand_first : (n p : ℕ) (v a : List ℕ) → StandAt p v a → StandAt p (take n v) a
stand_first n p v a h =
    ap (λ (k : ℕ). take k (drop p a)) (length-take n v) ∙ sym (take-take (min n (length v)) (length v) (drop p a) (omega arith)) ∙ ap (take (min n (length v))) h ∙ take_min n v

-- if the list ends after them
pub stand_before : (p end : ℕ) (v a : List ℕ) → StandAt p v a → p + length v ≤ end → StandAt p v (take end a)
stand_before p end v a h le =
    let e : end ≡ p + (end - p) = omega arith in
    ap (λ (k : ℕ). take (length v) (drop p (take k a))) e ∙ ap (take (length v)) (drop-take p (end - p) a) ∙ take-take (length v) (end - p) (drop p a) (omega arith) ∙ h

-- in the whole list, if they are a run of a prefix
pub stand_whole : (p end : ℕ) (v a : List ℕ) → StandAt p v (take end a) → StandAt p v a
stand_whole p end v a h = subst (λ (s : List ℕ). StandAt p v s) (take-append-drop end a) (stand_longer p v (take end a) (drop end a) h)

-- those after the first of them
pub stand_rest : (n p : ℕ) (v a : List ℕ) → n ≤ length v → StandAt p v a → StandAt (p + n) (drop n v) a
stand_rest n p v a le h =
    let e : length v ≡ n + (length v - n) = omega arith in
    let rest : drop n (take (length v) (drop p a)) ≡ take (length v - n) (drop n (drop p a)) = ap (λ (k : ℕ). drop n (take k (drop p a))) e ∙ drop-take n (length v - n) (drop p a) in
    ap (λ (k : ℕ). take k (drop (p + n) a)) (length-drop n v) ∙ ap (take (length v - n)) (sym (drop-drop n p a)) ∙ sym rest ∙ ap (drop n) h

-- two runs in sequence
pub stand_both : (p : ℕ) (v w a : List ℕ) → StandAt p v a → StandAt (p + length v) w a → StandAt p (v ++ w) a
stand_both p v w a h also =
    ap (λ (k : ℕ). take k (drop p a)) (length-append v w) ∙ take-add (length v) (length w) (drop p a)
    ∙ ap (λ (s : List ℕ). s ++ take (length w) (drop (length v) (drop p a))) h
    ∙ ap (λ (s : List ℕ). v ++ take (length w) s) (drop-drop (length v) p a) ∙ ap (λ (s : List ℕ). v ++ s) also

-- one value
pub stand_one : (p value : ℕ) (a : List ℕ) → slice_get a p ≡ Some value → StandAt p (value ∷ []) a
stand_one p value a found =
    let there : p < length a = slice_get_within a p value found in
    let e : get_or a p 0 ≡ value = get_or_from_slice_get a p value 0 found in
    ap (take 1) (drop-cons a p 0 there) ∙ ap (λ (x : ℕ). x ∷ []) e

pub one_stands : (p value : ℕ) (a : List ℕ) → StandAt p (value ∷ []) a → slice_get a p ≡ Some value
one_stands p value a h =
    let there : p < length a = omega (arith, stand_within p (value ∷ []) a h) in
    let e : get_or a p 0 ∷ [] ≡ value ∷ [] = sym (ap (take 1) (drop-cons a p 0 there)) ∙ h in
    slice_get-get_or a p 0 there ∙ ap (λ (s : List ℕ). Some (get_or s 0 0)) e
