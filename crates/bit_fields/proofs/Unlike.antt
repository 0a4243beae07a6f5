-- Where two lists of values differ that both contain a run of zeros.
use Rattle.std.proofs.Common.{◌≡◌, ◌≢◌, ℕ, zero, suc, ◌+◌, ◌<◌, ◌-◌, ◌≤◌, ◌⊎◌, List, [], ◌∷◌, ◌++◌, length, take, drop, get_or, slice_get, min, max, Bool, true, false, cond, eqb, not, Option, Some, None, IfSome, IfNone, refl, sym, ap, ◌∙◌, inl, inr, arith, add-one, eq-eqb, length-drop, append_assoc, take-take}
use Rattle.std.proofs.Math.ListN.{replicate}
use Rattle.std.proofs.Math.Seq.{drop-cons}
use Rattle.std.proofs.lemmas.Bool.{cases_lt, ne_eqb, eqb-true}
use Rattle.std.proofs.lemmas.List.{drop-replicate, drop-drop, drop-append-le, replicate-append-replicate}
use Rattle.std.proofs.lemmas.Option.{slice_get-get_or}
use Rattle.std.specs.Prelude.{is_some}
use Rattle.std.specs.Option.{option_eq}
use Rattle.bit_fields.specs.Packed.{first_apart, StandAt}

-- a place that both have
at_both : (i : ℕ) (a b : List ℕ) → i < length a → i < length b → first_apart i (drop i a) (drop i b) ≡ cond (eqb (get_or a i 0) (get_or b i 0)) (first_apart (suc i) (drop (suc i) a) (drop (suc i) b)) (Some i)
at_both i a b in_a in_b = rw (drop-cons a i 0 in_a, drop-cons b i 0 in_b) refl

get_same : (i : ℕ) (a b : List ℕ) → i < length a → i < length b → slice_get a i ≡ slice_get b i → get_or a i 0 ≡ get_or b i 0
get_same i a b in_a in_b same =
    let first : slice_get a i ≡ Some (get_or a i 0) = slice_get-get_or a i 0 in_a in
    let second : slice_get b i ≡ Some (get_or b i 0) = slice_get-get_or b i 0 in_b in
    cc

-- both have the same value there
pub place_same : (i : ℕ) (a b : List ℕ) → i < length a → i < length b → slice_get a i ≡ slice_get b i → first_apart i (drop i a) (drop i b) ≡ first_apart (i + 1) (drop (i + 1) a) (drop (i + 1) b)
place_same i a b in_a in_b same =
    rw add-one (at_both i a b in_a in_b ∙ rw (eq-eqb (get_or a i 0) (get_or b i 0) (get_same i a b in_a in_b same)) refl)

-- both begin with the same k values
run_same : (k i : ℕ) (a b : List ℕ) → k ≤ length a → k ≤ length b → take k a ≡ take k b → first_apart i a b ≡ first_apart (i + k) (drop k a) (drop k b)
run_same zero i a b in_a in_b same = ap (λ (p : ℕ). first_apart p a b) (omega arith)
run_same (suc k) i [] b in_a in_b same = absurd (omega (arith, in_a))
run_same (suc k) i (x ∷ a) [] in_a in_b same = absurd (omega (arith, in_b))
run_same (suc k) i (x ∷ a) (y ∷ b) in_a in_b same =
    let heads : x ≡ y = cc in
    let others : take k a ≡ take k b = cc in
    rw (eq-eqb x y heads) (run_same k (suc i) a b (omega (arith, in_a)) (omega (arith, in_b)) others ∙ ap (λ (p : ℕ). first_apart p (drop k a) (drop k b)) (omega arith))

-- the first 64 values of a run of values from there on
pub run_begins : (i : ℕ) (run values : List ℕ) → StandAt i run values → 64 ≤ length run → take 64 (drop i values) ≡ take 64 run
run_begins i run values stands long = sym (take-take 64 (length run) (drop i values) long) ∙ ap (take 64) stands

-- both have the same 64 values there
pub batch_same : (i : ℕ) (a b : List ℕ) → i + 64 ≤ length a → i + 64 ≤ length b → take 64 (drop i a) ≡ take 64 (drop i b) → first_apart i (drop i a) (drop i b) ≡ first_apart (i + 64) (drop (i + 64) a) (drop (i + 64) b)
batch_same i a b in_a in_b same =
    run_same 64 i (drop i a) (drop i b) (omega (arith, length-drop i a, in_a)) (omega (arith, length-drop i b, in_b)) same
    ∙ ap (λ (l : List ℕ). first_apart (i + 64) l (drop 64 (drop i b))) (drop-drop 64 i a)
    ∙ ap (λ (l : List ℕ). first_apart (i + 64) (drop (i + 64) a) l) (drop-drop 64 i b)

-- they have different values there
pub place_apart : (i : ℕ) (a b : List ℕ) → i < length a → i < length b → slice_get a i ≢ slice_get b i → first_apart i (drop i a) (drop i b) ≡ Some i
place_apart i a b in_a in_b apart =
    at_both i a b in_a in_b ∙ rw (ne_eqb (get_or a i 0) (get_or b i 0) (λ same. apart (slice_get-get_or a i 0 in_a ∙ ap Some same ∙ sym (slice_get-get_or b i 0 in_b)))) refl

-- one list has no values left
none_left : (i : ℕ) (a b : List ℕ) → min (length a) (length b) ≡ 0 → first_apart i a b ≡ None
none_left i [] b e = refl
none_left i (x ∷ a) [] e = refl
none_left i (x ∷ a) (y ∷ b) e = absurd (omega arith)

-- lists of the same length that differ nowhere are equal
pub none_apart : (i : ℕ) (a b : List ℕ) → length a ≡ length b → first_apart i a b ≡ None → a ≡ b
none_apart i [] [] len none = refl
none_apart i [] (y ∷ b) len none = absurd (omega (arith, len))
none_apart i (x ∷ a) [] len none = absurd (omega (arith, len))
none_apart i (x ∷ a) (y ∷ b) len none = go (none_apart (suc i) a b (omega (arith, len))) (eqb x y) refl none
  where
    go : (first_apart (suc i) a b ≡ None → a ≡ b) → (t : Bool) → eqb x y ≡ t → cond t (first_apart (suc i) a b) (Some i) ≡ None → x ∷ a ≡ y ∷ b
    go rest true is e = ap (λ (v : ℕ). v ∷ a) (eqb-true x y is) ∙ ap (λ (vs : List ℕ). y ∷ vs) (rest e)
    go rest false is e = absurd (cc)

-- a list does not differ from itself
pub apart_itself : (i : ℕ) (a : List ℕ) → first_apart i a a ≡ None
apart_itself i [] = refl
apart_itself i (x ∷ a) = rw (eq-eqb x x refl) (apart_itself (suc i) a)

-- ---- values that were compared

pub differ : (x y : Option ℕ) → not (option_eq eqb x y) ≡ true → x ≢ y
differ None None ne = absurd (cc)
differ None (Some y) ne = λ e. cc
differ (Some x) None ne = λ e. cc
differ (Some x) (Some y) ne = λ e. cc (ne, eq-eqb x y (cc))

pub agree : (x y : Option ℕ) → not (option_eq eqb x y) ≡ false → x ≡ y
agree None None ne = refl
agree None (Some y) ne = absurd (cc)
agree (Some x) None ne = absurd (cc)
agree (Some x) (Some y) ne = go (eqb x y) refl ne
  where
    go : (t : Bool) → eqb x y ≡ t → not t ≡ false → Some x ≡ Some y
    go true is e = ap Some (eqb-true x y is)
    go false is e = absurd (cc)

-- lists of the same length are equal if they differ nowhere
pub same_if_none : (o : Option ℕ) (t : Bool) (a b : List ℕ) → length a ≡ length b → o ≡ first_apart 0 a b → is_some o ≡ not t → (t ≡ true → a ≡ b) × (a ≡ b → t ≡ true)
same_if_none None true a b len is none = (λ _. none_apart 0 a b len (sym is), λ _. refl)
same_if_none None false a b len is none = absurd (cc)
same_if_none (Some place) true a b len is none = absurd (cc)
same_if_none (Some place) false a b len is none = (λ e. absurd (cc), λ e. absurd (nowhere (is ∙ ap (λ (vs : List ℕ). first_apart 0 a vs) (sym e))))
  where
    nowhere : Some place ≡ first_apart 0 a a → ⊥
    nowhere e = (let none : first_apart 0 a a ≡ None = apart_itself 0 a in cc)

-- ---- zeros within both

-- m equal zeros at the front
zeros_passed : (i m : ℕ) (a b : List ℕ) → first_apart i (replicate m 0 ++ a) (replicate m 0 ++ b) ≡ first_apart (i + m) a b
zeros_passed i zero a b = ap (λ (k : ℕ). first_apart k a b) (omega arith)
zeros_passed i (suc m) a b = zeros_passed (suc i) m a b ∙ ap (λ (k : ℕ). first_apart k a b) (omega arith)

-- a list that has only zeros from one place on has only zeros from a later one
zeros_later : (n i : ℕ) (s : List ℕ) → n ≤ i → drop n s ≡ replicate (length s - n) 0 → drop i s ≡ replicate (length s - i) 0
zeros_later n i s le zeros =
    ap (λ (k : ℕ). drop k s) (omega (arith, le)) ∙ sym (drop-drop (i - n) n s) ∙ ap (λ (l : List ℕ). drop (i - n) l) zeros ∙ drop-replicate (i - n) (length s - n) 0 ∙ ap (λ (k : ℕ). replicate k 0) (omega (arith, le))

-- the values from a place on, the first of which are zeros
zeros_from : (i m : ℕ) (s r : List ℕ) → i + m ≤ length s → drop i s ≡ replicate (length s - i) 0 → drop i (s ++ r) ≡ replicate m 0 ++ drop (i + m) (s ++ r)
zeros_from i m s r le zeros =
    let rest = length s - (i + m) in
    let left : drop (i + m) (s ++ r) ≡ replicate rest 0 ++ r = drop-append-le (i + m) s r le ∙ ap (λ (l : List ℕ). l ++ r) (zeros_later i (i + m) s (omega arith) zeros) in
    let all : replicate (length s - i) 0 ≡ replicate m 0 ++ replicate rest 0 = ap (λ (n : ℕ). replicate n 0) (omega (arith, le)) ∙ sym (replicate-append-replicate m rest 0) in
    drop-append-le i s r (omega (arith, le)) ∙ ap (λ (l : List ℕ). l ++ r) (zeros ∙ all) ∙ append_assoc (replicate m 0) (replicate rest 0) r ∙ ap (λ (l : List ℕ). replicate m 0 ++ l) (sym left)

-- from one place to another both have zeros
zeros_between : (i m : ℕ) (s r t q : List ℕ) → i + m ≤ length s → i + m ≤ length t → drop i s ≡ replicate (length s - i) 0 → drop i t ≡ replicate (length t - i) 0 → first_apart i (drop i (s ++ r)) (drop i (t ++ q)) ≡ first_apart (i + m) (drop (i + m) (s ++ r)) (drop (i + m) (t ++ q))
zeros_between i m s r t q in_s in_t zeros also =
    rw (zeros_from i m s r in_s zeros, zeros_from i m t q in_t also) (zeros_passed i m (drop (i + m) (s ++ r)) (drop (i + m) (t ++ q)))

-- if each list begins with values that are zeros from a place on, these zeros do not matter
pub zeros_same : (m n i k both : ℕ) (s r t q : List ℕ) → drop m s ≡ replicate (length s - m) 0 → drop n t ≡ replicate (length t - n) 0 → i ≡ min (max m n) both → k ≡ max (min (length s) (length t)) i → min (length s) (length t) ≤ both → first_apart i (drop i (s ++ r)) (drop i (t ++ q)) ≡ first_apart k (drop k (s ++ r)) (drop k (t ++ q))
zeros_same m n i k both s r t q zeros also is to le = go (cases_lt i (min (length s) (length t)))
  where
    go : (i < min (length s) (length t)) ⊎ (min (length s) (length t) ≤ i) → first_apart i (drop i (s ++ r)) (drop i (t ++ q)) ≡ first_apart k (drop k (s ++ r)) (drop k (t ++ q))
    go (inl lt) =
        let far : k ≡ i + (k - i) = omega (arith, lt, to) in
        zeros_between i (k - i) s r t q (omega (arith, lt, to)) (omega (arith, lt, to)) (zeros_later m i s (omega (arith, lt, is, le)) zeros) (zeros_later n i t (omega (arith, lt, is, le)) also)
        ∙ ap (λ (p : ℕ). first_apart p (drop p (s ++ r)) (drop p (t ++ q))) (sym far)
    go (inr past) = ap (λ (p : ℕ). first_apart p (drop p (s ++ r)) (drop p (t ++ q))) (omega (arith, past, to))

-- the result of a search up to a place at which one list ends
pub apart_before : (o : Option ℕ) (x : Option ℕ) (k : ℕ) (a b : List ℕ) → k ≡ min (length a) (length b) → IfSome o (λ place. x ≡ Some place) → IfNone o (x ≡ first_apart k (drop k a) (drop k b)) → o ≡ x
apart_before (Some place) x k a b end found none = sym found
apart_before None x k a b end found none = sym (none ∙ none_left k (drop k a) (drop k b) (omega (arith, end, length-drop k a, length-drop k b)))
