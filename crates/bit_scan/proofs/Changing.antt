-- Rows by key with one of them changed, compared with the rows that they show.
use Rattle.std.proofs.Common.{◌≡◌, ℕ, zero, suc, Bool, true, false, cond, List, [], ◌∷◌, ◌++◌, map, Option, None, Some, is_some, refl, sym, ap, ◌∙◌, slice_get, ◌==◌}
use Rattle.std.proofs.lemmas.Bool.{eq-eqb, eqb-false, eqb-true, ne_eqb}
use Rattle.std.proofs.lemmas.List.Quantifiers.{position-Some}
use Rattle.std.proofs.lemmas.Option.{slice_get-get_or}
use Rattle.std.proofs.lemmas.Map.Keys.{IsDistinct-head, IsDistinct-tail}
use Rattle.std.specs.List.{AllByRecursion, IsDistinct}
use Rattle.std.specs.Map.{keys_of, lookup}
use Rattle.std.specs.Prelude.{nat_eq, position, get_or}
use Rattle.std.specs.Option.{option_map_or}
use Rattle.indexmap.specs.Layout.{set_value_at}
use Rattle.bit_grammar.specs.Counting.{rows_with}

-- entries show rows, each cut, and both have the same keys
pub record AreShown {V Row : Type 0} (show : ℕ × V → Row) (key : Row → ℕ) (cut : Row → Row) : Type 0 where
  pub by_key : (e : ℕ × V) → key (show e) ≡ e.0
  pub kept : (row : Row) → key (cut row) ≡ key row

key_is : {V Row : Type 0} (show : ℕ × V → Row) (key : Row → ℕ) (cut : Row → Row) → AreShown show key cut → (e : ℕ × V) (row : Row) → show e ≡ cut row → key row ≡ e.0
key_is show key cut shown e row same = sym (shown.kept row) ∙ ap key (sym same) ∙ shown.by_key e

-- a key that differs from each in a list differs from that at a place
differs : (keys : List ℕ) (j i k : ℕ) → AllByRecursion (λ y. nat_eq j y ≡ false) keys → slice_get keys i ≡ Some k → nat_eq j k ≡ false
differs [] j i k none at = absurd cc
differs (y ∷ keys) j zero k none at = (let same : y ≡ k = cc in rw same at none.0)
differs (y ∷ keys) j (suc i) k none at = differs keys j i k none.1 at

-- the value at the place of a key was changed
pub changed_at : {V Row : Type 0} (show : ℕ × V → Row) (key : Row → ℕ) (cut : Row → Row) (fresh : ℕ → Row) (change : Row → Row) → AreShown show key cut
    → (k j : ℕ) (old new : V) → ((row : Row) → show (k, old) ≡ cut row → show (k, new) ≡ cut (change row))
    → (es : List (ℕ × V)) (rows : List Row) (i : ℕ) → map show es ≡ map cut rows → IsDistinct nat_eq (keys_of es) → slice_get es i ≡ Some (j, old) → slice_get (keys_of es) i ≡ Some k
    → map show (set_value_at es i new) ≡ map cut (rows_with key fresh change k rows)
changed_at show key cut fresh change shown k j old new step [] rows i same distinct found at = absurd cc
changed_at show key cut fresh change shown k j old new step (e ∷ es) [] i same distinct found at = absurd cc
changed_at {V} {Row} show key cut fresh change shown k j old new step (e ∷ es) (row ∷ rows) zero same distinct found at =
    let head : show e ≡ cut row = cc in
    let tail : map show es ≡ map cut rows = cc in
    let here : e.0 ≡ k = cc in
    let whole : e ≡ (j, old) = cc in
    let value : e.1 ≡ old = ap (λ (x : ℕ × V). x.1) whole in
    let before : show (k, old) ≡ cut row = ap (λ (n : ℕ). show (n, old)) (sym here) ∙ ap (λ (v : V). show (e.0, v)) (sym value) ∙ head in
    let first : show (e.0, new) ≡ cut (change row) = ap (λ (n : ℕ). show (n, new)) here ∙ step row before in
    rw (eq-eqb (key row) k (key_is show key cut shown e row head ∙ here)) (let joined : show (e.0, new) ∷ map show es ≡ cut (change row) ∷ map cut rows = cc in joined)
changed_at {V} {Row} show key cut fresh change shown k j old new step (e ∷ es) (row ∷ rows) (suc i) same distinct found at =
    let head : show e ≡ cut row = cc in
    let tail : map show es ≡ map cut rows = cc in
    let other : nat_eq e.0 k ≡ false = differs (keys_of es) e.0 i k (IsDistinct-head nat_eq e.0 (keys_of es) distinct) at in
    let more = changed_at show key cut fresh change shown k j old new step es rows i tail (IsDistinct-tail nat_eq e.0 (keys_of es) distinct) found at in
    rw (ap (λ (n : ℕ). n == k) (key_is show key cut shown e row head) ∙ other) (let joined : show e ∷ map show (set_value_at es i new) ≡ cut row ∷ map cut (rows_with key fresh change k rows) = cc in joined)

-- a key that is not found differs from the first, and is not found behind it
past_first : {V : Type 0} (k : ℕ) (e : ℕ × V) (es : List (ℕ × V)) → lookup (nat_eq k) (e ∷ es) ≡ None → (k ≡ e.0 → ⊥) × (lookup (nat_eq k) es ≡ None)
past_first {V} k e es none = go (nat_eq k e.0) refl none
  where
    go : (b : Bool) → nat_eq k e.0 ≡ b → cond b (Some e.1) (lookup (nat_eq k) es) ≡ None → (k ≡ e.0 → ⊥) × (lookup (nat_eq k) es ≡ None)
    go true is none = absurd cc
    go false is none = (eqb-false k e.0 is, none)

-- the value of an absent key was added
pub changed_absent : {V Row : Type 0} (show : ℕ × V → Row) (key : Row → ℕ) (cut : Row → Row) (fresh : ℕ → Row) (change : Row → Row) → AreShown show key cut
    → (k : ℕ) (new : V) → show (k, new) ≡ cut (change (fresh k))
    → (es : List (ℕ × V)) (rows : List Row) → map show es ≡ map cut rows → lookup (nat_eq k) es ≡ None
    → map show (es ++ (k, new) ∷ []) ≡ map cut (rows_with key fresh change k rows)
changed_absent show key cut fresh change shown k new one [] [] same none = rw one refl
changed_absent show key cut fresh change shown k new one [] (row ∷ rows) same none = absurd cc
changed_absent show key cut fresh change shown k new one (e ∷ es) [] same none = absurd cc
changed_absent {V} {Row} show key cut fresh change shown k new one (e ∷ es) (row ∷ rows) same none =
    let head : show e ≡ cut row = cc in
    let tail : map show es ≡ map cut rows = cc in
    let past = past_first k e es none in
    let more = changed_absent show key cut fresh change shown k new one es rows tail past.1 in
    rw (ne_eqb (key row) k (λ x. past.0 (sym x ∙ key_is show key cut shown e row head)))
    (let joined : show e ∷ map show (es ++ (k, new) ∷ []) ≡ cut row ∷ map cut (rows_with key fresh change k rows) = cc in joined)

-- the key at a place where a test finds it
pub key_at : (ks : List ℕ) (i k : ℕ) → option_map_or (λ found. nat_eq found k) (slice_get ks i) false ≡ true → slice_get ks i ≡ Some k
key_at [] i k is = absurd cc
key_at (y ∷ ks) zero k is = ap Some (eqb-true y k is)
key_at (y ∷ ks) (suc i) k is = key_at ks i k is

-- the key at the index where it is found
pub found_at : (ks : List ℕ) (i k : ℕ) → position (nat_eq k) ks ≡ Some i → slice_get ks i ≡ Some k
found_at ks i k is =
    let found = position-Some (nat_eq k) ks i 0 is in slice_get-get_or ks i 0 found.0 ∙ ap Some (sym (eqb-true k (get_or ks i 0) found.1))

-- what holds no value is none
pub not_some : {A : Type 0} (o : Option A) → false ≡ is_some o → o ≡ None
not_some None is = refl
not_some (Some x) is = absurd cc
