-- Rows by keys, each key once in the order of its first occurrence, with one more thing.
use Rattle.std.proofs.Common.{◌≡◌, ℕ, ◌⊎◌, not, eqb, List, [], ◌∷◌, ◌++◌, map, refl, sym, ap, subst, ◌∙◌, inl, inr}
use Rattle.std.proofs.lemmas.Bool.{eq-eqb, ne_eqb}
use Rattle.std.proofs.lemmas.List.{map-append, append-nil}
use Rattle.std.proofs.lemmas.List.Elements.{filter-append}
use Rattle.bit_grammar.specs.Tally.{distinct}
use Rattle.bit_grammar.specs.Counting.{rows_with}
use Rattle.bit_grammar.proofs.Tallying.Sums.{are_same, are_other, compare, without, keep_other, drop_same, Has}

-- ---- numbers each once

abbrev Once : List ℕ → Type 0
Once [] = Unit {0}
Once (k ∷ ks) = (Has k ks → ⊥) × Once ks

has_without : (q x : ℕ) (ks : List ℕ) → Has q (without x ks) → Has q ks
has_without q x [] h = h
has_without q x (k ∷ ks) h =
    elim (compare k x) [
      | are_same same ↦ inr (has_without q x ks (subst (Has q) (drop_same k x ks same) h))
      | are_other other ↦ kept (subst (Has q) (keep_other k x ks other) h) (has_without q x ks)
    ]
  where
    kept : (q ≡ k) ⊎ Has q (without x ks) → (Has q (without x ks) → Has q ks) → (q ≡ k) ⊎ Has q ks
    kept (inl same) more = inl same
    kept (inr has) more = inr (more has)

not_without : (x : ℕ) (ks : List ℕ) → Has x (without x ks) → ⊥
not_without x [] h = h
not_without x (k ∷ ks) h =
    elim (compare k x) [
      | are_same same ↦ not_without x ks (subst (Has x) (drop_same k x ks same) h)
      | are_other other ↦ kept other (subst (Has x) (keep_other k x ks other) h) (not_without x ks)
    ]
  where
    kept : (k ≡ x → ⊥) → (x ≡ k) ⊎ Has x (without x ks) → (Has x (without x ks) → ⊥) → ⊥
    kept other (inl same) more = other (sym same)
    kept other (inr has) more = more has

with_out : (q x : ℕ) (ks : List ℕ) → (q ≡ x → ⊥) → Has q ks → Has q (without x ks)
with_out q x [] differs h = h
with_out q x (k ∷ ks) differs h =
    elim (compare k x) [
      | are_same same ↦ subst (Has q) (sym (drop_same k x ks same)) (dropped same h (with_out q x ks differs))
      | are_other other ↦ subst (Has q) (sym (keep_other k x ks other)) (kept h (with_out q x ks differs))
    ]
  where
    dropped : k ≡ x → (q ≡ k) ⊎ Has q ks → (Has q ks → Has q (without x ks)) → Has q (without x ks)
    dropped same (inl e) more = absurd (differs (e ∙ same))
    dropped same (inr has) more = more has

    kept : (q ≡ k) ⊎ Has q ks → (Has q ks → Has q (without x ks)) → (q ≡ k) ⊎ Has q (without x ks)
    kept (inl e) more = inl e
    kept (inr has) more = inr (more has)

once_without : (x : ℕ) (ks : List ℕ) → Once ks → Once (without x ks)
once_without x [] h = h
once_without x (k ∷ ks) h =
    elim (compare k x) [
      | are_same same ↦ subst Once (sym (drop_same k x ks same)) (once_without x ks h.1)
      | are_other other ↦ subst Once (sym (keep_other k x ks other)) (λ has. h.0 (has_without k x ks has), once_without x ks h.1)
    ]

distinct_once : (xs : List ℕ) → Once (distinct xs)
distinct_once [] = tt
distinct_once (x ∷ xs) = (not_without x (distinct xs), once_without x (distinct xs) (distinct_once xs))

has_distinct : (q : ℕ) (xs : List ℕ) → Has q xs → Has q (distinct xs)
has_distinct q [] h = h
has_distinct q (x ∷ xs) (inl same) = inl same
has_distinct q (x ∷ xs) (inr has) =
    elim (compare q x) [
      | are_same same ↦ inl same
      | are_other other ↦ inr (with_out q x (distinct xs) other (has_distinct q xs has))
    ]

distinct_has : (q : ℕ) (xs : List ℕ) → Has q (distinct xs) → Has q xs
distinct_has q [] h = h
distinct_has q (x ∷ xs) (inl same) = inl same
distinct_has q (x ∷ xs) (inr has) = inr (distinct_has q xs (has_without q x (distinct xs) has))

pub decide_has : (q : ℕ) (xs : List ℕ) → Has q xs ⊎ (Has q xs → ⊥)
decide_has q [] = inr (λ h. h)
decide_has q (x ∷ xs) =
    elim (compare q x) [
      | are_same same ↦ inl (inl same)
      | are_other other ↦ later other (decide_has q xs)
    ]
  where
    later : (q ≡ x → ⊥) → Has q xs ⊎ (Has q xs → ⊥) → ((q ≡ x) ⊎ Has q xs) ⊎ ((q ≡ x) ⊎ Has q xs → ⊥)
    later other (inl has) = inl (inr has)
    later other (inr none) = inr (neither other none)
      where
        neither : (q ≡ x → ⊥) → (Has q xs → ⊥) → (q ≡ x) ⊎ Has q xs → ⊥
        neither other none (inl same) = other same
        neither other none (inr has) = none has

-- ---- one more at the end

distinct_new : (q : ℕ) (xs : List ℕ) → (Has q xs → ⊥) → distinct (xs ++ q ∷ []) ≡ distinct xs ++ q ∷ []
distinct_new q [] none = refl
distinct_new q (x ∷ xs) none =
    ap (λ (ks : List ℕ). x ∷ ks) (ap (without x) (distinct_new q xs (λ has. none (inr has))) ∙ filter-append (λ y. not (eqb y x)) (distinct xs) (q ∷ []) ∙ ap (λ (ks : List ℕ). without x (distinct xs) ++ ks) (keep_other q x [] (λ e. none (inl e))))

pub distinct_known : (q : ℕ) (xs : List ℕ) → Has q xs → distinct (xs ++ q ∷ []) ≡ distinct xs
distinct_known q [] h = absurd h
distinct_known q (x ∷ xs) h = ap (λ (ks : List ℕ). x ∷ ks) (go h (decide_has q xs) (distinct_known q xs))
  where
    after_new : q ≡ x → (Has q xs → ⊥) → without x (distinct (xs ++ q ∷ [])) ≡ without x (distinct xs)
    after_new same none =
        ap (without x) (distinct_new q xs none) ∙ filter-append (λ y. not (eqb y x)) (distinct xs) (q ∷ []) ∙ ap (λ (ks : List ℕ). without x (distinct xs) ++ ks) (drop_same q x [] same) ∙ append-nil (without x (distinct xs))

    go : (q ≡ x) ⊎ Has q xs → Has q xs ⊎ (Has q xs → ⊥) → (Has q xs → distinct (xs ++ q ∷ []) ≡ distinct xs) → without x (distinct (xs ++ q ∷ [])) ≡ without x (distinct xs)
    go h (inl has) more = ap (without x) (more has)
    go (inl same) (inr none) more = after_new same none
    go (inr has) (inr none) more = absurd (none has)

-- ---- rows

changed_here : {Row : Type 0} (key : Row → ℕ) (fresh : ℕ → Row) (change : Row → Row) (id : ℕ) (row : Row) (rows : List Row) → key row ≡ id → rows_with key fresh change id (row ∷ rows) ≡ change row ∷ rows
changed_here key fresh change id row rows same = rw (eq-eqb (key row) id same) refl

changed_later : {Row : Type 0} (key : Row → ℕ) (fresh : ℕ → Row) (change : Row → Row) (id : ℕ) (row : Row) (rows : List Row) → (key row ≡ id → ⊥) → rows_with key fresh change id (row ∷ rows) ≡ row ∷ rows_with key fresh change id rows
changed_later key fresh change id row rows other = rw (ne_eqb (key row) id other) refl

-- Each row f k has the key k, and is new if k is not among the keys; the rows f' are these, with one changed.
pub record Moved {Row : Type 0} (key : Row → ℕ) (fresh : ℕ → Row) (change : Row → Row) (id : ℕ) (keys : List ℕ) (f g : ℕ → Row) : Type 0 where
  pub own : (k : ℕ) → key (f k) ≡ k
  pub unseen : (k : ℕ) → (Has k keys → ⊥) → f k ≡ fresh k
  pub here : g id ≡ change (f id)
  pub others : (k : ℕ) → (k ≡ id → ⊥) → g k ≡ f k

same_rows : {Row : Type 0} (id : ℕ) (f g : ℕ → Row) → ((k : ℕ) → (k ≡ id → ⊥) → g k ≡ f k) → (ks : List ℕ) → (Has id ks → ⊥) → map f ks ≡ map g ks
same_rows id f g others [] none = refl
same_rows id f g others (k ∷ ks) none = rw (others k (λ e. none (inl (sym e))), same_rows id f g others ks (λ has. none (inr has))) refl

change_known : {Row : Type 0} (key : Row → ℕ) (fresh : ℕ → Row) (change : Row → Row) (id : ℕ) (f g : ℕ → Row) → ((k : ℕ) → key (f k) ≡ k) → g id ≡ change (f id) → ((k : ℕ) → (k ≡ id → ⊥) → g k ≡ f k) → (ks : List ℕ) → Once ks → Has id ks
    → rows_with key fresh change id (map f ks) ≡ map g ks
change_known key fresh change id f g own here others [] once h = absurd h
change_known key fresh change id f g own here others (k ∷ ks) once h =
    elim (compare k id) [
      | are_same same ↦ changed_here key fresh change id (f k) (map f ks) (own k ∙ same) ∙ ap (λ (row : _). row ∷ map f ks) (ap (λ (j : ℕ). change (f j)) same ∙ sym here ∙ ap g (sym same)) ∙ ap (λ (rows : List _). g k ∷ rows) (same_rows id f g others ks (λ has. once.0 (subst (λ (j : ℕ). Has j ks) (sym same) has)))
      | are_other other ↦ changed_later key fresh change id (f k) (map f ks) (λ e. other (sym (own k) ∙ e)) ∙ ap (λ (rows : List _). f k ∷ rows) (change_known key fresh change id f g own here others ks once.1 (still other h)) ∙ ap (λ (row : _). row ∷ map g ks) (sym (others k other))
    ]
  where
    still : (k ≡ id → ⊥) → (id ≡ k) ⊎ Has id ks → Has id ks
    still other (inl e) = absurd (other (sym e))
    still other (inr has) = has

change_new : {Row : Type 0} (key : Row → ℕ) (fresh : ℕ → Row) (change : Row → Row) (id : ℕ) (f : ℕ → Row) → ((k : ℕ) → key (f k) ≡ k) → (ks : List ℕ) → (Has id ks → ⊥) → rows_with key fresh change id (map f ks) ≡ map f ks ++ change (fresh id) ∷ []
change_new key fresh change id f own [] none = refl
change_new key fresh change id f own (k ∷ ks) none =
    changed_later key fresh change id (f k) (map f ks) (λ e. none (inl (sym e ∙ own k))) ∙ ap (λ (rows : List _). f k ∷ rows) (change_new key fresh change id f own ks (λ has. none (inr has)))

-- one more thing changes the row of its key
pub rows_changed : {Row : Type 0} (key : Row → ℕ) (fresh : ℕ → Row) (change : Row → Row) (id : ℕ) (keys : List ℕ) (f g : ℕ → Row) → Moved key fresh change id keys f g → rows_with key fresh change id (map f (distinct keys)) ≡ map g (distinct (keys ++ id ∷ []))
rows_changed key fresh change id keys f g h =
    elim (decide_has id keys) [
      | inl has ↦ change_known key fresh change id f g h.own h.here h.others (distinct keys) (distinct_once keys) (has_distinct id keys has) ∙ ap (map g) (sym (distinct_known id keys has))
      | inr none ↦
          let not_yet : Has id (distinct keys) → ⊥ = λ has. none (distinct_has id keys has) in
          let before = change_new key fresh change id f h.own (distinct keys) not_yet in
          let last = ap change (sym (h.unseen id none)) ∙ sym h.here in
          before ∙ ap (λ (row : _). map f (distinct keys) ++ row ∷ []) last ∙ ap (λ (rows : List _). rows ++ g id ∷ []) (same_rows id f g h.others (distinct keys) not_yet) ∙ sym (map-append g (distinct keys) (id ∷ [])) ∙ ap (map g) (sym (distinct_new id keys none))
    ]
