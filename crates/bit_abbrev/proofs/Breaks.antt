-- Judging operand by operand gives what the rules say of the list.
use Rattle.std.proofs.Common.{◌≡◌, ◌⊎◌, ◌↔◌, ℕ, zero, suc, ◌+◌, ◌-◌, ◌<◌, ◌≤◌, Bool, true, false, List, [], ◌∷◌, length, Option, Some, None, refl, sym, ap, subst, ◌∙◌, inl, inr, arith, add-one, below_more, cond}
use Rattle.std.specs.List.{AllByRecursion}
use Rattle.std.proofs.lemmas.Bool.{leb-false, eqb-true, eqb-false, and_left, and_right, and_cases, not-false, not_from_true, lt-leb, eq-eqb, cases_eq, cases_lt}
use Rattle.bit_grammar.specs.declared.op.Op.{Op}
use Rattle.bit_grammar.specs.declared.op.Op.TheVariants.{Literal, Fixed, Vbr, Array, Char6, Blob}
use Rattle.bit_grammar.specs.declared.op.Kind.TheVariants.{Array as array, Blob as blob}
use Rattle.bit_grammar.specs.declared.op.Place.{Place}
use Rattle.bit_grammar.specs.declared.op.Place.TheVariants.{First as first, Element as element, Later as later}
use Rattle.bit_grammar.specs.declared.reason.Reason.{Reason}
use Rattle.bit_grammar.specs.declared.reason.Reason.TheVariants.{AbbrevShape, FieldWidth}
use Rattle.bit_grammar.specs.Definition.{fits, fixed_lawful, vbr_lawful, place_after, kind_of}
use Rattle.bit_grammar.specs.FormatDefinition.{op_at, IsElement, HasLawfulValue, Lawful}
use Rattle.bit_abbrev.specs.Breaks.{BreaksShape, first_array, first_blob, array_place, no_element, blob_place, BreaksWidth, BreaksAt, NoneBreaks, IsFirstBreak, LiteralFits, width_break, break_of}

-- ---- how it is judged, from left to right

-- the place of the operand at an index
abbrev pub place_at : List Op → ℕ → Place
place_at ops zero = first
place_at ops (suc i) = place_after (op_at ops i)

-- the break of the operand at an index
abbrev pub break_at : List Op → ℕ → Option Reason
break_at ops i = break_of (place_at ops i) (length ops - 1 - i) (op_at ops i)

-- ---- the shape

after_is : (op : Op) → place_after op ≡ element → op ≡ Array
after_is Array e = refl
after_is (Literal v) e = absurd cc
after_is (Fixed w) e = absurd cc
after_is (Vbr w) e = absurd cc
after_is Char6 e = absurd cc
after_is Blob e = absurd cc

not_first : (op : Op) → place_after op ≡ first → ⊥
not_first Array e = absurd cc
not_first (Literal v) e = absurd cc
not_first (Fixed w) e = absurd cc
not_first (Vbr w) e = absurd cc
not_first Char6 e = absurd cc
not_first Blob e = absurd cc

is_first : (ops : List Op) (i : ℕ) → place_at ops i ≡ first → i ≡ 0
is_first ops zero e = refl
is_first ops (suc i) e = absurd (not_first (op_at ops i) e)

is_element : (ops : List Op) (i : ℕ) → place_at ops i ≡ element → (before : ℕ) × (i ≡ before + 1) × (op_at ops before ≡ Array)
is_element ops zero e = absurd cc
is_element ops (suc i) e = (i, omega arith, after_is (op_at ops i) e)

misplaced : (ops : List Op) (i : ℕ) (place : Place) (op : Op) → i < length ops → place_at ops i ≡ place → op_at ops i ≡ op → fits place (length ops - 1 - i) (kind_of op) ≡ false → BreaksShape ops i
misplaced ops i first Array h p e bad = first_array (is_first ops i p) e
misplaced ops i first Blob h p e bad = first_blob (is_first ops i p) e
misplaced ops i first (Literal v) h p e bad = absurd cc
misplaced ops i first (Fixed w) h p e bad = absurd cc
misplaced ops i first (Vbr w) h p e bad = absurd cc
misplaced ops i first Char6 h p e bad = absurd cc
misplaced ops i element Array h p e bad = let b = is_element ops i p in no_element b.0 b.1 b.2 (λ x. subst IsElement e x)
misplaced ops i element Blob h p e bad = let b = is_element ops i p in no_element b.0 b.1 b.2 (λ x. subst IsElement e x)
misplaced ops i element (Literal v) h p e bad = let b = is_element ops i p in no_element b.0 b.1 b.2 (λ x. subst IsElement e x)
misplaced ops i element (Fixed w) h p e bad = absurd cc
misplaced ops i element (Vbr w) h p e bad = absurd cc
misplaced ops i element Char6 h p e bad = absurd cc
misplaced ops i later Array h p e bad = array_place e (λ x. eqb-false _ _ bad (omega (arith, x)))
misplaced ops i later Blob h p e bad = blob_place e (λ x. eqb-false _ _ bad (omega (arith, x)))
misplaced ops i later (Literal v) h p e bad = absurd cc
misplaced ops i later (Fixed w) h p e bad = absurd cc
misplaced ops i later (Vbr w) h p e bad = absurd cc
misplaced ops i later Char6 h p e bad = absurd cc

array_fits : (place : Place) (after : ℕ) → fits place after array ≡ true → after ≡ 1
array_fits first after h = absurd cc
array_fits element after h = absurd cc
array_fits later after h = eqb-true _ _ h

blob_fits : (place : Place) (after : ℕ) → fits place after blob ≡ true → after ≡ 0
blob_fits first after h = absurd cc
blob_fits element after h = absurd cc
blob_fits later after h = eqb-true _ _ h

element_fits : (after : ℕ) (op : Op) → fits element after (kind_of op) ≡ true → IsElement op
element_fits after (Literal v) h = absurd cc
element_fits after (Fixed w) h = tt
element_fits after (Vbr w) h = tt
element_fits after Array h = absurd cc
element_fits after Char6 h = tt
element_fits after Blob h = absurd cc

-- whether the operand at an index may be there
abbrev fits_at : List Op → ℕ → Bool
fits_at ops i = fits (place_at ops i) (length ops - 1 - i) (kind_of (op_at ops i))

well_placed : (ops : List Op) (i : ℕ) → i < length ops → fits_at ops i ≡ true → BreaksShape ops i → ⊥
well_placed ops i h good (first_array z e) =
    let bad : fits_at ops i ≡ false = rw (z, rw z at e) refl in
    absurd cc
well_placed ops i h good (first_blob z e) =
    let bad : fits_at ops i ≡ false = rw (z, rw z at e) refl in
    absurd cc
well_placed ops i h good (array_place e bad) =
    bad (omega (arith, array_fits (place_at ops i) (length ops - 1 - i) (ap (λ (x : Op). fits (place_at ops i) (length ops - 1 - i) (kind_of x)) (sym e) ∙ good)))
well_placed ops i h good (no_element before at e bad) =
    let is : i ≡ suc before = omega (arith, at) in
    let place : place_at ops i ≡ element = ap (place_at ops) is ∙ ap place_after e in
    bad (element_fits (length ops - 1 - i) (op_at ops i) (ap (λ (x : Place). fits x (length ops - 1 - i) (kind_of (op_at ops i))) (sym place) ∙ good))
well_placed ops i h good (blob_place e bad) =
    bad (omega (arith, blob_fits (place_at ops i) (length ops - 1 - i) (ap (λ (x : Op). fits (place_at ops i) (length ops - 1 - i) (kind_of x)) (sym e) ∙ good)))

-- ---- the width

too_wide : (op : Op) (reason : Reason) → width_break op ≡ Some reason → (reason ≡ FieldWidth) × BreaksWidth op
too_wide (Literal v) reason e = absurd cc
too_wide (Fixed w) reason e = by (fixed_lawful w) refl e
  where
    by : (b : Bool) → fixed_lawful w ≡ b → cond b None (Some FieldWidth) ≡ Some reason → (reason ≡ FieldWidth) × (32 < w)
    by true is e = absurd cc
    by false is e = (cc, leb-false _ _ is)
too_wide (Vbr w) reason e = by (vbr_lawful w) refl e
  where
    wide : (w : ℕ) → vbr_lawful w ≡ false → (32 < w) ⊎ (w ≡ 1)
    wide w bad = elim (and_cases _ _ bad) [ inl x ↦ inl (leb-false _ _ x) | inr x ↦ inr (eqb-true _ _ (not-false _ x)) ]

    by : (b : Bool) → vbr_lawful w ≡ b → cond b None (Some FieldWidth) ≡ Some reason → (reason ≡ FieldWidth) × ((32 < w) ⊎ (w ≡ 1))
    by true is e = absurd cc
    by false is e = (cc, wide w is)
too_wide Array reason e = absurd cc
too_wide Char6 reason e = absurd cc
too_wide Blob reason e = absurd cc

unlawful : (w : ℕ) → (32 < w) ⊎ (w ≡ 1) → vbr_lawful w ≡ false
unlawful w (inl h) = and_left _ _ (lt-leb _ _ h)
unlawful w (inr h) = and_right _ _ (not_from_true _ (eq-eqb _ _ h))

not_wide : (op : Op) → width_break op ≡ None → BreaksWidth op → ⊥
not_wide (Literal v) e h = h
not_wide (Fixed w) e h =
    let bad : fixed_lawful w ≡ false = lt-leb _ _ h in
    absurd cc
not_wide (Vbr w) e h =
    let bad : vbr_lawful w ≡ false = unlawful w h in
    absurd cc
not_wide Array e h = h
not_wide Char6 e h = h
not_wide Blob e h = h

-- ---- the operand at an index

-- an operand that is judged to break the rules breaks them
pub judged_so : (ops : List Op) (i : ℕ) (reason : Reason) → i < length ops → break_at ops i ≡ Some reason → BreaksAt ops i reason
judged_so ops i reason h e = by (fits_at ops i) refl e
  where
    by : (b : Bool) → fits_at ops i ≡ b → cond b (width_break (op_at ops i)) (Some AbbrevShape) ≡ Some reason → BreaksAt ops i reason
    by true is e =
        let wide = too_wide (op_at ops i) reason e in
        (h, inr (wide.0, well_placed ops i h is, wide.1))
    by false is e = (h, inl (cc, misplaced ops i (place_at ops i) (op_at ops i) h refl refl is))

-- an operand that is judged to keep the rules breaks none
pub not_broken : (ops : List Op) (i : ℕ) (reason : Reason) → break_at ops i ≡ None → BreaksAt ops i reason → ⊥
not_broken ops i reason e b = by (fits_at ops i) refl e
  where
    by : (t : Bool) → fits_at ops i ≡ t → cond t (width_break (op_at ops i)) (Some AbbrevShape) ≡ None → ⊥
    by true is e = elim b.1 [ inl x ↦ well_placed ops i b.0 is x.1 | inr x ↦ not_wide (op_at ops i) e x.2 ]
    by false is e = absurd cc

-- ---- the list

values_at : (P : Op → Type 0) (ops : List Op) → AllByRecursion P ops → (i : ℕ) → i < length ops → P (op_at ops i)
values_at P [] h i less = absurd (omega (arith, less))
values_at P (op ∷ ops) h zero less = h.0
values_at P (op ∷ ops) h (suc i) less = values_at P ops h.1 i (omega (arith, less))

all_at : (P : Op → Type 0) (ops : List Op) → ((i : ℕ) → i < length ops → P (op_at ops i)) → AllByRecursion P ops
all_at P [] h = tt
all_at P (op ∷ ops) h = (h 0 (omega arith), all_at P ops (λ i less. h (suc i) (omega (arith, less))))

within : (ops : List Op) (i : ℕ) → (i < length ops) ⊎ (op_at ops i ≡ Literal 0)
within [] i = inr refl
within (op ∷ ops) zero = inl (omega arith)
within (op ∷ ops) (suc i) = elim (within ops i) [ inl less ↦ inl (omega (arith, less)) | inr e ↦ inr e ]

element_or_not : (op : Op) → IsElement op ⊎ (IsElement op → ⊥)
element_or_not (Literal v) = inr (λ x. x)
element_or_not (Fixed w) = inl tt
element_or_not (Vbr w) = inl tt
element_or_not Array = inr (λ x. x)
element_or_not Char6 = inl tt
element_or_not Blob = inr (λ x. x)

at_most : (w : ℕ) → (32 < w → ⊥) → w ≤ 32
at_most w h = elim (cases_lt 32 w) [ inl wide ↦ absurd (h wide) | inr most ↦ most ]

value_is : (op : Op) → LiteralFits op → (BreaksWidth op → ⊥) → HasLawfulValue op
value_is (Literal v) fit h = fit
value_is (Fixed w) fit h = at_most w h
value_is (Vbr w) fit h = (at_most w (λ x. h (inl x)), λ x. h (inr x))
value_is Array fit h = tt
value_is Char6 fit h = tt
value_is Blob fit h = tt

array_is : (ops : List Op) → NoneBreaks ops → (i : ℕ) → op_at ops i ≡ Array → i + 2 ≡ length ops
array_is ops none i e =
    elim (within ops i) [
      | inl less ↦ elim (cases_eq (i + 2) (length ops)) [ inl is ↦ is | inr bad ↦ absurd (none i AbbrevShape (less, inl (refl, array_place e bad))) ]
      | inr past ↦ absurd cc
    ]

blob_is : (ops : List Op) → NoneBreaks ops → (i : ℕ) → op_at ops i ≡ Blob → i + 1 ≡ length ops
blob_is ops none i e =
    elim (within ops i) [
      | inl less ↦ elim (cases_eq (i + 1) (length ops)) [ inl is ↦ is | inr bad ↦ absurd (none i AbbrevShape (less, inl (refl, blob_place e bad))) ]
      | inr past ↦ absurd cc
    ]

element_is : (ops : List Op) → NoneBreaks ops → (i : ℕ) → op_at ops i ≡ Array → IsElement (op_at ops (i + 1))
element_is ops none i e =
    elim (element_or_not (op_at ops (i + 1))) [
      | inl is ↦ is
      | inr bad ↦ absurd (none (i + 1) AbbrevShape (omega (arith, array_is ops none i e), inl (refl, no_element i refl e bad)))
    ]

-- a list that is not empty, whose literals fit and in which no operand breaks, is lawful
pub lawful_if : (ops : List Op) → 0 < length ops → AllByRecursion LiteralFits ops → NoneBreaks ops → Lawful ops
lawful_if ops some fit none = record {
  some = some;
  order = record {
    first = (λ e. none 0 AbbrevShape (some, inl (refl, first_array refl e)), λ e. none 0 AbbrevShape (some, inl (refl, first_blob refl e)));
    array = array_is ops none;
    element = element_is ops none;
    blob = blob_is ops none;
  };
  values = all_at HasLawfulValue ops (λ i less. value_is (op_at ops i) (values_at LiteralFits ops fit i less) (λ wide. none i FieldWidth (less, inr (refl, λ shape. none i AbbrevShape (less, inl (refl, shape)), wide))));
}

unbroken : (ops : List Op) (i : ℕ) → Lawful ops → BreaksShape ops i → ⊥
unbroken ops i h (first_array z e) = h.order.first.0 (ap (op_at ops) (sym z) ∙ e)
unbroken ops i h (first_blob z e) = h.order.first.1 (ap (op_at ops) (sym z) ∙ e)
unbroken ops i h (array_place e bad) = bad (h.order.array i e)
unbroken ops i h (no_element before at e bad) = bad (subst (λ (k : ℕ). IsElement (op_at ops k)) (sym at) (h.order.element before e))
unbroken ops i h (blob_place e bad) = bad (h.order.blob i e)

narrow : (op : Op) → HasLawfulValue op → BreaksWidth op → ⊥
narrow (Literal v) h x = x
narrow (Fixed w) h x = omega (arith, h, x)
narrow (Vbr w) h (inl x) = omega (arith, h.0, x)
narrow (Vbr w) h (inr x) = h.1 x
narrow Array h x = x
narrow Char6 h x = x
narrow Blob h x = x

literal_fits : (op : Op) → HasLawfulValue op → LiteralFits op
literal_fits (Literal v) h = h
literal_fits (Fixed w) h = tt
literal_fits (Vbr w) h = tt
literal_fits Array h = tt
literal_fits Char6 h = tt
literal_fits Blob h = tt

-- in a lawful list no operand breaks
pub none_breaks : (ops : List Op) → Lawful ops → NoneBreaks ops
none_breaks ops h i reason b =
    elim b.1 [ inl x ↦ unbroken ops i h x.1 | inr x ↦ narrow (op_at ops i) (values_at HasLawfulValue ops h.values i b.0) x.2 ]

-- a list is lawful exactly if it is not empty, its literals fit and no operand breaks
pub lawful_is : (ops : List Op) → (Lawful ops ↔ ((0 < length ops) × AllByRecursion LiteralFits ops × NoneBreaks ops))
lawful_is ops = (
  λ h. (h.some, all_at LiteralFits ops (λ i less. literal_fits (op_at ops i) (values_at HasLawfulValue ops h.values i less)), none_breaks ops h),
  λ h. lawful_if ops h.0 h.1 h.2,
)

-- ---- the first break

-- the operands before an index are judged to keep the rules
abbrev pub HoldBefore : List Op → ℕ → Type 0
HoldBefore ops i = (j : ℕ) → j < i → (break_at ops j ≡ None) × LiteralFits (op_at ops j)

-- all of them keep the rules
pub all_hold : (ops : List Op) → 0 < length ops → HoldBefore ops (length ops) → Lawful ops
all_hold ops some held =
    lawful_if ops some (all_at LiteralFits ops (λ i less. (held i less).1)) (λ i reason b. not_broken ops i reason (held i b.0).0 b)

-- the operand at an index breaks the rules, and those before it keep them
pub first_found : (ops : List Op) (i : ℕ) (reason : Reason) → i < length ops → HoldBefore ops i → break_at ops i ≡ Some reason → IsFirstBreak ops i reason
first_found [] i reason less held e = absurd (omega (arith, less))
first_found (op ∷ ops) i reason less held e =
    (judged_so (op ∷ ops) i reason less e, λ j other before b. not_broken (op ∷ ops) j other (held j before).0 b)

-- a list with a first break is not lawful
pub not_lawful : (ops : List Op) (i : ℕ) (reason : Reason) → IsFirstBreak ops i reason → Lawful ops → ⊥
not_lawful [] i reason b h = omega (arith, h.some)
not_lawful (op ∷ ops) i reason b h = none_breaks (op ∷ ops) h i reason b.0

-- ---- the loop over a list

-- the judgement at the place that was kept
pub judged_at : (ops : List Op) (i : ℕ) (place : Place) (found : Option Reason) → place ≡ place_at ops i → found ≡ break_of place (length ops - 1 - i) (op_at ops i) → break_at ops i ≡ found
judged_at ops i place found is e = ap (λ (x : Place). break_of x (length ops - 1 - i) (op_at ops i)) (sym is) ∙ sym e

pub next_place : (ops : List Op) (i : ℕ) (place : Place) → place ≡ place_after (op_at ops i) → place ≡ place_at ops (i + 1)
next_place ops i place e = e ∙ ap (place_at ops) (sym (add-one i))

-- one more operand keeps the rules
pub hold_more : (ops : List Op) (i : ℕ) → HoldBefore ops i → break_at ops i ≡ None → LiteralFits (op_at ops i) → HoldBefore ops (i + 1)
hold_more ops i held e fit = below_more (λ j. (break_at ops j ≡ None) × LiteralFits (op_at ops j)) i held (e, fit)
