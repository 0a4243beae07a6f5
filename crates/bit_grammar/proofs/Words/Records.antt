-- What the fields of records spell, in the words of the format.
use Rattle.std.proofs.Common.{◌≡◌, ℕ, zero, suc, ◌+◌, ◌≤◌, Bool, true, false, leb, List, [], ◌∷◌, ◌++◌, length, refl, sym, ap, subst, ◌∙◌, arith}
use Rattle.std.proofs.lemmas.List.{append-nil}
use Rattle.bit_grammar.specs.declared.op.Op.{Op}
use Rattle.bit_grammar.specs.declared.op.Op.TheVariants.{Literal, Fixed, Vbr, Array, Char6, Blob}
use Rattle.bit_grammar.specs.declared.op.Place.TheVariants.{First as first_place, Later as later}
use Rattle.bit_grammar.specs.declared.shapes.Shapes.TheVariants.{AtDefinition}
use Rattle.bit_grammar.specs.declared.reason.Reason.TheVariants.{TooManyValues}
use Rattle.bit_grammar.specs.Grammar.{Grammar, gives, ◌>>=◌, ◌>>◌, judge, repeat, Spells}
use Rattle.bit_grammar.specs.Fields.{vbr, align32, byte}
use Rattle.bit_grammar.specs.FormatFields.{IsVbr}
use Rattle.bit_grammar.specs.Definition.{fits, place_after, kind_of}
use Rattle.bit_grammar.specs.FormatDefinition.{IsElement, HasLawfulValue}
use Rattle.bit_grammar.specs.Record.{value_count, scalar, singles, values_of}
use Rattle.bit_grammar.specs.FormatRecord.{IsScalar, AreFields, IsBlob, AreValues}
use Rattle.bit_grammar.proofs.Readings.Deciding.{position-first, first-position, judged, judge-spells}
use Rattle.bit_grammar.proofs.Words.Fields.{fixed_is, is_fixed, vbr_is, is_vbr, char6_is, is_char6, align_is, is_align}
use Rattle.bit_grammar.proofs.Readings.Sequences.{made, made-spells}
use Rattle.bit_grammar.proofs.Words.Definitions.{PassFrom, field_fits}
use Rattle.bit_grammar.proofs.Readings.Wholes.{is_le}

-- ---- operands that give one value

-- an operand that gives one value
abbrev pub IsSingle : Op → Type 0
IsSingle Array = ⊥
IsSingle Blob = ⊥
IsSingle _ = Unit {0}

pub first_single : (after : ℕ) (op : Op) → fits first_place after (kind_of op) ≡ true → IsSingle op
first_single after (Literal v) h = tt
first_single after (Fixed width) h = tt
first_single after (Vbr width) h = tt
first_single after Array h = absurd (let no : false ≡ true = h in cc)
first_single after Char6 h = tt
first_single after Blob h = absurd (let no : false ≡ true = h in cc)

element_single : (op : Op) → IsElement op → IsSingle op
element_single (Literal v) h = tt
element_single (Fixed width) h = tt
element_single (Vbr width) h = tt
element_single Array h = absurd h
element_single Char6 h = tt
element_single Blob h = absurd h

pub later_after : (op : Op) → IsSingle op → place_after op ≡ later
later_after (Literal v) h = refl
later_after (Fixed width) h = refl
later_after (Vbr width) h = refl
later_after Array h = absurd h
later_after Char6 h = refl
later_after Blob h = absurd h

pub scalar_is : (op : Op) → IsSingle op → HasLawfulValue op → (p : ℕ) (s : List Bool) (v : ℕ) → Spells (scalar op) p s v → IsScalar op v s
unfolding scalar vbr
scalar_is (Literal n) single lawful p s v h = (h.1, h.0)
scalar_is (Fixed width) single lawful p s v h = fixed_is width p s v h
scalar_is (Vbr zero) single lawful p s v h = (h.1, h.0)
scalar_is (Vbr (suc zero)) single lawful p s v h = absurd (lawful.1 refl)
scalar_is (Vbr (suc (suc width))) single lawful p s v h = vbr_is (suc (suc width)) p s v (omega arith) h
scalar_is Array single lawful p s v h = absurd single
scalar_is Char6 single lawful p s v h = char6_is p s v h
scalar_is Blob single lawful p s v h = absurd single

pub is_scalar : (op : Op) → HasLawfulValue op → (p : ℕ) (s : List Bool) (v : ℕ) → IsScalar op v s → Spells (scalar op) p s v
unfolding scalar vbr
is_scalar (Literal n) lawful p s v h = (h.1, h.0)
is_scalar (Fixed width) lawful p s v h = is_fixed width p s v h
is_scalar (Vbr zero) lawful p s v h = (h.1, h.0)
is_scalar (Vbr (suc zero)) lawful p s v h = absurd (lawful.1 refl)
is_scalar (Vbr (suc (suc width))) lawful p s v h = is_vbr (suc (suc width)) p s v (omega arith) h
is_scalar Array lawful p s v h = absurd h
is_scalar Char6 lawful p s v h = is_char6 p s v h
is_scalar Blob lawful p s v h = absurd h

-- ---- fields one after another

-- a repeated rule spells fields of an operand, if the rule spells one such field
pub fields_are : (op : Op) (rule : Grammar ℕ) → ((p : ℕ) (s : List Bool) (v : ℕ) → Spells rule p s v → IsScalar op v s)
    → (n p : ℕ) (s : List Bool) (vs : List ℕ) → Spells (repeat n rule) p s vs → AreFields op vs s × (length vs ≡ n)
fields_are op rule one zero p s vs h = subst (λ (xs : List ℕ). AreFields op xs s × (length xs ≡ 0)) (sym h.1) (h.0, refl)
fields_are op rule one (suc n) p s vs h =
    let m = made (repeat n rule) (λ xs. h.2 ∷ xs) (p + length h.0) h.1 vs h.5 in
    let rest = fields_are op rule one n (p + length h.0) h.1 m.0 m.1 in
    subst (λ (xs : List ℕ). AreFields op xs s × (length xs ≡ suc n)) (sym m.2) ((h.0, h.1, h.3, one p h.0 h.2 h.4, rest.0), ap suc rest.1)

pub are_fields : (op : Op) (rule : Grammar ℕ) → ((p : ℕ) (s : List Bool) (v : ℕ) → IsScalar op v s → Spells rule p s v)
    → (p : ℕ) (s : List Bool) (vs : List ℕ) → AreFields op vs s → Spells (repeat (length vs) rule) p s vs
are_fields op rule one p s [] h = (h, refl)
are_fields op rule one p s (v ∷ vs) h = (h.0, h.1, v, h.2, one p h.0 v h.3, made-spells (repeat (length vs) rule) (λ xs. v ∷ xs) (p + length h.0) h.1 vs (are_fields op rule one (p + length h.0) h.1 vs h.4))

-- ---- the number of values

pub count_is : (room p : ℕ) (s : List Bool) (n : ℕ) → Spells (value_count room) p s n → IsVbr 6 n s
unfolding value_count
count_is room p s n h =
    let w = position-first (λ place. vbr 6 >>= λ count. judge (leb count room) TooManyValues place >> gives count) p s n h in
    let j = judged (leb w.2 room) (record { reason = TooManyValues; bit = p }) (gives w.2) (p + length w.0) w.1 n w.5 in
    let all : s ≡ w.0 = w.3 ∙ ap (λ (t : List Bool). w.0 ++ t) j.1.0 ∙ append-nil w.0 in
    subst (λ (m : ℕ). IsVbr 6 m s) (sym j.1.1) (subst (IsVbr 6 w.2) (sym all) (vbr_is 6 p w.0 w.2 (omega arith) w.4))

pub is_count : (room p : ℕ) (s : List Bool) (n : ℕ) → IsVbr 6 n s → n ≤ room → Spells (value_count room) p s n
unfolding value_count
is_count room p s n h fits =
    first-position (λ place. vbr 6 >>= λ count. judge (leb count room) TooManyValues place >> gives count) p s n
    (s, [], n, sym (append-nil s), is_vbr 6 p s n (omega arith) h, judge-spells (leb n room) (record { reason = TooManyValues; bit = p }) (gives n) (p + length s) [] n (is_le n room fits) (refl, refl))

-- ---- the values of operands

-- one value and those after it, at an operand that gives one
abbrev OneThen : (op : Op) (others : List Op) → ℕ → List ℕ → List Bool → Type 0
OneThen op others p vs s = (v : ℕ) × (rest : List ℕ) × (front behind : List Bool) × (vs ≡ v ∷ rest) × (s ≡ front ++ behind) × IsScalar op v front × AreValues others (p + length front) rest behind

one_then : (room : ℕ) (op : Op) (others : List Op) (p : ℕ) (s : List Bool) (vs : List ℕ) → IsSingle op → HasLawfulValue op
    → ((q : ℕ) (t : List Bool) (xs : List ℕ) → Spells (values_of room others) q t xs → AreValues others q xs t)
    → Spells (scalar op >>= λ value. values_of room others >>= λ values. gives (value ∷ values)) p s vs → OneThen op others p vs s
one_then room op others p s vs single lawful rest h =
    let m = made (values_of room others) (λ xs. h.2 ∷ xs) (p + length h.0) h.1 vs h.5 in
    (h.2, m.0, h.0, h.1, m.2, h.3, scalar_is op single lawful p h.0 h.2 h.4, rest (p + length h.0) h.1 m.0 m.1)

pub values_are : (room : ℕ) (ops : List Op) (p : ℕ) (s : List Bool) (vs : List ℕ) → PassFrom AtDefinition later ops → Spells (values_of room ops) p s vs → AreValues ops p vs s
unfolding values_of byte
values_are room [] p s vs l h = (h.1, h.0)
values_are room (Array ∷ []) p s vs l h = absurd (let no : false ≡ true = l.0 in cc)
values_are room (Array ∷ element ∷ others) p s vs l h =
    let single = element_single element (field_fits (length others) element l.2.0) in
    let r = fields_are element (scalar element) (scalar_is element single l.2.1) h.2 (p + length h.0) h.1 vs h.5 in
    (h.0, h.1, h.3, subst (λ (n : ℕ). IsVbr 6 n h.0) (sym r.1) (count_is room p h.0 h.2 h.4), r.0)
values_are room (Blob ∷ others) p s vs l h =
    let before = h.5 in
    let bytes = before.5 in
    let q : ℕ = p + length h.0 + length before.0 + length bytes.0 in
    let behind = made align32 (λ u. bytes.2) q bytes.1 vs bytes.5 in
    let r = fields_are (Fixed 8) byte (fixed_is 8) h.2 (p + length h.0 + length before.0) bytes.0 bytes.2 bytes.4 in
    subst (λ (xs : List ℕ). IsBlob p xs s) (sym behind.2)
    (record {
      count = h.0;
      before = before.0;
      bytes = bytes.0;
      behind = bytes.1;
      parts = h.3 ∙ ap (λ (t : List Bool). h.0 ++ t) before.3 ∙ ap (λ (t : List Bool). h.0 ++ (before.0 ++ t)) bytes.3;
      counted = subst (λ (n : ℕ). IsVbr 6 n h.0) (sym r.1) (count_is room p h.0 h.2 h.4);
      padded_before = align_is (p + length h.0) before.0 before.2 before.4;
      are_bytes = r.0;
      padded_behind = align_is q bytes.1 behind.0 behind.1;
    })
values_are room (Literal n ∷ others) p s vs l h = one_then room (Literal n) others p s vs tt l.1 (λ q t xs k. values_are room others q t xs l.2 k) h
values_are room (Fixed n ∷ others) p s vs l h = one_then room (Fixed n) others p s vs tt l.1 (λ q t xs k. values_are room others q t xs l.2 k) h
values_are room (Vbr n ∷ others) p s vs l h = one_then room (Vbr n) others p s vs tt l.1 (λ q t xs k. values_are room others q t xs l.2 k) h
values_are room (Char6 ∷ others) p s vs l h = one_then room Char6 others p s vs tt l.1 (λ q t xs k. values_are room others q t xs l.2 k) h

then_one : (room : ℕ) (op : Op) (others : List Op) (p : ℕ) (s : List Bool) (vs : List ℕ) → HasLawfulValue op
    → ((q : ℕ) (t : List Bool) (xs : List ℕ) → AreValues others q xs t → length xs ≤ singles others + room → Spells (values_of room others) q t xs)
    → OneThen op others p vs s → length vs ≤ suc (singles others) + room → Spells (scalar op >>= λ value. values_of room others >>= λ values. gives (value ∷ values)) p s vs
then_one room op others p s vs lawful rest (v, xs, front, behind, values, parts, is, are) fits =
    let few : length xs ≤ singles others + room = omega (arith, ap length values) in
    subst (Spells (scalar op >>= λ value. values_of room others >>= λ values. gives (value ∷ values)) p s) (sym values)
    (front, behind, v, parts, is_scalar op lawful p front v is, made-spells (values_of room others) (λ ys. v ∷ ys) (p + length front) behind xs (rest (p + length front) behind xs are few))

pub are_values : (room : ℕ) (ops : List Op) (p : ℕ) (s : List Bool) (vs : List ℕ) → PassFrom AtDefinition later ops → AreValues ops p vs s → length vs ≤ singles ops + room → Spells (values_of room ops) p s vs
unfolding values_of byte
are_values room [] p s vs l h fits = (h.1, h.0)
are_values room (Array ∷ []) p s vs l h fits = absurd h
are_values room (Array ∷ element ∷ others) p s vs l h fits =
    (h.0, h.1, length vs, h.2, is_count room p h.0 (length vs) h.3 (omega (arith, fits)), are_fields element (scalar element) (is_scalar element l.2.1) (p + length h.0) h.1 vs h.4)
are_values room (Blob ∷ others) p s vs l h fits =
    let q : ℕ = p + length h.count in
    let r : ℕ = q + length h.before in (
      h.count,
      h.before ++ (h.bytes ++ h.behind),
      length vs,
      h.parts,
      is_count room p h.count (length vs) h.counted (omega (arith, fits)),
      (
        h.before,
        h.bytes ++ h.behind,
        tt,
        refl,
        is_align q h.before h.padded_before,
        (h.bytes, h.behind, vs, refl, are_fields (Fixed 8) byte (is_fixed 8) r h.bytes vs h.are_bytes, made-spells align32 (λ u. vs) (r + length h.bytes) h.behind tt (is_align (r + length h.bytes) h.behind h.padded_behind)),
      ),
    )
are_values room (Literal n ∷ others) p s vs l h fits = then_one room (Literal n) others p s vs l.1 (λ q t xs k few. are_values room others q t xs l.2 k few) h fits
are_values room (Fixed n ∷ others) p s vs l h fits = then_one room (Fixed n) others p s vs l.1 (λ q t xs k few. are_values room others q t xs l.2 k few) h fits
are_values room (Vbr n ∷ others) p s vs l h fits = then_one room (Vbr n) others p s vs l.1 (λ q t xs k few. are_values room others q t xs l.2 k few) h fits
are_values room (Char6 ∷ others) p s vs l h fits = then_one room Char6 others p s vs l.1 (λ q t xs k few. are_values room others q t xs l.2 k few) h fits

-- there is at least one value for each operand that gives one
pub values_some : (ops : List Op) (p : ℕ) (s : List Bool) (vs : List ℕ) → AreValues ops p vs s → singles ops ≤ length vs
values_some [] p s vs h = omega arith
values_some (Array ∷ []) p s vs h = omega arith
values_some (Array ∷ element ∷ others) p s vs h = omega arith
values_some (Blob ∷ others) p s vs h = omega arith
values_some (Literal n ∷ others) p s vs (v, xs, front, behind, values, parts, is, are) = omega (arith, ap length values, values_some others (p + length front) behind xs are)
values_some (Fixed n ∷ others) p s vs (v, xs, front, behind, values, parts, is, are) = omega (arith, ap length values, values_some others (p + length front) behind xs are)
values_some (Vbr n ∷ others) p s vs (v, xs, front, behind, values, parts, is, are) = omega (arith, ap length values, values_some others (p + length front) behind xs are)
values_some (Char6 ∷ others) p s vs (v, xs, front, behind, values, parts, is, are) = omega (arith, ap length values, values_some others (p + length front) behind xs are)
