-- A definition that is spelled has operands with lawful values, and in a lawful order if that is judged there.
use Rattle.std.proofs.Common.{◌≡◌, ℕ, zero, suc, ◌+◌, ◌≢◌, Bool, true, false, ltb, List, [], ◌∷◌, length, refl, sym, ap, subst, ◌∙◌, arith}
use Rattle.std.specs.List.{AllByRecursion}
use Rattle.std.proofs.lemmas.Bool.{ltb-true, leb-true, eqb-true, eqb-false, and_parts, not-true}
use Rattle.bit_grammar.specs.declared.op.Op.{Op}
use Rattle.bit_grammar.specs.declared.op.Kind.{Kind}
use Rattle.bit_grammar.specs.declared.op.Kind.TheVariants.{Literal as literal, Fixed as fixed_width, Vbr as vbr_width, Array as array, Char6 as char6, Blob as blob}
use Rattle.bit_grammar.specs.declared.op.Place.{Place}
use Rattle.bit_grammar.specs.declared.op.Place.TheVariants.{First as first, Element as element, Later as later}
use Rattle.bit_grammar.specs.declared.op.Op.TheVariants.{Literal, Fixed, Vbr, Array, Char6, Blob}
use Rattle.bit_grammar.specs.declared.reason.Reason.TheVariants.{AbbrevEmpty, AbbrevShape, FieldWidth}
use Rattle.bit_grammar.specs.Grammar.{gives, ◌>>=◌, ◌>>◌, judge, Spells}
use Rattle.bit_grammar.specs.Fields.{vbr}
use Rattle.bit_grammar.specs.declared.shapes.Shapes.{Shapes}
use Rattle.bit_grammar.specs.declared.shapes.Shapes.TheVariants.{AtDefinition, AtUse}
use Rattle.bit_grammar.specs.Definition.{kind, fits, passes, fixed_lawful, vbr_lawful, valued, operand, place_after, operands, definition, kind_of, in_order, has_shape}
use Rattle.bit_grammar.specs.FormatDefinition.{op_at, IsElement, HasLawfulValue, Definable, InOrder, Lawful, PassesShape}
use Rattle.bit_grammar.proofs.Readings.Deciding.{position-first, judged}
use Rattle.bit_grammar.proofs.Words.Fields.{vbr_is}

abbrev IsOf : Kind → Op → Type 0
IsOf k op = (kind_of op ≡ k) × HasLawfulValue op

valued_is : (k : Kind) (p : ℕ) (s : List Bool) (op : Op) → Spells (valued k) p s op → IsOf k op
unfolding valued
valued_is literal p s op h =
    let v = h in
    subst (IsOf literal) (sym v.5.1) (refl, (vbr_is 8 p v.0 v.2 (omega arith) v.4).below)
valued_is fixed_width p s op h =
    let w = position-first (λ place. vbr 5 >>= λ width. judge (fixed_lawful width) FieldWidth place >> gives (Fixed width)) p s op h in
    let j = judged (fixed_lawful w.2) (record { reason = FieldWidth; bit = p }) (gives (Fixed w.2)) (p + length w.0) w.1 op w.5 in
    subst (IsOf fixed_width) (sym j.1.1) (refl, leb-true _ _ j.0)
valued_is vbr_width p s op h =
    let w = position-first (λ place. vbr 5 >>= λ width. judge (vbr_lawful width) FieldWidth place >> gives (Vbr width)) p s op h in
    let j = judged (vbr_lawful w.2) (record { reason = FieldWidth; bit = p }) (gives (Vbr w.2)) (p + length w.0) w.1 op w.5 in
    let both = and_parts _ _ j.0 in
    subst (IsOf vbr_width) (sym j.1.1) (refl, (leb-true _ _ both.0, eqb-false _ _ (not-true _ both.1)))
valued_is array p s op h = subst (IsOf array) (sym h.1) (refl, tt)
valued_is char6 p s op h = subst (IsOf char6) (sym h.1) (refl, tt)
valued_is blob p s op h = subst (IsOf blob) (sym h.1) (refl, tt)

operand_is : (shapes : Shapes) (place : Place) (after p : ℕ) (s : List Bool) (op : Op) → Spells (operand shapes place after) p s op → (passes shapes (fits place after (kind_of op)) ≡ true) × HasLawfulValue op
unfolding operand
operand_is shapes place after p s op h =
    let k = position-first (λ start. kind >>= λ k. judge (passes shapes (fits place after k)) AbbrevShape start >> valued k) p s op h in
    let j = judged (passes shapes (fits place after k.2)) (record { reason = AbbrevShape; bit = p }) (valued k.2) (p + length k.0) k.1 op k.5 in
    let v = valued_is k.2 (p + length k.0) k.1 op j.1 in
    (ap (λ (x : Kind). passes shapes (fits place after x)) v.0 ∙ j.0, v.1)

-- each operand passes at its place, and has a lawful value
abbrev pub PassFrom : Shapes → Place → List Op → Type 0
PassFrom shapes place [] = Unit {0}
PassFrom shapes place (op ∷ others) = (passes shapes (fits place (length others) (kind_of op)) ≡ true) × HasLawfulValue op × PassFrom shapes (place_after op) others

pub operands_are : (shapes : Shapes) (count : ℕ) (place : Place) (p : ℕ) (s : List Bool) (ops : List Op) → Spells (operands shapes count place) p s ops → (length ops ≡ count) × PassFrom shapes place ops
unfolding operands
operands_are shapes zero place p s ops h = subst (λ (x : List Op). (length x ≡ 0) × PassFrom shapes place x) (sym h.1) (refl, tt)
operands_are shapes (suc after) place p s ops h =
    let o = h in
    let is = operand_is shapes place after p o.0 o.2 o.4 in
    let rest = o.5 in
    let are = operands_are shapes after (place_after o.2) (p + length o.0) rest.0 rest.2 rest.4 in
    let shape : passes shapes (fits place (length rest.2) (kind_of o.2)) ≡ true = ap (λ (n : ℕ). passes shapes (fits place n (kind_of o.2))) are.0 ∙ is.0 in
    subst (λ (x : List Op). (length x ≡ suc after) × PassFrom shapes place x) (sym rest.5.1) (ap suc are.0, (shape, is.1, are.1))

pub values_pass : (shapes : Shapes) (place : Place) (ops : List Op) → PassFrom shapes place ops → AllByRecursion HasLawfulValue ops
values_pass shapes place [] h = tt
values_pass shapes place (op ∷ others) h = (h.1, values_pass shapes (place_after op) others h.2)

-- operands that pass are in order, if their order is judged
pub order_passed : (place : Place) (ops : List Op) → PassFrom AtDefinition place ops → in_order place ops ≡ true
order_passed place [] h = refl
order_passed place (op ∷ others) h = (let rest = order_passed (place_after op) others h.2 in rw (h.0, rest) refl)

-- ---- a lawful order by the index

array_fits : (place : Place) (after : ℕ) → fits place after array ≡ true → after ≡ 1
array_fits first after h = absurd cc
array_fits element after h = absurd cc
array_fits later after h = eqb-true _ _ h

blob_fits : (place : Place) (after : ℕ) → fits place after blob ≡ true → after ≡ 0
blob_fits first after h = absurd cc
blob_fits element after h = absurd cc
blob_fits later after h = eqb-true _ _ h

-- the first operand fits its place, and the others are in order
pub order_parts : (place : Place) (op : Op) (others : List Op) → in_order place (op ∷ others) ≡ true → (fits place (length others) (kind_of op) ≡ true) × (in_order (place_after op) others ≡ true)
order_parts place op others h = and_parts _ _ h

array_at : (place : Place) (ops : List Op) → in_order place ops ≡ true → (i : ℕ) → op_at ops i ≡ Array → i + 2 ≡ length ops
array_at place [] h i e = absurd cc
array_at place (op ∷ others) h zero e =
    let k : kind_of op ≡ array = ap kind_of e in
    omega (arith, array_fits place (length others) (ap (fits place (length others)) (sym k) ∙ (order_parts place op others h).0))
array_at place (op ∷ others) h (suc i) e = omega (arith, array_at (place_after op) others (order_parts place op others h).1 i e)

blob_at : (place : Place) (ops : List Op) → in_order place ops ≡ true → (i : ℕ) → op_at ops i ≡ Blob → i + 1 ≡ length ops
blob_at place [] h i e = absurd cc
blob_at place (op ∷ others) h zero e =
    let k : kind_of op ≡ blob = ap kind_of e in
    omega (arith, blob_fits place (length others) (ap (fits place (length others)) (sym k) ∙ (order_parts place op others h).0))
blob_at place (op ∷ others) h (suc i) e = omega (arith, blob_at (place_after op) others (order_parts place op others h).1 i e)

pub field_fits : (after : ℕ) (op : Op) → fits element after (kind_of op) ≡ true → IsElement op
field_fits after (Literal v) h = absurd (let no : false ≡ true = h in cc)
field_fits after (Fixed w) h = tt
field_fits after (Vbr w) h = tt
field_fits after Array h = absurd (let no : false ≡ true = h in cc)
field_fits after Char6 h = tt
field_fits after Blob h = absurd (let no : false ≡ true = h in cc)

element_at : (place : Place) (ops : List Op) → in_order place ops ≡ true → (i : ℕ) → op_at ops i ≡ Array → IsElement (op_at ops (i + 1))
element_at place [] h i e = absurd cc
element_at place (op ∷ []) h zero e =
    let k : kind_of op ≡ array = ap kind_of e in
    absurd (omega (arith, array_fits place 0 (ap (fits place 0) (sym k) ∙ (order_parts place op [] h).0)))
element_at place (op ∷ x ∷ others) h zero e =
    let at : place_after op ≡ element = ap place_after e in
    let next = order_parts (place_after op) x others (order_parts place op (x ∷ others) h).1 in
    field_fits (length others) x (subst (λ (q : Place). fits q (length others) (kind_of x) ≡ true) at next.0)
element_at place (op ∷ others) h (suc i) e =
    let n : suc i + 1 ≡ suc (i + 1) = omega arith in
    rw n (element_at (place_after op) others (order_parts place op others h).1 i e)

first_is : (op : Op) (others : List Op) → in_order first (op ∷ others) ≡ true → (op ≢ Array) × (op ≢ Blob)
first_is op others h =
    let one = (order_parts first op others h).0 in (
      λ e. let k : kind_of op ≡ array = ap kind_of e in let no : false ≡ true = ap (fits first (length others)) (sym k) ∙ one in absurd cc,
      λ e. let k : kind_of op ≡ blob = ap kind_of e in let no : false ≡ true = ap (fits first (length others)) (sym k) ∙ one in absurd cc,
    )

none_first : (op_at [] 0 ≢ Array) × (op_at [] 0 ≢ Blob)
none_first = (λ e. absurd cc, λ e. absurd cc)

pub is_in_order : (ops : List Op) → has_shape ops ≡ true → InOrder ops
is_in_order [] h = record { first = none_first; array = array_at first [] h; element = element_at first [] h; blob = blob_at first [] h }
is_in_order (op ∷ others) h = record { first = first_is op others h; array = array_at first (op ∷ others) h; element = element_at first (op ∷ others) h; blob = blob_at first (op ∷ others) h }

-- ---- definitions

-- operands that pass are in order if that is judged
pub passed : (shapes : Shapes) (ops : List Op) → PassFrom shapes first ops → PassesShape shapes ops
passed AtDefinition ops h = is_in_order ops (order_passed first ops h)
passed AtUse ops h = tt

pub definition_defines : (shapes : Shapes) (p : ℕ) (s : List Bool) (ops : List Op) → Spells (definition shapes) p s ops → Definable ops × PassesShape shapes ops
unfolding definition
definition_defines shapes p s ops h =
    let c = position-first (λ start. vbr 5 >>= λ count. judge (ltb 0 count) AbbrevEmpty start >> operands shapes count first) p s ops h in
    let j = judged (ltb 0 c.2) (record { reason = AbbrevEmpty; bit = p }) (operands shapes c.2 first) (p + length c.0) c.1 ops c.5 in
    let are = operands_are shapes c.2 first (p + length c.0) c.1 ops j.1 in
    (record { some = omega (arith, are.0, ltb-true _ _ j.0); values = values_pass shapes first ops are.1 }, passed shapes ops are.1)

pub definition_lawful : (p : ℕ) (s : List Bool) (ops : List Op) → Spells (definition AtDefinition) p s ops → Lawful ops
definition_lawful p s ops h = (let d = definition_defines AtDefinition p s ops h in record { some = d.0.some; order = d.1; values = d.0.values })
