-- What a definition spells, in the words of the format.
use Rattle.std.proofs.Common.{◌≡◌, ℕ, zero, suc, ◌+◌, ◌≢◌, Bool, true, false, leb, eqb, List, [], ◌∷◌, ◌++◌, length, refl, sym, ap, subst, ◌∙◌, arith, inl, inr}
use Rattle.std.specs.Prelude.{◌↔◌}
use Rattle.std.specs.List.{AllByRecursion}
use Rattle.std.proofs.lemmas.Bool.{le-leb, eqb-true, eqb-false, eq-eqb, ne_eqb}
use Rattle.std.proofs.lemmas.List.{append-nil}
use Rattle.bit_grammar.specs.declared.op.Op.{Op}
use Rattle.bit_grammar.specs.declared.op.Kind.{Kind}
use Rattle.bit_grammar.specs.declared.op.Kind.TheVariants.{Literal as literal, Fixed as fixed_width, Vbr as vbr_width, Array as array, Char6 as char6, Blob as blob}
use Rattle.bit_grammar.specs.declared.op.Place.{Place}
use Rattle.bit_grammar.specs.declared.op.Place.TheVariants.{First as first, Element as element, Later as later}
use Rattle.bit_grammar.specs.declared.op.Op.TheVariants.{Literal, Fixed, Vbr, Array, Char6, Blob}
use Rattle.bit_grammar.specs.declared.shapes.Shapes.{Shapes}
use Rattle.bit_grammar.specs.declared.shapes.Shapes.TheVariants.{AtDefinition, AtUse}
use Rattle.bit_grammar.specs.declared.reason.Reason.TheVariants.{AbbrevShape, FieldWidth}
use Rattle.bit_grammar.specs.Grammar.{gives, ◌>>=◌, ◌>>◌, judge, Spells}
use Rattle.bit_grammar.specs.Fields.{fixed, vbr}
use Rattle.bit_grammar.specs.FormatFields.{IsFixed, IsVbr}
use Rattle.bit_grammar.specs.Definition.{encoding, kind, fits, passes, fixed_lawful, vbr_lawful, valued, operand, place_after, operands, kind_of, in_order, has_shape}
use Rattle.bit_grammar.specs.FormatDefinition.{op_at, IsElement, HasLawfulValue, InOrder, Lawful, PassesShape, IsNothing, IsOperand, AreOperands}
use Rattle.bit_grammar.proofs.Readings.Deciding.{position-first, first-position, judged, judge-spells}
use Rattle.bit_grammar.proofs.Words.Fields.{fixed_is, is_fixed, vbr_is, is_vbr}
use Rattle.bit_grammar.proofs.Readings.Sequences.{made, made-spells}
use Rattle.bit_grammar.proofs.Words.Definitions.{PassFrom, order_parts, is_in_order}

-- ---- a lawful order, from the index to the place

-- a fact about the operand at a place
abbrev Starts : Place → Op → Type 0
Starts first op = (op ≢ Array) × (op ≢ Blob)
Starts element op = IsElement op
Starts later op = Unit {0}

-- an operand with that fact fits the place, an array with one operand after it and a blob with none
fits_there : (place : Place) (after : ℕ) (op : Op) → Starts place op → (op ≡ Array → after ≡ 1) → (op ≡ Blob → after ≡ 0) → fits place after (kind_of op) ≡ true
fits_there first after (Literal v) starts one none = refl
fits_there first after (Fixed width) starts one none = refl
fits_there first after (Vbr width) starts one none = refl
fits_there first after Array starts one none = absurd (starts.0 refl)
fits_there first after Char6 starts one none = refl
fits_there first after Blob starts one none = absurd (starts.1 refl)
fits_there element after (Literal v) starts one none = absurd starts
fits_there element after (Fixed width) starts one none = refl
fits_there element after (Vbr width) starts one none = refl
fits_there element after Array starts one none = absurd starts
fits_there element after Char6 starts one none = refl
fits_there element after Blob starts one none = absurd starts
fits_there later after (Literal v) starts one none = refl
fits_there later after (Fixed width) starts one none = refl
fits_there later after (Vbr width) starts one none = refl
fits_there later after Array starts one none = eq-eqb _ _ (one refl)
fits_there later after Char6 starts one none = refl
fits_there later after Blob starts one none = eq-eqb _ _ (none refl)

starts_after : (op next : Op) → (op ≡ Array → IsElement next) → Starts (place_after op) next
starts_after (Literal v) next h = tt
starts_after (Fixed width) next h = tt
starts_after (Vbr width) next h = tt
starts_after Array next h = h refl
starts_after Char6 next h = tt
starts_after Blob next h = tt

-- a list that is in order by the index, and begins at this place, is in order place by place
order_there : (place : Place) (ops : List Op) → Starts place (op_at ops 0) → ((i : ℕ) → op_at ops i ≡ Array → i + 2 ≡ length ops) → ((i : ℕ) → op_at ops i ≡ Array → IsElement (op_at ops (i + 1)))
    → ((i : ℕ) → op_at ops i ≡ Blob → i + 1 ≡ length ops) → in_order place ops ≡ true
order_there place [] starts arrays elements blobs = refl
order_there place (op ∷ others) starts arrays elements blobs =
    let one = fits_there place (length others) op starts (λ e. omega (arith, arrays 0 e)) (λ e. omega (arith, blobs 0 e)) in
    let rest = order_there (place_after op) others (starts_after op (op_at others 0) (elements 0)) (λ i e. omega (arith, arrays (suc i) e)) (λ i e. next_element i (elements (suc i) e)) (λ i e. omega (arith, blobs (suc i) e)) in
    rw (one, rest) refl
  where
    next_element : (i : ℕ) → IsElement (op_at (op ∷ others) (suc i + 1)) → IsElement (op_at others (i + 1))
    next_element i h = let n : suc i + 1 ≡ suc (i + 1) = omega arith in rw n at h

pub shape_of : (ops : List Op) → InOrder ops → has_shape ops ≡ true
shape_of ops h = order_there first ops h.first h.array h.element h.blob

pub order_is : (ops : List Op) → (has_shape ops ≡ true) ↔ InOrder ops
order_is ops = (is_in_order ops, shape_of ops)

-- operands in order pass, and if order is not judged all do
order_passes : (place : Place) (ops : List Op) → in_order place ops ≡ true → AllByRecursion HasLawfulValue ops → PassFrom AtDefinition place ops
order_passes place [] h values = tt
order_passes place (op ∷ others) h values = (let k = order_parts place op others h in (k.0, values.0, order_passes (place_after op) others k.1 values.1))

any_passes : (place : Place) (ops : List Op) → AllByRecursion HasLawfulValue ops → PassFrom AtUse place ops
any_passes place [] values = tt
any_passes place (op ∷ others) values = (refl, values.0, any_passes (place_after op) others values.1)

pub pass_from : (shapes : Shapes) (ops : List Op) → PassesShape shapes ops → AllByRecursion HasLawfulValue ops → PassFrom shapes first ops
pass_from AtDefinition ops h values = order_passes first ops (shape_of ops h) values
pass_from AtUse ops h values = any_passes first ops values

pub lawful_from : (ops : List Op) → Lawful ops → PassFrom AtDefinition first ops
lawful_from ops h = pass_from AtDefinition ops h.order h.values

-- ---- the encoding

-- the number of an encoding; a literal has none
abbrev IsNumberOf : Kind → ℕ → Type 0
IsNumberOf literal n = ⊥
IsNumberOf fixed_width n = n ≡ 1
IsNumberOf vbr_width n = n ≡ 2
IsNumberOf array n = n ≡ 3
IsNumberOf char6 n = n ≡ 4
IsNumberOf blob n = n ≡ 5

encoding_is : (place n p : ℕ) (s : List Bool) (k : Kind) → Spells (encoding place n) p s k → (s ≡ []) × IsNumberOf k n
encoding_is place n p s k (inl h) = (h.1.0, subst (λ (x : Kind). IsNumberOf x n) (sym h.1.1) (eqb-true _ _ h.0))
encoding_is place n p s k (inr (a, inl h)) = (h.1.0, subst (λ (x : Kind). IsNumberOf x n) (sym h.1.1) (eqb-true _ _ h.0))
encoding_is place n p s k (inr (a, inr (b, inl h))) = (h.1.0, subst (λ (x : Kind). IsNumberOf x n) (sym h.1.1) (eqb-true _ _ h.0))
encoding_is place n p s k (inr (a, inr (b, inr (c, inl h)))) = (h.1.0, subst (λ (x : Kind). IsNumberOf x n) (sym h.1.1) (eqb-true _ _ h.0))
encoding_is place n p s k (inr (a, inr (b, inr (c, inr (d, inl h))))) = (h.1.0, subst (λ (x : Kind). IsNumberOf x n) (sym h.1.1) (eqb-true _ _ h.0))
encoding_is place n p s k (inr (a, inr (b, inr (c, inr (d, inr h))))) = absurd h.1

is_encoding : (place n p : ℕ) (k : Kind) → IsNumberOf k n → Spells (encoding place n) p [] k
is_encoding place n p literal h = absurd h
is_encoding place n p fixed_width h = subst (λ (m : ℕ). Spells (encoding place m) p [] fixed_width) (sym h) (inl (refl, (refl, refl)))
is_encoding place n p vbr_width h = subst (λ (m : ℕ). Spells (encoding place m) p [] vbr_width) (sym h) (inr (refl, inl (refl, (refl, refl))))
is_encoding place n p array h = subst (λ (m : ℕ). Spells (encoding place m) p [] array) (sym h) (inr (refl, inr (refl, inl (refl, (refl, refl)))))
is_encoding place n p char6 h = subst (λ (m : ℕ). Spells (encoding place m) p [] char6) (sym h) (inr (refl, inr (refl, inr (refl, inl (refl, (refl, refl))))))
is_encoding place n p blob h = subst (λ (m : ℕ). Spells (encoding place m) p [] blob) (sym h) (inr (refl, inr (refl, inr (refl, inr (refl, inl (refl, (refl, refl)))))))

-- ---- the flag and the encoding

-- the bits before an operand's value: a one for a literal, else a zero and three bits of the encoding
abbrev IsHead : Kind → List Bool → Type 0
IsHead literal s = s ≡ true ∷ []
IsHead fixed_width s = (code : List Bool) × (s ≡ false ∷ code) × IsFixed 3 1 code
IsHead vbr_width s = (code : List Bool) × (s ≡ false ∷ code) × IsFixed 3 2 code
IsHead array s = (code : List Bool) × (s ≡ false ∷ code) × IsFixed 3 3 code
IsHead char6 s = (code : List Bool) × (s ≡ false ∷ code) × IsFixed 3 4 code
IsHead blob s = (code : List Bool) × (s ≡ false ∷ code) × IsFixed 3 5 code

encoding_head : (k : Kind) (n : ℕ) (code s : List Bool) → IsNumberOf k n → s ≡ false ∷ code → IsFixed 3 n code → IsHead k s
encoding_head literal n code s e parts h = absurd e
encoding_head fixed_width n code s e parts h = (code, parts, subst (λ (m : ℕ). IsFixed 3 m code) e h)
encoding_head vbr_width n code s e parts h = (code, parts, subst (λ (m : ℕ). IsFixed 3 m code) e h)
encoding_head array n code s e parts h = (code, parts, subst (λ (m : ℕ). IsFixed 3 m code) e h)
encoding_head char6 n code s e parts h = (code, parts, subst (λ (m : ℕ). IsFixed 3 m code) e h)
encoding_head blob n code s e parts h = (code, parts, subst (λ (m : ℕ). IsFixed 3 m code) e h)

flag_one : (s : List Bool) (flag : ℕ) → IsFixed 1 flag s → flag ≡ 1 → s ≡ true ∷ []
flag_one [] flag h e = absurd (omega (arith, h.length))
flag_one (true ∷ []) flag h e = refl
flag_one (false ∷ []) flag h e = absurd (omega (arith, h.value, e))
flag_one (b ∷ c ∷ s) flag h e = absurd (omega (arith, h.length))

flag_zero : (s : List Bool) (flag : ℕ) → IsFixed 1 flag s → flag ≢ 1 → s ≡ false ∷ []
flag_zero [] flag h e = absurd (omega (arith, h.length))
flag_zero (true ∷ []) flag h e = absurd (e (omega (arith, h.value)))
flag_zero (false ∷ []) flag h e = refl
flag_zero (b ∷ c ∷ s) flag h e = absurd (omega (arith, h.length))

kind_is : (p : ℕ) (s : List Bool) (k : Kind) → Spells kind p s k → IsHead k s
unfolding kind
kind_is p s k (front, others, flag, parts, spelled, inl h) =
    let one : front ≡ true ∷ [] = flag_one front flag (fixed_is 1 p front flag spelled) (eqb-true _ _ h.0) in
    subst (λ (x : Kind). IsHead x s) (sym h.1.1) (parts ∙ ap (λ (t : List Bool). t ++ others) one ∙ ap (λ (t : List Bool). true ∷ t) h.1.0)
kind_is p s k (front, others, flag, parts, spelled, inr h) =
    let none : front ≡ false ∷ [] = flag_zero front flag (fixed_is 1 p front flag spelled) (eqb-false _ _ h.0) in
    let w = position-first (λ place. fixed 3 >>= λ n. encoding place n) (p + length front) others k h.1 in
    let e = encoding_is (p + length front) w.2 (p + length front + length w.0) w.1 k w.5 in
    let all : others ≡ w.0 = w.3 ∙ ap (λ (t : List Bool). w.0 ++ t) e.0 ∙ append-nil w.0 in
    encoding_head k w.2 w.0 s e.1 (parts ∙ ap (λ (t : List Bool). t ++ others) none ∙ ap (λ (t : List Bool). false ∷ t) all) (fixed_is 3 (p + length front) w.0 w.2 w.4)

encoding_spells : (k : Kind) (n p : ℕ) (code s : List Bool) → IsNumberOf k n → s ≡ false ∷ code → IsFixed 3 n code → Spells kind p s k
unfolding kind
encoding_spells k n p code s e parts h =
    let zero_bit : IsFixed 1 0 (false ∷ []) = record { length = refl; value = refl } in
    (false ∷ [], code, 0, parts, is_fixed 1 p (false ∷ []) 0 zero_bit, inr (refl, first-position (λ place. fixed 3 >>= λ n. encoding place n) (p + 1) code k (code, [], n, sym (append-nil code), is_fixed 3 (p + 1) code n h, is_encoding (p + 1) n (p + 1 + length code) k e)))

is_kind : (p : ℕ) (s : List Bool) (k : Kind) → IsHead k s → Spells kind p s k
unfolding kind
is_kind p s literal h =
    let one_bit : IsFixed 1 1 (true ∷ []) = record { length = refl; value = refl } in
    (true ∷ [], [], 1, h, is_fixed 1 p (true ∷ []) 1 one_bit, inl (refl, (refl, refl)))
is_kind p s fixed_width h = encoding_spells fixed_width 1 p h.0 s refl h.1 h.2
is_kind p s vbr_width h = encoding_spells vbr_width 2 p h.0 s refl h.1 h.2
is_kind p s array h = encoding_spells array 3 p h.0 s refl h.1 h.2
is_kind p s char6 h = encoding_spells char6 4 p h.0 s refl h.1 h.2
is_kind p s blob h = encoding_spells blob 5 p h.0 s refl h.1 h.2

-- ---- the value

-- the bits of an operand's value, after the flag and the encoding
abbrev IsValue : Op → List Bool → Type 0
IsValue (Literal v) s = IsVbr 8 v s
IsValue (Fixed width) s = IsVbr 5 width s
IsValue (Vbr width) s = IsVbr 5 width s
IsValue Array s = IsNothing s
IsValue Char6 s = IsNothing s
IsValue Blob s = IsNothing s

abbrev IsValueOf : Kind → List Bool → Op → Type 0
IsValueOf k s op = (kind_of op ≡ k) × IsValue op s

value_is : (k : Kind) (p : ℕ) (s : List Bool) (op : Op) → Spells (valued k) p s op → IsValueOf k s op
unfolding valued
value_is literal p s op h =
    let m = made (vbr 8) (λ v. Literal v) p s op h in
    subst (IsValueOf literal s) (sym m.2) (refl, vbr_is 8 p s m.0 (omega arith) m.1)
value_is fixed_width p s op h =
    let w = position-first (λ place. vbr 5 >>= λ width. judge (fixed_lawful width) FieldWidth place >> gives (Fixed width)) p s op h in
    let j = judged (fixed_lawful w.2) (record { reason = FieldWidth; bit = p }) (gives (Fixed w.2)) (p + length w.0) w.1 op w.5 in
    let all : s ≡ w.0 = w.3 ∙ ap (λ (t : List Bool). w.0 ++ t) j.1.0 ∙ append-nil w.0 in
    subst (IsValueOf fixed_width s) (sym j.1.1) (refl, subst (IsVbr 5 w.2) (sym all) (vbr_is 5 p w.0 w.2 (omega arith) w.4))
value_is vbr_width p s op h =
    let w = position-first (λ place. vbr 5 >>= λ width. judge (vbr_lawful width) FieldWidth place >> gives (Vbr width)) p s op h in
    let j = judged (vbr_lawful w.2) (record { reason = FieldWidth; bit = p }) (gives (Vbr w.2)) (p + length w.0) w.1 op w.5 in
    let all : s ≡ w.0 = w.3 ∙ ap (λ (t : List Bool). w.0 ++ t) j.1.0 ∙ append-nil w.0 in
    subst (IsValueOf vbr_width s) (sym j.1.1) (refl, subst (IsVbr 5 w.2) (sym all) (vbr_is 5 p w.0 w.2 (omega arith) w.4))
value_is array p s op h = subst (IsValueOf array s) (sym h.1) (refl, h.0)
value_is char6 p s op h = subst (IsValueOf char6 s) (sym h.1) (refl, h.0)
value_is blob p s op h = subst (IsValueOf blob s) (sym h.1) (refl, h.0)

vbr_width_lawful : (width : ℕ) → HasLawfulValue (Vbr width) → vbr_lawful width ≡ true
vbr_width_lawful width h =
    let small : leb width 32 ≡ true = le-leb _ _ h.0 in
    let other : eqb width 1 ≡ false = ne_eqb _ _ h.1 in
    rw (small, other) refl

is_value : (op : Op) (p : ℕ) (s : List Bool) → HasLawfulValue op → IsValue op s → Spells (valued (kind_of op)) p s op
unfolding valued
is_value (Literal v) p s lawful h = made-spells (vbr 8) (λ v. Literal v) p s v (is_vbr 8 p s v (omega arith) h)
is_value (Fixed width) p s lawful h =
    first-position (λ place. vbr 5 >>= λ width. judge (fixed_lawful width) FieldWidth place >> gives (Fixed width)) p s (Fixed width)
    (s, [], width, sym (append-nil s), is_vbr 5 p s width (omega arith) h, judge-spells (fixed_lawful width) (record { reason = FieldWidth; bit = p }) (gives (Fixed width)) (p + length s) [] (Fixed width) (le-leb _ _ lawful) (refl, refl))
is_value (Vbr width) p s lawful h =
    first-position (λ place. vbr 5 >>= λ width. judge (vbr_lawful width) FieldWidth place >> gives (Vbr width)) p s (Vbr width)
    (s, [], width, sym (append-nil s), is_vbr 5 p s width (omega arith) h, judge-spells (vbr_lawful width) (record { reason = FieldWidth; bit = p }) (gives (Vbr width)) (p + length s) [] (Vbr width) (vbr_width_lawful width lawful) (refl, refl))
is_value Array p s lawful h = (h, refl)
is_value Char6 p s lawful h = (h, refl)
is_value Blob p s lawful h = (h, refl)

-- ---- operands

-- an operand is its head and its value, joined and taken apart
operand_of : (op : Op) (head value s : List Bool) → s ≡ head ++ value → IsHead (kind_of op) head → IsValue op value → IsOperand op s
operand_of (Literal v) head value s parts h k = (value, parts ∙ ap (λ (t : List Bool). t ++ value) h, k)
operand_of (Fixed width) head value s parts h k = (h.0, value, parts ∙ ap (λ (t : List Bool). t ++ value) h.1, h.2, k)
operand_of (Vbr width) head value s parts h k = (h.0, value, parts ∙ ap (λ (t : List Bool). t ++ value) h.1, h.2, k)
operand_of Array head value s parts h k = (h.0, value, parts ∙ ap (λ (t : List Bool). t ++ value) h.1, h.2, k)
operand_of Char6 head value s parts h k = (h.0, value, parts ∙ ap (λ (t : List Bool). t ++ value) h.1, h.2, k)
operand_of Blob head value s parts h k = (h.0, value, parts ∙ ap (λ (t : List Bool). t ++ value) h.1, h.2, k)

operand_parts : (op : Op) (s : List Bool) → IsOperand op s → (head value : List Bool) × (s ≡ head ++ value) × IsHead (kind_of op) head × IsValue op value
operand_parts (Literal v) s h = (true ∷ [], h.0, h.1, refl, h.2)
operand_parts (Fixed width) s h = (false ∷ h.0, h.1, h.2, (h.0, refl, h.3), h.4)
operand_parts (Vbr width) s h = (false ∷ h.0, h.1, h.2, (h.0, refl, h.3), h.4)
operand_parts Array s h = (false ∷ h.0, h.1, h.2, (h.0, refl, h.3), h.4)
operand_parts Char6 s h = (false ∷ h.0, h.1, h.2, (h.0, refl, h.3), h.4)
operand_parts Blob s h = (false ∷ h.0, h.1, h.2, (h.0, refl, h.3), h.4)

operand_in_words : (shapes : Shapes) (place : Place) (after p : ℕ) (s : List Bool) (op : Op) → Spells (operand shapes place after) p s op → IsOperand op s
unfolding operand
operand_in_words shapes place after p s op h =
    let k = position-first (λ start. kind >>= λ k. judge (passes shapes (fits place after k)) AbbrevShape start >> valued k) p s op h in
    let j = judged (passes shapes (fits place after k.2)) (record { reason = AbbrevShape; bit = p }) (valued k.2) (p + length k.0) k.1 op k.5 in
    let v = value_is k.2 (p + length k.0) k.1 op j.1 in
    operand_of op k.0 k.1 s k.3 (subst (λ (x : Kind). IsHead x k.0) (sym v.0) (kind_is p k.0 k.2 k.4)) v.1

is_operand : (shapes : Shapes) (place : Place) (after p : ℕ) (s : List Bool) (op : Op) → passes shapes (fits place after (kind_of op)) ≡ true → HasLawfulValue op → IsOperand op s → Spells (operand shapes place after) p s op
unfolding operand
is_operand shapes place after p s op shape lawful h =
    let o = operand_parts op s h in
    first-position (λ start. kind >>= λ k. judge (passes shapes (fits place after k)) AbbrevShape start >> valued k) p s op
    (o.0, o.1, kind_of op, o.2, is_kind p o.0 (kind_of op) o.3, judge-spells (passes shapes (fits place after (kind_of op))) (record { reason = AbbrevShape; bit = p }) (valued (kind_of op)) (p + length o.0) o.1 op shape (is_value op (p + length o.0) o.1 lawful o.4))

pub operands_in_words : (shapes : Shapes) (count : ℕ) (place : Place) (p : ℕ) (s : List Bool) (ops : List Op) → Spells (operands shapes count place) p s ops → AreOperands ops s
unfolding operands
operands_in_words shapes zero place p s ops h = subst (λ (x : List Op). AreOperands x s) (sym h.1) h.0
operands_in_words shapes (suc after) place p s ops h =
    let m = made (operands shapes after (place_after h.2)) (λ xs. h.2 ∷ xs) (p + length h.0) h.1 ops h.5 in
    subst (λ (x : List Op). AreOperands x s) (sym m.2) (h.0, h.1, h.3, operand_in_words shapes place after p h.0 h.2 h.4, operands_in_words shapes after (place_after h.2) (p + length h.0) h.1 m.0 m.1)

pub are_operands : (shapes : Shapes) (place : Place) (ops : List Op) (p : ℕ) (s : List Bool) → PassFrom shapes place ops → AreOperands ops s → Spells (operands shapes (length ops) place) p s ops
unfolding operands
are_operands shapes place [] p s lawful h = (h, refl)
are_operands shapes place (op ∷ others) p s lawful h =
    (h.0, h.1, op, h.2, is_operand shapes place (length others) p h.0 op lawful.0 lawful.1 h.3, made-spells (operands shapes (length others) (place_after op)) (λ xs. op ∷ xs) (p + length h.0) h.1 others (are_operands shapes (place_after op) others (p + length h.0) h.1 lawful.2 h.4))
