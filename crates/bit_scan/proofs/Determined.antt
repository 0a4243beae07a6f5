-- The line of an event determines what it tells.
use Rattle.std.proofs.Common.{◌≡◌, ℕ, suc, ◌-◌, ◌^◌, ◌<◌, Bool, true, false, ◌||◌, not, List, [], ◌∷◌, ◌++◌, length, map, get_or, refl, sym, ap, ◌∙◌, append_assoc, subst, arith}
use Rattle.std.specs.Prelude.{codes, decimal, flat_map, nat_lt, ◌==◌, if◌then◌else◌}
use Rattle.std.specs.Char.{is_ascii_alphanumeric}
use Rattle.std.specs.List.{AllByRecursion, list_all}
use Rattle.std.proofs.lemmas.Fmt.{decimal_injective}
use Rattle.std.proofs.lemmas.List.{append-nil, append_cancel_left, append_cancel_right}
use Rattle.bit_grammar.specs.declared.op.Op.{Op}
use Rattle.bit_grammar.specs.declared.op.Op.TheVariants.{Literal, Fixed, Vbr, Array, Char6, Blob}
use Rattle.bit_grammar.specs.declared.value_display.ValueDisplay.TheVariants.{Shown}
use Rattle.bit_grammar.specs.Machine.{Event, enters, defines, notes, leaves}
use Rattle.bit_scan.specs.EventLines.{EventFits, OpFits, line_tells}
use Rattle.bit_scan.specs.Json.{Field, number_json, field_json, object_front, object_line, list_line, op_json, joined, joined_from, event_json}
use Rattle.bit_scan.proofs.Objects.{both, decimal_plain, joined_later}

abbrev tail : List ℕ → List ℕ
tail [] = []
tail (x ∷ xs) = xs

abbrev head : List ℕ → ℕ
head [] = 0
head (x ∷ xs) = x

-- ---- characters of a number

-- a letter, a digit or a quote
abbrev is_figure : ℕ → Bool
is_figure c = is_ascii_alphanumeric c || (c == 34)

-- no number goes on here
abbrev stops : List ℕ → Bool
stops [] = true
stops (c ∷ rest) = not (is_figure c)

figures : (text : List ℕ) → list_all is_ascii_alphanumeric text ≡ true → (rest : List ℕ) → list_all is_figure rest ≡ true → list_all is_figure (text ++ rest) ≡ true
figures [] plain rest more = more
figures (c ∷ text) plain rest more = (let parts = both (is_ascii_alphanumeric c) (list_all is_ascii_alphanumeric text) plain in rw (parts.0, figures text parts.1 rest more) refl)

number_figures : (n : ℕ) → list_all is_figure (number_json n) ≡ true
number_figures n = cases (nat_lt n (2 ^ 53))
  where
    cases : (b : Bool) → list_all is_figure (if b then decimal n else (codes "\"" ++ decimal n ++ codes "\"")) ≡ true
    cases true = subst (λ (l : List ℕ). list_all is_figure l ≡ true) (append-nil (decimal n)) (figures (decimal n) (decimal_plain n) [] refl)
    cases false = figures (decimal n) (decimal_plain n) (codes "\"") refl

split : (a b x y : List ℕ) → list_all is_figure a ≡ true → list_all is_figure b ≡ true → stops x ≡ true → stops y ≡ true → a ++ x ≡ b ++ y → (a ≡ b) × (x ≡ y)
split [] [] x y pa pb px py e = (refl, e)
split [] (d ∷ b) [] y pa pb px py e = absurd (let no : 0 ≡ suc (length (b ++ y)) = ap length e in omega (arith, no))
split [] (d ∷ b) (c ∷ x) y pa pb px py e = (let parts = both (is_figure d) (list_all is_figure b) pb in absurd (let no : not true ≡ true = ap not (sym parts.0) ∙ ap (λ (k : ℕ). not (is_figure k)) (sym (ap head e)) ∙ px in cc))
split (c ∷ a) [] x [] pa pb px py e = absurd (let no : suc (length (a ++ x)) ≡ 0 = ap length e in omega (arith, no))
split (c ∷ a) [] x (d ∷ y) pa pb px py e = (let parts = both (is_figure c) (list_all is_figure a) pa in absurd (let no : not true ≡ true = ap not (sym parts.0) ∙ ap (λ (k : ℕ). not (is_figure k)) (ap head e) ∙ py in cc))
split (c ∷ a) (d ∷ b) x y pa pb px py e =
    let first = both (is_figure c) (list_all is_figure a) pa in
    let second = both (is_figure d) (list_all is_figure b) pb in
    let rest = split a b x y first.1 second.1 px py (ap tail e) in
    (ap (λ (k : ℕ). k ∷ a) (ap head e) ∙ ap (λ (l : List ℕ). d ∷ l) rest.0, rest.1)

-- ---- numbers

-- a text ends in one character more
last_gone : (a b : List ℕ) → a ++ 34 ∷ [] ≡ b ++ 34 ∷ [] → a ≡ b
last_gone a b e = append_cancel_right a b (34 ∷ []) e

plain_no_quote : (n : ℕ) → n < 2 ^ 64 → (rest : List ℕ) → decimal n ≡ 34 ∷ rest → ⊥
plain_no_quote n h rest e = (let parts = both (is_ascii_alphanumeric 34) (list_all is_ascii_alphanumeric rest) (subst (λ (l : List ℕ). list_all is_ascii_alphanumeric l ≡ true) e (decimal_plain n)) in let no : false ≡ true = parts.0 in cc)

number_same : (m n : ℕ) → m < 2 ^ 64 → n < 2 ^ 64 → number_json m ≡ number_json n → m ≡ n
number_same m n hm hn = cases (nat_lt m (2 ^ 53)) (nat_lt n (2 ^ 53))
  where
    cases : (a b : Bool) → (if a then decimal m else (codes "\"" ++ decimal m ++ codes "\"")) ≡ (if b then decimal n else (codes "\"" ++ decimal n ++ codes "\"")) → m ≡ n
    cases true true e = decimal_injective m n hm hn e
    cases true false e = absurd (plain_no_quote m hm (decimal n ++ codes "\"") e)
    cases false true e = absurd (plain_no_quote n hn (decimal m ++ codes "\"") (sym e))
    cases false false e = decimal_injective m n hm hn (last_gone (decimal m) (decimal n) (ap tail e))

number_then : (m n : ℕ) → m < 2 ^ 64 → n < 2 ^ 64 → (x y : List ℕ) → stops x ≡ true → stops y ≡ true → number_json m ++ x ≡ number_json n ++ y → (m ≡ n) × (x ≡ y)
number_then m n hm hn x y px py e = (let parts = split (number_json m) (number_json n) x y (number_figures m) (number_figures n) px py e in (number_same m n hm hn parts.0, parts.1))

-- ---- fields

-- a key, and its number in one line and in another
abbrev Pair : Type 0
Pair = List ℕ × ℕ × ℕ

abbrev firsts : List Pair → List Field
firsts pairs = map (λ (pair : Pair). (pair.0, pair.1)) pairs

abbrev seconds : List Pair → List Field
seconds pairs = map (λ (pair : Pair). (pair.0, pair.2)) pairs

abbrev PairFits : Pair → Type 0
PairFits pair = (pair.1 < 2 ^ 64) × (pair.2 < 2 ^ 64)

fields_stop : (fields : List Field) (x : List ℕ) → stops x ≡ true → stops (flat_map field_json fields ++ x) ≡ true
fields_stop [] x p = p
fields_stop (field ∷ fields) x p = refl

field_apart : (key number rest x : List ℕ) → (((codes ",\"" ++ key ++ codes "\":") ++ number) ++ rest) ++ x ≡ (codes ",\"" ++ key ++ codes "\":") ++ (number ++ (rest ++ x))
field_apart key number rest x = simp append_assoc

fields_then : (pairs : List Pair) → AllByRecursion PairFits pairs → (x y : List ℕ) → stops x ≡ true → stops y ≡ true → flat_map field_json (firsts pairs) ++ x ≡ flat_map field_json (seconds pairs) ++ y → AllByRecursion (λ (pair : Pair). pair.1 ≡ pair.2) pairs × (x ≡ y)
fields_then [] fits x y px py e = (tt, e)
fields_then (pair ∷ pairs) fits x y px py e =
    let a = flat_map field_json (firsts pairs) in
    let b = flat_map field_json (seconds pairs) in
    let apart = sym (field_apart pair.0 (number_json pair.1) a x) ∙ e ∙ field_apart pair.0 (number_json pair.2) b y in
    let number = number_then pair.1 pair.2 fits.0.0 fits.0.1 (a ++ x) (b ++ y) (fields_stop (firsts pairs) x px) (fields_stop (seconds pairs) y py) (append_cancel_left (codes ",\"" ++ pair.0 ++ codes "\":") _ _ apart) in
    let others = fields_then pairs fits.1 x y px py number.1 in
    ((number.0, others.0), others.1)

-- the fields of two lines with the same front, and what follows them
fronts_then : (front : List ℕ) (pairs : List Pair) → AllByRecursion PairFits pairs → (x y : List ℕ) → stops x ≡ true → stops y ≡ true → (front ++ flat_map field_json (firsts pairs)) ++ x ≡ (front ++ flat_map field_json (seconds pairs)) ++ y → AllByRecursion (λ (pair : Pair). pair.1 ≡ pair.2) pairs × (x ≡ y)
fronts_then front pairs fits x y px py e = fields_then pairs fits x y px py (append_cancel_left front _ _ (sym (append_assoc front (flat_map field_json (firsts pairs)) x) ∙ e ∙ append_assoc front (flat_map field_json (seconds pairs)) y))

-- ---- operands

abbrev tenth : List ℕ → ℕ
tenth text = get_or text 9 0

number_of_op : (front : List ℕ) (m n : ℕ) → m < 2 ^ 64 → n < 2 ^ 64 → (x y : List ℕ) → ((front ++ (number_json m ++ [])) ++ codes "}") ++ x ≡ ((front ++ (number_json n ++ [])) ++ codes "}") ++ y → (m ≡ n) × (x ≡ y)
number_of_op front m n hm hn x y e =
    let number = number_then m n hm hn (codes "}" ++ x) (codes "}" ++ y) refl refl (append_cancel_left front _ _ (sym (apart (number_json m) x) ∙ e ∙ apart (number_json n) y)) in
    (number.0, ap tail number.1)
  where
    apart : (number x : List ℕ) → ((front ++ (number ++ [])) ++ codes "}") ++ x ≡ front ++ (number ++ (codes "}" ++ x))
    apart number x = simp (append_assoc, append-nil)

op_then : (a b : Op) → OpFits (2 ^ 64) a → OpFits (2 ^ 64) b → (x y : List ℕ) → op_json a ++ x ≡ op_json b ++ y → (a ≡ b) × (x ≡ y)
op_then (Literal m) (Literal n) fa fb x y e = (let parts = number_of_op (codes "{\"kind\":\"literal\",\"value\":") m n fa fb x y e in (ap Literal parts.0, parts.1))
op_then (Literal m) (Fixed n) fa fb x y e = absurd (let no : 108 ≡ 102 = ap tenth e in omega (arith, no))
op_then (Literal m) (Vbr n) fa fb x y e = absurd (let no : 108 ≡ 118 = ap tenth e in omega (arith, no))
op_then (Literal m) Array fa fb x y e = absurd (let no : 108 ≡ 97 = ap tenth e in omega (arith, no))
op_then (Literal m) Char6 fa fb x y e = absurd (let no : 108 ≡ 99 = ap tenth e in omega (arith, no))
op_then (Literal m) Blob fa fb x y e = absurd (let no : 108 ≡ 98 = ap tenth e in omega (arith, no))
op_then (Fixed m) (Literal n) fa fb x y e = absurd (let no : 102 ≡ 108 = ap tenth e in omega (arith, no))
op_then (Fixed m) (Fixed n) fa fb x y e = (let parts = number_of_op (codes "{\"kind\":\"fixed\",\"width\":") m n fa fb x y e in (ap Fixed parts.0, parts.1))
op_then (Fixed m) (Vbr n) fa fb x y e = absurd (let no : 102 ≡ 118 = ap tenth e in omega (arith, no))
op_then (Fixed m) Array fa fb x y e = absurd (let no : 102 ≡ 97 = ap tenth e in omega (arith, no))
op_then (Fixed m) Char6 fa fb x y e = absurd (let no : 102 ≡ 99 = ap tenth e in omega (arith, no))
op_then (Fixed m) Blob fa fb x y e = absurd (let no : 102 ≡ 98 = ap tenth e in omega (arith, no))
op_then (Vbr m) (Literal n) fa fb x y e = absurd (let no : 118 ≡ 108 = ap tenth e in omega (arith, no))
op_then (Vbr m) (Fixed n) fa fb x y e = absurd (let no : 118 ≡ 102 = ap tenth e in omega (arith, no))
op_then (Vbr m) (Vbr n) fa fb x y e = (let parts = number_of_op (codes "{\"kind\":\"vbr\",\"width\":") m n fa fb x y e in (ap Vbr parts.0, parts.1))
op_then (Vbr m) Array fa fb x y e = absurd (let no : 118 ≡ 97 = ap tenth e in omega (arith, no))
op_then (Vbr m) Char6 fa fb x y e = absurd (let no : 118 ≡ 99 = ap tenth e in omega (arith, no))
op_then (Vbr m) Blob fa fb x y e = absurd (let no : 118 ≡ 98 = ap tenth e in omega (arith, no))
op_then Array (Literal n) fa fb x y e = absurd (let no : 97 ≡ 108 = ap tenth e in omega (arith, no))
op_then Array (Fixed n) fa fb x y e = absurd (let no : 97 ≡ 102 = ap tenth e in omega (arith, no))
op_then Array (Vbr n) fa fb x y e = absurd (let no : 97 ≡ 118 = ap tenth e in omega (arith, no))
op_then Array Array fa fb x y e = (refl, append_cancel_left (op_json Array) x y e)
op_then Array Char6 fa fb x y e = absurd (let no : 97 ≡ 99 = ap tenth e in omega (arith, no))
op_then Array Blob fa fb x y e = absurd (let no : 97 ≡ 98 = ap tenth e in omega (arith, no))
op_then Char6 (Literal n) fa fb x y e = absurd (let no : 99 ≡ 108 = ap tenth e in omega (arith, no))
op_then Char6 (Fixed n) fa fb x y e = absurd (let no : 99 ≡ 102 = ap tenth e in omega (arith, no))
op_then Char6 (Vbr n) fa fb x y e = absurd (let no : 99 ≡ 118 = ap tenth e in omega (arith, no))
op_then Char6 Array fa fb x y e = absurd (let no : 99 ≡ 97 = ap tenth e in omega (arith, no))
op_then Char6 Char6 fa fb x y e = (refl, append_cancel_left (op_json Char6) x y e)
op_then Char6 Blob fa fb x y e = absurd (let no : 99 ≡ 98 = ap tenth e in omega (arith, no))
op_then Blob (Literal n) fa fb x y e = absurd (let no : 98 ≡ 108 = ap tenth e in omega (arith, no))
op_then Blob (Fixed n) fa fb x y e = absurd (let no : 98 ≡ 102 = ap tenth e in omega (arith, no))
op_then Blob (Vbr n) fa fb x y e = absurd (let no : 98 ≡ 118 = ap tenth e in omega (arith, no))
op_then Blob Array fa fb x y e = absurd (let no : 98 ≡ 97 = ap tenth e in omega (arith, no))
op_then Blob Char6 fa fb x y e = absurd (let no : 98 ≡ 99 = ap tenth e in omega (arith, no))
op_then Blob Blob fa fb x y e = (refl, append_cancel_left (op_json Blob) x y e)

-- ---- lists

abbrev close : List ℕ
close = codes "]}\n"

abbrev later_items : {A : Type 0} → (A → List ℕ) → List A → List ℕ
later_items text xs = flat_map (λ x. codes "," ++ text x) xs

items_stop : (xs : List ℕ) → stops (later_items number_json xs ++ close) ≡ true
items_stop [] = refl
items_stop (x ∷ xs) = refl

numbers_later : (xs ys : List ℕ) → AllByRecursion (λ x. x < 2 ^ 64) xs → AllByRecursion (λ y. y < 2 ^ 64) ys → later_items number_json xs ++ close ≡ later_items number_json ys ++ close → xs ≡ ys
numbers_later [] [] fa fb e = refl
numbers_later [] (y ∷ ys) fa fb e = absurd (let no : 93 ≡ 44 = ap head e in omega (arith, no))
numbers_later (x ∷ xs) [] fa fb e = absurd (let no : 44 ≡ 93 = ap head e in omega (arith, no))
numbers_later (x ∷ xs) (y ∷ ys) fa fb e =
    let parts = number_then x y fa.0 fb.0 (later_items number_json xs ++ close) (later_items number_json ys ++ close) (items_stop xs) (items_stop ys) (sym (append_assoc (number_json x) (later_items number_json xs) close) ∙ ap tail e ∙ append_assoc (number_json y) (later_items number_json ys) close) in
    ap (λ (k : ℕ). k ∷ xs) parts.0 ∙ ap (λ (l : List ℕ). y ∷ l) (numbers_later xs ys fa.1 fb.1 parts.1)

numbers_then : (xs ys : List ℕ) → length xs ≡ length ys → AllByRecursion (λ x. x < 2 ^ 64) xs → AllByRecursion (λ y. y < 2 ^ 64) ys → joined number_json xs ++ close ≡ joined number_json ys ++ close → xs ≡ ys
numbers_then [] [] n fa fb e = refl
numbers_then [] (y ∷ ys) n fa fb e = absurd (omega (arith, n))
numbers_then (x ∷ xs) [] n fa fb e = absurd (omega (arith, n))
numbers_then (x ∷ xs) (y ∷ ys) n fa fb e = numbers_later (x ∷ xs) (y ∷ ys) fa fb (ap (λ (l : List ℕ). 44 ∷ l) (ap (λ (l : List ℕ). (number_json x ++ l) ++ close) (sym (joined_later number_json 0 xs)) ∙ e ∙ ap (λ (l : List ℕ). (number_json y ++ l) ++ close) (joined_later number_json 0 ys)))

ops_later : (xs ys : List Op) → AllByRecursion (OpFits (2 ^ 64)) xs → AllByRecursion (OpFits (2 ^ 64)) ys → later_items op_json xs ++ close ≡ later_items op_json ys ++ close → xs ≡ ys
ops_later [] [] fa fb e = refl
ops_later [] (y ∷ ys) fa fb e = absurd (let no : 93 ≡ 44 = ap head e in omega (arith, no))
ops_later (x ∷ xs) [] fa fb e = absurd (let no : 44 ≡ 93 = ap head e in omega (arith, no))
ops_later (x ∷ xs) (y ∷ ys) fa fb e =
    let parts = op_then x y fa.0 fb.0 (later_items op_json xs ++ close) (later_items op_json ys ++ close) (sym (append_assoc (op_json x) (later_items op_json xs) close) ∙ ap tail e ∙ append_assoc (op_json y) (later_items op_json ys) close) in
    ap (λ (k : Op). k ∷ xs) parts.0 ∙ ap (λ (l : List Op). y ∷ l) (ops_later xs ys fa.1 fb.1 parts.1)

op_begins : (op : Op) (rest : List ℕ) → head (op_json op ++ rest) ≡ 123
op_begins (Literal number) rest = refl
op_begins (Fixed number) rest = refl
op_begins (Vbr number) rest = refl
op_begins Array rest = refl
op_begins Char6 rest = refl
op_begins Blob rest = refl

ops_begin : (x : Op) (xs : List Op) → head (joined op_json (x ∷ xs) ++ close) ≡ 123
ops_begin x xs = ap head (append_assoc (op_json x) (joined_from op_json 1 xs) close) ∙ op_begins x (joined_from op_json 1 xs ++ close)

ops_then : (xs ys : List Op) → AllByRecursion (OpFits (2 ^ 64)) xs → AllByRecursion (OpFits (2 ^ 64)) ys → joined op_json xs ++ close ≡ joined op_json ys ++ close → xs ≡ ys
ops_then [] [] fa fb e = refl
ops_then [] (y ∷ ys) fa fb e = absurd (let no : 93 ≡ 123 = ap head e ∙ ops_begin y ys in omega (arith, no))
ops_then (x ∷ xs) [] fa fb e = absurd (let no : 123 ≡ 93 = sym (ops_begin x xs) ∙ ap head e in omega (arith, no))
ops_then (x ∷ xs) (y ∷ ys) fa fb e = ops_later (x ∷ xs) (y ∷ ys) fa fb (ap (λ (l : List ℕ). 44 ∷ l) (ap (λ (l : List ℕ). (op_json x ++ l) ++ close) (sym (joined_later op_json 0 xs)) ∙ e ∙ ap (λ (l : List ℕ). (op_json y ++ l) ++ close) (joined_later op_json 0 ys)))

-- ---- events

list_apart : (front key list : List ℕ) → (front ++ (codes ",\"" ++ key ++ codes "\":[")) ++ (list ++ codes "]}\n") ≡ front ++ ((codes ",\"" ++ key ++ codes "\":[") ++ (list ++ close))
list_apart front key list = append_assoc front (codes ",\"" ++ key ++ codes "\":[") (list ++ close)

line_apart : (front : List ℕ) → (front ++ codes "}") ++ codes "\n" ≡ front ++ codes "}\n"
line_apart front = append_assoc front (codes "}") (codes "\n")

plain_line : (kind : List ℕ) (pairs : List Pair) → AllByRecursion PairFits pairs → object_line kind (firsts pairs) ≡ object_line kind (seconds pairs) → AllByRecursion (λ (pair : Pair). pair.1 ≡ pair.2) pairs
plain_line kind pairs fits e = (fronts_then (codes "{\"kind\":\"" ++ kind ++ codes "\"") pairs fits (codes "}\n") (codes "}\n") refl refl (sym (line_apart (object_front kind (firsts pairs))) ∙ e ∙ line_apart (object_front kind (seconds pairs)))).0

line_with_list : (kind key : List ℕ) (pairs : List Pair) → AllByRecursion PairFits pairs → (xs ys : List ℕ) → list_line kind (firsts pairs) key xs ≡ list_line kind (seconds pairs) key ys → AllByRecursion (λ (pair : Pair). pair.1 ≡ pair.2) pairs × (xs ++ close ≡ ys ++ close)
line_with_list kind key pairs fits xs ys e =
    let before = codes ",\"" ++ key ++ codes "\":[" in
    let parts = fronts_then (codes "{\"kind\":\"" ++ kind ++ codes "\"") pairs fits (before ++ (xs ++ close)) (before ++ (ys ++ close)) refl refl (sym (list_apart (object_front kind (firsts pairs)) key xs) ∙ e ∙ list_apart (object_front kind (seconds pairs)) key ys) in
    (parts.0, append_cancel_left before (xs ++ close) (ys ++ close) parts.1)

block_same : (id id' width width' first first' body body' : ℕ) → id ≡ id' → width ≡ width' → first ≡ first' → body ≡ body' → ◌≡◌ {A = Event} (enters (record { id = id; width = width; first = first; body = body })) (enters (record { id = id'; width = width'; first = first'; body = body' }))
block_same id id' width width' first first' body body' a b c d = rw (a, b, c, d) refl

definition_same : (ops ops' : List Op) (first first' : ℕ) → ops ≡ ops' → first ≡ first' → ◌≡◌ {A = Event} (defines (record { ops = ops; first = first; after = 0 })) (defines (record { ops = ops'; first = first'; after = 0 }))
definition_same ops ops' first first' a b = rw (a, b) refl

record_same : (abbreviation abbreviation' code code' : ℕ) (values values' : List ℕ) (first first' : ℕ) → abbreviation ≡ abbreviation' → code ≡ code' → values ≡ values' → first ≡ first' → ◌≡◌ {A = Event} (notes (record { abbreviation = abbreviation; code = code; values = values; first = first; after = 0 })) (notes (record { abbreviation = abbreviation'; code = code'; values = values'; first = first'; after = 0 }))
record_same abbreviation abbreviation' code code' values values' first first' a b c d = rw (a, b, c, d) refl

pub event_told : (around other : ℕ) (a b : Event) → around < 2 ^ 64 → other < 2 ^ 64 → EventFits (2 ^ 64) a → EventFits (2 ^ 64) b → event_json Shown around a ≡ event_json Shown other b → line_tells a ≡ line_tells b
event_told around other (enters o) (enters p) ha hb fa fb e =
    let parts = plain_line (codes "block") ((codes "bit", o.first, p.first) ∷ (codes "depth", around, other) ∷ (codes "id", o.id, p.id) ∷ (codes "width", o.width, p.width) ∷ (codes "body", o.body, p.body) ∷ []) ((fa.0, fb.0), ((ha, hb), ((fa.1, fb.1), ((fa.2, fb.2), ((fa.3, fb.3), tt))))) e in
    block_same o.id p.id o.width p.width o.first p.first o.body p.body parts.1.1.0 parts.1.1.1.0 parts.0 parts.1.1.1.1.0
event_told around other (defines mark) (defines other_mark) ha hb fa fb e =
    let parts = line_with_list (codes "define") (codes "operands") ((codes "bit", mark.first, other_mark.first) ∷ (codes "depth", around, other) ∷ []) ((fa.0, fb.0), ((ha, hb), tt)) (joined op_json mark.ops) (joined op_json other_mark.ops) e in
    definition_same mark.ops other_mark.ops mark.first other_mark.first (ops_then mark.ops other_mark.ops fa.1 fb.1 parts.1) parts.0.0
event_told around other (notes mark) (notes other_mark) ha hb fa fb e =
    let parts = line_with_list (codes "record") (codes "values") ((codes "bit", mark.first, other_mark.first) ∷ (codes "depth", around, other) ∷ (codes "code", mark.code, other_mark.code) ∷ (codes "abbreviation", mark.abbreviation, other_mark.abbreviation) ∷ (codes "count", length mark.values, length other_mark.values) ∷ []) ((fa.0, fb.0), ((ha, hb), ((fa.1, fb.1), ((fa.2, fb.2), ((fa.3, fb.3), tt))))) (joined number_json mark.values) (joined number_json other_mark.values) e in
    let values = numbers_then mark.values other_mark.values parts.0.1.1.1.1.0 fa.4 fb.4 parts.1 in
    record_same mark.abbreviation other_mark.abbreviation mark.code other_mark.code mark.values other_mark.values mark.first other_mark.first parts.0.1.1.1.0 parts.0.1.1.0 values parts.0.0
event_told around other (leaves after) (leaves later) ha hb fa fb e =
    let parts = plain_line (codes "end") ((codes "bit", after, later) ∷ (codes "depth", around - 1, other - 1) ∷ []) ((fa, fb), ((omega (arith, ha), omega (arith, hb)), tt)) e in
    ap leaves parts.0
event_told around other (enters o) (defines other_mark) ha hb fa fb e = absurd (let no : 98 ≡ 100 = ap tenth e in omega (arith, no))
event_told around other (enters o) (notes other_mark) ha hb fa fb e = absurd (let no : 98 ≡ 114 = ap tenth e in omega (arith, no))
event_told around other (enters o) (leaves later) ha hb fa fb e = absurd (let no : 98 ≡ 101 = ap tenth e in omega (arith, no))
event_told around other (defines mark) (enters p) ha hb fa fb e = absurd (let no : 100 ≡ 98 = ap tenth e in omega (arith, no))
event_told around other (defines mark) (notes other_mark) ha hb fa fb e = absurd (let no : 100 ≡ 114 = ap tenth e in omega (arith, no))
event_told around other (defines mark) (leaves later) ha hb fa fb e = absurd (let no : 100 ≡ 101 = ap tenth e in omega (arith, no))
event_told around other (notes mark) (enters p) ha hb fa fb e = absurd (let no : 114 ≡ 98 = ap tenth e in omega (arith, no))
event_told around other (notes mark) (defines other_mark) ha hb fa fb e = absurd (let no : 114 ≡ 100 = ap tenth e in omega (arith, no))
event_told around other (notes mark) (leaves later) ha hb fa fb e = absurd (let no : 114 ≡ 101 = ap tenth e in omega (arith, no))
event_told around other (leaves after) (enters p) ha hb fa fb e = absurd (let no : 101 ≡ 98 = ap tenth e in omega (arith, no))
event_told around other (leaves after) (defines other_mark) ha hb fa fb e = absurd (let no : 101 ≡ 100 = ap tenth e in omega (arith, no))
event_told around other (leaves after) (notes other_mark) ha hb fa fb e = absurd (let no : 101 ≡ 114 = ap tenth e in omega (arith, no))
