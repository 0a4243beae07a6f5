-- How lawful operands are laid out.
use Rattle.std.proofs.Common.{◌≡◌, ◌≢◌, ℕ, zero, suc, ◌+◌, ◌<◌, ◌≤◌, true, List, [], ◌∷◌, ◌++◌, length, take, drop, refl, sym, ap, subst, ◌∙◌, arith}
use Rattle.std.specs.List.{AllByRecursion}
use Rattle.std.proofs.lemmas.List.{drop_all, take-append-drop}
use Rattle.bit_grammar.specs.declared.op.Op.{Op}
use Rattle.bit_grammar.specs.declared.op.Op.TheVariants.{Literal, Fixed, Vbr, Array, Char6, Blob}
use Rattle.bit_grammar.specs.Definition.{has_shape}
use Rattle.bit_grammar.specs.FormatDefinition.{op_at, Definable, HasLawfulValue, IsElement}
use Rattle.bit_grammar.specs.Record.{singles}
use Rattle.bit_abbrev.specs.Operands.{HasTail, others_of}
use Rattle.bit_abbrev.specs.declared.tail.Tail.TheVariants as tail
use Rattle.bit_abbrev.specs.declared.layout.Layout.TheVariants as layout
use Rattle.bit_abbrev.specs.Layouts.{IsSingle, AreSingles, HasLayout}
use Rattle.bit_abbrev.proofs.Records.{in_parts, others_in_order, front_single, array_behind}
use Rattle.bit_abbrev.proofs.Shapes.{lawful_of}

-- each operand has a lawful value, and each number has chunks
pub record Plain (ops : List Op) : Type 0 where
  pub values : AllByRecursion HasLawfulValue ops
  pub chunks : (i : ℕ) → i < length ops → op_at ops i ≢ Vbr 0

plain_rest : (op : Op) (ops : List Op) → Plain (op ∷ ops) → Plain ops
plain_rest op ops p = record { values = p.values.1; chunks = λ i lt. p.chunks (suc i) (omega (arith, lt)) }

plain_behind : (n : ℕ) (ops : List Op) → Plain ops → Plain (drop n ops)
plain_behind zero ops p = p
plain_behind (suc n) [] p = p
plain_behind (suc n) (op ∷ ops) p = plain_behind n ops (plain_rest op ops p)

chunked : (width : ℕ) → (width ≤ 32) × (width ≢ 1) → Vbr width ≢ Vbr 0 → (2 ≤ width) × (width ≤ 32)
chunked zero lawful some = absurd (some refl)
chunked (suc zero) lawful some = absurd (lawful.1 refl)
chunked (suc (suc n)) lawful some = (omega arith, lawful.0)

-- the first of some operands that is no array and no blob
first_single : (op : Op) (ops : List Op) → Plain (op ∷ ops) → op ≢ Array → op ≢ Blob → IsSingle op
first_single (Literal v) ops p array blob = tt
first_single (Fixed w) ops p array blob = p.values.0
first_single (Vbr w) ops p array blob = chunked w p.values.0 (p.chunks 0 (omega arith))
first_single Char6 ops p array blob = tt
first_single Array ops p array blob = absurd (array refl)
first_single Blob ops p array blob = absurd (blob refl)

all_single : (ops : List Op) → Plain ops → singles ops ≡ length ops → AreSingles ops
all_single [] p all = tt
all_single (Literal v ∷ ops) p all = (tt, all_single ops (plain_rest (Literal v) ops p) (omega (arith, all)))
all_single (Fixed w ∷ ops) p all = (p.values.0, all_single ops (plain_rest (Fixed w) ops p) (omega (arith, all)))
all_single (Vbr w ∷ ops) p all = (chunked w p.values.0 (p.chunks 0 (omega arith)), all_single ops (plain_rest (Vbr w) ops p) (omega (arith, all)))
all_single (Char6 ∷ ops) p all = (tt, all_single ops (plain_rest Char6 ops p) (omega (arith, all)))
all_single (Array ∷ ops) p all = absurd (omega (arith, all))
all_single (Blob ∷ ops) p all = absurd (omega (arith, all))

front_chunks : (n : ℕ) (op : Op) (ops : List Op) → Plain (op ∷ ops) → Plain (take n ops) → (i : ℕ) → i < length (op ∷ take n ops) → op_at (op ∷ take n ops) i ≢ Vbr 0
front_chunks n op ops p rest zero lt = p.chunks zero (omega arith)
front_chunks n op ops p rest (suc i) lt = rest.chunks i (omega (arith, lt))

plain_front : (n : ℕ) (ops : List Op) → Plain ops → Plain (take n ops)
plain_front zero ops p = record { values = tt; chunks = λ i lt. absurd (omega (arith, lt)) }
plain_front (suc n) [] p = p
plain_front (suc n) (op ∷ ops) p =
    let rest = plain_front n ops (plain_rest op ops p) in
    record { values = (p.values.0, rest.values); chunks = front_chunks n op ops p rest }

front_plain : (n : ℕ) (ops : List Op) → Plain ops → singles (take n ops) ≡ length (take n ops) → AreSingles (take n ops)
front_plain n ops p all = all_single (take n ops) (plain_front n ops p) all

element_single : (op : Op) (ops : List Op) → Plain (op ∷ ops) → IsElement op → IsSingle op
element_single (Literal v) ops p is = absurd is
element_single (Fixed w) ops p is = p.values.0
element_single (Vbr w) ops p is = chunked w p.values.0 (p.chunks 0 (omega arith))
element_single Char6 ops p is = tt
element_single Array ops p is = absurd is
element_single Blob ops p is = absurd is

pub singles_laid : (ops : List Op) (code : ℕ) → Definable ops → ((i : ℕ) → i < length ops → op_at ops i ≢ Vbr 0) → true ≡ has_shape ops → length ops ≤ 32 → op_at ops 0 ≡ Literal code → HasTail ops tail.Nothing → HasLayout ops layout.Singles
singles_laid ops code definable chunks shape short is counted =
    let parts : ops ≡ op_at ops 0 ∷ others_of ops = in_parts ops definable.some in
    let p : Plain (op_at ops 0 ∷ others_of ops) = subst Plain parts (record { values = definable.values; chunks = chunks }) in
    (sym shape, short, code, others_of ops, parts ∙ ap (λ (op : Op). op ∷ others_of ops) is, all_single (others_of ops) (plain_rest (op_at ops 0) (others_of ops) p) (omega (arith, ap length parts, counted)))

pub coded_laid : (ops : List Op) → Definable ops → ((i : ℕ) → i < length ops → op_at ops i ≢ Vbr 0) → true ≡ has_shape ops → length ops ≤ 32 → HasTail ops tail.Nothing → HasLayout ops layout.Coded
coded_laid ops definable chunks shape short counted =
    let parts : ops ≡ op_at ops 0 ∷ others_of ops = in_parts ops definable.some in
    let p : Plain (op_at ops 0 ∷ others_of ops) = subst Plain parts (record { values = definable.values; chunks = chunks }) in
    let order = (lawful_of ops definable (sym shape)).order in
    (sym shape, short, op_at ops 0, others_of ops, parts, first_single (op_at ops 0) (others_of ops) p order.first.0 order.first.1, all_single (others_of ops) (plain_rest (op_at ops 0) (others_of ops) p) (omega (arith, ap length parts, counted)))

pub list_laid : (ops : List Op) → Definable ops → ((i : ℕ) → i < length ops → op_at ops i ≢ Vbr 0) → true ≡ has_shape ops → length ops ≤ 32 → HasTail ops tail.Array → HasLayout ops layout.List
list_laid ops definable chunks shape short counted =
    let parts : ops ≡ op_at ops 0 ∷ others_of ops = in_parts ops definable.some in
    let others = others_of ops in
    let p : Plain (op_at ops 0 ∷ others) = subst Plain parts (record { values = definable.values; chunks = chunks }) in
    let later = plain_rest (op_at ops 0) others p in
    let lawful = lawful_of ops definable (sym shape) in
    let ordered = others_in_order ops definable.some lawful in
    let many : length others ≡ singles others + 2 = omega (arith, ap length parts, counted) in
    let behind = array_behind others ordered (omega (arith, many)) in
    let element = op_at others (singles others + 1) in
    let none : drop (singles others + 1 + 1) others ≡ [] = drop_all (singles others + 1 + 1) others (omega (arith, many)) in
    let ends : drop (singles others) others ≡ Array ∷ element ∷ [] = behind.0 ∙ ap (λ (rest : List Op). Array ∷ element ∷ rest) none in
    let ends_plain : Plain (Array ∷ element ∷ []) = subst Plain ends (plain_behind (singles others) others later) in
    let whole = sym (take-append-drop (singles others) others) ∙ ap (λ (rest : List Op). take (singles others) others ++ rest) ends in (
      sym shape,
      short,
      op_at ops 0,
      take (singles others) others,
      element,
      parts ∙ ap (λ (rest : List Op). op_at ops 0 ∷ rest) whole,
      first_single (op_at ops 0) others p lawful.order.first.0 lawful.order.first.1,
      front_plain (singles others) others later (front_single others),
      element_single element [] (plain_rest Array (element ∷ []) ends_plain) behind.1,
    )
